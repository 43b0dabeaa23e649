use Prim.Native.Nat.{ℕ, ◌+◌, ◌<◌}
use mathlib.Core.Path.{sym, ap, ap₂, subst, ◌∙◌}
use mathlib.Core.Option.{Option, none, some}
use native.Mathlib.Omega.{arith}
use Rattle.std.proofs.Common.{rules}
use lib.ListN.{length}
use borrow.Author.Tests.{ne_eqb}
use Rattle.pattern_theory.specs.Within.{covers}
use Rattle.pattern_step.specs.Meaning.{word_of, end_of}
use Rattle.pattern_step.proofs.ClueLaws.{word_length, word_at}
use Rattle.pattern_step.proofs.Subsequences.{Placed, placed_match, placed_skip, placed_none, placed_short, placed_last}
use Rattle.pattern_step.proofs.clues.word_within.Goals.{then-goes_to, else-goes_to}
use Rattle.pattern_step.proofs.clues.word_within.Goals as goal

pub loop-j-preserved : goal.loop-j-preserved
loop-j-preserved c =
    let a : c.loop-j.i < length (word_of c.args.b) = omega (arith, word_length c.args.b (search rules)) in
    let b : c.loop-j.j < length (word_of c.args.a) = omega (arith, word_length c.args.a (search rules)) in
    let t = ap₂ covers (word_at c.args.b c.loop-j.i (search rules) a) (word_at c.args.a c.loop-j.j (search rules) b) ∙ sym c.goes_to.ensures.0 in
    elim c.if-goes_to.branch [
      | then-goes_to w ↦ subst (λ (i : ℕ). Placed covers none (word_of c.args.b) (word_of c.args.a) (end_of c.args.end) i (c.loop-j.j + 1)) (sym w.i-is)
          (placed_match covers none (word_of c.args.b) (word_of c.args.a) (end_of c.args.end) c.loop-j.invariant a b (t ∙ w.if-goes_to.true))
      | else-goes_to w ↦ subst (λ (i : ℕ). Placed covers none (word_of c.args.b) (word_of c.args.a) (end_of c.args.end) i (c.loop-j.j + 1)) (sym w.i-is)
          (placed_skip covers none (word_of c.args.b) (word_of c.args.a) (end_of c.args.end) c.loop-j.invariant a b (t ∙ w.if-goes_to.false))
    ]

pub returns-in_default : goal.returns-in_default
returns-in_default c =
    placed_none covers none (word_of c.args.b) (word_of c.args.a) (end_of c.args.end) c.loop-j.invariant (omega (arith, word_length c.args.a (search rules)))
    (omega (arith, word_length c.args.b (search rules))) (ap end_of c.in_default.is)

pub returns-then-i-m : goal.returns-then-i-m
returns-then-i-m c =
    let a : c.loop-j.i < length (word_of c.args.b) = omega (arith, word_length c.args.b (search rules)) in
    c.goes_to-then-i-m.ensures.1 ∙ ap (λ (x : Option ℕ). covers x (some c.in-Some.last)) (sym (word_at c.args.b c.loop-j.i (search rules) a))
    ∙ placed_last covers none (word_of c.args.b) (word_of c.args.a) (end_of c.args.end) c.loop-j.invariant (some c.in-Some.last) (omega (arith, word_length c.args.a (search rules)))
    (omega (arith, word_length c.args.b (search rules))) (ap end_of c.in-Some.is)

pub returns-else-i-m : goal.returns-else-i-m
returns-else-i-m c =
    ne_eqb (c.loop-j.i + 1) c.len-m.result c.if-i-m.false
    ∙ placed_short covers none (word_of c.args.b) (word_of c.args.a) (end_of c.args.end) c.loop-j.invariant (some c.in-Some.last) (omega (arith, word_length c.args.a (search rules)))
    (omega (arith, word_length c.args.b (search rules), c.if-i-m.false)) (ap end_of c.in-Some.is)
