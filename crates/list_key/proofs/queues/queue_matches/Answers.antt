use Prim.Native.Nat.{◌-◌, ◌<◌}
use mathlib.Core.Path.{◌≡◌, sym, ap₂, ◌∙◌}
use mathlib.Core.Bool.{Bool}
use native.Mathlib.Omega.{arith}
use lib.ListN.{length, get_or}
use borrow.Author.Tests.{eq-eqb, ne_eqb}
use Rattle.file_contents.specs.declared.entry.Queue.{Queue}
use Rattle.file_contents.specs.Cube.{waiting_of}
use Rattle.list_key.specs.Relation.{relation}
use Rattle.list_key.proofs.ValueLaws.{leftmost_match, leftmost_skip, leftmost_over, queue_matched, value_waits}
use Rattle.list_key.proofs.queues.queue_matches.Goals as goal
use Rattle.list_key.proofs.queues.queue_matches.Goals.{then-i-n+then-related, else-i-n, else-i-n-via-then-i-n+else-related, else-i-n-via-else-i-n}

-- what the test of values i and j says, of those that wait
tested : (exact : Bool) (a b : Queue) (i j : _) {r s : Bool} → i < length (waiting_of a) → j < length (waiting_of b)
    → r ≡ relation exact (get_or a.values i 0) (get_or b.values j 0) → r ≡ s → relation exact (get_or (waiting_of a) i 0) (get_or (waiting_of b) j 0) ≡ s
tested exact a b i j x y e f = sym (ap₂ (relation exact) (value_waits a i x) (value_waits b j y)) ∙ sym e ∙ f

pub loop-j-preserved : goal.loop-j-preserved
loop-j-preserved c =
    let m : c.loop-j.j < length (waiting_of c.args.b) = omega arith in
    elim c.if-i-n.branch [
      | then-i-n+then-related w ↦ let n : c.loop-j.i < length (waiting_of c.args.a) = omega arith in rw w.i-is (leftmost_match _ 0 _ _ c.loop-j.invariant n m (tested c.args.exact c.args.a c.args.b _ _ n m w.related.ensures w.if-related.true))
      | else-i-n w ↦ rw w.i-is (elim w.else-i-n.branch [
        | else-i-n-via-then-i-n+else-related v ↦ let n : c.loop-j.i < length (waiting_of c.args.a) = omega arith in leftmost_skip _ 0 _ _ c.loop-j.invariant n m (tested c.args.exact c.args.a c.args.b _ _ n m v.related.ensures v.if-related.false)
        | else-i-n-via-else-i-n v ↦ leftmost_over _ 0 _ _ c.loop-j.invariant (omega arith) m
      ])
    ]

pub returns-then-i-n-2 : goal.returns-then-i-n-2
returns-then-i-n-2 c =
    c.related-then-i-n-2.ensures ∙ ap₂ (relation c.args.exact) (value_waits c.args.a (c.waiting-n.result - 1) (omega arith)) (value_waits c.args.b (c.waiting-m.result - 1) (omega arith))
    ∙ queue_matched (relation c.args.exact) (waiting_of c.args.a) (waiting_of c.args.b) _ _ _ _ c.waiting-n.ensures c.waiting-m.ensures c.if-n-eq0.false c.if-m-eq0.false c.loop-j.invariant (omega arith) (eq-eqb c.loop-j.i c.waiting-n.result c.if-i-n-2.true)

pub returns-else-i-n-2 : goal.returns-else-i-n-2
returns-else-i-n-2 c =
    let e = ne_eqb c.loop-j.i c.waiting-n.result c.if-i-n-2.false in
    e ∙ queue_matched (relation c.args.exact) (waiting_of c.args.a) (waiting_of c.args.b) _ _ _ _ c.waiting-n.ensures c.waiting-m.ensures c.if-n-eq0.false c.if-m-eq0.false c.loop-j.invariant (omega arith) e
