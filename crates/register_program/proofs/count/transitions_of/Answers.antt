use Prim.Native.Nat.{ℕ, ◌+◌, ◌*◌}
use mathlib.Core.Path.{◌≡◌, ap, ap₂, ◌∙◌}
use mathlib.Core.Bool.{Bool, false, ◌&&◌, not}
use native.Mathlib.Omega.{arith}
use lib.ListN.{length, get_or}
use lib.Dec.{eqb}
use Rattle.register_machine.specs.Written.{states_of}
use Rattle.register_program.proofs.Found.{found_read}
use Rattle.register_program.proofs.HasLaws.{transitions_at, expand}
use Rattle.register_program.proofs.CountLaws.{states_most, counting_begin, expansion, counting_step, counting_over, counting_end, said_over, said_count}
use Rattle.register_program.proofs.count.transitions_of.Goals as goal

pub loop-i-init : goal.loop-i-init
loop-i-init c = counting_begin _ _ _ _

pub overflow_mul-k : goal.overflow_mul-k
overflow_mul-k c = let R = found_read c.requires.0 in omega (arith, R.transitions.1, c.loop-i-test.true)

pub overflow_add-k : goal.overflow_add-k
overflow_add-k c = let R = found_read c.requires.0 in omega (arith, R.transitions.0, R.transitions.1, c.loop-i-test.true)

pub overflow_add-total : goal.overflow_add-total
overflow_add-total c =
    omega (
      arith,
      c.loop-i.invariant.few,
      c.expansions-total.ensures,
      states_most (c.at_or-has_register.result && not (eqb c.field-in-loop-i.result 8)) (states_of (eqb c.field-in-loop-i.result 6) 1),
      states_most (eqb c.field-in-loop-i.result 6) 1,
    )

pub returns-then-total-gt256 : goal.returns-then-total-gt256
returns-then-total-gt256 c =
    let f = c.args.file.now in
    let a = c.args in
    let x = c.expansions-total.result in
    let e : x ≡ length (expand a.has (transitions_at f a.program.transitions.at c.loop-i.i)) =
    c.expansions-total.ensures
    ∙ ap₂ (λ (b : Bool) (o : ℕ). states_of (b && not (eqb o 8)) (states_of (eqb o 6) 1)) (c.at_or-has_register.ensures ∙ ap (λ (q : ℕ). get_or a.has q false) (c.from.ensures ∙ c.field.ensures)) c.field-in-loop-i.ensures
    ∙ expansion f a.has (a.program.transitions.at + 8 * c.loop-i.i)
    in
    let w = counting_over c.loop-i.invariant c.loop-i-test.true x e c.if-total-gt256.true in
    said_over c.requires.0 c.requires.1 c.loop-i.i w.0 w.1

pub loop-i-preserved : goal.loop-i-preserved
loop-i-preserved c =
    let f = c.args.file.now in
    let a = c.args in
    let x = c.expansions-total.result in
    let e : x ≡ length (expand a.has (transitions_at f a.program.transitions.at c.loop-i.i)) =
    c.expansions-total.ensures
    ∙ ap₂ (λ (b : Bool) (o : ℕ). states_of (b && not (eqb o 8)) (states_of (eqb o 6) 1)) (c.at_or-has_register.ensures ∙ ap (λ (q : ℕ). get_or a.has q false) (c.from.ensures ∙ c.field.ensures)) c.field-in-loop-i.ensures
    ∙ expansion f a.has (a.program.transitions.at + 8 * c.loop-i.i)
    in
    counting_step c.loop-i.invariant c.loop-i-test.true x e c.if-total-gt256.false

pub returns : goal.returns
returns c =
    let C = c.loop-i.invariant in
    said_count c.requires.0 c.requires.1 c.loop-i.total C.few (counting_end C c.loop-i-test.false)
