use Prim.Native.Nat.{ℕ, ◌+◌, ◌*◌}
use mathlib.Core.Path.{sym, ap, ◌∙◌}
use mathlib.Core.Bool.{◌&&◌}
use mathlib.Core.List.{List}
use native.Mathlib.Omega.{arith}
use lib.Dec.{leb}
use Rattle.register_machine.specs.declared.RegisterTransition.{RegisterTransition}
use Rattle.register_machine.specs.Program.{some_uses}
use Rattle.register_program.proofs.Joined.{table_all}
use Rattle.register_program.proofs.Found.{found_read}
use Rattle.register_program.proofs.HasLaws.{transitions_at, test_own, test_other, uses_here, uses_not, uses_done}
use Rattle.register_program.proofs.has.has_register.Goals as goal
use Rattle.register_program.proofs.has.has_register.Goals.{else-from-p-via-then-from-p+else-uses, else-from-p-via-else-from-p}

pub loop-i-init : goal.loop-i-init
loop-i-init c = let a = c.args in (omega arith, ap (λ (ts : List RegisterTransition). some_uses ts a.p) (table_all (transitions_at a.file.now a.program.transitions.at) a.program.transitions.count))

pub overflow_mul-k : goal.overflow_mul-k
overflow_mul-k c = let R = found_read c.requires in omega (arith, R.transitions.1, c.loop-i-test.true)

pub overflow_add-k : goal.overflow_add-k
overflow_add-k c = let R = found_read c.requires in omega (arith, R.transitions.0, R.transitions.1, c.loop-i-test.true)

pub returns-then-uses : goal.returns-then-uses
returns-then-uses c =
    let a = c.args in
    let k = a.program.transitions.at + 8 * c.loop-i.i in
    let T = test_own a.file.now a.program.transitions.at a.program.transitions.count c.loop-i.i a.p c.loop-i-test.true
    (sym (c.from.ensures ∙ c.field.ensures) ∙ c.if-from-p.true)
    (ap (λ (o : ℕ). leb 6 o && leb o 8) (sym c.field-then-from-p.ensures) ∙ sym c.uses.ensures ∙ c.if-uses.true)
    in
    sym (uses_here a.file.now a.program.transitions.at a.program.transitions.count c.loop-i.i a.p c.loop-i-test.true T) ∙ c.loop-i.invariant.1

pub loop-i-preserved : goal.loop-i-preserved
loop-i-preserved c =
    let a = c.args in
    let l = c.loop-i-test.true in
    let not = uses_not a.file.now a.program.transitions.at a.program.transitions.count c.loop-i.i a.p l in
    elim c.else-from-p.branch [
      | else-from-p-via-then-from-p+else-uses w ↦
          let T = test_own a.file.now a.program.transitions.at a.program.transitions.count c.loop-i.i a.p l
          (sym (c.from.ensures ∙ c.field.ensures) ∙ w.if-from-p.true)
          (ap (λ (o : ℕ). leb 6 o && leb o 8) (sym w.field-then-from-p.ensures) ∙ sym w.uses.ensures ∙ w.if-uses.false)
          in
          (omega (arith, l), sym (not T) ∙ c.loop-i.invariant.1)
      | else-from-p-via-else-from-p w ↦
          let T = test_other a.file.now a.program.transitions.at a.program.transitions.count c.loop-i.i a.p l
          (λ e. w.if-from-p.false (c.from.ensures ∙ c.field.ensures ∙ e))
          in
          (omega (arith, l), sym (not T) ∙ c.loop-i.invariant.1)
    ]

pub returns : goal.returns
returns c = let a = c.args in
    sym (uses_done a.file.now a.program.transitions.at a.program.transitions.count c.loop-i.i a.p c.loop-i-test.false) ∙ c.loop-i.invariant.1
