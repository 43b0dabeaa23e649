use borrow.Author.Rules.{rules}
use Prim.Native.Nat.{◌<◌, ℕ}
use mathlib.Core.Path.{sym, ap, ◌∙◌}
use Rattle.machine_pws.specs.declared.Operation.TheVariants.{Arw}
use mathlib.Core.Bool.{Bool}
use Rattle.machine_pws.specs.Machine.{all_below}
use Rattle.list_theory.specs.Predecessors.{on_top}
use Rattle.list_theory.specs.Decision.{held}
use Rattle.file_records.specs.ProgramPart.{shape_of}
use Rattle.file_contents.specs.Cube.{configuration_of}
use Rattle.list_before.specs.Before.{take_before}
use Rattle.list_closing.specs.Closing.{entries_in}
use Rattle.list_closing.proofs.TakeLaws.{arw_none, undone_fails, arw_tops}
use native.Mathlib.Omega.{arith}
use Rattle.list_closing.proofs.take.arw_held.Goals as goal

pub returns-then-not-may_swap : goal.returns-then-not-may_swap
returns-then-not-may_swap c = λ E j A. arw_none _ _ _ _ _ _ _ E.walkable j _ _ _ _ _ A (sym (c.may_swap.ensures E.walkable.stepping.sound) ∙ c.if-not-may_swap.true)

pub returns-else-unswapped_held : goal.returns-else-unswapped_held
returns-else-unswapped_held c = λ E j A. let z = (sym (c.may_swap.ensures E.walkable.stepping.sound) ∙ c.if-not-may_swap.false) in c.if-unswapped_held.false ∙ undone_fails _ _ _ _ _ _ _ E.walkable j _ _ _ _ _ A z (sym (c.unswapped_held.ensures E j c.args.x A z) ∙ c.if-unswapped_held.false)

pub returns-then-unswapped_held : goal.returns-then-unswapped_held
returns-then-unswapped_held c = λ E j A. let tops : ℕ → Bool = (λ u. held (shape_of c.args.closing.now.program.shape) (entries_in c.args.closing.now) (take_before (configuration_of c.args.entry.now.cube) c.args.p c.args.from (Arw c.args.v c.args.old c.args.x) (on_top u))) in let z = (sym (c.may_swap.ensures E.walkable.stepping.sound) ∙ c.if-not-may_swap.false) in arw_tops _ _ _ _ _ _ _ E.walkable j _ _ _ _ _ A z (sym (c.unswapped_held.ensures E j c.args.x A z) ∙ c.if-unswapped_held.true) (c.all_below.ensures tops (λ u r l h. let b : u < c.args.closing.now.program.shape.variables = omega (arith, l, c.min.ensures) in search rules) ∙ ap (λ (n : ℕ). all_below n tops) c.min.ensures)
