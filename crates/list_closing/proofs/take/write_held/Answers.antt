use mathlib.Core.Path.{refl, sym, ◌∙◌}
use mathlib.Core.Bool.{true, false}
use Rattle.machine_pws.specs.declared.Operation.TheVariants.{Write}
use Rattle.list_theory.specs.Predecessors.{undone, waited}
use Rattle.list_closing.proofs.TakeLaws.{process_exists, operation_exists, take_searched, write_none, write_both}
use Rattle.list_closing.proofs.take.write_held.Goals as goal

pub returns-then-not-may_write : goal.returns-then-not-may_write
returns-then-not-may_write c = λ E j A. write_none _ _ _ _ _ _ _ E.walkable j _ _ _ _ A (sym c.may_write.ensures ∙ c.if-not-may_write.true)

pub returns-then-found : goal.returns-then-found
returns-then-found c = λ E j A. let z = sym c.may_write.ensures ∙ c.if-not-may_write.false in write_both _ _ _ _ _ _ _ E.walkable j _ _ _ _ A z true c.found-then-found.result (sym c.if-found.true ∙ take_searched _ _ _ _ _ _ _ E.walkable j _ _ (Write c.args.v c.args.x) A undone z (c.before_write-undone.ensures c.args.closing.now.program.shape c.args.x E.walkable.stepping.sound (process_exists _ _ _ _ _ _ _ E.walkable j _ _ (Write c.args.v c.args.x) A) (operation_exists _ _ _ _ _ _ _ E.walkable j _ _ (Write c.args.v c.args.x) A).0) (c.found.ensures E.families)) (take_searched _ _ _ _ _ _ _ E.walkable j _ _ (Write c.args.v c.args.x) A waited z (c.before_write_waited-waited.ensures c.args.closing.now.program.shape c.args.x E.walkable.stepping.sound (process_exists _ _ _ _ _ _ _ E.walkable j _ _ (Write c.args.v c.args.x) A) (operation_exists _ _ _ _ _ _ _ E.walkable j _ _ (Write c.args.v c.args.x) A).0) (c.found-then-found.ensures E.families))

pub returns-else-found : goal.returns-else-found
returns-else-found c = λ E j A. let z = sym c.may_write.ensures ∙ c.if-not-may_write.false in c.if-found.false ∙ write_both _ _ _ _ _ _ _ E.walkable j _ _ _ _ A z false _ (sym c.if-found.false ∙ take_searched _ _ _ _ _ _ _ E.walkable j _ _ (Write c.args.v c.args.x) A undone z (c.before_write-undone.ensures c.args.closing.now.program.shape c.args.x E.walkable.stepping.sound (process_exists _ _ _ _ _ _ _ E.walkable j _ _ (Write c.args.v c.args.x) A) (operation_exists _ _ _ _ _ _ _ E.walkable j _ _ (Write c.args.v c.args.x) A).0) (c.found.ensures E.families)) refl
