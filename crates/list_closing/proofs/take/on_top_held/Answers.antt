use Rattle.machine_pws.specs.declared.Operation.TheVariants.{Arw}
use Rattle.list_theory.specs.Predecessors.{on_top}
use Rattle.list_closing.proofs.TakeLaws.{process_exists, take_searched, top_has}
use Rattle.list_closing.proofs.take.on_top_held.Goals as goal

pub returns : goal.returns
returns c = λ E j x A z l. take_searched _ _ _ _ _ _ _ E.walkable j _ _ (Arw c.args.v c.args.old x) A (on_top c.args.u) (top_has _ _ _ _ _ _ _ E.walkable j _ _ _ _ x A z c.args.u l) (c.before_arw_on_top.ensures c.args.closing.now.program.shape x E.walkable.stepping.sound (process_exists _ _ _ _ _ _ _ E.walkable j _ _ (Arw c.args.v c.args.old x) A)) (c.found.ensures E.families)
