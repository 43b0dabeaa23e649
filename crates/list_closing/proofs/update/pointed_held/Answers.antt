use Prim.Native.Nat.{◌/◌, ◌%◌}
use Rattle.list_theory.specs.Predecessors.{pointed}
use Rattle.list_closing.proofs.UpdateLaws.{update_searched}
use Rattle.list_closing.proofs.update.pointed_held.Goals as goal

pub returns : goal.returns
returns c = λ E l k. update_searched _ _ _ _ _ _ _ E.walkable c.args.p l (pointed (c.args.i / 4) (c.args.i % 4)) k (c.before_update_pointed.ensures E.walkable.stepping.sound l) c.search.ensures
