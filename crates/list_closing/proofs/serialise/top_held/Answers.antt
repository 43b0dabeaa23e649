use mathlib.Core.Path.{◌∙◌}
use Rattle.list_theory.specs.Predecessors.{on_top}
use Rattle.list_closing.proofs.SerialiseLaws.{serialise_searched, top_there, own_top}
use Rattle.list_closing.proofs.serialise.top_held.Goals as goal

pub returns-then-repeats_value : goal.returns-then-repeats_value
returns-then-repeats_value c = λ Z d. let w = c.repeats_value.ensures c.if-repeats_value.true c.args.closing.now.program.shape Z.walkable.stepping.sound in c.if-repeats_value.true ∙ own_top _ _ _ _ _ _ _ _ _ Z w.0 w.1

pub returns-else-repeats_value : goal.returns-else-repeats_value
returns-else-repeats_value c = λ Z d. serialise_searched _ _ _ _ _ _ _ _ _ Z (on_top c.args.v) (top_there _ _ _ _ _ _ _ _ _ Z) d c.search.ensures
