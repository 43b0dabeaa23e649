use mathlib.Core.Path.{ap, ◌∙◌}
use Rattle.list_key.specs.Number.{stir, states_mixed}
use Rattle.list_key.proofs.number.states_number.Goals as goal

pub returns : goal.returns
unfolding states_mixed
returns c = c.stir.ensures ∙ ap stir c.packed_states.ensures
