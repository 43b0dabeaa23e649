use Prim.Native.Nat.{ℕ, min}
use mathlib.Core.Path.{ap, ◌∙◌}
use mathlib.Core.List.{List}
use lib.ListN.{get_or}
use lib.Dec.{eqb}
use Rattle.machine_pws.specs.Machine.{all_below}
use Rattle.list_summary.specs.Groups.{same_states}
use Rattle.list_summary.proofs.WalkLaws.{leads_yes}
use Rattle.list_summary.proofs.listing.Listing.leads.Goals as goal

pub returns-then-count_at-ne0 : goal.returns-then-count_at-ne0
unfolding same_states
returns-then-count_at-ne0 c = leads_yes _ _ _ (λ z. c.if-count_at-ne0.true (c.count_at.ensures.value ∙ z)) (c.states_match.ensures ∙ ap (λ (own : List ℕ). all_below (min c.args.self.now.shape.processes 4) (λ p. eqb (get_or own p 0) (get_or c.args.states p 0))) c.states.ensures)
