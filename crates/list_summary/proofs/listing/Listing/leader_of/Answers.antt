use mathlib.Core.Path.{sym, ◌∙◌}
use Rattle.list_summary.proofs.WalkLaws.{no_entry, one_entry, walking_begin, walking_end, walking_past, walking_found, walking_on}
use Rattle.list_summary.proofs.listing.Listing.leader_of.Goals as goal

pub loop-i-init : goal.loop-i-init
loop-i-init c = walking_begin _ _ _ _ _ _ c.states_number.ensures c.first_link-link.ensures

pub returns-then-leads-clause-value : goal.returns-then-leads-clause-value
returns-then-leads-clause-value c = walking_found _ _ _ _ _ _ c.loop-i.invariant (one_entry _ _ (sym c.entry_in.ensures ∙ c.in-Some.is)) c.if-below-i.false c.leads.ensures c.if-leads.true

pub loop-i-preserved : goal.loop-i-preserved
loop-i-preserved c = walking_on _ _ _ _ _ _ c.loop-i.invariant (one_entry _ _ (sym c.entry_in.ensures ∙ c.in-Some.is)) c.if-below-i.false c.leads.ensures c.if-leads.false c.next_link-link.ensures

pub returns-then-below-i-clause-value : goal.returns-then-below-i-clause-value
returns-then-below-i-clause-value c = walking_past _ _ _ _ _ _ c.loop-i.invariant (one_entry _ _ (sym c.entry_in.ensures ∙ c.in-Some.is)) c.if-below-i.true

pub returns-in_default-clause-value : goal.returns-in_default-clause-value
returns-in_default-clause-value c = walking_end _ _ _ _ _ _ c.loop-i.invariant (no_entry _ (sym c.entry_in.ensures ∙ c.in_default.is))
