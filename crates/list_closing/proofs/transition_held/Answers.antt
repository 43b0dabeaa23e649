use mathlib.Core.Bool.{not}
use mathlib.Core.Path.{refl, ap, ◌∙◌}
use Rattle.file_again.specs.Again.{transition_of}
use Rattle.list_closing.proofs.TakeLaws.{state_differs, leads_there, leads_elsewhere}
use Rattle.list_closing.proofs.transition_held.Goals as goal

pub returns-then-not-leads_to : goal.returns-then-not-leads_to
returns-then-not-leads_to c = λ E l. ap not c.if-not-leads_to.true ∙ state_differs c.args.closing.now.code.now c.args.closing.now.listing.file.now c.args.closing.now.listing.offsets.now c.args.closing.now.listing.count c.args.closing.now.program c.args.entry.now.cube c.args.j (transition_of c.args.closing.now.code.now c.args.closing.now.program c.args.j) refl l (leads_elsewhere c.args.entry.now.cube.states (transition_of c.args.closing.now.code.now c.args.closing.now.program c.args.j) c.leads_to.ensures c.if-not-leads_to.true)

pub returns-else-not-leads_to : goal.returns-else-not-leads_to
returns-else-not-leads_to c = λ E l. c.before_held.ensures E c.args.j l c.transition_of.ensures (leads_there c.args.entry.now.cube.states c.transition_of.ensures c.leads_to.ensures c.if-not-leads_to.false)
