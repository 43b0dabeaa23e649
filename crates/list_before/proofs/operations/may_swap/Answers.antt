use Prim.Native.Nat.{ℕ}
use mathlib.Core.Path.{ap, ap₂, ◌∙◌}
use mathlib.Core.Bool.{◌&&◌}
use lib.ListN.{get_or}
use Rattle.machine_pws.specs.declared.Message.{Message}
use Rattle.machine_pws.specs.Machine.{labelled}
use Rattle.list_theory.specs.Values.{alike}
use Rattle.list_before.proofs.operations.may_swap.Goals as goal

pub returns : goal.returns
returns c = λ w. c.both-2.ensures ∙ ap₂ ◌&&◌ c.queue_empty.ensures (c.both.ensures ∙ ap₂ ◌&&◌ (c.both-wrote.ensures ∙ ap₂ ◌&&◌ (c.carries.ensures ∙ ap (λ (m : Message). labelled m c.args.p c.args.v) (c.newest-message.ensures c.args.shape w)) (c.related.ensures ∙ ap (λ (y : ℕ). alike y c.args.x) (c.at_or.ensures ∙ ap (λ (m : Message). get_or m.snapshot c.args.v 0) (c.newest-message.ensures c.args.shape w)))) (c.both-alone.ensures ∙ ap₂ ◌&&◌ c.at_newest.ensures c.no_other.ensures))
