use mathlib.Core.Path.{sym, ◌∙◌}
use lib.ListN.{get_or}
use borrow.Author.Rules.{rules}
use Rattle.machine_pws.specs.Machine.{no_message, labelled}
use Rattle.list_targets.proofs.ShapeLaws.{any_channel}
use Rattle.list_targets.proofs.is_seen.Goals as goal

pub returns : goal.returns
returns c =
    c.any_below.ensures (λ i. labelled (get_or c.args.messages i no_message) c.args.p c.args.v) (λ p r l x. search rules)
    ∙ sym (any_channel (λ m. labelled m c.args.p c.args.v) c.args.messages c.args.n)
