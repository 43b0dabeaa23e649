use mathlib.Core.Path.{sym, ◌∙◌}
use mathlib.Core.Bool.{not, ◌||◌}
use lib.ListN.{get_or}
use lib.Dec.{eqb}
use native.Mathlib.Omega.{arith}
use borrow.Author.Rules.{rules}
use Rattle.list_before.proofs.UpdateLaws.{none_at}
use Rattle.list_before.proofs.update.points_alone.Goals as goal

pub returns : goal.returns
returns c = λ e q l n d. none_at c.args.pointers c.at_or-z.result c.args.p c.min.result (sym (c.all_below.ensures (λ q. eqb q c.args.p || not (eqb (get_or c.args.pointers q 0) c.at_or-z.result)) (λ q r k t. search rules)) ∙ e) q (omega arith) n (d ∙ sym c.at_or-z.ensures)
