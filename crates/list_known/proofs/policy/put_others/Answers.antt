use mathlib.Core.Path.{sym, subst}
use native.Mathlib.Omega.{arith}
use borrow.Author.Rules.{rules}
use Rattle.list_targets.specs.Walk.{listed}
use Rattle.list_known.specs.FullStates.{Full}
use Rattle.list_known.proofs.GroupLaws.{full_groups}
use Rattle.list_known.proofs.policy.put_others.Goals as goal

pub returns-in-Some : goal.returns-in-Some
returns-in-Some c = (
  search rules,
  λ P e R S F.
      subst (Full P (listed c.args.listing.now)) (sym (c.put_groups.ensures S)) (full_groups P R c.args.listing.now c.in-Some.least e c.args.table.now F c.args.listing.now.count (omega arith)),
)
