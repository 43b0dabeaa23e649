use mathlib.Core.Path.{sym, ◌∙◌}
use Rattle.list_cover.specs.Search.{by_entry}
use Rattle.list_cover.proofs.SearchLaws.{walked_next, walked_shorter}
use Rattle.list_cover.proofs.search.covers_alone.Goals as goal

pub returns-then-matches_at-clause-covered : goal.returns-then-matches_at-clause-covered
returns-then-matches_at-clause-covered c = λ e A. by_entry c.in-Some.i (c.next.ensures.onward.exists c.in-Some.i c.in-Some.is) (sym (c.matches_at.ensures A) ∙ c.if-matches_at.true)

pub loop-i-smaller : goal.loop-i-smaller
loop-i-smaller c = walked_shorter c.args.listing.now.file.now c.args.listing.now.offsets.now c.args.listing.now.summary.now c.args.listing.now.count c.args.listing.now.shape c.args.cube.states c.args.number c.loop-i.invariant c.next.ensures.onward c.in-Some.is

pub loop-i-preserved : goal.loop-i-preserved
loop-i-preserved c = walked_next c.args.listing.now.file.now c.args.listing.now.offsets.now c.args.listing.now.summary.now c.args.listing.now.count c.args.listing.now.shape c.args.cube.states c.args.number c.loop-i.invariant c.next.ensures.onward c.in-Some.is c.next.ensures.same (λ A. sym (c.matches_at.ensures A) ∙ c.if-matches_at.false)
