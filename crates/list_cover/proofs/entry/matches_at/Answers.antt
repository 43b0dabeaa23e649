use Rattle.list_cover.proofs.EntryLaws.{states_differ, rest_decides}
use Rattle.list_cover.proofs.entry.matches_at.Goals as goal

pub returns-then-not-states_match : goal.returns-then-not-states_match
returns-then-not-states_match c = λ A. states_differ c.args.exact c.args.listing.now.shape c.args.listing.now.file.now c.args.listing.now.offsets.now c.args.i c.offset_at-at.result c.args.cube c.args.cues.now A c.offset_at-at.ensures c.states_at-states.ensures c.states_match.ensures c.if-not-states_match.true

pub returns-in-Some : goal.returns-in-Some
returns-in-Some c = λ A. rest_decides c.args.exact c.args.listing.now.shape c.args.listing.now.file.now c.args.listing.now.offsets.now c.args.i c.offset_at-at.result c.args.cube c.args.cues.now A c.offset_at-at.ensures c.states_at-states.ensures c.states_match.ensures c.if-not-states_match.false (c.in-Some.ensures A)

pub returns : goal.returns
returns c = λ A. rest_decides c.args.exact c.args.listing.now.shape c.args.listing.now.file.now c.args.listing.now.offsets.now c.args.i c.offset_at-at.result c.args.cube c.args.cues.now A c.offset_at-at.ensures c.states_at-states.ensures c.states_match.ensures c.if-not-states_match.false (c.built_matches.ensures A.sized)
