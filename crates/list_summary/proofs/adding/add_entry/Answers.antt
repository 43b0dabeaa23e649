use Rattle.list_summary.proofs.WalkLaws.{joined_first, joined_group}
use Rattle.list_summary.proofs.adding.add_entry.Goals as goal

pub returns-in-None : goal.returns-in-None
returns-in-None c = joined_first c.args.file.now c.args.upper.now c.args.shape c.args.at c.args.n c.split_at.ensures.front c.split_at.ensures.back c.place_of-place.ensures c.in-None.is c.join_first.ensures

pub returns-in-Some : goal.returns-in-Some
returns-in-Some c = joined_group c.args.file.now c.args.upper.now c.args.shape c.args.at c.args.n c.split_at.ensures.front c.split_at.ensures.back c.place_of-place.ensures c.in-Some.is c.join_group.ensures
