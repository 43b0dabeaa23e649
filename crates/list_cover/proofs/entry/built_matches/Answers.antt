use Rattle.list_cover.proofs.EntryLaws.{channel_decides}
use Rattle.list_cover.proofs.entry.built_matches.Goals as goal

pub returns : goal.returns
returns c = λ Z. channel_decides c.args.exact c.args.shape c.args.file.now c.args.at c.args.cube Z c.load_entry-entry.ensures c.queues_match.ensures c.if-not-queues_match.false c.tags_of-left.ensures c.tags_of-right.ensures c.channel_matches.ensures
