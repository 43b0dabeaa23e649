use Rattle.list_known.proofs.FamilyTable.{built_within}
use Rattle.list_known.proofs.families.built_within.Goals as goal

pub returns : goal.returns
returns c =
    built_within c.args.shape c.args.file.now c.args.at c.load_entry-entry.ensures c.if-entry-eq0.false c.if-entry-gt20.false
    c.states_match.ensures c.if-not-states_match.false c.queues_match.ensures c.if-not-queues_match.false c.newest_values-newest.ensures c.values_related.ensures
