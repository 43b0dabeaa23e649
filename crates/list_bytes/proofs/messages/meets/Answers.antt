use Rattle.list_bytes.proofs.PlacedLaws.{cue_values}
use Rattle.list_bytes.proofs.messages.meets.Goals as goal

pub returns : goal.returns
returns c = λ m tag K. cue_values c.args.exact c.args.file.now c.args.k m K c.word-label.ensures.word c.word-rest.ensures.word c.if-label-other.false c.bytes_of.ensures c.values_related.ensures
