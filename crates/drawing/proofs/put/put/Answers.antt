use Rattle.drawing.proofs.PutLaws.{copied}
use Rattle.drawing.proofs.put.put.Goals as goal

pub returns : goal.returns
returns c = copied c.args.out.now c.args.at c.args.word.now c.copy_from_slice.new.self c.requires c.copy_from_slice.ensures.after
