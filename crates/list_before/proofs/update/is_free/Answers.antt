use Rattle.file_records.specs.ProgramPart.{shape_of}
use borrow.Author.Tests.{eqb-true}
use Rattle.list_key.proofs.ValueLaws.{same_bytes}
use Rattle.list_before.proofs.UpdateLaws.{free_message}
use borrow.Author.Rules.{rules}
use Rattle.list_before.proofs.update.is_free.Goals as goal

pub returns : goal.returns
returns c = λ e. free_message (shape_of c.args.shape) c.args.message c.any_message-free.result c.any_message-free.ensures (search rules) (search rules) (same_bytes c.word.ensures.word c.word-2.ensures.word (eqb-true c.word.result c.word-2.result e))
