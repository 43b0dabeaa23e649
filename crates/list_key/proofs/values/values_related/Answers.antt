use Rattle.list_key.proofs.ValueLaws.{same_bytes, same_four}
use borrow.Author.Rules.{rules}
use Rattle.list_key.proofs.values.values_related.Goals as goal

pub returns-then-word : goal.returns-then-word
returns-then-word c = same_four c.args.exact c.args.a c.args.b (search rules) (search rules) (same_bytes c.word.ensures.word c.word-2.ensures.word c.if-word.true)
