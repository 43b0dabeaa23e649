use Rattle.list_key.proofs.ValueLaws.{length_mapped}
use borrow.Author.Rules.{rules}
use Rattle.list_cover.proofs.search.rooms.Goals as goal

pub returns : goal.returns
returns c = search (rules, length_mapped)
