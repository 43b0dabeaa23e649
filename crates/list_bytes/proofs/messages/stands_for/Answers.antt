use mathlib.Core.Path.{sym, ◌∙◌}
use mathlib.Core.Bool.{false≢true}
use Rattle.list_bytes.proofs.messages.stands_for.Goals as goal

pub returns-then-meets-clause-by_index : goal.returns-then-meets-clause-by_index
returns-then-meets-clause-by_index c = λ m tag K t. sym (c.meets.ensures m tag K) ∙ c.if-meets.true

pub returns-else-meets-clause-by_index_2 : goal.returns-else-meets-clause-by_index_2
returns-else-meets-clause-by_index_2 c = λ m tag K t l q. absurd (false≢true (sym c.if-meets.false ∙ c.meets.ensures m tag K ∙ q))
