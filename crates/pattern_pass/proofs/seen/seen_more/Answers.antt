use mathlib.Core.Path.{sym, ◌∙◌}
use Rattle.pattern_pass.specs.Seen.{seen_more}
use Rattle.pattern_pass.proofs.seen.seen_more.Goals as goal

pub with_value-requires : goal.with_value-requires
unfolding seen_more
with_value-requires c = c.requires.words (sym c.is_kind.ensures ∙ c.if-is_kind.true)

pub returns-then-is_kind : goal.returns-then-is_kind
unfolding seen_more
returns-then-is_kind c = rw (sym c.is_kind.ensures ∙ c.if-is_kind.true) c.with_value.ensures

pub with_read-requires : goal.with_read-requires
unfolding seen_more
with_read-requires c = c.requires.reads (sym c.is_kind.ensures ∙ c.if-is_kind.false) (sym c.is_kind-2.ensures ∙ c.if-is_kind-2.true)

pub returns-then-is_kind-2 : goal.returns-then-is_kind-2
unfolding seen_more
returns-then-is_kind-2 c = rw (sym c.is_kind.ensures ∙ c.if-is_kind.false, sym c.is_kind-2.ensures ∙ c.if-is_kind-2.true) c.with_read.ensures

pub with_mark-requires : goal.with_mark-requires
unfolding seen_more
with_mark-requires c = c.requires.marks (sym c.is_kind.ensures ∙ c.if-is_kind.false) (sym c.is_kind-2.ensures ∙ c.if-is_kind-2.false)

pub returns : goal.returns
unfolding seen_more
returns c = rw (sym c.is_kind.ensures ∙ c.if-is_kind.false, sym c.is_kind-2.ensures ∙ c.if-is_kind-2.false) c.with_mark.ensures
