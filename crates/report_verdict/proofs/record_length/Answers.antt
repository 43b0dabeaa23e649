use mathlib.Core.Path.{sym, ◌∙◌}
use Rattle.report_verdict.proofs.Records.{kind_inside, other_length, mark_none, mark_some}
use native.Mathlib.Omega.{arith}
use Rattle.report_verdict.proofs.record_length.Goals as goal

pub returns-then-size-eq0 : goal.returns-then-size-eq0
returns-then-size-eq0 c = mark_none c.args.file.now c.args.number c.args.place _ c.offending-size.ensures (sym c.is_kind.ensures ∙ c.if-is_kind.true) c.if-size-eq0.true

pub overflow_sub-file : goal.overflow_sub-file
overflow_sub-file c = omega (arith, kind_inside c.args.file.now c.args.place (sym c.is_kind.ensures ∙ c.if-is_kind.true))

pub returns-then-is_kind : goal.returns-then-is_kind
returns-then-is_kind c = mark_some c.args.file.now c.args.number c.args.place _ c.offending-size.ensures (sym c.is_kind.ensures ∙ c.if-is_kind.true) c.if-size-eq0.false _ c.min.ensures

pub returns : goal.returns
returns c = other_length c.args.file.now c.args.number c.args.place _ c.offending-size.ensures (sym c.is_kind.ensures ∙ c.if-is_kind.false)
