use mathlib.Core.Path.{sym, ◌∙◌}
use native.Mathlib.Omega.{arith}
use Rattle.list_before.proofs.UpdateLaws.{repeats}
use Rattle.list_before.proofs.update.repeated_label.Goals as goal

pub returns : goal.returns
returns c = λ l. repeats c.args.shape c.args.cube c.args.writes c.args.p c.in-Some.i c.from.result (c.from.ensures ∙ c.at_or-z.ensures) (λ e. c.if-z-eq0.false (sym c.from.ensures ∙ e)) c.in-Some.ensures (omega arith) (c.is_free.ensures c.if-not-is_free.false) (c.points_alone.ensures c.if-not-points_alone.false)
