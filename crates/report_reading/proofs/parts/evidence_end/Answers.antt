use Prim.Native.Nat.{ℕ, ◌+◌}
use mathlib.Core.Path.{ap, ◌∙◌}
use mathlib.Core.Bool.{false}
use native.Mathlib.Omega.{arith}
use lib.ListN.{length}
use Rattle.report_reading.specs.Parts.{end_from, evidence_end}
use Rattle.report_reading.proofs.EndLaws.{record_size}
use Rattle.report_reading.proofs.parts.evidence_end.Goals as goal

pub overflow_add-at : goal.overflow_add-at
unfolding evidence_end
overflow_add-at c = omega (arith, ap length c.record_at-first.ensures, record_size c.args.file.now c.args.at)

pub returns : goal.returns
unfolding evidence_end
returns c = c.end_from.ensures ∙ ap (λ (k : ℕ). end_from false (length c.args.file.now) c.args.file.now (c.args.at + k)) (ap length c.record_at-first.ensures)
