use mathlib.Core.Path.{◌≡◌, sym, ◌∙◌}
use mathlib.Core.Bool.{true, false, ◌&&◌}
use lib.ListN.{length}
use lib.Dec.{eqb, ltb}
use Rattle.report_reading.specs.Parts.{in_report}
use Rattle.report_reading.proofs.records.in_report.Goals as goal

pub returns-then-both : goal.returns-then-both
unfolding in_report
returns-then-both c = let a = c.args in
    let e : (eqb a.refusal.number 6 && ltb a.b (length a.file.now)) ≡ true = sym c.both.ensures ∙ c.if-both.true in
    rw e

pub returns : goal.returns
unfolding in_report
returns c = let a = c.args in
    let e : (eqb a.refusal.number 6 && ltb a.b (length a.file.now)) ≡ false = sym c.both.ensures ∙ c.if-both.false in
    rw e
