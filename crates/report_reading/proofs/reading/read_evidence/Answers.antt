use mathlib.Core.Path.{◌≡◌}
use native.Mathlib.Omega.{arith}
use lib.ListN.{length}
use borrow.Author.Rules.{rules}
use Rattle.report_reading.proofs.ReportReturns.{list_ready, runs_ready}
use Rattle.report_reading.proofs.reading.read_evidence.Goals as goal

pub overflow_mul-at : goal.overflow_mul-at
overflow_mul-at c = omega (arith, (list_ready c.args.file.now _ _ _ c.requires).inside)

pub overflow_add-at : goal.overflow_add-at
overflow_add-at c = omega (arith, (list_ready c.args.file.now _ _ _ c.requires).inside)

pub read_part-requires : goal.read_part-requires
read_part-requires c = list_ready c.args.file.now _ _ _ c.requires

pub runs_from-requires : goal.runs_from-requires
runs_from-requires c = let l : length c.read_part.new.work ≡ length c.args.work.now = search rules in
    runs_ready c.args.file.now _ _ _ c.requires _ l _ c.evidence_end.ensures
