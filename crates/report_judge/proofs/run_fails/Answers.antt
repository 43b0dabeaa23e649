use Rattle.report_verdict.proofs.Judging.{run_there, run_said}
use lib.ListN.{length}
use Rattle.report_judge.proofs.run_fails.Goals as goal

pub run_verdict-verdict-requires : goal.run_verdict-verdict-requires
run_verdict-verdict-requires c = let a = c.args in run_there a.file.now a.end a.n a.row c.requires.0 a.i a.at _ c.requires.1 c.evidence_end-next.ensures

pub returns : goal.returns
returns c = let a = c.args in record {
  value = run_said a.file.now a.end a.n a.row c.requires.0 a.i a.at _ c.requires.1 c.evidence_end-next.ensures a.marks (length a.work.now) _ _ _
      c.mark_at.ensures c.from.ensures c.run_verdict-verdict.ensures.value;
  work_after = c.run_verdict-verdict.ensures.work_after;
}
