use native.Mathlib.Omega.{arith}
use Prim.Native.Nat.{◌-◌}
use Rattle.report_verdict.proofs.Judging.{ran_begin, ran_next, ran_found, ran_all, kept_next}
use Rattle.report_judge.proofs.failing_run.Goals as goal

pub loop-i-init : goal.loop-i-init
loop-i-init c = ran_begin c.args.file.now c.args.row c.args.marks c.args.n c.args.work.now _ c.requires.1

pub run_fails-requires : goal.run_fails-requires
run_fails-requires c = (c.requires.0, c.loop-i.invariant.place)

pub shape_of-work-then-run_fails : goal.shape_of-work-then-run_fails
shape_of-work-then-run_fails c = (kept_next c.loop-i.invariant.kept c.run_fails.ensures.work_after).size

pub returns-then-run_fails : goal.returns-then-run_fails
returns-then-run_fails c = record { value = ran_found c.args.file.now c.args.row c.args.marks c.args.n c.args.work.now c.loop-i.invariant c.loop-i-test.true _ c.run_fails.ensures.value c.if-run_fails.true; work_unchanged = (kept_next c.loop-i.invariant.kept c.run_fails.ensures.work_after).after }

pub loop-i-smaller : goal.loop-i-smaller
loop-i-smaller c = omega (arith, c.loop-i-test.true)

pub loop-i-preserved : goal.loop-i-preserved
loop-i-preserved c = ran_next c.args.file.now c.args.row c.args.marks c.args.n c.args.work.now c.loop-i.invariant c.loop-i-test.true _ c.run_fails.ensures.value _ _ c.if-run_fails.false c.run_fails.ensures.work_after c.evidence_end-at.ensures

pub shape_of-work : goal.shape_of-work
shape_of-work c = c.loop-i.invariant.kept.size

pub returns : goal.returns
returns c = record { value = ran_all c.args.file.now c.args.row c.args.marks c.args.n c.args.work.now c.loop-i.invariant c.loop-i-test.false; work_unchanged = c.loop-i.invariant.kept.after }
