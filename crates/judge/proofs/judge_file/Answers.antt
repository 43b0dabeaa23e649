use mathlib.Core.Path.{sym}
use native.Mathlib.Omega.{arith}
use lib.Seq.{length-take-le}
use Rattle.verdict.proofs.AreaLaws.{upper_same}
use Rattle.file_contents.specs.Reading.{input}
use Rattle.judge.proofs.JudgeLaws.{unread_returned, upper_ready, list_returned, run_returned}
use native.Mathlib.Omega.{arith}
use Rattle.judge.proofs.judge_file.Goals as goal

pub returns-in-Err : goal.returns-in-Err
returns-in-Err c = let s = unread_returned (input c.args.alone c.args.code.now c.args.file.now) c.args.work.now c.read.result c.read.ensures.value
    c.in-Err.unread c.in-Err.is _ c.read.ensures.work_after c.requires in record { result_value = s.0; result_value_2 = s.1.0; work_unchanged = s.1.1 }

pub list_judged-requires : goal.list_judged-requires
list_judged-requires c = upper_ready (input c.args.alone c.args.code.now c.args.file.now) c.args.work.now c.read.result c.read.ensures.value
    c.in-Ok.contents c.in-Ok.is _ c.read.ensures.work_after c.if-contents-eq0.true _ c.summary_place-at.ensures
    c.requires c.read.auto.work

pub shape_of-work-then-contents-eq0 : goal.shape_of-work-then-contents-eq0
shape_of-work-then-contents-eq0 c = upper_same 16384 c.args.work.now c.read.new.work c.list_judged.new.upper (omega (arith, c.requires)) c.list_judged.auto.upper c.read.auto.work

pub returns-then-contents-eq0 : goal.returns-then-contents-eq0
returns-then-contents-eq0 c = let s = list_returned (input c.args.alone c.args.code.now c.args.file.now) c.args.work.now c.read.result c.read.ensures.value
    c.in-Ok.contents c.in-Ok.is _ c.read.ensures.work_after c.if-contents-eq0.true _ c.summary_place-at.ensures
    c.requires c.read.auto.work c.list_judged.result _ c.list_judged.ensures.result_value c.list_judged.ensures.upper_after in record { result_value = s.0; result_value_2 = s.1.0; work_unchanged = s.1.1 }

pub slice_bounds-replay_answer-end-2 : goal.slice_bounds-replay_answer-end-2
slice_bounds-replay_answer-end-2 c = sym (length-take-le 16384 c.read.new.work (omega (arith, c.requires)))

pub returns : goal.returns
returns c = let s = run_returned (input c.args.alone c.args.code.now c.args.file.now) c.args.work.now c.read.result c.read.ensures.value
    c.in-Ok.contents c.in-Ok.is c.if-contents-eq0.false _ c.read.ensures.work_after c.requires c.read.auto.work
    c.replay_answer.result _ c.replay_answer.ensures.lower_after c.replay_answer.ensures.result_value in record { result_value = s.0; result_value_2 = s.1.0; work_unchanged = s.1.1 }
