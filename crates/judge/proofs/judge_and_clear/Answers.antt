use Prim.Native.Nat.{ℕ}
use mathlib.Core.Path.{ap, ◌∙◌}
use mathlib.Core.List.{◌++◌}
use native.Mathlib.Omega.{arith}
use lib.ListN.{length, drop, replicate}
use Rattle.file_contents.specs.Reading.{input}
use Rattle.verdict.proofs.AreaLaws.{used_fits, cleared_all, untouched}
use Rattle.judge.proofs.JudgeLaws.{short_said, short_offending}
use Rattle.judge.proofs.judge_and_clear.Goals as goal

pub returns-then-n-lt65536 : goal.returns-then-n-lt65536
returns-then-n-lt65536 c = let a = c.args in let x = input a.alone a.code.now a.file.now in record { result_value = short_said x (length a.work.now) c.if-n-lt65536.true; result_value_2 = short_offending x (length a.work.now) c.if-n-lt65536.true; work_after = untouched a.work.now c.if-n-lt65536.true }

pub clear_used-requires : goal.clear_used-requires
clear_used-requires c = omega (arith, used_fits (length c.args.work.now) (omega (arith, c.if-n-lt65536.false)), c.used_of.ensures)

pub returns : goal.returns
returns c = record { result_value = c.judge_file-answer.ensures.result_value; result_value_2 = c.judge_file-answer.ensures.result_value_2; work_after = c.clear_used.ensures ∙ ap (λ (n : ℕ). replicate n 0 ++ drop n c.judge_file-answer.new.work) c.used_of.ensures ∙ cleared_all c.args.work.now c.judge_file-answer.new.work c.if-n-lt65536.false c.judge_file-answer.ensures.work_unchanged }
