use Rattle.std.proofs.Common.{length, refl, sym}
use Rattle.file_contents.specs.Reading.{combined}
use Rattle.verdict.specs.Judge.{refused, judged}
use Rattle.hrafnolt.proofs.LineLaws.{judged_known, over_said, judged_said, bare}
use Rattle.hrafnolt.proofs.line_for.Goals as goal

pub returns-then-input-gt65536 : goal.returns-then-input-gt65536
returns-then-input-gt65536 c = record { prefix_len = c.put_line.ensures.prefix_len; line_of = over_said c.args.input.now _ c.if-input-gt65536.true (c.put_line.ensures.line_of (refused 14 65536) refl tt) }

pub returns : goal.returns
returns c = record { prefix_len = c.put_line-2.ensures.prefix_len; line_of = judged_said c.args.input.now _ (length c.work_area-work.result) (sym c.work_area-work.ensures) c.if-input-gt65536.false (c.put_line-2.ensures.line_of (judged (combined c.args.input.now) (length c.work_area-work.result)) (bare (combined c.args.input.now) (length c.work_area-work.result) _ c.judge-verdict.ensures.computed) (judged_known (combined c.args.input.now) (length c.work_area-work.result))) }
