use native.Mathlib.Omega.{arith}
use Prim.Native.Nat.{◌-◌}
use lib.ListN.{length, take, drop}
use lib.Seq.{length-take-le}
use mathlib.Core.Path.{sym, ap, ◌∙◌}
use mathlib.Core.List.{List}
use Prim.Native.Nat.{ℕ}
use Rattle.file_contents.specs.Reading.{pair}
use Rattle.verdict.specs.Answers.{said_in_c}
use Rattle.report_verdict.proofs.Judging.{copied_part, copied_size}
use Rattle.report_judge.proofs.run_verdict.Goals as goal

pub slice_bounds-copied_with-end : goal.slice_bounds-copied_with-end
slice_bounds-copied_with-end c = sym (length-take-le _ _ c.requires.0)

pub slice_bounds-judge_pair-end : goal.slice_bounds-judge_pair-end
slice_bounds-judge_pair-end c = sym (length-take-le c.args.end c.copied_with-copy.result (omega (arith, c.requires.1, ap length c.copied_with-copy.ensures ∙ copied_size _ _)))

pub returns : goal.returns
returns c = let a = c.args in
    let f = a.file.now in record {
      value = c.judge_pair.ensures.computed
          ∙ ap (λ (l : List ℕ). said_in_c (pair l (take (a.next - a.at) (drop a.at f))) (length a.work.now))
          (ap (take a.end) c.copied_with-copy.ensures ∙ copied_part f a.end a.place c.requires.0 c.requires.1);
      work_after = c.judge_pair.ensures.area;
    }
