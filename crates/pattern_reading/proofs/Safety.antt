-- What the answer to a pattern file promises.
use Prim.Native.Nat.{ℕ}
use mathlib.Core.Path.{◌≡◌, sym, ap, ◌∙◌}
use mathlib.Core.List.{List}
use Rattle.machine_pws.specs.Program.{Program}
use Rattle.file_contents.specs.Reading.{Input}
use Rattle.list_theory.specs.Verdict.{ListVerdict}
use Rattle.pattern_theory.specs.Patterns.{Pattern}
use Rattle.pattern_theory.specs.Verdict.{pattern_verdict}
use Rattle.pattern_theory.proofs.Verdict.{answer_given}
use Rattle.pattern_theory.proofs.Safety.{pattern_safety, pattern_pso_safety}
use Rattle.pattern_reading.specs.Reading.{patterns, read_patterns, judged, of_patterns, pattern_answer}
use Rattle.pattern_reading.specs.Safety.{FileJudged, FileSafety, FilePsoSafety}
use Rattle.pattern_reading.proofs.Range.{read_in_range}

same_judged : {v w : ListVerdict} → judged v ≡ judged w → v ≡ w
same_judged e = cc

-- the answer to what is read is its verdict
answer_is : (x : Input) (area : ℕ) (P : Program) (ts : List (ℕ → ℕ)) (ps : List Pattern) → read_patterns x area ≡ patterns P ts ps
    → pattern_answer x area ≡ judged (pattern_verdict P ts ps)
unfolding pattern_answer
answer_is x area P ts ps e = ap of_patterns e

pub file_judged : FileJudged
file_judged x area P ts ps e v =
    let i = read_in_range x area P ts ps e in
    let g = answer_given P i.0.well_formed ts ps i.1 v in
    let same = answer_is x area P ts ps e in
    (λ a. g.0 (same_judged (sym same ∙ a)), λ j. same ∙ ap judged (g.1 j))

pub file_safety : FileSafety
file_safety x area n P ts ps e a =
    let i = read_in_range x area P ts ps e in
    pattern_safety P i.0.well_formed ts ps i.1 n (same_judged (sym (answer_is x area P ts ps e) ∙ a))

pub file_pso_safety : FilePsoSafety
file_pso_safety x area n P ts ps e a =
    let i = read_in_range x area P ts ps e in
    pattern_pso_safety P i.0.well_formed ts ps i.1 n (same_judged (sym (answer_is x area P ts ps e) ∙ a))
