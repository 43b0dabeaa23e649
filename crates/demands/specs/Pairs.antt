-- A program file and an evidence file (document 02, N6): what two calls of the judge have in common, and a combined file beside the pair that it is
-- cut into. The theorems are in proofs/Pairs, under the same names in small letters. All that Demands says holds of pairs too.
use Rattle.std.specs.Prelude.{ℕ, ◌+◌, ◌≡◌, List, ◌++◌, length, take, drop, replicate}
use Rattle.file_contents.specs.declared.evidence.Part.TheVariants.{InProgram, InEvidence}
use Rattle.file_contents.specs.Reading as reading
use Rattle.file_contents.specs.Reading.{Input, combined, pair, read_file}
use Rattle.file_again.specs.Offending.{offending}
use Rattle.file_again.specs.Cutting.{ClaimAt}
use Rattle.verdict.specs.declared.answer.Verdict as declared
use Rattle.verdict.specs.Judge.{Verdict, refused, judged, area_after}
use Rattle.verdict.specs.Answers.{said_in_c}

-- a call for x with the area w, which gave r and left the area v: what the exported functions' contracts say
pub record Called (x : Input) (w : List ℕ) (r : declared.Verdict) (v : List ℕ) : Type 0 where
  pub answer : r ≡ said_in_c x (length w)
  pub area : v ≡ area_after w

-- One group's verdict and zeroed bytes depend only on the program, its own evidence and its own area's length: two such calls, whatever the two areas
-- held, give the same answer, and the same first n bytes of the areas are 0 afterwards, and the rest is as it was.
abbrev pub DependsOnly : Type 0
DependsOnly = (x : Input) (w₁ w₂ : List ℕ) (r₁ r₂ : declared.Verdict) (v₁ v₂ : List ℕ) → Called x w₁ r₁ v₁ → Called x w₂ r₂ v₂ → length w₁ ≡ length w₂
    → (r₁ ≡ r₂) × ((n : ℕ) × (v₁ ≡ replicate n 0 ++ drop n w₁) × (v₂ ≡ replicate n 0 ++ drop n w₂))

-- the verdict, with the place moved by c where a record of the evidence part is refused
abbrev pub moved_by : ℕ → reading.FileRead → Verdict → Verdict
moved_by c (reading.refused InProgram r) v = v
moved_by c (reading.refused InEvidence r) v = refused r.number (c + r.place)
moved_by c (reading.list P ts es) v = v
moved_by c (reading.run P ts m ss) v = v
moved_by c (reading.pso_run P ts m ss) v = v

-- A combined file whose claim stands at c, and the pair made by cutting it there, have the same verdict, with the place moved for the evidence part;
-- and the same record is handed back.
abbrev pub CutSame : Type 0
CutSame = (f : List ℕ) (c area : ℕ) → ClaimAt f c
    → (judged (combined f) area ≡ moved_by c (read_file (pair (take c f) (drop c f)) area) (judged (pair (take c f) (drop c f)) area))
    × ((offending (combined f) (read_file (combined f) area)).bytes ≡ (offending (pair (take c f) (drop c f)) (read_file (pair (take c f) (drop c f)) area)).bytes)
