-- The line printed (document 01, "Verdicts and refusal table"; document 02, N13), in ASCII.
use Rattle.std.specs.Prelude.{ℕ, ◌≡◌, cond, List, [], ◌∷◌, ◌++◌, length, eqb, ltb}
use Rattle.io.specs.Digits.{last_digits, IsDigitCount}
use Rattle.machine_pws.specs.declared.Step.{Step}
use Rattle.machine_pws.specs.declared.Step.TheVariants.{Take, Serialise, Update}
use Rattle.base.specs.Bytes.{choose}
use Rattle.drawing.specs.Text.{letters}
use Rattle.drawing.specs.Runs.{StepInRange}
use Rattle.file_contents.specs.Reading.{combined}
use Rattle.verdict.specs.declared.answer.Verdict as declared
use Rattle.verdict.specs.Judge.{Verdict, safe, reachable, pso, refused, entered, judged}

-- `safe`, `reachable`, `pso` and `refused`
abbrev pub word_safe : List ℕ
word_safe = 115 ∷ 97 ∷ 102 ∷ 101 ∷ []

abbrev pub word_reachable : List ℕ
word_reachable = 114 ∷ 101 ∷ 97 ∷ 99 ∷ 104 ∷ 97 ∷ 98 ∷ 108 ∷ 101 ∷ []

abbrev pub word_pso : List ℕ
word_pso = 112 ∷ 115 ∷ 111 ∷ []

abbrev pub word_refused : List ℕ
word_refused = 114 ∷ 101 ∷ 102 ∷ 117 ∷ 115 ∷ 101 ∷ 100 ∷ []

-- l is followed by a space and n in decimal, in the fewest digits that hold it
pub record Numbered (l : List ℕ) (n : ℕ) (r : List ℕ) : Type 0 where
  pub places : ℕ
  pub fewest : IsDigitCount 10 1 n places
  pub same : r ≡ l ++ (32 ∷ last_digits 10 places n)

-- one number after the word, or two; then a line feed
pub record OneNumber (word : List ℕ) (n : ℕ) (r : List ℕ) : Type 0 where
  pub text : List ℕ
  pub first : Numbered word n text
  pub same : r ≡ text ++ (10 ∷ [])

pub record TwoNumbers (word : List ℕ) (n k : ℕ) (r : List ℕ) : Type 0 where
  pub text : List ℕ
  pub first : Numbered word n text
  pub more : List ℕ
  pub second : Numbered text k more
  pub same : r ≡ more ++ (10 ∷ [])

-- two numbers, and a step in its letters
pub record NumbersAndStep (word : List ℕ) (n k : ℕ) (s : Step) (r : List ℕ) : Type 0 where
  pub text : List ℕ
  pub first : Numbered word n text
  pub more : List ℕ
  pub second : Numbered text k more
  pub same : r ≡ more ++ (32 ∷ letters s) ++ (10 ∷ [])

abbrev pub LineOf : Verdict → List ℕ → Type 0
LineOf (safe n) r = OneNumber word_safe n r
LineOf (reachable n k) r = TwoNumbers word_reachable n k r
LineOf (pso n k) r = TwoNumbers word_pso n k r
LineOf (refused n k) r = TwoNumbers word_refused n k r
LineOf (entered k s) r = NumbersAndStep word_refused 11 k s r

-- the word of each kind of verdict, as C has it
unfoldable pub word_of : ℕ → List ℕ
word_of kind = cond (eqb kind 0) word_safe (cond (eqb kind 1) word_reachable (cond (eqb kind 3) word_pso word_refused))

-- the step of 11, as C has it
unfoldable pub step_in : declared.Verdict → Step
step_in v = cond (eqb v.step_kind 32) (Take v.step_first)
    (cond (eqb v.step_kind 33) (Serialise v.step_first v.step_second) (Update v.step_first))

-- The step is one of 256 transitions, four processes and four variables. The verdict of every file is so (`judged_known`).
abbrev pub StepKnown : Verdict → Type 0
StepKnown (safe n) = Unit {0}
StepKnown (reachable n k) = Unit {0}
StepKnown (pso n k) = Unit {0}
StepKnown (refused n k) = Unit {0}
StepKnown (entered k s) = StepInRange s

-- ---- what the program says of its input

-- 14 before all others: over 65,536 bytes; else the verdict in a work area of 65,536 bytes
unfoldable pub said : List ℕ → Verdict
said input = choose (ltb 65536 (length input)) (λ _. refused 14 65536) (λ _. judged (combined input) 65536)
