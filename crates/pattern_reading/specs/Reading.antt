-- The reading of a pattern file, or of a program file and an evidence file: program, targets and patterns, or a refusal's number and place (docs/PATTERNS.md,
-- "Records"). Number 8 is tested before all; then the program part is read through as the judge reads it, then the claim, then the patterns.
use Rattle.std.specs.Prelude.{ℕ, zero, suc, ◌+◌, Bool, true, false, cond, ◌&&◌, ◌||◌, not, List, [], ◌∷◌, ◌++◌, length, eqb, leb, ltb, Result, Ok, Err, ⊤}
use Rattle.std.proofs.Math.Option.{Option, none, some}
use Rattle.machine_pws.specs.Program as pws
use Rattle.machine_pws.specs.Machine.{all_below}
use Rattle.file_records.specs.declared.program.Shape.{Shape}
use Rattle.file_records.specs.declared.program.Refusal.{Refusal}
use Rattle.file_records.specs.declared.program.Program.{Program}
use Rattle.base.specs.Bytes.{choose}
use Rattle.file_records.specs.Records.{checked, is_kind}
use Rattle.file_records.specs.ProgramPart.{whether, program_read, unless_end, program_from, program_of, targets_of}
use Rattle.file_contents.specs.declared.evidence.Part.{Part}
use Rattle.file_contents.specs.declared.evidence.Part.TheVariants.{InProgram, InEvidence}
use Rattle.file_contents.specs.EvidencePart.{entries_allowed}
use Rattle.file_contents.specs.Reading.{Input, evidence_at}
use Rattle.list_theory.specs.Verdict.{ListVerdict}
use Rattle.pattern_theory.specs.Patterns.{Clue, empty, contains, ending, PathRead, Pattern}
use Rattle.pattern_theory.specs.Predecessors.{in_front}
use Rattle.pattern_theory.specs.Verdict.{pattern_verdict}
use Rattle.pattern_reading.specs.Records.{Given, claim_number, pattern_number, beginning, body_number, body_size, extended}

-- ---- one pattern

-- the word of a queue whose last value is the newest
abbrev pub ending_in : List (Option ℕ) → Clue
ending_in [] = contains []
ending_in (x ∷ []) = ending [] x
ending_in (x ∷ y ∷ w) = in_front x (ending_in (y ∷ w))

-- a word, and the 15 of its queue: none, with 0, or with 1
abbrev pub clue_of : List (Option ℕ) → Option ℕ → Clue
clue_of w none = contains w
clue_of w (some x) = cond (eqb x 0) empty (ending_in w)

abbrev pub pattern_of : Given → Pattern
pattern_of g = record { state = g.state; clue = λ p v. clue_of (g.word p v) (g.mark p v); newest = g.newest; path = g.path }

-- 7: a 15 with 1 and no 12 of its queue, a 15 with 0 and a 12 of its queue, a first 14 that is own

abbrev pub is_nil : {A : Type 0} → List A → Bool
is_nil [] = true
is_nil (x ∷ xs) = false

abbrev pub mark_fits : List (Option ℕ) → Option ℕ → Bool
mark_fits w none = true
mark_fits w (some x) = cond (eqb x 0) (is_nil w) (not (is_nil w))

abbrev pub first_fitting : List PathRead → Bool
first_fitting [] = true
first_fitting (r ∷ rs) = not r.own

unfoldable pub complete : Shape → Given → Bool
complete s g =
    all_below s.processes (λ p. all_below s.variables (λ v. mark_fits (g.word p v) (g.mark p v)))
    && all_below s.processes (λ p. first_fitting (g.path p))

-- the pattern and where it ends, or why it is refused
pub data PatternRead : Type 0 where
  whole : Given → ℕ → PatternRead
  bad : Refusal → PatternRead

-- the next 13 or the file's end
unfoldable pub at_boundary : List ℕ → ℕ → Bool
at_boundary f at = leb (length f) at || is_kind f at 19

unfoldable pub finished : Shape → ℕ → ℕ → Given → PatternRead
finished s start at g = cond (complete s g) (whole g at) (bad (record { number = 7; place = start }))

abbrev pub body_then : Result ⊤ Refusal → (Unit {0} → PatternRead) → PatternRead
body_then (Ok _) x = x tt
body_then (Err r) x = bad r

-- the records of the pattern whose 13 stands at `start`, from `at` on; g is what was read of it. `bytes` are left at the most.
unfoldable pub pattern_from : ℕ → Shape → List ℕ → ℕ → ℕ → Given → PatternRead
pattern_from zero s f start at g = finished s start at g
pattern_from (suc bytes) s f start at g =
    choose (at_boundary f at) (λ _. finished s start at g)
    (λ _. body_then (checked (body_number s f at g) at) (λ _. pattern_from bytes s f start (at + body_size f at) (extended f at g)))

-- ---- patterns, up to the file's end

pub data PatternsRead : Type 0 where
  read : List Pattern → PatternsRead
  stopped : Refusal → PatternsRead

abbrev pub head_then : Result ⊤ Refusal → (Unit {0} → PatternsRead) → PatternsRead
head_then (Ok _) x = x tt
head_then (Err r) x = stopped r

abbrev pub pattern_then : PatternRead → (Given → ℕ → PatternsRead) → PatternsRead
pattern_then (whole g next) x = x g next
pattern_then (bad r) x = stopped r

-- from `at` on, after those read already; `left` more are allowed
unfoldable pub patterns_from : ℕ → Shape → List ℕ → List ℕ → ℕ → List Pattern → PatternsRead
patterns_from zero s states f at ps =
    choose (leb (length f) at) (λ _. read ps) (λ _. head_then (checked (pattern_number s states f at true) at) (λ _. read ps))
patterns_from (suc left) s states f at ps =
    choose (leb (length f) at) (λ _. read ps)
    (λ _. head_then (checked (pattern_number s states f at false) at) (λ _.
    pattern_then (pattern_from (length f) s f at (at + 9) (beginning s f at)) (λ g next. patterns_from left s states f next (ps ++ (pattern_of g ∷ [])))))

-- ---- the whole

pub data PatternFile : Type 0 where
  -- in which part, and why
  refused : Part → Refusal → PatternFile
  -- program, targets, patterns
  patterns : pws.Program → List (ℕ → ℕ) → List Pattern → PatternFile

abbrev pub evidence_read : Input → Program → PatternsRead → PatternFile
evidence_read x p (read ps) = patterns (program_of x.code p) (targets_of x.code p) ps
evidence_read x p (stopped r) = refused InEvidence r

-- the claim stands at `at`; n patterns are allowed
unfoldable pub evidence_from : ℕ → List ℕ → ℕ → Program → PatternsRead
evidence_from n f at p = head_then (unless_end f at (checked (claim_number f at) at)) (λ _. patterns_from n p.shape p.states f (at + 2) [])

abbrev pub program_then : Result ⊤ Refusal → (Unit {0} → PatternFile) → PatternFile
program_then (Ok _) x = x tt
program_then (Err q) x = refused InProgram q

-- the program part was read so; n patterns are allowed
abbrev pub files_read : Input → ℕ → Result Program Refusal → PatternFile
files_read x n r =
    program_then (whether r) (λ _. evidence_read x (program_read r) (evidence_from n x.file (evidence_at x (program_read r)) (program_read r)))

-- patterns allowed are as many as entries
unfoldable pub read_patterns : Input → ℕ → PatternFile
read_patterns x area =
    choose (ltb area 65536) (λ _. refused InProgram (record { number = 8; place = 0 }))
    (λ _. files_read x (entries_allowed area) (program_from x.alone x.code 0))

-- ---- the answer

pub data PatternAnswer : Type 0 where
  -- number and place
  unread : ℕ → ℕ → PatternAnswer
  judged : ListVerdict → PatternAnswer

abbrev pub of_patterns : PatternFile → PatternAnswer
of_patterns (refused w r) = unread r.number r.place
of_patterns (patterns P ts ps) = judged (pattern_verdict P ts ps)

unfoldable pub pattern_answer : Input → ℕ → PatternAnswer
pattern_answer x area = of_patterns (read_patterns x area)
