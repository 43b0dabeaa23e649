-- What the pass over a pattern file hands on, and what it leaves in the work area: readPatterns (pattern_reading) with the places of the patterns.
use Rattle.std.specs.Prelude.{ℕ, zero, suc, ◌+◌, ◌≤◌, ◌≡◌, true, false, List, [], ◌∷◌, ◌++◌, length, drop, leb, ltb, Result, Ok, Err, ⊤}
use Rattle.base.specs.Bytes.{choose}
use Rattle.file_records.specs.declared.program.Shape.{Shape}
use Rattle.file_records.specs.declared.program.Refusal.{Refusal}
use Rattle.file_records.specs.declared.program.Program.{Program}
use Rattle.file_records.specs.Records.{checked}
use Rattle.file_records.specs.ProgramPart.{unless_end, program_from, program_of, targets_of}
use Rattle.file_contents.specs.declared.evidence.Part.{Part}
use Rattle.file_contents.specs.declared.evidence.Unread.{Unread}
use Rattle.file_contents.specs.declared.evidence.Part.TheVariants.{InProgram, InEvidence}
use Rattle.file_contents.specs.EvidencePart.{entries_allowed}
use Rattle.file_contents.specs.Tally.{counted}
use Rattle.file_contents.specs.Reading.{Input, evidence_at, list_area}
use Rattle.file_again.specs.Contents.{ProgramSizes}
use Rattle.pattern_theory.specs.Patterns.{Pattern}
use Rattle.pattern_reading.specs.Records.{Given, claim_number, pattern_number, beginning}
use Rattle.pattern_reading.specs.Reading.{pattern_of, PatternRead, whole, bad, pattern_from, refused, patterns, read_patterns}
use Rattle.pattern_reading.specs.Places.{PatternsAt}
use Rattle.pattern_pass.specs.declared.reading.PatternReading.{PatternReading}

-- ---- the patterns, with the places of their 13s

pub record PatternsListed : Type 0 where
  pub offsets : List ℕ
  pub patterns : List Pattern
  pub answer : Result ⊤ Refusal

abbrev pub stopped_at : List ℕ → List Pattern → Refusal → PatternsListed
stopped_at offsets ps r = record { offsets = offsets; patterns = ps; answer = Err r }

abbrev pub listed_then : Result ⊤ Refusal → List ℕ → List Pattern → (Unit {0} → PatternsListed) → PatternsListed
listed_then (Ok _) offsets ps x = x tt
listed_then (Err r) offsets ps x = stopped_at offsets ps r

abbrev pub given_then : PatternRead → List ℕ → List Pattern → (Given → ℕ → PatternsListed) → PatternsListed
given_then (whole g next) offsets ps x = x g next
given_then (bad r) offsets ps x = stopped_at offsets ps r

-- patternsFrom, with the places
unfoldable pub listed_from : ℕ → Shape → List ℕ → List ℕ → ℕ → List ℕ → List Pattern → PatternsListed
listed_from zero s states f at offsets ps =
    choose (leb (length f) at) (λ _. record { offsets = offsets; patterns = ps; answer = Ok tt })
    (λ _. listed_then (checked (pattern_number s states f at true) at) offsets ps (λ _. record { offsets = offsets; patterns = ps; answer = Ok tt }))
listed_from (suc left) s states f at offsets ps =
    choose (leb (length f) at) (λ _. record { offsets = offsets; patterns = ps; answer = Ok tt })
    (λ _. listed_then (checked (pattern_number s states f at false) at) offsets ps (λ _.
    given_then (pattern_from (length f) s f at (at + 9) (beginning s f at)) offsets ps (λ g next.
    listed_from left s states f next (offsets ++ (at ∷ [])) (ps ++ (pattern_of g ∷ [])))))

-- how many, or why one is refused
abbrev pub count_listed : PatternsListed → Result ℕ Refusal
count_listed l = counted l.answer (length l.offsets)

-- ---- the parts

pub data Passed : Type 0 where
  -- before the first pattern
  no_patterns : Part → Refusal → Passed
  listed : Program → PatternsListed → Passed

abbrev pub claim_passed : Result ⊤ Refusal → (Unit {0} → Passed) → Passed
claim_passed (Ok _) x = x tt
claim_passed (Err r) x = no_patterns InEvidence r

-- the claim stands at `at`; n patterns are allowed
unfoldable pub evidence_passed : ℕ → List ℕ → ℕ → Program → Passed
evidence_passed n f at p =
    claim_passed (unless_end f at (checked (claim_number f at) at)) (λ _. listed p (listed_from n p.shape p.states f (at + 2) [] []))

abbrev pub files_passed : Input → ℕ → Result Program Refusal → Passed
files_passed x n (Ok p) = evidence_passed n x.file (evidence_at x p) p
files_passed x n (Err r) = no_patterns InProgram r

unfoldable pub passed_of : Input → ℕ → Passed
passed_of x area =
    choose (ltb area 65536) (λ _. no_patterns InProgram (record { number = 8; place = 0 }))
    (λ _. files_passed x (entries_allowed area) (program_from x.alone x.code 0))

-- ---- what the code hands on, and what it leaves in the work area

abbrev pub pass_counted : Program → Result ℕ Refusal → Result PatternReading Unread
pass_counted p (Ok n) = Ok (record { program = p; count = n })
pass_counted p (Err r) = Err (record { part = InEvidence; refusal = r })

abbrev pub pass_reading : Passed → Result PatternReading Unread
pass_reading (no_patterns w r) = Err (record { part = w; refusal = r })
pass_reading (listed p l) = pass_counted p (count_listed l)

-- offsets stand from byte 16,384 on, four bytes each; nothing else is touched
abbrev pub pass_area : Passed → List ℕ → List ℕ
pass_area (no_patterns w r) a = a
pass_area (listed p l) a = list_area l.offsets a

-- ---- and what it is worth

-- R is what readPatterns says: its part and refusal; or its program and targets, and as many patterns as it has, which stand where the offsets in the area say.
-- The places and counts of its program are those of every program part that is read.
abbrev pub HandsOn : Input → ℕ → List ℕ → Result PatternReading Unread → Type 0
HandsOn x area work (Err u) = read_patterns x area ≡ refused u.part u.refusal
HandsOn x area work (Ok R) =
    (ps : List Pattern) × (read_patterns x area ≡ patterns (program_of x.code R.program) (targets_of x.code R.program) ps)
    × PatternsAt R.program.shape R.program.states x.file (drop 16384 work) R.count ps
    × ProgramSizes R.program × (R.count ≤ entries_allowed area)

abbrev pub PassHandsOn : Type 0
PassHandsOn =
    (x : Input) (work : List ℕ) (R : Result PatternReading Unread) → R ≡ pass_reading (passed_of x (length work))
    → HandsOn x (length work) (pass_area (passed_of x (length work)) work) R
