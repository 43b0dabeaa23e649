-- Refusal 22 by computation (document 02, N10: "a mark that repeats an earlier one or is neither mfence nor sfence is 22 with the lowest such
-- mark's place among the marks"), over the records of a program that was read.
use Rattle.std.specs.Prelude.{ℕ, zero, suc, ◌+◌, ◌<◌, ◌≤◌, ◌≡◌, Bool, ◌&&◌, ◌||◌, not, List, [], ◌∷◌, length, eqb, ltb}
use Rattle.machine_pws.specs.Program as pws
use Rattle.base.specs.Bytes.{choose, byte}
use Rattle.file_records.specs.declared.program.Program.{Program}
use Rattle.file_records.specs.ProgramPart.{program_of}
use Rattle.file_again.specs.Again.{transition_of}
use Rattle.report_theory.specs.Nops.{is_fence}
use Rattle.report_theory.specs.Report.{mark, DifferentFences}
use Rattle.report_theory.specs.Verdict.{LowestWrong}

-- the lowest of n numbers from i on that the test takes; the number after them if it takes none
unfoldable pub first_from : (ℕ → Bool) → ℕ → ℕ → ℕ
first_from test i zero = i
first_from test i (suc n) = choose (test i) (λ _. i) (λ _. first_from test (suc i) n)

-- the lowest below n, or n
abbrev pub lowest : (ℕ → Bool) → ℕ → ℕ
lowest test n = first_from test 0 n

-- the mark of place i repeats an earlier one
abbrev pub earlier_as : List ℕ → ℕ → ℕ → Bool
earlier_as marks i j = eqb (mark marks j) (mark marks i)

abbrev pub repeats_earlier : List ℕ → ℕ → Bool
repeats_earlier marks i = ltb (lowest (earlier_as marks i) i) i

-- transition n stands in the records, and is an mfence or an sfence
abbrev pub fence_in : List ℕ → Program → ℕ → Bool
fence_in f p n = ltb n p.transitions.count && is_fence (transition_of f p n).operation

abbrev pub is_wrong : List ℕ → Program → List ℕ → ℕ → Bool
is_wrong f p marks i = repeats_earlier marks i || not (fence_in f p (mark marks i))

-- the lowest place among n marks of one that is wrong, or n
unfoldable pub wrong_mark : List ℕ → Program → List ℕ → ℕ → ℕ
wrong_mark f p marks n = lowest (is_wrong f p marks) n

-- the numbers in the eight records of a mark, or in what stands there, from `at` on
abbrev pub mark_bytes : List ℕ → ℕ → List ℕ
mark_bytes f at =
    byte f (at + 1)
    ∷ byte f (at + 3)
    ∷ byte f (at + 5)
    ∷ byte f (at + 7)
    ∷ byte f (at + 9)
    ∷ byte f (at + 11)
    ∷ byte f (at + 13)
    ∷ byte f (at + 15)
    ∷ []

-- ---- the same of a program

-- transition n exists, and is an mfence or an sfence
abbrev pub fence_of : pws.Program → ℕ → Bool
fence_of P n = ltb n (length P.transitions) && is_fence (pws.transition P n).operation

abbrev pub is_wrong_of : pws.Program → List ℕ → ℕ → Bool
is_wrong_of P marks i = repeats_earlier marks i || not (fence_of P (mark marks i))

-- the lowest place of a mark that is wrong, or the number of marks
unfoldable pub wrong_of : pws.Program → List ℕ → ℕ
wrong_of P marks = lowest (is_wrong_of P marks) (length marks)

-- `bytes` begins with the marks
abbrev pub WrongMarkSame : Type 0
WrongMarkSame =
    (f : List ℕ) (p : Program) (marks bytes : List ℕ) → ((i : ℕ) → i < length marks → mark bytes i ≡ mark marks i)
    → wrong_mark f p bytes (length marks) ≡ wrong_of (program_of f p) marks

-- it is what the theory calls so
abbrev pub WrongMarkFound : Type 0
WrongMarkFound =
    (P : pws.Program) (marks : List ℕ)
    → (wrong_of P marks < length marks → LowestWrong P marks (wrong_of P marks)) × (length marks ≤ wrong_of P marks → DifferentFences P marks)
