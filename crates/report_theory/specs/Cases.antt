-- Worked cases of reports, as tables with one statement: which transitions are fences, and what a run does with its marked fence a nop,
-- with another one, with all of them and with none.
use Rattle.std.specs.Prelude.{ℕ, ◌≡◌, Bool, true, false, List, [], ◌∷◌, get_or}
use Rattle.machine_pws.specs.declared.Step.{Step}
use Rattle.machine_pws.specs.declared.Step.TheVariants.{Take, Serialise, Update}
use Rattle.machine_pws.specs.Program.{Program, transition}
use Rattle.machine_pws.specs.Machine.{Configuration}
use Rattle.machine_pws.specs.Configurations.{start_with, InTarget}
use Rattle.machine_pws.specs.Sequences.{Takes, replay, stopped}
use Rattle.machine_pws.specs.Cases.{program_j, zeros}
use Rattle.machine_pso.specs.Cases.{fenced}
use Rattle.report_theory.specs.Nops.{with_nops, these, is_fence, all_fences}
use Rattle.report_theory.specs.Report.{DifferentFences, run_program}

-- ---- rows and what they say

pub data Row : Type 0 where
  -- from a start with memory 0 the machine takes these steps, and ends with the processes in these local states
  ends : Program → List Step → List ℕ → Row
  -- it cannot take the step of this number
  stops : Program → List Step → ℕ → Row
  -- the transition of this number is a fence, or is not
  fence : Program → ℕ → Bool → Row
  -- these marks are different fences, or are not
  right : Program → List ℕ → Row
  wrong : Program → List ℕ → Row

unfoldable pub Holds : Row → Type 0
Holds (ends P ss states) = (d : Configuration) × Takes P (start_with P zeros 0 0) ss d × InTarget P.shape (λ p. get_or states p 0) d
Holds (stops P ss k) = replay P 0 (start_with P zeros 0 0) ss ≡ stopped k
Holds (fence P n b) = is_fence (transition P n).operation ≡ b
Holds (right P ms) = DifferentFences P ms
Holds (wrong P ms) = DifferentFences P ms → ⊥

pub data Each (F : Row → Type 0) : List Row → Type 0 where
  no_row : Each F []
  row : {r : Row} {rs : List Row} → F r → Each F rs → Each F (r ∷ rs)

-- ---- store buffering with an mfence after each write, transitions 1 and 4; both are marked

abbrev pub marks : List ℕ
marks = 1 ∷ 4 ∷ []

-- the write of process 0 waits past its fence; that of process 1 does not
abbrev first_waits : List Step
first_waits = Take 0 ∷ Take 1 ∷ Take 2 ∷ Take 3 ∷ Serialise 1 1 ∷ Update 1 ∷ Take 4 ∷ Take 5 ∷ []

-- the other way round
abbrev second_waits : List Step
second_waits = Take 3 ∷ Take 4 ∷ Take 5 ∷ Take 0 ∷ Serialise 0 0 ∷ Update 0 ∷ Take 1 ∷ Take 2 ∷ []

abbrev both_wait : List Step
both_wait = Take 0 ∷ Take 1 ∷ Take 2 ∷ Take 3 ∷ Take 4 ∷ Take 5 ∷ []

-- ---- case J: process 0 writes both variables, with an sfence between, transition 1; process 1 reads the second as 1 and the first as 0

abbrev overtakes : List Step
overtakes = Take 0 ∷ Take 1 ∷ Take 2 ∷ Serialise 0 1 ∷ Update 1 ∷ Take 3 ∷ Take 4 ∷ []

-- ---- the tables: runs and fences

abbrev pub cases : List Row
cases =
    -- each fence is needed: its own run reaches the target
    ends (run_program fenced marks 0) first_waits (3 ∷ 3 ∷ [])
    ∷ ends (run_program fenced marks 1) second_waits (3 ∷ 3 ∷ [])
    -- and is a run when both are nops; with both kept its fence is not permitted
    ∷ ends (with_nops fenced (these marks)) first_waits (3 ∷ 3 ∷ [])
    ∷ stops fenced first_waits 1
    -- runs that are swapped, and one that needs both to be nops
    ∷ stops (run_program fenced marks 1) first_waits 1
    ∷ stops (run_program fenced marks 0) second_waits 1
    ∷ stops (run_program fenced marks 0) both_wait 4
    ∷ stops (run_program fenced marks 1) both_wait 1
    ∷ ends (with_nops fenced (all_fences fenced)) both_wait (3 ∷ 3 ∷ [])
    -- J
    ∷ ends (run_program program_j (1 ∷ []) 0) overtakes (3 ∷ 2 ∷ [])
    ∷ stops program_j overtakes 1
    -- mfence and sfence are fences; read and write are not, nor is what does not exist
    ∷ fence fenced 1 true
    ∷ fence program_j 1 true
    ∷ fence fenced 0 false
    ∷ fence fenced 2 false
    ∷ fence fenced 6 false
    -- a fence that is a nop is none
    ∷ fence (run_program fenced marks 0) 1 false
    ∷ fence (run_program fenced marks 0) 4 true
    ∷ []

-- ---- marks

abbrev pub mark_cases : List Row
mark_cases =
    -- no mark at all, and each fence once; a mark that repeats one before the last, a write, and what does not exist
    right fenced []
    ∷ right fenced marks
    ∷ wrong fenced (1 ∷ 4 ∷ 1 ∷ [])
    ∷ wrong fenced (1 ∷ 3 ∷ [])
    ∷ wrong fenced (6 ∷ [])
    ∷ []
