-- Worked cases of the PSO machine, as a table with one statement: runs of small programs, each step a sentence of the report's 4.1, and the
-- programs of document 01's cases G and J.
use Rattle.std.specs.Prelude.{ℕ, suc, ◌≡◌, List, [], ◌∷◌, get_or}
use Rattle.machine_pws.specs.declared.Operation.{Operation}
use Rattle.machine_pws.specs.declared.Operation.TheVariants.{Read, Write, Mfence, Sfence, Arw}
use Rattle.machine_pws.specs.declared.Transition.{Transition}
use Rattle.machine_pws.specs.Program.{Program}
use Rattle.machine_pws.specs.Cases.{program_g, program_j}
use Rattle.machine_pso.specs.declared.PsoStep.{PsoStep}
use Rattle.machine_pso.specs.declared.PsoStep.TheVariants.{Operate, UpdateVariable, RemoveMark}
use Rattle.machine_pso.specs.Machine.{PsoConfiguration}
use Rattle.machine_pso.specs.Runs.{pso_start_with, PsoTakes, PsoInTarget, pso_replay, stopped}

-- ---- rows and what they say

pub data Row : Type 0 where
  -- from this memory the machine takes these steps, and ends with the processes in these local states
  ends : Program → List ℕ → List PsoStep → List ℕ → Row
  -- it cannot take the step of this number
  stops : Program → List ℕ → List PsoStep → ℕ → Row

unfoldable pub Holds : Row → Type 0
Holds (ends P memory us states) = (d : PsoConfiguration) × PsoTakes P (pso_start_with P memory) us d × PsoInTarget P.shape (λ p. get_or states p 0) d
Holds (stops P memory us k) = pso_replay P 0 (pso_start_with P memory) us ≡ stopped k

pub data Each (F : Row → Type 0) : List Row → Type 0 where
  no_row : Each F []
  row : {r : Row} {rs : List Row} → F r → Each F rs → Each F (r ∷ rs)

-- ---- the programs

-- process p goes from local state q to q + 1
abbrev step : ℕ → ℕ → Operation → Transition
step p q o = record { process = p; from = q; operation = o; to = suc q }

abbrev program : ℕ → ℕ → List Transition → Program
program processes variables ts =
    record {
      shape = record { processes = processes; variables = variables; values = λ v. 2; room = 4 };
      states = λ p. 5;
      initial = λ p. 0;
      transitions = ts;
    }

abbrev pub zeros : List ℕ
zeros = 0 ∷ 0 ∷ 0 ∷ 0 ∷ []

-- store buffering: each of two processes writes its variable, and reads the other's as 0
abbrev buffering : Program
buffering = program 2 2 (step 0 0 (Write 0 1) ∷ step 0 1 (Read 1 0) ∷ step 1 0 (Write 1 1) ∷ step 1 1 (Read 0 0) ∷ [])

-- the same with an mfence after each write
abbrev pub fenced : Program
fenced =
    program 2 2 (step 0 0 (Write 0 1) ∷ step 0 1 Mfence ∷ step 0 2 (Read 1 0) ∷ step 1 0 (Write 1 1) ∷ step 1 1 Mfence ∷ step 1 2 (Read 0 0) ∷ [])

-- a process writes 1 and passes an sfence; then it may read 1, read 0, pass an mfence, or change 1 to 0 at once
abbrev pub marked : Program
marked =
    program 1 1 (step 0 0 (Write 0 1) ∷ step 0 1 Sfence ∷ step 0 2 (Read 0 1) ∷ step 0 2 (Read 0 0) ∷ step 0 2 Mfence ∷ step 0 2 (Arw 0 1 0) ∷ [])

-- a process writes 1, passes an sfence and writes 0; then it may read 0, or read 1
abbrev between : Program
between = program 1 1 (step 0 0 (Write 0 1) ∷ step 0 1 Sfence ∷ step 0 2 (Write 0 0) ∷ step 0 3 (Read 0 0) ∷ step 0 3 (Read 0 1) ∷ [])

-- process 0 writes variable 1, or passes an sfence; then it changes variable 0 from 0 to 1, or from 1 to 0, at once. Process 1 reads 1 there.
abbrev pub atomic : Program
atomic =
    program 2 2 (step 0 0 (Write 1 1) ∷ step 0 0 Sfence ∷ step 0 1 (Arw 0 0 1) ∷ step 0 1 (Arw 0 1 0) ∷ step 0 1 (Arw 1 0 1) ∷ step 1 0 (Read 0 1) ∷ [])

-- process 0 writes 1, then 0; process 1 reads 1
abbrev pub in_order : Program
in_order = program 2 1 (step 0 0 (Write 0 1) ∷ step 0 1 (Write 0 0) ∷ step 1 0 (Read 0 1) ∷ [])

-- ---- the table

abbrev pub cases : List Row
cases =
    -- store buffering; an mfence asks for empty buffers
    ends buffering zeros (Operate 0 ∷ Operate 1 ∷ Operate 2 ∷ Operate 3 ∷ []) (2 ∷ 2 ∷ [])
    ∷ stops fenced zeros (Operate 0 ∷ Operate 1 ∷ []) 1
    ∷ stops fenced zeros (Operate 0 ∷ UpdateVariable 0 0 ∷ Operate 1 ∷ Operate 2 ∷ Operate 3 ∷ UpdateVariable 1 1 ∷ Operate 4 ∷ Operate 5 ∷ []) 7
    -- G: the second write reaches memory first
    ∷ ends program_g zeros (Operate 0 ∷ Operate 1 ∷ UpdateVariable 0 1 ∷ Operate 2 ∷ Operate 3 ∷ []) (2 ∷ 2 ∷ [])
    -- J: sfence is permitted; the second write is past a mark, and the mark stays until the first write has left
    ∷ stops program_j zeros (Operate 0 ∷ Operate 1 ∷ Operate 2 ∷ UpdateVariable 0 1 ∷ []) 3
    ∷ stops program_j zeros (Operate 0 ∷ Operate 1 ∷ Operate 2 ∷ RemoveMark 0 ∷ []) 3
    ∷ ends program_j zeros (Operate 0 ∷ Operate 1 ∷ Operate 2 ∷ UpdateVariable 0 0 ∷ RemoveMark 0 ∷ UpdateVariable 0 1 ∷ Operate 3 ∷ []) (3 ∷ 1 ∷ [])
    ∷ stops program_j zeros (Operate 0 ∷ Operate 1 ∷ Operate 2 ∷ UpdateVariable 0 0 ∷ RemoveMark 0 ∷ UpdateVariable 0 1 ∷ Operate 3 ∷ Operate 4 ∷ []) 7
    -- a read passes over the mark, to values before it and past it
    ∷ ends marked zeros (Operate 0 ∷ Operate 1 ∷ Operate 2 ∷ []) (3 ∷ [])
    ∷ stops marked zeros (Operate 0 ∷ Operate 1 ∷ Operate 3 ∷ []) 2
    ∷ ends between zeros (Operate 0 ∷ Operate 1 ∷ Operate 2 ∷ Operate 3 ∷ []) (4 ∷ [])
    ∷ stops between zeros (Operate 0 ∷ Operate 1 ∷ Operate 2 ∷ Operate 4 ∷ []) 3
    -- mfence and arw are refused while a mark is there
    ∷ stops marked zeros (Operate 0 ∷ Operate 1 ∷ UpdateVariable 0 0 ∷ Operate 4 ∷ []) 3
    ∷ ends marked zeros (Operate 0 ∷ Operate 1 ∷ UpdateVariable 0 0 ∷ RemoveMark 0 ∷ Operate 4 ∷ []) (3 ∷ [])
    ∷ stops marked zeros (Operate 0 ∷ Operate 1 ∷ UpdateVariable 0 0 ∷ Operate 5 ∷ []) 3
    ∷ ends marked zeros (Operate 0 ∷ Operate 1 ∷ UpdateVariable 0 0 ∷ RemoveMark 0 ∷ Operate 5 ∷ []) (3 ∷ [])
    -- arw: another variable's buffer may hold a value, its own may not; an sfence marks both; memory has the new value at once, and decides
    ∷ ends atomic zeros (Operate 0 ∷ Operate 2 ∷ Operate 5 ∷ []) (2 ∷ 1 ∷ [])
    ∷ stops atomic zeros (Operate 0 ∷ Operate 4 ∷ []) 1
    ∷ stops atomic zeros (Operate 1 ∷ Operate 2 ∷ []) 1
    ∷ stops atomic zeros (Operate 1 ∷ Operate 4 ∷ []) 1
    ∷ stops atomic zeros (Operate 0 ∷ Operate 3 ∷ []) 1
    ∷ ends atomic (1 ∷ 0 ∷ 0 ∷ 0 ∷ []) (Operate 0 ∷ Operate 3 ∷ []) (2 ∷ 0 ∷ [])
    -- the oldest value leaves first
    ∷ ends in_order zeros (Operate 0 ∷ Operate 1 ∷ UpdateVariable 0 0 ∷ Operate 2 ∷ []) (2 ∷ 1 ∷ [])
    ∷ stops in_order zeros (Operate 0 ∷ Operate 1 ∷ UpdateVariable 0 0 ∷ UpdateVariable 0 0 ∷ Operate 2 ∷ []) 4
    -- a wrong local state; nothing to update; no mark to remove; a transition, a process and a variable that are not there
    ∷ stops in_order zeros (Operate 1 ∷ []) 0
    ∷ stops in_order zeros (UpdateVariable 0 0 ∷ []) 0
    ∷ stops in_order zeros (RemoveMark 0 ∷ []) 0
    ∷ stops in_order zeros (Operate 3 ∷ []) 0
    ∷ stops in_order zeros (Operate 0 ∷ UpdateVariable 2 0 ∷ []) 1
    ∷ stops in_order zeros (Operate 0 ∷ UpdateVariable 0 1 ∷ []) 1
    ∷ []
