-- Worked rows, as a table with one statement: what each of the nine operations does, and what is written for small programs (document 02, N8).
use Rattle.std.specs.Prelude.{ℕ, suc, ◌<◌, ◌≡◌, cond, List, [], ◌∷◌, map, get_or, take, eqb}
use Rattle.machine_pws.specs.declared.Operation.{Operation}
use Rattle.machine_pws.specs.declared.Operation.TheVariants as plain
use Rattle.machine_pws.specs.declared.Transition.{Transition}
use Rattle.machine_pws.specs.declared.Step.{Step}
use Rattle.machine_pws.specs.declared.Step.TheVariants.{Take, Serialise, Update}
use Rattle.register_machine.specs.declared.RegisterOperation.{RegisterOperation}
use Rattle.register_machine.specs.declared.RegisterOperation.TheVariants.{
  Nop,
  Read,
  Write,
  Mfence,
  Sfence,
  Arw,
  LoadRegister,
  StoreRegister,
  TestRegister,
}
use Rattle.register_machine.specs.declared.RegisterTransition.{RegisterTransition}
use Rattle.register_machine.specs.Program.{RegisterProgram}
use Rattle.register_machine.specs.Machine.{RegisterConfiguration}
use Rattle.register_machine.specs.Runs.{register_start_with, RegisterTakes, register_replay, stopped}
use Rattle.register_machine.specs.Written.{written, number_written, target_becomes}

-- ---- rows and what they say

pub data Row : Type 0 where
  -- from this memory the machine takes these steps, and ends with the processes in these local states and with these registers
  ends : RegisterProgram → List ℕ → List Step → List ℕ → List ℕ → Row
  -- it cannot take the step of this number
  stops : RegisterProgram → List ℕ → List Step → ℕ → Row
  -- for this program these numbers of states, these initial states and these transitions are written
  writes : RegisterProgram → List ℕ → List ℕ → List Transition → Row
  -- transition n from the register value r, reading x, is the written one of this number
  numbers : RegisterProgram → ℕ → ℕ → ℕ → ℕ → Row
  -- for this target these are written
  targets : RegisterProgram → List ℕ → List (List ℕ) → Row

-- f 0, f 1, .. of the processes
abbrev pub listed : ℕ → (ℕ → ℕ) → List ℕ
listed n f = take n (f 0 ∷ f 1 ∷ f 2 ∷ f 3 ∷ [])

-- from c the machine takes the steps, and ends with these local states and registers
pub record Ends (R : RegisterProgram) (c : RegisterConfiguration) (ss : List Step) (states registers : List ℕ) : Type 0 where
  pub last : RegisterConfiguration
  pub takes : RegisterTakes R c ss last
  pub in_states : listed R.shape.processes last.state ≡ states
  pub in_registers : listed R.shape.processes last.register ≡ registers

-- runs are from the start with the memory and any existing label
unfoldable pub Holds : Row → Type 0
Holds (ends R memory ss states registers) =
    (p v : ℕ) → p < R.shape.processes → v < R.shape.variables → Ends R (register_start_with R memory p v) ss states registers
Holds (stops R memory ss k) =
    (p v : ℕ) → p < R.shape.processes → v < R.shape.variables → register_replay R 0 (register_start_with R memory p v) ss ≡ stopped k
Holds (writes R states initial ts) =
    (listed R.shape.processes (written R).states ≡ states)
    × (listed R.shape.processes (written R).initial ≡ initial)
    × ((written R).transitions ≡ ts)
Holds (numbers R n r x m) = number_written R n r x ≡ m
Holds (targets R target ts) = map (listed R.shape.processes) (target_becomes R (λ p. get_or target p 0)) ≡ ts

pub data Each (F : Row → Type 0) : List Row → Type 0 where
  no_row : Each F []
  row : {r : Row} {rs : List Row} → F r → Each F rs → Each F (r ∷ rs)

-- ---- the programs

-- process p goes from local state q to q + 1
abbrev step : ℕ → ℕ → RegisterOperation → RegisterTransition
step p q o = record { process = p; from = q; operation = o; to = suc q }

abbrev program : ℕ → ℕ → List RegisterTransition → RegisterProgram
program processes variables ts =
    record {
      shape = record { processes = processes; variables = variables; values = λ v. 4; room = 4 };
      states = λ p. 5;
      initial = λ p. 0;
      transitions = ts;
    }

-- one process and one variable: these operations in turn
abbrev one : RegisterOperation → RegisterProgram
one a = program 1 1 (step 0 0 a ∷ [])

abbrev two : RegisterOperation → RegisterOperation → RegisterProgram
two a b = program 1 1 (step 0 0 a ∷ step 0 1 b ∷ [])

-- process 0 writes 3; process 1 loads it, and goes on if it is 3
abbrev passing : RegisterProgram
passing = program 2 1 (step 0 0 (Write 0 3) ∷ step 1 0 (LoadRegister 0) ∷ step 1 1 (TestRegister 3) ∷ [])

-- variable 0 is copied to variable 1
abbrev copying : RegisterProgram
copying = program 1 2 (step 0 0 (LoadRegister 0) ∷ step 0 1 (StoreRegister 1) ∷ step 0 2 (Read 1 2) ∷ [])

-- Process 0 has a register, which its first transition does not use; process 1 has none.
abbrev mixed : RegisterProgram
mixed =
    record {
      shape = record { processes = 2; variables = 2; values = λ v. 4; room = 4 };
      states = λ p. cond (eqb p 0) 3 2;
      initial = λ p. 1;
      transitions =
          record { process = 0; from = 0; operation = Nop; to = 1 }
          ∷ record { process = 0; from = 1; operation = LoadRegister 0; to = 2 }
          ∷ record { process = 1; from = 1; operation = Arw 1 2 3; to = 0 }
          ∷ record { process = 0; from = 2; operation = StoreRegister 1; to = 0 }
          ∷ record { process = 0; from = 1; operation = TestRegister 2; to = 0 }
          ∷ record { process = 0; from = 2; operation = Read 1 3; to = 2 }
          ∷ [];
    }

-- Of three processes the first and the last have registers.
abbrev outer : RegisterProgram
outer =
    record {
      shape = record { processes = 3; variables = 1; values = λ v. 4; room = 4 };
      states = λ p. 3;
      initial = λ p. 0;
      transitions = step 2 0 (StoreRegister 0) ∷ step 1 0 (Write 0 1) ∷ step 0 0 (TestRegister 0) ∷ [];
    }

-- ---- what is written

abbrev goes : ℕ → ℕ → Operation → ℕ → Transition
goes p q o s = record { process = p; from = q; operation = o; to = s }

-- 6 from the local state 1 and the register value of `from`, which is 4 + r, to the local state 2 and what is read
abbrev loads : ℕ → List Transition → List Transition
loads from rest =
    goes 0 from (plain.Read 0 0) 8 ∷ goes 0 from (plain.Read 0 1) 9 ∷ goes 0 from (plain.Read 0 2) 10 ∷ goes 0 from (plain.Read 0 3) 11 ∷ rest

abbrev mixed_written : List Transition
mixed_written =
    goes 0 0 plain.Nop 4 ∷ goes 0 1 plain.Nop 5 ∷ goes 0 2 plain.Nop 6 ∷ goes 0 3 plain.Nop 7
    ∷ loads 4 (loads 5 (loads 6 (loads 7
    (goes 1 1 (plain.Arw 1 2 3) 0
    ∷ goes 0 8 (plain.Write 1 0) 0 ∷ goes 0 9 (plain.Write 1 1) 1 ∷ goes 0 10 (plain.Write 1 2) 2 ∷ goes 0 11 (plain.Write 1 3) 3
    ∷ goes 0 6 plain.Nop 2
    ∷ goes 0 8 (plain.Read 1 3) 8 ∷ goes 0 9 (plain.Read 1 3) 9 ∷ goes 0 10 (plain.Read 1 3) 10 ∷ goes 0 11 (plain.Read 1 3) 11
    ∷ []))))

abbrev outer_targets : List (List ℕ)
outer_targets =
    (4 ∷ 2 ∷ 8 ∷ []) ∷ (4 ∷ 2 ∷ 9 ∷ []) ∷ (4 ∷ 2 ∷ 10 ∷ []) ∷ (4 ∷ 2 ∷ 11 ∷ [])
    ∷ (5 ∷ 2 ∷ 8 ∷ []) ∷ (5 ∷ 2 ∷ 9 ∷ []) ∷ (5 ∷ 2 ∷ 10 ∷ []) ∷ (5 ∷ 2 ∷ 11 ∷ [])
    ∷ (6 ∷ 2 ∷ 8 ∷ []) ∷ (6 ∷ 2 ∷ 9 ∷ []) ∷ (6 ∷ 2 ∷ 10 ∷ []) ∷ (6 ∷ 2 ∷ 11 ∷ [])
    ∷ (7 ∷ 2 ∷ 8 ∷ []) ∷ (7 ∷ 2 ∷ 9 ∷ []) ∷ (7 ∷ 2 ∷ 10 ∷ []) ∷ (7 ∷ 2 ∷ 11 ∷ [])
    ∷ []

-- ---- the table

abbrev zeros : List ℕ
zeros = 0 ∷ 0 ∷ 0 ∷ 0 ∷ []

-- 2 in variable 0
abbrev twos : List ℕ
twos = 2 ∷ 0 ∷ 0 ∷ 0 ∷ []

abbrev pub cases : List Row
cases =
    -- 0
    ends (one Nop) zeros (Take 0 ∷ []) (1 ∷ []) (0 ∷ [])
    -- 1: the value must be there
    ∷ ends (one (Read 0 2)) twos (Take 0 ∷ []) (1 ∷ []) (0 ∷ [])
    ∷ stops (one (Read 0 1)) twos (Take 0 ∷ []) 0
    -- 2, which its writer reads at once
    ∷ ends (two (Write 0 3) (Read 0 3)) zeros (Take 0 ∷ Take 1 ∷ []) (2 ∷ []) (0 ∷ [])
    -- 3: nothing waits, and the pointer is at the newest message
    ∷ stops (two (Write 0 3) Mfence) zeros (Take 0 ∷ Take 1 ∷ []) 1
    ∷ stops (two (Write 0 3) Mfence) zeros (Take 0 ∷ Serialise 0 0 ∷ Take 1 ∷ []) 2
    ∷ ends (two (Write 0 3) Mfence) zeros (Take 0 ∷ Serialise 0 0 ∷ Update 0 ∷ Take 1 ∷ []) (2 ∷ []) (0 ∷ [])
    -- 4: nothing waits
    ∷ stops (two (Write 0 3) Sfence) zeros (Take 0 ∷ Take 1 ∷ []) 1
    ∷ ends (two (Write 0 3) Sfence) zeros (Take 0 ∷ Serialise 0 0 ∷ Take 1 ∷ []) (2 ∷ []) (0 ∷ [])
    -- 5, which is read at once
    ∷ ends (two (Arw 0 2 1) (Read 0 1)) twos (Take 0 ∷ Take 1 ∷ []) (2 ∷ []) (0 ∷ [])
    ∷ stops (one (Arw 0 1 2)) twos (Take 0 ∷ []) 0
    -- 6: what is seen in the variable goes into the register: memory's value, one's own that waits, another's after the update
    ∷ ends (one (LoadRegister 0)) twos (Take 0 ∷ []) (1 ∷ []) (2 ∷ [])
    ∷ ends (two (Write 0 3) (LoadRegister 0)) twos (Take 0 ∷ Take 1 ∷ []) (2 ∷ []) (3 ∷ [])
    ∷ ends passing twos (Take 0 ∷ Serialise 0 0 ∷ Take 1 ∷ []) (1 ∷ 1 ∷ []) (0 ∷ 2 ∷ [])
    ∷ ends passing twos (Take 0 ∷ Serialise 0 0 ∷ Update 1 ∷ Take 1 ∷ Take 2 ∷ []) (1 ∷ 2 ∷ []) (0 ∷ 3 ∷ [])
    -- 7: the register's value joins the queue, and stays in the register
    ∷ ends copying twos (Take 0 ∷ Take 1 ∷ Take 2 ∷ []) (3 ∷ []) (2 ∷ [])
    -- 8: it goes on if the register equals the value; registers start at 0
    ∷ ends (one (TestRegister 0)) twos (Take 0 ∷ []) (1 ∷ []) (0 ∷ [])
    ∷ stops (one (TestRegister 1)) twos (Take 0 ∷ []) 0
    ∷ stops passing twos (Take 0 ∷ Serialise 0 0 ∷ Take 1 ∷ Take 2 ∷ []) 3
    -- what is written: 4 + 16 + 1 + 4 + 1 + 4 transitions
    ∷ writes mixed (12 ∷ 2 ∷ []) (4 ∷ 1 ∷ []) mixed_written
    ∷ numbers mixed 1 2 3 15
    ∷ numbers mixed 2 0 0 20
    ∷ numbers mixed 4 2 0 25
    ∷ targets outer (1 ∷ 2 ∷ 2 ∷ []) outer_targets
    ∷ []
