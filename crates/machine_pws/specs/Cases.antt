-- The worked cases G to K of document 01 ("Judged files"), as a table with one statement. Here a run is given by its program and steps
-- and judged by the machine; the cases that are files are rows of bytes in the judge's table.
use Rattle.std.specs.Prelude.{ℕ, zero, suc, ◌≡◌, Bool, true, false, List, [], ◌∷◌}
use Rattle.machine_pws.specs.declared.Message.{Message}
use Rattle.machine_pws.specs.declared.Operation.{Operation}
use Rattle.machine_pws.specs.declared.Operation.TheVariants.{Nop, Read, Write, Mfence, Sfence, Arw}
use Rattle.machine_pws.specs.declared.Transition.{Transition}
use Rattle.machine_pws.specs.declared.Step.{Step}
use Rattle.machine_pws.specs.declared.Step.TheVariants.{Take, Serialise, Update}
use Rattle.machine_pws.specs.Program.{Shape, Program}
use Rattle.machine_pws.specs.Machine.{Memory, Configuration}
use Rattle.machine_pws.specs.Configurations.{Start, starting_memory, InTarget}
use Rattle.machine_pws.specs.Order.{QueueBelow, Maps}
use Rattle.machine_pws.specs.Sequences.{Takes, replay, Replay, stopped}

-- ---- rows and what they say

pub data Row : Type 0 where
  -- from this memory the machine takes these steps and ends with all processes in this local state
  ends : Program → List ℕ → List Step → ℕ → Row
  -- from this memory the machine cannot take the step of this number
  stops : Program → List ℕ → List Step → ℕ → Row
  -- the first queue is below the second, or is not
  below : List ℕ → List ℕ → Row
  not_below : List ℕ → List ℕ → Row
  -- no map takes the first memory's messages to the second's
  not_mapped : Shape → Memory → Memory → Row

-- runs are from every start with the memory
unfoldable pub Holds : Row → Type 0
Holds (ends P m ss q) = (c : Configuration) → Start P c → starting_memory c ≡ m → (d : Configuration) × Takes P c ss d × InTarget P.shape (λ p. q) d
Holds (stops P m ss k) = (c : Configuration) → Start P c → starting_memory c ≡ m → replay P 0 c ss ≡ stopped k
Holds (below xs ys) = QueueBelow xs ys
Holds (not_below xs ys) = QueueBelow xs ys → ⊥
Holds (not_mapped S m n) = (h : ℕ → ℕ) → Maps S m n h → ⊥

-- ---- the programs

-- process p goes from local state q to q + 1
abbrev step : ℕ → ℕ → Operation → Transition
step p q o = record { process = p; from = q; operation = o; to = suc q }

abbrev program : ℕ → ℕ → List Transition → Program
program processes variables ts =
    record {
      shape = record { processes = processes; variables = variables; values = λ v. 2; room = 4 };
      states = λ p. 4;
      initial = λ p. 0;
      transitions = ts;
    }

-- process 0 writes variable 0 := 1, then variable 1 := 1; process 1 reads variable 1 as 1, then variable 0 as 0
abbrev pub program_g : Program
program_g = program 2 2 (step 0 0 (Write 0 1) ∷ step 0 1 (Write 1 1) ∷ step 1 0 (Read 1 1) ∷ step 1 1 (Read 0 0) ∷ [])

-- G with an sfence between the writes
abbrev pub program_j : Program
program_j = program 2 2 (step 0 0 (Write 0 1) ∷ step 0 1 Sfence ∷ step 0 2 (Write 1 1) ∷ step 1 0 (Read 1 1) ∷ step 1 1 (Read 0 0) ∷ [])

-- one process writes 1; then it may read 1, read 0, or pass one of the fences
abbrev pub program_h : Program
program_h = program 1 1 (step 0 0 (Write 0 1) ∷ step 0 1 (Read 0 1) ∷ step 0 1 (Read 0 0) ∷ step 0 1 Sfence ∷ step 0 1 Mfence ∷ [])

-- one process reads 1
abbrev pub program_n : Program
program_n = program 1 1 (step 0 0 (Read 0 1) ∷ [])

-- ---- the memories

abbrev pub zeros : List ℕ
zeros = 0 ∷ 0 ∷ 0 ∷ 0 ∷ []

-- message i has the value i - 1 and the label (0, 0)
abbrev counting : ℕ → List Message
counting zero = []
counting (suc i) = record { process = 0; variable = 0; snapshot = i ∷ 0 ∷ 0 ∷ 0 ∷ [] } ∷ counting i

-- one process, which points at the oldest of n messages
abbrev pub messages : ℕ → Memory
messages n = record { channel = counting n; pointer = λ p. 1 }

-- ---- the table

pub data Each (F : Row → Type 0) : List Row → Type 0 where
  no_row : Each F []
  row : {r : Row} {rs : List Row} → F r → Each F rs → Each F (r ∷ rs)

abbrev pub cases : List Row
cases =
    -- G
    ends program_g zeros (Take 0 ∷ Take 1 ∷ Serialise 0 1 ∷ Update 1 ∷ Take 2 ∷ Take 3 ∷ []) 2
    -- H: read 1 with the pointer still at 1; reading 0 there is not permitted
    ∷ ends program_h zeros (Take 0 ∷ Serialise 0 0 ∷ Take 1 ∷ []) 2
    ∷ stops program_h zeros (Take 0 ∷ Serialise 0 0 ∷ Take 2 ∷ []) 2
    -- I: after that serialise sfence is permitted and mfence is not; after one update mfence is
    ∷ ends program_h zeros (Take 0 ∷ Serialise 0 0 ∷ Take 3 ∷ []) 2
    ∷ stops program_h zeros (Take 0 ∷ Serialise 0 0 ∷ Take 4 ∷ []) 2
    ∷ ends program_h zeros (Take 0 ∷ Serialise 0 0 ∷ Update 0 ∷ Take 4 ∷ []) 2
    -- J
    ∷ stops program_j zeros (Take 0 ∷ Take 1 ∷ []) 1
    -- a value that is only there at the start
    ∷ ends program_n (1 ∷ 0 ∷ 0 ∷ 0 ∷ []) (Take 0 ∷ []) 1
    ∷ stops program_n zeros (Take 0 ∷ []) 0
    -- K
    ∷ below (1 ∷ []) (0 ∷ 1 ∷ [])
    ∷ not_below (1 ∷ []) (1 ∷ 0 ∷ [])
    -- tempting and wrong: the second message, which is not matched, is a LastWrite
    ∷ not_mapped program_h.shape (messages 1) (messages 2)
    ∷ []
