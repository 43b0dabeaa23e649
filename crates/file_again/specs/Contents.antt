-- What holds of the contents of every file that is read (document 01, "Records"): what the theorems of the machine and of lists assume.
use Rattle.std.specs.Prelude.{ℕ, ◌<◌, ◌≤◌, ◌≡◌, List, length, get_or}
use Rattle.machine_pws.specs.declared.Step.{Step}
use Rattle.machine_pws.specs.declared.Step.TheVariants.{Take, Serialise, Update}
use Rattle.machine_pws.specs.Program.{Program, ProgramInRange}
use Rattle.machine_pws.specs.Machine.{Configuration}
use Rattle.machine_pws.specs.Configurations.{StatesOf, StartingMemory}
use Rattle.machine_pws.specs.Entries.{EntryOf, entry}
use Rattle.file_records.specs.declared.program.Program as declared
use Rattle.file_records.specs.Records.{value_count}
use Rattle.file_contents.specs.declared.entry.Cube.{Cube}
use Rattle.file_contents.specs.EvidencePart.{entries_allowed}
use Rattle.file_contents.specs.Cube.{no_queue}

-- the program and its targets
pub record ProgramPartRead (P : Program) (ts : List (ℕ → ℕ)) : Type 0 where
  pub program : ProgramInRange P
  pub states : (p : ℕ) → p < P.shape.processes → P.states p ≤ 32
  pub transitions : length P.transitions ≤ 256
  pub targets : (k : ℕ) → k < length ts → StatesOf P (get_or ts k (λ p. 0))
  pub some_target : 1 ≤ length ts
  pub few_targets : length ts ≤ 4096

-- an entry: a cube of the program with some pointer at 1, no more than 16 messages, and no more than 8 waiting values in a queue
pub record EntryRange (P : Program) (e : Configuration) : Type 0 where
  pub of : EntryOf P e
  pub first : (q : ℕ) × (q < P.shape.processes) × (e.memory.pointer q ≡ 1)
  pub messages : length e.memory.channel ≤ 16
  pub waiting : (p v : ℕ) → length (e.queue p v) ≤ 8

-- claim 0, with a work area of so many bytes
pub record ListRead (P : Program) (ts : List (ℕ → ℕ)) (es : List Configuration) (area : ℕ) : Type 0 where
  pub part : ProgramPartRead P ts
  pub entries : (k : ℕ) → k < length es → EntryRange P (entry es k)
  pub count : length es ≤ entries_allowed area

-- a step names what exists
abbrev pub StepOf : Program → Step → Type 0
StepOf P (Take n) = n < length P.transitions
StepOf P (Serialise p v) = (p < P.shape.processes) × (v < P.shape.variables)
StepOf P (Update p) = p < P.shape.processes

-- claims 1 and 2
pub record RunRead (P : Program) (ts : List (ℕ → ℕ)) (memory : List ℕ) (ss : List Step) : Type 0 where
  pub part : ProgramPartRead P ts
  pub permitted : StartingMemory P.shape memory
  pub steps : (k : ℕ) → k < length ss → StepOf P (get_or ss k (Update 0))
  pub count : length ss ≤ 1024

-- ---- what the code holds

-- the places and counts that the program part hands on
pub record ProgramSizes (p : declared.Program) : Type 0 where
  pub processes : (1 ≤ p.shape.processes) × (p.shape.processes ≤ 4)
  pub variables : (1 ≤ p.shape.variables) × (p.shape.variables ≤ 4)
  pub values : (v : ℕ) → v < p.shape.variables → (1 ≤ value_count p.shape v) × (value_count p.shape v ≤ 4)
  pub transitions : p.transitions.count ≤ 256
  pub targets : (1 ≤ p.targets.count) × (p.targets.count ≤ 4096)
  pub claim : p.claim ≤ 22547

-- an entry
pub record CubeRange (c : Cube) : Type 0 where
  pub some : 1 ≤ c.count
  pub messages : c.count ≤ 16
  pub waiting : (k : ℕ) → k < 16 → (get_or c.queues k no_queue).count ≤ 8
