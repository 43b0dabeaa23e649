-- How the cubes in whose memory a process can come to see a value are walked. No statement rests on these definitions.
use Rattle.std.specs.Prelude.{ℕ, ◌+◌, ◌<◌, ◌≤◌, Bool, true, false, ◌&&◌, List, [], map, length, get_or, ltb}
use Rattle.machine_pws.specs.Program as pws
use Rattle.machine_pws.specs.Machine.{Configuration}
use Rattle.list_theory.specs.Lists.{for_below}
use Rattle.file_records.specs.declared.program.Shape.{Shape}
use Rattle.file_contents.specs.declared.entry.Cube.{Cube}
use Rattle.file_contents.specs.Cube.{no_queue, configuration_of}
use Rattle.list_theory.specs.Seen.{valued, witnessed, seen_memories, with_memory}
use Rattle.list_cube.specs.Editing.{LastWrites}
use Rattle.list_targets.specs.declared.seen.Sight.{Sight}
use Rattle.list_targets.specs.declared.seen.View.{View}

-- an entry with the messages and pointers of a shape
abbrev pub moved_to : Cube → Cube → Cube
moved_to e c = record { states = e.states; pointers = c.pointers; queues = e.queues; messages = c.messages; count = c.count }

-- messages can be put into such a cube, if it has room for them
pub record Movable (s : Shape) (c : Cube) : Type 0 where
  pub processes : s.processes ≤ 4
  pub variables : s.variables ≤ 4
  pub pointers : (q : ℕ) → q < 4 → get_or c.pointers q 0 < 255
  pub queues : (i : ℕ) → i < 16 → (get_or c.queues i no_queue).count ≤ 9

-- room for one message more, and a LastWrite of the process and variable
abbrev pub room_for : Sight → ℕ → Bool
room_for sight n = ltb n 20 && (ltb sight.process 4 && ltb sight.variable 4)

-- a cube that has it, with its LastWrites
pub record Seeing (s : Shape) (c : Cube) (ws : List ℕ) (sight : Sight) : Type 0 where
  pub movable : Movable s c
  pub room : c.count < 20
  pub process : sight.process < 4
  pub variable : sight.variable < 4
  pub writes : LastWrites ws (configuration_of c).memory

abbrev pub IsView : Shape → View → Type 0
IsView s v = Seeing s v.cube v.writes v.sight

-- c with the value in message i + 1; with a message put in as that number, of one label and of each
abbrev pub valued_at : Configuration → Sight → ℕ → List Configuration
valued_at c sight i = map (with_memory c) (valued sight.process sight.variable sight.value c.memory (i + 1))

abbrev pub witnessed_at : pws.Shape → Configuration → Sight → ℕ → ℕ → ℕ → List Configuration
witnessed_at S c sight i r u = map (with_memory c) (witnessed S sight.process sight.variable sight.value c.memory (i + 1) r u)

abbrev pub labelled_at : pws.Shape → Configuration → Sight → ℕ → List Configuration
labelled_at S c sight i = for_below S.processes (λ r. for_below S.variables (λ u. witnessed_at S c sight i r u))

-- c with each memory in which the process can come to see the value; none where there is no room
abbrev pub seen_at : pws.Shape → Sight → Configuration → List Configuration
seen_at S sight c = elim (room_for sight (length c.memory.channel)) [
  | true ↦ map (with_memory c) (seen_memories S sight.process sight.variable sight.value c.memory)
  | false ↦ []
]
