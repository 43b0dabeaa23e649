-- The predecessor cubes of an entry as the code makes them, and the entries that it makes them of.
use Rattle.std.specs.Prelude.{ℕ, ◌+◌, ◌*◌, ◌<◌, ◌≤◌, ◌≡◌, List, ◌∷◌, get_or, set}
use Rattle.machine_pws.specs.declared.Operation.{Operation}
use Rattle.machine_pws.specs.Program as pws
use Rattle.machine_pws.specs.Machine.{Memory, Configuration, message, last_write, put, put_queue}
use Rattle.list_theory.specs.Cubes.{topmost, any_message}
use Rattle.list_theory.specs.Predecessors as lists
use Rattle.file_contents.specs.declared.entry.Queue.{Queue}
use Rattle.file_contents.specs.declared.entry.Cube.{Cube}
use Rattle.file_contents.specs.Cube.{no_queue, queue_of, configuration_of}

-- ---- the cubes that `lists.cube` has for each step, of a transition by its parts and not by its number

abbrev pub take_before : Configuration → ℕ → ℕ → Operation → lists.Kind → Configuration
take_before e p x o k = record { state = put e.state p x; queue = lists.queue_before e p o k; memory = lists.memory_before e p o k }

abbrev pub serialise_before : pws.Shape → Configuration → ℕ → ℕ → lists.Kind → Configuration
serialise_before S e p v k =
    record {
      state = e.state;
      queue = put_queue e.queue p v (get_or (topmost e.memory.channel).snapshot v 0 ∷ e.queue p v);
      memory = lists.serialise_memory S e.memory p v k;
    }

abbrev pub update_before : pws.Shape → Configuration → ℕ → lists.Kind → Configuration
update_before S e p k = record { state = e.state; queue = e.queue; memory = lists.update_memory S e.memory p k }

-- The message that p points at has this label and free values, no other process points at it, and the LastWrite of the label is past it: with one more
-- such message before it, at which p points, nothing is said that the memory does not say.
pub record Repeats (S : pws.Shape) (m : Memory) (p r u : ℕ) : Type 0 where
  pub message : message m.channel (m.pointer p) ≡ any_message S r u
  pub alone : (q : ℕ) → q < S.processes → (q ≡ p → ⊥) → m.pointer q ≡ m.pointer p → ⊥
  pub past : m.pointer p < last_write m r u

-- ---- parts of a cube

-- r is c with p in another state, and another queue of p and v
abbrev pub Requeued : Cube → Cube → ℕ → ℕ → ℕ → Queue → Type 0
Requeued r c p x v q =
    r ≡ record { states = set c.states p x; pointers = c.pointers; queues = set c.queues (4 * p + v) q; messages = c.messages; count = c.count }

-- in these queues the value of v of c's newest message waits again, as the oldest of p
pub record Again (qs : List Queue) (c : Cube) (p v : ℕ) : Type 0 where
  pub waiting : queue_of qs ≡ put_queue (configuration_of c).queue p v (get_or (topmost (configuration_of c).memory.channel).snapshot v 0 ∷ (configuration_of c).queue p v)
  pub most : (i : ℕ) → i < 16 → (get_or qs i no_queue).count ≤ 9
