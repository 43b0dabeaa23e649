-- An irreducible shape as the code holds it.
use Rattle.std.specs.Prelude.{ℕ, ◌+◌, ◌*◌, ◌≤◌, ◌≡◌, List, [], ◌∷◌, length, get_or, set, take}
use Rattle.machine_pws.specs.declared.Message.{Message}
use Rattle.machine_pws.specs.Machine.{Configuration}
use Rattle.file_records.specs.declared.program.Shape.{Shape}
use Rattle.file_contents.specs.declared.entry.Queue.{Queue}
use Rattle.file_contents.specs.declared.entry.Cube.{Cube}
use Rattle.file_records.specs.ProgramPart.{shape_of}
use Rattle.file_contents.specs.Cube.{configuration_of}
use Rattle.list_theory.specs.Shapes.{Outline, outline_memory}

-- the cube has room for its messages and waiting values
pub record Roomy (c : Cube) : Type 0 where
  pub queues : length c.queues ≡ 16
  pub messages : c.count ≤ 20
  pub waiting : (p v : ℕ) → length ((configuration_of c).queue p v) ≤ 9

-- n messages, which stand newest first, and places counted from 1 at the newest
abbrev pub outline_of : List Message → ℕ → List ℕ → Outline
outline_of messages n places = record { channel = take n messages; place = λ q. get_or places q 0 }

abbrev pub empty_shape : Shape → List ℕ → Outline → Configuration
empty_shape s states o = record { state = λ q. get_or states q 0; queue = λ p v. []; memory = outline_memory (shape_of s) o }

pub record ShapeCube (s : Shape) (states : List ℕ) (messages : List Message) (n : ℕ) (places : List ℕ) (c : Cube) : Type 0 where
  pub roomy : Roomy c
  pub stands : configuration_of c ≡ empty_shape s states (outline_of messages n places)

abbrev pub one_free : Queue
one_free = record { values = 255 ∷ 0 ∷ 0 ∷ 0 ∷ 0 ∷ 0 ∷ 0 ∷ 0 ∷ 0 ∷ []; count = 1 }

abbrev pub with_waiting : Cube → ℕ → ℕ → Cube
with_waiting c p v =
    record {
      states = c.states;
      pointers = c.pointers;
      queues = set c.queues (4 * p + v) one_free;
      messages = c.messages;
      count = c.count;
    }
