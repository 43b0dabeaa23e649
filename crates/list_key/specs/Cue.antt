-- Cues: a message and whether it has a role, in one number. No statement rests on these definitions.
use Rattle.std.specs.Prelude.{ℕ, ◌+◌, ◌*◌, ◌<◌, min, ◌≡◌, List, length, get_or}
use Rattle.machine_pws.specs.declared.Message.{Message}
use Rattle.machine_pws.specs.Machine.{no_message}
use Rattle.file_contents.specs.declared.entry.Cube.{Cube}
use Rattle.list_key.specs.Word.{Word}

-- a message of four values, each of a byte, and, if the number is even, no role
pub record Cue (r : ℕ) (m : Message) (tag : ℕ) : Type 0 where
  pub label : ℕ
  pub rest : ℕ
  pub odd : ℕ
  pub is : r ≡ 2 * (label + 65536 * rest) + odd
  pub bit : odd < 2
  pub none : odd ≡ 0 → tag < 65536
  pub labels : Word m.process m.variable 0 0 label
  pub four : length m.snapshot ≡ 4
  pub snapshot : Word (get_or m.snapshot 0 0) (get_or m.snapshot 1 0) (get_or m.snapshot 2 0) (get_or m.snapshot 3 0) rest

-- the messages of a cube, with their tags
abbrev pub Cues : Cube → List ℕ → List ℕ → Type 0
Cues c tags cues = (j : ℕ) → j < min c.count 20 → Cue (get_or cues j 0) (get_or c.messages j no_message) (get_or tags j 0)
