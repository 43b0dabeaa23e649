-- What an entry is matched against: a cube with the cues of its messages.
use Rattle.std.specs.Prelude.{ℕ, ◌≤◌, List}
use Rattle.file_records.specs.declared.program.Shape.{Shape}
use Rattle.file_contents.specs.declared.entry.Cube.{Cube}
use Rattle.list_key.specs.Tags.{tags_of}
use Rattle.list_key.specs.Cue.{Cues}

-- the sizes that the code has room for
pub record Sized (s : Shape) (c : Cube) : Type 0 where
  pub processes : s.processes ≤ 4
  pub variables : s.variables ≤ 4
  pub messages : c.count ≤ 20

-- a cube with the cues of its messages
pub record Against (s : Shape) (c : Cube) (cues : List ℕ) : Type 0 where
  pub sized : Sized s c
  pub are : Cues c (tags_of s c) cues
