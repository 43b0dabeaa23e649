-- The parts of a match between an entry and a cube, as the code holds them.
use Rattle.std.specs.Prelude.{ℕ, ◌+◌, ◌*◌, ◌≤◌, min, ◌≡◌, Bool, List, get_or}
use Rattle.machine_pws.specs.Machine.{all_below}
use Rattle.machine_pws.specs.Tagged.{tagged}
use Rattle.file_records.specs.declared.program.Shape.{Shape}
use Rattle.file_contents.specs.declared.entry.Cube.{Cube}
use Rattle.file_records.specs.ProgramPart.{shape_of}
use Rattle.file_contents.specs.declared.entry.Queue.{Queue}
use Rattle.file_contents.specs.Cube.{no_queue, waiting_of, configuration_of}
use Rattle.list_theory.specs.Matching.{subsequence, queue_matches, tag_matches}
use Rattle.list_key.specs.Relation.{relation}
use Rattle.list_key.specs.Tags.{tags_of}

-- the shape and the cubes have the sizes that the code has room for
pub record Sizes (s : Shape) (a b : Cube) : Type 0 where
  pub processes : s.processes ≤ 4
  pub variables : s.variables ≤ 4
  pub left : a.count ≤ 20
  pub right : b.count ≤ 20

-- and beside each cube stand its tags
pub record Suits (s : Shape) (a : Cube) (left : List ℕ) (b : Cube) (right : List ℕ) : Type 0 where
  pub sizes : Sizes s a b
  pub left_tags : left ≡ tags_of s a
  pub right_tags : right ≡ tags_of s b

-- the queues of process p
unfoldable pub queue_row : ℕ → Bool → List Queue → List Queue → ℕ → Bool
queue_row variables exact a b p =
    all_below (min variables 4) (λ v. queue_matches (relation exact) (waiting_of (get_or a (4 * p + v) no_queue)) (waiting_of (get_or b (4 * p + v) no_queue)))

-- the last of the three tests of `matches`
unfoldable pub channel_matches : Shape → Bool → Cube → Cube → Bool
channel_matches s exact a b = subsequence (tag_matches (relation exact)) (tagged (shape_of s) (configuration_of a).memory) (tagged (shape_of s) (configuration_of b).memory)
