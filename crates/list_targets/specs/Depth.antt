-- What the parts of the walk are handed.
use Rattle.std.specs.Prelude.{ℕ, ◌<◌, ◌≤◌, ◌≡◌}
use Rattle.file_records.specs.declared.program.Shape.{Shape}
use Rattle.file_contents.specs.declared.entry.Cube.{Cube}
use Rattle.file_records.specs.ProgramPart.{shape_of}
use Rattle.list_theory.specs.Shapes.{longest}
use Rattle.list_targets.specs.ShapeCube.{Roomy}

pub record SmallShape (s : Shape) : Type 0 where
  pub some : 1 ≤ s.processes
  pub processes : s.processes ≤ 4
  pub variables : s.variables ≤ 4

-- the queues of p from v on are to be walked
pub record AtQueue (s : Shape) (c : Cube) (p v : ℕ) : Type 0 where
  pub small : SmallShape s
  pub process : p < s.processes
  pub variable : v ≤ s.variables
  pub roomy : Roomy c

-- d messages are there, of at most so many
pub record AtMessage (s : Shape) (most d : ℕ) : Type 0 where
  pub small : SmallShape s
  pub longest : most ≡ longest (shape_of s)
  pub room : most ≤ 20
  pub depth : d ≤ most

-- and one with the label (p, v) is to come; the processes below q are placed, or not
pub record AtPlace (s : Shape) (most d p v q : ℕ) : Type 0 where
  pub message : AtMessage s most d
  pub more : d < most
  pub process : p < s.processes
  pub variable : v < s.variables
  pub place : q ≤ s.processes
