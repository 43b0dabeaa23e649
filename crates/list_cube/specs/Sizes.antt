-- The sizes that the code has room for, and a shape with initial states as a program.
use Rattle.std.specs.Prelude.{ℕ, ◌≤◌, List, [], get_or}
use Rattle.machine_pws.specs.Program as pws
use Rattle.file_records.specs.declared.program.Shape.{Shape}
use Rattle.file_records.specs.ProgramPart.{shape_of}

pub record Small (s : Shape) : Type 0 where
  pub processes : s.processes ≤ 4
  pub variables : s.variables ≤ 4

-- of a program, what a test for a start looks at: `looks_started` of a file's program computes to that of this one
abbrev pub starts_of : Shape → List ℕ → pws.Program
starts_of s initial = record { shape = shape_of s; states = λ q. 0; initial = λ q. get_or initial q 0; transitions = [] }
