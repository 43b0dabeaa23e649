-- The table of entries of which a family is full. No statement rests on these definitions.
use Rattle.std.specs.Prelude.{ℕ, ◌+◌, ◌-◌, ◌/◌, ◌%◌, ◌<◌, ◌≤◌, cond, List, length, eqb}
use Rattle.machine_pws.specs.Program.{Shape}
use Rattle.machine_pws.specs.Machine.{Configuration}
use Rattle.machine_pws.specs.Entries.{entry}
use Rattle.list_theory.specs.Family.{Clue, newest, sees, InFamily, FamilyHeld}
use Rattle.file_records.specs.declared.program.Shape as file
use Rattle.list_known.specs.declared.families.Clue as code
use Rattle.list_known.specs.declared.families.Clue.TheVariants.{Newest, Sees}
use Rattle.file_records.specs.ProgramPart.{shape_of}
use Rattle.file_contents.specs.declared.entry.Cube.{Cube}
use Rattle.file_contents.specs.Cube.{configuration_of}
use Rattle.file_again.specs.Again.{cube_at}
use Rattle.list_summary.specs.Slots.{word}

-- the number of the entry that stands at word i of a table, counted from 1, 0 for none; the upper bits of a word say nothing
unfoldable pub standing : List ℕ → ℕ → ℕ
standing table i = word table i % 1048576

-- what a clue asks of a memory, and what a number does
abbrev pub asked : code.Clue → Clue
asked Newest = newest
asked (Sees p v x) = sees p v x

unfoldable pub clue_of : ℕ → Clue
clue_of x = cond (eqb x 0) newest (sees ((x - 1) / 16 % 4) ((x - 1) / 4 % 4) ((x - 1) % 4))

-- A table of entries of which a family is full: 1,024 words, each with the number of an entry, and as many words from 2,048 on that say which family; other words are
-- not asked. What it has of other numbers says nothing.
abbrev pub Families : Shape → List Configuration → List ℕ → Type 0
Families S es table = (i : ℕ) → i < 1024 → 1 ≤ standing table i → standing table i ≤ length es → FamilyHeld S es (clue_of (word table (2048 + i))) (entry es (standing table i - 1))

-- a cube is in the family of an entry that stands in the table
pub record Recorded (table f list : List ℕ) (n : ℕ) (s : file.Shape) (c : Cube) : Type 0 where
  pub slot : ℕ
  pub low : slot < 1024
  pub some : 1 ≤ standing table slot
  pub known : standing table slot ≤ n
  pub inside : s.processes ≤ 4 → s.variables ≤ 4 → InFamily (shape_of s) (clue_of (word table (2048 + slot))) (configuration_of (cube_at f list (standing table slot - 1))) (configuration_of c)
