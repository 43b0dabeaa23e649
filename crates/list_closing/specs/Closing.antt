-- What is read in a Closing: its program and its entries, and what is said of a cube.
use Rattle.std.specs.Prelude.{ℕ, ◌≡◌, Bool, List}
use Rattle.machine_pws.specs.Program as pws
use Rattle.machine_pws.specs.Machine.{Configuration}
use Rattle.list_theory.specs.Decision.{held}
use Rattle.file_contents.specs.declared.entry.Cube.{Cube}
use Rattle.file_records.specs.ProgramPart.{shape_of, program_of}
use Rattle.file_contents.specs.Cube.{configuration_of}
use Rattle.file_again.specs.Again.{cube_at, entries_of}
use Rattle.list_known.specs.FamilyTable.{Recorded}
use Rattle.list_cover.specs.Search.{Searchable}
use Rattle.list_closing.specs.declared.closing.Closing.{Closing}

abbrev pub program_in : Closing → pws.Program
program_in w = program_of w.code.now w.program

abbrev pub entries_in : Closing → List Configuration
entries_in w = entries_of w.listing.file.now w.listing.offsets.now w.listing.count

-- entry k
abbrev pub cube_in : Closing → ℕ → Cube
cube_in w k = cube_at w.listing.file.now w.listing.offsets.now k

-- the table of full families has that of the cube
abbrev pub RecordedIn : Closing → Cube → Type 0
RecordedIn w c = Recorded w.families.now w.listing.file.now w.listing.offsets.now w.listing.count w.program.shape c

-- r says whether the cube is held, if it can be searched for
abbrev pub Answers : Closing → Cube → Bool → Type 0
Answers w c r =
    Searchable w.listing.file.now w.listing.offsets.now w.listing.summary.now w.listing.count w.program.shape c
    → r ≡ held (shape_of w.program.shape) (entries_in w) (configuration_of c)
