-- There is room for every program part.
use Rattle.std.specs.Prelude.{Ok}
use Prim.Native.Nat.{ℕ, ◌≤◌}
use mathlib.Core.Path.{◌≡◌}
use mathlib.Core.Bool.{true}
use mathlib.Core.List.{List}
use native.Mathlib.Omega.{arith}
use lib.ListN.{length}
use borrow.Author.Tests.{leb-true}
use Rattle.file_records.specs.ProgramPart.{program_from, whether, program_read}
use Rattle.file_again.proofs.ProgramPart.{claim_near}
use Rattle.file_written.proofs.ProgramRead.{part_written}
use Rattle.report_marks.specs.Copy.{room}

pub program_short : (g : List ℕ) → whether (program_from true g 0) ≡ Ok tt → length g ≤ room
program_short g q =
    omega (arith, leb-true (length g) (program_read (program_from true g 0)).claim (part_written true g q).shut, claim_near true g 0 q)
