-- The program part of a report, copied with one fence a nop: the program file that the run of a mark is judged for (document 02, N10: "a run in
-- which that fence is a nop").
use Rattle.std.specs.Prelude.{ℕ, ◌+◌, ◌*◌, min, ◌≡◌, true, List, length, set, replicate}
use Rattle.std.proofs.Math.Seq.{paste}
use Rattle.machine_pws.specs.declared.Step.{Step}
use Rattle.machine_pws.specs.Program.{Program}
use Rattle.file_records.specs.declared.program.Program as records
use Rattle.file_records.specs.ProgramPart.{program_from, program_read}
use Rattle.file_contents.specs.Reading.{pair, run, read_file}
use Rattle.report_theory.specs.Nops.{with_nops, only, FenceOf}

-- where the operation of transition n stands: behind the kind, the process and the first state of its 03
abbrev pub operation_place : records.Program → ℕ → ℕ
operation_place p n = p.transitions.at + 8 * n + 3

-- the bytes of a program file, with 0, the number of nop, there
abbrev pub nopped : List ℕ → ℕ → List ℕ
nopped g n = set g (operation_place (program_read (program_from true g 0)) n) 0

-- A run that is read for a program is read, from the same evidence, for the program in which one of its fences is a nop, where the copy
-- stands for the program file.
abbrev pub CopyReads : Type 0
CopyReads =
    (g e : List ℕ) (area n : ℕ) (P : Program) (ts : List (ℕ → ℕ)) (m : List ℕ) (ss : List Step) → read_file (pair g e) area ≡ run P ts m ss → FenceOf P n
    → read_file (pair (nopped g n) e) area ≡ run (with_nops P (only n)) ts m ss

-- ---- the copy

-- room for the longest program part: 01, four 02s, 256 of 03, 4,096 of 04
abbrev pub room : ℕ
room = 22547

-- as many bytes of g as there is room for, followed by zeros, with 0 at `at`
unfoldable pub copied_in : ℕ → List ℕ → ℕ → List ℕ
copied_in n g at = set (paste (replicate n 0) 0 g (min (length g) n)) at 0

abbrev pub copied_with : List ℕ → ℕ → List ℕ
copied_with g at = copied_in room g at
