-- A file with a list both ways. The order of an entry's 11s and 12s is free where its channel and its queues are the same.
use Rattle.std.specs.Prelude.{ℕ, ◌≤◌, ◌≡◌, List, ◌++◌}
use Rattle.machine_pws.specs.Program.{Program}
use Rattle.machine_pws.specs.Machine.{Configuration}
use Rattle.file_contents.specs.Reading.{Input, combined, pair, list, read_file}
use Rattle.file_again.specs.Contents.{ListRead}
use Rattle.file_written.specs.Written.{EntryRecords, entries_of, records_of_all, program_bytes, list_bytes}
use Rattle.file_written.specs.ProgramPart.{ProgramContents}
use Rattle.file_written.specs.Runs.{BothReadAs}

-- In whatever order an entry's records are written: if what they say is within the limits (`ListRead`), of which the count goes by the work area, it is read.
abbrev pub RecordsWrittenIsRead : Type 0
RecordsWrittenIsRead = (P : Program) (ts : List (ℕ → ℕ)) (rs : List EntryRecords) (area : ℕ) → ProgramContents P ts → ListRead P ts (entries_of rs) area → 65536 ≤ area
    → BothReadAs (program_bytes P ts) (list_bytes rs) area (list P ts (entries_of rs))

-- and so each list within the limits is read from the file that has its entries' records in one order
abbrev pub ListWrittenIsRead : Type 0
ListWrittenIsRead = (P : Program) (ts : List (ℕ → ℕ)) (es : List Configuration) (area : ℕ) → ProgramContents P ts → ListRead P ts es area → 65536 ≤ area
    → BothReadAs (program_bytes P ts) (list_bytes (records_of_all P.shape es)) area (list P ts es)

-- What is read as a list is written by the records of its entries, in some order.
abbrev pub ListReadIsWritten : Type 0
ListReadIsWritten = (P : Program) (ts : List (ℕ → ℕ)) (es : List Configuration) (area : ℕ)
    → ((f : List ℕ) → read_file (combined f) area ≡ list P ts es → (rs : List EntryRecords) × (entries_of rs ≡ es) × (f ≡ program_bytes P ts ++ list_bytes rs))
    × ((g f : List ℕ) → read_file (pair g f) area ≡ list P ts es → (rs : List EntryRecords) × (entries_of rs ≡ es) × (g ≡ program_bytes P ts) × (f ≡ list_bytes rs))

-- and what is read is within the limits
abbrev pub ListReadIsWithin : Type 0
ListReadIsWithin = (x : Input) (P : Program) (ts : List (ℕ → ℕ)) (es : List Configuration) (area : ℕ) → read_file x area ≡ list P ts es
    → ProgramContents P ts × ListRead P ts es area × (65536 ≤ area)
