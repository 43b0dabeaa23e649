-- Small pattern files and the record that each hands back, as bytes. Files and records are those of pattern_reading, Cases.
use Rattle.std.specs.Prelude.{ℕ, ◌≤◌, ◌≡◌, List, [], ◌∷◌, ◌++◌}
use Rattle.file_contents.specs.Reading.{Input, combined, pair}
use Rattle.pattern_reading.specs.Reading.{read_patterns}
use Rattle.pattern_reading.specs.Cases.{head, target, claim, pattern, value, reads, mark, one, write_read, second}
use Rattle.pattern_verdict.specs.Offending.{patterns_offending}

pub data RecordRow : Type 0 where
  row : Input → List ℕ → RecordRow

abbrev pub record_rows : List RecordRow
record_rows =
    -- 7: the 13 of the pattern, which ended with the file or at the next 13
    row (combined (write_read ++ second ++ pattern 1 255 ++ reads 0 0 ++ mark 1)) (pattern 1 255)
    ∷ row (combined (one ++ pattern 1 255 ++ mark 1 ++ pattern 0 0)) (pattern 1 255)
    -- 5: the second 15
    ∷ row (combined (one ++ pattern 1 255 ++ mark 0 ++ mark 1 ++ value 0)) (mark 1)
    -- 4: a 14 with its own byte
    ∷ row (combined (one ++ pattern 1 255 ++ reads 0 2 ++ value 0)) (reads 0 2)
    -- 2: an 11 is no kind of these files
    ∷ row (combined (one ++ pattern 1 255 ++ (17 ∷ 0 ∷ 0 ∷ []))) (17 ∷ [])
    -- 1: as much as there is
    ∷ row (combined (one ++ (19 ∷ 1 ∷ []))) (19 ∷ 1 ∷ [])
    -- 6, and what was read: nothing
    ∷ row (combined (head ++ target 1)) []
    ∷ row (combined (one ++ pattern 1 255)) []
    -- in a program file
    ∷ row (pair (head ++ target 1 ++ claim) (claim ++ pattern 1 255)) claim
    ∷ []

-- with every work area that is not refused
abbrev pub HandsBack : RecordRow → Type 0
HandsBack (row x bytes) = (area : ℕ) → 65536 ≤ area → (patterns_offending x (read_patterns x area)).bytes ≡ bytes

abbrev pub EachHandsBack : List RecordRow → Type 0
EachHandsBack [] = Unit {0}
EachHandsBack (r ∷ rs) = HandsBack r × EachHandsBack rs
