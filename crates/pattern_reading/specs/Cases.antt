-- The small files of docs/PATTERNS.md and small examples of its refusals, as rows of bytes with what is said of them. Bytes are in decimal: 15 is 0F, 18 to
-- 21 are 12 to 15, 255 is FF.
use Rattle.std.specs.Prelude.{ℕ, ◌≤◌, ◌≡◌, List, [], ◌∷◌, ◌++◌}
use Rattle.machine_pws.specs.declared.Step.TheVariants.{Take}
use Rattle.file_contents.specs.Reading.{combined, pair}
use Rattle.list_theory.specs.Verdict.{safe, unheld, started, entered}
use Rattle.pattern_reading.specs.Reading.{PatternAnswer, unread, judged, pattern_answer}

pub data Row : Type 0 where
  file : List ℕ → PatternAnswer → Row
  files : List ℕ → List ℕ → PatternAnswer → Row

-- with every work area that is not refused
unfoldable pub Holds : Row → Type 0
Holds (file f a) = (area : ℕ) → 65536 ≤ area → pattern_answer (combined f) area ≡ a
Holds (files g f a) = (area : ℕ) → 65536 ≤ area → pattern_answer (pair g f) area ≡ a

pub data Each (F : Row → Type 0) : List Row → Type 0 where
  no_row : Each F []
  row : {r : Row} {rs : List Row} → F r → Each F rs → Each F (r ∷ rs)

-- ---- records

-- one process with three states, one variable with two values
abbrev pub head : List ℕ
head = 1 ∷ 1 ∷ 1 ∷ 2 ∷ 0 ∷ 0 ∷ 0 ∷ 2 ∷ 3 ∷ 0 ∷ []

-- from, operation, value, to
abbrev pub goes : ℕ → ℕ → ℕ → ℕ → List ℕ
goes from operation x to = 3 ∷ 0 ∷ from ∷ operation ∷ 0 ∷ x ∷ 0 ∷ to ∷ []

abbrev pub target : ℕ → List ℕ
target q = 4 ∷ q ∷ 0 ∷ 0 ∷ 0 ∷ []

abbrev pub claim : List ℕ
claim = 15 ∷ 0 ∷ []

-- local state, newest value
abbrev pub pattern : ℕ → ℕ → List ℕ
pattern q x = 19 ∷ q ∷ 0 ∷ 0 ∷ 0 ∷ x ∷ 0 ∷ 0 ∷ 0 ∷ []

abbrev pub value : ℕ → List ℕ
value x = 18 ∷ 0 ∷ 0 ∷ x ∷ []

-- value, own
abbrev pub reads : ℕ → ℕ → List ℕ
reads x own = 20 ∷ 0 ∷ 0 ∷ x ∷ own ∷ []

abbrev pub mark : ℕ → List ℕ
mark x = 21 ∷ 0 ∷ 0 ∷ x ∷ []

-- ---- files

-- target 1, before its patterns: 17 bytes
abbrev pub one : List ℕ
one = head ++ target 1 ++ claim

-- W: write x := 1, read x = 0; target 2 and the pattern of it: 42 bytes
abbrev pub write_read : List ℕ
write_read = head ++ goes 0 2 1 1 ++ goes 1 1 0 2

abbrev pub second : List ℕ
second = target 2 ++ claim ++ pattern 2 255

abbrev pub cases : List Row
cases =
    -- the table of the page
    file (one ++ pattern 1 255) (judged (safe 1))
    ∷ file one (judged (unheld 0))
    ∷ file (one ++ pattern 1 0 ++ pattern 1 1) (judged (unheld 0))
    ∷ file (head ++ goes 0 0 0 1 ++ target 1 ++ claim ++ pattern 1 255) (judged (entered 0 (Take 0)))
    ∷ file (head ++ target 0 ++ claim ++ pattern 0 255) (judged (started 0))
    ∷ file (write_read ++ second ++ pattern 1 255 ++ reads 0 0 ++ mark 0) (judged (safe 2))
    ∷ file (write_read ++ second ++ pattern 1 255 ++ reads 0 0) (judged (entered 1 (Take 0)))
    ∷ file (write_read ++ second) (judged (entered 0 (Take 1)))
    ∷ file (write_read ++ goes 2 2 0 2 ++ second ++ pattern 1 255 ++ reads 0 0 ++ mark 0) (judged (entered 0 (Take 1)))
    ∷ file (write_read ++ second ++ pattern 1 255 ++ reads 0 0 ++ mark 1) (unread 7 42)
    ∷ file (write_read ++ second ++ pattern 1 255 ++ reads 0 1 ++ mark 0) (unread 7 42)
    -- a 15 may stand before its 12s and 14s
    ∷ file (write_read ++ second ++ pattern 1 255 ++ mark 0 ++ reads 0 0) (judged (safe 2))
    -- *ends* FF is *contains* FF: what a serialise puts in front is not within it
    ∷ file (one ++ pattern 1 255 ++ mark 1 ++ value 255) (judged (unheld 0))
    -- 2: a record before the first 13, a second claim, a kind of entries
    ∷ file (one ++ value 0) (unread 2 17)
    ∷ file (one ++ reads 0 0) (unread 2 17)
    ∷ file (one ++ mark 0) (unread 2 17)
    ∷ file (one ++ claim) (unread 2 17)
    ∷ file (one ++ pattern 1 255 ++ (17 ∷ [])) (unread 2 26)
    -- 1
    ∷ file (one ++ (19 ∷ 1 ∷ [])) (unread 1 17)
    -- 4: another claim, FF in a 14, own above 1, a 15 above 1, a value that does not exist
    ∷ file (head ++ target 1 ++ (15 ∷ 1 ∷ [])) (unread 4 15)
    ∷ file (one ++ pattern 1 255 ++ reads 255 0) (unread 4 26)
    ∷ file (one ++ pattern 1 255 ++ reads 0 2) (unread 4 26)
    ∷ file (one ++ pattern 1 255 ++ mark 2) (unread 4 26)
    ∷ file (one ++ pattern 1 2) (unread 4 17)
    -- 5: a second 15, before 4
    ∷ file (one ++ pattern 1 255 ++ mark 0 ++ mark 7) (unread 5 30)
    -- 6
    ∷ file (head ++ target 1) (unread 6 15)
    -- 7 comes before what is wrong with the next 13, and after what is wrong with another record
    ∷ file (one ++ pattern 1 255 ++ mark 1 ++ (19 ∷ [])) (unread 7 17)
    ∷ file (one ++ pattern 1 255 ++ mark 1 ++ (18 ∷ [])) (unread 1 30)
    ∷ file (one ++ pattern 1 255 ++ mark 0 ++ value 0) (unread 7 17)
    -- a program file and an evidence file
    ∷ files (head ++ target 1) (claim ++ pattern 1 255) (judged (safe 1))
    ∷ files (head ++ target 1) (claim ++ pattern 1 255 ++ mark 1) (unread 7 2)
    ∷ files (head ++ target 1 ++ claim) (claim ++ pattern 1 255) (unread 2 15)
    ∷ []
