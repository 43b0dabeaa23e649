-- Small reports and small examples of their refusals, as rows of bytes with what is read. Bytes are in decimal: 15 is 0F, 16 and 17
-- are 10 and 11, 31 is 1F, 32 to 34 are 20 to 22, 48 is 30, 255 is FF.
use Rattle.std.specs.Prelude.{ℕ, ◌≡◌, List, [], ◌∷◌, ◌++◌, length}
use Rattle.machine_pws.specs.declared.Step.TheVariants.{Take, Serialise, Update}
use Rattle.report_theory.specs.Report.{Run}
use Rattle.report_reading.specs.Parts.{report_offending}
use Rattle.report_reading.specs.Reading.{ReportRead, unread, report, read_report}

-- ---- what is said

pub data Said : Type 0 where
  -- number and place
  fault : ℕ → ℕ → Said
  -- marks, the number of entries, runs
  reads : List ℕ → ℕ → List Run → Said

abbrev pub said : ReportRead → Said
said (unread r) = fault r.number r.place
said (report P ts marks es runs) = reads marks (length es) runs

pub data Row : Type 0 where
  -- with a work area of so many bytes
  with : ℕ → List ℕ → Said → Row
  -- the bytes that a refusal of this number and place hands back
  hands : List ℕ → ℕ → ℕ → List ℕ → Row

unfoldable pub Holds : Row → Type 0
Holds (with area f s) = said (read_report f area) ≡ s
Holds (hands f n k bytes) = report_offending f n k ≡ bytes

pub data Each (F : Row → Type 0) : List Row → Type 0 where
  no_row : Each F []
  row : {r : Row} {rs : List Row} → F r → Each F rs → Each F (r ∷ rs)

abbrev file : List ℕ → Said → Row
file f s = with 65536 f s

-- ---- records

-- one process with two states, one variable with two values
abbrev head : List ℕ
head = 1 ∷ 1 ∷ 1 ∷ 2 ∷ 0 ∷ 0 ∷ 0 ∷ 2 ∷ 2 ∷ 0 ∷ []

-- operation, value
abbrev goes : ℕ → ℕ → List ℕ
goes operation x = 3 ∷ 0 ∷ 0 ∷ operation ∷ 0 ∷ x ∷ 0 ∷ 0 ∷ []

abbrev target : List ℕ
target = 4 ∷ 1 ∷ 0 ∷ 0 ∷ 0 ∷ []

-- mfence, sfence and a write of 1: 39 bytes
abbrev program : List ℕ
program = head ++ goes 3 0 ++ goes 4 0 ++ goes 2 1 ++ target

abbrev mark : ℕ → List ℕ
mark n = 48 ∷ n ∷ []

abbrev claim : ℕ → List ℕ
claim c = 15 ∷ c ∷ []

-- an entry without its message, 9 bytes, and with it, 16
abbrev bare : List ℕ
bare = 16 ∷ 1 ∷ 0 ∷ 0 ∷ 0 ∷ 1 ∷ 0 ∷ 0 ∷ 0 ∷ []

abbrev entry : List ℕ
entry = bare ++ (17 ∷ 0 ∷ 0 ∷ 255 ∷ 0 ∷ 0 ∷ 0 ∷ [])

-- 7 bytes
abbrev start : ℕ → List ℕ
start x = claim 1 ++ (31 ∷ x ∷ 0 ∷ 0 ∷ 0 ∷ [])

abbrev steps : List ℕ
steps = 32 ∷ 2 ∷ 33 ∷ 0 ∷ 0 ∷ 34 ∷ 0 ∷ []

-- two marks, a list of one entry: 61 bytes
abbrev marked : List ℕ
marked = program ++ mark 0 ++ mark 1 ++ claim 0 ++ entry

-- one mark, a list of no entry: 43 bytes
abbrev one : List ℕ
one = program ++ mark 1 ++ claim 0

abbrev eight : List ℕ
eight = mark 0 ++ mark 1 ++ mark 2 ++ mark 0 ++ mark 0 ++ mark 0 ++ mark 0 ++ mark 0

-- a run of no step, with this value in the variable
abbrev no_step : ℕ → Run
no_step x = record { memory = x ∷ 0 ∷ 0 ∷ 0 ∷ []; steps = [] }

-- ---- the tables

abbrev pub reports : List Row
reports =
    -- no mark at all is a report too
    file (program ++ claim 0) (reads [] 0 [])
    ∷ file (program ++ claim 0 ++ entry ++ entry) (reads [] 2 [])
    -- a run for each mark in turn
    ∷ file (marked ++ start 0 ++ steps ++ start 1)
    (reads (0 ∷ 1 ∷ []) 1
    (record { memory = 0 ∷ 0 ∷ 0 ∷ 0 ∷ []; steps = Take 2 ∷ Serialise 0 0 ∷ Update 0 ∷ [] } ∷ no_step 1 ∷ []))
    -- marks that are no fences and that repeat others are read
    ∷ file (program ++ mark 2 ++ mark 2 ++ claim 0 ++ start 0 ++ start 0)
    (reads (2 ∷ 2 ∷ []) 0 (no_step 0 ∷ no_step 0 ∷ []))
    ∷ []

abbrev pub faults : List Row
faults =
    -- 8 comes first
    with 65535 [] (fault 8 0)
    -- 05 is unknown here
    ∷ file (5 ∷ []) (fault 2 0)
    ∷ file (head ++ (5 ∷ 0 ∷ 0 ∷ 3 ∷ 0 ∷ 0 ∷ 0 ∷ 0 ∷ [])) (fault 2 10)
    -- 30 is allowed after the 04s and before the first 0F; an 03 or 04 behind a 30 is 2
    ∷ file (mark 0) (fault 2 0)
    ∷ file (head ++ goes 3 0 ++ mark 0) (fault 2 18)
    ∷ file (program ++ mark 0 ++ goes 3 0) (fault 2 41)
    ∷ file (program ++ mark 0 ++ target) (fault 2 41)
    ∷ file (marked ++ mark 0) (fault 2 61)
    ∷ file (one ++ start 0 ++ mark 0) (fault 2 50)
    -- a ninth 30 is 1 if cut, else 5
    ∷ file (program ++ eight ++ (48 ∷ [])) (fault 1 55)
    ∷ file (program ++ eight ++ mark 0) (fault 5 55)
    ∷ file (program ++ eight ++ mark 3) (fault 5 55)
    ∷ file (program ++ (48 ∷ [])) (fault 1 39)
    -- a transition that does not exist is 4 at its offset
    ∷ file (program ++ mark 0 ++ mark 3) (fault 4 41)
    -- the first claim is 0 and each later one 1
    ∷ file (program ++ mark 0 ++ claim 1) (fault 4 41)
    ∷ file (program ++ claim 2) (fault 4 39)
    ∷ file (one ++ claim 0) (fault 4 43)
    ∷ file (one ++ claim 2) (fault 4 43)
    ∷ file (marked ++ start 0 ++ claim 0) (fault 4 68)
    -- an 0F after the last run is 4 whatever its claim, 1 if cut
    ∷ file (program ++ claim 0 ++ claim 0) (fault 4 41)
    ∷ file (program ++ claim 0 ++ claim 1) (fault 4 41)
    ∷ file (one ++ start 0 ++ claim 1) (fault 4 50)
    ∷ file (one ++ start 0 ++ claim 0) (fault 4 50)
    ∷ file (one ++ start 0 ++ claim 7) (fault 4 50)
    ∷ file (one ++ start 0 ++ (15 ∷ [])) (fault 1 50)
    -- where a 1F is due, an 0F, a step and an entry are 2
    ∷ file (one ++ claim 1 ++ claim 1) (fault 2 45)
    ∷ file (one ++ claim 1 ++ steps) (fault 2 45)
    ∷ file (one ++ start 0 ++ entry) (fault 2 50)
    ∷ file (one ++ steps) (fault 2 43)
    -- 6 at the file's end: before the first claim, where a 1F is due, before the last mark's evidence
    ∷ file [] (fault 6 0)
    ∷ file head (fault 6 10)
    ∷ file program (fault 6 39)
    ∷ file (program ++ mark 0) (fault 6 41)
    ∷ file one (fault 6 43)
    ∷ file (one ++ claim 1) (fault 6 45)
    ∷ file (marked ++ start 0 ++ steps) (fault 6 75)
    -- 7 at the next 10, the next 0F or the file's end, before everything else of that place
    ∷ file (marked ++ bare ++ start 0) (fault 7 61)
    ∷ file (marked ++ bare ++ (15 ∷ [])) (fault 7 61)
    ∷ file (marked ++ bare ++ claim 0) (fault 7 61)
    ∷ file (marked ++ bare ++ (16 ∷ [])) (fault 7 61)
    ∷ file (marked ++ bare) (fault 7 61)
    -- and not at another record
    ∷ file (marked ++ bare ++ mark 0) (fault 2 70)
    ∷ []

-- the offending record of some of these, and of an area that is refused
abbrev pub records : List Row
records =
    hands (mark 0) 2 0 (mark 0)
    ∷ hands (program ++ eight ++ (48 ∷ [])) 1 55 (48 ∷ [])
    ∷ hands (program ++ mark 0 ++ mark 3) 4 41 (mark 3)
    ∷ hands (program ++ mark 0 ++ target) 2 41 target
    ∷ hands (one ++ claim 0) 4 43 (claim 0)
    ∷ hands (marked ++ bare ++ start 0) 7 61 bare
    ∷ hands (5 ∷ 0 ∷ []) 2 0 (5 ∷ [])
    ∷ hands one 6 43 []
    ∷ hands (mark 0) 8 0 []
    ∷ []
