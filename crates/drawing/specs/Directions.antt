-- The two directions of drawing (request N12), and what the reader's answer means. The theorems are in proofs/TripLaws and proofs/ReadLaws, under
-- the same names in small letters.
use Rattle.std.specs.Prelude.{ℕ, ◌≡◌, List}
use Rattle.machine_pws.specs.declared.Step.{Step}
use Rattle.drawing.specs.Text.{text}
use Rattle.drawing.specs.Runs.{Run, records_of}
use Rattle.drawing.specs.Writing.{made, drawing_of}
use Rattle.drawing.specs.Accepted.{Reading, Means}
use Rattle.drawing.specs.Reading.{reading_of, records_in}

-- ---- every run of up to 1,024 steps

-- its records are drawn as its text
abbrev pub RunDrawn : Type 0
RunDrawn = (ss : List Step) → Run ss → drawing_of (records_of ss) ≡ made (text ss)

-- its text is read as its records
abbrev pub RunRead : Type 0
RunRead = (ss : List Step) → Run ss → records_in (text ss) ≡ made (records_of ss)

-- ---- all bytes

-- f is the records of a run, and w its text
pub record Drawn (f w : List ℕ) : Type 0 where
  pub steps : List Step
  pub run : Run steps
  pub records : f ≡ records_of steps
  pub drawing : w ≡ text steps

-- what the writer draws is a run
abbrev pub WriterDraws : Type 0
WriterDraws = (f w : List ℕ) → drawing_of f ≡ made w → Drawn f w

-- what the reader accepts is one
abbrev pub ReaderAccepts : Type 0
ReaderAccepts = (f t : List ℕ) → records_in t ≡ made f → Drawn f t

-- what was drawn is read back as itself
abbrev pub ComesBack : Type 0
ComesBack = (f w : List ℕ) → drawing_of f ≡ made w → records_in w ≡ made f

-- what is accepted is what the writer would make
abbrev pub WouldMake : Type 0
WouldMake = (f t : List ℕ) → records_in t ≡ made f → drawing_of f ≡ made t

-- ---- the reader's answer

-- it means what it says, the run of an accepted text or 27's place
abbrev pub ReadingMeans : Type 0
ReadingMeans = (t : List ℕ) → Means t (reading_of t)

-- no other answer does
abbrev pub MeansOnce : Type 0
MeansOnce = (t : List ℕ) (r s : Reading) → Means t r → Means t s → r ≡ s
