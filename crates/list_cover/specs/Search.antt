-- What a search is asked over: a list of entries in a file with its summary, and a cube that fits the shape.
use Rattle.std.specs.Prelude.{ℕ, ◌<◌, ◌≤◌, ◌≡◌, ◌⊎◌, Bool, true, false, List, Option, Some, None, length}
use Rattle.machine_pws.specs.Machine.{Configuration}
use Rattle.list_summary.specs.declared.listing.Listing.{Listing}
use Rattle.machine_pws.specs.Program.{ShapeInRange}
use Rattle.machine_pws.specs.Configurations.{Fits}
use Rattle.machine_pws.specs.Entries.{ValueOrFF}
use Rattle.list_theory.specs.Values.{fills, alike}
use Rattle.list_theory.specs.Matching.{matches}
use Rattle.file_records.specs.declared.program.Shape.{Shape}
use Rattle.file_contents.specs.declared.entry.Cube.{Cube}
use Rattle.file_records.specs.ProgramPart.{shape_of}
use Rattle.file_contents.specs.Cube.{configuration_of}
use Rattle.file_again.specs.Again.{cube_at, entries_of}
use Rattle.list_key.specs.Number.{widened}
use Rattle.list_bytes.specs.Against.{Against}
use Rattle.list_summary.specs.Slots.{head_link, home_of}
use Rattle.list_summary.specs.Summary.{Summed}
use Rattle.list_summary.specs.Walks.{Left}
use Rattle.list_cover.specs.declared.place.Place.{Place}
use Rattle.list_cover.specs.declared.gaps.Gaps.{Gaps}
use Rattle.list_cover.specs.Places.{part_of, is_free, fillings, proper, NoneFree}

-- ---- what is found, whatever the work area holds

-- an entry to which an offset leads covers the cube; or all of its parts at a free place are covered
pub data Covered (f list : List ℕ) (n : ℕ) (s : Shape) : Cube → Type 0 where
  by_entry : {c : Cube} (k : ℕ) → k < n → matches (shape_of s) fills (configuration_of (cube_at f list k)) (configuration_of c) ≡ true → Covered f list n s c
  by_parts : {c : Cube} (a : Place) → is_free s c a ≡ true → ((x : ℕ) → x < fillings s a → Covered f list n s (part_of c a x)) → Covered f list n s c

-- ---- what is true of a list that was read

-- its entries fit the shape, and so does the cube
pub record Plain (f list : List ℕ) (n : ℕ) (s : Shape) (c : Cube) : Type 0 where
  pub count : n ≤ 524288
  pub shape : ShapeInRange (shape_of s)
  pub entries : (k : ℕ) → k < n → Fits (ValueOrFF (shape_of s)) (shape_of s) (configuration_of (cube_at f list k))
  pub fits : Fits (ValueOrFF (shape_of s)) (shape_of s) (configuration_of c)
  pub messages : c.count ≤ 20
  pub waiting : (p v : ℕ) → length ((configuration_of c).queue p v) ≤ 9

-- and it has its summary
pub record Searchable (f list sum : List ℕ) (n : ℕ) (s : Shape) (c : Cube) : Type 0 where
  pub plain : Plain f list n s c
  pub summed : Summed f list sum n s

-- ---- parts of a search

-- the gaps of an entry are at a free place
abbrev pub splits : Shape → Cube → Option Gaps → Bool
splits s c None = true
splits s c (Some g) = proper s c g.place

-- after entry i was tried: if it may meet the cube, some entry is met; a place to split at stays one
pub record Tried (f list : List ℕ) (s : Shape) (c : Cube) (cues : List ℕ) (best : Option Gaps) (i : ℕ) (next : Option Gaps) : Type 0 where
  pub before : next ≡ None → best ≡ None
  pub unmet : next ≡ None → Against s c cues → matches (shape_of s) alike (configuration_of (cube_at f list i)) (configuration_of c) ≡ false
  pub kept : splits s c best ≡ true → splits s c next ≡ true

-- no entry that is walked over is so related to the cube
abbrev pub Unrelated : (ℕ → ℕ → Bool) → List ℕ → List ℕ → List ℕ → ℕ → Shape → Cube → List ℕ → ℕ → Type 0
Unrelated r f list sum n s c cues number =
    Against s c cues → (k : ℕ) → Left f list sum n s c.states number n (head_link sum (home_of number n)) false k
    → matches (shape_of s) r (configuration_of (cube_at f list k)) (configuration_of c) ≡ false

-- none covers it
abbrev pub Uncovered : List ℕ → List ℕ → List ℕ → ℕ → Shape → Cube → List ℕ → ℕ → Type 0
Uncovered = Unrelated fills

-- none may meet it
abbrev pub Unmet : List ℕ → List ℕ → List ℕ → ℕ → Shape → Cube → List ℕ → ℕ → Type 0
Unmet = Unrelated alike

-- and so it can't be held, or it has no free value. What may meet it may have any signature.
abbrev pub Stuck : List ℕ → List ℕ → List ℕ → ℕ → Shape → Cube → List ℕ → ℕ → Type 0
Stuck f list sum n s c cues number = Unmet f list sum n s c cues (widened number) ⊎ NoneFree s c

-- ---- the same of a list with its summary

abbrev pub entries_in : Listing → List Configuration
entries_in l = entries_of l.file.now l.offsets.now l.count

abbrev pub CoveredIn : Listing → Cube → Type 0
CoveredIn l c = Covered l.file.now l.offsets.now l.count l.shape c

abbrev pub SearchableIn : Listing → Cube → Type 0
SearchableIn l c = Searchable l.file.now l.offsets.now l.summary.now l.count l.shape c
