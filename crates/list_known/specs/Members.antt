-- What is done to the table of full families.
use Rattle.std.specs.Prelude.{ℕ, ◌<◌, ◌≡◌, List, length}
use Rattle.file_records.specs.ProgramPart.{shape_of}
use Rattle.list_summary.specs.declared.listing.Listing.{Listing}
use Rattle.list_known.specs.FamilyTable.{Families}
use Rattle.list_targets.specs.Walk.{Searched, listed}

-- a table of full families for entry k, and then another
pub record Kept (L : Listing) (k : ℕ) (old new : List ℕ) : Type 0 where
  pub room : length new ≡ length old
  pub full : k < L.count → Searched L → Families (shape_of L.shape) (listed L) old → Families (shape_of L.shape) (listed L) new
