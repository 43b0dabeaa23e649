-- Families that are found full, and the table of them.
use Prim.Native.Nat.{ℕ, ◌<◌}
use mathlib.Core.Path.{◌≡◌, refl, sym, subst, ◌∙◌}
use mathlib.Core.Bool.{Bool, true}
use mathlib.Core.List.{List, Memᴰ}
use Rattle.machine_pws.specs.Machine.{Configuration}
use Rattle.machine_pws.specs.Configurations.{Fits}
use Rattle.machine_pws.specs.Entries.{ValueOrFF, no_entry, entry}
use Rattle.list_theory.specs.Lists.{every}
use Rattle.list_theory.specs.Decision.{held}
use Rattle.list_summary.specs.declared.listing.Listing.{Listing}
use Rattle.file_records.specs.ProgramPart.{shape_of}
use Rattle.file_contents.specs.Cube.{configuration_of}
use Rattle.file_again.proofs.Tables.{table_number}
use Rattle.list_theory.specs.Seen.{seen_cubes}
use Rattle.list_theory.specs.Family.{newest, sees, FamilyHeld, family_cubes}
use Rattle.list_theory.proofs.FamilyFull.{family_full}
use Rattle.list_theory.proofs.FamilySeen.{seen_fits, seen_full}
use Rattle.list_targets.proofs.TargetLaws.{entries_fit}
use Rattle.list_targets.specs.Walk.{Searched, entry_of, listed}
use Rattle.list_known.specs.Members.{Kept}

-- ---- the table

pub kept_same : {L : Listing} {k : ℕ} (t : List ℕ) → Kept L k t t
kept_same t = record { room = refl; full = λ l h F. F }

pub kept_more : {L : Listing} {k : ℕ} {a b c : List ℕ} → Kept L k a b → Kept L k b c → Kept L k a c
kept_more x y = record { room = y.room ∙ x.room; full = λ l h F. y.full l h (x.full l h F) }

-- ---- what is full

module _ (L : Listing) (k : ℕ) (l : k < L.count) (h : Searched L) where
  abbrev es : List Configuration
  es = listed L

  abbrev own : Configuration
  own = configuration_of (entry_of L k)

  own_is : own ≡ entry es k
  own_is = sym (table_number (λ i. configuration_of (entry_of L i)) L.count k no_entry l)

  pub newest_yes : {r : Bool} → r ≡ every (held (shape_of L.shape) es) (family_cubes (shape_of L.shape) own) → r ≡ true → FamilyHeld (shape_of L.shape) es newest (entry es k)
  newest_yes x y = subst (FamilyHeld (shape_of L.shape) es newest) own_is (family_full (shape_of L.shape) h.shape.well_formed es (entries_fit (shape_of L.shape) L.file.now L.offsets.now L.count h.entries) own (h.entries k l) (sym x ∙ y))

  module _ (p v x : ℕ) (variable : v < L.shape.variables) (value : x < (shape_of L.shape).values v) where
    pub sight_fits : (c : Configuration) → Memᴰ c (seen_cubes (shape_of L.shape) p v x own) → Fits (ValueOrFF (shape_of L.shape)) (shape_of L.shape) c
    sight_fits = seen_fits (shape_of L.shape) h.shape.well_formed p v x variable value own (h.entries k l)

    pub sight_yes : every (held (shape_of L.shape) es) (seen_cubes (shape_of L.shape) p v x own) ≡ true → FamilyHeld (shape_of L.shape) es (sees p v x) (entry es k)
    sight_yes y =
        subst (FamilyHeld (shape_of L.shape) es (sees p v x)) own_is
        (λ d o i. seen_full (shape_of L.shape) h.shape.well_formed es (entries_fit (shape_of L.shape) L.file.now L.offsets.now L.count h.entries) own (h.entries k l) p v x variable value y d o i.states i.queues i.clue)
