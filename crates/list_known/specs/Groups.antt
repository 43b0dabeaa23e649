-- The groups that are found full, one after another.
use Rattle.std.specs.Prelude.{ℕ, zero, suc, Bool, List, [], get_or, ltb}
use Rattle.list_summary.specs.declared.listing.Listing.{Listing}
use Rattle.base.specs.Bytes.{choose}
use Rattle.list_theory.specs.Decision.{target_held}
use Rattle.list_summary.specs.Slots.{count_at}
use Rattle.list_known.specs.FullStates.{is_full, with_states}
use Rattle.list_cube.specs.Sizes.{starts_of}
use Rattle.list_targets.specs.Walk.{entry_of, listed}

module _ (L : Listing) (least : ℕ) where
  -- every configuration with these local states is above the list
  abbrev pub group_held : List ℕ → Bool
  group_held states = target_held (starts_of L.shape []) (listed L) (λ q. get_or states q 0)

  -- the table with the local states of entry k, if it leads a group that is large enough, and they are not there yet and full
  unfoldable pub with_group : List ℕ → ℕ → List ℕ
  with_group table k =
      choose (ltb (count_at L.summary.now k) least) (λ _. table)
      (λ _. choose (is_full table L.shape (entry_of L k).states) (λ _. table)
      (λ _. choose (group_held (entry_of L k).states) (λ _. with_states table (entry_of L k).states) (λ _. table)))

  -- with those of the first m entries
  unfoldable pub with_groups : List ℕ → ℕ → List ℕ
  with_groups table zero = table
  with_groups table (suc m) = with_group (with_groups table m) m
