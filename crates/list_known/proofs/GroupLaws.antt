-- A table with the groups that are found full: what is in it is full.
use Prim.Native.Nat.{ℕ, zero, suc, ◌+◌, ◌<◌, ◌≤◌}
use mathlib.Core.Path.{◌≡◌, refl, sym, ap, subst, ◌∙◌}
use mathlib.Core.Bool.{Bool, true, false}
use mathlib.Core.List.{List}
use native.Mathlib.Omega.{arith}
use lib.ListN.{length, get_or}
use lib.Dec.{T, ltb}
use borrow.Author.Tests.{lt-ltb, le-ltb}
use Rattle.machine_pws.specs.Program as pws
use Rattle.machine_pws.specs.Program.{ProgramInRange}
use Rattle.machine_pws.specs.Machine.{Configuration}
use Rattle.machine_pws.specs.Configurations.{StatesOf}
use Rattle.machine_pws.specs.Entries.{no_entry}
use Rattle.list_theory.specs.Lists.{every}
use Rattle.list_theory.specs.Shapes.{shape_cubes}
use Rattle.list_theory.specs.Decision.{held}
use Rattle.list_theory.proofs.Verdict.{target_yes}
use Rattle.list_summary.specs.declared.listing.Listing.{Listing}
use Rattle.base.specs.Bytes.{choose}
use Rattle.file_records.specs.ProgramPart.{shape_of}
use Rattle.file_contents.specs.Cube.{configuration_of}
use Rattle.file_again.proofs.Tables.{table_length, table_number}
use Rattle.list_summary.specs.Slots.{count_at}
use Rattle.list_known.specs.FullStates.{Full, is_full, with_states}
use Rattle.list_known.proofs.FullTable.{full_put}
use native.Mathlib.Numerals.{add-one}
use Rattle.list_targets.specs.Walk.{Searched, entry_of, listed}
use Rattle.list_known.specs.Groups.{group_held, with_group, with_groups}

module _ (L : Listing) (least : ℕ) (table : List ℕ) (k : ℕ) where
  abbrev states : List ℕ
  states = (entry_of L k).states

  -- the three tests in turn
  abbrev by : Bool → Bool → Bool → List ℕ
  by a b c = choose a (λ _. table) (λ _. choose b (λ _. table) (λ _. choose c (λ _. with_states table states) (λ _. table)))

  tests : {a b c : Bool} → ltb (count_at L.summary.now k) least ≡ a → is_full table L.shape states ≡ b → group_held L least states ≡ c → by a b c ≡ with_group L least table k
  unfolding with_group
  tests x y z = sym (λ i. by (x i) (y i) (z i))

  pub group_small : count_at L.summary.now k < least → table ≡ with_group L least table k
  group_small l = tests (lt-ltb (count_at L.summary.now k) least l) refl refl

  pub group_known : least ≤ count_at L.summary.now k → is_full table L.shape states ≡ true → table ≡ with_group L least table k
  group_known l e = tests (le-ltb (count_at L.summary.now k) least l) e refl

  pub group_other : least ≤ count_at L.summary.now k → is_full table L.shape states ≡ false → group_held L least states ≡ false → table ≡ with_group L least table k
  group_other l e d = tests (le-ltb (count_at L.summary.now k) least l) e d

  pub group_put : least ≤ count_at L.summary.now k → is_full table L.shape states ≡ false → group_held L least states ≡ true → with_states table states ≡ with_group L least table k
  group_put l e d = tests (le-ltb (count_at L.summary.now k) least l) e d

-- ---- what is put is full

module _ (P : pws.Program) (R : ProgramInRange P) (L : Listing) (least : ℕ) (same : P.shape ≡ shape_of L.shape) where
  abbrev es : List Configuration
  es = listed L

  entries_length : length es ≡ L.count
  entries_length = table_length (λ i. configuration_of (entry_of L i)) 0 L.count

  -- the local states of an entry are the program's
  states_of_lem : (table : List ℕ) → Full P es table → (k : ℕ) → k < L.count → StatesOf P (λ q. get_or (entry_of L k).states q 0)
  states_of_lem table F k l =
      subst (λ (e : Configuration). StatesOf P e.state) (table_number (λ i. configuration_of (entry_of L i)) L.count k no_entry l) (F.entries k (omega (arith, entries_length))).states

  full_group : (table : List ℕ) → Full P es table → (k : ℕ) → k < L.count → Full P es (with_group L least table k)
  unfolding with_group
  full_group table F k l = first (ltb (count_at L.summary.now k) least)
    where
      states : List ℕ
      states = (entry_of L k).states

      last : (b : Bool) → group_held L least states ≡ b → Full P es (choose b (λ _. with_states table states) (λ _. table))
      last true e =
          full_put P R es table states L.shape (ap (λ (S : pws.Shape). S.processes) same) F
          (target_yes P R.well_formed es F.entries (λ q. get_or states q 0) (states_of_lem table F k l)
          (subst T (sym (ap (λ (S : pws.Shape). every (held S es) (shape_cubes S (λ q. get_or states q 0))) same ∙ e)) tt))
      last false e = F

      second : (b : Bool) → Full P es (choose b (λ _. table) (λ _. choose (group_held L least states) (λ _. with_states table states) (λ _. table)))
      second true = F
      second false = last (group_held L least states) refl

      first : (b : Bool) → Full P es (choose b (λ _. table) (λ _. choose (is_full table L.shape states) (λ _. table) (λ _. choose (group_held L least states) (λ _. with_states table states) (λ _. table))))
      first true = F
      first false = second (is_full table L.shape states)

  pub full_groups : (table : List ℕ) → Full P es table → (m : ℕ) → m ≤ L.count → Full P es (with_groups L least table m)
  unfolding with_groups
  full_groups table F zero l = F
  full_groups table F (suc m) l = full_group (with_groups L least table m) (full_groups table F m (omega arith)) m (omega arith)

-- ---- the groups in turn

pub record Putting (L : Listing) (least : ℕ) (table now : List ℕ) (k : ℕ) : Type 0 where
  pub most : k ≤ L.count
  pub same : length now ≡ length table
  pub is : Searched L → now ≡ with_groups L least table k

module _ (L : Listing) (least : ℕ) (table : List ℕ) where
  pub putting_begin : Putting L least table table 0
  unfolding with_groups
  putting_begin = record { most = omega arith; same = refl; is = λ S. refl }

  pub putting_next : {now new : List ℕ} {k : ℕ} → Putting L least table now k → k < L.count → length new ≡ length now
      → (Searched L → new ≡ with_group L least now k) → Putting L least table new (k + 1)
  unfolding with_groups
  putting_next {now} {new} {k} w l d e =
      record { most = omega arith; same = d ∙ w.same; is = λ S. rw add-one (e S ∙ ap (λ (t : List ℕ). with_group L least t k) (w.is S)) }

  pub putting_end : {now : List ℕ} {k : ℕ} → Putting L least table now k → L.count ≤ k → Searched L → now ≡ with_groups L least table L.count
  putting_end {now} {k} w l S = let e : k ≡ L.count = omega (arith, w.most) in w.is S ∙ ap (with_groups L least table) e
