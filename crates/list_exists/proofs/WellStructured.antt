-- The machine of a well-formed program is well structured: what is to be found is among finitely many small configurations.
use Prim.Native.Nat.{ℕ, zero, suc, ◌+◌, ◌-◌, ◌<◌, ◌≤◌}
use mathlib.Core.Path.{◌≡◌, subst}
use mathlib.Core.Logic.{◌⊎◌, inl, inr, ⊎_elim}
use mathlib.Core.List.{List, [], ◌∷◌, Memᴰ}
use native.Mathlib.Omega.{arith}
use native.Mathlib.Nat.{zero-add, suc-add}
use native.Mathlib.Decide.{ℕ_discrete}
use lib.ListN.{length}
use lib.Dec.{T, T_not}
use Rattle.machine_pws.specs.declared.Step.{Step}
use Rattle.machine_pws.specs.Program.{Program, WellFormed}
use Rattle.machine_pws.specs.Machine.{Configuration, may, after}
use Rattle.machine_pws.specs.Configurations.{ConfigurationOf, InTarget}
use Rattle.machine_pws.specs.Order.{Below}
use Rattle.machine_pws.proofs.Facts.{T_or_not}
use Rattle.machine_pws.proofs.Preorder.{below_refl, below_trans}
use Rattle.machine_pws.proofs.Steps.{step_configuration}
use Rattle.machine_pws.proofs.Simulation.{simulate}
use Rattle.machine_pws.proofs.Dropping.{last_only, smaller}
use Rattle.list_exists.specs.AlmostFull.{AboveNone, Basis}
use Rattle.list_exists.specs.Order.{Of, BelowOf, Before, AllWellStructured}
use Rattle.list_exists.proofs.AlmostFull.{sequence_pair}
use Rattle.list_exists.proofs.Search.{above_some, first_or_all, basis_found}
use Rattle.list_exists.proofs.Order.{all_decided, below_almost_full, below_decided}
use Rattle.list_exists.proofs.Enumeration.{Small, configurations}
use Rattle.list_exists.proofs.Small.{roles_bound, irreducible_length, channel_bound}
use Rattle.list_exists.proofs.Shorter.{queue_bound, small_before}

-- ---- a set of which each is above a small one

record SmallIn (P : Program) (U : Configuration → Type 0) (n k : ℕ) (c : Configuration) : Type 0 where
  configuration : Configuration
  of : ConfigurationOf P configuration
  member : U configuration
  small : Small P n k configuration
  below : Below P.shape configuration c

small_basis : (P : Program) → WellFormed P → (U : Configuration → Type 0) (n k : ℕ) → ((c : Configuration) → ConfigurationOf P c → Dec (U c))
    → ((c : Configuration) → ConfigurationOf P c → U c → SmallIn P U n k c) → Basis (BelowOf P) (λ c. U c.0)
small_basis P R U n k decide small = basis_found (Of P) (BelowOf P) (below_almost_full P) (below_decided P) (λ c. U c.0) round
  where
    found : (xs : List (Of P)) (c : Configuration) (o : ConfigurationOf P c) → Dec (U c)
        → ((a : Of P) × U a.0 × AboveNone (BelowOf P) xs a) ⊎ (U c → (x : Of P) × Memᴰ x xs × Below P.shape x.0 c)
    found xs c o (yes u) = ⊎_elim (λ A. inr (λ v. A)) (λ f. inl ((c, o), u, f)) (above_some (BelowOf P) (below_decided P) xs (c, o))
    found xs c o (no f) = inr (λ u. absurd (f u))

    round : (xs : List (Of P)) → ((x : Of P) → Memᴰ x xs → U x.0)
        → ((a : Of P) → U a.0 → (x : Of P) × Memᴰ x xs × Below P.shape x.0 a.0) ⊎ ((a : Of P) × U a.0 × AboveNone (BelowOf P) xs a)
    round xs all =
        let L = configurations P R.shape n k in
        ⊎_elim (λ r. inr r.1)
        (λ f. inl (λ a u.
        let s = small a.0 a.1 u in
        let A = f s.configuration (L.complete s.configuration (s.small, s.of)) s.member in
        (A.0, A.1, below_trans A.2 s.below)))
        (first_or_all (λ c. (a : Of P) × U a.0 × AboveNone (BelowOf P) xs a) (λ c. U c → (x : Of P) × Memᴰ x xs × Below P.shape x.0 c) L.list
        (λ c m. found xs c (L.sound c m).1 (decide c (L.sound c m).1)))

-- ---- the configurations of a target

last_short : (xs : List ℕ) → length (last_only xs) ≤ 1
last_short [] = omega arith
last_short (x ∷ []) = omega arith
last_short (x ∷ y ∷ ys) = last_short (y ∷ ys)

pub targets_found : (P : Program) → WellFormed P → (t : ℕ → ℕ) → Basis (BelowOf P) (λ c. InTarget P.shape t c.0)
targets_found P R t = small_basis P R (InTarget P.shape t) (roles_bound P.shape) 1
    (λ c o. all_decided P.shape.processes (λ p. c.state p ≡ t p) (λ p l. ℕ_discrete (c.state p) (t p)))
    (λ c o i.
    let m = smaller P.shape 0 R.shape.some_process c o.fits in
    record {
      configuration = record { state = c.state; queue = λ p v. last_only (c.queue p v); memory = m.memory };
      of = record { states = o.states; fits = m.fits };
      member = i;
      small = record { channel = irreducible_length P.shape m.memory m.irreducible; queues = λ p v a b. last_short (c.queue p v) };
      below = m.below;
    })

-- ---- predecessors

may_decided : (P : Program) (c : Configuration) (s : Step) → Dec (T (may P c s))
may_decided P c s = ⊎_elim yes (λ n. no (T_not (may P c s) n)) (T_or_not (may P c s))

before_decided : (P : Program) → WellFormed P → (e : Of P) (s : Step) (c : Configuration) → ConfigurationOf P c → Dec (T (may P c s)) → Dec (Before P e s c)
before_decided P R e s c o (yes t) = go ((below_decided P).decided e (after P c s, step_configuration P R c o s t))
  where
    go : Dec (Below P.shape e.0 (after P c s)) → Dec (Before P e s c)
    go (yes B) = yes (t, B)
    go (no n) = no (λ r. n r.1)
before_decided P R e s c o (no n) = no (λ r. n r.0)

pub predecessors_found : (P : Program) → WellFormed P → (e : Of P) (s : Step) → Basis (BelowOf P) (λ c. Before P e s c.0)
predecessors_found P R e s = small_basis P R (Before P e s) (channel_bound P R e.0 e.1 s) (queue_bound P.shape e.0)
    (λ c o. before_decided P R e s c o (may_decided P c s))
    (λ c o r.
    let b = small_before P R e.0 e.1 s c (record { of = o; permitted = r.0; above = r.1 }) in
    record { configuration = b.configuration; of = b.before.of; member = (b.before.permitted, b.before.above); small = b.small; below = b.below })

-- ---- Definition 11

descends : (P : Program) (f : ℕ → Of P) → ((i : ℕ) → BelowOf P (f (suc i)) (f i)) → (i n : ℕ) → BelowOf P (f (n + i)) (f i)
descends P f d i zero = rw (zero-add i) (below_refl P.shape (f i).0)
descends P f d i (suc n) = rw (suc-add n i) (below_trans (d (n + i)) (descends P f d i n))

from_first : (i j : ℕ) → i < j → (j - suc i) + suc i ≡ j
from_first i j l = omega arith

well_founded_lem : (P : Program) (f : ℕ → Of P) → ((i : ℕ) → BelowOf P (f (suc i)) (f i) × (BelowOf P (f i) (f (suc i)) → ⊥)) → ⊥
well_founded_lem P f d =
    let r = sequence_pair (Of P) (BelowOf P) (below_almost_full P) f in
    let B = subst (λ (k : ℕ). BelowOf P (f k) (f (suc r.first))) (from_first r.first r.second r.order)
    (descends P f (λ i. (d i).0) (suc r.first) (r.second - suc r.first)) in
    (d r.first).1 (below_trans r.related B)

pub all_well_structured : AllWellStructured
all_well_structured P R =
    record {
      order = below_decided P;
      monotonic = λ c d B s t. let f = simulate P R c.0 d.0 c.1 d.1 B s t in (f.answer, f.below);
      quasi = below_almost_full P;
      pairs = sequence_pair (Of P) (BelowOf P) (below_almost_full P);
      well_founded = well_founded_lem P;
      predecessors = predecessors_found P R;
      targets = targets_found P R;
    }
