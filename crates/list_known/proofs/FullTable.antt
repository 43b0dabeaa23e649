-- The table of full local states: what is put there, and what its being there says.
use Prim.Native.Nat.{ℕ, zero, suc, ◌+◌, ◌*◌, ◌%◌, ◌<◌, ◌≤◌, min}
use mathlib.Core.Path.{◌≡◌, refl, sym, ap, ap₂, subst, ◌∙◌}
use mathlib.Core.Bool.{Bool, true, false, cond, false≢true}
use mathlib.Core.Logic.{◌⊎◌, inl, inr}
use mathlib.Core.List.{List, [], ◌∷◌}
use native.Mathlib.Omega.{arith}
use native.Mathlib.Decide.{ℕ_discrete, dec_lt}
use lib.ListN.{length, get_or, set, length-set}
use lib.Seq.{get_or-set_same, get_or-set_other}
use lib.Dec.{T, eqb, leb}
use borrow.Author.Tests.{eqb-true, ne_eqb, leb-true, le-leb, lt-leb}
use Rattle.machine_pws.specs.declared.Step.TheVariants.{Take, Serialise, Update}
use Rattle.machine_pws.specs.Program.{Program, ProgramInRange, transition}
use Rattle.machine_pws.specs.Machine.{Configuration, put, all_below}
use Rattle.machine_pws.specs.Entries.{EntryOf}
use Rattle.machine_pws.proofs.Ranges.{format_no_ff}
use Rattle.machine_pws.proofs.Cases.{all_yes}
use Rattle.list_theory.specs.Lists.{every}
use Rattle.list_theory.specs.Verdict.{TargetHeld}
use Rattle.list_theory.specs.Predecessors.{predecessors}
use Rattle.list_theory.specs.Decision.{held}
use Rattle.list_theory.proofs.Lists.{T_true}
use Rattle.file_records.specs.declared.program.Shape.{Shape}
use Rattle.base.specs.Bytes.{choose}
use Rattle.list_known.specs.FullStates.{four_at, Full, place_of, is_full, Among, put_four, with_states, states_from}
use Rattle.list_theory.proofs.FullSteps.{states_before, full_step}

-- ---- four bytes

pub four_is : (table : List ℕ) (at q : ℕ) → q < 4 → get_or (four_at table at) q 0 ≡ get_or table (at + q) 0
unfolding four_at
four_is table at zero l = ap (λ (i : ℕ). get_or table i 0) (omega arith)
four_is table at (suc zero) l = refl
four_is table at (suc (suc zero)) l = refl
four_is table at (suc (suc (suc zero))) l = refl
four_is table at (suc (suc (suc (suc q)))) l = absurd (omega arith)

pub from_is : (states : List ℕ) (p x q : ℕ) → q < 4 → get_or (states_from states p x) q 0 ≡ put (λ q. get_or states q 0) p x q
unfolding states_from
from_is states p x zero l = refl
from_is states p x (suc zero) l = refl
from_is states p x (suc (suc zero)) l = refl
from_is states p x (suc (suc (suc zero))) l = refl
from_is states p x (suc (suc (suc (suc q)))) l = absurd (omega arith)

pub states_set : (states : List ℕ) (p x : ℕ) → length states ≡ 4 → set states p x ≡ states_from states p x
unfolding states_from
states_set [] p x e = absurd (omega arith)
states_set (a ∷ []) p x e = absurd (omega arith)
states_set (a ∷ b ∷ []) p x e = absurd (omega arith)
states_set (a ∷ b ∷ c ∷ []) p x e = absurd (omega arith)
states_set (a ∷ b ∷ c ∷ d ∷ []) zero x e = refl
states_set (a ∷ b ∷ c ∷ d ∷ []) (suc zero) x e = refl
states_set (a ∷ b ∷ c ∷ d ∷ []) (suc (suc zero)) x e = refl
states_set (a ∷ b ∷ c ∷ d ∷ []) (suc (suc (suc zero))) x e = refl
states_set (a ∷ b ∷ c ∷ d ∷ []) (suc (suc (suc (suc p)))) x e =
    let q : ℕ = suc (suc (suc (suc p))) in
    rw (ne_eqb 0 q (λ z. omega arith), ne_eqb 1 q (λ z. omega arith), ne_eqb 2 q (λ z. omega arith), ne_eqb 3 q (λ z. omega arith)) refl
states_set (a ∷ b ∷ c ∷ d ∷ y ∷ xs) p x e = absurd (omega arith)

-- ---- what the code computes

pub full_short : (table states : List ℕ) (s : Shape) (at : ℕ) → at ≡ place_of states → length table < at + 4 → false ≡ is_full table s states
unfolding is_full
full_short table states s at e l =
    sym (ap (λ (b : Bool). cond b (all_below (min s.processes 4) (λ q. eqb (get_or (four_at table (place_of states)) q 0) (get_or states q 0))) false)
    (lt-leb (place_of states + 4) (length table) (omega arith)))

pub full_read : (table states : List ℕ) (s : Shape) (at : ℕ) → at ≡ place_of states → at + 4 ≤ length table
    → all_below (min s.processes 4) (λ q. eqb (get_or (four_at table at) q 0) (get_or states q 0)) ≡ is_full table s states
unfolding is_full
full_read table states s at e l =
    ap (λ (i : ℕ). all_below (min s.processes 4) (λ q. eqb (get_or (four_at table i) q 0) (get_or states q 0))) e
    ∙ sym (ap (λ (b : Bool). cond b (all_below (min s.processes 4) (λ q. eqb (get_or (four_at table (place_of states)) q 0) (get_or states q 0))) false)
    (le-leb (place_of states + 4) (length table) (omega arith)))

pub put_short : (table states : List ℕ) (at : ℕ) → at ≡ place_of states → length table < at + 4 → table ≡ with_states table states
unfolding with_states
put_short table states at e l =
    sym (ap (λ (b : Bool). choose b (λ _. put_four table (place_of states) states) (λ _. table)) (lt-leb (place_of states + 4) (length table) (omega arith)))

pub put_there : (table states : List ℕ) (at : ℕ) → at ≡ place_of states → at + 4 ≤ length table → put_four table at states ≡ with_states table states
unfolding with_states
put_there table states at e l =
    ap (λ (i : ℕ). put_four table i states) e
    ∙ sym (ap (λ (b : Bool). choose b (λ _. put_four table (place_of states) states) (λ _. table)) (le-leb (place_of states + 4) (length table) (omega arith)))

-- ---- bytes after four were put

put_length : (table : List ℕ) (at : ℕ) (states : List ℕ) → length (put_four table at states) ≡ length table
unfolding put_four
put_length table at states = simp length-set

module _ (table : List ℕ) (at : ℕ) (states : List ℕ) where
  abbrev one : List ℕ
  one = set table at (get_or states 0 0)

  abbrev two : List ℕ
  two = set one (at + 1) (get_or states 1 0)

  abbrev three : List ℕ
  three = set two (at + 2) (get_or states 2 0)

  put_same : at + 4 ≤ length table → (q : ℕ) → q < 4 → get_or (put_four table at states) (at + q) 0 ≡ get_or states q 0
  unfolding put_four
  put_same l zero i =
      get_or-set_other three (at + 3) (at + 0) (get_or states 3 0) 0 (λ e. omega arith)
      ∙ get_or-set_other two (at + 2) (at + 0) (get_or states 2 0) 0 (λ e. omega arith)
      ∙ get_or-set_other one (at + 1) (at + 0) (get_or states 1 0) 0 (λ e. omega arith)
      ∙ ap (λ (i : ℕ). get_or one i 0) (omega arith)
      ∙ get_or-set_same table at (get_or states 0 0) 0 (omega arith)
  put_same l (suc zero) i =
      get_or-set_other three (at + 3) (at + 1) (get_or states 3 0) 0 (λ e. omega arith)
      ∙ get_or-set_other two (at + 2) (at + 1) (get_or states 2 0) 0 (λ e. omega arith)
      ∙ get_or-set_same one (at + 1) (get_or states 1 0) 0 (simp length-set (omega arith))
  put_same l (suc (suc zero)) i =
      get_or-set_other three (at + 3) (at + 2) (get_or states 3 0) 0 (λ e. omega arith)
      ∙ get_or-set_same two (at + 2) (get_or states 2 0) 0 (simp length-set (omega arith))
  put_same l (suc (suc (suc zero))) i = get_or-set_same three (at + 3) (get_or states 3 0) 0 (simp length-set (omega arith))
  put_same l (suc (suc (suc (suc q)))) i = absurd (omega arith)

  put_other : (i : ℕ) → (i < at) ⊎ (at + 4 ≤ i) → get_or (put_four table at states) i 0 ≡ get_or table i 0
  unfolding put_four
  put_other i d =
      get_or-set_other three (at + 3) i (get_or states 3 0) 0 (λ e. away 3 d (omega arith) e)
      ∙ get_or-set_other two (at + 2) i (get_or states 2 0) 0 (λ e. away 2 d (omega arith) e)
      ∙ get_or-set_other one (at + 1) i (get_or states 1 0) 0 (λ e. away 1 d (omega arith) e)
      ∙ get_or-set_other table at i (get_or states 0 0) 0 (λ e. away 0 d (omega arith) (omega arith))
    where
      away : (q : ℕ) → (i < at) ⊎ (at + 4 ≤ i) → q < 4 → i ≡ at + q → ⊥
      away q (inl a) l e = omega arith
      away q (inr a) l e = omega arith

-- ---- what is full

module _ (P : Program) (R : ProgramInRange P) (es : List Configuration) where
  -- a configuration in full local states that are given in another way
  held_as : (a b : ℕ → ℕ) → ((q : ℕ) → q < P.shape.processes → a q ≡ b q) → TargetHeld P es b → TargetHeld P es a
  held_as a b e H c o i = H c o (λ p l. i p l ∙ e p l)

  module _ (table states : List ℕ) (s : Shape) (e : P.shape.processes ≡ s.processes) (F : Full P es table) where
    pub full_put : TargetHeld P es (λ q. get_or states q 0) → Full P es (with_states table states)
    unfolding with_states place_of
    full_put H = go (leb (place_of states + 4) (length table)) refl
      where
        place : ℕ
        place = (get_or states 0 0 + 32 * get_or states 1 0 + 328 * get_or states 2 0 + 577 * get_or states 3 0) % 1024

        -- the place of number i has what was put there, or what it had
        there : 4 * place + 4 ≤ length table → (i : ℕ) → 4 * i + 4 ≤ length (put_four table (4 * place) states) → TargetHeld P es (λ q. get_or (four_at (put_four table (4 * place) states) (4 * i)) q 0)
        there l i r = elim (ℕ_discrete i place) [
          | yes k ↦ held_as (λ q. get_or (four_at (put_four table (4 * place) states) (4 * i)) q 0) (λ q. get_or states q 0) (λ q m.
              four_is (put_four table (4 * place) states) (4 * i) q (omega (arith, R.shape.processes))
              ∙ ap (λ (j : ℕ). get_or (put_four table (4 * place) states) (4 * j + q) 0) k
              ∙ put_same table (4 * place) states l q (omega (arith, R.shape.processes))) H
          | no k ↦ held_as (λ q. get_or (four_at (put_four table (4 * place) states) (4 * i)) q 0) (λ q. get_or (four_at table (4 * i)) q 0) (λ q m.
              four_is (put_four table (4 * place) states) (4 * i) q (omega (arith, R.shape.processes))
              ∙ put_other table (4 * place) states (4 * i + q) (apart i k q (omega (arith, R.shape.processes)))
              ∙ sym (four_is table (4 * i) q (omega (arith, R.shape.processes)))) (F.groups i (omega (arith, put_length table (4 * place) states)))
        ]
          where
            apart : (i : ℕ) → (i ≡ place → ⊥) → (q : ℕ) → q < 4 → (4 * i + q < 4 * place) ⊎ (4 * place + 4 ≤ 4 * i + q)
            apart i k q l = elim (dec_lt i place) [ yes a ↦ inl (omega arith) | no a ↦ elim (dec_lt place i) [ yes b ↦ inr (omega arith) | no b ↦ absurd (k (omega arith)) ] ]

        go : (b : Bool) → leb (place_of states + 4) (length table) ≡ b → Full P es (choose b (λ _. put_four table (place_of states) states) (λ _. table))
        go true l = record { entries = F.entries; groups = there (leb-true (place_of states + 4) (length table) l) }
        go false l = F

    -- local states that stand in the table are full
    pub full_held : is_full table s states ≡ true → TargetHeld P es (λ q. get_or states q 0)
    unfolding is_full place_of
    full_held i = go (leb (place_of states + 4) (length table)) refl i
      where
        place : ℕ
        place = (get_or states 0 0 + 32 * get_or states 1 0 + 328 * get_or states 2 0 + 577 * get_or states 3 0) % 1024

        go : (b : Bool) → leb (place_of states + 4) (length table) ≡ b → cond b (all_below (min s.processes 4) (λ q. eqb (get_or (four_at table (place_of states)) q 0) (get_or states q 0))) false ≡ true → TargetHeld P es (λ q. get_or states q 0)
        go true l d =
            held_as (λ q. get_or states q 0) (λ q. get_or (four_at table (4 * place)) q 0) (λ q m.
            sym (eqb-true (get_or (four_at table (4 * place)) q 0) (get_or states q 0)
            (T_true _ (all_yes (min s.processes 4) (λ q. eqb (get_or (four_at table (4 * place)) q 0) (get_or states q 0)) (subst T (sym d) tt) q (omega (arith, R.shape.processes))))))
            (F.groups place (leb-true (place_of states + 4) (length table) l))
        go false l d = absurd (false≢true d)

    -- ---- no step from there leads in

    module _ (d : Configuration) (o : EntryOf P d) (own : d.state ≡ (λ q. get_or states q 0)) where
      -- serialise and update leave local states as they are
      pub full_serialise : is_full table s states ≡ true → (p v : ℕ) → every (held P.shape es) (predecessors P d (Serialise p v)) ≡ true
      full_serialise i p v = full_step P R.well_formed (format_no_ff R.shape) es F.entries d o (Serialise p v) (subst (TargetHeld P es) (sym own) (full_held i))

      pub full_update : is_full table s states ≡ true → (p : ℕ) → every (held P.shape es) (predecessors P d (Update p)) ≡ true
      full_update i p = full_step P R.well_formed (format_no_ff R.shape) es F.entries d o (Update p) (subst (TargetHeld P es) (sym own) (full_held i))

module _ (P : Program) (R : ProgramInRange P) (es : List Configuration) (table states : List ℕ) (s : Shape) (e : P.shape.processes ≡ s.processes) (F : Full P es table)
    (d : Configuration) (o : EntryOf P d) (own : d.state ≡ (λ q. get_or states q 0)) where
  pub full_take : (n : ℕ) → is_full table s (states_from states (transition P n).process (transition P n).from) ≡ true → every (held P.shape es) (predecessors P d (Take n)) ≡ true
  full_take n i =
      full_step P R.well_formed (format_no_ff R.shape) es F.entries d o (Take n)
      (held_as P R es (states_before P d (Take n)) (λ q. get_or (states_from states (transition P n).process (transition P n).from) q 0) (λ q l.
      ap (λ (f : ℕ → ℕ). put f (transition P n).process (transition P n).from q) own
      ∙ sym (from_is states (transition P n).process (transition P n).from q (omega (arith, R.shape.processes))))
      (full_held P R es table (states_from states (transition P n).process (transition P n).from) s e F i))

-- ---- all four states

four_list : (xs : List ℕ) → length xs ≡ 4 → get_or xs 0 0 ∷ get_or xs 1 0 ∷ get_or xs 2 0 ∷ get_or xs 3 0 ∷ [] ≡ xs
four_list [] e = absurd (omega arith)
four_list (a ∷ []) e = absurd (omega arith)
four_list (a ∷ b ∷ []) e = absurd (omega arith)
four_list (a ∷ b ∷ c ∷ []) e = absurd (omega arith)
four_list (a ∷ b ∷ c ∷ d ∷ []) e = refl
four_list (a ∷ b ∷ c ∷ d ∷ x ∷ xs) e = absurd (omega arith)

same_four : (xs ys : List ℕ) → length xs ≡ 4 → length ys ≡ 4 → ((q : ℕ) → q < 4 → get_or xs q 0 ≡ get_or ys q 0) → xs ≡ ys
same_four xs ys a b each = sym (four_list xs a) ∙ cons (each 0 (omega arith)) (each 1 (omega arith)) (each 2 (omega arith)) (each 3 (omega arith)) ∙ four_list ys b
  where
    cons : {a b c d e g h i : ℕ} → a ≡ e → b ≡ g → c ≡ h → d ≡ i → a ∷ b ∷ c ∷ d ∷ [] ≡ e ∷ g ∷ h ∷ i ∷ []
    cons p q r s = ap₂ ◌∷◌ p (ap₂ ◌∷◌ q (ap₂ ◌∷◌ r (ap (λ (x : ℕ). x ∷ []) s)))

four_long : (table : List ℕ) (at : ℕ) → length (four_at table at) ≡ 4
unfolding four_at
four_long table at = refl

pub among_there : (table states : List ℕ) (at : ℕ) → at ≡ place_of states → at + 4 ≤ length table → length states ≡ 4
    → {r : Bool} → r ≡ all_below (min 4 4) (λ q. eqb (get_or (four_at table at) q 0) (get_or states q 0)) → r ≡ true → Among table states
unfolding place_of
among_there table states at e l n d t = (
  (get_or states 0 0 + 32 * get_or states 1 0 + 328 * get_or states 2 0 + 577 * get_or states 3 0) % 1024,
  omega (arith, e),
  ap (four_at table) (sym e) ∙ same_four (four_at table at) states (four_long table at) n (λ q m. eqb-true (get_or (four_at table at) q 0) (get_or states q 0)
      (T_true _ (all_yes 4 (λ q. eqb (get_or (four_at table at) q 0) (get_or states q 0)) (subst T (sym (sym d ∙ t)) tt) q m))),
)

-- after states were put, what stands anywhere is those, or stood there before
pub among_put : (table states : List ℕ) (i : ℕ) → length states ≡ 4 → 4 * i + 4 ≤ length (with_states table states)
    → (four_at (with_states table states) (4 * i) ≡ states) ⊎ ((4 * i + 4 ≤ length table) × (four_at (with_states table states) (4 * i) ≡ four_at table (4 * i)))
unfolding with_states place_of
among_put table states i n l = go (leb (place_of states + 4) (length table)) refl l
  where
    place : ℕ
    place = (get_or states 0 0 + 32 * get_or states 1 0 + 328 * get_or states 2 0 + 577 * get_or states 3 0) % 1024

    apart : (i ≡ place → ⊥) → (q : ℕ) → q < 4 → (4 * i + q < 4 * place) ⊎ (4 * place + 4 ≤ 4 * i + q)
    apart k q l = elim (dec_lt i place) [ yes a ↦ inl (omega arith) | no a ↦ elim (dec_lt place i) [ yes b ↦ inr (omega arith) | no b ↦ absurd (k (omega arith)) ] ]

    go : (b : Bool) → leb (place_of states + 4) (length table) ≡ b → 4 * i + 4 ≤ length (choose b (λ _. put_four table (place_of states) states) (λ _. table))
        → (four_at (choose b (λ _. put_four table (place_of states) states) (λ _. table)) (4 * i) ≡ states)
        ⊎ ((4 * i + 4 ≤ length table) × (four_at (choose b (λ _. put_four table (place_of states) states) (λ _. table)) (4 * i) ≡ four_at table (4 * i)))
    go false e m = inr (m, refl)
    go true e m = elim (ℕ_discrete i place) [
      | yes k ↦ inl (same_four (four_at (put_four table (4 * place) states) (4 * i)) states (four_long (put_four table (4 * place) states) (4 * i)) n (λ q r.
          four_is (put_four table (4 * place) states) (4 * i) q r
          ∙ ap (λ (j : ℕ). get_or (put_four table (4 * place) states) (4 * j + q) 0) k
          ∙ put_same table (4 * place) states (leb-true (place_of states + 4) (length table) e) q r))
      | no k ↦ inr (
        omega (arith, put_length table (4 * place) states, m),
        same_four (four_at (put_four table (4 * place) states) (4 * i)) (four_at table (4 * i)) (four_long (put_four table (4 * place) states) (4 * i)) (four_long table (4 * i)) (λ q r.
            four_is (put_four table (4 * place) states) (4 * i) q r
            ∙ put_other table (4 * place) states (4 * i + q) (apart k q r)
            ∙ sym (four_is table (4 * i) q r)),
      )
    ]
