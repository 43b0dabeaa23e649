-- The choices of cuts at a new message have the one that a configuration shows.
use Prim.Native.Nat.{ℕ, zero, suc, ◌<◌, ◌≤◌}
use mathlib.Core.Path.{refl, sym, subst}
use mathlib.Core.Logic.{◌≢◌}
use mathlib.Core.Bool.{true, false}
use mathlib.Core.Option.{Option, none, some}
use mathlib.Core.List.Memᴰ
use mathlib.Core.List.{List, [], ◌∷◌, map, Memᴰ}
use native.Mathlib.Omega.{arith}
use native.Mathlib.Decide.{ℕ_discrete}
use lib.ListN.{length}
use lib.Dec.{eqb}
use borrow.Author.Tests.{eq-eqb, ne_eqb}
use Rattle.machine_pws.specs.Program.{Shape}
use Rattle.machine_pws.specs.Machine.{Memory, put, append}
use Rattle.machine_pws.proofs.Facts.{put_each}
use Rattle.list_theory.specs.Lists.{for_below}
use Rattle.list_theory.proofs.Lists.{in_each}
use Rattle.pattern_theory.specs.Patterns.{PathRead, Pattern}
use Rattle.pattern_theory.specs.Fitting.{Stands, held, PathFrom}
use Rattle.pattern_theory.specs.Predecessors.{Cut, cuts, choices, joined, new_message}
use Rattle.pattern_theory.proofs.Joining.{at_below, joins}
use Rattle.pattern_theory.proofs.Appending.{CutFits, cut_other}

-- each process its own cut: that combination is a choice
choices_in : (n : ℕ) (f : ℕ → List Cut) (F : ℕ → Cut → Type 0) → ((q : ℕ) → q < n → (k : Cut) × Memᴰ k (f q) × F q k)
    → (g : ℕ → Cut) × Memᴰ g (choices n f) × ((q : ℕ) → q < n → F q (g q))
choices_in zero f F h = (λ q. record { front = []; end = [] }, Memᴰ.head refl, λ q l. absurd (omega arith))
choices_in (suc n) f F h =
    let r = choices_in n f F (λ q l. h q (omega arith)) in
    let c = h n (omega arith) in (
      put r.0 n c.0,
      in_each (choices n f) (λ g. map (put g n) (f n)) r.1 (Memᴰ.map (put r.0 n) c.1),
      λ q l. put_each F r.0 n c.0 q c.2 (λ e. r.2 q (omega arith)),
    )

-- what the fronts and the newest message are asked for, and that it is among what `to` is given
pub record Parted (S : Shape) (a : Pattern) (m : Memory) (p x u : ℕ) (k : Cut) (to : (ℕ → Option ℕ) → (ℕ → List PathRead) → List Pattern) : Type 0 where
  pub newer : ℕ → Option ℕ
  pub fronts : ℕ → List PathRead
  pub stand : (v : ℕ) → Stands (newer v) (held (append m p x u) (suc (length m.channel)) v)
  pub paths : (q : ℕ) → q < S.processes → PathFrom m q (m.pointer q) (fronts q)
  pub among : (b : Pattern) → Memᴰ b (to newer fronts) → Memᴰ b (new_message S a p x k to)

module _ (S : Shape) (a : Pattern) (m : Memory) (p x u : ℕ) (k : Cut) (to : (ℕ → Option ℕ) → (ℕ → List PathRead) → List Pattern) where
  abbrev cuts_of : ℕ → List Cut
  cuts_of q = elim (eqb q p) [ true ↦ k ∷ [] | false ↦ cuts x (a.path q) ]

  pub parted : ((q : ℕ) → q < S.processes → m.pointer q ≤ length m.channel)
      → ((q : ℕ) → q < S.processes → q ≢ p → PathFrom (append m p x u) q (m.pointer q) (a.path q))
      → CutFits m p x u p (m.pointer p) k
      → ((v : ℕ) → Stands (a.newest v) (held (append m p x u) (suc (length m.channel)) v))
      → Parted S a m p x u k to
  parted high others own asked =
      let each : (q : ℕ) → q < S.processes → (c : Cut) × Memᴰ c (cuts_of q) × CutFits m p x u q (m.pointer q) c = λ q l. elim (ℕ_discrete q p) [
        | yes e ↦ (k, rw (eq-eqb q p e, cuts_of) (Memᴰ.head refl), subst (λ (i : ℕ). CutFits m p x u i (m.pointer i) k) (sym e) own)
        | no e ↦ let r = cut_other m p x u q (high q l) e (a.path q) (m.pointer q) (high q l) (others q l e) in (r.0, rw (ne_eqb q p e, cuts_of) r.1, r.2)
      ] in
      let g = choices_in S.processes cuts_of (λ q c. CutFits m p x u q (m.pointer q) c) each in
      let ends = for_below S.processes (λ q. (g.0 q).end) in
      let val = held (append m p x u) (suc (length m.channel)) in
      let j = joins val a.newest asked ends (at_below val S.processes (λ q. (g.0 q).end) (λ q l. (g.2 q l).end)) in
      record {
        newer = j.newer;
        fronts = λ q. (g.0 q).front;
        stand = j.stand;
        paths = λ q l. (g.2 q l).front;
        among = λ b i. in_each (choices S.processes cuts_of)
            (λ h. elim (joined a.newest (for_below S.processes (λ q. (h q).end))) [ none ↦ [] | some newest ↦ to newest (λ q. (h q).front) ])
            g.1 (rw j.is i);
      }
