-- Reads that all stand at one message can be joined to what is asked of it.
use Prim.Native.Nat.{ℕ, zero, suc, ◌<◌}
use mathlib.Core.Path.{◌≡◌, refl, sym, ◌∙◌}
use mathlib.Core.Bool.{not}
use mathlib.Core.Option.{Option, none, some}
use mathlib.Core.List.{List, [], ◌∷◌, ◌++◌}
use native.Mathlib.Omega.{arith}
use lib.Dec.{T}
use Rattle.machine_pws.specs.Machine.{put}
use Rattle.machine_pws.proofs.Facts.{put_each}
use Rattle.list_theory.specs.Lists.{for_below}
use Rattle.list_theory.proofs.Lists.{T_true, T_false}
use Rattle.pattern_theory.specs.Patterns.{PathRead}
use Rattle.pattern_theory.specs.Fitting.{Stands}
use Rattle.pattern_theory.specs.Predecessors.{agrees, joined}
use Rattle.pattern_theory.proofs.Subsequences.{stands_agrees}

-- no read is own, and each has the value of its variable
abbrev pub AllAt : (ℕ → ℕ) → List PathRead → Type 0
AllAt val [] = Unit {0}
AllAt val (r ∷ rs) = T (not r.own) × (val r.variable ≡ r.value) × AllAt val rs

pub at_append : (val : ℕ → ℕ) (rs ss : List PathRead) → AllAt val rs → AllAt val ss → AllAt val (rs ++ ss)
at_append val [] ss a b = b
at_append val (r ∷ rs) ss a b = (a.0, a.1, at_append val rs ss a.2 b)

pub at_below : (val : ℕ → ℕ) (n : ℕ) (f : ℕ → List PathRead) → ((q : ℕ) → q < n → AllAt val (f q)) → AllAt val (for_below n f)
at_below val zero f a = tt
at_below val (suc n) f a = at_append val (for_below n f) (f n) (at_below val n f (λ q l. a q (omega arith))) (a n (omega arith))

stands_some : (x : Option ℕ) (y z : ℕ) → Stands x y → y ≡ z → Stands x z
stands_some none y z s e = tt
stands_some (some u) y z s e = s ∙ e

pub record Joins (val : ℕ → ℕ) (newest : ℕ → Option ℕ) (rs : List PathRead) : Type 0 where
  pub newer : ℕ → Option ℕ
  pub is : joined newest rs ≡ some newer
  pub stand : (v : ℕ) → Stands (newer v) (val v)

pub joins : (val : ℕ → ℕ) (newest : ℕ → Option ℕ) → ((v : ℕ) → Stands (newest v) (val v)) → (rs : List PathRead) → AllAt val rs → Joins val newest rs
joins val newest s [] a = record { newer = newest; is = refl; stand = s }
joins val newest s (r ∷ rs) a =
    let after : ℕ → Option ℕ = put newest r.variable (some r.value) in
    let stand : (v : ℕ) → Stands (after v) (val v) = λ v. put_each (λ v o. Stands o (val v)) newest r.variable (some r.value) v (sym a.1) (λ n. s v) in
    let j = joins val after stand rs a.2 in
    let fits = T_true (agrees (newest r.variable) r.value) (stands_agrees (newest r.variable) r.value (stands_some (newest r.variable) (val r.variable) r.value (s r.variable) a.1)) in
    record { newer = j.newer; is = rw (T_false r.own a.0, fits) j.is; stand = j.stand }
