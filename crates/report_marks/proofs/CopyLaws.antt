-- A slice copied into an array, and what the array's beginning is.
use Prim.Native.Nat.{ℕ, zero, suc, ◌+◌, ◌≤◌, min}
use mathlib.Core.Path.{◌≡◌, refl, sym, ap, ap₂, ◌∙◌}
use mathlib.Core.List.{List, [], ◌∷◌, ◌++◌}
use native.Mathlib.Omega.{arith}
use lib.ListN.{length, set, take, drop, replicate, length-replicate}
use lib.Seq.{paste, length-paste, take-paste, take_all, set_out}
use Rattle.report_marks.specs.Copy.{copied_in}

take_set : (n : ℕ) (l : List ℕ) (i x : ℕ) → take n (set l i x) ≡ set (take n l) i x
take_set zero l i x = refl
take_set (suc n) [] i x = refl
take_set (suc n) (y ∷ l) zero x = refl
take_set (suc n) (y ∷ l) (suc i) x = ap (λ (r : List ℕ). y ∷ r) (take_set n l i x)

-- ---- the copy: the first n bytes stand there, and what the array had follows them

module _ (room : ℕ) (g front zeros : List ℕ) (n at : ℕ) (z : zeros ≡ replicate room 0) (e : n ≡ min (length g) room) (t : front ≡ take n g) where
  copy_is : front ++ drop n zeros ≡ paste (replicate room 0) 0 g (min (length g) room)
  copy_is =
      let k : n ≡ 0 + min (length g) room = omega (arith, e) in
      ap₂ (λ (x y : List ℕ). x ++ y) (t ∙ ap (λ (m : ℕ). take m g) e) (ap₂ drop k z)

  pub copied_all : set (front ++ drop n zeros) at 0 ≡ copied_in room g at
  unfolding copied_in
  copied_all = ap (λ (c : List ℕ). set c at 0) copy_is

  pub copied_past : room ≤ at → front ++ drop n zeros ≡ copied_in room g at
  copied_past l =
      let r : length (replicate {A = ℕ} room 0) ≡ room = length-replicate room 0 in
      let m : length (front ++ drop n zeros) ≡ room =
      ap length copy_is ∙ length-paste (replicate room 0) 0 g (min (length g) room) (omega arith) (omega arith) ∙ r in
      sym (set_out (front ++ drop n zeros) at 0 (omega (arith, m))) ∙ copied_all

-- ---- the beginning, as long as what was copied

module _ (room : ℕ) (g : List ℕ) (at : ℕ) (fits : length g ≤ room) where
  abbrev whole : List ℕ
  whole = paste (replicate room 0) 0 g (min (length g) room)

  whole_length : length whole ≡ room
  whole_length =
      let z : length (replicate {A = ℕ} room 0) ≡ room = length-replicate room 0 in
      length-paste (replicate room 0) 0 g (min (length g) room) (omega arith) (omega arith) ∙ z

  whole_begins : take (length g) whole ≡ g
  whole_begins =
      let z : 0 + min (length g) room ≡ length g = omega arith in
      ap (λ (k : ℕ). take k whole) (sym z) ∙ take-paste (replicate room 0) 0 g (min (length g) room) (omega arith) (omega arith)
      ∙ take_all (min (length g) room) g (omega arith)

  pub copied_begins : take (length g) (copied_in room g at) ≡ set g at 0
  unfolding copied_in
  copied_begins = take_set (length g) whole at 0 ∙ ap (λ (l : List ℕ). set l at 0) whole_begins
