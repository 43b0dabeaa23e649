-- Loops that gather: one more of what they go over.
use Prim.Native.Nat.{ℕ, zero, suc, ◌+◌, ◌-◌, ◌*◌, ◌%◌, ◌^◌, ◌<◌, ◌≤◌, min}
use mathlib.Core.Path.{◌≡◌, refl, sym, ap, ap₂, subst, ◌∙◌}
use mathlib.Core.Bool.{Bool, true, false, cond}
use mathlib.Core.List.{List, [], ◌∷◌}
use native.Mathlib.Omega.{arith}
use native.Mathlib.Numerals.{unary_clauses}
use lib.Bits.{bit_xor}
use lib.ListN.{length, get_or, replicate}
use borrow.Author.Tests.{le-leb, lt-leb}
use Rattle.machine_pws.specs.Machine.{is_empty}
use Rattle.file_records.specs.declared.program.Shape.{Shape}
use Rattle.file_contents.specs.declared.entry.Queue.{Queue}
use Rattle.file_contents.specs.declared.entry.Cube.{Cube}
use Rattle.file_contents.specs.Cube.{no_queue}
use Rattle.list_key.specs.Tags.{tags_of, lowest_below}
use Rattle.list_key.specs.Signature.{signature_of}
use Rattle.list_key.specs.Number.{stir, behind, packed_states, empty_bit, packed_row, packed_queues, with_tags, with_signature, key_mixed, number_of}

pub lowest_next : (zs : List ℕ) (p : ℕ) {low x : ℕ} → low ≡ lowest_below p zs → x ≡ min low (get_or zs p 0) → x ≡ lowest_below (p + 1) zs
lowest_next zs p e f = simp unary_clauses (f ∙ ap (λ (k : ℕ). min k (get_or zs p 0)) e)

pub states_next : (zs : List ℕ) (p : ℕ) {h x : ℕ} → h ≡ packed_states p zs → x ≡ get_or zs p 0 → bit_xor ((h * 2 ^ 8) % 2 ^ 64) x ≡ packed_states (p + 1) zs
unfolding behind
states_next zs p e f = simp unary_clauses (ap₂ (λ (h x : ℕ). bit_xor ((h * 2 ^ 8) % 2 ^ 64) x) e f)

pub row_next : (qs : List Queue) (p v g : ℕ) {h x : ℕ} → h ≡ packed_row qs p v g → x ≡ empty_bit (get_or qs (4 * p + v) no_queue) → bit_xor ((h * 2 ^ 1) % 2 ^ 64) x ≡ packed_row qs p (v + 1) g
unfolding behind
row_next qs p v g e f = simp unary_clauses (ap₂ (λ (h x : ℕ). bit_xor ((h * 2 ^ 1) % 2 ^ 64) x) e f)

pub empty_none : (xs : List ℕ) → length xs ≡ 0 → is_empty xs ≡ true
empty_none [] e = refl
empty_none (x ∷ xs) e = absurd (omega arith)

pub empty_some : (xs : List ℕ) → (length xs ≡ 0 → ⊥) → is_empty xs ≡ false
empty_some [] e = absurd (e refl)
empty_some (x ∷ xs) e = refl

pub zeros_at : (n i : ℕ) → get_or {A = ℕ} (replicate n 0) i 0 ≡ 0
zeros_at zero i = refl
zeros_at (suc n) zero = refl
zeros_at (suc n) (suc i) = zeros_at n i

-- ---- tags, newest first

module _ (ts : List ℕ) where
  pub tags_hit : (i h y : ℕ) {r : ℕ} → with_tags ts i h ≡ y → 0 < i → 65536 ≤ get_or ts (i - 1) 0 → r ≡ stir h → with_tags ts (i - 1) (bit_xor r (get_or ts (i - 1) 0)) ≡ y
  tags_hit zero h y e a b c = absurd (omega arith)
  tags_hit (suc j) h y {r} e a b c =
      let z : suc j - 1 ≡ j = omega arith in
      let l : 65536 ≤ get_or ts j 0 = subst (λ (k : ℕ). 65536 ≤ get_or ts k 0) z b in
      ap (λ (k : ℕ). with_tags ts k (bit_xor r (get_or ts k 0))) z
      ∙ ap (λ (k : ℕ). with_tags ts j (bit_xor k (get_or ts j 0))) c
      ∙ ap (λ (b : Bool). with_tags ts j (cond b (bit_xor (stir h) (get_or ts j 0)) h)) (sym (le-leb 65536 (get_or ts j 0) l))
      ∙ e

  pub tags_pass : (i h y : ℕ) → with_tags ts i h ≡ y → 0 < i → get_or ts (i - 1) 0 < 65536 → with_tags ts (i - 1) h ≡ y
  tags_pass zero h y e a b = absurd (omega arith)
  tags_pass (suc j) h y e a b =
      let z : suc j - 1 ≡ j = omega arith in
      let l : get_or ts j 0 < 65536 = subst (λ (k : ℕ). get_or ts k 0 < 65536) z b in
      ap (λ (k : ℕ). with_tags ts k h) z
      ∙ ap (λ (b : Bool). with_tags ts j (cond b (bit_xor (stir h) (get_or ts j 0)) h)) (sym (lt-leb 65536 (get_or ts j 0) l))
      ∙ e

pub signature_put : (h x : ℕ) → x < 262144 → h - h % 1048576 + (x * 2 ^ 2) % 2 ^ 64 + h % 4 ≡ with_signature h x
unfolding with_signature
signature_put h x l = omega arith

-- ---- a number that is gathered

pub number_gathered : (s : Shape) (c : Cube) (ts : List ℕ) (h : ℕ) {n p q j k x r : ℕ} → ts ≡ tags_of s c → n ≡ min c.count 20 → p ≡ packed_states (min s.processes 4) c.states
    → q ≡ packed_queues (min s.variables 4) c.queues (min s.processes 4) p → j ≡ 0 → with_tags ts j h ≡ with_tags ts n q → k ≡ stir h → x ≡ signature_of s c → r ≡ with_signature k x → r ≡ number_of s c
unfolding number_of key_mixed
number_gathered s c ts h e f a b z d g u v =
    v ∙ ap₂ with_signature
    (g ∙ ap stir (sym (ap (λ (i : ℕ). with_tags ts i h) z) ∙ d ∙ (λ i. with_tags (e i) (f i) (b i))
    ∙ ap (λ (y : ℕ). with_tags (tags_of s c) (min c.count 20) (packed_queues (min s.variables 4) c.queues (min s.processes 4) y)) a)) u
