-- Laws of bytes and numbers in lists.
use Prim.Native.Nat.{ℕ, suc, ◌+◌, ◌*◌, ◌-◌, ◌/◌, ◌%◌, ◌<◌, ◌≤◌}
use mathlib.Core.Path.{◌≡◌, refl, sym, ap, ◌∙◌}
use mathlib.Core.Logic.{◌⊎◌, inl, inr, ⊎_elim, ◌≢◌}
use mathlib.Core.Bool.{false}
use mathlib.Core.List.{List, [], ◌∷◌}
use native.Mathlib.Omega.{arith}
use native.Mathlib.Nat.{div-div-eq-div-mul}
use native.Mathlib.Decide.{dec_le}
use lib.ListN.{length, get_or, set, length-set, get_or-eq_default}
use lib.Seq.{get_or-set_same, get_or-set_other}
use borrow.Author.Tests.{le-leb, lt-leb, leb-false}
use Rattle.base.specs.Bytes.{choose, byte, cut, le32, put32}

pub byte_past : (f : List ℕ) (at : ℕ) → length f ≤ at → byte f at ≡ 0
byte_past f at l = get_or-eq_default f 0 l

pub le32_past : (f : List ℕ) (at : ℕ) → length f ≤ at → le32 f at ≡ 0
unfolding le32
le32_past f at l = omega (arith, byte_past f at l, byte_past f (at + 1) (omega arith), byte_past f (at + 2) (omega arith), byte_past f (at + 3) (omega arith))

pub put32_length : (f : List ℕ) (at x : ℕ) → length (put32 f at x) ≡ length f
unfolding put32
put32_length f at x = elim (dec_le (at + 4) (length f)) [
  | yes l ↦ rw (le-leb (at + 4) (length f) l) (simp length-set)
  | no l ↦ rw (lt-leb (at + 4) (length f) (omega arith))
]

four : (s : List ℕ) (at a b c d : ℕ) → at + 4 ≤ length s
    → (let t : List ℕ = set (set (set (set s at a) (at + 1) b) (at + 2) c) (at + 3) d in
    (get_or t at 0 ≡ a) × (get_or t (at + 1) 0 ≡ b) × (get_or t (at + 2) 0 ≡ c) × (get_or t (at + 3) 0 ≡ d))
four s at a b c d h =
    let n03 : at ≢ at + 3 = λ e. omega arith in
    let n02 : at ≢ at + 2 = λ e. omega arith in
    let n01 : at ≢ at + 1 = λ e. omega arith in
    let n13 : at + 1 ≢ at + 3 = λ e. omega arith in
    let n12 : at + 1 ≢ at + 2 = λ e. omega arith in
    let n23 : at + 2 ≢ at + 3 = λ e. omega arith in
    let l0 : at < length s = omega arith in
    let l1 : at + 1 < length (set s at a) = simp length-set (omega arith) in
    let l2 : at + 2 < length (set (set s at a) (at + 1) b) = simp length-set (omega arith) in
    let l3 : at + 3 < length (set (set (set s at a) (at + 1) b) (at + 2) c) = simp length-set (omega arith) in (
      simp (get_or-set_same, get_or-set_other),
      simp (get_or-set_same, get_or-set_other),
      simp (get_or-set_same, get_or-set_other),
      simp (get_or-set_same, get_or-set_other),
    )

digits : (x q₁ q₂ q₃ : ℕ) → q₁ ≡ x / 256 → q₂ ≡ q₁ / 256 → q₃ ≡ q₂ / 256 → q₃ < 256
    → x % 256 + 256 * (q₁ % 256) + 65536 * (q₂ % 256) + 16777216 * (q₃ % 256) ≡ x
digits x q₁ q₂ q₃ e₁ e₂ e₃ b = omega arith

-- a number that was written is read again
pub le32_put32 : (s : List ℕ) (at x : ℕ) → at + 4 ≤ length s → x < 4294967296 → le32 (put32 s at x) at ≡ x
unfolding le32 put32
le32_put32 s at x h b =
    let f = four s at (x % 256) (x / 256 % 256) (x / 65536 % 256) (x / 16777216 % 256) h in
    let top : x / 16777216 < 256 = omega arith in
    let g = digits x (x / 256) (x / 65536) (x / 16777216) refl (sym (div-div-eq-div-mul x 256 256)) (sym (div-div-eq-div-mul x 65536 256)) top in
    rw (le-leb (at + 4) (length s) h, f.0, f.1, f.2, f.3) g

-- and does not touch what stands elsewhere
pub byte_put32 : (s : List ℕ) (at x i : ℕ) → (i < at) ⊎ (at + 4 ≤ i) → byte (put32 s at x) i ≡ byte s i
unfolding put32
byte_put32 s at x i o = elim (dec_le (at + 4) (length s)) [
  | yes l ↦
      let n0 : i ≢ at = ⊎_elim (λ a e. omega arith) (λ a e. omega arith) o in
      let n1 : i ≢ at + 1 = ⊎_elim (λ a e. omega arith) (λ a e. omega arith) o in
      let n2 : i ≢ at + 2 = ⊎_elim (λ a e. omega arith) (λ a e. omega arith) o in
      let n3 : i ≢ at + 3 = ⊎_elim (λ a e. omega arith) (λ a e. omega arith) o in
      rw (le-leb (at + 4) (length s) l) (simp get_or-set_other)
  | no l ↦ rw (lt-leb (at + 4) (length s) (omega arith))
]

pub le32_elsewhere : (s : List ℕ) (at x i : ℕ) → (i + 4 ≤ at) ⊎ (at + 4 ≤ i) → le32 (put32 s at x) i ≡ le32 s i
unfolding le32
le32_elsewhere s at x i o =
    let away : (j : ℕ) → j < 4 → byte (put32 s at x) (i + j) ≡ byte s (i + j) = λ j l. byte_put32 s at x (i + j) (⊎_elim (λ a. inl (omega arith)) (λ a. inr (omega arith)) o) in
    let e : byte (put32 s at x) i ≡ byte s i = byte_put32 s at x i (⊎_elim (λ a. inl (omega arith)) (λ a. inr (omega arith)) o) in
    omega (arith, e, away 1 (omega arith), away 2 (omega arith), away 3 (omega arith))

-- ---- records

pub cut_fits : (f : List ℕ) (at body : ℕ) → cut f at body ≡ false → at + body < length f
unfolding cut
cut_fits f at body e = let l = leb-false (length f - at) body e in omega arith
