-- What the code of slots reads where there is none, and where a number belongs.
use Prim.Native.Nat.{ℕ, ◌+◌, ◌*◌, ◌-◌, ◌/◌, ◌%◌, ◌^◌, ◌<◌, ◌≤◌}
use mathlib.Core.Path.{◌≡◌, refl, ap, ◌∙◌}
use mathlib.Core.List.{List}
use native.Mathlib.Omega.{arith}
use lib.ListN.{length}
use lib.Bits.{bit_or}
use lib.Dec.{eqb}
use lib.Count.{count_leading_zeros, leading_top}
use borrow.Author.Tests.{lt-ltb, le-ltb}
use Rattle.base.specs.Bytes.{le32, put32}
use Rattle.list_summary.specs.Slots.{word, put_word, link_to, head_link, field_at, count_at, signature_at, with_link, with_digit, hung, put_field, home_of}

pub word_far : (sum : List ℕ) (i : ℕ) → length sum / 4 ≤ i → word sum i ≡ 0
unfolding word
word_far sum i l = rw (le-ltb i (length sum / 4) l)

pub put_far : (sum : List ℕ) (i x : ℕ) → length sum / 4 ≤ i → put_word sum i x ≡ sum
unfolding put_word
put_far sum i x l = rw (le-ltb i (length sum / 4) l)

pub put_near : (sum : List ℕ) (i x place : ℕ) → i < length sum / 4 → place ≡ 4 * i → put32 sum place x ≡ put_word sum i x
unfolding put_word
put_near sum i x place l h = rw (lt-ltb i (length sum / 4) l, h)

pub word_near : (sum : List ℕ) (i place : ℕ) → i < length sum / 4 → place ≡ 4 * i → le32 sum place ≡ word sum i
unfolding word
word_near sum i place l h = rw (lt-ltb i (length sum / 4) l, h)

-- ---- homes

pub zeros_few : (n : ℕ) → 2 ≤ n → n < 18446744073709551616 → count_leading_zeros 64 (n - 1) < 64
zeros_few n l b = let r = leading_top 64 (n - 1) (omega arith) (omega arith) in omega (arith, r.1)

module _ (number n : ℕ) where
  pub home_few : n < 2 → 0 ≡ home_of number n
  unfolding home_of
  home_few l = rw (lt-ltb n 2 l)

  module _ (l : 2 ≤ n) where
    abbrev y : ℕ
    y = number / 2 ^ count_leading_zeros 64 (n - 1)

    pub home_low : number / 2 ^ count_leading_zeros 64 (n - 1) < n → number / 2 ^ count_leading_zeros 64 (n - 1) ≡ home_of number n
    unfolding home_of
    home_low b = rw (le-ltb n 2 l, lt-ltb y n b)

    module _ (b : n ≤ number / 2 ^ count_leading_zeros 64 (n - 1)) where
      pub home_high : number / 2 ^ count_leading_zeros 64 (n - 1) - n < n → number / 2 ^ count_leading_zeros 64 (n - 1) - n ≡ home_of number n
      unfolding home_of
      home_high d = rw (le-ltb n 2 l, le-ltb y n b, lt-ltb (y - n) n d)

      pub home_none : n ≤ number / 2 ^ count_leading_zeros 64 (n - 1) - n → 0 ≡ home_of number n
      unfolding home_of
      home_none d = rw (le-ltb n 2 l, le-ltb y n b, le-ltb (y - n) n d)

-- ---- the stores of the code

-- the low word of a slot
pub low_is : (k : ℕ) → 2 * k + 0 ≡ 2 * k
low_is k = omega arith

pub hang_is : (sum led new : List ℕ) (home k mark old first link upper own lower : ℕ) → old ≡ head_link sum home → first ≡ word sum (2 * home + 0) → link ≡ link_to k mark
    → upper ≡ with_link first link → led ≡ put_word sum (2 * home + 0) upper → own ≡ word led (2 * k + 1) → lower ≡ with_link own old → new ≡ put_word led (2 * k + 1) lower
    → new ≡ hung sum home k mark
unfolding hung
hang_is sum led new home k mark old first link upper own lower a b i x d e y g =
    let f : first ≡ word sum (2 * home) = b ∙ ap (word sum) (low_is home) in
    let u : led ≡ put_word sum (2 * home) (with_link first (link_to k mark)) = d ∙ ap (λ (z : ℕ). put_word sum z upper) (low_is home) ∙ ap (put_word sum (2 * home)) (x ∙ ap (with_link first) i) in
    let v : new ≡ put_word led (2 * k + 1) (with_link own old) = g ∙ ap (put_word led (2 * k + 1)) y in
    rw (← f, ← a, ← u, ← e) v

pub count_is : (sum led new : List ℕ) (k x low high upper lower : ℕ) → low ≡ word sum (2 * k + 0) → upper ≡ with_digit low (x % 1024) → led ≡ put_word sum (2 * k + 0) upper
    → high ≡ word led (2 * k + 1) → lower ≡ with_digit high (x / 1024 % 1024) → new ≡ put_word led (2 * k + 1) lower → new ≡ put_field sum k x
unfolding put_field
count_is sum led new k x low high upper lower a i b d y e =
    let f : low ≡ word sum (2 * k) = a ∙ ap (word sum) (low_is k) in
    let u : led ≡ put_word sum (2 * k) (with_digit low (x % 1024)) = b ∙ ap (λ (z : ℕ). put_word sum z upper) (low_is k) ∙ ap (put_word sum (2 * k)) i in
    let v : new ≡ put_word led (2 * k + 1) (with_digit high (x / 1024 % 1024)) = e ∙ ap (put_word led (2 * k + 1)) y in
    rw (← f, ← u, ← d) v

-- ---- fields

pub count_some : (sum : List ℕ) (k : ℕ) {x : ℕ} → x ≡ field_at sum k → x < 786432 → x ≡ count_at sum k
unfolding count_at
count_some sum k {x} e l = rw (← e) (rw (lt-ltb x 786432 l) refl)

pub count_none : (sum : List ℕ) (k : ℕ) {x : ℕ} → x ≡ field_at sum k → 786432 ≤ x → 0 ≡ count_at sum k
unfolding count_at
count_none sum k {x} e l = rw (← e) (rw (le-ltb x 786432 l) refl)

pub fits_tested : (sum : List ℕ) (k bits : ℕ) {x : ℕ} → x ≡ field_at sum k → eqb (bit_or (x % 262144) bits) bits ≡ eqb (bit_or (signature_at sum k) bits) bits
unfolding signature_at
fits_tested sum k bits e = ap (λ (y : ℕ). eqb (bit_or (y % 262144) bits) bits) e
