-- Words and slots after a store.
use Prim.Native.Nat.{ℕ, suc, ◌+◌, ◌*◌, ◌/◌, ◌%◌, ◌<◌, ◌≤◌}
use mathlib.Core.Path.{◌≡◌, refl, ap, ap₂, ◌∙◌}
use mathlib.Core.Logic.{◌⊎◌, inl, inr, ◌≢◌}
use mathlib.Core.Bool.{Bool, true, false, cond}
use mathlib.Core.List.{List}
use native.Mathlib.Omega.{arith}
use native.Mathlib.Decide.{dec_le, ℕ_discrete}
use lib.ListN.{length}
use lib.Dec.{ltb, eqb}
use borrow.Author.Tests.{lt-ltb, le-ltb, eq-eqb, ne_eqb}
use Rattle.base.specs.Bytes.{choose, put32}
use Rattle.base.proofs.ByteLaws.{put32_length, le32_put32, le32_elsewhere}
use Rattle.machine_pws.specs.Machine.{put}
use Rattle.list_summary.specs.Slots.{word, put_word, link_to, head_link, next_link, field_at, number_in, count_at, signature_at, with_link, with_digit, hung, put_field}

-- ---- words

pub put_length : (sum : List ℕ) (i x : ℕ) → length (put_word sum i x) ≡ length sum
unfolding put_word
put_length sum i x = go (ltb i (length sum / 4))
  where
    go : (b : Bool) → length (choose b (λ _. put32 sum (4 * i) x) (λ _. sum)) ≡ length sum
    go true = put32_length sum (4 * i) x
    go false = refl

pub word_same : (sum : List ℕ) (i x : ℕ) → i < length sum / 4 → x < 4294967296 → word (put_word sum i x) i ≡ x
unfolding word put_word
word_same sum i x l b = rw (lt-ltb i (length sum / 4) l, put32_length sum (4 * i) x, lt-ltb i (length sum / 4) l) (le32_put32 sum (4 * i) x (omega arith) b)

pub word_other : (sum : List ℕ) (i x j : ℕ) → j ≢ i → word (put_word sum i x) j ≡ word sum j
unfolding word put_word
word_other sum i x j d = elim (dec_le (suc i) (length sum / 4)) [
  | yes l ↦ rw (lt-ltb i (length sum / 4) l, put32_length sum (4 * i) x, le32_elsewhere sum (4 * i) x (4 * j) (away (dec_le (suc i) j)))
  | no l ↦ rw (le-ltb i (length sum / 4) (omega arith))
]
  where
    away : Dec (suc i ≤ j) → (4 * j + 4 ≤ 4 * i) ⊎ (4 * i + 4 ≤ 4 * j)
    away (yes m) = inr (omega arith)
    away (no m) = inl (omega arith)

-- ---- slots

pub put_is {ℓ} : {A : Type ℓ} (g : ℕ → A) (p : ℕ) (x : A) → put g p x p ≡ x
put_is g p x = rw (eq-eqb p p refl)

pub put_is_not {ℓ} : {A : Type ℓ} (g : ℕ → A) (p : ℕ) (x : A) (q : ℕ) → q ≢ p → put g p x q ≡ g q
put_is_not g p x q d = rw (ne_eqb q p d)

module _ (sum : List ℕ) (n : ℕ) (room : 8 * n ≤ length sum) (k x : ℕ) (l : k < n) (b : x < 4294967296) where
  -- one word of a slot is stored
  pub first_word : (j : ℕ) → word (put_word sum (2 * k) x) (2 * j) ≡ put (λ j. word sum (2 * j)) k x j
  first_word j = elim (ℕ_discrete j k) [
    | yes e ↦ rw (e, eq-eqb k k refl) (word_same sum (2 * k) x (omega arith) b)
    | no d ↦ rw (ne_eqb j k d) (word_other sum (2 * k) x (2 * j) (λ e. d (omega arith)))
  ]

  pub second_word : (j : ℕ) → word (put_word sum (2 * k + 1) x) (2 * j + 1) ≡ put (λ j. word sum (2 * j + 1)) k x j
  second_word j = elim (ℕ_discrete j k) [
    | yes e ↦ rw (e, eq-eqb k k refl) (word_same sum (2 * k + 1) x (omega arith) b)
    | no d ↦ rw (ne_eqb j k d) (word_other sum (2 * k + 1) x (2 * j + 1) (λ e. d (omega arith)))
  ]

pub first_not : (sum : List ℕ) (k x j : ℕ) → word (put_word sum (2 * k) x) (2 * j + 1) ≡ word sum (2 * j + 1)
first_not sum k x j = word_other sum (2 * k) x (2 * j + 1) (λ e. omega arith)

pub second_not : (sum : List ℕ) (k x j : ℕ) → word (put_word sum (2 * k + 1) x) (2 * j) ≡ word sum (2 * j)
second_not sum k x j = word_other sum (2 * k + 1) x (2 * j) (λ e. omega arith)

-- a field of words after one of them was stored
put_ap {ℓ} : {A : Type ℓ} (h : ℕ → A) (g : ℕ → ℕ) (k x j : ℕ) → h (put g k x j) ≡ put (λ i. h (g i)) k (h x) j
put_ap h g k x j = go (eqb j k)
  where
    go : (b : Bool) → h (cond b x (g j)) ≡ cond b (h x) (h (g j))
    go true = refl
    go false = refl

pub put_ext {ℓ} : {A : Type ℓ} (g h : ℕ → A) (k : ℕ) (x y : A) (j : ℕ) → x ≡ y → g j ≡ h j → put g k x j ≡ put h k y j
put_ext g h k x y j e d = go (eqb j k)
  where
    go : (b : Bool) → cond b x (g j) ≡ cond b y (h j)
    go true = e
    go false = d

pub put_own {ℓ} : {A : Type ℓ} (g : ℕ → A) (k : ℕ) (x : A) (j : ℕ) → x ≡ g k → put g k x j ≡ g j
put_own g k x j e = elim (ℕ_discrete j k) [ yes d ↦ rw (d, eq-eqb k k refl) e | no d ↦ rw (ne_eqb j k d) ]

-- the link and the digit of a word
abbrev lower : ℕ → ℕ
lower w = w % 4194304

abbrev upper : ℕ → ℕ
upper w = w / 4194304 % 1024

link_of : (w link : ℕ) → link < 4194304 → (with_link w link % 4194304 ≡ link) × (with_link w link / 4194304 % 1024 ≡ w / 4194304 % 1024) × (with_link w link < 4294967296)
link_of w link b = (omega arith, omega arith, omega arith)

digit_of : (w digit : ℕ) → digit < 1024 → (with_digit w digit % 4194304 ≡ w % 4194304) × (with_digit w digit / 4194304 % 1024 ≡ digit) × (with_digit w digit < 4294967296)
digit_of w digit b = (omega arith, omega arith, omega arith)

module _ (sum : List ℕ) (n : ℕ) (room : 8 * n ≤ length sum) where
  module _ (home k mark : ℕ) (hl : home < n) (kl : k < n) (kb : k < 1048575) (mb : mark < 4) where
    led : List ℕ
    led = put_word sum (2 * home) (with_link (word sum (2 * home)) (link_to k mark))

    link_small : link_to k mark < 4194304
    link_small = omega arith

    old_small : head_link sum home < 4194304
    unfolding head_link
    old_small = omega arith

    led_room : 8 * n ≤ length led
    unfolding led
    led_room = omega (arith, put_length sum (2 * home) (with_link (word sum (2 * home)) (link_to k mark)))

    pub hung_length : length (hung sum home k mark) ≡ length sum
    unfolding hung
    hung_length = simp put_length

    pub hung_head : (j : ℕ) → head_link (hung sum home k mark) j ≡ put (head_link sum) home (link_to k mark) j
    unfolding hung head_link led
    hung_head j =
        ap lower (second_not led k (with_link (word led (2 * k + 1)) (head_link sum home)) j) ∙ ap lower (first_word sum n room home (with_link (word sum (2 * home)) (link_to k mark)) hl (link_of (word sum (2 * home)) (link_to k mark) link_small).2 j)
        ∙ put_ap lower (λ i. word sum (2 * i)) home (with_link (word sum (2 * home)) (link_to k mark)) j
        ∙ ap (λ (x : ℕ). put (λ i. word sum (2 * i) % 4194304) home x j) (link_of (word sum (2 * home)) (link_to k mark) link_small).0

    pub hung_next : (j : ℕ) → next_link (hung sum home k mark) j ≡ put (next_link sum) k (head_link sum home) j
    unfolding hung next_link led
    hung_next j =
        let W = with_link (word led (2 * k + 1)) (head_link sum home) in
        let r = link_of (word led (2 * k + 1)) (head_link sum home) old_small in
        ap lower (second_word led n led_room k W kl r.2 j) ∙ put_ap lower (λ i. word led (2 * i + 1)) k W j
        ∙ put_ext (λ i. lower (word led (2 * i + 1))) (λ i. lower (word sum (2 * i + 1))) k (lower W) (head_link sum home) j r.0
        (ap lower (first_not sum home (with_link (word sum (2 * home)) (link_to k mark)) j))

    low_digit : (j : ℕ) → upper (word (hung sum home k mark) (2 * j)) ≡ upper (word sum (2 * j))
    unfolding hung led
    low_digit j =
        let W = with_link (word sum (2 * home)) (link_to k mark) in
        let r = link_of (word sum (2 * home)) (link_to k mark) link_small in
        ap upper (second_not led k (with_link (word led (2 * k + 1)) (head_link sum home)) j) ∙ ap upper (first_word sum n room home W hl r.2 j)
        ∙ put_ap upper (λ i. word sum (2 * i)) home W j ∙ put_own (λ i. upper (word sum (2 * i))) home (upper W) j r.1

    high_digit : (j : ℕ) → upper (word (hung sum home k mark) (2 * j + 1)) ≡ upper (word sum (2 * j + 1))
    unfolding hung led
    high_digit j =
        let W = with_link (word led (2 * k + 1)) (head_link sum home) in
        let r = link_of (word led (2 * k + 1)) (head_link sum home) old_small in
        ap upper (second_word led n led_room k W kl r.2 j) ∙ put_ap upper (λ i. word led (2 * i + 1)) k W j ∙ put_own (λ i. upper (word led (2 * i + 1))) k (upper W) j r.1
        ∙ ap upper (first_not sum home (with_link (word sum (2 * home)) (link_to k mark)) j)

    hung_field : (j : ℕ) → field_at (hung sum home k mark) j ≡ field_at sum j
    unfolding field_at
    hung_field j = ap₂ (λ a b. a + 1024 * b) (low_digit j) (high_digit j)

    pub hung_count : (j : ℕ) → count_at (hung sum home k mark) j ≡ count_at sum j
    unfolding count_at
    hung_count j = ap number_in (hung_field j)

    pub hung_signature : (j : ℕ) → signature_at (hung sum home k mark) j ≡ signature_at sum j
    unfolding signature_at
    hung_signature j = ap (λ (x : ℕ). x % 262144) (hung_field j)

  module _ (k x : ℕ) (kl : k < n) (b : x < 1048576) where
    low : List ℕ
    low = put_word sum (2 * k) (with_digit (word sum (2 * k)) (x % 1024))

    low_room : 8 * n ≤ length low
    unfolding low
    low_room = omega (arith, put_length sum (2 * k) (with_digit (word sum (2 * k)) (x % 1024)))

    pub counted_length : length (put_field sum k x) ≡ length sum
    unfolding put_field
    counted_length = simp put_length

    pub counted_head : (j : ℕ) → head_link (put_field sum k x) j ≡ head_link sum j
    unfolding put_field head_link low
    counted_head j =
        let W = with_digit (word sum (2 * k)) (x % 1024) in
        let r = digit_of (word sum (2 * k)) (x % 1024) (omega arith) in
        ap lower (second_not low k (with_digit (word low (2 * k + 1)) (x / 1024 % 1024)) j) ∙ ap lower (first_word sum n room k W kl r.2 j)
        ∙ put_ap lower (λ i. word sum (2 * i)) k W j ∙ put_own (λ i. lower (word sum (2 * i))) k (lower W) j r.0

    pub counted_next : (j : ℕ) → next_link (put_field sum k x) j ≡ next_link sum j
    unfolding put_field next_link low
    counted_next j =
        let W = with_digit (word low (2 * k + 1)) (x / 1024 % 1024) in
        let r = digit_of (word low (2 * k + 1)) (x / 1024 % 1024) (omega arith) in
        ap lower (second_word low n low_room k W kl r.2 j) ∙ put_ap lower (λ i. word low (2 * i + 1)) k W j ∙ put_own (λ i. lower (word low (2 * i + 1))) k (lower W) j r.0
        ∙ ap lower (first_not sum k (with_digit (word sum (2 * k)) (x % 1024)) j)

    low_counted : (j : ℕ) → upper (word (put_field sum k x) (2 * j)) ≡ put (λ i. upper (word sum (2 * i))) k (x % 1024) j
    unfolding put_field low
    low_counted j =
        let W = with_digit (word sum (2 * k)) (x % 1024) in
        let r = digit_of (word sum (2 * k)) (x % 1024) (omega arith) in
        ap upper (second_not low k (with_digit (word low (2 * k + 1)) (x / 1024 % 1024)) j) ∙ ap upper (first_word sum n room k W kl r.2 j)
        ∙ put_ap upper (λ i. word sum (2 * i)) k W j ∙ put_ext (λ i. upper (word sum (2 * i))) (λ i. upper (word sum (2 * i))) k (upper W) (x % 1024) j r.1 refl

    high_counted : (j : ℕ) → upper (word (put_field sum k x) (2 * j + 1)) ≡ put (λ i. upper (word sum (2 * i + 1))) k (x / 1024) j
    unfolding put_field low
    high_counted j =
        let W = with_digit (word low (2 * k + 1)) (x / 1024 % 1024) in
        let r = digit_of (word low (2 * k + 1)) (x / 1024 % 1024) (omega arith) in
        let e : upper W ≡ x / 1024 = r.1 ∙ omega arith in
        ap upper (second_word low n low_room k W kl r.2 j) ∙ put_ap upper (λ i. word low (2 * i + 1)) k W j
        ∙ put_ext (λ i. upper (word low (2 * i + 1))) (λ i. upper (word sum (2 * i + 1))) k (upper W) (x / 1024) j e
        (ap upper (first_not sum k (with_digit (word sum (2 * k)) (x % 1024)) j))

    put_field_lem : (j : ℕ) → field_at (put_field sum k x) j ≡ put (field_at sum) k x j
    unfolding field_at
    put_field_lem j = ap₂ (λ a b. a + 1024 * b) (low_counted j) (high_counted j) ∙ go (eqb j k)
      where
        go : (b : Bool) → cond b (x % 1024) (upper (word sum (2 * j))) + 1024 * cond b (x / 1024) (upper (word sum (2 * j + 1)))
            ≡ cond b x (upper (word sum (2 * j)) + 1024 * upper (word sum (2 * j + 1)))
        go true = omega arith
        go false = refl

    pub counted_count : x < 786432 → (j : ℕ) → count_at (put_field sum k x) j ≡ put (count_at sum) k x j
    unfolding count_at
    counted_count l j = ap number_in (put_field_lem j) ∙ put_ap number_in (field_at sum) k x j ∙ ap (λ (y : ℕ). put (λ i. number_in (field_at sum i)) k y j) (rw (lt-ltb x 786432 l) refl)

    -- a signature is no number
    pub signed_count : 786432 ≤ x → (j : ℕ) → count_at (put_field sum k x) j ≡ put (count_at sum) k 0 j
    unfolding count_at
    signed_count l j = ap number_in (put_field_lem j) ∙ put_ap number_in (field_at sum) k x j ∙ ap (λ (y : ℕ). put (λ i. number_in (field_at sum i)) k y j) (rw (le-ltb x 786432 l) refl)

    pub put_signature : (j : ℕ) → signature_at (put_field sum k x) j ≡ put (signature_at sum) k (x % 262144) j
    unfolding signature_at
    put_signature j = ap (λ (y : ℕ). y % 262144) (put_field_lem j) ∙ put_ap (λ (y : ℕ). y % 262144) (field_at sum) k x j
