-- Two tags are equal exactly when roles and labels are, and a message has a role exactly when its tag is 65,536 or more.
use Prim.Native.Nat.{ℕ, zero, suc, ◌+◌, ◌-◌, ◌*◌, ◌/◌, ◌%◌, ◌^◌, ◌<◌, ◌≤◌, min}
use mathlib.Core.Path.{◌≡◌, refl, sym, ap, ap₂, subst, ◌∙◌}
use mathlib.Core.Logic.{⊎_elim, ◌↔◌}
use mathlib.Core.Bool.{Bool, true, false, cond, ◌&&◌, ◌||◌, true≢false, false≢true}
use mathlib.Core.List.{List, [], ◌∷◌, head-eq_of_cons-eq, tail-eq_of_cons-eq}
use native.Mathlib.Omega.{arith}
use native.Mathlib.Decide.{dec_le}
use lib.ListN.{get_or}
use lib.Dec.{T, eqb, ltb, leb}
use borrow.Author.Tests.{lt-ltb, le-ltb, le-leb, lt-leb, eqb-true, eq-eqb, ne_eqb}
use Rattle.machine_pws.specs.declared.Message.{Message}
use Rattle.machine_pws.specs.Program as pws
use Rattle.machine_pws.specs.Machine.{Memory, no_message, last_write}
use Rattle.machine_pws.specs.Tagged.{table, any_below, roles, has_role}
use Rattle.machine_pws.proofs.Tagged.{table_ext, table_at, role_is, role_pointer, role_last}
use Rattle.file_records.specs.declared.program.Shape.{Shape}
use Rattle.file_records.specs.ProgramPart.{shape_of}
use Rattle.file_contents.specs.declared.entry.Cube.{Cube}
use Rattle.file_contents.specs.Cube.{configuration_of}
use Rattle.list_theory.specs.Values.{pairwise}
use Rattle.list_theory.specs.Matching.{same}
use Rattle.file_records.proofs.ProgramLaws.{and_true}
use Rattle.list_key.specs.Tags.{role_of, role_at, mask, label_number, tag_of}
use Rattle.list_key.specs.Key.{some_true, some_role}
use Rattle.list_key.proofs.SumLaws.{sum_equal, bits_same, bits_some, bits_none}

-- ---- the role at a place

module _ (variables : ℕ) (m : Memory) where
  role_by : (q p k : ℕ) → q / 5 ≡ p → q % 5 ≡ k → role_at variables m q ≡ cond (ltb variables k) 0 (role_of m p k)
  unfolding role_at
  role_by q p k e f = ap₂ (λ (a b : ℕ). cond (ltb variables b) 0 (role_of m a b)) e f

  pub role_exists : (q p k : ℕ) → q ≡ 5 * p + k → k < 5 → k ≤ variables → role_at variables m q ≡ role_of m p k
  role_exists q p k e l a = role_by q p k (omega arith) (omega arith) ∙ rw (le-ltb variables k a) refl

  pub role_absent : (q p k : ℕ) → q ≡ 5 * p + k → k < 5 → variables < k → role_at variables m q ≡ 0
  role_absent q p k e l a = role_by q p k (omega arith) (omega arith) ∙ rw (lt-ltb variables k a) refl

-- ---- masks and roles

-- message i of one memory is to each process what message j of another is
pub record Alike (S : pws.Shape) (m : Memory) (i : ℕ) (n : Memory) (j : ℕ) : Type 0 where
  pub pointers : (p : ℕ) → p < S.processes → eqb (m.pointer p) i ≡ eqb (n.pointer p) j
  pub last_writes : (p v : ℕ) → p < S.processes → v < S.variables → eqb (last_write m p v) i ≡ eqb (last_write n p v) j

module _ (S : pws.Shape) (m : Memory) (i : ℕ) (n : Memory) (j : ℕ) where
  roles_alike : roles S m i ≡ roles S n j → Alike S m i n j
  roles_alike e =
      record {
        pointers = λ p a. head-eq_of_cons-eq (row p a);
        last_writes = λ p v a b. table_at S.variables (λ v. eqb (last_write m p v) i) (λ v. eqb (last_write n p v) j) (tail-eq_of_cons-eq (row p a)) v b;
      }
    where
      row : (p : ℕ) → p < S.processes
          → ◌≡◌ {A = List Bool} (eqb (m.pointer p) i ∷ table S.variables (λ v. eqb (last_write m p v) i)) (eqb (n.pointer p) j ∷ table S.variables (λ v. eqb (last_write n p v) j))
      row p a = table_at S.processes (λ p. eqb (m.pointer p) i ∷ table S.variables (λ v. eqb (last_write m p v) i))
          (λ p. eqb (n.pointer p) j ∷ table S.variables (λ v. eqb (last_write n p v) j)) e p a

  alike_roles : Alike S m i n j → roles S m i ≡ roles S n j
  alike_roles w = table_ext S.processes (λ p. eqb (m.pointer p) i ∷ table S.variables (λ v. eqb (last_write m p v) i))
      (λ p. eqb (n.pointer p) j ∷ table S.variables (λ v. eqb (last_write n p v) j))
      (λ p a. ap₂ {C = List Bool} (λ b r. b ∷ r) (w.pointers p a)
      (table_ext S.variables (λ v. eqb (last_write m p v) i) (λ v. eqb (last_write n p v) j) (λ v b. w.last_writes p v a b)))

  module _ (narrow : S.variables ≤ 4) (a : 1 ≤ i) (b : 1 ≤ j) where
    pub mask_alike : mask S.processes S.variables m i ≡ mask S.processes S.variables n j → Alike S m i n j
    unfolding mask
    mask_alike e =
        record {
          pointers = λ p x. sym (ap (λ (z : ℕ). eqb z i) (role_exists S.variables m (5 * p) p 0 (omega arith) (omega arith) (omega arith)))
              ∙ bit (5 * p) (omega arith)
              ∙ ap (λ (z : ℕ). eqb z j) (role_exists S.variables n (5 * p) p 0 (omega arith) (omega arith) (omega arith));
          last_writes = λ p v x y. sym (ap (λ (z : ℕ). eqb z i) (role_exists S.variables m (5 * p + suc v) p (suc v) refl (omega arith) (omega arith)))
              ∙ bit (5 * p + suc v) (omega arith)
              ∙ ap (λ (z : ℕ). eqb z j) (role_exists S.variables n (5 * p + suc v) p (suc v) refl (omega arith) (omega arith));
        }
      where
        bit : (q : ℕ) → q < 5 * S.processes → eqb (role_at S.variables m q) i ≡ eqb (role_at S.variables n q) j
        bit = bits_same (λ q. eqb (role_at S.variables m q) i) (λ q. eqb (role_at S.variables n q) j) (5 * S.processes) e

    pub alike_mask : Alike S m i n j → mask S.processes S.variables m i ≡ mask S.processes S.variables n j
    unfolding mask
    alike_mask w = sum_equal (5 * S.processes) (λ q. cond (eqb (role_at S.variables m q) i) (2 ^ q) 0) (λ q. cond (eqb (role_at S.variables n q) j) (2 ^ q) 0)
        (λ q l. ap (λ (b : Bool). cond b (2 ^ q) 0) (at q l (q / 5) (q % 5) (omega arith) (omega arith)))
      where
        at : (q : ℕ) → q < 5 * S.processes → (p k : ℕ) → q ≡ 5 * p + k → k < 5 → eqb (role_at S.variables m q) i ≡ eqb (role_at S.variables n q) j
        at q l p k e f = elim (dec_le k S.variables) [
          | yes d ↦ ap (λ (z : ℕ). eqb z i) (role_exists S.variables m q p k e f d) ∙ there k d ∙ ap (λ (z : ℕ). eqb z j) (sym (role_exists S.variables n q p k e f d))
          | no d ↦ ap (λ (z : ℕ). eqb z i) (role_absent S.variables m q p k e f (omega arith)) ∙ ne_eqb 0 i (λ z. omega arith)
              ∙ sym (ne_eqb 0 j (λ z. omega arith)) ∙ ap (λ (z : ℕ). eqb z j) (sym (role_absent S.variables n q p k e f (omega arith)))
        ]
          where
            there : (k : ℕ) → k ≤ S.variables → eqb (role_of m p k) i ≡ eqb (role_of n p k) j
            there zero d = w.pointers p (omega arith)
            there (suc v) d = w.last_writes p v (omega arith) (omega arith)

    pub mask_roles : (mask S.processes S.variables m i ≡ mask S.processes S.variables n j) ↔ (roles S m i ≡ roles S n j)
    mask_roles = (λ e. alike_roles (mask_alike e), λ e. alike_mask (roles_alike e))

-- ---- the same as tests

rows_same : (xs ys : List Bool) → pairwise same xs ys ≡ true → xs ≡ ys
rows_same [] [] e = refl
rows_same [] (y ∷ ys) e = absurd (false≢true e)
rows_same (x ∷ xs) [] e = absurd (false≢true e)
rows_same (x ∷ xs) (y ∷ ys) e = let w = and_true (same x y) (pairwise same xs ys) e in ap₂ {C = List Bool} (λ a r. a ∷ r) (bit x y w.0) (rows_same xs ys w.1)
  where
    bit : (x y : Bool) → same x y ≡ true → x ≡ y
    bit true true e = refl
    bit true false e = absurd (false≢true e)
    bit false true e = absurd (false≢true e)
    bit false false e = refl

rows_self : (xs : List Bool) → pairwise same xs xs ≡ true
rows_self [] = refl
rows_self (true ∷ xs) = rows_self xs
rows_self (false ∷ xs) = rows_self xs

lists_same : (xs ys : List (List Bool)) → pairwise (pairwise same) xs ys ≡ true → xs ≡ ys
lists_same [] [] e = refl
lists_same [] (y ∷ ys) e = absurd (false≢true e)
lists_same (x ∷ xs) [] e = absurd (false≢true e)
lists_same (x ∷ xs) (y ∷ ys) e =
    let w = and_true (pairwise same x y) (pairwise (pairwise same) xs ys) e in
    ap₂ {C = List (List Bool)} (λ a r. a ∷ r) (rows_same x y w.0) (lists_same xs ys w.1)

lists_self : (xs : List (List Bool)) → pairwise (pairwise same) xs xs ≡ true
lists_self [] = refl
lists_self (x ∷ xs) = ap₂ ◌&&◌ (rows_self x) (lists_self xs)

same_lists : {xs ys : List (List Bool)} → xs ≡ ys → pairwise (pairwise same) xs ys ≡ true
same_lists {xs} {ys} e = ap (pairwise (pairwise same) xs) (sym e) ∙ lists_self xs

pub roles_test : (S : pws.Shape) → S.variables ≤ 4 → (m : Memory) (i : ℕ) (n : Memory) (j : ℕ) → 1 ≤ i → 1 ≤ j
    → pairwise (pairwise same) (roles S m i) (roles S n j) ≡ eqb (mask S.processes S.variables m i) (mask S.processes S.variables n j)
roles_test S narrow m i n j a b = at (pairwise (pairwise same) (roles S m i) (roles S n j)) refl
  where
    L : List (List Bool)
    L = roles S m i

    R : List (List Bool)
    R = roles S n j

    at : (x : Bool) → pairwise (pairwise same) (roles S m i) (roles S n j) ≡ x → x ≡ eqb (mask S.processes S.variables m i) (mask S.processes S.variables n j)
    at true e = sym (eq-eqb (mask S.processes S.variables m i) (mask S.processes S.variables n j)
        ((mask_roles S m i n j narrow a b).1 (lists_same (roles S m i) (roles S n j) e)))
    at false e = sym (ne_eqb (mask S.processes S.variables m i) (mask S.processes S.variables n j)
        (λ f. true≢false (sym (same_lists ((mask_roles S m i n j narrow a b).0 f)) ∙ e)))

-- ---- tags

-- a label is two bytes
pub record ByteLabel (x : Message) : Type 0 where
  pub process : x.process < 256
  pub variable : x.variable < 256

tag_parts : (m n : ℕ) (x y : Message) → ByteLabel x → ByteLabel y → 65536 * m + label_number x ≡ 65536 * n + label_number y
    → (m ≡ n) × (x.process ≡ y.process) × (x.variable ≡ y.variable)
tag_parts m n x y a b e =
    let c = a.process in
    let d = a.variable in
    let f = b.process in
    let g = b.variable in (omega arith, omega arith, omega arith)

-- two messages by their tags
module _ (s : Shape) (few : s.processes ≤ 4) (narrow : s.variables ≤ 4) where
  pub tag_is : (c : Cube) → c.count ≤ 20 → (i : ℕ)
      → tag_of s c i ≡ 65536 * mask s.processes s.variables (configuration_of c).memory i + label_number (get_or c.messages (i - 1) no_message)
  unfolding tag_of
  tag_is c l i =
      let x : min s.processes 4 ≡ s.processes = omega arith in
      let y : min s.variables 4 ≡ s.variables = omega arith in
      let z : min c.count 20 ≡ c.count = omega arith in
      rw (x, y, z) refl

  -- tags are equal exactly when roles and labels are
  pub tags_roles : (a b : Cube) → a.count ≤ 20 → b.count ≤ 20 → (i j : ℕ) → 1 ≤ i → 1 ≤ j
      → ByteLabel (get_or a.messages (i - 1) no_message) → ByteLabel (get_or b.messages (j - 1) no_message)
      → (tag_of s a i ≡ tag_of s b j)
      ↔ ((pairwise (pairwise same) (roles (shape_of s) (configuration_of a).memory i) (roles (shape_of s) (configuration_of b).memory j) ≡ true)
      × ((get_or a.messages (i - 1) no_message).process ≡ (get_or b.messages (j - 1) no_message).process)
      × ((get_or a.messages (i - 1) no_message).variable ≡ (get_or b.messages (j - 1) no_message).variable))
  tags_roles a b k l i j x y u w = (
    λ e.
        let z = tag_parts (M a i) (M b j) (get_or a.messages (i - 1) no_message) (get_or b.messages (j - 1) no_message) u w (sym (tag_is a k i) ∙ e ∙ tag_is b l j) in
        (test ∙ eq-eqb (M a i) (M b j) z.0, z.1, z.2),
    λ e.
        let z = eqb-true (M a i) (M b j) (sym test ∙ e.0) in
        let f = e.1 in
        let g = e.2 in
        tag_is a k i ∙ omega arith ∙ sym (tag_is b l j),
  )
    where
      M : Cube → ℕ → ℕ
      M c n = mask s.processes s.variables (configuration_of c).memory n

      test : pairwise (pairwise same) (roles (shape_of s) (configuration_of a).memory i) (roles (shape_of s) (configuration_of b).memory j) ≡ eqb (M a i) (M b j)
      test = roles_test (shape_of s) narrow (configuration_of a).memory i (configuration_of b).memory j x y

-- ---- a message with a role

any_row : (n : ℕ) (f : ℕ → Bool) → some_true (table n f) ≡ any_below n f
any_row zero f = refl
any_row (suc n) f = ap (◌||◌ (f n)) (any_row n f)

any_role : (n : ℕ) (f : ℕ → List Bool) (g : ℕ → Bool) → ((p : ℕ) → some_true (f p) ≡ g p) → some_role (table n f) ≡ any_below n g
any_role zero f g h = refl
any_role (suc n) f g h = ap₂ ◌||◌ (h n) (any_role n f g h)

pub some_role_lem : (S : pws.Shape) (m : Memory) (i : ℕ) → some_role (roles S m i) ≡ has_role S m i
some_role_lem S m i = any_role S.processes (λ p. eqb (m.pointer p) i ∷ table S.variables (λ v. eqb (last_write m p v) i))
    (λ p. eqb (m.pointer p) i || any_below S.variables (λ v. eqb (last_write m p v) i))
    (λ p. ap (◌||◌ (eqb (m.pointer p) i)) (any_row S.variables (λ v. eqb (last_write m p v) i)))

module _ (S : pws.Shape) (narrow : S.variables ≤ 4) (m : Memory) (i : ℕ) (a : 1 ≤ i) where
  pub role_mask : T (has_role S m i) → 0 < mask S.processes S.variables m i
  unfolding mask
  role_mask t =
      let r = role_is S m i t in
      let p = r.0 in
      ⊎_elim
      (λ e. bits_some b (5 * S.processes) (5 * p) (omega (arith, r.1)) (eq-eqb (role_at S.variables m (5 * p)) i (role_exists S.variables m (5 * p) p 0 (omega arith) (omega arith) (omega arith) ∙ e)))
      (λ w. let v = w.0 in bits_some b (5 * S.processes) (5 * p + suc v) (omega (arith, r.1, w.1)) (eq-eqb (role_at S.variables m (5 * p + suc v)) i (role_exists S.variables m (5 * p + suc v) p (suc v) refl (omega (arith, w.1)) (omega (arith, w.1)) ∙ w.2)))
      r.2
    where
      b : ℕ → Bool
      b q = eqb (role_at S.variables m q) i

  pub no_role_mask : (T (has_role S m i) → ⊥) → mask S.processes S.variables m i ≡ 0
  unfolding mask
  no_role_mask f = bits_none (λ q. eqb (role_at S.variables m q) i) (5 * S.processes)
      (λ q l. ne_eqb (role_at S.variables m q) i (at q l (q / 5) (q % 5) (omega arith) (omega arith)))
    where
      there : (p k : ℕ) → p < S.processes → k ≤ S.variables → role_of m p k ≡ i → ⊥
      there p zero x y e = f (role_pointer S m i p x e)
      there p (suc v) x y e = f (role_last S m i p v x (omega arith) e)

      at : (q : ℕ) → q < 5 * S.processes → (p k : ℕ) → q ≡ 5 * p + k → k < 5 → role_at S.variables m q ≡ i → ⊥
      at q l p k e g z = elim (dec_le k S.variables) [
        | yes d ↦ there p k (omega arith) d (sym (role_exists S.variables m q p k e g d) ∙ z)
        | no d ↦ omega (arith, role_absent S.variables m q p k e g (omega arith))
      ]

  mask_role : (x : ℕ) → x < 65536 → leb 65536 (65536 * mask S.processes S.variables m i + x) ≡ some_role (roles S m i)
  mask_role x l = at (has_role S m i) refl ∙ sym (some_role_lem S m i)
    where
      at : (c : Bool) → has_role S m i ≡ c → leb 65536 (65536 * mask S.processes S.variables m i + x) ≡ has_role S m i
      at true e = le-leb 65536 (65536 * mask S.processes S.variables m i + x) (omega (arith, role_mask (subst T (sym e) tt))) ∙ sym e
      at false e = lt-leb 65536 (65536 * mask S.processes S.variables m i + x) (omega (arith, no_role_mask (λ t. subst T e t))) ∙ sym e

-- a message has a role exactly when its tag is 65,536 or more
pub tag_role : (s : Shape) → s.processes ≤ 4 → s.variables ≤ 4 → (c : Cube) → c.count ≤ 20 → (i : ℕ) → 1 ≤ i → ByteLabel (get_or c.messages (i - 1) no_message)
    → leb 65536 (tag_of s c i) ≡ some_role (roles (shape_of s) (configuration_of c).memory i)
tag_role s few narrow c l i a b =
    ap (leb 65536) (tag_is s few narrow c l i)
    ∙ mask_role (shape_of s) narrow (configuration_of c).memory i a (label_number (get_or c.messages (i - 1) no_message)) (let x = b.process in let y = b.variable in omega arith)
