-- The roles that the code keeps are those of the memory.
use Prim.Native.Nat.{ℕ, zero, suc, ◌+◌, ◌*◌, ◌<◌, ◌≤◌, min, max}
use mathlib.Core.Path.{◌≡◌, refl, sym, ap, ap₂, subst, ◌∙◌}
use mathlib.Core.Bool.{Bool, true, false, cond, ◌&&◌}
use mathlib.Core.List.{List, [], ◌∷◌}
use native.Mathlib.Omega.{arith}
use native.Mathlib.Numerals.{unary_clauses}
use native.Mathlib.Decide.{ℕ_discrete, dec_le, dec_lt}
use lib.ListN.{length, get_or, set, length-set}
use lib.Seq.{get_or-set_same, get_or-set_other, set-get_or}
use lib.Dec.{T, eqb, ltb}
use borrow.Author.Tests.{ltb-true, eq-eqb, ne_eqb, lt-ltb, le-ltb}
use Rattle.machine_pws.specs.declared.Message.{Message}
use Rattle.machine_pws.specs.Machine.{Memory, no_message, labelled, last_labelled, last_write}
use Rattle.file_contents.specs.declared.entry.Cube.{Cube}
use Rattle.file_contents.specs.Cube.{channel_of}
use Rattle.file_records.proofs.ProgramLaws.{and_true}
use Rattle.file_contents.proofs.CubeParts.{channel_length}
use Rattle.list_key.specs.Roles.{label_place}
use Rattle.list_key.specs.Tags.{cube_memory}
use Rattle.base.proofs.Tests.{and_false}

pub labels : (p v : ℕ) → ltb p 4 && ltb v 4 ≡ true → (p < 4) × (v < 4)
labels p v e = let w = and_true (ltb p 4) (ltb v 4) e in (ltb-true p 4 w.0, ltb-true v 4 w.1)

no_true : false ≡ true → ⊥
no_true e = subst T (sym e) tt

-- ---- labels

label_yes : (m : Message) (p v : ℕ) → (p ≡ m.process) × (v ≡ m.variable) → labelled m p v ≡ true
label_yes m p v e = rw (eq-eqb m.process p (sym e.0)) (eq-eqb m.variable v (sym e.1))

label_no : (m : Message) (p v : ℕ) → ((p ≡ m.process) × (v ≡ m.variable) → ⊥) → labelled m p v ≡ false
label_no m p v d = elim (ℕ_discrete p m.process) [
  | yes e ↦ rw (ne_eqb m.variable v (λ f. d (e, sym f))) (and_false (eqb m.process p))
  | no e ↦ rw (ne_eqb m.process p (λ f. e (sym f))) refl
]

last_most : (ms : List Message) (p v : ℕ) → last_labelled ms p v ≤ length ms
last_most [] p v = omega arith
last_most (m ∷ ms) p v = at (last_most ms p v) (labelled m p v)
  where
    at : last_labelled ms p v ≤ length ms → (b : Bool) → cond b (suc (length ms)) (last_labelled ms p v) ≤ suc (length ms)
    at w true = omega arith
    at w false = omega arith

-- ---- message by message

-- of process p, at 5 p the message that it points at, and at 5 p + 1 + v its LastWrite of v
pub record Roles (roles : List ℕ) (m : Memory) : Type 0 where
  pub pointer : (p : ℕ) → p < 4 → get_or roles (5 * p) 0 ≡ m.pointer p
  pub written : (p v : ℕ) → p < 4 → v < 4 → get_or roles (5 * p + 1 + v) 0 ≡ last_write m p v

-- the roles of a memory of which i messages were read
pub record RolesTo (z : ℕ → ℕ) (ms : List Message) (roles : List ℕ) (i : ℕ) : Type 0 where
  pub room : length roles ≡ 21
  pub pointer : (p : ℕ) → p < 4 → get_or roles (5 * p) 0 ≡ z p
  pub written : (p v : ℕ) → p < 4 → v < 4 → get_or roles (5 * p + 1 + v) 0 ≡ max (z p) (last_labelled (channel_of ms i) p v)

four : (F : ℕ → Type 0) → F 0 → F 1 → F 2 → F 3 → (p : ℕ) → p < 4 → F p
four F a b c d zero l = a
four F a b c d (suc zero) l = b
four F a b c d (suc (suc zero)) l = c
four F a b c d (suc (suc (suc zero))) l = d
four F a b c d (suc (suc (suc (suc p)))) l = absurd (omega arith)

pub roles_begin : (ms : List Message) (a b c d : ℕ)
    → RolesTo (λ p. get_or (a ∷ b ∷ c ∷ d ∷ []) p 0) ms (a ∷ a ∷ a ∷ a ∷ a ∷ b ∷ b ∷ b ∷ b ∷ b ∷ c ∷ c ∷ c ∷ c ∷ c ∷ d ∷ d ∷ d ∷ d ∷ d ∷ 0 ∷ []) 0
roles_begin ms a b c d =
    record {
      room = refl;
      pointer = four (λ p. get_or all (5 * p) 0 ≡ get_or (a ∷ b ∷ c ∷ d ∷ []) p 0) refl refl refl refl;
      written = λ p v l. four (λ p. (v : ℕ) → v < 4 → get_or all (5 * p + 1 + v) 0 ≡ max (get_or (a ∷ b ∷ c ∷ d ∷ []) p 0) 0)
          (four (λ v. get_or all (1 + v) 0 ≡ max a 0) (z a) (z a) (z a) (z a))
          (four (λ v. get_or all (6 + v) 0 ≡ max b 0) (z b) (z b) (z b) (z b))
          (four (λ v. get_or all (11 + v) 0 ≡ max c 0) (z c) (z c) (z c) (z c))
          (four (λ v. get_or all (16 + v) 0 ≡ max d 0) (z d) (z d) (z d) (z d)) p l v;
    }
  where
    all : List ℕ
    all = a ∷ a ∷ a ∷ a ∷ a ∷ b ∷ b ∷ b ∷ b ∷ b ∷ c ∷ c ∷ c ∷ c ∷ c ∷ d ∷ d ∷ d ∷ d ∷ d ∷ 0 ∷ []

    z : (x : ℕ) → x ≡ max x 0
    z x = omega arith

pub place_own : (m : Message) → m.process < 4 → m.variable < 4 → label_place m ≡ 5 * m.process + 1 + m.variable
unfolding label_place
place_own m a b = rw (lt-ltb m.process 4 a, lt-ltb m.variable 4 b) refl

place_none : (m : Message) → ltb m.process 4 && ltb m.variable 4 ≡ false → label_place m ≡ 20
unfolding label_place
place_none m e = rw e refl

pub place_past : (m : Message) → ((m.process < 4) × (m.variable < 4) → ⊥) → label_place m ≡ 20
place_past m f = place_none m (elim (dec_lt m.process 4) [
  | no d ↦ ap (λ (b : Bool). b && ltb m.variable 4) (le-ltb m.process 4 (omega arith))
  | yes d ↦ elim (dec_lt m.variable 4) [
    | yes e ↦ absurd (f (d, e))
    | no e ↦ ap₂ ◌&&◌ (lt-ltb m.process 4 d) (le-ltb m.variable 4 (omega arith))
  ]
])

-- the message of number i + 1
module _ {z : ℕ → ℕ} {ms : List Message} {roles : List ℕ} {i : ℕ} (w : RolesTo z ms roles i) where
  abbrev m : Message
  m = get_or ms i no_message

  abbrev place : ℕ
  place = 5 * m.process + 1 + m.variable

  last_new : (p v : ℕ) → (b : Bool) → labelled m p v ≡ b → last_labelled (channel_of ms (i + 1)) p v ≡ cond b (i + 1) (last_labelled (channel_of ms i) p v)
  last_new p v b e = simp unary_clauses (ap₂ (λ (c : Bool) (k : ℕ). cond c (suc k) (last_labelled (channel_of ms i) p v)) e (channel_length ms i))

  old : (p v : ℕ) → p < 4 → v < 4 → labelled m p v ≡ false → get_or roles (5 * p + 1 + v) 0 ≡ max (z p) (last_labelled (channel_of ms (i + 1)) p v)
  old p v a b e = w.written p v a b ∙ ap (max (z p)) (sym (last_new p v false e))

  most : (p v : ℕ) → last_labelled (channel_of ms i) p v ≤ i
  most p v = omega (arith, last_most (channel_of ms i) p v, channel_length ms i)

  -- its label is its own, or not
  each : (F : ℕ → ℕ → Type 0) (p v : ℕ) → F m.process m.variable → (((p ≡ m.process) × (v ≡ m.variable) → ⊥) → F p v) → F p v
  each F p v here other = elim (ℕ_discrete p m.process) [
    | yes e ↦ elim (ℕ_discrete v m.variable) [
      | yes f ↦ subst (λ (q : ℕ). F q v) (sym e) (subst (F m.process) (sym f) here)
      | no f ↦ other (λ n. f n.1)
    ]
    | no e ↦ other (λ n. e n.0)
  ]

  kept : (a : m.process < 4) (b : m.variable < 4) → i + 1 ≤ get_or roles place 0 → RolesTo z ms roles (i + 1)
  kept a b l =
      record {
        room = w.room;
        pointer = w.pointer;
        written = λ p v c d. each (λ p v. p < 4 → v < 4 → get_or roles (5 * p + 1 + v) 0 ≡ max (z p) (last_labelled (channel_of ms (i + 1)) p v)) p v
            (λ c d. omega (arith, w.written m.process m.variable a b, last_new m.process m.variable true (label_yes m m.process m.variable (refl, refl)), most m.process m.variable, l))
            (λ n c d. old p v c d (label_no m p v n)) c d;
      }

  moved : (a : m.process < 4) (b : m.variable < 4) → get_or roles place 0 < i + 1 → RolesTo z ms (set roles place (i + 1)) (i + 1)
  moved a b l =
      record {
        room = length-set roles place (i + 1) ∙ w.room;
        pointer = λ p c. get_or-set_other roles place (5 * p) (i + 1) 0 (λ e. omega arith) ∙ w.pointer p c;
        written = λ p v c d. each (λ p v. p < 4 → v < 4 → get_or (set roles place (i + 1)) (5 * p + 1 + v) 0 ≡ max (z p) (last_labelled (channel_of ms (i + 1)) p v)) p v
            (λ c d. get_or-set_same roles place (i + 1) 0 (omega (arith, w.room))
            ∙ omega (arith, w.written m.process m.variable a b, last_new m.process m.variable true (label_yes m m.process m.variable (refl, refl)), l))
            (λ n c d. get_or-set_other roles place (5 * p + 1 + v) (i + 1) 0 (λ e. n (omega arith, omega arith)) ∙ old p v c d (label_no m p v n)) c d;
      }

  -- a label that does not exist is no LastWrite's
  strange : ltb m.process 4 && ltb m.variable 4 ≡ false → (p v : ℕ) → p < 4 → v < 4 → get_or roles (5 * p + 1 + v) 0 ≡ max (z p) (last_labelled (channel_of ms (i + 1)) p v)
  strange e p v c d = old p v c d (label_no m p v (λ n. no_true (sym e ∙ rw (lt-ltb m.process 4 (omega (arith, n.0))) (lt-ltb m.variable 4 (omega (arith, n.1))))))

  roles_kept : i + 1 ≤ get_or roles (label_place m) 0 → RolesTo z ms roles (i + 1)
  roles_kept l = at (ltb m.process 4 && ltb m.variable 4) refl
    where
      at : (b : Bool) → ltb m.process 4 && ltb m.variable 4 ≡ b → RolesTo z ms roles (i + 1)
      at true e = let x = labels m.process m.variable e in kept x.0 x.1 (omega (arith, l, ap (λ (k : ℕ). get_or roles k 0) (place_own m x.0 x.1)))
      at false e = record { room = w.room; pointer = w.pointer; written = strange e }

  roles_moved : get_or roles (label_place m) 0 < i + 1 → RolesTo z ms (set roles (label_place m) (i + 1)) (i + 1)
  roles_moved l = at (ltb m.process 4 && ltb m.variable 4) refl
    where
      at : (b : Bool) → ltb m.process 4 && ltb m.variable 4 ≡ b → RolesTo z ms (set roles (label_place m) (i + 1)) (i + 1)
      at true e =
          let x = labels m.process m.variable e in
          subst (λ (k : ℕ). RolesTo z ms (set roles k (i + 1)) (i + 1)) (sym (place_own m x.0 x.1)) (moved x.0 x.1 (omega (arith, l, ap (λ (k : ℕ). get_or roles k 0) (place_own m x.0 x.1))))
      at false e =
          subst (λ (k : ℕ). RolesTo z ms (set roles k (i + 1)) (i + 1)) (sym (place_none m e))
          (record {
            room = length-set roles 20 (i + 1) ∙ w.room;
            pointer = λ p c. get_or-set_other roles 20 (5 * p) (i + 1) 0 (λ f. omega arith) ∙ w.pointer p c;
            written = λ p v c d. get_or-set_other roles 20 (5 * p + 1 + v) (i + 1) 0 (λ f. omega arith) ∙ strange e p v c d;
          })

-- the same for what the code computes
module _ {z : ℕ → ℕ} {ms : List Message} {roles roles' : List ℕ} {i q : ℕ} (w : RolesTo z ms roles i) (e : q ≡ label_place (get_or ms i no_message)) where
  place_kept : i + 1 ≤ get_or roles q 0 → roles' ≡ roles → RolesTo z ms roles' (i + 1)
  place_kept l f = subst (λ (rs : List ℕ). RolesTo z ms rs (i + 1)) (sym f) (roles_kept w (omega (arith, l, ap (λ (k : ℕ). get_or roles k 0) e)))

  place_moved : get_or roles q 0 < i + 1 → roles' ≡ set roles q (i + 1) → RolesTo z ms roles' (i + 1)
  place_moved l f =
      subst (λ (rs : List ℕ). RolesTo z ms rs (i + 1)) (sym (f ∙ ap (λ (k : ℕ). set roles k (i + 1)) e)) (roles_moved w (omega (arith, l, ap (λ (k : ℕ). get_or roles k 0) e)))

  pub place_next : {x : ℕ} → x ≡ max (get_or roles q 0) (i + 1) → roles' ≡ set roles q x → RolesTo z ms roles' (i + 1)
  place_next {x} f g = elim (dec_le (i + 1) (get_or roles q 0)) [
    | yes d ↦ place_kept d (g ∙ ap (set roles q) (omega arith) ∙ set-get_or roles q 0)
    | no d ↦ place_moved (omega arith) (g ∙ ap (set roles q) (omega arith))
  ]

four_list : (xs : List ℕ) → length xs ≡ 4 → get_or xs 0 0 ∷ get_or xs 1 0 ∷ get_or xs 2 0 ∷ get_or xs 3 0 ∷ [] ≡ xs
four_list [] e = absurd (omega arith)
four_list (a ∷ []) e = absurd (omega arith)
four_list (a ∷ b ∷ []) e = absurd (omega arith)
four_list (a ∷ b ∷ c ∷ []) e = absurd (omega arith)
four_list (a ∷ b ∷ c ∷ d ∷ []) e = refl
four_list (a ∷ b ∷ c ∷ d ∷ x ∷ xs) e = absurd (omega arith)

-- those of a cube, before any of its messages
pub roles_first : (c : Cube) {w x y z : ℕ} → length c.pointers ≡ 4 → w ≡ get_or c.pointers 0 0 → x ≡ get_or c.pointers 1 0 → y ≡ get_or c.pointers 2 0 → z ≡ get_or c.pointers 3 0
    → RolesTo (λ p. get_or c.pointers p 0) c.messages (w ∷ w ∷ w ∷ w ∷ w ∷ x ∷ x ∷ x ∷ x ∷ x ∷ y ∷ y ∷ y ∷ y ∷ y ∷ z ∷ z ∷ z ∷ z ∷ z ∷ 0 ∷ []) 0
roles_first c {w} {x} {y} {z} l a b d e =
    subst (λ (zs : List ℕ). RolesTo (λ p. get_or zs p 0) c.messages (w ∷ w ∷ w ∷ w ∷ w ∷ x ∷ x ∷ x ∷ x ∷ x ∷ y ∷ y ∷ y ∷ y ∷ y ∷ z ∷ z ∷ z ∷ z ∷ z ∷ 0 ∷ []) 0)
    ((λ i. a i ∷ b i ∷ d i ∷ e i ∷ []) ∙ four_list c.pointers l) (roles_begin c.messages w x y z)

-- and after all
pub roles_end : (c : Cube) {roles : List ℕ} {i : ℕ} → i ≡ min c.count 20 → RolesTo (λ p. get_or c.pointers p 0) c.messages roles i → Roles roles (cube_memory c)
roles_end c {roles} {i} e w =
    subst (λ (n : ℕ). Roles roles (record { channel = channel_of c.messages n; pointer = λ p. get_or c.pointers p 0 })) e (record { pointer = w.pointer; written = w.written })
