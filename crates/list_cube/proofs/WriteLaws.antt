-- LastWrite of every process and variable, message by message.
use Prim.Native.Nat.{ℕ, suc, ◌+◌, ◌*◌, ◌<◌, ◌≤◌, max}
use mathlib.Core.Path.{◌≡◌, refl, sym, ap, ap₂, subst, ◌∙◌}
use mathlib.Core.Bool.{Bool, true, false, cond, ◌&&◌}
use mathlib.Core.List.{List, [], ◌∷◌}
use native.Mathlib.Omega.{arith}
use native.Mathlib.Numerals.{unary_clauses}
use native.Mathlib.Decide.{ℕ_discrete, dec_le}
use lib.ListN.{length, get_or, set, length-set}
use lib.Seq.{get_or-set_same, get_or-set_other, set-get_or}
use lib.Dec.{T, eqb, ltb}
use borrow.Author.Tests.{ltb-true, eq-eqb, ne_eqb, lt-ltb}
use Rattle.machine_pws.specs.declared.Message.{Message}
use Rattle.machine_pws.specs.Machine.{no_message, labelled, last_labelled}
use Rattle.file_contents.specs.Cube.{channel_of}
use Rattle.file_records.proofs.ProgramLaws.{and_true}
use Rattle.file_contents.proofs.CubeParts.{channel_length}
use Rattle.std.specs.Prelude.{None, Some}
use Rattle.base.proofs.Tests.{and_false}
use Rattle.list_cube.specs.Editing.{WritePlace}

pub labels : (p v : ℕ) → ltb p 4 && ltb v 4 ≡ true → (p < 4) × (v < 4)
labels p v e = let w = and_true (ltb p 4) (ltb v 4) e in (ltb-true p 4 w.0, ltb-true v 4 w.1)

no_true : false ≡ true → ⊥
no_true e = subst T (sym e) tt

-- ---- labels

label_yes : (m : Message) (p v : ℕ) → (p ≡ m.process) × (v ≡ m.variable) → labelled m p v ≡ true
label_yes m p v e = rw (eq-eqb m.process p (sym e.0)) (eq-eqb m.variable v (sym e.1))

label_no : (m : Message) (p v : ℕ) → ((p ≡ m.process) × (v ≡ m.variable) → ⊥) → labelled m p v ≡ false
label_no m p v d = elim (ℕ_discrete p m.process) [
  | yes e ↦ rw (ne_eqb m.variable v (λ f. d (e, sym f))) (and_false (eqb m.process p))
  | no e ↦ rw (ne_eqb m.process p (λ f. e (sym f))) refl
]

pub last_most : (ms : List Message) (p v : ℕ) → last_labelled ms p v ≤ length ms
last_most [] p v = omega arith
last_most (m ∷ ms) p v = at (last_most ms p v) (labelled m p v)
  where
    at : last_labelled ms p v ≤ length ms → (b : Bool) → cond b (suc (length ms)) (last_labelled ms p v) ≤ suc (length ms)
    at w true = omega arith
    at w false = omega arith

-- ---- message by message

-- LastWrite in a memory of which i messages were read
pub record WritesTo (z : ℕ → ℕ) (ms : List Message) (writes : List ℕ) (i : ℕ) : Type 0 where
  pub room : length writes ≡ 16
  pub written : (p v : ℕ) → p < 4 → v < 4 → get_or writes (4 * p + v) 0 ≡ max (z p) (last_labelled (channel_of ms i) p v)

-- the message of number i + 1
module _ {z : ℕ → ℕ} {ms : List Message} {writes : List ℕ} {i : ℕ} (w : WritesTo z ms writes i) where
  abbrev m : Message
  m = get_or ms i no_message

  abbrev place : ℕ
  place = 4 * m.process + m.variable

  last_new : (p v : ℕ) → (b : Bool) → labelled m p v ≡ b → last_labelled (channel_of ms (i + 1)) p v ≡ cond b (i + 1) (last_labelled (channel_of ms i) p v)
  last_new p v b e = simp unary_clauses (ap₂ (λ (c : Bool) (k : ℕ). cond c (suc k) (last_labelled (channel_of ms i) p v)) e (channel_length ms i))

  old : (p v : ℕ) → p < 4 → v < 4 → labelled m p v ≡ false → get_or writes (4 * p + v) 0 ≡ max (z p) (last_labelled (channel_of ms (i + 1)) p v)
  old p v a b e = w.written p v a b ∙ ap (max (z p)) (sym (last_new p v false e))

  most : (p v : ℕ) → last_labelled (channel_of ms i) p v ≤ i
  most p v = omega (arith, last_most (channel_of ms i) p v, channel_length ms i)

  -- its label is its own, or not
  each : (F : ℕ → ℕ → Type 0) (p v : ℕ) → F m.process m.variable → (((p ≡ m.process) × (v ≡ m.variable) → ⊥) → F p v) → F p v
  each F p v here other = elim (ℕ_discrete p m.process) [
    | yes e ↦ elim (ℕ_discrete v m.variable) [
      | yes f ↦ subst (λ (q : ℕ). F q v) (sym e) (subst (F m.process) (sym f) here)
      | no f ↦ other (λ n. f n.1)
    ]
    | no e ↦ other (λ n. e n.0)
  ]

  kept : (a : m.process < 4) (b : m.variable < 4) → i + 1 ≤ get_or writes place 0 → WritesTo z ms writes (i + 1)
  kept a b l =
      record {
        room = w.room;
        written = λ p v c d. each (λ p v. p < 4 → v < 4 → get_or writes (4 * p + v) 0 ≡ max (z p) (last_labelled (channel_of ms (i + 1)) p v)) p v
            (λ c d. omega (arith, w.written m.process m.variable a b, last_new m.process m.variable true (label_yes m m.process m.variable (refl, refl)), most m.process m.variable, l))
            (λ n c d. old p v c d (label_no m p v n)) c d;
      }

  moved : (a : m.process < 4) (b : m.variable < 4) → get_or writes place 0 < i + 1 → WritesTo z ms (set writes place (i + 1)) (i + 1)
  moved a b l =
      record {
        room = length-set writes place (i + 1) ∙ w.room;
        written = λ p v c d. each (λ p v. p < 4 → v < 4 → get_or (set writes place (i + 1)) (4 * p + v) 0 ≡ max (z p) (last_labelled (channel_of ms (i + 1)) p v)) p v
            (λ c d. get_or-set_same writes place (i + 1) 0 (omega (arith, w.room))
            ∙ omega (arith, w.written m.process m.variable a b, last_new m.process m.variable true (label_yes m m.process m.variable (refl, refl)), l))
            (λ n c d. get_or-set_other writes place (4 * p + v) (i + 1) 0 (λ e. n (omega arith, omega arith)) ∙ old p v c d (label_no m p v n)) c d;
      }

  strange : ltb m.process 4 && ltb m.variable 4 ≡ false → WritesTo z ms writes (i + 1)
  strange e =
      record {
        room = w.room;
        written = λ p v c d. old p v c d (label_no m p v (λ n. no_true (sym e ∙ rw (lt-ltb m.process 4 (omega (arith, n.0))) (lt-ltb m.variable 4 (omega (arith, n.1))))));
      }

  -- by the place of its LastWrite
  pub writes_none : WritePlace m None → WritesTo z ms writes (i + 1)
  writes_none = strange

  pub writes_older : {q : ℕ} → WritePlace m (Some q) → i + 1 ≤ get_or writes q 0 → WritesTo z ms writes (i + 1)
  writes_older W l = kept W.0 W.1 (subst (λ (k : ℕ). i + 1 ≤ get_or writes k 0) W.2 l)

  pub writes_newer : {q : ℕ} → WritePlace m (Some q) → get_or writes q 0 < i + 1
      → WritesTo z ms (set writes q (i + 1)) (i + 1)
  writes_newer W l =
      subst (λ (k : ℕ). WritesTo z ms (set writes k (i + 1)) (i + 1)) (sym W.2)
      (moved W.0 W.1 (subst (λ (k : ℕ). get_or writes k 0 < i + 1) W.2 l))

  pub writes_next : {q x : ℕ} → WritePlace m (Some q) → x ≡ max (get_or writes q 0) (i + 1) → WritesTo z ms (set writes q x) (i + 1)
  writes_next {q} {x} W e = elim (dec_le (i + 1) (get_or writes place 0)) [
    | yes d ↦ subst (λ (ws : List ℕ). WritesTo z ms ws (i + 1)) (sym (ap₂ (set writes) W.2 (e ∙ ap (λ (k : ℕ). max (get_or writes k 0) (i + 1)) W.2 ∙ omega arith) ∙ set-get_or writes place 0)) (kept W.0 W.1 d)
    | no d ↦ subst (λ (ws : List ℕ). WritesTo z ms ws (i + 1)) (sym (ap₂ (set writes) W.2 (e ∙ ap (λ (k : ℕ). max (get_or writes k 0) (i + 1)) W.2 ∙ omega arith))) (moved W.0 W.1 (omega arith))
  ]

pub four_list : (xs : List ℕ) → length xs ≡ 4 → get_or xs 0 0 ∷ get_or xs 1 0 ∷ get_or xs 2 0 ∷ get_or xs 3 0 ∷ [] ≡ xs
four_list [] e = absurd (omega arith)
four_list (a ∷ []) e = absurd (omega arith)
four_list (a ∷ b ∷ []) e = absurd (omega arith)
four_list (a ∷ b ∷ c ∷ []) e = absurd (omega arith)
four_list (a ∷ b ∷ c ∷ d ∷ []) e = refl
four_list (a ∷ b ∷ c ∷ d ∷ x ∷ xs) e = absurd (omega arith)
