-- What walks over parts of a list say of the whole.
use Prim.Native.Nat.{ℕ, zero, suc, ◌+◌, ◌<◌, ◌≤◌}
use mathlib.Core.Path.{◌≡◌, refl, sym, ap, subst, ◌∙◌}
use mathlib.Core.Bool.{Bool, true, false, ◌&&◌}
use mathlib.Core.List.Memᴰ
use mathlib.Core.List.{List, [], ◌∷◌, ◌++◌}
use native.Mathlib.Omega.{arith}
use native.Mathlib.Decide.{ℕ_discrete}
use Rattle.machine_pws.specs.Machine.{Configuration, all_below}
use Rattle.file_contents.specs.declared.entry.Cube.{Cube}
use Rattle.file_records.specs.ProgramPart.{shape_of}
use Rattle.file_contents.specs.Cube.{configuration_of}
use Rattle.list_theory.specs.Lists.{for_below, every}
use Rattle.list_theory.specs.Decision.{held}
use Rattle.list_theory.proofs.Lists.{in_below}
use Rattle.list_key.proofs.Below.{and_false}
use Rattle.list_summary.specs.declared.listing.Listing.{Listing}
use Rattle.list_cover.specs.Search.{Searchable}
use Rattle.list_targets.specs.ShapeCube.{Roomy}
use Rattle.list_targets.specs.Walk.{Judges, listed}
use Rattle.list_targets.proofs.ListLaws.{every_append, every_one, every_below}

abbrev is_held : Listing → Configuration → Bool
is_held L = held (shape_of L.shape) (listed L)

-- what a search says of a cube
abbrev pub Answers : Listing → Cube → Bool → Type 0
Answers L c r = Searchable L.file.now L.offsets.now L.summary.now L.count L.shape c → r ≡ is_held L (configuration_of c)

module _ {L : Listing} where
  pub judges_same : {cs ds : List Configuration} {r : Bool} → cs ≡ ds → Judges L ds r → Judges L cs r
  judges_same {cs} {ds} {r} e j = subst (λ (x : List Configuration). Judges L x r) (sym e) j

  pub judges_is : {cs : List Configuration} {r b : Bool} → r ≡ b → Judges L cs r → Judges L cs b
  judges_is {cs} e j = subst (Judges L cs) e j

  pub judges_none : Judges L [] true
  judges_none = record { judged = λ h a. refl }

  pub judges_one : (c : Cube) (r : Bool) → Roomy c → Answers L c r → Judges L (configuration_of c ∷ []) r
  judges_one c r m e =
      record {
        judged = λ h a. e (record {
          plain =
              record {
                count = h.count;
                shape = h.shape;
                entries = h.entries;
                fits = a (configuration_of c) (Memᴰ.head refl);
                messages = m.messages;
                waiting = m.waiting;
              };
          summed = h.summed;
        }) ∙ sym (every_one (is_held L) (configuration_of c));
      }

  pub judges_both : {cs ds : List Configuration} {r : Bool} → Judges L cs true → Judges L ds r → Judges L (cs ++ ds) r
  judges_both {cs} {ds} {r} x y =
      record {
        judged = λ h a. sym (every_append (is_held L) cs ds
            ∙ ap (λ (b : Bool). b && every (is_held L) ds) (sym (x.judged h (λ c m. a c (Memᴰ.append_left ds m))))
            ∙ sym (y.judged h (λ c m. a c (Memᴰ.append_right cs m))));
      }

  pub judges_first : {cs : List Configuration} (ds : List Configuration) → Judges L cs false → Judges L (cs ++ ds) false
  judges_first {cs} ds x =
      record {
        judged = λ h a. sym (every_append (is_held L) cs ds ∙ ap (λ (b : Bool). b && every (is_held L) ds) (sym (x.judged h (λ c m. a c (Memᴰ.append_left ds m)))));
      }

  judges_last : (cs : List Configuration) {ds : List Configuration} → Judges L ds false → Judges L (cs ++ ds) false
  judges_last cs {ds} x =
      record {
        judged = λ h a. sym (every_append (is_held L) cs ds ∙ ap (◌&&◌ (every (is_held L) cs)) (sym (x.judged h (λ c m. a c (Memᴰ.append_right cs m)))) ∙ and_false (every (is_held L) cs));
      }

  below_true : (k : ℕ) (g : ℕ → List Configuration) → ((i : ℕ) → i < k → Judges L (g i) true) → Judges L (for_below k g) true
  below_true zero g h = judges_none
  below_true (suc k) g h = judges_both (below_true k g (λ i l. h i (omega arith))) (h k (omega arith))

  pub below_false : (k : ℕ) (g : ℕ → List Configuration) (i : ℕ) → i < k → Judges L (g i) false → Judges L (for_below k g) false
  below_false zero g i l x = absurd (omega arith)
  below_false (suc k) g i l x = elim (ℕ_discrete i k) [
    | yes d ↦ judges_last (for_below k g) (subst (λ (j : ℕ). Judges L (g j) false) d x)
    | no d ↦ judges_first (g k) (below_false k g i (omega arith) x)
  ]

  pub below_not : (k : ℕ) (g : ℕ → List Configuration) (i : ℕ) → i < k → {r : Bool} → Judges L (g i) r → r ≡ false → Judges L (for_below k g) r
  below_not k g i l x e = judges_is (sym e) (below_false k g i l (judges_is e x))

-- ---- a loop over the lists of the numbers below k, so far: each of them is held

pub record EachHeld (L : Listing) (g : ℕ → List Configuration) (k i : ℕ) : Type 0 where
  pub most : i ≤ k
  pub each : (j : ℕ) → j < i → Judges L (g j) true

module _ {L : Listing} where
  pub held_begin : (g : ℕ → List Configuration) (k : ℕ) → EachHeld L g k 0
  held_begin g k = record { most = omega arith; each = λ j l. absurd (omega arith) }

  pub held_next : {g : ℕ → List Configuration} {k i : ℕ} → EachHeld L g k i → i < k → Judges L (g i) true → EachHeld L g k (i + 1)
  held_next {g} {k} {i} w l x =
      record {
        most = omega arith;
        each = λ j m. elim (ℕ_discrete j i) [ yes d ↦ subst (λ (u : ℕ). Judges L (g u) true) (sym d) x | no d ↦ w.each j (omega arith) ];
      }

  pub held_all : {g : ℕ → List Configuration} {k i : ℕ} → EachHeld L g k i → k ≤ i → Judges L (for_below k g) true
  held_all {g} {k} {i} w l = below_true k g (λ j m. w.each j (omega arith))

  -- a test of each number below k
  pub judges_below : {post : ℕ → Bool → Type 0} (k : ℕ) (g : ℕ → List Configuration) {r : Bool}
      → ((f : ℕ → Bool) → ((p : ℕ) (b : Bool) → p < k → post p b → b ≡ f p) → r ≡ all_below k f)
      → ((p : ℕ) (b : Bool) → p < k → post p b → Judges L (g p) b)
      → Judges L (for_below k g) r
  judges_below k g q j =
      record {
        judged = λ h A. q (λ p. every (is_held L) (g p)) (λ p b l x. (j p b l x).judged h (λ c m. A c (in_below k g p l m))) ∙ sym (every_below (is_held L) k g);
      }
