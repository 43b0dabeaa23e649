-- The search: the walk over what may match, where to split, and what the parts say of the whole.
use Prim.Native.Nat.{ℕ, ◌+◌, ◌<◌, ◌≤◌, min}
use mathlib.Core.Path.{◌≡◌, refl, sym, ap, subst, subst₂, ◌∙◌}
use mathlib.Core.Logic.{◌⊎◌, inl, inr, ⊎_elim}
use mathlib.Core.Bool.{Bool, true, false, cond, ◌&&◌}
use mathlib.Core.List.{List}
use native.Mathlib.Omega.{arith}
use Rattle.std.specs.Prelude.{Option, Some, None}
use native.Mathlib.Decide.{ℕ_discrete}
use lib.ListN.{length, get_or}
use lib.Dec.{eqb}
use borrow.Author.Tests.{eqb-true}
use Rattle.list_theory.specs.Values.{fills, alike}
use Rattle.list_theory.specs.Decision.{held}
use Rattle.list_theory.specs.Matching.{matches}
use Rattle.file_records.specs.declared.program.Shape.{Shape}
use Rattle.file_contents.specs.declared.entry.Cube.{Cube}
use Rattle.file_records.specs.ProgramPart.{shape_of}
use Rattle.file_contents.specs.Cube.{configuration_of}
use Rattle.file_again.specs.Again.{offset_at, cube_at, entries_of}
use Rattle.list_key.specs.Relation.{relation}
use Rattle.list_key.specs.Tags.{tags_of}
use Rattle.list_key.specs.Signature.{Contained}
use Rattle.list_key.specs.Number.{widened, Agrees, number_of}
use Rattle.list_key.proofs.NumberLaws.{match_number, match_signature, number_signature, agrees_widened, signature_any}
use Rattle.list_summary.specs.declared.walking.Walk.{Walk}
use Rattle.list_summary.specs.Slots.{head_link, home_of}
use Rattle.list_summary.specs.Groups.{same_states}
use Rattle.list_summary.specs.Walks.{Left, Onward}
use Rattle.list_summary.proofs.GroupLaws.{all_at, at_same}
use Rattle.list_summary.proofs.OnwardLaws.{all_walked}
use Rattle.list_cover.specs.declared.place.Place.{Place}
use Rattle.list_cover.specs.declared.gaps.Gaps.{Gaps}
use Rattle.list_cover.specs.Places.{part_of, is_free, fillings}
use Rattle.list_cover.specs.Search.{Covered, by_parts, Plain, Searchable, splits, Tried, Uncovered, Stuck}
use Rattle.list_bytes.specs.Against.{Sized, Against}
use Rattle.list_key.specs.Cue.{Cues}
use Rattle.list_cover.proofs.EntryLaws.{load_few}
use Rattle.list_cover.proofs.PartLaws.{part_count}
use Rattle.list_cover.proofs.HeldLaws.{cube_stuck, searchable_part, parts_one, covered_is}

-- ---- a walk

-- entry k is not so related to the cube
abbrev pub Unlike : (ℕ → ℕ → Bool) → List ℕ → List ℕ → Shape → Cube → List ℕ → ℕ → Type 0
Unlike r f list s c cues k = Against s c cues → matches (shape_of s) r (configuration_of (cube_at f list k)) (configuration_of c) ≡ false

module _ (f list sum : List ℕ) (n : ℕ) (s : Shape) (states : List ℕ) (number : ℕ) where
  abbrev pub Start : ℕ → Type 0
  Start k = Left f list sum n s states number n (head_link sum (home_of number n)) false k

  -- entry k is still to come
  abbrev pub Coming : Walk → ℕ → Type 0
  Coming w k = Left f list sum n s w.states w.number w.below w.link w.led k

  -- each entry that may match was seen, or is still to come
  pub record Walked (Seen : ℕ → Type 0) (w : Walk) : Type 0 where
    pub bounded : w.below ≤ n
    pub each : (k : ℕ) → Start k → Seen k ⊎ Coming w k

  module _ {Seen : ℕ → Type 0} {w v : Walk} {next : Option ℕ} (W : Walked Seen w) (O : Onward f list sum n s w.states w.number (min w.below n) w.link w.led next v) where
    -- nothing is cut off from a walk within the list
    onward_whole : Onward f list sum n s w.states w.number w.below w.link w.led next v
    onward_whole =
        let e : min w.below n ≡ w.below = let b = W.bounded in omega arith in
        subst (λ (b : ℕ). Onward f list sum n s w.states w.number b w.link w.led next v) e O

    pub walked_next : {i : ℕ} → next ≡ Some i → (v.states ≡ w.states) × (v.number ≡ w.number) → Seen i → Walked Seen v
    walked_next {i} e same d =
        record {
          bounded = O.bounded;
          each = λ k l. ⊎_elim (λ x. inl x)
              (λ x. ⊎_elim (λ y. inl (subst Seen y d))
              (λ y. inr (subst₂ (λ (zs : List ℕ) (m : ℕ). Left f list sum n s zs m v.below v.link v.led k) (sym same.0) (sym same.1) y))
              (onward_whole.rest i e k x))
              (W.each k l);
        }

    pub walked_shorter : {i : ℕ} → next ≡ Some i → v.below + cond v.led 0 1 < w.below + cond w.led 0 1
    walked_shorter {i} e = onward_whole.shorter i e

    -- at the end of the walk everything was seen
    pub walked_end : next ≡ None → (k : ℕ) → Start k → Seen k
    walked_end e k l = ⊎_elim (λ x. x) (λ y. absurd (onward_whole.none e k y)) (W.each k l)

-- how far a walk can still go
abbrev pub far : Walk → ℕ
far w = w.below + cond w.led 0 1

-- ---- what was not walked over does not match

module _ {f list sum : List ℕ} {n : ℕ} {s : Shape} {c : Cube} (Z : Searchable f list sum n s c) where
  pub sized : Sized s c
  sized = record { processes = Z.plain.shape.processes; variables = Z.plain.shape.variables; messages = Z.plain.messages }

  both_left : (a b : Bool) → a && b ≡ true → a ≡ true
  both_left true b e = refl
  both_left false b e = e

  same_of : (exact : Bool) (a : Cube) → matches (shape_of s) (relation exact) (configuration_of a) (configuration_of c) ≡ true → same_states s a.states c.states ≡ true
  same_of exact a e =
      at_same s a.states c.states
      (λ p l. eqb-true (get_or a.states p 0) (get_or c.states p 0)
      (all_at s.processes (λ p. eqb (get_or a.states p 0) (get_or c.states p 0)) (both_left _ _ (both_left _ _ e)) p (omega arith)))

  match_agrees : (exact : Bool) (k : ℕ) → k < n → matches (shape_of s) (relation exact) (configuration_of (cube_at f list k)) (configuration_of c) ≡ true → Agrees (number_of s (cube_at f list k)) (number_of s c)
  match_agrees exact k l e = match_number s exact (cube_at f list k) c Z.plain.shape (Z.plain.entries k l) Z.plain.fits (load_few f (offset_at list k)) Z.plain.messages e

  -- an entry that covers the cube has no bit in its signature that the cube has not
  pub all_uncovered : ((k : ℕ) → Start f list sum n s c.states (number_of s c) k → matches (shape_of s) fills (configuration_of (cube_at f list k)) (configuration_of c) ≡ false)
      → (k : ℕ) → k < n → matches (shape_of s) fills (configuration_of (cube_at f list k)) (configuration_of c) ≡ false
  all_uncovered =
      all_walked Z.summed c.states (number_of s c) (λ k. matches (shape_of s) fills (configuration_of (cube_at f list k)) (configuration_of c)) (match_agrees true)
      (λ k l e. subst₂ Contained (sym (number_signature s (cube_at f list k))) (sym (number_signature s c))
      (match_signature s (cube_at f list k) c Z.plain.shape (Z.plain.entries k l) Z.plain.fits (load_few f (offset_at list k)) Z.plain.messages e))
      (λ k l e. same_of true (cube_at f list k) e)

  -- one that may meet it may have any
  pub all_unmet : ((k : ℕ) → Start f list sum n s c.states (widened (number_of s c)) k → matches (shape_of s) alike (configuration_of (cube_at f list k)) (configuration_of c) ≡ false)
      → (k : ℕ) → k < n → matches (shape_of s) alike (configuration_of (cube_at f list k)) (configuration_of c) ≡ false
  all_unmet =
      all_walked Z.summed c.states (widened (number_of s c)) (λ k. matches (shape_of s) alike (configuration_of (cube_at f list k)) (configuration_of c))
      (λ k l e. agrees_widened (match_agrees false k l e)) (λ k l e. signature_any (number_of s (cube_at f list k)) (number_of s c)) (λ k l e. same_of false (cube_at f list k) e)

-- ---- a place to split at

module _ (f list sum : List ℕ) (n : ℕ) (s : Shape) (c : Cube) (cues : List ℕ) (number : ℕ) where
  pub record Choosing (best : Option Gaps) (w : Walk) : Type 0 where
    pub splits : splits s c best ≡ true
    pub walked : Walked f list sum n s c.states number (λ k. best ≡ None → Unlike alike f list s c cues k) w

  module _ {best : Option Gaps} {w v : Walk} {next : Option ℕ} (C : Choosing best w) (O : Onward f list sum n s w.states w.number (min w.below n) w.link w.led next v) where
    pub choosing_next : {now : Option Gaps} {i : ℕ} → next ≡ Some i → (v.states ≡ w.states) × (v.number ≡ w.number) → Tried f list s c cues best i now → Choosing now v
    choosing_next {now} {i} e same Y =
        record {
          splits = Y.kept C.splits;
          walked = walked_next f list sum n s c.states number
              (record { bounded = C.walked.bounded; each = λ k l. ⊎_elim (λ x. inl (λ z. x (Y.before z))) (λ x. inr x) (C.walked.each k l) }) O e same Y.unmet;
        }

-- ---- the cues of a cube

pub cued : (s : Shape) (c : Cube) (cues : List ℕ) {tags : List ℕ} → tags ≡ tags_of s c → Cues c tags cues → Cues c (tags_of s c) cues
cued s c cues t h = subst (λ (ts : List ℕ). Cues c ts cues) t h

-- ---- the entries for a cube

module _ (f list sum : List ℕ) (n : ℕ) (s : Shape) (c : Cube) (cues : List ℕ) (number : ℕ) where
  module _ (t : Cues c (tags_of s c) cues) where
    pub against : Sized s c → Against s c cues
    against Z = record { sized = Z; are = t }

    -- none covers it, and it can't be split
    pub cube_out : number ≡ number_of s c → Uncovered f list sum n s c cues number → Stuck f list sum n s c cues number → Searchable f list sum n s c
        → held (shape_of s) (entries_of f list n) (configuration_of c) ≡ false
    cube_out m g q Z =
        let A = against (sized Z) in
        let at : (x y : ℕ) (R : ℕ → Bool) → x ≡ y → ((k : ℕ) → Start f list sum n s c.states x k → R k ≡ false) → (k : ℕ) → Start f list sum n s c.states y k → R k ≡ false =
        λ x y R e g k l. g k (subst (λ (y : ℕ). Start f list sum n s c.states y k) (sym e) l) in
        cube_stuck Z.plain
        (all_uncovered Z (at number (number_of s c) (λ k. matches (shape_of s) fills (configuration_of (cube_at f list k)) (configuration_of c)) m (g A)))
        (⊎_elim
        (λ u. inl (all_unmet Z (at (widened number) (widened (number_of s c)) (λ k. matches (shape_of s) alike (configuration_of (cube_at f list k)) (configuration_of c)) (ap widened m) (u A))))
        (λ u. inr u) q)

-- ---- the parts in turn

module _ (f list sum : List ℕ) (n : ℕ) (s : Shape) (c : Cube) (a : Place) where
  -- the first x parts are covered
  pub record Parts (x : ℕ) : Type 0 where
    pub most : x ≤ fillings s a
    pub covered : Sized s c → (k : ℕ) → k < x → Covered f list n s (part_of c a k)

  module _ {x : ℕ} {part : Cube} (is : part ≡ part_of c a x) (one : x < fillings s a) where
    part_sized : Sized s c → Sized s part
    part_sized Z =
        record {
          processes = Z.processes;
          variables = Z.variables;
          messages = subst (λ (y : ℕ). y ≤ 20) (sym (ap (λ (y : Cube). y.count) is ∙ part_count c a x)) Z.messages;
        }

    pub parts_next : Parts x → (Sized s part → Covered f list n s part) → Parts (x + 1)
    parts_next w g =
        record {
          most = omega arith;
          covered = λ Z k m. elim (ℕ_discrete k x) [
            | yes d ↦ subst (λ (y : ℕ). Covered f list n s (part_of c a y)) (sym d) (subst (Covered f list n s) is (g (part_sized Z)))
            | no d ↦ w.covered Z k (omega arith)
          ];
        }

    module _ (sixteen : length c.queues ≡ 16) (twenty : length c.messages ≡ 20) (ok : is_free s c a ≡ true) (Z : Searchable f list sum n s c) where
      part_searchable : Searchable f list sum n s part
      part_searchable =
          record { plain = subst (Plain f list n s) (sym is) (searchable_part Z.plain sixteen twenty a ok x one); summed = Z.summed }

      -- what is not held in the part is not held in the whole
      pub part_out : (Searchable f list sum n s part → held (shape_of s) (entries_of f list n) (configuration_of part) ≡ false) → held (shape_of s) (entries_of f list n) (configuration_of c) ≡ false
      part_out g = parts_one Z.plain sixteen twenty a ok x one (ap (λ (k : Cube). held (shape_of s) (entries_of f list n) (configuration_of k)) (sym is) ∙ g part_searchable)

  pub parts_done : is_free s c a ≡ true → {x : ℕ} → Parts x → fillings s a ≤ x → Sized s c → Covered f list n s c
  parts_done ok {x} w l Z = by_parts a ok (λ k m. w.covered Z k (omega arith))

-- what is covered is held, and what is not is not
pub found : {f list sum : List ℕ} {n : ℕ} {s : Shape} {c : Cube} {h : Bool} → length c.queues ≡ 16 → length c.messages ≡ 20 → (Sized s c → h ≡ true → Covered f list n s c)
    → (Searchable f list sum n s c → h ≡ false → held (shape_of s) (entries_of f list n) (configuration_of c) ≡ false)
    → Searchable f list sum n s c → h ≡ held (shape_of s) (entries_of f list n) (configuration_of c)
found {h = true} q m g d Z = sym (covered_is q m Z.plain (g (sized Z) refl))
found {h = false} q m g d Z = sym (d Z refl)
