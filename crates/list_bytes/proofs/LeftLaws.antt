-- What is left to match of an entry and of a cube, when their newest messages were set against each other.
use Prim.Native.Nat.{ℕ, zero, suc, ◌+◌, ◌-◌, ◌<◌, ◌≤◌, min}
use mathlib.Core.Path.{◌≡◌, refl, sym, ap, subst, subst₂, ◌∙◌}
use mathlib.Core.Logic.{⊎_elim}
use mathlib.Core.Bool.{Bool, true, false}
use mathlib.Core.List.{List, [], ◌∷◌}
use native.Mathlib.Omega.{arith}
use native.Mathlib.Decide.{dec_le}
use lib.ListN.{get_or}
use lib.Dec.{T, eqb}
use borrow.Author.Tests.{eqb-true}
use mir.Facts.{and_yes}
use Rattle.machine_pws.specs.Machine.{no_message}
use Rattle.machine_pws.specs.Tagged.{Tagged}
use Rattle.list_theory.specs.Values.{pairwise}
use Rattle.list_theory.specs.Matching.{Subsequence, nothing, skip, keep, same, message_matches, tag_matches}
use Rattle.list_theory.proofs.Lists.{T_true}
use Rattle.list_theory.proofs.Matching.{sub_cases, sub_empty, leftmost}
use Rattle.file_records.specs.declared.program.Shape.{Shape}
use Rattle.file_records.specs.ProgramPart.{shape_of}
use Rattle.file_contents.specs.declared.entry.Cube.{Cube}
use Rattle.file_contents.specs.Cube.{configuration_of}
use Rattle.list_key.specs.Relation.{relation}
use Rattle.list_key.specs.Tags.{mask, lowest_pointer}
use Rattle.list_key.specs.Match.{channel_matches}
use Rattle.list_key.proofs.TagLaws.{mask_alike, roles_test}
use Rattle.list_key.proofs.ChannelLaws.{tag, up_to, up_none, up_some}

-- a process points at i and another than j, or at j and another than i
abbrev pub PointsOther : ℕ → List ℕ → List ℕ → ℕ → ℕ → Type 0
PointsOther processes zs own i j = (p : ℕ) × (p < min processes 4) × (eqb (get_or zs p 0) i ≡ eqb (get_or own p 0) j → ⊥)

-- a message that has another label, values that are not related or another process at it does not stand for one
pub cannot_stand : (exact : Bool) (s : Shape) → s.processes ≤ 4 → s.variables ≤ 4 → (e c : Cube) (i j : ℕ)
    → (message_matches (relation exact) (get_or e.messages i no_message) (get_or c.messages j no_message) ≡ true → PointsOther s.processes e.pointers c.pointers (suc i) (suc j))
    → T (tag_matches (relation exact) (tag s e (suc i)) (tag s c (suc j))) → ⊥
cannot_stand exact s few narrow e c i j h t =
    let x : suc i - 1 ≡ i = omega arith in
    let y : suc j - 1 ≡ j = omega arith in
    let w = and_yes (pairwise (pairwise same) (tag s e (suc i)).roles (tag s c (suc j)).roles) (message_matches (relation exact) (get_or e.messages (suc i - 1) no_message) (get_or c.messages (suc j - 1) no_message)) t in
    let o = h (T_true (message_matches (relation exact) (get_or e.messages i no_message) (get_or c.messages j no_message))
    (subst₂ (λ (k l : ℕ). T (message_matches (relation exact) (get_or e.messages k no_message) (get_or c.messages l no_message))) x y w.1)) in
    let m = eqb-true (mask s.processes s.variables (configuration_of e).memory (suc i)) (mask s.processes s.variables (configuration_of c).memory (suc j))
    (sym (roles_test (shape_of s) narrow (configuration_of e).memory (suc i) (configuration_of c).memory (suc j) (omega arith) (omega arith)) ∙ T_true (pairwise (pairwise same) (tag s e (suc i)).roles (tag s c (suc j)).roles) w.0) in
    o.2 ((mask_alike (shape_of s) (configuration_of e).memory (suc i) (configuration_of c).memory (suc j) narrow (omega arith) (omega arith) m).pointers o.0 (omega (arith, o.1)))

module _ (s : Shape) (few : s.processes ≤ 4) (exact : Bool) (e c : Cube) (low : lowest_pointer s e.pointers ≡ 1) where
  abbrev R : Tagged → Tagged → Bool
  R = tag_matches (relation exact)

  pub none_sub : (ys : List Tagged) → Subsequence R [] ys
  none_sub [] = nothing
  none_sub (y ∷ ys) = skip (none_sub ys)

  sub_rest : {x : Tagged} {xs ys : List Tagged} → Subsequence R (x ∷ xs) ys → Subsequence R xs ys
  sub_rest (skip t) = skip (sub_rest t)
  sub_rest (keep h t) = skip t

  pub own_some : (i : ℕ) → suc i ≤ 20 → up_to s e (suc i) ≡ tag s e (suc i) ∷ up_to s e i
  own_some i l = up_some s few e (suc i) l (omega (arith, low)) ∙ ap (λ (k : ℕ). tag s e (suc i) ∷ up_to s e k) {x = suc i - 1} {y = i} (omega arith)

  pub their_some : (j : ℕ) → suc j ≤ 20 → lowest_pointer s c.pointers ≤ suc j → up_to s c (suc j) ≡ tag s c (suc j) ∷ up_to s c j
  their_some j l d = up_some s few c (suc j) l d ∙ ap (λ (k : ℕ). tag s c (suc j) ∷ up_to s c k) {x = suc j - 1} {y = j} (omega arith)

  -- each of these messages stands for one
  no_fewer : (j i : ℕ) → i ≤ 20 → j ≤ 20 → Subsequence R (up_to s e i) (up_to s c j) → i ≤ j
  no_fewer j zero l g t = omega arith
  no_fewer zero (suc i) l g t = absurd (sub_empty R (subst (λ (xs : List Tagged). Subsequence R xs []) (own_some i l) t))
  no_fewer (suc j) (suc i) l g t = elim (dec_le (lowest_pointer s c.pointers) (suc j)) [
    | no d ↦ absurd (sub_empty R (subst₂ (Subsequence R) (own_some i l) (up_none s few c (suc j) g (omega arith)) t))
    | yes d ↦ ⊎_elim
        (λ u. omega (arith, no_fewer j (suc i) l (omega arith) (subst (λ (xs : List Tagged). Subsequence R xs (up_to s c j)) (sym (own_some i l)) u)))
        (λ u. omega (arith, no_fewer j i (omega arith) (omega arith) u.1))
        (sub_cases R (subst₂ (Subsequence R) (own_some i l) (their_some j g d) t))
  ]

  -- if the entry matches, its oldest i messages do so among the oldest j of the cube
  abbrev pub Left : ℕ → ℕ → Type 0
  Left i j = channel_matches s exact e c ≡ true → Subsequence R (up_to s e i) (up_to s c j)

  oldest : (d i : ℕ) (ys : List Tagged) → i + d ≤ 20 → Subsequence R (up_to s e (i + d)) ys → Subsequence R (up_to s e i) ys
  oldest zero i ys l t = subst (λ (k : ℕ). Subsequence R (up_to s e k) ys) {x = i + 0} {y = i} (omega arith) t
  oldest (suc d) i ys l t =
      oldest d i ys (omega arith)
      (sub_rest (subst (λ (xs : List Tagged). Subsequence R xs ys) (ap (up_to s e) {x = i + suc d} {y = suc (i + d)} (omega arith) ∙ own_some (i + d) (omega arith)) t))

  pub left_begin : e.count ≤ 20 → (m : ℕ) → m ≤ e.count → Left m c.count
  unfolding channel_matches
  left_begin most m l t =
      oldest (e.count - m) m (up_to s c c.count) (omega arith)
      (subst (λ (k : ℕ). Subsequence R (up_to s e k) (up_to s c c.count)) {x = e.count} {y = m + (e.count - m)} (omega arith)
      ((leftmost R (up_to s e e.count) (up_to s c c.count)).0 (subst T (sym t) tt)))

  pub left_keep : (i j : ℕ) → suc i ≤ 20 → suc j ≤ 20 → Left (suc i) (suc j) → Left i j
  left_keep i j l g h t = elim (dec_le (lowest_pointer s c.pointers) (suc j)) [
    | no d ↦ absurd (sub_empty R (subst₂ (Subsequence R) (own_some i l) (up_none s few c (suc j) g (omega arith)) (h t)))
    | yes d ↦ ⊎_elim sub_rest (λ u. u.1) (sub_cases R (subst₂ (Subsequence R) (own_some i l) (their_some j g d) (h t)))
  ]

  pub left_skip : (i j : ℕ) → i ≤ 20 → suc j ≤ 20 → ((k : ℕ) → i ≡ suc k → T (R (tag s e (suc k)) (tag s c (suc j))) → ⊥) → Left i (suc j) → Left i j
  left_skip zero j l g n h t = none_sub (up_to s c j)
  left_skip (suc i) j l g n h t = elim (dec_le (lowest_pointer s c.pointers) (suc j)) [
    | no d ↦ absurd (sub_empty R (subst₂ (Subsequence R) (own_some i l) (up_none s few c (suc j) g (omega arith)) (h t)))
    | yes d ↦ ⊎_elim
        (λ u. subst (λ (xs : List Tagged). Subsequence R xs (up_to s c j)) (sym (own_some i l)) u)
        (λ u. absurd (n i refl u.0))
        (sub_cases R (subst₂ (Subsequence R) (own_some i l) (their_some j g d) (h t)))
  ]

  pub left_over : (i j : ℕ) → i ≤ 20 → j ≤ 20 → j < i → Left i j → channel_matches s exact e c ≡ false
  left_over i j l g f h = at (channel_matches s exact e c) refl
    where
      at : (b : Bool) → channel_matches s exact e c ≡ b → b ≡ false
      at false d = refl
      at true d = absurd (omega (arith, no_fewer j i l g (h d)))
