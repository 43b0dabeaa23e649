-- An entry whose messages stand for messages of a cube, among them all that have a role: it matches the cube if the values do.
use Prim.Native.Nat.{ℕ, zero, suc, ◌-◌, ◌<◌, ◌≤◌}
use mathlib.Core.Path.{◌≡◌, refl, sym, ap, ap₂, subst, subst₂, ◌∙◌}
use mathlib.Core.Logic.{⊎_elim, inl, inr}
use mathlib.Core.Bool.{Bool, true, ◌&&◌}
use native.Mathlib.Omega.{arith}
use native.Mathlib.Decide.{dec_lt, ℕ_discrete}
use lib.ListN.{length, get_or}
use lib.Dec.{T, eqb}
use borrow.Author.Tests.{eq-eqb, ne_eqb}
use Rattle.machine_pws.specs.declared.Message.{Message}
use Rattle.machine_pws.specs.Program as pws
use Rattle.machine_pws.specs.Machine.{Memory, no_message, message, labelled, last_write}
use Rattle.machine_pws.proofs.Facts.{IsLast, last_is, last_eq}
use Rattle.machine_pws.proofs.Tagged.{role_last}
use Rattle.file_records.specs.declared.program.Shape.{Shape}
use Rattle.file_records.specs.ProgramPart.{shape_of}
use Rattle.file_contents.specs.declared.entry.Cube.{Cube}
use Rattle.file_contents.specs.Cube.{configuration_of}
use Rattle.file_contents.proofs.CubeParts.{channel_length, channel_message}
use Rattle.list_theory.specs.Values.{pairwise}
use Rattle.list_theory.specs.Matching.{Subsequence, skip, keep, subsequence, message_matches, tag_matches}
use Rattle.list_theory.proofs.Lists.{T_true}
use Rattle.list_theory.proofs.Matching.{leftmost}
use Rattle.list_key.specs.Relation.{relation}
use Rattle.list_key.specs.Tags.{mask, lowest_pointer}
use Rattle.list_key.specs.Match.{channel_matches}
use Rattle.list_key.proofs.TagLaws.{Alike, alike_mask, role_mask, roles_test}
use Rattle.list_key.proofs.ChannelLaws.{tag, up_to}
use Rattle.list_bytes.proofs.LeftLaws.{none_sub, own_some, their_some}

-- the roles of message i as a number
abbrev pub mask_in : Shape → Cube → ℕ → ℕ
mask_in s c i = mask s.processes s.variables (configuration_of c).memory i

-- message i of the entry e stands for message `kept i` of the cube c, and every message of c with a role has one that stands for it
pub record Traced (s : Shape) (e c : Cube) (kept : ℕ → ℕ) : Type 0 where
  pub inside : (i : ℕ) → i < e.count → kept i < c.count
  pub rises : (i j : ℕ) → i < j → j < e.count → kept i < kept j
  pub process : (i : ℕ) → i < e.count → (get_or e.messages i no_message).process ≡ (get_or c.messages (kept i) no_message).process
  pub variable : (i : ℕ) → i < e.count → (get_or e.messages i no_message).variable ≡ (get_or c.messages (kept i) no_message).variable
  pub from : (p : ℕ) → p < s.processes → 1 ≤ get_or e.pointers p 0
  pub upto : (p : ℕ) → p < s.processes → get_or e.pointers p 0 ≤ e.count
  pub pointer : (p : ℕ) → p < s.processes → get_or c.pointers p 0 ≡ suc (kept (get_or e.pointers p 0 - 1))
  pub all : (j : ℕ) → j < c.count → 0 < mask_in s c (suc j) → (i : ℕ) × (i < e.count) × (kept i ≡ j)
  pub lowest : lowest_pointer s e.pointers ≡ 1
  pub first : (i : ℕ) → i < e.count → lowest_pointer s c.pointers ≤ suc (kept i)

module _ (s : Shape) (few : s.processes ≤ 4) (narrow : s.variables ≤ 4) (e c : Cube) (a : e.count ≤ 20) (b : c.count ≤ 20) (kept : ℕ → ℕ) (w : Traced s e c kept) where
  abbrev S : pws.Shape
  S = shape_of s

  abbrev em : Memory
  em = (configuration_of e).memory

  abbrev cm : Memory
  cm = (configuration_of c).memory

  -- the number of the message that message z of the entry stands for
  abbrev K : ℕ → ℕ
  K z = suc (kept (z - 1))

  mono : (i j : ℕ) → i ≤ j → j < e.count → kept i ≤ kept j
  mono i j l k = elim (ℕ_discrete i j) [
    | yes d ↦ omega (arith, ap kept d)
    | no d ↦ omega (arith, w.rises i j (omega arith) k)
  ]

  once : (i j : ℕ) → i < e.count → j < e.count → kept i ≡ kept j → i ≡ j
  once i j k l d = elim (dec_lt i j) [
    | yes f ↦ absurd (omega (arith, w.rises i j f l))
    | no f ↦ elim (dec_lt j i) [
      | yes g ↦ absurd (omega (arith, w.rises j i g k))
      | no g ↦ omega arith
    ]
  ]

  -- ---- LastWrites stand for LastWrites

  labels : (i : ℕ) → i < e.count → (p v : ℕ) → labelled (message em.channel (suc i)) p v ≡ labelled (message cm.channel (suc (kept i))) p v
  labels i l p v =
      ap (λ (m : Message). labelled m p v) (channel_message e.messages e.count i l)
      ∙ ap₂ (λ (x y : ℕ). eqb x p && eqb y v) (w.process i l) (w.variable i l)
      ∙ ap (λ (m : Message). labelled m p v) (sym (channel_message c.messages c.count (kept i) (w.inside i l)))

  module _ (p v : ℕ) (pe : p < s.processes) (ve : v < s.variables) where
    own : IsLast em.channel (em.pointer p) p v (last_write em p v)
    own = last_is em.channel (em.pointer p) p v (omega (arith, w.upto p pe, channel_length e.messages e.count))

    theirs : IsLast cm.channel (cm.pointer p) p v (last_write cm p v)
    theirs = last_is cm.channel (cm.pointer p) p v
        (omega (arith, w.pointer p pe, w.inside (get_or e.pointers p 0 - 1) (omega (arith, w.from p pe, w.upto p pe)), channel_length c.messages c.count))

    pub some_last : 1 ≤ last_write em p v
    some_last = omega (arith, own.low, w.from p pe)

    pub last_most : last_write em p v ≤ e.count
    last_most = omega (arith, own.high, channel_length e.messages e.count)

    pub lasts : last_write cm p v ≡ K (last_write em p v)
    lasts = last_eq {ms = cm.channel} {z = cm.pointer p} {p = p} {v = v} {i = K (last_write em p v)} (record {
      low = omega (arith, w.pointer p pe, mono (get_or e.pointers p 0 - 1) (last_write em p v - 1) (omega (arith, own.low)) (omega (arith, some_last, last_most)));
      high = omega (arith, w.inside (last_write em p v - 1) (omega (arith, some_last, last_most)), channel_length c.messages c.count);
      hit = ⊎_elim (λ d. inl (ap K d ∙ sym (w.pointer p pe))) (λ t. inr (subst T (labels (last_write em p v - 1) (omega (arith, some_last, last_most)) p v) (subst (λ (k : ℕ). T (labelled (message em.channel k) p v)) again t))) own.hit;
      free = after;
    })
      where
        again : last_write em p v ≡ suc (last_write em p v - 1)
        again = omega (arith, some_last)

        after : (j : ℕ) → K (last_write em p v) < j → j ≤ length cm.channel → T (labelled (message cm.channel j) p v) → ⊥
        after j x y t = elim (dec_lt (last_write cm p v) j) [
          | yes d ↦ theirs.free j d y t
          | no d ↦
              let one : 1 ≤ last_write cm p v = omega arith in
              let z : suc (last_write cm p v - 1) ≡ last_write cm p v = omega arith in
              let r = w.all (last_write cm p v - 1) (omega (arith, theirs.high, channel_length c.messages c.count))
              (subst (λ (k : ℕ). 0 < mask_in s c k) (sym z) (role_mask S narrow cm (last_write cm p v) one (role_last S cm (last_write cm p v) p v pe ve refl))) in
              let u : suc (kept r.0) ≡ last_write cm p v = omega (arith, r.2) in
              ⊎_elim
              (λ q. omega (arith, w.pointer p pe, mono (get_or e.pointers p 0 - 1) (last_write em p v - 1) (omega (arith, own.low)) (omega (arith, some_last, last_most))))
              (λ q. own.free (suc r.0) (newer r.0 r.1 u x d) (omega (arith, r.1, channel_length e.messages e.count))
              (subst T (sym (labels r.0 r.1 p v)) (subst (λ (k : ℕ). T (labelled (message cm.channel k) p v)) (sym u) q)))
              theirs.hit
        ]
          where
            newer : (i : ℕ) → i < e.count → suc (kept i) ≡ last_write cm p v → K (last_write em p v) < j → (last_write cm p v < j → ⊥) → last_write em p v < suc i
            newer i l u x d = elim (dec_lt (last_write em p v) (suc i)) [
              | yes f ↦ f
              | no f ↦ absurd (omega (arith, mono i (last_write em p v - 1) (omega arith) (omega (arith, some_last, last_most))))
            ]

  -- ---- so roles are equal, and those of other messages differ

  stands : (x y i : ℕ) → i < e.count → 1 ≤ x → x ≤ e.count → y ≡ K x → eqb x (suc i) ≡ eqb y (suc (kept i))
  stands x y i l g h d = elim (ℕ_discrete x (suc i)) [
    | yes f ↦
        let z : x - 1 ≡ i = omega arith in
        eq-eqb x (suc i) f ∙ sym (eq-eqb y (suc (kept i)) (d ∙ ap (λ (k : ℕ). suc (kept k)) z))
    | no f ↦ ne_eqb x (suc i) f ∙ sym (ne_eqb y (suc (kept i)) (λ q. f (omega (arith, once (x - 1) i (omega arith) l (omega arith)))))
  ]

  alike : (i : ℕ) → i < e.count → Alike S em (suc i) cm (suc (kept i))
  alike i l =
      record {
        pointers = λ p pe. stands (em.pointer p) (cm.pointer p) i l (w.from p pe) (w.upto p pe) (w.pointer p pe);
        last_writes = λ p v pe ve. stands (last_write em p v) (last_write cm p v) i l (some_last p v pe ve) (last_most p v pe ve) (lasts p v pe ve);
      }

  masks : (i : ℕ) → i < e.count → mask_in s e (suc i) ≡ mask_in s c (suc (kept i))
  masks i l = alike_mask S em (suc i) cm (suc (kept i)) narrow (omega arith) (omega arith) (alike i l)

  module _ (exact : Bool) where
    -- the values of message i
    abbrev pub values_match : ℕ → Bool
    values_match i = pairwise (relation exact) (get_or e.messages i no_message).snapshot (get_or c.messages (kept i) no_message).snapshot

    near : (i : ℕ) → i < e.count → tag_matches (relation exact) (tag s e (suc i)) (tag s c (suc (kept i))) ≡ values_match i
    near i l =
        let y : suc i - 1 ≡ i = omega arith in
        let z : suc (kept i) - 1 ≡ kept i = omega arith in
        ap (λ (k : Bool). k && message_matches (relation exact) (get_or e.messages (suc i - 1) no_message) (get_or c.messages (suc (kept i) - 1) no_message))
        (roles_test S narrow em (suc i) cm (suc (kept i)) (omega arith) (omega arith) ∙ eq-eqb (mask_in s e (suc i)) (mask_in s c (suc (kept i))) (masks i l))
        ∙ ap₂ (λ (u v : ℕ). message_matches (relation exact) (get_or e.messages u no_message) (get_or c.messages v no_message)) y z
        ∙ ap₂ (λ (u v : Bool). (u && v) && values_match i)
        (eq-eqb (get_or e.messages i no_message).process (get_or c.messages (kept i) no_message).process (w.process i l))
        (eq-eqb (get_or e.messages i no_message).variable (get_or c.messages (kept i) no_message).variable (w.variable i l))

    -- ---- in their order

    -- the first i messages, in the first j of the cube, among which are those that they stand for
    placed : (j i : ℕ) → i ≤ e.count → j ≤ c.count → ((k : ℕ) → k < i → kept k < j) → ((k : ℕ) → k < i → values_match k ≡ true) → Subsequence (tag_matches (relation exact)) (up_to s e i) (up_to s c j)
    placed j zero l g h v = none_sub s few exact e c w.lowest (up_to s c j)
    placed zero (suc i) l g h v = absurd (omega (arith, h i (omega arith)))
    placed (suc j) (suc i) l g h v = elim (ℕ_discrete (kept i) j) [
      | yes d ↦
          subst₂ (Subsequence (tag_matches (relation exact))) (sym (own_some s few exact e c w.lowest i (omega arith))) (sym (their_some s few exact e c w.lowest j (omega arith) (omega (arith, w.first i (omega arith)))))
          (keep (subst (λ (k : ℕ). T (tag_matches (relation exact) (tag s e (suc i)) (tag s c (suc k)))) d (subst T (sym (near i (omega arith) ∙ v i (omega arith))) tt))
          (placed j i (omega arith) (omega arith) (λ k q. omega (arith, w.rises k i q (omega arith))) (λ k q. v k (omega arith))))
      | no d ↦
          subst (Subsequence (tag_matches (relation exact)) (up_to s e (suc i))) (sym (their_some s few exact e c w.lowest j (omega arith) (omega (arith, w.first i (omega arith), h i (omega arith)))))
          (skip (placed j (suc i) l (omega arith) (λ k f. omega (arith, h i (omega arith), mono k i (omega arith) (omega arith))) v))
    ]

    pub traced_matches : ((i : ℕ) → i < e.count → values_match i ≡ true) → channel_matches s exact e c ≡ true
    unfolding channel_matches
    traced_matches v =
        T_true (subsequence (tag_matches (relation exact)) (up_to s e e.count) (up_to s c c.count))
        ((leftmost (tag_matches (relation exact)) (up_to s e e.count) (up_to s c c.count)).1 (placed c.count e.count (omega arith) (omega arith) (λ k l. w.inside k l) v))
