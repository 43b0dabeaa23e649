-- Paths and a new message: which reads stand at it, and how those that do not, or need not, stood before (docs/THEORY.md, section 10).
use Prim.Native.Nat.{ℕ, suc, ◌<◌, ◌≤◌}
use mathlib.Core.Path.{◌≡◌, refl, sym, subst, ◌∙◌}
use mathlib.Core.Logic.{⊎_elim, ◌≢◌}
use mathlib.Core.Bool.{Bool, true, false, cond}
use mathlib.Core.Option.{none}
use mathlib.Core.List.Memᴰ
use mathlib.Core.List.{List, [], ◌∷◌, Memᴰ}
use native.Mathlib.Omega.{arith}
use native.Mathlib.Decide.{dec_le, ℕ_discrete}
use lib.ListN.{length}
use lib.Seq.{get_or-set_same, get_or-set_other}
use lib.Dec.{T, eqb, eqb→eq}
use borrow.Author.Tests.{eq-eqb, ne_eqb}
use mir.Facts.{and_yes}
use Rattle.machine_pws.specs.declared.Message.{Message}
use Rattle.machine_pws.specs.Machine.{Memory, message, newest, copy_with, append, labelled, last_labelled, last_write}
use Rattle.machine_pws.proofs.Facts.{T_or_not, message_old, message_new, last_is}
use Rattle.pattern_theory.specs.Patterns.{PathRead}
use Rattle.pattern_theory.specs.Fitting.{held, ReadAt, PathFrom}
use Rattle.pattern_theory.specs.Predecessors.{Cut, behind, cuts, own_cut}
use Rattle.pattern_theory.proofs.Paths.{path_lower, last_upto}
use Rattle.pattern_theory.proofs.Joining.{AllAt}

last_high : (ms : List Message) (p v : ℕ) → last_labelled ms p v ≤ length ms
last_high ms p v = omega (arith, (last_is ms 0 p v (omega arith)).high)

last_grows : (μ : Message) (ms : List Message) (p v : ℕ) → last_labelled ms p v ≤ last_labelled (μ ∷ ms) p v
last_grows μ ms p v = go (labelled μ p v)
  where
    go : (b : Bool) → last_labelled ms p v ≤ cond b (suc (length ms)) (last_labelled ms p v)
    go true = omega (arith, last_high ms p v)
    go false = omega arith

-- a path that stands from the newest message on stands there
pub all_newest : (m : Memory) (q : ℕ) (rs : List PathRead) → PathFrom m q (length m.channel) rs → AllAt (held m (length m.channel)) rs
all_newest m q [] f = tt
all_newest m q (r ∷ rs) f =
    let e : f.0 ≡ length m.channel = omega (arith, f.1.from, f.1.upto) in (
      ⊎_elim (λ t. absurd (omega (arith, f.1.later t))) (λ t. t) (T_or_not r.own),
      subst (λ (i : ℕ). held m i r.variable ≡ r.value) e f.1.value,
      all_newest m q rs (subst (λ (i : ℕ). PathFrom m q i rs) e f.2),
    )

-- ---- a message is appended

module _ (m : Memory) (p x u : ℕ) where
  -- what the new message has
  abbrev new : ℕ → ℕ
  new = held (append m p x u) (suc (length m.channel))

  pub new_same : x < length (newest m.channel).snapshot → new x ≡ u
  new_same l = rw (message_new (copy_with m.channel p x u) m.channel) (get_or-set_same (newest m.channel).snapshot x u 0 l)

  pub new_other : (v : ℕ) → v ≢ x → new v ≡ held m (length m.channel) v
  new_other v n = rw (message_new (copy_with m.channel p x u) m.channel) (get_or-set_other (newest m.channel).snapshot x v u 0 n)

  new_label : (q v : ℕ) → T (labelled (message (append m p x u).channel (suc (length m.channel))) q v) → (p ≡ q) × (x ≡ v)
  new_label q v t =
      let r = and_yes (eqb p q) (eqb x v) (rw (message_new (copy_with m.channel p x u) m.channel) at t) in
      (eqb→eq p q r.0, eqb→eq x v r.1)

  -- a read that stands before the new message stood there
  old_read : (q k : ℕ) (r : PathRead) (i : ℕ) → i ≤ length m.channel → ReadAt (append m p x u) q k r i → ReadAt m q k r i
  old_read q k r i l a =
      let same = message_old (copy_with m.channel p x u) m.channel i l in
      record {
        from = a.from;
        upto = l;
        last = omega (arith, a.last, last_grows (copy_with m.channel p x u) m.channel q r.variable);
        value = rw same at a.value;
        later = a.later;
        label = λ t. rw same at (a.label t);
      }

  -- one that stands at the new message, of another variable, could as well stand at the newest before
  other_read : (q k : ℕ) (r : PathRead) → m.pointer q ≤ length m.channel → r.variable ≢ x → k ≤ length m.channel
      → ReadAt (append m p x u) q k r (suc (length m.channel)) → ReadAt m q k r (length m.channel)
  other_read q k r b n l a =
      let none : T r.own → ⊥ = λ t. n (sym (new_label q r.variable (a.label t)).1) in
      record {
        from = l;
        upto = omega arith;
        last = last_upto m q b r.variable;
        value = sym (new_other r.variable n) ∙ a.value;
        later = λ t. absurd (none t);
        label = λ t. absurd (none t);
      }

  -- what follows a read at the new message is read there too
  all_new : (q : ℕ) (rs : List PathRead) → PathFrom (append m p x u) q (suc (length m.channel)) rs → AllAt new rs
  all_new q rs f = all_newest (append m p x u) q rs f

  pub record CutFits (q k : ℕ) (c : Cut) : Type 0 where
    pub front : PathFrom m q k c.front
    pub end : AllAt new c.end

  module _ (q : ℕ) (b : m.pointer q ≤ length m.channel) where
    -- the path of another process
    pub cut_other : q ≢ p → (rs : List PathRead) (k : ℕ) → k ≤ length m.channel → PathFrom (append m p x u) q k rs
        → (c : Cut) × Memᴰ c (cuts x rs) × CutFits q k c
    cut_other n [] k l f = (record { front = []; end = [] }, Memᴰ.head refl, record { front = tt; end = tt })
    cut_other n (r ∷ rs) k l f = elim (dec_le f.0 (length m.channel)) [
      | yes h ↦ later f.0 (old_read q k r f.0 h f.1) (cut_other n rs f.0 h f.2)
      | no h ↦
          let e : f.0 ≡ suc (length m.channel) = omega (arith, f.1.upto) in
          let a = subst (ReadAt (append m p x u) q k r) e f.1 in
          let g = subst (λ (i : ℕ). PathFrom (append m p x u) q i rs) e f.2 in
          elim (ℕ_discrete r.variable x) [
            | yes d ↦ (
              record { front = []; end = r ∷ rs },
              rw (eq-eqb r.variable x d) (Memᴰ.head refl),
              record {
                front = tt;
                end = (⊎_elim (λ t. absurd (n (sym (new_label q r.variable (a.label t)).0))) (λ t. t) (T_or_not r.own), a.value, all_new q rs g);
              },
            )
            | no d ↦ later (length m.channel) (other_read q k r b d l a)
                (cut_other n rs (length m.channel) (omega arith) (path_lower (append m p x u) q rs (length m.channel) (suc (length m.channel)) (omega arith) g))
          ]
    ]
      where
        later : (i : ℕ) → ReadAt m q k r i → (c : Cut) × Memᴰ c (cuts x rs) × CutFits q i c → (c : Cut) × Memᴰ c (cuts x (r ∷ rs)) × CutFits q k c
        later i a t = (
          behind r t.0,
          Memᴰ.append_right (cond (eqb r.variable x) (record { front = []; end = r ∷ rs } ∷ []) []) (Memᴰ.map (behind r) t.1),
          record { front = (i, a, t.2.front); end = t.2.end },
        )

  last_new : m.pointer p ≤ length m.channel → last_write (append m p x u) p x ≡ suc (length m.channel)
  last_new b = rw (eq-eqb p p refl, eq-eqb x x refl) (omega arith)

  -- the path of the process that stores
  pub cut_own : m.pointer p ≤ length m.channel → (rs : List PathRead) (k : ℕ) → k ≤ length m.channel → PathFrom (append m p x u) p k rs → CutFits p k (own_cut x rs)
  cut_own b [] k l f = record { front = tt; end = tt }
  cut_own b (r ∷ rs) k l f = elim (ℕ_discrete r.variable x) [
    | yes d ↦
        let low : suc (length m.channel) ≤ f.0 = omega (arith, subst (λ (v : ℕ). last_write (append m p x u) p v ≤ f.0) d f.1.last, last_new b) in
        let e : f.0 ≡ suc (length m.channel) = omega (arith, f.1.upto) in
        rw (eq-eqb r.variable x d, own_cut)
        (record {
          front = tt;
          end = (
            tt,
            subst (λ (i : ℕ). held (append m p x u) i r.variable ≡ r.value) e f.1.value,
            all_new p rs (subst (λ (i : ℕ). PathFrom (append m p x u) p i rs) e f.2),
          );
        })
    | no d ↦ rw (ne_eqb r.variable x d, own_cut) (elim (dec_le f.0 (length m.channel)) [
      | yes h ↦
          let t = cut_own b rs f.0 h f.2 in
          record { front = (f.0, old_read p k r f.0 h f.1, t.front); end = t.end }
      | no h ↦
          let e : f.0 ≡ suc (length m.channel) = omega (arith, f.1.upto) in
          let g = subst (λ (i : ℕ). PathFrom (append m p x u) p i rs) e f.2 in
          let t = cut_own b rs (length m.channel) (omega arith) (path_lower (append m p x u) p rs (length m.channel) (suc (length m.channel)) (omega arith) g) in
          record { front = (length m.channel, other_read p k r b d l (subst (ReadAt (append m p x u) p k r) e f.1), t.front); end = t.end }
    ])
  ]
