-- A read from a message, and the paths before it (docs/THEORY.md, section 10).
use Prim.Native.Nat.{ℕ, ◌<◌, ◌≤◌}
use mathlib.Core.Path.{◌≡◌, refl, sym, ap, subst, ◌∙◌}
use mathlib.Core.Logic.{⊎_elim, ◌≢◌}
use mathlib.Core.Bool.{Bool, true, false, cond}
use mathlib.Core.Option.{Option, none, some}
use mathlib.Core.List.Memᴰ
use mathlib.Core.List.{List, [], ◌∷◌, Memᴰ}
use native.Mathlib.Omega.{arith}
use native.Mathlib.Decide.{dec_le, ℕ_discrete}
use lib.ListN.{length}
use lib.Dec.{T, eqb, eqb→eq}
use borrow.Author.Tests.{eq-eqb, ne_eqb}
use mir.Facts.{and_yes}
use Rattle.machine_pws.specs.declared.Message.{Message}
use Rattle.machine_pws.specs.Machine.{Memory, message, labelled, last_write}
use Rattle.machine_pws.proofs.Facts.{T_eq, IsLast, last_is}
use Rattle.pattern_theory.specs.Patterns.{PathRead}
use Rattle.pattern_theory.specs.Fitting.{held, ReadAt, PathFrom}
use Rattle.pattern_theory.specs.Predecessors.{first_own, put_behind, before_read}

pub record PathBefore (m : Memory) (p k : ℕ) (paths : List (List PathRead)) : Type 0 where
  pub path : List PathRead
  pub among : Memᴰ path paths
  pub stands : PathFrom m p k path

-- no own read of it is of x
abbrev NoOwn : ℕ → List PathRead → Type 0
NoOwn x [] = Unit {0}
NoOwn x (r ∷ rs) = (T r.own → r.variable ≢ x) × NoOwn x rs

none_own : (x : ℕ) (rs : List PathRead) → first_own x rs ≡ none → NoOwn x rs
none_own x [] e = tt
none_own x (r ∷ rs) e = go (none_own x rs) r.own (eqb r.variable x) refl refl e
  where
    go : (first_own x rs ≡ none → NoOwn x rs) → (o s : Bool) → r.own ≡ o → eqb r.variable x ≡ s
        → cond o (cond s (some r.value) (first_own x rs)) (first_own x rs) ≡ none → NoOwn x (r ∷ rs)
    go ih false s d g e = (λ t. absurd (subst T d t), ih e)
    go ih true false d g e = (λ t h. absurd (subst T g (T_eq r.variable x h)), ih e)
    go ih true true d g e = let z : ◌≡◌ {A = ℕ} 0 1 = cc in absurd (omega arith)

-- a message has one label
one_label : (μ : Message) (p v w : ℕ) → T (labelled μ p v) → T (labelled μ p w) → v ≡ w
one_label μ p v w a b =
    sym (eqb→eq μ.variable v (and_yes (eqb μ.process p) (eqb μ.variable v) a).1)
    ∙ eqb→eq μ.variable w (and_yes (eqb μ.process p) (eqb μ.variable w) b).1

module _ (m : Memory) (p x v : ℕ) (b : m.pointer p ≤ length m.channel) (seen : held m (last_write m p x) x ≡ v) where
  last : IsLast m.channel (m.pointer p) p x (last_write m p x)
  last = last_is m.channel (m.pointer p) p x b

  -- the message of an own read of x is LastWrite
  own_last : (k : ℕ) (r : PathRead) (i : ℕ) → T r.own → r.variable ≡ x → ReadAt m p k r i → i ≡ last_write m p x
  own_last k r i t e a = elim (dec_le i (last_write m p x)) [
    | yes l ↦ omega (arith, subst (λ (y : ℕ). last_write m p y ≤ i) e a.last)
    | no l ↦ absurd (last.free i (omega arith) a.upto (subst (λ (y : ℕ). T (labelled (message m.channel i) p y)) e (a.label t)))
  ]

  -- so the first own read of x has the value that is read now
  own_value : (k : ℕ) (rs : List PathRead) → PathFrom m p k rs → (u : ℕ) → first_own x rs ≡ some u → u ≡ v
  own_value k [] f u e = let z : ◌≡◌ {A = ℕ} 0 1 = cc in absurd (omega arith)
  own_value k (r ∷ rs) f u e = go (own_value f.0 rs f.2 u) r.own (eqb r.variable x) refl refl e
    where
      go : (first_own x rs ≡ some u → u ≡ v) → (o s : Bool) → r.own ≡ o → eqb r.variable x ≡ s
          → cond o (cond s (some r.value) (first_own x rs)) (first_own x rs) ≡ some u → u ≡ v
      go ih false s d g e = ih e
      go ih true false d g e = ih e
      go ih true true d g e =
          let same : r.variable ≡ x = eqb→eq r.variable x (subst T (sym g) tt) in
          let at_last = own_last k r f.0 (subst T (sym d) tt) same f.1 in
          let w : u ≡ r.value = cc in
          w ∙ sym f.1.value ∙ ap (λ (i : ℕ). held m i r.variable) at_last ∙ ap (held m (last_write m p x)) same ∙ seen

  abbrev read : Bool → PathRead
  read o = record { variable = x; value = v; own = o }

  -- a read that stands no earlier than LastWrite stands behind the new one
  behind_last : (k : ℕ) (r : PathRead) (i : ℕ) → m.pointer p ≤ k → last_write m p x ≤ i → (T r.own → r.variable ≢ x) → ReadAt m p k r i → ReadAt m p (last_write m p x) r i
  behind_last k r i z l n a =
      record {
        from = l;
        upto = a.upto;
        last = a.last;
        value = a.value;
        later = λ t. elim (ℕ_discrete i (last_write m p x)) [
          | yes e ↦ absurd (⊎_elim
              (λ d. omega (arith, a.later t))
              (λ d. n t (one_label (message m.channel (last_write m p x)) p r.variable x
              (subst (λ (j : ℕ). T (labelled (message m.channel j) p r.variable)) e (a.label t)) d))
              last.hit)
          | no e ↦ omega arith
        ];
        label = a.label;
      }

  -- a read before LastWrite is not of x
  put_among : (r : PathRead) (rs : List PathRead) (i k : ℕ) → ReadAt m p k r i → i < last_write m p x → {path : List PathRead}
      → Memᴰ path ((read true ∷ rs) ∷ put_behind x v rs) → Memᴰ (r ∷ path) (put_behind x v (r ∷ rs))
  put_among r rs i k a l w =
      let n : r.variable ≢ x = λ e. omega (arith, subst (λ (y : ℕ). last_write m p y ≤ i) e a.last) in
      rw (ne_eqb r.variable x n, put_behind) (Memᴰ.map (λ (path : List PathRead). r ∷ path) w)

  -- LastWrite past the pointer is a message of p's own
  at_last : (k : ℕ) → m.pointer p ≤ k → k < last_write m p x → ReadAt m p k (read true) (last_write m p x)
  at_last k z l =
      record {
        from = omega arith;
        upto = last.high;
        last = omega arith;
        value = seen;
        later = λ t. l;
        label = λ t. ⊎_elim (λ e. absurd (omega arith)) (λ d. d) last.hit;
      }

  -- an own read of x put in behind a message before LastWrite
  put_own : (rs : List PathRead) (k : ℕ) → m.pointer p ≤ k → k < last_write m p x → NoOwn x rs → PathFrom m p k rs
      → PathBefore m p k ((read true ∷ rs) ∷ put_behind x v rs)
  put_own [] k z l n f = record { path = read true ∷ []; among = Memᴰ.head refl; stands = (last_write m p x, at_last k z l, tt) }
  put_own (r ∷ rs) k z l n f = elim (dec_le (last_write m p x) f.0) [
    | yes h ↦
        record {
          path = read true ∷ r ∷ rs;
          among = Memᴰ.head refl;
          stands = (last_write m p x, at_last k z l, (f.0, behind_last k r f.0 z h n.0 f.1, f.2));
        }
    | no h ↦
        let w = put_own rs f.0 (omega (arith, f.1.from)) (omega arith) n.1 f.2 in
        record {
          path = r ∷ w.path;
          among = Memᴰ.tail (put_among r rs f.0 k f.1 (omega arith) w.among);
          stands = (f.0, f.1, w.stands);
        }
  ]

  -- the paths before the read have the one that the memory shows
  pub before_read_lem : (rs : List PathRead) → PathFrom m p (m.pointer p) rs → PathBefore m p (m.pointer p) (before_read x v rs)
  before_read_lem rs f = go (first_own x rs) refl
    where
      go : (o : Option ℕ) → first_own x rs ≡ o
          → PathBefore m p (m.pointer p) (elim o [ some u ↦ cond (eqb u v) (rs ∷ []) [] | none ↦ (read false ∷ rs) ∷ put_behind x v rs ])
      go (some u) e =
          record {
            path = rs;
            among = rw (eq-eqb u v (own_value (m.pointer p) rs f u e)) (Memᴰ.head refl);
            stands = f;
          }
      go none e = first rs (none_own x rs e) f
        where
          here : ReadAt m p (m.pointer p) (read false) (last_write m p x)
          here = record { from = last.low; upto = last.high; last = omega arith; value = seen; later = λ t. absurd t; label = λ t. absurd t }

          first : (rs : List PathRead) → NoOwn x rs → PathFrom m p (m.pointer p) rs → PathBefore m p (m.pointer p) ((read false ∷ rs) ∷ put_behind x v rs)
          first [] n f = record { path = read false ∷ []; among = Memᴰ.head refl; stands = (last_write m p x, here, tt) }
          first (r ∷ rs) n f = elim (dec_le (last_write m p x) f.0) [
            | yes h ↦
                record {
                  path = read false ∷ r ∷ rs;
                  among = Memᴰ.head refl;
                  stands = (last_write m p x, here, (f.0, behind_last (m.pointer p) r f.0 (omega arith) h n.0 f.1, f.2));
                }
            | no h ↦
                let w = put_own rs f.0 (omega (arith, f.1.from)) (omega arith) n.1 f.2 in
                record {
                  path = r ∷ w.path;
                  among = Memᴰ.tail (put_among r rs f.0 (m.pointer p) f.1 (omega arith) w.among);
                  stands = (f.0, f.1, w.stands);
                }
          ]
