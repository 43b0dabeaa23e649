-- The edges' lines in a text: what is read, where it stops, and that no byte past that place matters.
use Prim.Native.Nat.{ℕ, zero, suc, ◌+◌, ◌≤◌}
use mathlib.Core.Path.{◌≡◌, refl, sym, ap, subst, ◌∙◌}
use mathlib.Core.Bool.{Bool, true, false}
use mathlib.Core.List.{List, [], ◌∷◌, ◌++◌, append_assoc}
use native.Mathlib.Omega.{arith}
use lib.ListN.{length, drop, drop_of_length-le, length-append, replicate, length-replicate}
use lib.Dec.{ltb}
use borrow.Author.Tests.{ltb-false, le-ltb}
use Rattle.machine_pws.specs.declared.Step.{Step}
use Rattle.machine_pws.specs.declared.Step.TheVariants.{Take}
use Rattle.base.specs.Bytes.{choose}
use Rattle.std.specs.Prelude.{Result}
use Rattle.std.specs.Prelude.{Ok, Err}
use Rattle.file_records.specs.ProgramPart.{and_then}
use Rattle.drawing.specs.declared.word.Outside.{Outside}
use Rattle.drawing.specs.declared.label.Edge.{Edge}
use Rattle.drawing.specs.Text.{line, letters, edge_line, edge_lines}
use Rattle.drawing.specs.Runs.{StepInRange, AllInRange}
use Rattle.drawing.specs.Parts.{edge_head, edge_tail}
use Rattle.drawing.specs.Accepted.{Reading, run, place}
use Rattle.drawing.specs.Reading.{has_byte, expect_at, label_at, edge_end, edge_at, ending, step_then, edges_at, stuck, edge_of}
use Rattle.drawing.proofs.LineLaws.{edge_parts, edge_length}
use Rattle.drawing.proofs.WordLaws.{Common, Stands, Agree, word_next, word_was, word_stuck, word_on, stands_then, stands_as, stands_from, common_none, common_more, common_as, stands_common, same_on, same_stuck, same_end}
use Rattle.drawing.proofs.LabelLaws.{LabelCase, label_is, label_case, label_was, label_stuck, label_on, label_same, label_same_stuck}

pub run_place : {ss : List Step} {p : ℕ} → ◌≡◌ {A = Reading} (run ss) (place p) → ⊥
run_place e = let z : ◌≡◌ {A = ℕ} 0 1 = cc in omega arith

pub run_same : {ss rs : List Step} → ◌≡◌ {A = Reading} (run ss) (run rs) → ss ≡ rs
run_same e = cc

pub place_same : {p q : ℕ} → ◌≡◌ {A = Reading} (place p) (place q) → p ≡ q
place_same e = cc

-- ---- one edge

module _ (t : List ℕ) (at k : ℕ) where
  pub data EdgeCase : Result Edge Outside → Type 0 where
    no_head : {p : ℕ} → expect_at t at (edge_head k) ≡ stuck p → EdgeCase (stuck p)
    no_label : {a p : ℕ} → expect_at t at (edge_head k) ≡ Ok a → LabelCase t a (stuck p) → EdgeCase (stuck p)
    no_tail : {a b p : ℕ} {s : Step} → expect_at t at (edge_head k) ≡ Ok a → LabelCase t a (edge_of s b) → expect_at t b edge_tail ≡ stuck p
        → EdgeCase (stuck p)
    whole : {a b d : ℕ} {s : Step} → expect_at t at (edge_head k) ≡ Ok a → LabelCase t a (edge_of s b) → expect_at t b edge_tail ≡ Ok d → EdgeCase (edge_of s d)

  pub edge_is : {r : Result Edge Outside} → EdgeCase r → edge_at t at k ≡ r
  unfolding edge_at edge_end
  edge_is (no_head e) = rw e
  edge_is (no_label {a = a} e c) = rw (e, label_is t a c)
  edge_is (no_tail {a = a} e c d) = rw (e, label_is t a c, d)
  edge_is (whole {a = a} e c d) = rw (e, label_is t a c, d)

  end_case : {a b : ℕ} {s : Step} → expect_at t at (edge_head k) ≡ Ok a → LabelCase t a (edge_of s b) → EdgeCase (edge_end t b s)
  unfolding edge_end
  end_case {a} {b} {s} e c = go (expect_at t b edge_tail) refl
    where
      go : (x : Result ℕ Outside) → expect_at t b edge_tail ≡ x → EdgeCase (and_then x (λ d. edge_of s d))
      go (Ok d) h = whole e c h
      go (Err o) h = no_tail e c h

  pub edge_case : EdgeCase (edge_at t at k)
  unfolding edge_at
  edge_case = go (expect_at t at (edge_head k)) refl
    where
      label : {a : ℕ} → expect_at t at (edge_head k) ≡ Ok a → (r : Result Edge Outside) → LabelCase t a r → EdgeCase (and_then r (λ x. edge_end t x.next x.step))
      label e (Ok x) c = end_case e c
      label e (Err o) c = no_label e c

      go : (x : Result ℕ Outside) → expect_at t at (edge_head k) ≡ x → EdgeCase (and_then x (λ a. and_then (label_at t a) (λ x. edge_end t x.next x.step)))
      go (Ok a) e = label e (label_at t a) (label_case t a)
      go (Err o) e = no_head e

  pub edge_was : {s : Step} {d : ℕ} → EdgeCase (edge_of s d) → StepInRange s × Stands t at d (edge_line k s)
  edge_was (whole {a = a} {b = b} {d = d} {s = s} e c f) =
      let w = label_was t a c in (
        w.0,
        stands_as t (stands_then t (word_was t at (edge_head k) a e) (stands_then t w.1 (word_was t b edge_tail d f))) (sym (edge_parts k s)),
      )

  -- what stopped is how some edge's line begins
  pub record EdgeViable (p : ℕ) : Type 0 where
    pub step : Step
    pub range : StepInRange step
    pub common : Common t at p (edge_line k step)

  pub edge_stuck : {p : ℕ} → EdgeCase (stuck p) → EdgeViable p
  edge_stuck (no_head {p = p} e) =
      record {
        step = Take 0;
        range = omega arith;
        common = common_as t (common_more t (word_stuck t at (edge_head k) p e) (letters (Take 0) ++ edge_tail)) (sym (edge_parts k (Take 0)));
      }
  edge_stuck (no_label {a = a} {p = p} e c) =
      let v = label_stuck t a c in
      record {
        step = v.step;
        range = v.range;
        common =
            common_as t (stands_common t (word_was t at (edge_head k) a e) (common_more t v.common edge_tail)) (sym (edge_parts k v.step));
      }
  edge_stuck (no_tail {a = a} {b = b} {p = p} {s = s} e c f) =
      let w = label_was t a c in
      record {
        step = s;
        range = w.0;
        common =
            common_as t (stands_common t (word_was t at (edge_head k) a e) (stands_common t w.1 (word_stuck t b edge_tail p f)))
            (sym (edge_parts k s));
      }

  pub edge_on : (s : Step) (x : List ℕ) → StepInRange s → drop at t ≡ edge_line k s ++ x → edge_at t at k ≡ edge_of s (at + length (edge_line k s))
  edge_on s x l e =
      let tail : List ℕ = edge_tail ++ x in
      let q : drop at t ≡ edge_head k ++ (letters s ++ tail) =
      e
      ∙ ap (λ (w : List ℕ). w ++ x) (edge_parts k s)
      ∙ append_assoc (edge_head k) (letters s ++ edge_tail) x
      ∙ ap (λ (w : List ℕ). edge_head k ++ w) (append_assoc (letters s) edge_tail x)
      in
      let a : ℕ = at + length (edge_head k) in
      let q' = stands_from t at (edge_head k) (letters s ++ tail) q in
      let b : ℕ = a + length (letters s) in
      let q'' = stands_from t a (letters s) tail q' in
      let c : LabelCase t a (edge_of s b) = subst (LabelCase t a) (label_on t a s (59 ∷ 10 ∷ x) l q') (label_case t a) in
      let p : b + 3 ≡ at + length (edge_line k s) =
      omega
      (arith, ap length (edge_parts k s), length-append (edge_head k) (letters s ++ edge_tail), length-append (letters s) edge_tail)
      in
      edge_is (whole (word_on t at (edge_head k) (letters s ++ tail) q) c (word_on t b edge_tail x q'')) ∙ ap (edge_of s) p

  -- an edge that begins as it should stops no sooner than at its second byte
  pub edge_past : {p : ℕ} → has_byte t at 99 ≡ true → EdgeCase (stuck p) → at + 1 ≤ p
  unfolding edge_head
  edge_past h (no_head {p = p} e) =
      let c = word_stuck t (at + 1) _ p (sym (word_next t at 99 _ h) ∙ e) in omega (arith, c.place)
  edge_past h (no_label {a = a} {p = p} e c) =
      let s = word_was t at (edge_head k) a e in omega (arith, s.next, (label_stuck t a c).common.place)
  edge_past h (no_tail {a = a} {b = b} {p = p} e c f) =
      let s = word_was t at (edge_head k) a e in
      omega (arith, s.next, (label_was t a c).1.next, (word_stuck t b edge_tail p f).place)

-- ---- all of them, and the end

unfoldable pub closing : List ℕ
closing = line (125 ∷ [])

-- so many steps in range
pub fill : ℕ → List Step
fill n = replicate n (Take 0)

pub fill_length : (n : ℕ) → length (fill n) ≡ n
unfolding fill
fill_length n = length-replicate n (Take 0)

pub fill_range : (n : ℕ) → AllInRange (fill n)
unfolding fill
fill_range zero = tt
fill_range (suc n) = (omega arith, fill_range n)

module _ (t : List ℕ) where
  pub edges_edge : (m at k : ℕ) {s : Step} {a : ℕ} → edge_at t at k ≡ edge_of s a → edges_at (suc m) t at k ≡ step_then s (edges_at m t a (k + 1))
  unfolding edges_at
  edges_edge m at k e = rw e

  pub edges_none : (m at k : ℕ) {p : ℕ} → edge_at t at k ≡ stuck p → edges_at (suc m) t at k ≡ place p
  unfolding edges_at
  edges_none m at k e = rw e

  pub edges_end : (at k : ℕ) → edges_at 0 t at k ≡ ending t (expect_at t at closing)
  unfolding edges_at closing
  edges_end at k = refl

  -- what was read, and what some run's text begins with
  pub record EdgesWere (m at k : ℕ) (ss : List Step) : Type 0 where
    pub range : AllInRange ss
    pub count : length ss ≡ m
    pub here : drop at t ≡ edge_lines k ss ++ closing

  pub record EdgesViable (m at k p : ℕ) : Type 0 where
    pub steps : List Step
    pub range : AllInRange steps
    pub count : length steps ≡ m
    pub common : Common t at p (edge_lines k steps ++ closing)

  plain : (w : List ℕ) → w ++ [] ≡ w
  plain [] = refl
  plain (x ∷ w) = ap (λ (v : List ℕ). x ∷ v) (plain w)

  end_was : (at k : ℕ) (ss : List Step) → ending t (expect_at t at closing) ≡ run ss → EdgesWere 0 at k ss
  unfolding edge_lines
  end_was at k ss e = go (expect_at t at closing) refl e
    where
      over : (a : ℕ) → expect_at t at closing ≡ Ok a → (b : Bool) → ltb a (length t) ≡ b → choose b (λ _. place a) (λ _. run []) ≡ run ss
          → EdgesWere 0 at k ss
      over a h true d e = absurd (run_place (sym e))
      over a h false d e =
          let s = word_was t at closing a h in
          subst (EdgesWere 0 at k) (run_same e)
          (record {
            range = tt;
            count = refl;
            here = s.here ∙ ap (λ (w : List ℕ). closing ++ w) (drop_of_length-le t (ltb-false a (length t) d)) ∙ plain closing;
          })

      go : (x : Result ℕ Outside) → expect_at t at closing ≡ x → ending t x ≡ run ss → EdgesWere 0 at k ss
      go (Ok a) h e = over a h (ltb a (length t)) refl e
      go (Err o) h e = absurd (run_place (sym e))

  end_stuck : (at k p : ℕ) → ending t (expect_at t at closing) ≡ place p → EdgesViable 0 at k p
  unfolding edge_lines
  end_stuck at k p e = go (expect_at t at closing) refl e
    where
      over : (a : ℕ) → expect_at t at closing ≡ Ok a → (b : Bool) → ltb a (length t) ≡ b → choose b (λ _. place a) (λ _. run []) ≡ place p
          → EdgesViable 0 at k p
      over a h true d e =
          record {
            steps = [];
            range = tt;
            count = refl;
            common =
                subst (λ (q : ℕ). Common t at q closing) (place_same e)
                (common_as t (stands_common t (word_was t at closing a h) (common_none t a [])) (plain closing));
          }
      over a h false d e = absurd (run_place e)

      go : (x : Result ℕ Outside) → expect_at t at closing ≡ x → ending t x ≡ place p → EdgesViable 0 at k p
      go (Ok a) h e = over a h (ltb a (length t)) refl e
      go (Err o) h e =
          record {
            steps = [];
            range = tt;
            count = refl;
            common = subst (λ (r : ℕ). Common t at r closing) (place_same e) (word_stuck t at closing o.place h);
          }

  edges_join : {m at k a : ℕ} {s : Step} {ss : List Step} → StepInRange s → Stands t at a (edge_line k s) → EdgesWere m a (k + 1) ss
      → EdgesWere (suc m) at k (s ∷ ss)
  unfolding edge_lines
  edges_join {m} {at} {k} {a} {s} {ss} l w h =
      let n : k + 1 ≡ suc k = omega arith in
      record {
        range = (l, h.range);
        count = ap suc h.count;
        here =
            w.here
            ∙ ap (λ (x : List ℕ). edge_line k s ++ x) h.here
            ∙ sym (append_assoc (edge_line k s) (edge_lines (k + 1) ss) closing)
            ∙ ap (λ (j : ℕ). (edge_line k s ++ edge_lines j ss) ++ closing) n;
      }

  were_after : (m at k : ℕ) (ss : List Step) (s : Step) (a : ℕ) → EdgeCase t at k (edge_of s a) → (r : Reading)
      → ((rs : List Step) → r ≡ run rs → EdgesWere m a (k + 1) rs) → step_then s r ≡ run ss → EdgesWere (suc m) at k ss
  were_after m at k ss s a c (run rs) ih e =
      let w = edge_was t at k c in subst (EdgesWere (suc m) at k) (run_same e) (edges_join w.0 w.1 (ih rs refl))
  were_after m at k ss s a c (place p) ih e = absurd (run_place (sym e))

  were_next : (m at k : ℕ) (ss : List Step) (r : Result Edge Outside) → EdgeCase t at k r → edges_at (suc m) t at k ≡ run ss
      → ((a : ℕ) (rs : List Step) → edges_at m t a (k + 1) ≡ run rs → EdgesWere m a (k + 1) rs) → EdgesWere (suc m) at k ss
  were_next m at k ss (Ok x) c e ih =
      were_after m at k ss x.step x.next c (edges_at m t x.next (k + 1)) (ih x.next) (sym (edges_edge m at k (edge_is t at k c)) ∙ e)
  were_next m at k ss (Err o) c e ih = absurd (run_place (sym e ∙ edges_none m at k (edge_is t at k c)))

  pub edges_were : (m at k : ℕ) (ss : List Step) → edges_at m t at k ≡ run ss → EdgesWere m at k ss
  edges_were zero at k ss e = end_was at k ss (sym (edges_end at k) ∙ e)
  edges_were (suc m) at k ss e = were_next m at k ss (edge_at t at k) (edge_case t at k) e (λ a rs d. edges_were m a (k + 1) rs d)

  viable_join : {m at k a p : ℕ} (s : Step) → StepInRange s → Stands t at a (edge_line k s) → EdgesViable m a (k + 1) p → EdgesViable (suc m) at k p
  unfolding edge_lines
  viable_join {m} {at} {k} {a} {p} s l w h =
      let n : k + 1 ≡ suc k = omega arith in
      record {
        steps = s ∷ h.steps;
        range = (l, h.range);
        count = ap suc h.count;
        common =
            common_as t (stands_common t w h.common)
            (sym (append_assoc (edge_line k s) (edge_lines (k + 1) h.steps) closing)
            ∙ ap (λ (j : ℕ). (edge_line k s ++ edge_lines j h.steps) ++ closing) n);
      }

  viable_first : (m at k p : ℕ) → EdgeViable t at k p → EdgesViable (suc m) at k p
  unfolding edge_lines
  viable_first m at k p v =
      record {
        steps = v.step ∷ fill m;
        range = (v.range, fill_range m);
        count = ap suc (fill_length m);
        common =
            common_as t (common_more t v.common (edge_lines (suc k) (fill m) ++ closing))
            (sym (append_assoc (edge_line k v.step) (edge_lines (suc k) (fill m)) closing));
      }

  stuck_after : (m at k p : ℕ) (s : Step) (a : ℕ) → EdgeCase t at k (edge_of s a) → (r : Reading)
      → (r ≡ place p → EdgesViable m a (k + 1) p) → step_then s r ≡ place p → EdgesViable (suc m) at k p
  stuck_after m at k p s a c (run rs) ih e = absurd (run_place e)
  stuck_after m at k p s a c (place q) ih e = let w = edge_was t at k c in viable_join s w.0 w.1 (ih (ap place (place_same e)))

  stuck_next : (m at k p : ℕ) (r : Result Edge Outside) → EdgeCase t at k r → edges_at (suc m) t at k ≡ place p
      → ((a : ℕ) → edges_at m t a (k + 1) ≡ place p → EdgesViable m a (k + 1) p) → EdgesViable (suc m) at k p
  stuck_next m at k p (Ok x) c e ih =
      stuck_after m at k p x.step x.next c (edges_at m t x.next (k + 1)) (ih x.next) (sym (edges_edge m at k (edge_is t at k c)) ∙ e)
  stuck_next m at k p (Err o) c e ih =
      subst (EdgesViable (suc m) at k) (place_same (sym (edges_none m at k (edge_is t at k c)) ∙ e)) (viable_first m at k o.place (edge_stuck t at k c))

  pub edges_stuck : (m at k p : ℕ) → edges_at m t at k ≡ place p → EdgesViable m at k p
  edges_stuck zero at k p e = end_stuck at k p (sym (edges_end at k) ∙ e)
  edges_stuck (suc m) at k p e = stuck_next m at k p (edge_at t at k) (edge_case t at k) e (λ a d. edges_stuck m a (k + 1) p d)

  pub edges_on : (ss : List Step) (at k : ℕ) → AllInRange ss → drop at t ≡ edge_lines k ss ++ closing → edges_at (length ss) t at k ≡ run ss
  unfolding edge_lines
  edges_on [] at k l e =
      let a : ℕ = at + 2 in
      edges_end at k
      ∙ ap (ending t) (closes at e)
      ∙ ended a (ended_here at e)
    where
      closes : (at : ℕ) → drop at t ≡ closing → expect_at t at closing ≡ Ok (at + 2)
      closes at e = word_on t at closing [] (e ∙ sym (plain closing)) ∙ ap (λ (n : ℕ). Ok (at + n)) two
        where
          two : length closing ≡ 2
          two = unfold closing in refl

      ended_here : (at : ℕ) → drop at t ≡ closing → length t ≤ at + 2
      ended_here at e = unfold closing in omega (arith, lib.ListN.length-drop at t, ap length e)

      ended : (a : ℕ) → length t ≤ a → ending t (Ok a) ≡ run []
      ended a l = rw (le-ltb a (length t) l)
  edges_on (s ∷ ss) at k l e =
      let n : k + 1 ≡ suc k = omega arith in
      let q : drop at t ≡ edge_line k s ++ (edge_lines (suc k) ss ++ closing) = e ∙ append_assoc (edge_line k s) (edge_lines (suc k) ss) closing in
      let a : ℕ = at + length (edge_line k s) in
      let q' = stands_from t at (edge_line k s) (edge_lines (suc k) ss ++ closing) q in
      edges_edge (length ss) at k (edge_on t at k s (edge_lines (suc k) ss ++ closing) l.0 q)
      ∙ ap (λ (j : ℕ). step_then s (edges_at (length ss) t a j)) n
      ∙ ap (step_then s) (edges_on ss a (suc k) l.1 q')

  pub edges_past : (m at k p : ℕ) → has_byte t at 99 ≡ true → edges_at (suc m) t at k ≡ place p → at + 1 ≤ p
  edges_past m at k p h e = go (edge_at t at k) (edge_case t at k)
    where
      inner : (s : Step) (a : ℕ) (r : Reading) → edges_at m t a (k + 1) ≡ r → step_then s r ≡ place p → a ≤ p
      inner s a (run rs) d q = absurd (run_place q)
      inner s a (place q) d f = omega (arith, (edges_stuck m a (k + 1) q d).common.place, place_same f)

      go : (r : Result Edge Outside) → EdgeCase t at k r → at + 1 ≤ p
      go (Ok x) c =
          let w = (edge_was t at k c).1 in
          omega (arith, w.next, edge_length k x.step, inner x.step x.next (edges_at m t x.next (k + 1)) refl (sym (edges_edge m at k (edge_is t at k c)) ∙ e))
      go (Err o) c = omega (arith, edge_past t at k h c, place_same (sym (edges_none m at k (edge_is t at k c)) ∙ e))

-- ---- the same bytes, the same edges

module _ (t u : List ℕ) (p : ℕ) (same : Agree t u p) where
  pub on_same_word : (at a : ℕ) (w : List ℕ) → expect_at t at w ≡ Ok a → a ≤ p + 1 → expect_at u at w ≡ Ok a
  on_same_word at a w e l =
      let n = (word_was t at w a e).next in
      same_on t u p same at w (omega arith) (e ∙ ap Ok n) ∙ ap Ok (sym n)

  edge_same : (at k : ℕ) {s : Step} {d : ℕ} → EdgeCase t at k (edge_of s d) → d ≤ p + 1 → edge_at u at k ≡ edge_of s d
  edge_same at k (whole {a = a} {b = b} {d = d} {s = s} e c f) l =
      let w = (label_was t a c).1 in
      let v = word_was t b edge_tail d f in
      let g = label_same t u p same a c (omega (arith, v.next)) in
      edge_is u at k
      (whole (on_same_word at a (edge_head k) e (omega (arith, w.next, v.next))) (subst (LabelCase u a) g (label_case u a)) (on_same_word b d edge_tail f l))

  edge_same_stuck : (at k : ℕ) → EdgeCase t at k (stuck p) → edge_at u at k ≡ stuck p
  edge_same_stuck at k (no_head e) = edge_is u at k (no_head (same_stuck t u p same at (edge_head k) e))
  edge_same_stuck at k (no_label {a = a} e c) =
      let v = (label_stuck t a c).common in
      edge_is u at k
      (no_label (on_same_word at a (edge_head k) e (omega (arith, v.place)))
      (subst (LabelCase u a) (label_same_stuck t u p same a c (omega arith)) (label_case u a)))
  edge_same_stuck at k (no_tail {a = a} {b = b} e c f) =
      let w = (label_was t a c).1 in
      let v = word_stuck t b edge_tail p f in
      edge_is u at k
      (no_tail (on_same_word at a (edge_head k) e (omega (arith, w.next, v.place)))
      (subst (LabelCase u a) (label_same t u p same a c (omega (arith, v.place))) (label_case u a))
      (same_stuck t u p same b edge_tail f))

  end_same : (at k : ℕ) → ending t (expect_at t at closing) ≡ place p → ending u (expect_at u at closing) ≡ place p
  end_same at k e = go (expect_at t at closing) refl e
    where
      over : (a : ℕ) → expect_at t at closing ≡ Ok a → (b : Bool) → ltb a (length t) ≡ b → choose b (λ _. place a) (λ _. run []) ≡ place p
          → ending u (expect_at u at closing) ≡ place p
      over a h true d e =
          let q = place_same e in
          ap (ending u) (on_same_word at a closing h (omega arith))
          ∙ ap (λ (b : Bool). choose b (λ _. place a) (λ _. run [])) (sym (same_end t u p same a (omega arith)) ∙ d)
          ∙ e
      over a h false d e = absurd (run_place e)

      go : (x : Result ℕ Outside) → expect_at t at closing ≡ x → ending t x ≡ place p → ending u (expect_at u at closing) ≡ place p
      go (Ok a) h e = over a h (ltb a (length t)) refl e
      go (Err o) h e = ap (ending u) (same_stuck t u p same at closing (h ∙ ap stuck (place_same e)))

  same_after : (m at k : ℕ) (s : Step) (a : ℕ) → EdgeCase t at k (edge_of s a) → (r : Reading) → edges_at m t a (k + 1) ≡ r → step_then s r ≡ place p
      → (edges_at m t a (k + 1) ≡ place p → edges_at m u a (k + 1) ≡ place p) → edges_at (suc m) u at k ≡ place p
  same_after m at k s a c (run rs) d e ih = absurd (run_place e)
  same_after m at k s a c (place q) d e ih =
      let d' = d ∙ ap place (place_same e) in
      let v = (edges_stuck t m a (k + 1) p d').common in
      edges_edge u m at k (edge_same at k c (omega (arith, v.place))) ∙ ap (step_then s) (ih d')

  same_next : (m at k : ℕ) (r : Result Edge Outside) → EdgeCase t at k r → edges_at (suc m) t at k ≡ place p
      → ((a : ℕ) → edges_at m t a (k + 1) ≡ place p → edges_at m u a (k + 1) ≡ place p) → edges_at (suc m) u at k ≡ place p
  same_next m at k (Ok x) c e ih =
      same_after m at k x.step x.next c (edges_at m t x.next (k + 1)) refl (sym (edges_edge t m at k (edge_is t at k c)) ∙ e) (ih x.next)
  same_next m at k (Err o) c e ih =
      let d = place_same (sym (edges_none t m at k (edge_is t at k c)) ∙ e) in
      edges_none u m at k (edge_same_stuck at k (subst (λ (n : ℕ). EdgeCase t at k (stuck n)) d c))

  pub edges_same : (m at k : ℕ) → edges_at m t at k ≡ place p → edges_at m u at k ≡ place p
  edges_same zero at k e = edges_end u at k ∙ end_same at k (sym (edges_end t at k) ∙ e)
  edges_same (suc m) at k e = same_next m at k (edge_at t at k) (edge_case t at k) e (λ a d. edges_same m a (k + 1) d)
