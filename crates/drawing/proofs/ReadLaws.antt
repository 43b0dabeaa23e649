-- What a reading means: an accepted text is read as its run, and 27's place is the one that the request names.
use Prim.Native.Nat.{ℕ, suc, ◌+◌, ◌<◌, ◌≤◌}
use mathlib.Core.Path.{◌≡◌, refl, sym, ap, subst, ◌∙◌}
use mathlib.Core.Bool.{Bool, true, false}
use mathlib.Core.List.{List, [], ◌∷◌, ◌++◌, append_assoc}
use native.Mathlib.Omega.{arith}
use native.Mathlib.Decide.{dec_lt}
use lib.ListN.{length, take, drop, length-append, take-append-drop, get_or-append}
use lib.Seq.{take_at, take-take, get_or-take, length-take-le}
use borrow.Author.Tests.{lt-ltb}
use Rattle.machine_pws.specs.declared.Step.{Step}
use Rattle.base.specs.Bytes.{choose}
use Rattle.std.specs.Prelude.{Result}
use Rattle.std.specs.Prelude.{Ok, Err}
use Rattle.file_records.specs.ProgramPart.{and_then}
use Rattle.drawing.specs.declared.word.Outside.{Outside}
use Rattle.drawing.specs.declared.read.Nodes.{Nodes}
use Rattle.drawing.specs.Text.{letters, name, arrow, label_opening, line, opening, node_line, node_lines, edge_line, edge_lines, text}
use Rattle.drawing.specs.Runs.{Run}
use Rattle.drawing.specs.Accepted.{Accepted, Begins, Place, Reading, run, place, Means}
use Rattle.drawing.specs.Directions.{ReadingMeans, MeansOnce}
use Rattle.drawing.specs.Reading.{has_byte, expect_at, edges_at, nodes_at, more_at, nodes_read, edges_from, reading_of, stuck, nodes_of}
use Rattle.drawing.proofs.NumberLaws.{decimal_zero}
use Rattle.drawing.proofs.LineLaws.{node_parts}
use Rattle.drawing.proofs.WordLaws.{Common, Stands, Agree, here_has, word_was, word_stuck, word_on, stands_none, stands_then, stands_as, stands_from, common_more, common_as, stands_common, same_has, same_stuck, ok_stuck, stuck_same}
use Rattle.drawing.proofs.LabelLaws.{other_letter}
use Rattle.drawing.proofs.EdgeLaws.{run_place, place_same, closing, fill, fill_length, fill_range, edges_were, edges_stuck, edges_on, edges_same, on_same_word}
use Rattle.drawing.proofs.NodeLaws.{nodes_same, nodes_were, nodes_stuck, nodes_on, nodes_same_stuck, nodes_same_edges}

-- ---- after node 0

-- an edge's line after its first name, without the line feed
edge_rest : Step → List ℕ
edge_rest s = arrow ++ (name 1 ++ (label_opening ++ (letters s ++ (93 ∷ 59 ∷ []))))

module _ (t : List ℕ) (at : ℕ) where
  data MoreCase : Result Nodes Outside → Type 0 where
    done : has_byte t at 125 ≡ true → MoreCase (nodes_of 0 at)
    broken : {p : ℕ} → has_byte t at 125 ≡ false → expect_at t at (node_line 1) ≡ stuck p → MoreCase (stuck p)
    next : {a : ℕ} → has_byte t at 125 ≡ false → expect_at t at (node_line 1) ≡ Ok a → MoreCase (nodes_at 1023 t a 1)

  more_is : {r : Result Nodes Outside} → MoreCase r → more_at t at ≡ r
  unfolding more_at
  more_is (done a) = rw a
  more_is (broken a b) = rw (a, b)
  more_is (next a b) = rw (a, b)

  more_case : MoreCase (more_at t at)
  unfolding more_at
  more_case = first (has_byte t at 125) refl
    where
      second : has_byte t at 125 ≡ false → (x : Result ℕ Outside) → expect_at t at (node_line 1) ≡ x → MoreCase (and_then x (λ a. nodes_at 1023 t a 1))
      second a (Ok b) e = next a e
      second a (Err o) e = broken a e

      first : (x : Bool) → has_byte t at 125 ≡ x
          → MoreCase (choose x (λ _. nodes_of 0 at) (λ _. and_then (expect_at t at (node_line 1)) (λ a. nodes_at 1023 t a 1)))
      first true a = done a
      first false a = second a (expect_at t at (node_line 1)) refl

  first_line : (m : ℕ) → node_line 1 ++ node_lines 2 m ≡ node_lines 1 (suc m)
  unfolding node_lines
  first_line m = refl

  record MoreWere (count a : ℕ) : Type 0 where
    few : count ≤ 1024
    stands : Stands t at a (node_lines 1 count)

  no_lines : node_lines 1 0 ≡ []
  unfolding node_lines
  no_lines = refl

  more_were : (count a : ℕ) (r : Result Nodes Outside) → MoreCase r → r ≡ nodes_of count a → MoreWere count a
  more_were count a r (done h) e =
      let d = nodes_same e in
      subst (λ (n : ℕ). MoreWere n a) d.0
      (subst (MoreWere 0) d.1 (record { few = omega arith; stands = stands_as t (stands_none t at) (sym no_lines) }))
  more_were count a r (broken h i) e = absurd (ok_stuck (sym e))
  more_were count a r (next {a = b} h i) e =
      let w = nodes_were t 1023 b 1 count a e in
      let c : suc w.more ≡ count = omega (arith, w.is) in
      subst (λ (n : ℕ). MoreWere n a) c
      (record {
        few = omega (arith, w.most);
        stands = stands_as t (stands_then t (word_was t at (node_line 1) b i) w.stands) (first_line w.more);
      })

  record MoreViable (p : ℕ) : Type 0 where
    count : ℕ
    few : count ≤ 1024
    common : Common t at p (node_lines 1 count)

  more_stuck : (p : ℕ) (r : Result Nodes Outside) → MoreCase r → r ≡ stuck p → MoreViable p
  more_stuck p r (done h) e = absurd (ok_stuck e)
  more_stuck p r (broken {p = q} h i) e =
      subst MoreViable (stuck_same e)
      (record {
        count = 1;
        few = omega arith;
        common = common_as t (common_more t (word_stuck t at (node_line 1) q i) (node_lines 2 0)) (first_line 0);
      })
  more_stuck p r (next {a = b} h i) e =
      let w = nodes_stuck t 1023 b 1 p e in
      record {
        count = suc w.more;
        few = omega (arith, w.most);
        common = common_as t (stands_common t (word_was t at (node_line 1) b i) w.common) (first_line w.more);
      }

  -- the first edge begins with `c0`
  record FirstEdge (ss : List Step) : Type 0 where
    rest : List ℕ
    is : edge_lines 0 ss ++ closing ≡ 99 ∷ 48 ∷ rest

  first_edge : (s : Step) (ss : List Step) → FirstEdge (s ∷ ss)
  unfolding edge_lines edge_line edge_rest
  first_edge s ss =
      record {
        rest = _;
        is = ap (λ (w : List ℕ). ((((99 ∷ w) ++ edge_rest s) ++ (10 ∷ [])) ++ edge_lines 1 ss) ++ closing) decimal_zero;
      }

  more_on : (ss : List Step) → length ss ≤ 1024 → drop at t ≡ node_lines 1 (length ss) ++ (edge_lines 0 ss ++ closing)
      → more_at t at ≡ nodes_of (length ss) (at + length (node_lines 1 (length ss)))
  unfolding node_lines edge_lines closing
  more_on [] l e =
      let b : at ≡ at + 0 = omega arith in
      more_is (done (here_has t at 125 (10 ∷ []) e)) ∙ ap (nodes_of 0) b
  more_on (s ∷ ss) l e =
      let n : ℕ = length ss in
      let x : List ℕ = edge_lines 0 (s ∷ ss) ++ closing in
      let q : drop at t ≡ node_line 1 ++ (node_lines 2 n ++ x) = e ∙ append_assoc (node_line 1) (node_lines 2 n) x in
      let a : ℕ = at + length (node_line 1) in
      let f = first_edge s ss in
      let q' : drop a t ≡ node_lines 2 n ++ (99 ∷ 48 ∷ f.rest) =
      stands_from t at (node_line 1) (node_lines 2 n ++ x) q ∙ ap (λ (w : List ℕ). node_lines 2 n ++ w) f.is
      in
      let o : has_byte t at 125 ≡ false =
      other_letter t at 99 125 _ (λ z. omega arith) (q ∙ ap (λ (w : List ℕ). w ++ (node_lines 2 n ++ x)) (node_parts 1))
      in
      let c : 1 + n ≡ suc n = omega arith in
      let j : a + length (node_lines 2 n) ≡ at + length (node_line 1 ++ node_lines 2 n) = omega (arith, length-append (node_line 1) (node_lines 2 n)) in
      more_is (next o (word_on t at (node_line 1) (node_lines 2 n ++ x) q))
      ∙ nodes_on t n 1023 a 1 f.rest (omega arith) (omega arith) q'
      ∙ ap (λ (m : ℕ). nodes_of m (a + length (node_lines 2 n))) c
      ∙ ap (nodes_of (suc n)) j

-- ---- the whole text

text_front : (ss : List Step) → text ss ≡ line opening ++ (node_line 0 ++ (node_lines 1 (length ss) ++ (edge_lines 0 ss ++ closing)))
unfolding text node_lines closing
text_front ss =
    ap (λ (w : List ℕ). line opening ++ w) (append_assoc (node_line 0) (node_lines 1 (length ss)) (edge_lines 0 ss ++ line (125 ∷ [])))

module _ (t : List ℕ) where
  data NodesReadCase : Result Nodes Outside → Type 0 where
    no_opening : {p : ℕ} → expect_at t 0 (line opening) ≡ stuck p → NodesReadCase (stuck p)
    no_node : {a p : ℕ} → expect_at t 0 (line opening) ≡ Ok a → expect_at t a (node_line 0) ≡ stuck p → NodesReadCase (stuck p)
    more : {a b : ℕ} → expect_at t 0 (line opening) ≡ Ok a → expect_at t a (node_line 0) ≡ Ok b → NodesReadCase (more_at t b)

  read_is : {r : Result Nodes Outside} → NodesReadCase r → nodes_read t ≡ r
  unfolding nodes_read
  read_is (no_opening e) = rw e
  read_is (no_node e f) = rw (e, f)
  read_is (more e f) = rw (e, f)

  read_case : NodesReadCase (nodes_read t)
  unfolding nodes_read
  read_case = first (expect_at t 0 (line opening)) refl
    where
      second : {a : ℕ} → expect_at t 0 (line opening) ≡ Ok a → (x : Result ℕ Outside) → expect_at t a (node_line 0) ≡ x → NodesReadCase (and_then x (λ b. more_at t b))
      second e (Ok b) f = more e f
      second e (Err o) f = no_node e f

      first : (x : Result ℕ Outside) → expect_at t 0 (line opening) ≡ x
          → NodesReadCase (and_then x (λ a. and_then (expect_at t a (node_line 0)) (λ b. more_at t b)))
      first (Ok a) e = second e (expect_at t a (node_line 0)) refl
      first (Err o) e = no_opening e

  front_stands : {a b : ℕ} → expect_at t 0 (line opening) ≡ Ok a → expect_at t a (node_line 0) ≡ Ok b → Stands t 0 b (line opening ++ node_line 0)
  front_stands {a} {b} e f = stands_then t (word_was t 0 (line opening) a e) (word_was t a (node_line 0) b f)

  pub nodes_few : (count a : ℕ) → nodes_read t ≡ nodes_of count a → count ≤ 1024
  nodes_few count a e = go (nodes_read t) read_case e
    where
      go : (r : Result Nodes Outside) → NodesReadCase r → r ≡ nodes_of count a → count ≤ 1024
      go r (no_opening h) d = absurd (ok_stuck (sym d))
      go r (no_node h i) d = absurd (ok_stuck (sym d))
      go r (more {b = b} h i) d = (more_were t b count a (more_at t b) (more_case t b) d).few

  -- ---- a run that is read

  was_run : (ss : List Step) (r : Result Nodes Outside) → NodesReadCase r → edges_from t r ≡ run ss → Run ss × (t ≡ text ss)
  was_run ss r (no_opening h) e = absurd (run_place (sym e))
  was_run ss r (no_node h i) e = absurd (run_place (sym e))
  was_run ss r (more {b = b} h i) e = inner (more_at t b) refl e
    where
      inner : (x : Result Nodes Outside) → more_at t b ≡ x → edges_from t x ≡ run ss → Run ss × (t ≡ text ss)
      inner (Err o) d e = absurd (run_place (sym e))
      inner (Ok found) d e =
          let m = more_were t b found.edges found.at (more_at t b) (more_case t b) d in
          let w = edges_were t found.edges found.at 0 ss e in
          let s = stands_then t (front_stands h i) m.stands in (
            record { steps = w.range; few = omega (arith, m.few, w.count) },
            s.here
                ∙ ap (λ (x : List ℕ). ((line opening ++ node_line 0) ++ node_lines 1 found.edges) ++ x) w.here
                ∙ append_assoc (line opening ++ node_line 0) (node_lines 1 found.edges) (edge_lines 0 ss ++ closing)
                ∙ append_assoc (line opening) (node_line 0) (node_lines 1 found.edges ++ (edge_lines 0 ss ++ closing))
                ∙ ap (λ (k : ℕ). line opening ++ (node_line 0 ++ (node_lines 1 k ++ (edge_lines 0 ss ++ closing)))) (sym w.count)
                ∙ sym (text_front ss),
          )

  pub reading_was : (ss : List Step) → reading_of t ≡ run ss → Run ss × (t ≡ text ss)
  unfolding reading_of
  reading_was ss e = was_run ss (nodes_read t) read_case e

  -- ---- a text that stops

  record TextViable (p : ℕ) : Type 0 where
    steps : List Step
    good : Run steps
    common : Common t 0 p (text steps)

  filled : (n : ℕ) → n ≤ 1024 → Run (fill n)
  filled n l = record { steps = fill_range n; few = omega (arith, fill_length n) }

  stuck_text : (p : ℕ) (r : Result Nodes Outside) → NodesReadCase r → edges_from t r ≡ place p → TextViable p
  stuck_text p r (no_opening {p = q} h) e =
      subst TextViable (place_same e)
      (record {
        steps = fill 0;
        good = filled 0 (omega arith);
        common =
            common_as t
            (common_more t (word_stuck t 0 (line opening) q h) (node_line 0 ++ (node_lines 1 (length (fill 0)) ++ (edge_lines 0 (fill 0) ++ closing))))
            (sym (text_front (fill 0)));
      })
  stuck_text p r (no_node {a = a} {p = q} h i) e =
      subst TextViable (place_same e)
      (record {
        steps = fill 0;
        good = filled 0 (omega arith);
        common =
            common_as t
            (stands_common t (word_was t 0 (line opening) a h)
            (common_more t (word_stuck t a (node_line 0) q i) (node_lines 1 (length (fill 0)) ++ (edge_lines 0 (fill 0) ++ closing))))
            (sym (text_front (fill 0)));
      })
  stuck_text p r (more {a = o} {b = b} h i) e = inner (more_at t b) refl e
    where
      whole : (ss : List Step) → Common t b p (node_lines 1 (length ss) ++ (edge_lines 0 ss ++ closing)) → Common t 0 p (text ss)
      whole ss c = common_as t (stands_common t (word_was t 0 (line opening) o h) (stands_common t (word_was t o (node_line 0) b i) c)) (sym (text_front ss))

      inner : (x : Result Nodes Outside) → more_at t b ≡ x → edges_from t x ≡ place p → TextViable p
      inner (Err o) d e =
          let v = more_stuck t b o.place (more_at t b) (more_case t b) d in
          let n = v.count in
          record {
            steps = fill n;
            good = filled n v.few;
            common =
                whole (fill n)
                (subst (λ (k : ℕ). Common t b p (node_lines 1 k ++ (edge_lines 0 (fill n) ++ closing))) (sym (fill_length n))
                (common_more t (subst (λ (k : ℕ). Common t b k (node_lines 1 n)) (place_same e) v.common) (edge_lines 0 (fill n) ++ closing)));
          }
      inner (Ok found) d e =
          let m = more_were t b found.edges found.at (more_at t b) (more_case t b) d in
          let v = edges_stuck t found.edges found.at 0 p e in
          record {
            steps = v.steps;
            good = record { steps = v.range; few = omega (arith, m.few, v.count) };
            common =
                whole v.steps
                (subst (λ (k : ℕ). Common t b p (node_lines 1 k ++ (edge_lines 0 v.steps ++ closing))) (sym v.count)
                (stands_common t m.stands v.common));
          }

  reading_stuck : (p : ℕ) → reading_of t ≡ place p → TextViable p
  unfolding reading_of
  reading_stuck p e = stuck_text p (nodes_read t) read_case e

-- ---- the text of a run is read as that run

pub reading_on : (ss : List Step) → Run ss → reading_of (text ss) ≡ run ss
unfolding reading_of
reading_on ss r =
    let t : List ℕ = text ss in
    let x : List ℕ = edge_lines 0 ss ++ closing in
    let y : List ℕ = node_lines 1 (length ss) ++ x in
    let a : ℕ = 0 + length (line opening) in
    let q = stands_from t 0 (line opening) (node_line 0 ++ y) (text_front ss) in
    let b : ℕ = a + length (node_line 0) in
    let q' = stands_from t a (node_line 0) y q in
    let d : ℕ = b + length (node_lines 1 (length ss)) in
    let q'' = stands_from t b (node_lines 1 (length ss)) x q' in
    ap (edges_from t)
    (read_is t (more (word_on t 0 (line opening) (node_line 0 ++ y) (text_front ss)) (word_on t a (node_line 0) y q)) ∙ more_on t b ss r.few q')
    ∙ edges_on t ss d 0 r.steps q''

-- ---- the same bytes, the same place

module _ (t u : List ℕ) (p : ℕ) (same : Agree t u p) where
  more_same_stuck : (at : ℕ) (r : Result Nodes Outside) → MoreCase t at r → r ≡ stuck p → more_at u at ≡ stuck p
  more_same_stuck at r (done h) e = absurd (ok_stuck e)
  more_same_stuck at r (broken {p = q} h i) e =
      let d = stuck_same e in
      let c = word_stuck t at (node_line 1) q i in
      more_is u at
      (broken (sym (same_has t u p same at 125 (omega (arith, c.place))) ∙ h) (same_stuck t u p same at (node_line 1) (i ∙ ap stuck d)))
  more_same_stuck at r (next {a = a} h i) e =
      let s = word_was t at (node_line 1) a i in
      let v = (nodes_stuck t 1023 a 1 p e).common in
      more_is u at
      (next (sym (same_has t u p same at 125 (omega (arith, s.next, v.place))) ∙ h)
      (on_same_word t u p same at a (node_line 1) i (omega (arith, v.place))))
      ∙ nodes_same_stuck t u p same 1023 a 1 e

  more_same_edges : (at n a : ℕ) (r : Result Nodes Outside) → MoreCase t at r → r ≡ nodes_of n a → edges_at n t a 0 ≡ place p → more_at u at ≡ nodes_of n a
  more_same_edges at n a r (done h) e f =
      let d = nodes_same e in
      let v = (edges_stuck t n a 0 p f).common in
      more_is u at (done (sym (same_has t u p same at 125 (omega (arith, d.1, v.place))) ∙ h)) ∙ e
  more_same_edges at n a r (broken h i) e f = absurd (ok_stuck (sym e))
  more_same_edges at n a r (next {a = b} h i) e f =
      let s = word_was t at (node_line 1) b i in
      let w = (nodes_were t 1023 b 1 n a e).stands in
      let v = (edges_stuck t n a 0 p f).common in
      more_is u at
      (next (sym (same_has t u p same at 125 (omega (arith, s.next, w.next, v.place))) ∙ h)
      (on_same_word t u p same at b (node_line 1) i (omega (arith, w.next, v.place))))
      ∙ nodes_same_edges t u p same 1023 b 1 n a e (omega arith) f

  same_reading : (r : Result Nodes Outside) → NodesReadCase t r → edges_from t r ≡ place p → edges_from u (nodes_read u) ≡ place p
  same_reading r (no_opening {p = q} h) e =
      ap (edges_from u) (read_is u (no_opening (same_stuck t u p same 0 (line opening) (h ∙ ap stuck (place_same e)))))
  same_reading r (no_node {a = a} {p = q} h i) e =
      let c = word_stuck t a (node_line 0) q i in
      ap (edges_from u)
      (read_is u
      (no_node (on_same_word t u p same 0 a (line opening) h (omega (arith, c.place, place_same e)))
      (same_stuck t u p same a (node_line 0) (i ∙ ap stuck (place_same e)))))
  same_reading r (more {a = o} {b = b} h i) e = inner (more_at t b) refl e
    where
      front : b ≤ p + 1 → nodes_read u ≡ more_at u b
      front l =
          let s = word_was t o (node_line 0) b i in
          read_is u (more (on_same_word t u p same 0 o (line opening) h (omega (arith, s.next))) (on_same_word t u p same o b (node_line 0) i l))

      inner : (x : Result Nodes Outside) → more_at t b ≡ x → edges_from t x ≡ place p → edges_from u (nodes_read u) ≡ place p
      inner (Err o) d e =
          let d' = d ∙ ap stuck (place_same e) in
          let v = (more_stuck t b p (more_at t b) (more_case t b) d').common in
          ap (edges_from u) (front (omega (arith, v.place)) ∙ more_same_stuck b (more_at t b) (more_case t b) d')
      inner (Ok found) d e =
          let m = (more_were t b found.edges found.at (more_at t b) (more_case t b) d).stands in
          let v = (edges_stuck t found.edges found.at 0 p e).common in
          ap (edges_from u) (front (omega (arith, m.next, v.place)) ∙ more_same_edges b found.edges found.at (more_at t b) (more_case t b) d e)
          ∙ edges_same t u p same found.edges found.at 0 e

  pub reading_same : reading_of t ≡ place p → reading_of u ≡ place p
  unfolding reading_of
  reading_same e = same_reading (nodes_read t) (read_case t) e

-- ---- what a reading means

agrees : (t rest : List ℕ) (p : ℕ) → p < length t → Agree t (take (suc p) t ++ rest) p
unfolding Agree
agrees t rest p l i m =
    let w : List ℕ = take (suc p) t in
    let n : length w ≡ suc p = length-take-le (suc p) t l in (
      lt-ltb i (length t) (omega arith) ∙ sym (lt-ltb i (length (w ++ rest)) (omega (arith, length-append w rest))),
      sym (get_or-append w rest 0 i (omega arith) ∙ get_or-take (suc p) t i 0 (omega arith)),
    )

pub means_place : (t : List ℕ) (p : ℕ) → reading_of t ≡ place p → Place t p
means_place t p e =
    let v = reading_stuck t p e in
    let c = v.common in
    let n : length t ≡ length c.done + length c.left = ap length c.here ∙ length-append c.done c.left in
    record {
      within = omega (arith, c.place);
      outside = λ a. run_place (sym (ap reading_of a.same ∙ reading_on a.steps a.run) ∙ e);
      before =
          record {
            rest = c.more;
            accepted =
                record {
                  steps = v.steps;
                  run = v.good;
                  same =
                      ap (λ (w : List ℕ). w ++ c.more) (ap (take p) c.here ∙ take_at c.done c.left p (omega (arith, c.place)))
                      ∙ sym c.there;
                };
          };
      byte = λ l b.
          let a = b.accepted in
          let u : List ℕ = take (suc p) t ++ b.rest in
          run_place (sym (ap reading_of a.same ∙ reading_on a.steps a.run) ∙ reading_same t u p (agrees t b.rest p l) e);
    }

-- every reading means what Accepted.antt says
pub reading_means : ReadingMeans
reading_means t = go (reading_of t) refl
  where
    go : (r : Reading) → reading_of t ≡ r → Means t r
    go (run ss) e = reading_was t ss e
    go (place p) e = means_place t p e

-- and only one reading does
shorter : (t : List ℕ) (j k : ℕ) → j ≤ k → Begins (take k t) → Begins (take j t)
shorter t j k l b =
    let w : List ℕ = take k t in
    record {
      rest = drop j w ++ b.rest;
      accepted =
          subst Accepted
          (ap (λ (x : List ℕ). x ++ b.rest) (sym (take-append-drop j w) ∙ ap (λ (x : List ℕ). x ++ drop j w) (take-take j k t l))
          ∙ append_assoc (take j t) (drop j w) b.rest)
          b.accepted;
    }

place_once : (t : List ℕ) (j k : ℕ) → Place t j → Place t k → j < k → ⊥
place_once t j k p q l = p.byte (omega (arith, q.within)) (shorter t (suc j) k l q.before)

pub means_once : MeansOnce
means_once t (run ss) (run rs) p q = sym (reading_on ss p.0) ∙ ap reading_of (sym p.1 ∙ q.1) ∙ reading_on rs q.0
means_once t (run ss) (place k) p q = absurd (q.outside (record { steps = ss; run = p.0; same = p.1 }))
means_once t (place j) (run rs) p q = absurd (p.outside (record { steps = rs; run = q.0; same = q.1 }))
means_once t (place j) (place k) p q =
    elim (dec_lt j k) [
      | yes l ↦ absurd (place_once t j k p q l)
      | no l ↦ elim (dec_lt k j) [ yes m ↦ absurd (place_once t k j q p m) | no m ↦ let e : j ≡ k = omega arith in ap place e ]
    ]
