-- The nodes' lines in a text: what is read, where it stops, and that no byte past that place matters.
use Prim.Native.Nat.{ℕ, zero, suc, ◌+◌, ◌-◌, ◌<◌, ◌≤◌}
use mathlib.Core.Path.{◌≡◌, refl, sym, ap, subst, ◌∙◌}
use mathlib.Core.Bool.{Bool, true, false}
use mathlib.Core.List.{List, [], ◌∷◌, ◌++◌, append_assoc}
use native.Mathlib.Omega.{arith}
use lib.ListN.{length, drop, length-append}
use Rattle.base.specs.Bytes.{choose}
use Rattle.std.specs.Prelude.{Result}
use Rattle.std.specs.Prelude.{Ok, Err}
use Rattle.file_records.specs.ProgramPart.{and_then}
use Rattle.drawing.specs.declared.word.Outside.{Outside}
use Rattle.drawing.specs.declared.read.Nodes.{Nodes}
use Rattle.drawing.specs.Text.{digit, decimal, node_line, node_lines}
use Rattle.drawing.specs.Accepted.{place}
use Rattle.drawing.specs.Reading.{has_byte, expect_at, edges_at, nodes_at, stuck, nodes_of}
use Rattle.drawing.proofs.NumberLaws.{leading}
use Rattle.drawing.proofs.LineLaws.{node_parts, node_length}
use Rattle.drawing.proofs.WordLaws.{Common, Stands, Agree, head_here, here_has, word_was, word_stuck, word_on, word_next, stands_none, stands_then, stands_as, stands_from, common_none, common_more, common_as, stands_common, same_has, same_stuck, ok_stuck, ok_same, stuck_same}
use Rattle.drawing.proofs.LabelLaws.{other_letter}
use Rattle.drawing.proofs.EdgeLaws.{on_same_word, edges_stuck, edges_past}

pub nodes_same : {n m a b : ℕ} → ◌≡◌ {A = Result Nodes Outside} (nodes_of n a) (nodes_of m b) → (n ≡ m) × (a ≡ b)
nodes_same e = let d = ok_same e in (ap (λ (x : Nodes). x.edges) d, ap (λ (x : Nodes). x.at) d)

-- each way that the next line can go
module _ (t : List ℕ) (left at n : ℕ) where
  pub data NodesCase : Result Nodes Outside → Type 0 where
    other : has_byte t at 99 ≡ false → NodesCase (stuck at)
    edges : has_byte t at 99 ≡ true → has_byte t (at + 1) 48 ≡ true → NodesCase (nodes_of n at)
    broken : {p : ℕ} → has_byte t at 99 ≡ true → has_byte t (at + 1) 48 ≡ false → expect_at t at (node_line (n + 1)) ≡ stuck p → NodesCase (stuck p)
    next : {a : ℕ} → has_byte t at 99 ≡ true → has_byte t (at + 1) 48 ≡ false → expect_at t at (node_line (n + 1)) ≡ Ok a
        → NodesCase (nodes_at left t a (n + 1))

  pub nodes_is : {r : Result Nodes Outside} → NodesCase r → nodes_at (suc left) t at n ≡ r
  unfolding nodes_at
  nodes_is (other a) = rw a
  nodes_is (edges a b) = rw (a, b)
  nodes_is (broken a b c) = rw (a, b, c)
  nodes_is (next a b c) = rw (a, b, c)

  pub nodes_case : NodesCase (nodes_at (suc left) t at n)
  unfolding nodes_at
  nodes_case = first (has_byte t at 99) refl
    where
      third : has_byte t at 99 ≡ true → has_byte t (at + 1) 48 ≡ false → (x : Result ℕ Outside) → expect_at t at (node_line (n + 1)) ≡ x
          → NodesCase (and_then x (λ a. nodes_at left t a (n + 1)))
      third a b (Ok c) e = next a b e
      third a b (Err o) e = broken a b e

      second : has_byte t at 99 ≡ true → (x : Bool) → has_byte t (at + 1) 48 ≡ x
          → NodesCase (choose x (λ _. nodes_of n at) (λ _. and_then (expect_at t at (node_line (n + 1))) (λ a. nodes_at left t a (n + 1))))
      second a true b = edges a b
      second a false b = third a b (expect_at t at (node_line (n + 1))) refl

      first : (x : Bool) → has_byte t at 99 ≡ x
          → NodesCase
          (choose x
          (λ _. choose (has_byte t (at + 1) 48) (λ _. nodes_of n at) (λ _. and_then (expect_at t at (node_line (n + 1))) (λ a. nodes_at left t a (n + 1))))
          (λ _. stuck at))
      first true a = second a (has_byte t (at + 1) 48) refl
      first false a = other a

module _ (t : List ℕ) where
  -- m more nodes were read, or are how some text goes on
  pub record NodesWere (left at n count a : ℕ) : Type 0 where
    pub more : ℕ
    pub most : more ≤ left
    pub is : count ≡ n + more
    pub stands : Stands t at a (node_lines (n + 1) more)

  pub record NodesViable (left at n p : ℕ) : Type 0 where
    pub more : ℕ
    pub most : more ≤ left
    pub common : Common t at p (node_lines (n + 1) more)

  lines_next : (n m : ℕ) → node_line (n + 1) ++ node_lines (n + 1 + 1) m ≡ node_lines (n + 1) (suc m)
  unfolding node_lines
  lines_next n m = let e : n + 1 + 1 ≡ suc (n + 1) = omega arith in ap (λ (j : ℕ). node_line (n + 1) ++ node_lines j m) e

  nothing_more : (left at n : ℕ) → NodesWere left at n n at
  unfolding node_lines
  nothing_more left at n = record { more = 0; most = omega arith; is = omega arith; stands = stands_none t at }

  were_step : (left at n count a : ℕ) (r : Result Nodes Outside) → NodesCase t left at n r → r ≡ nodes_of count a
      → ((b : ℕ) → nodes_at left t b (n + 1) ≡ nodes_of count a → NodesWere left b (n + 1) count a) → NodesWere (suc left) at n count a
  were_step left at n count a r (other h) e ih = absurd (ok_stuck (sym e))
  were_step left at n count a r (edges h i) e ih =
      let d = nodes_same e in
      subst (λ (m : ℕ). NodesWere (suc left) at n m a) d.0 (subst (NodesWere (suc left) at n n) d.1 (nothing_more (suc left) at n))
  were_step left at n count a r (broken h i j) e ih = absurd (ok_stuck (sym e))
  were_step left at n count a r (next {a = b} h i j) e ih =
      let w = ih b e in
      record {
        more = suc w.more;
        most = omega (arith, w.most);
        is = omega (arith, w.is);
        stands = stands_as t (stands_then t (word_was t at (node_line (n + 1)) b j) w.stands) (lines_next n w.more);
      }

  pub nodes_were : (left at n count a : ℕ) → nodes_at left t at n ≡ nodes_of count a → NodesWere left at n count a
  unfolding nodes_at
  nodes_were zero at n count a e =
      let d = nodes_same e in
      subst (λ (m : ℕ). NodesWere 0 at n m a) d.0 (subst (NodesWere 0 at n n) d.1 (nothing_more 0 at n))
  nodes_were (suc left) at n count a e =
      were_step left at n count a (nodes_at (suc left) t at n) (nodes_case t left at n) e (λ b d. nodes_were left b (n + 1) count a d)

  stuck_step : (left at n p : ℕ) (r : Result Nodes Outside) → NodesCase t left at n r → r ≡ stuck p
      → ((b : ℕ) → nodes_at left t b (n + 1) ≡ stuck p → NodesViable left b (n + 1) p) → NodesViable (suc left) at n p
  stuck_step left at n p r (other h) e ih =
      record {
        more = 1;
        most = omega arith;
        common = subst (λ (q : ℕ). Common t at q (node_lines (n + 1) 1)) (stuck_same e) (common_none t at (node_lines (n + 1) 1));
      }
  stuck_step left at n p r (edges h i) e ih = absurd (ok_stuck e)
  stuck_step left at n p r (broken {p = q} h i j) e ih =
      record {
        more = 1;
        most = omega arith;
        common =
            subst (λ (q : ℕ). Common t at q (node_lines (n + 1) 1)) (stuck_same e)
            (common_as t (common_more t (word_stuck t at (node_line (n + 1)) q j) (node_lines (n + 1 + 1) 0)) (lines_next n 0));
      }
  stuck_step left at n p r (next {a = b} h i j) e ih =
      let w = ih b e in
      record {
        more = suc w.more;
        most = omega (arith, w.most);
        common = common_as t (stands_common t (word_was t at (node_line (n + 1)) b j) w.common) (lines_next n w.more);
      }

  pub nodes_stuck : (left at n p : ℕ) → nodes_at left t at n ≡ stuck p → NodesViable left at n p
  unfolding nodes_at
  nodes_stuck zero at n p e = absurd (ok_stuck e)
  nodes_stuck (suc left) at n p e =
      stuck_step left at n p (nodes_at (suc left) t at n) (nodes_case t left at n) e (λ b d. nodes_stuck left b (n + 1) p d)

  -- ---- nodes that stand there are read

  pub node_first : (at k : ℕ) (x : List ℕ) → 1 ≤ k → k < 10000 → drop at t ≡ node_line k ++ x → (has_byte t at 99 ≡ true) × (has_byte t (at + 1) 48 ≡ false)
  node_first at k x z l e =
      let d = leading k z l in
      let q : drop at t ≡ 99 ∷ digit d.first ∷ ((d.rest ++ (59 ∷ 10 ∷ [])) ++ x) =
      e ∙ ap (λ (w : List ℕ). w ++ x) (node_parts k) ∙ ap (λ (w : List ℕ). (99 ∷ (w ++ (59 ∷ 10 ∷ []))) ++ x) d.is
      in
      let h = head_here t at 99 _ q in
      (here_has t at 99 _ q, other_letter t (at + 1) (digit d.first) 48 _ (λ y. omega (arith, d.some)) h.2)

  pub nodes_on : (m left at n : ℕ) (x : List ℕ) → m ≤ left → n + left < 9999 → drop at t ≡ node_lines (n + 1) m ++ (99 ∷ 48 ∷ x)
      → nodes_at left t at n ≡ nodes_of (n + m) (at + length (node_lines (n + 1) m))
  unfolding nodes_at node_lines
  nodes_on zero zero at n x l f e = let a : n ≡ n + 0 = omega arith in let b : at ≡ at + 0 = omega arith in ap (λ (i : ℕ). nodes_of i at) a ∙ ap (nodes_of (n + 0)) b
  nodes_on zero (suc left) at n x l f e =
      let a : n ≡ n + 0 = omega arith in
      let b : at ≡ at + 0 = omega arith in
      let h = head_here t at 99 (48 ∷ x) e in
      nodes_is t left at n (edges (here_has t at 99 (48 ∷ x) e) (here_has t (at + 1) 48 x h.2))
      ∙ ap (λ (i : ℕ). nodes_of i at) a
      ∙ ap (nodes_of (n + 0)) b
  nodes_on (suc m) zero at n x l f e = absurd (omega arith)
  nodes_on (suc m) (suc left) at n x l f e =
      let y : List ℕ = node_lines (n + 1 + 1) m ++ (99 ∷ 48 ∷ x) in
      let q : drop at t ≡ node_line (n + 1) ++ y =
      e
      ∙ ap (λ (w : List ℕ). w ++ (99 ∷ 48 ∷ x)) (sym (lines_next n m))
      ∙ append_assoc (node_line (n + 1)) (node_lines (n + 1 + 1) m) (99 ∷ 48 ∷ x)
      in
      let a : ℕ = at + length (node_line (n + 1)) in
      let h = node_first at (n + 1) y (omega arith) (omega arith) q in
      let i : n + 1 + m ≡ n + suc m = omega arith in
      let j : a + length (node_lines (n + 1 + 1) m) ≡ at + length (node_lines (n + 1) (suc m)) =
      omega (arith, ap length (lines_next n m), length-append (node_line (n + 1)) (node_lines (n + 1 + 1) m))
      in
      nodes_is t left at n (next h.0 h.1 (word_on t at (node_line (n + 1)) y q))
      ∙ nodes_on m left a (n + 1) x (omega arith) (omega arith) (stands_from t at (node_line (n + 1)) y q)
      ∙ ap (λ (c : ℕ). nodes_of c (a + length (node_lines (n + 1 + 1) m))) i
      ∙ ap (nodes_of (n + suc m)) j

-- ---- the same bytes, the same nodes

module _ (t u : List ℕ) (p : ℕ) (same : Agree t u p) where
  bytes_too : (i c : ℕ) {b : Bool} → i ≤ p → has_byte t i c ≡ b → has_byte u i c ≡ b
  bytes_too i c l e = sym (same_has t u p same i c l) ∙ e

  same_stuck_step : (left at n : ℕ) (r : Result Nodes Outside) → NodesCase t left at n r → r ≡ stuck p
      → ((b : ℕ) → nodes_at left t b (n + 1) ≡ stuck p → nodes_at left u b (n + 1) ≡ stuck p) → nodes_at (suc left) u at n ≡ stuck p
  same_stuck_step left at n r (other h) e ih =
      let q = stuck_same e in nodes_is u left at n (other (bytes_too at 99 (omega arith) h)) ∙ e
  same_stuck_step left at n r (edges h i) e ih = absurd (ok_stuck e)
  same_stuck_step left at n r (broken {p = q} h i j) e ih =
      let d = stuck_same e in
      let j' = j ∙ ap stuck d in
      let l = past_first at n q h j in
      nodes_is u left at n
      (broken (bytes_too at 99 (omega arith) h) (bytes_too (at + 1) 48 (omega arith) i) (same_stuck t u p same at (node_line (n + 1)) j'))
    where
      past_first : (at n q : ℕ) → has_byte t at 99 ≡ true → expect_at t at (node_line (n + 1)) ≡ stuck q → at + 1 ≤ q
      past_first at n q h j =
          let w : List ℕ = decimal (n + 1) ++ (59 ∷ 10 ∷ []) in
          let e = sym (word_next t at 99 w h) ∙ ap (expect_at t at) (sym (node_parts (n + 1))) ∙ j in
          omega (arith, (word_stuck t (at + 1) w q e).place)
  same_stuck_step left at n r (next {a = b} h i j) e ih =
      let s = word_was t at (node_line (n + 1)) b j in
      let v = (nodes_stuck t left b (n + 1) p e).common in
      nodes_is u left at n
      (next (bytes_too at 99 (omega (arith, s.next, v.place)) h)
      (bytes_too (at + 1) 48 (omega (arith, s.next, v.place, node_length (n + 1))) i)
      (on_same_word t u p same at b (node_line (n + 1)) j (omega (arith, v.place))))
      ∙ ih b e

  pub nodes_same_stuck : (left at n : ℕ) → nodes_at left t at n ≡ stuck p → nodes_at left u at n ≡ stuck p
  unfolding nodes_at
  nodes_same_stuck zero at n e = absurd (ok_stuck e)
  nodes_same_stuck (suc left) at n e =
      same_stuck_step left at n (nodes_at (suc left) t at n) (nodes_case t left at n) e (λ b d. nodes_same_stuck left b (n + 1) d)

  same_step : (left at n count a : ℕ) (r : Result Nodes Outside) → NodesCase t left at n r → r ≡ nodes_of count a → 1 ≤ n → edges_at count t a 0 ≡ place p
      → ((b : ℕ) → nodes_at left t b (n + 1) ≡ nodes_of count a → nodes_at left u b (n + 1) ≡ nodes_of count a) → nodes_at (suc left) u at n ≡ nodes_of count a
  same_step left at n count a r (other h) e z f ih = absurd (ok_stuck (sym e))
  same_step left at n count a r (edges h i) e z f ih =
      let d = nodes_same e in
      let m : count ≡ suc (count - 1) = omega (arith, d.0) in
      let h' : has_byte t a 99 ≡ true = subst (λ (x : ℕ). has_byte t x 99 ≡ true) d.1 h in
      let l = edges_past t (count - 1) a 0 p h' (ap (λ (x : ℕ). edges_at x t a 0) (sym m) ∙ f) in
      nodes_is u left at n (edges (bytes_too at 99 (omega (arith, d.1)) h) (bytes_too (at + 1) 48 (omega (arith, d.1)) i)) ∙ e
  same_step left at n count a r (broken h i j) e z f ih = absurd (ok_stuck (sym e))
  same_step left at n count a r (next {a = b} h i j) e z f ih =
      let s = word_was t at (node_line (n + 1)) b j in
      let w = (nodes_were t left b (n + 1) count a e).stands in
      let v = (edges_stuck t count a 0 p f).common in
      nodes_is u left at n
      (next (bytes_too at 99 (omega (arith, s.next, w.next, v.place)) h)
      (bytes_too (at + 1) 48 (omega (arith, s.next, w.next, v.place, node_length (n + 1))) i)
      (on_same_word t u p same at b (node_line (n + 1)) j (omega (arith, w.next, v.place))))
      ∙ ih b e

  pub nodes_same_edges : (left at n count a : ℕ) → nodes_at left t at n ≡ nodes_of count a → 1 ≤ n → edges_at count t a 0 ≡ place p
      → nodes_at left u at n ≡ nodes_of count a
  unfolding nodes_at
  nodes_same_edges zero at n count a e z f = e
  nodes_same_edges (suc left) at n count a e z f =
      same_step left at n count a (nodes_at (suc left) t at n) (nodes_case t left at n) e z f
      (λ b d. nodes_same_edges left b (n + 1) count a d (omega arith) f)
