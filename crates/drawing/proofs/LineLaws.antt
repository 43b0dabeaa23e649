-- The lines of a drawing: their parts and their lengths.
use Prim.Native.Nat.{ℕ, zero, suc, ◌+◌, ◌-◌, ◌*◌, ◌<◌, ◌≤◌}
use mathlib.Core.Path.{◌≡◌, refl, sym, ap, subst, ◌∙◌}
use mathlib.Core.List.{List, [], ◌∷◌, ◌++◌, append_assoc}
use native.Mathlib.Omega.{arith}
use lib.ListN.{length, length-append}
use Rattle.machine_pws.specs.declared.Step.{Step}
use Rattle.machine_pws.specs.declared.Step.TheVariants.{Take, Serialise, Update}
use Rattle.file_records.specs.Records.{step_body, step_at}
use Rattle.file_contents.specs.EvidencePart.{steps_of}
use Rattle.drawing.specs.Text.{decimal_in, decimal, letters, name, line, opening, arrow, label_opening, node_line, edge_line, node_lines, edge_lines, text}
use Rattle.drawing.specs.Runs.{StepInRange}
use Rattle.drawing.specs.Parts.{edge_head, edge_tail, FineFrom, AllFine}
use Rattle.drawing.proofs.NumberLaws.{decimal_short}

pub node_parts : (k : ℕ) → node_line k ≡ 99 ∷ (decimal k ++ (59 ∷ 10 ∷ []))
unfolding node_line
node_parts k = append_assoc (99 ∷ decimal k) (59 ∷ []) (10 ∷ [])

pub node_length : (k : ℕ) → length (node_line k) ≡ 3 + length (decimal k)
node_length k = omega (arith, ap length (node_parts k), length-append (decimal k) (59 ∷ 10 ∷ []))

pub head_length : (k : ℕ) → length (edge_head k) ≡ 14 + (length (decimal k) + length (decimal (suc k)))
unfolding edge_head
head_length k =
    omega (arith, length-append (decimal k) (arrow ++ (name (suc k) ++ label_opening)), length-append (decimal (suc k)) label_opening)

pub head_parts : (k : ℕ) → (((((99 ∷ []) ++ decimal k) ++ (32 ∷ 45 ∷ 62 ∷ 32 ∷ 99 ∷ [])) ++ decimal (k + 1)) ++ label_opening) ≡ edge_head k
unfolding edge_head
head_parts k =
    let e : k + 1 ≡ suc k = omega arith in
    append_assoc ((99 ∷ decimal k) ++ (32 ∷ 45 ∷ 62 ∷ 32 ∷ 99 ∷ [])) (decimal (k + 1)) label_opening
    ∙ append_assoc (99 ∷ decimal k) (32 ∷ 45 ∷ 62 ∷ 32 ∷ 99 ∷ []) (decimal (k + 1) ++ label_opening)
    ∙ ap (λ (m : ℕ). name k ++ (arrow ++ (name m ++ label_opening))) e

pub edge_parts : (k : ℕ) (s : Step) → edge_line k s ≡ edge_head k ++ (letters s ++ edge_tail)
unfolding edge_line edge_head
edge_parts k s = simp append_assoc

pub edge_length : (k : ℕ) (s : Step) → length (edge_line k s) ≡ 17 + (length (decimal k) + length (decimal (suc k))) + length (letters s)
edge_length k s =
    omega
    (arith, ap length (edge_parts k s), length-append (edge_head k) (letters s ++ edge_tail), length-append (letters s) edge_tail, head_length k)

zero_length : length (decimal 0) ≡ 1
unfolding decimal decimal_in
zero_length = refl

pub text_length : (ss : List Step) → length (text ss) ≡ 20 + (length (node_lines 1 (length ss)) + length (edge_lines 0 ss))
unfolding text node_lines
text_length ss =
    let n : List ℕ = node_lines 1 (length ss) in
    let e : List ℕ = edge_lines 0 ss in
    omega (
      arith,
      length-append (node_line 0 ++ n) (e ++ line (125 ∷ [])),
      length-append (node_line 0) n,
      length-append e (line (125 ∷ [])),
      node_length 0,
      zero_length,
    )

-- ---- lines in a row

pub nodes_next : (k n : ℕ) → k < n → node_lines k (n - k) ≡ node_line k ++ node_lines (k + 1) (n - (k + 1))
unfolding node_lines
nodes_next k n l =
    let e : n - k ≡ suc (n - (k + 1)) = omega arith in
    let d : suc k ≡ k + 1 = omega arith in
    ap (node_lines k) e ∙ ap (λ (i : ℕ). node_line k ++ node_lines i (n - (k + 1))) d

module _ (f : List ℕ) where
  pub steps_next : (at k n : ℕ) → k < n → steps_of f at (n - k) ≡ step_at f at ∷ steps_of f (at + (1 + step_body f at)) (n - (k + 1))
  unfolding steps_of
  steps_next at k n l =
      let e : n - k ≡ suc (n - (k + 1)) = omega arith in
      ap (steps_of f at) e

  pub edges_next : (at k n : ℕ) → k < n
      → edge_lines k (steps_of f at (n - k)) ≡ edge_line k (step_at f at) ++ edge_lines (k + 1) (steps_of f (at + (1 + step_body f at)) (n - (k + 1)))
  unfolding edge_lines
  edges_next at k n l =
      let d : suc k ≡ k + 1 = omega arith in
      ap (edge_lines k) (steps_next at k n l)
      ∙ ap (λ (i : ℕ). edge_line k (step_at f at) ++ edge_lines i (steps_of f (at + (1 + step_body f at)) (n - (k + 1)))) d

  pub fine_next : (at k n : ℕ) → k < n → FineFrom f at (n - k)
      → (at + step_body f at < length f) × StepInRange (step_at f at) × FineFrom f (at + (1 + step_body f at)) (n - (k + 1))
  fine_next at k n l h =
      let e : n - k ≡ suc (n - (k + 1)) = omega arith in
      subst (FineFrom f at) e h

  pub steps_length : (at n : ℕ) → length (steps_of f at n) ≡ n
  unfolding steps_of
  steps_length at zero = refl
  steps_length at (suc n) = ap suc (steps_length (at + (1 + step_body f at)) n)

-- a node's line and an edge's are short
pub node_short : (k : ℕ) → k < 10000 → length (node_line k) ≤ 7
node_short k l = omega (arith, node_length k, decimal_short k l)

pub head_short : (k : ℕ) → k < 9999 → length (edge_head k) ≤ 22
head_short k l = omega (arith, head_length k, decimal_short k (omega arith), decimal_short (suc k) (omega arith))

pub letters_short : (s : Step) → StepInRange s → length (letters s) ≤ 5
unfolding letters
letters_short (Take n) l = omega (arith, decimal_short n (omega arith))
letters_short (Serialise p v) l = omega arith
letters_short (Update p) l = omega arith

-- ---- the length, as it is added up

-- i steps are counted, and the next one's record stands at `at`
pub record Counting (f : List ℕ) (n total at i : ℕ) : Type 0 where
  pub most : i ≤ n
  pub few : n ≤ 1024
  pub fine : FineFrom f at (n - i)
  pub small : total ≤ 20 + 50 * i
  pub rest : total + (length (node_lines (i + 1) (n - i)) + length (edge_lines i (steps_of f at (n - i)))) ≡ length (text (steps_of f 0 n))

pub count_begin : (f : List ℕ) (n : ℕ) → AllFine f n → Counting f n 20 0 0
count_begin f n h =
    let z : n - 0 ≡ n = omega arith in
    record {
      most = omega arith;
      few = h.few;
      fine = subst (FineFrom f 0) (sym z) h.steps;
      small = omega arith;
      rest =
          ap (λ (m : ℕ). 20 + (length (node_lines 1 m) + length (edge_lines 0 (steps_of f 0 m)))) z
          ∙ sym (text_length (steps_of f 0 n)
          ∙ ap (λ (m : ℕ). 20 + (length (node_lines 1 m) + length (edge_lines 0 (steps_of f 0 n)))) (steps_length f 0 n));
    }

pub count_next : {f : List ℕ} {n total at i : ℕ} (node edge next : ℕ) → Counting f n total at i → i < n → node ≡ 3 + length (decimal (i + 1))
    → edge ≡ length (edge_line i (step_at f at)) → next ≡ at + (1 + step_body f at) → Counting f n (total + (node + edge)) next (i + 1)
count_next {f} {n} {total} {at} {i} node edge next c l a b e =
    let g = fine_next f at i n l c.fine in
    let q : n + 1 - (i + 1) ≡ n - i = omega arith in
    let r : n + 1 - (i + 1 + 1) ≡ n - (i + 1) = omega arith in
    let s : suc i ≡ i + 1 = omega arith in
    let w : node_lines (i + 1) (n - i) ≡ node_line (i + 1) ++ node_lines (i + 1 + 1) (n - (i + 1)) =
    ap (node_lines (i + 1)) (sym q)
    ∙ nodes_next (i + 1) (n + 1) (omega arith)
    ∙ ap (λ (m : ℕ). node_line (i + 1) ++ node_lines (i + 1 + 1) m) r
    in
    let d : List ℕ = edge_lines (i + 1) (steps_of f next (n - (i + 1))) in
    let x : edge_lines i (steps_of f at (n - i)) ≡ edge_line i (step_at f at) ++ d =
    edges_next f at i n l ∙ ap (λ (m : ℕ). edge_line i (step_at f at) ++ edge_lines (i + 1) (steps_of f m (n - (i + 1)))) (sym e)
    in
    record {
      most = omega arith;
      few = c.few;
      fine = subst (λ (m : ℕ). FineFrom f m (n - (i + 1))) (sym e) g.2;
      small =
          omega (
            arith,
            c.small,
            c.few,
            decimal_short (i + 1) (omega (arith, c.few)),
            edge_length i (step_at f at),
            letters_short (step_at f at) g.1,
            decimal_short i (omega (arith, c.few)),
            ap (λ (m : ℕ). length (decimal m)) s,
          );
      rest =
          omega (
            arith,
            c.rest,
            ap length w,
            length-append (node_line (i + 1)) (node_lines (i + 1 + 1) (n - (i + 1))),
            node_length (i + 1),
            ap length x,
            length-append (edge_line i (step_at f at)) d,
          );
    }

pub count_end : {f : List ℕ} {n total at i : ℕ} → Counting f n total at i → n ≤ i → total ≡ length (text (steps_of f 0 n))
unfolding node_lines edge_lines steps_of
count_end {f} {n} {total} {at} {i} c l =
    let e : n - i ≡ 0 = omega (arith, c.most) in
    let h : total + (length (node_lines (i + 1) 0) + length (edge_lines i (steps_of f at 0))) ≡ length (text (steps_of f 0 n)) =
    subst (λ (m : ℕ). total + (length (node_lines (i + 1) m) + length (edge_lines i (steps_of f at m))) ≡ length (text (steps_of f 0 n))) e c.rest
    in
    omega (arith, h)

-- ---- the whole text, in the parts that are put

pub text_parts : (f : List ℕ) (n : ℕ)
    → ((line opening ++ node_lines 0 (suc n)) ++ edge_lines 0 (steps_of f 0 n)) ++ (125 ∷ 10 ∷ []) ≡ text (steps_of f 0 n)
unfolding text
text_parts f n =
    let e : List ℕ = edge_lines 0 (steps_of f 0 n) in
    append_assoc (line opening ++ node_lines 0 (suc n)) e (125 ∷ 10 ∷ [])
    ∙ append_assoc (line opening) (node_lines 0 (suc n)) (e ++ (125 ∷ 10 ∷ []))
    ∙ ap (λ (m : ℕ). line opening ++ (node_lines 0 (suc m) ++ (e ++ line (125 ∷ [])))) (sym (steps_length f 0 n))

pub text_sum : (f : List ℕ) (n : ℕ)
    → length (text (steps_of f 0 n)) ≡ 16 + (length (node_lines 0 (suc n)) + length (edge_lines 0 (steps_of f 0 n)))
text_sum f n =
    let e : List ℕ = edge_lines 0 (steps_of f 0 n) in
    omega (
      arith,
      ap length (text_parts f n),
      length-append ((line opening ++ node_lines 0 (suc n)) ++ e) (125 ∷ 10 ∷ []),
      length-append (line opening ++ node_lines 0 (suc n)) e,
      length-append (line opening) (node_lines 0 (suc n)),
    )
