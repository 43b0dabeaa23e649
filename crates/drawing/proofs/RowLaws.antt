-- The lines of the nodes and of the edges, put one after another.
use Prim.Native.Nat.{ℕ, suc, ◌+◌, ◌-◌, ◌<◌, ◌≤◌}
use mathlib.Core.Path.{◌≡◌, refl, sym, ap, subst, ◌∙◌}
use mathlib.Core.List.{List, [], ◌∷◌, ◌++◌, append_assoc}
use native.Mathlib.Omega.{arith}
use lib.ListN.{length, length-append}
use Rattle.machine_pws.specs.declared.Step.{Step}
use Rattle.file_records.specs.Records.{step_body, step_at}
use Rattle.file_contents.specs.EvidencePart.{steps_of}
use Rattle.drawing.specs.Text.{node_line, edge_line, node_lines, edge_lines}
use Rattle.drawing.specs.Runs.{StepInRange}
use Rattle.drawing.specs.Parts.{Put, FineFrom, AllFine}
use Rattle.drawing.proofs.PutLaws.{placed_length, then_put, put_as, put_none}
use Rattle.drawing.proofs.LineLaws.{nodes_next, edges_next, fine_next}

-- a part of `whole` was put from `start` on, and `left` is to follow at `at`
pub record Partly (old : List ℕ) (start : ℕ) (whole : List ℕ) (new : List ℕ) (at : ℕ) (left : List ℕ) : Type 0 where
  pub room : start + length whole ≤ length old
  pub word : List ℕ
  pub put : Put old new start at word
  pub both : word ++ left ≡ whole

pub partly_begin : (old : List ℕ) (start : ℕ) (whole : List ℕ) → start + length whole ≤ length old → Partly old start whole old start whole
partly_begin old start whole l = record { room = l; word = []; put = put_none old start (omega arith); both = refl }

pub partly_same : {old : List ℕ} {start : ℕ} {whole new : List ℕ} {at : ℕ} {left : List ℕ} → Partly old start whole new at left → length new ≡ length old
partly_same {old} {start} {whole} {new} {at} {left} p = ap length p.put.is ∙ placed_length old start p.word p.put.room

pub partly_room : {old : List ℕ} {start : ℕ} {whole new : List ℕ} {at : ℕ} {left : List ℕ} → Partly old start whole new at left → at + length left ≤ length new
partly_room {old} {start} {whole} {new} {at} {left} p =
    omega (arith, p.room, partly_same p, p.put.after, ap length p.both, length-append p.word left)

pub partly_next : {old : List ℕ} {start : ℕ} {whole new : List ℕ} {at : ℕ} {left : List ℕ} {newer : List ℕ} {next : ℕ} {line more : List ℕ}
    → Partly old start whole new at left → left ≡ line ++ more → Put new newer at next line → Partly old start whole newer next more
partly_next {old} {start} {whole} {new} {at} {left} {newer} {next} {line} {more} p e q =
    record {
      room = p.room;
      word = p.word ++ line;
      put = then_put p.put q;
      both = append_assoc p.word line more ∙ ap (λ (w : List ℕ). p.word ++ w) (sym e) ∙ p.both;
    }

plain : (w : List ℕ) → w ++ [] ≡ w
plain [] = refl
plain (x ∷ w) = ap (λ (v : List ℕ). x ∷ v) (plain w)

pub partly_end : {old : List ℕ} {start : ℕ} {whole new : List ℕ} {at : ℕ} {left : List ℕ} → Partly old start whole new at left → left ≡ []
    → Put old new start at whole
partly_end p e = put_as p.put (sym (plain p.word) ∙ ap (λ (w : List ℕ). p.word ++ w) (sym e) ∙ p.both)

-- ---- the nodes

pub record NodesPut (old : List ℕ) (start n : ℕ) (new : List ℕ) (at k : ℕ) : Type 0 where
  pub few : n ≤ 1024
  pub most : k ≤ suc n
  pub partly : Partly old start (node_lines 0 (suc n)) new at (node_lines k (suc n - k))

pub nodes_begin : (old : List ℕ) (start n : ℕ) → n ≤ 1024 → start + length (node_lines 0 (suc n)) ≤ length old → NodesPut old start n old start 0
nodes_begin old start n f l =
    let z : suc n ≡ suc n - 0 = omega arith in
    record {
      few = f;
      most = omega arith;
      partly = subst (λ (m : ℕ). Partly old start (node_lines 0 (suc n)) old start (node_lines 0 m)) z (partly_begin old start (node_lines 0 (suc n)) l);
    }

module _ {old : List ℕ} {start n : ℕ} {new : List ℕ} {at k : ℕ} (c : NodesPut old start n new at k) where
  pub nodes_room : k ≤ n → at + length (node_line k) ≤ length new
  nodes_room l =
      omega (
        arith,
        partly_room c.partly,
        ap length (nodes_next k (suc n) (omega arith)),
        length-append (node_line k) (node_lines (k + 1) (suc n - (k + 1))),
      )

  pub nodes_put : {newer : List ℕ} {next : ℕ} → k ≤ n → Put new newer at next (node_line k) → NodesPut old start n newer next (k + 1)
  nodes_put l q = record { few = c.few; most = omega arith; partly = partly_next c.partly (nodes_next k (suc n) (omega arith)) q }

  pub nodes_end : n < k → Put old new start at (node_lines 0 (suc n))
  unfolding node_lines
  nodes_end l = let z : suc n - k ≡ 0 = omega arith in partly_end c.partly (ap (node_lines k) z)

-- ---- the edges

pub record EdgesPut (old : List ℕ) (start : ℕ) (f : List ℕ) (n : ℕ) (new : List ℕ) (at row k : ℕ) : Type 0 where
  pub few : n ≤ 1024
  pub most : k ≤ n
  pub fine : FineFrom f row (n - k)
  pub partly : Partly old start (edge_lines 0 (steps_of f 0 n)) new at (edge_lines k (steps_of f row (n - k)))

pub edges_begin : (old : List ℕ) (start : ℕ) (f : List ℕ) (n : ℕ) → AllFine f n → start + length (edge_lines 0 (steps_of f 0 n)) ≤ length old
    → EdgesPut old start f n old start 0 0
edges_begin old start f n h l =
    let z : n ≡ n - 0 = omega arith in
    record {
      few = h.few;
      most = omega arith;
      fine = subst (FineFrom f 0) z h.steps;
      partly =
          subst (λ (m : ℕ). Partly old start (edge_lines 0 (steps_of f 0 n)) old start (edge_lines 0 (steps_of f 0 m))) z
          (partly_begin old start (edge_lines 0 (steps_of f 0 n)) l);
    }

module _ {old : List ℕ} {start : ℕ} {f : List ℕ} {n : ℕ} {new : List ℕ} {at row k : ℕ} (c : EdgesPut old start f n new at row k) where
  pub edges_fine : k < n
      → (row + step_body f row < length f) × StepInRange (step_at f row) × FineFrom f (row + (1 + step_body f row)) (n - (k + 1))
  edges_fine l = fine_next f row k n l c.fine

  pub edges_room : k < n → at + length (edge_line k (step_at f row)) ≤ length new
  edges_room l =
      omega (
        arith,
        partly_room c.partly,
        ap length (edges_next f row k n l),
        length-append (edge_line k (step_at f row)) (edge_lines (k + 1) (steps_of f (row + (1 + step_body f row)) (n - (k + 1)))),
      )

  pub edges_put : {newer : List ℕ} {next : ℕ} (s : Step) (after : ℕ) → k < n → s ≡ step_at f row → after ≡ row + (1 + step_body f row)
      → Put new newer at next (edge_line k s) → EdgesPut old start f n newer next after (k + 1)
  edges_put s after l e d q =
      record {
        few = c.few;
        most = omega arith;
        fine = subst (λ (m : ℕ). FineFrom f m (n - (k + 1))) (sym d) (edges_fine l).2;
        partly =
            partly_next c.partly
            (edges_next f row k n l ∙ ap (λ (m : ℕ). edge_line k (step_at f row) ++ edge_lines (k + 1) (steps_of f m (n - (k + 1)))) (sym d))
            (put_as q (ap (edge_line k) e));
      }

  pub edges_end : n ≤ k → Put old new start at (edge_lines 0 (steps_of f 0 n))
  unfolding edge_lines steps_of
  edges_end l = let z : n - k ≡ 0 = omega arith in partly_end c.partly (ap (λ (m : ℕ). edge_lines k (steps_of f row m)) z)
