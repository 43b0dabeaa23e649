-- A pattern with one thing changed stands for what is so changed.
use Prim.Native.Nat.{ℕ, ◌+◌, ◌-◌, ◌*◌, ◌<◌, ◌≤◌}
use mathlib.Core.Path.{◌≡◌, sym, ap, ap₂, subst, ◌∙◌}
use mathlib.Core.Logic.{◌≢◌}
use mathlib.Core.Bool.{Bool, cond}
use mathlib.Core.List.{List, ◌++◌}
use native.Mathlib.Omega.{arith}
use native.Mathlib.Decide.{ℕ_discrete, dec_le}
use lib.ListN.{length, get_or, take, drop, replicate, length-take, get_or-append, get_or-replicate}
use lib.Seq.{get_or-take, get_or-drop, get_or-append_right}
use borrow.Rule.Slice.PartMut.{put_mid, Post-is}
use borrow.Author.Tests.{eq-eqb, ne_eqb}
use Rattle.machine_pws.specs.Machine.{put}
use Rattle.file_records.specs.declared.program.Shape.{Shape}
use Rattle.pattern_theory.specs.Patterns as patterns
use Rattle.pattern_theory.specs.Patterns.{empty}
use Rattle.pattern_theory.specs.Predecessors.{with_none_waiting}
use Rattle.pattern_step.specs.declared.clues.Clue.{Clue}
use Rattle.pattern_step.specs.declared.clues.Clue.TheVariants.{Empty}
use Rattle.pattern_step.specs.declared.patterns.Pattern.{Pattern}
use Rattle.pattern_step.specs.Meaning.{clue_of, count_of, no_clue, Stands}

-- ---- set and put

pub put_same : {A : Type 0} (f : ℕ → A) (p : ℕ) (x : A) (q : ℕ) → q ≡ p → put f p x q ≡ x
put_same f p x q e = ap (λ (b : Bool). cond b x (f q)) (eq-eqb q p e)

pub put_other : {A : Type 0} (f : ℕ → A) (p : ℕ) (x : A) (q : ℕ) → q ≢ p → put f p x q ≡ f q
put_other f p x q d = ap (λ (b : Bool). cond b x (f q)) (ne_eqb q p d)

-- ---- the changes

module _ {s : Shape} {k l : ℕ} {a : Pattern} {e : patterns.Pattern} (w : Stands s k l a e) where
  pub wider : {m n : ℕ} → k ≤ m → l ≤ n → Stands s m n a e
  wider g h =
      record {
        processes = w.processes;
        variables = w.variables;
        state = w.state;
        clue = w.clue;
        newest = w.newest;
        path = w.path;
        words = λ i j. omega (arith, w.words i j);
        lengths = λ p j. omega (arith, w.lengths p j);
        fine = w.fine;
      }

  -- the clues of p are filled in
  module _ (p : ℕ) (ys : List Clue) (h : length a.clues ≡ 16) (b : p < s.processes) (e4 : ys ≡ replicate 4 Empty) where
    abbrev filled : List Clue
    filled = put_mid (4 * p) (4 * p + 4 - 4 * p) a.clues ys

    parts : filled ≡ take (4 * p) a.clues ++ (replicate 4 Empty ++ drop (4 * p + 4) a.clues)
    parts = ap₂ (λ (zs us : List Clue). take (4 * p) a.clues ++ (zs ++ us)) e4 (Post-is (4 * p) (4 * p + 4) a.clues (omega arith))

    front : length (take (4 * p) a.clues) ≡ 4 * p
    front = omega (arith, length-take (4 * p) a.clues, w.processes)

    filled_here : (v : ℕ) → v < 4 → get_or filled (4 * p + v) no_clue ≡ Empty
    filled_here v l =
        ap (λ (xs : List Clue). get_or xs (4 * p + v) no_clue) parts
        ∙ get_or-append_right (take (4 * p) a.clues) (replicate 4 Empty ++ drop (4 * p + 4) a.clues) (4 * p + v) no_clue (omega (arith, front))
        ∙ ap (λ (i : ℕ). get_or (replicate 4 Empty ++ drop (4 * p + 4) a.clues) i no_clue) (let z : 4 * p + v - length (take (4 * p) a.clues) ≡ v = omega (arith, front) in z)
        ∙ get_or-append (replicate 4 Empty) (drop (4 * p + 4) a.clues) no_clue v l
        ∙ get_or-replicate 4 v Empty no_clue l

    filled_other : (j : ℕ) → ((v : ℕ) → v < 4 → j ≢ 4 * p + v) → get_or filled j no_clue ≡ get_or a.clues j no_clue
    filled_other j d = ap (λ (xs : List Clue). get_or xs j no_clue) parts ∙ elim (dec_le (4 * p) j) [
      | no m ↦ get_or-append (take (4 * p) a.clues) (replicate 4 Empty ++ drop (4 * p + 4) a.clues) no_clue j (omega (arith, front)) ∙ get_or-take (4 * p) a.clues j no_clue (omega arith)
      | yes m ↦ elim (dec_le 4 (j - 4 * p)) [
        | no n ↦ absurd (d (j - 4 * p) (omega arith) (omega arith))
        | yes n ↦ get_or-append_right (take (4 * p) a.clues) (replicate 4 Empty ++ drop (4 * p + 4) a.clues) j no_clue (omega (arith, front))
            ∙ get_or-append_right (replicate 4 Empty) (drop (4 * p + 4) a.clues) (j - length (take (4 * p) a.clues)) no_clue (let z : 4 ≤ j - length (take (4 * p) a.clues) = omega (arith, front) in z)
            ∙ get_or-drop (4 * p + 4) a.clues (j - length (take (4 * p) a.clues) - 4) no_clue
            ∙ ap (λ (i : ℕ). get_or a.clues i no_clue) (let z : 4 * p + 4 + (j - length (take (4 * p) a.clues) - 4) ≡ j = omega (arith, front) in z)
      ]
    ]

    filled_words : (j : ℕ) → j < 16 → count_of (get_or filled j no_clue) ≤ k
    filled_words j l = elim (dec_le (4 * p) j) [
      | no m ↦ subst (λ (c : Clue). count_of c ≤ k) (sym (filled_other j (λ v u t. m (omega arith)))) (w.words j l)
      | yes m ↦ elim (dec_le 4 (j - 4 * p)) [
        | no n ↦ subst (λ (i : ℕ). count_of (get_or filled i no_clue) ≤ k) (let z : 4 * p + (j - 4 * p) ≡ j = omega arith in z)
            (subst (λ (c : Clue). count_of c ≤ k) (sym (filled_here (j - 4 * p) (omega arith))) (omega arith))
        | yes n ↦ subst (λ (c : Clue). count_of c ≤ k) (sym (filled_other j (λ v u t. omega arith))) (w.words j l)
      ]
    ]

    pub none_stands : Stands s k l (record { states = a.states; newest = a.newest; clues = filled; paths = a.paths }) (with_none_waiting e p)
    none_stands =
        record {
          processes = w.processes;
          variables = w.variables;
          state = w.state;
          clue = λ q v j o. elim (ℕ_discrete q p) [
            | yes g ↦ ap clue_of (ap (λ (u : ℕ). get_or filled (4 * u + v) no_clue) g ∙ filled_here v (omega (arith, w.variables)))
                ∙ sym (ap (λ (t : ℕ → patterns.Clue). t v) (put_same e.clue p (λ x. empty) q g))
            | no g ↦ ap clue_of (filled_other (4 * q + v) (λ u d t. g (omega (arith, w.variables)))) ∙ w.clue q v j o
                ∙ sym (ap (λ (t : ℕ → patterns.Clue). t v) (put_other e.clue p (λ x. empty) q g))
          ];
          newest = w.newest;
          path = w.path;
          words = filled_words;
          lengths = w.lengths;
          fine = w.fine;
        }
