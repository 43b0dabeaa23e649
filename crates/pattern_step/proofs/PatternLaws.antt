-- The tests of patterns, from those of their parts.
use Prim.Native.Nat.{ℕ, zero, suc, ◌+◌, ◌<◌, ◌≤◌, min}
use mathlib.Core.Path.{◌≡◌, refl, sym, ap, ap₂, ◌∙◌}
use mathlib.Core.Bool.{Bool, ◌&&◌}
use mathlib.Core.Option.{Option, none, some}
use mathlib.Core.List.{List, [], ◌∷◌, ◌++◌}
use native.Mathlib.Omega.{arith}
use native.Mathlib.Numerals.{unary_clauses}
use native.Mathlib.Decide.{dec_le}
use Rattle.std.specs.Prelude as std
use Rattle.std.specs.Prelude.{Some, None}
use lib.ListN.{get_or, drop}
use lib.Dec.{eqb}
use Rattle.machine_pws.specs.Machine.{all_below}
use Rattle.machine_pws.specs.Program as shape
use Rattle.machine_pws.specs.Program.{Program}
use Rattle.list_theory.specs.Lists.{for_below}
use Rattle.file_records.specs.declared.program.Shape.{Shape}
use Rattle.file_records.specs.ProgramPart.{shape_of}
use Rattle.base.proofs.Tests.{all_equal}
use Rattle.pattern_theory.specs.Patterns as patterns
use Rattle.pattern_theory.specs.Patterns.{PathRead, target_pattern}
use Rattle.pattern_theory.specs.Within.{newest_within, clue_within, path_within, within}
use Rattle.pattern_theory.specs.Predecessors.{can_empty, joined}
use Rattle.pattern_theory.specs.Verdict.{is_some, start_fits}
use Rattle.pattern_step.specs.declared.patterns.Pattern.{Pattern}
use Rattle.pattern_step.specs.Meaning.{given, newest_of, clue_at, path_at, row_within, row_empty, Stands}
use Rattle.pattern_step.proofs.PathLaws.{joined_after, joined_append}

-- ---- joining all

module _ (f : ℕ → Option ℕ) (F : ℕ → List PathRead) where
  pub joined_next : (p : ℕ) {g h : ℕ → Option ℕ} → some g ≡ joined f (for_below p F) → some h ≡ joined g (F p) → some h ≡ joined f (for_below (p + 1) F)
  joined_next p e k = simp unary_clauses (k ∙ ap (λ (o : Option (ℕ → Option ℕ)). joined_after o (F p)) e ∙ sym (joined_append f (for_below p F) (F p)))

  pub joined_none : (p : ℕ) {g : ℕ → Option ℕ} → some g ≡ joined f (for_below p F) → none ≡ joined g (F p) → none ≡ joined f (for_below (suc p) F)
  joined_none p e k = k ∙ ap (λ (o : Option (ℕ → Option ℕ)). joined_after o (F p)) e ∙ sym (joined_append f (for_below p F) (F p))

  pub joined_never : (n p : ℕ) → p ≤ n → none ≡ joined f (for_below p F) → none ≡ joined f (for_below n F)
  joined_never zero p l e = e ∙ ap (λ (k : ℕ). joined f (for_below k F)) (let z : p ≡ 0 = omega arith in z)
  joined_never (suc n) p l e = elim (dec_le p n) [
    | yes d ↦ ap (λ (o : Option (ℕ → Option ℕ)). joined_after o (F n)) (joined_never n p d e) ∙ sym (joined_append f (for_below n F) (F n))
    | no d ↦ e ∙ ap (λ (k : ℕ). joined f (for_below k F)) (let z : p ≡ suc n = omega arith in z)
  ]

-- ---- within

module _ {s : Shape} {k l : ℕ} {a : Pattern} {e : patterns.Pattern} (w : Stands s k l a e) where
  pub few : min s.processes 4 ≡ s.processes
  few = let x = w.processes in omega arith

  pub narrow : min s.variables 4 ≡ s.variables
  narrow = let x = w.variables in omega arith

  pub all_few : (f g : ℕ → Bool) → ((p : ℕ) → p < s.processes → f p ≡ g p) → all_below (min s.processes 4) f ≡ all_below s.processes g
  all_few f g h = ap (λ (n : ℕ). all_below n f) few ∙ all_equal s.processes f g h

  pub all_narrow : (f g : ℕ → Bool) → ((v : ℕ) → v < s.variables → f v ≡ g v) → all_below (min s.variables 4) f ≡ all_below s.variables g
  all_narrow f g h = ap (λ (n : ℕ). all_below n f) narrow ∙ all_equal s.variables f g h

  pub row_is : (p : ℕ) → p < s.processes → row_empty s.variables a.clues p ≡ all_below s.variables (λ v. can_empty (e.clue p v))
  unfolding row_empty
  row_is p l = all_narrow (λ v. can_empty (clue_at a.clues p v)) (λ v. can_empty (e.clue p v)) (λ v m. ap can_empty (w.clue p v l m))

  module _ {m n : ℕ} {b : Pattern} {f : patterns.Pattern} (z : Stands s m n b f) where
    pub four_tests : (all_below (min s.processes 4) (λ p. eqb (get_or a.states p 0) (get_or b.states p 0))
        && all_below (min s.variables 4) (λ v. newest_within (newest_of a.newest v) (newest_of b.newest v)))
        && (all_below (min s.processes 4) (row_within s.variables a.clues b.clues)
        && all_below (min s.processes 4) (λ p. path_within (newest_of a.newest) (path_at a.paths p) (path_at b.paths p)))
        ≡ within (shape_of s) e f
    unfolding row_within
    four_tests =
        ap₂ ◌&&◌
        (ap₂ ◌&&◌
        (all_few (λ p. eqb (get_or a.states p 0) (get_or b.states p 0)) (λ p. eqb (e.state p) (f.state p)) (λ p l. ap₂ eqb (w.state p l) (z.state p l)))
        (all_narrow (λ v. newest_within (newest_of a.newest v) (newest_of b.newest v)) (λ v. newest_within (e.newest v) (f.newest v))
        (λ v l. ap₂ (λ (x y : ℕ → Option ℕ). newest_within (x v) (y v)) w.newest z.newest)))
        (ap₂ ◌&&◌
        (all_few (row_within s.variables a.clues b.clues) (λ p. all_below s.variables (λ v. clue_within (e.clue p v) (f.clue p v)))
        (λ p l. all_narrow (λ v. clue_within (clue_at a.clues p v) (clue_at b.clues p v)) (λ v. clue_within (e.clue p v) (f.clue p v))
        (λ v m. ap₂ clue_within (w.clue p v l m) (z.clue p v l m))))
        (all_few (λ p. path_within (newest_of a.newest) (path_at a.paths p) (path_at b.paths p)) (λ p. path_within e.newest (e.path p) (f.path p))
        (λ p l. ap (λ (x : ℕ → Option ℕ). path_within x (path_at a.paths p) (path_at b.paths p)) w.newest ∙ ap₂ (path_within e.newest) (w.path p l) (z.path p l))))

-- ---- a start

pub given_is : {A B : Type 0} (g : A → B) (o : std.Option A) → std.is_some o ≡ is_some (given g o)
given_is g None = refl
given_is g (Some x) = refl

pub for_equal : {A : Type 0} (n : ℕ) (f g : ℕ → List A) → ((i : ℕ) → i < n → f i ≡ g i) → for_below n f ≡ for_below n g
for_equal zero f g h = refl
for_equal (suc n) f g h = ap₂ ◌++◌ (for_equal n f g (λ i l. h i (omega arith))) (h n (omega arith))

zeros : (p : ℕ) → ◌≡◌ {A = ℕ} (get_or (0 ∷ 0 ∷ 0 ∷ 0 ∷ []) p 0) 0
zeros zero = refl
zeros (suc zero) = refl
zeros (suc (suc zero)) = refl
zeros (suc (suc (suc zero))) = refl
zeros (suc (suc (suc (suc p)))) = refl

module _ {s : Shape} {k l : ℕ} {a : Pattern} {e : patterns.Pattern} (w : Stands s k l a e) (P : Program) (initial : List ℕ) (h : P.shape ≡ shape_of s)
    (i : (p : ℕ) → P.initial p ≡ get_or initial p 0) where
  pub three_tests : (all_below (min s.processes 4) (λ p. eqb (get_or initial p 0) (get_or a.states p 0)) && all_below (min s.processes 4) (row_empty s.variables a.clues))
      && is_some (joined (newest_of a.newest) (for_below (min s.processes 4) (λ p. drop (get_or (0 ∷ 0 ∷ 0 ∷ 0 ∷ []) p 0) (path_at a.paths p))))
      ≡ start_fits P e
  three_tests =
      ap₂ ◌&&◌
      (ap₂ ◌&&◌
      (all_few w (λ p. eqb (get_or initial p 0) (get_or a.states p 0)) (λ p. eqb (P.initial p) (e.state p)) (λ p l. ap₂ eqb (sym (i p)) (w.state p l))
      ∙ ap (λ (n : ℕ). all_below n (λ p. eqb (P.initial p) (e.state p))) (sym processes))
      (all_few w (row_empty s.variables a.clues) (λ p. all_below s.variables (λ v. can_empty (e.clue p v))) (row_is w)
      ∙ ap₂ (λ (n m : ℕ). all_below n (λ p. all_below m (λ v. can_empty (e.clue p v)))) (sym processes) (sym variables)))
      (ap is_some (ap₂ joined w.newest
      (ap (λ (n : ℕ). for_below n (λ p. drop (get_or (0 ∷ 0 ∷ 0 ∷ 0 ∷ []) p 0) (path_at a.paths p))) (few w)
      ∙ for_equal s.processes (λ p. drop (get_or (0 ∷ 0 ∷ 0 ∷ 0 ∷ []) p 0) (path_at a.paths p)) e.path (λ p l. ap (λ (n : ℕ). drop n (path_at a.paths p)) (zeros p) ∙ w.path p l)
      ∙ ap (λ (n : ℕ). for_below n e.path) (sym processes))))
    where
      processes : P.shape.processes ≡ s.processes
      processes = ap (λ (S : shape.Shape). S.processes) h

      variables : P.shape.variables ≡ s.variables
      variables = ap (λ (S : shape.Shape). S.variables) h
