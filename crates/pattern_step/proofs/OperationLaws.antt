-- The predecessors of the code are those of the definitions.
use Prim.Native.Nat.{ℕ, suc, ◌+◌, ◌*◌, ◌<◌, ◌≤◌}
use mathlib.Core.Path.{◌≡◌, sym, ap, ap₂, subst, ◌∙◌}
use mathlib.Core.Logic.{◌≢◌}
use mathlib.Core.Bool.{Bool, true, false, cond, ◌&&◌}
use mathlib.Core.Option.{Option, none, some}
use mathlib.Core.List.{List, [], ◌∷◌}
use native.Mathlib.Omega.{arith}
use Rattle.std.specs.Prelude as std
use Rattle.std.specs.Prelude.{Some, None}
use lib.ListN.{length, get_or}
use lib.Dec.{eqb, leb}
use borrow.Author.Tests.{eq-eqb, ne_eqb, le-leb, lt-leb}
use Rattle.file_records.specs.declared.program.Shape.{Shape}
use Rattle.pattern_theory.specs.Patterns as patterns
use Rattle.pattern_theory.specs.Patterns.{PathRead}
use Rattle.pattern_theory.specs.Predecessors.{provided, from_option, first_own}
use Rattle.pattern_step.specs.declared.clues.Clue.{Clue}
use Rattle.pattern_step.specs.declared.paths.PathReads.{PathReads}
use Rattle.pattern_step.specs.declared.patterns.Pattern.{Pattern}
use Rattle.pattern_step.specs.Meaning.{clue_of, count_of, no_clue, no_path, path_of, FineReads, place_of, Stands, GivenBy, absent, present}
use Rattle.pattern_step.specs.Numbers.{inserted_at, read_numbered}

-- ---- what is given

module _ {s : Shape} {xs : List patterns.Pattern} where
  pub gives_none : {r : std.Option Pattern} → r ≡ None → [] ≡ xs → GivenBy s r xs
  gives_none {r} n e = subst (λ (o : std.Option Pattern). GivenBy s o xs) (sym n) (subst (GivenBy s None) e absent)

  pub gives_one : {a : Pattern} {b : patterns.Pattern} → Stands s 9 17 a b → b ∷ [] ≡ xs → GivenBy s (Some a) xs
  gives_one {a} w e = subst (GivenBy s (Some a)) e (present w)

pub provided_no : {t : Bool} (ps : List patterns.Pattern) → t ≡ false → [] ≡ provided t ps
provided_no ps e = sym (ap (λ (b : Bool). provided b ps) e)

pub provided_yes : {t : Bool} (ps : List patterns.Pattern) → t ≡ true → ps ≡ provided t ps
provided_yes ps e = sym (ap (λ (b : Bool). provided b ps) e)

module _ {A : Type 0} (f : A → patterns.Pattern) {o : Option A} where
  pub from_none : none ≡ o → [] ≡ from_option o f
  from_none e = ap (λ (p : Option A). from_option p f) e

  pub from_some : {x : A} → some x ≡ o → f x ∷ [] ≡ from_option o f
  from_some e = ap (λ (p : Option A). from_option p f) e

-- ---- parts

module _ {s : Shape} {k l : ℕ} {a : Pattern} {e : patterns.Pattern} (w : Stands s k l a e) (p : ℕ) (b : p < s.processes) where
  pub in_four : p < 4
  in_four = omega (arith, w.processes)

  module _ (x : ℕ) (d : x < s.variables) where
    pub var_four : x < 4
    var_four = omega (arith, w.variables)

    pub clue_here : (c : Clue) → (p < 4 → x < 4 → c ≡ get_or a.clues (4 * p + x) no_clue) → clue_of c ≡ e.clue p x
    clue_here c h = ap clue_of (h in_four var_four) ∙ w.clue p x b d

    pub clue_most : (c : Clue) → (p < 4 → x < 4 → c ≡ get_or a.clues (4 * p + x) no_clue) → count_of c ≤ k
    clue_most c h = subst (λ (y : Clue). count_of y ≤ k) (sym (h in_four var_four)) (w.words (4 * p + x) (omega (arith, in_four, var_four)))

  module _ (r : PathReads) (h : p < 4 → r ≡ get_or a.paths p no_path) where
    pub path_here : path_of r ≡ e.path p
    path_here = ap path_of (h in_four) ∙ w.path p b

    pub path_most : r.count ≤ l
    path_most = subst (λ (y : PathReads). y.count ≤ l) (sym (h in_four)) (w.lengths p in_four)

    pub path_fine : FineReads r
    path_fine = subst FineReads (sym (h in_four)) (w.fine p in_four)

-- ---- reading a message, by number

module _ (x v : ℕ) (path : List PathRead) (n : ℕ) where
  numbered_own : {u : ℕ} → some u ≡ first_own x path → cond (eqb n 0 && eqb u v) (path ∷ []) [] ≡ read_numbered x v path n
  numbered_own e = ap (λ (o : Option ℕ). elim o [ some u ↦ cond (eqb n 0 && eqb u v) (path ∷ []) [] | none ↦ cond (leb n (place_of x path)) (inserted_at x v path n ∷ []) [] ]) e

  numbered_free : none ≡ first_own x path → cond (leb n (place_of x path)) (inserted_at x v path n ∷ []) [] ≡ read_numbered x v path n
  numbered_free e = ap (λ (o : Option ℕ). elim o [ some u ↦ cond (eqb n 0 && eqb u v) (path ∷ []) [] | none ↦ cond (leb n (place_of x path)) (inserted_at x v path n ∷ []) [] ]) e

  module _ {u : ℕ} (e : some u ≡ first_own x path) where
    pub own_behind : n ≢ 0 → [] ≡ read_numbered x v path n
    own_behind d = sym (ap (λ (b : Bool). cond (b && eqb u v) (path ∷ []) []) (ne_eqb n 0 d)) ∙ numbered_own e

    pub own_other : n ≡ 0 → u ≢ v → [] ≡ read_numbered x v path n
    own_other d f = sym (ap₂ (λ (b c : Bool). cond (b && c) (path ∷ []) []) (eq-eqb n 0 d) (ne_eqb u v f)) ∙ numbered_own e

    pub own_same : n ≡ 0 → u ≡ v → path ∷ [] ≡ read_numbered x v path n
    own_same d f = sym (ap₂ (λ (b c : Bool). cond (b && c) (path ∷ []) []) (eq-eqb n 0 d) (eq-eqb u v f)) ∙ numbered_own e

  module _ (e : none ≡ first_own x path) where
    pub free_past : place_of x path < n → [] ≡ read_numbered x v path n
    free_past l = sym (ap (λ (b : Bool). cond b (inserted_at x v path n ∷ []) []) (lt-leb n (place_of x path) l)) ∙ numbered_free e

    pub free_in : n ≤ place_of x path → inserted_at x v path n ∷ [] ≡ read_numbered x v path n
    free_in l = sym (ap (λ (b : Bool). cond b (inserted_at x v path n ∷ []) []) (le-leb n (place_of x path) l)) ∙ numbered_free e

pub place_most : (x : ℕ) (path : List PathRead) → place_of x path ≤ length path
place_most x [] = omega arith
place_most x (r ∷ rs) = go (eqb r.variable x) (place_most x rs)
  where
    go : (b : Bool) → place_of x rs ≤ length rs → cond b 0 (suc (place_of x rs)) ≤ suc (length rs)
    go true l = omega arith
    go false l = omega arith
