-- The patterns before a serialise and an arw.
use Prim.Native.Nat.{ℕ, suc}
use mathlib.Core.Path.{◌≡◌, refl, sym, ap, subst, ◌∙◌}
use mathlib.Core.Bool.{Bool, true, false, cond}
use mathlib.Core.Option.{Option, none, some}
use mathlib.Core.List.{List, [], ◌∷◌}
use native.Mathlib.Omega.{arith}
use native.Mathlib.Decide.{ℕ_discrete}
use lib.ListN.{take, drop}
use lib.Dec.{eqb}
use Rattle.std.specs.Prelude.{Some, None}
use Rattle.file_records.specs.declared.program.Shape.{Shape}
use Rattle.pattern_theory.specs.Patterns as patterns
use Rattle.pattern_theory.specs.Patterns.{PathRead}
use Rattle.pattern_theory.specs.Within.{covers}
use Rattle.pattern_theory.specs.Predecessors.{agrees, Cut, behind, own_cut, with_clue, with_path, with_paths, with_newest}
use Rattle.pattern_step.specs.declared.patterns.Pattern.{Pattern}
use Rattle.pattern_step.specs.Meaning.{not_own, place_of, Stands, MessageBy, no_message_lem, message}
use Rattle.pattern_step.proofs.EditLaws.{put_same, put_other, wider}

abbrev pub cut_of : ℕ → List PathRead → Cut
cut_of c rs = record { front = take c rs; end = drop c rs }

-- p's own cut is that of the path whose first read of x is not own
pub own_cut_lem : (x : ℕ) (path : List PathRead) → cut_of (place_of x path) (not_own (place_of x path) path) ≡ own_cut x path
own_cut_lem x [] = refl
own_cut_lem x (r ∷ rs) = go (eqb r.variable x) (own_cut_lem x rs)
  where
    go : (b : Bool) → cut_of (place_of x rs) (not_own (place_of x rs) rs) ≡ own_cut x rs
        → cut_of (cond b 0 (suc (place_of x rs))) (not_own (cond b 0 (suc (place_of x rs))) (r ∷ rs))
        ≡ elim b [ true ↦ record { front = []; end = record { variable = r.variable; value = r.value; own = false } ∷ rs } | false ↦ behind r (own_cut x rs) ]
    go true h = refl
    go false h = ap (behind r) h

module _ {s : Shape} {e : patterns.Pattern} {to : (ℕ → Option ℕ) → (ℕ → List PathRead) → List patterns.Pattern} where
  pub no_given : {xs : List patterns.Pattern} → MessageBy s e to None xs → [] ≡ xs
  no_given no_message_lem = refl

  pub given_one : {a : Pattern} {xs : List patterns.Pattern} → MessageBy s e to (Some a) xs
      → (newest : ℕ → Option ℕ) × (fronts : ℕ → List PathRead) × Stands s 8 16 a (with_paths (with_newest e newest) fronts) × (to newest fronts ≡ xs)
  given_one (message newest fronts w) = (newest, fronts, w, refl)

pub same_path : {s : Shape} {k l : ℕ} {a : Pattern} {e : patterns.Pattern} (p : ℕ) → Stands s k l a e → Stands s k l a (with_path e p (e.path p))
same_path {s} {k} {l} {a} {e} p w =
    record {
      processes = w.processes;
      variables = w.variables;
      state = w.state;
      clue = w.clue;
      newest = w.newest;
      path = λ q m. w.path q m ∙ elim (ℕ_discrete q p) [ yes d ↦ ap e.path d ∙ sym (put_same e.path p (e.path p) q d) | no d ↦ sym (put_other e.path p (e.path p) q d) ];
      words = w.words;
      lengths = w.lengths;
      fine = w.fine;
    }

pub agrees_is : (x : Option ℕ) (v : ℕ) → covers x (some v) ≡ agrees x v
agrees_is none v = refl
agrees_is (some u) v = refl

pub finished : {s : Shape} {a : Pattern} (e : patterns.Pattern) (p : ℕ) (rs : List PathRead) (newest : ℕ → Option ℕ) (fronts : ℕ → List PathRead) {y x : ℕ} {k l : patterns.Clue} {f g : ℕ → Option ℕ}
    → Stands s 9 16 a (with_newest (with_clue (with_paths (with_newest (with_path e p rs) newest) fronts) p y k) f) → y ≡ x → k ≡ l → f ≡ g
    → Stands s 9 17 a (with_paths (with_newest (with_clue e p x l) g) fronts)
finished {s} {a} e p rs newest fronts {y} {x} {k} {l} {f} {g} w h i j =
    wider (subst (λ (u : ℕ). Stands s 9 16 a (with_paths (with_newest (with_clue e p u l) g) fronts)) h
    (subst (λ (m : patterns.Clue). Stands s 9 16 a (with_paths (with_newest (with_clue e p y m) g) fronts)) i
    (subst (λ (n : ℕ → Option ℕ). Stands s 9 16 a (with_paths (with_newest (with_clue e p y k) n) fronts)) j w))) (omega arith) (omega arith)
