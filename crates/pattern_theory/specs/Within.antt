-- When a pattern is within another (docs/PATTERNS.md, "Within"): as a relation, and as the test of the judge. `within_is` says that they are the same.
use Rattle.std.specs.Prelude.{ℕ, ◌<◌, ◌≡◌, Bool, true, false, ◌&&◌, ◌||◌, not, List, [], ◌∷◌, ◌++◌, T, eqb}
use Rattle.std.proofs.Math.Option.{Option, none, some}
use Rattle.machine_pws.specs.Program.{Shape}
use Rattle.machine_pws.specs.Machine.{all_below}
use Rattle.list_theory.specs.Lists.{every, any_of}
use Rattle.pattern_theory.specs.Patterns.{Clue, empty, ends, contains, PathRead, Pattern}
use Rattle.pattern_theory.specs.Fitting.{Subsequence}

-- ---- the relation: a is within b

-- in a word of b, any value goes to anything, also to any value; a value to that value alone
abbrev pub Covers : Option ℕ → Option ℕ → Type 0
Covers none y = Unit {0}
Covers (some x) none = ⊥
Covers (some x) (some y) = x ≡ y

-- a's clue, then b's
pub data ClueWithin : Clue → Clue → Type 0 where
  asks_nothing : {k : Clue} → ClueWithin k (contains [])
  both_empty : ClueWithin empty empty
  both_contain : {w w' : List (Option ℕ)} → Subsequence Covers w' w → ClueWithin (contains w) (contains w')
  ends_contains : {w w' : List (Option ℕ)} {v : ℕ} → Subsequence Covers w' (w ++ (some v ∷ [])) → ClueWithin (ends w v) (contains w')
  both_end : {w w' : List (Option ℕ)} {v v' : ℕ} → v ≡ v' → Subsequence Covers w' w → ClueWithin (ends w v) (ends w' v')

-- a read of b goes to one of a of the same variable and value, an own one to an own one
pub record SameRead (r s : PathRead) : Type 0 where
  pub variable : r.variable ≡ s.variable
  pub value : r.value ≡ s.value
  pub own : T r.own → T s.own

-- each read is not own, and its value is asked of the newest message
abbrev pub Asked : (ℕ → Option ℕ) → List PathRead → Type 0
Asked newest [] = Unit {0}
Asked newest (r ∷ rs) = T (not r.own) × (newest r.variable ≡ some r.value) × Asked newest rs

-- the path of b is cut in two: the front is a subsequence of a's, the rest is asked of a's newest message
pub record PathWithin (newest : ℕ → Option ℕ) (ss rs : List PathRead) : Type 0 where
  pub front : List PathRead
  pub rest : List PathRead
  pub cut : rs ≡ front ++ rest
  pub read : Subsequence SameRead front ss
  pub asked : Asked newest rest

pub record Within (S : Shape) (a b : Pattern) : Type 0 where
  pub states : (p : ℕ) → p < S.processes → a.state p ≡ b.state p
  pub newest : (v : ℕ) → v < S.variables → (x : ℕ) → b.newest v ≡ some x → a.newest v ≡ some x
  pub clues : (p v : ℕ) → p < S.processes → v < S.variables → ClueWithin (a.clue p v) (b.clue p v)
  pub paths : (p : ℕ) → p < S.processes → PathWithin a.newest (a.path p) (b.path p)

-- ---- the test: each member goes to the first place that it can go to

abbrev pub subsequence : {A : Type 0} → (A → A → Bool) → List A → List A → Bool
subsequence R [] ys = true
subsequence R (x ∷ xs) [] = false
subsequence R (x ∷ xs) (y ∷ ys) = elim (R x y) [ true ↦ subsequence R xs ys | false ↦ subsequence R (x ∷ xs) ys ]

abbrev pub covers : Option ℕ → Option ℕ → Bool
covers none y = true
covers (some x) none = false
covers (some x) (some y) = eqb x y

abbrev pub clue_within : Clue → Clue → Bool
clue_within empty empty = true
clue_within empty (ends w' v') = false
clue_within empty (contains []) = true
clue_within empty (contains (x ∷ w')) = false
clue_within (ends w v) empty = false
clue_within (ends w v) (ends w' v') = eqb v v' && subsequence covers w' w
clue_within (ends w v) (contains w') = subsequence covers w' (w ++ (some v ∷ []))
clue_within (contains w) empty = false
clue_within (contains w) (ends w' v') = false
clue_within (contains w) (contains w') = subsequence covers w' w

-- is this value asked?
abbrev pub asks_for : Option ℕ → ℕ → Bool
asks_for none v = false
asks_for (some u) v = eqb u v

abbrev pub same_read : PathRead → PathRead → Bool
same_read r s = (eqb r.variable s.variable && eqb r.value s.value) && (not r.own || s.own)

abbrev pub asked : (ℕ → Option ℕ) → PathRead → Bool
asked newest r = not r.own && asks_for (newest r.variable) r.value

-- a's path, then b's
abbrev pub path_within : (ℕ → Option ℕ) → List PathRead → List PathRead → Bool
path_within newest [] rs = every (asked newest) rs
path_within newest (s ∷ ss) [] = true
path_within newest (s ∷ ss) (r ∷ rs) = elim (same_read r s) [ true ↦ path_within newest ss rs | false ↦ path_within newest ss (r ∷ rs) ]

-- what b asks of the newest message, a asks
abbrev pub newest_within : Option ℕ → Option ℕ → Bool
newest_within x none = true
newest_within x (some y) = asks_for x y

abbrev pub within : Shape → Pattern → Pattern → Bool
within S a b =
    (all_below S.processes (λ p. eqb (a.state p) (b.state p)) && all_below S.variables (λ v. newest_within (a.newest v) (b.newest v)))
    && (all_below S.processes (λ p. all_below S.variables (λ v. clue_within (a.clue p v) (b.clue p v)))
    && all_below S.processes (λ p. path_within a.newest (a.path p) (b.path p)))

-- a is within a single pattern of the list
abbrev pub within_list : Shape → List Pattern → Pattern → Bool
within_list S ps a = any_of (within S a) ps
