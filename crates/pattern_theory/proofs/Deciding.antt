-- The test of *within* is the relation.
use Prim.Native.Nat.{ℕ}
use mathlib.Core.Path.{◌≡◌, refl, sym, ap, subst, ◌∙◌}
use mathlib.Core.Logic.{⊎_elim, ◌↔◌}
use mathlib.Core.Bool.{Bool, true, false, ◌&&◌, ◌||◌, not}
use mathlib.Core.Option.{Option, none, some}
use mathlib.Core.List.{List, [], ◌∷◌, ◌++◌}
use native.Mathlib.Omega.{arith}
use lib.Dec.{T, eqb, eqb→eq, T_not}
use mir.Facts.{and_yes, yes_and, or_yes}
use Rattle.machine_pws.specs.Program.{Shape}
use Rattle.machine_pws.specs.Machine.{all_below}
use Rattle.machine_pws.proofs.Facts.{T_or_not, T_eq, or_left, or_right}
use Rattle.machine_pws.proofs.Cases.{all_yes}
use Rattle.list_theory.specs.Lists.{every}
use Rattle.list_theory.proofs.Lists.{yes_all, any_number, number_any}
use Rattle.pattern_theory.specs.Patterns.{Clue, empty, ends, contains, PathRead, Pattern}
use Rattle.pattern_theory.specs.Fitting.{Subsequence, nothing, keep, skip, no_pattern, pattern_of}
use Rattle.pattern_theory.specs.Within.{
  Covers,
  ClueWithin,
  asks_nothing,
  both_empty,
  both_contain,
  ends_contains,
  both_end,
  SameRead,
  Asked,
  PathWithin,
  Within,
  subsequence,
  covers,
  clue_within,
  asks_for,
  same_read,
  asked,
  path_within,
  newest_within,
  within,
  within_list,
}
use Rattle.pattern_theory.specs.Verdict.{WithinOne}
use Rattle.pattern_theory.proofs.Subsequences.{sub_nil, sub_cons, sub_tail}
use Rattle.pattern_theory.proofs.Storing.{every_cons}

-- ---- subsequences by the first place

module _ {A : Type 0} (R : A → A → Bool) (Q : A → A → Type 0) (to : (x y : A) → T (R x y) → Q x y) (of : (x y : A) → Q x y → T (R x y)) where
  pub test_sub : (xs ys : List A) → T (subsequence R xs ys) → Subsequence Q xs ys
  test_sub [] ys t = nothing
  test_sub (x ∷ xs) [] t = absurd t
  test_sub (x ∷ xs) (y ∷ ys) t = go (test_sub xs ys) (test_sub (x ∷ xs) ys) (R x y) refl t
    where
      go : (T (subsequence R xs ys) → Subsequence Q xs ys) → (T (subsequence R (x ∷ xs) ys) → Subsequence Q (x ∷ xs) ys) → (b : Bool) → R x y ≡ b
          → T (elim b [ true ↦ subsequence R xs ys | false ↦ subsequence R (x ∷ xs) ys ]) → Subsequence Q (x ∷ xs) (y ∷ ys)
      go f g true e t = keep (to x y (subst T (sym e) tt)) (f t)
      go f g false e t = skip (g t)

  pub sub_test : (xs ys : List A) → Subsequence Q xs ys → T (subsequence R xs ys)
  sub_test [] ys s = tt
  sub_test (x ∷ xs) [] s = absurd (sub_nil s)
  sub_test (x ∷ xs) (y ∷ ys) s = go (sub_test xs ys) (sub_test (x ∷ xs) ys) (R x y) refl
    where
      go : (Subsequence Q xs ys → T (subsequence R xs ys)) → (Subsequence Q (x ∷ xs) ys → T (subsequence R (x ∷ xs) ys)) → (b : Bool) → R x y ≡ b
          → T (elim b [ true ↦ subsequence R xs ys | false ↦ subsequence R (x ∷ xs) ys ])
      go f g true e = f (⊎_elim (λ r. r.1) sub_tail (sub_cons s))
      go f g false e = ⊎_elim (λ r. absurd (subst T e (of x y r.0))) g (sub_cons s)

-- ---- words and clues

covers_to : (x y : Option ℕ) → T (covers x y) → Covers x y
covers_to none y t = tt
covers_to (some u) none t = t
covers_to (some u) (some v) t = eqb→eq u v t

covers_of : (x y : Option ℕ) → Covers x y → T (covers x y)
covers_of none y c = tt
covers_of (some u) none c = c
covers_of (some u) (some v) c = T_eq u v c

word_to : (w w' : List (Option ℕ)) → T (subsequence covers w w') → Subsequence Covers w w'
word_to = test_sub covers Covers covers_to covers_of

word_of : (w w' : List (Option ℕ)) → Subsequence Covers w w' → T (subsequence covers w w')
word_of = sub_test covers Covers covers_to covers_of

clue_to : (k l : Clue) → T (clue_within k l) → ClueWithin k l
clue_to empty empty t = both_empty
clue_to empty (ends w' v') t = absurd t
clue_to empty (contains []) t = asks_nothing
clue_to empty (contains (x ∷ w')) t = absurd t
clue_to (ends w v) empty t = absurd t
clue_to (ends w v) (ends w' v') t = let r = and_yes (eqb v v') (subsequence covers w' w) t in both_end (eqb→eq v v' r.0) (word_to w' w r.1)
clue_to (ends w v) (contains w') t = ends_contains (word_to w' (w ++ (some v ∷ [])) t)
clue_to (contains w) empty t = absurd t
clue_to (contains w) (ends w' v') t = absurd t
clue_to (contains w) (contains w') t = both_contain (word_to w' w t)

nothing_asked : (k : Clue) → T (clue_within k (contains []))
nothing_asked empty = tt
nothing_asked (ends w v) = tt
nothing_asked (contains w) = tt

clue_of : {k l : Clue} → ClueWithin k l → T (clue_within k l)
clue_of (asks_nothing {k = k}) = nothing_asked k
clue_of both_empty = tt
clue_of (both_contain {w = w} {w' = w'} s) = word_of w' w s
clue_of (ends_contains {w = w} {w' = w'} {v = v} s) = word_of w' (w ++ (some v ∷ [])) s
clue_of (both_end {w = w} {w' = w'} {v = v} {v' = v'} e s) = yes_and (eqb v v') (subsequence covers w' w) (T_eq v v' e) (word_of w' w s)

-- ---- paths

same_to : (r s : PathRead) → T (same_read r s) → SameRead r s
same_to r s t =
    let a = and_yes (eqb r.variable s.variable && eqb r.value s.value) (not r.own || s.own) t in
    let b = and_yes (eqb r.variable s.variable) (eqb r.value s.value) a.0 in
    record {
      variable = eqb→eq r.variable s.variable b.0;
      value = eqb→eq r.value s.value b.1;
      own = λ o. ⊎_elim (λ n. absurd (T_not r.own n o)) (λ y. y) (or_yes (not r.own) s.own a.1);
    }

same_of : (r s : PathRead) → SameRead r s → T (same_read r s)
same_of r s e =
    yes_and (eqb r.variable s.variable && eqb r.value s.value) (not r.own || s.own)
    (yes_and (eqb r.variable s.variable) (eqb r.value s.value) (T_eq r.variable s.variable e.variable) (T_eq r.value s.value e.value))
    (⊎_elim (λ o. or_right (not r.own) s.own (e.own o)) (λ o. or_left (not r.own) s.own o) (T_or_not r.own))

asks_to : (o : Option ℕ) (v : ℕ) → T (asks_for o v) → o ≡ some v
asks_to none v t = absurd t
asks_to (some u) v t = ap some (eqb→eq u v t)

asks_of : (o : Option ℕ) (v : ℕ) → o ≡ some v → T (asks_for o v)
asks_of o v e = subst (λ (x : Option ℕ). T (asks_for x v)) (sym e) (T_eq v v refl)

every_both {ℓ} : {A : Type ℓ} (f : A → Bool) (x : A) (xs : List A) → T (every f (x ∷ xs)) → T (f x) × T (every f xs)
every_both f x xs t = go (f x) refl t
  where
    go : (b : Bool) → f x ≡ b → T (elim b [ true ↦ every f xs | false ↦ false ]) → T (f x) × T (every f xs)
    go true e t = (subst T (sym e) tt, t)
    go false e t = absurd t

module _ (newest : ℕ → Option ℕ) where
  asked_to : (rs : List PathRead) → T (every (asked newest) rs) → Asked newest rs
  asked_to [] t = tt
  asked_to (r ∷ rs) t =
      let a = every_both (asked newest) r rs t in
      let b = and_yes (not r.own) (asks_for (newest r.variable) r.value) a.0 in
      (b.0, asks_to (newest r.variable) r.value b.1, asked_to rs a.1)

  asked_of : (rs : List PathRead) → Asked newest rs → T (every (asked newest) rs)
  asked_of [] a = tt
  asked_of (r ∷ rs) a =
      every_cons (asked newest) r rs
      (yes_and (not r.own) (asks_for (newest r.variable) r.value) a.0 (asks_of (newest r.variable) r.value a.1)) (asked_of rs a.2)

  path_to : (ss rs : List PathRead) → T (path_within newest ss rs) → PathWithin newest ss rs
  path_to [] rs t = record { front = []; rest = rs; cut = refl; read = nothing; asked = asked_to rs t }
  path_to (s ∷ ss) [] t = record { front = []; rest = []; cut = refl; read = nothing; asked = tt }
  path_to (s ∷ ss) (r ∷ rs) t = go (path_to ss rs) (path_to ss (r ∷ rs)) (same_read r s) refl t
    where
      go : (T (path_within newest ss rs) → PathWithin newest ss rs) → (T (path_within newest ss (r ∷ rs)) → PathWithin newest ss (r ∷ rs)) → (b : Bool)
          → same_read r s ≡ b → T (elim b [ true ↦ path_within newest ss rs | false ↦ path_within newest ss (r ∷ rs) ]) → PathWithin newest (s ∷ ss) (r ∷ rs)
      go f g true e t =
          let w = f t in
          record {
            front = r ∷ w.front;
            rest = w.rest;
            cut = ap (λ (l : List PathRead). r ∷ l) w.cut;
            read = keep (same_to r s (subst T (sym e) tt)) w.read;
            asked = w.asked;
          }
      go f g false e t = let w = g t in record { front = w.front; rest = w.rest; cut = w.cut; read = skip w.read; asked = w.asked }

  front_of : (ss front rest : List PathRead) → Subsequence SameRead front ss → Asked newest rest → T (path_within newest ss (front ++ rest))
  front_of [] [] rest p a = asked_of rest a
  front_of [] (f ∷ front) rest p a = absurd (sub_nil p)
  front_of (s ∷ ss) [] [] p a = tt
  front_of (s ∷ ss) [] (r ∷ rest) p a = go (front_of ss [] rest nothing a.2) (front_of ss [] (r ∷ rest) nothing a) (same_read r s)
    where
      go : T (path_within newest ss rest) → T (path_within newest ss (r ∷ rest)) → (b : Bool)
          → T (elim b [ true ↦ path_within newest ss rest | false ↦ path_within newest ss (r ∷ rest) ])
      go f g true = f
      go f g false = g
  front_of (s ∷ ss) (f ∷ front) rest p a = go (λ q. front_of ss front rest q a) (λ q. front_of ss (f ∷ front) rest q a) (same_read f s) refl
    where
      go : (Subsequence SameRead front ss → T (path_within newest ss (front ++ rest))) → (Subsequence SameRead (f ∷ front) ss → T (path_within newest ss (f ∷ (front ++ rest))))
          → (b : Bool) → same_read f s ≡ b → T (elim b [ true ↦ path_within newest ss (front ++ rest) | false ↦ path_within newest ss (f ∷ (front ++ rest)) ])
      go g h true e = g (⊎_elim (λ r. r.1) sub_tail (sub_cons p))
      go g h false e = ⊎_elim (λ r. absurd (subst T e (same_of f s r.0))) h (sub_cons p)

  path_of : (ss rs : List PathRead) → PathWithin newest ss rs → T (path_within newest ss rs)
  path_of ss rs w = subst (λ (l : List PathRead). T (path_within newest ss l)) (sym w.cut) (front_of ss w.front w.rest w.read w.asked)

-- ---- patterns

newest_to : (x y : Option ℕ) → T (newest_within x y) → (v : ℕ) → y ≡ some v → x ≡ some v
newest_to x none t v e = let z : ◌≡◌ {A = ℕ} 0 1 = cc in absurd (omega arith)
newest_to x (some u) t v e = asks_to x u t ∙ e

newest_of : (x y : Option ℕ) → ((v : ℕ) → y ≡ some v → x ≡ some v) → T (newest_within x y)
newest_of x none f = tt
newest_of x (some u) f = asks_of x u (f u refl)

module _ (S : Shape) (a b : Pattern) where
  abbrev states : Bool
  states = all_below S.processes (λ p. eqb (a.state p) (b.state p))

  abbrev newests : Bool
  newests = all_below S.variables (λ v. newest_within (a.newest v) (b.newest v))

  abbrev clues : Bool
  clues = all_below S.processes (λ p. all_below S.variables (λ v. clue_within (a.clue p v) (b.clue p v)))

  abbrev paths : Bool
  paths = all_below S.processes (λ p. path_within a.newest (a.path p) (b.path p))

  pub within_is : T (within S a b) ↔ Within S a b
  within_is = (
    λ t.
        let h = and_yes (states && newests) (clues && paths) t in
        let i = and_yes states newests h.0 in
        let j = and_yes clues paths h.1 in
        record {
          states = λ p l. eqb→eq (a.state p) (b.state p) (all_yes S.processes (λ p. eqb (a.state p) (b.state p)) i.0 p l);
          newest = λ v l x e. newest_to (a.newest v) (b.newest v) (all_yes S.variables (λ v. newest_within (a.newest v) (b.newest v)) i.1 v l) x e;
          clues = λ p v l k. clue_to (a.clue p v) (b.clue p v)
              (all_yes S.variables (λ v. clue_within (a.clue p v) (b.clue p v))
              (all_yes S.processes (λ p. all_below S.variables (λ v. clue_within (a.clue p v) (b.clue p v))) j.0 p l) v k);
          paths = λ p l. path_to a.newest (a.path p) (b.path p) (all_yes S.processes (λ p. path_within a.newest (a.path p) (b.path p)) j.1 p l);
        },
    λ w.
        yes_and (states && newests) (clues && paths)
        (yes_and states newests
        (yes_all S.processes (λ p. eqb (a.state p) (b.state p)) (λ p l. T_eq (a.state p) (b.state p) (w.states p l)))
        (yes_all S.variables (λ v. newest_within (a.newest v) (b.newest v)) (λ v l. newest_of (a.newest v) (b.newest v) (w.newest v l))))
        (yes_and clues paths
        (yes_all S.processes (λ p. all_below S.variables (λ v. clue_within (a.clue p v) (b.clue p v)))
        (λ p l. yes_all S.variables (λ v. clue_within (a.clue p v) (b.clue p v)) (λ v k. clue_of (w.clues p v l k))))
        (yes_all S.processes (λ p. path_within a.newest (a.path p) (b.path p)) (λ p l. path_of a.newest (a.path p) (b.path p) (w.paths p l)))),
  )

pub within_one : (S : Shape) (ps : List Pattern) (a : Pattern) → T (within_list S ps a) ↔ WithinOne S ps a
within_one S ps a = (
  λ t. let r = any_number (within S a) no_pattern ps t in record { number = r.0; exists = r.1; within = (within_is S a (pattern_of ps r.0)).0 r.2 },
  λ w. number_any (within S a) no_pattern ps w.number w.exists ((within_is S a (pattern_of ps w.number)).1 w.within),
)
