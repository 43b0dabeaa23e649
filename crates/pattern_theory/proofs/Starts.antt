-- A pattern passes the test of number 10 exactly if a start of some memory fits it.
use Prim.Native.Nat.{ℕ, zero, suc, ◌+◌, ◌<◌, ◌≤◌}
use mathlib.Core.Path.{◌≡◌, refl, sym, ap, subst, ◌∙◌}
use mathlib.Core.Logic.{◌↔◌}
use mathlib.Core.Bool.{Bool, true, false, cond, ◌&&◌, not}
use mathlib.Core.Option.{Option, none, some}
use mathlib.Core.List.{List, [], ◌∷◌, ◌++◌}
use native.Mathlib.Omega.{arith}
use native.Mathlib.Decide.{dec_lt, ℕ_discrete}
use lib.ListN.{length, get_or, get_or-eq_default}
use lib.Dec.{T, eqb, eqb→eq, ltb, T_not}
use borrow.Author.Tests.{lt-ltb, le-ltb}
use mir.Facts.{and_yes, yes_and}
use Rattle.machine_pws.specs.Program.{Shape, Program, WellFormed}
use Rattle.machine_pws.specs.Machine.{Configuration, put, all_below}
use Rattle.machine_pws.specs.Configurations.{StartingMemory, start_with}
use Rattle.machine_pws.proofs.Facts.{T_eq, put_same, put_each, last_is}
use Rattle.machine_pws.proofs.Cases.{all_yes}
use Rattle.machine_pws.proofs.Starts.{start_exists}
use Rattle.list_theory.specs.Lists.{for_below}
use Rattle.list_theory.proofs.Lists.{yes_all}
use Rattle.pattern_theory.specs.Patterns.{Clue, empty, ends, contains, PathRead, Pattern}
use Rattle.pattern_theory.specs.Fitting.{nothing, Stands, FitsClue, held, PathFrom}
use Rattle.pattern_theory.specs.Predecessors.{can_empty, agrees, joined}
use Rattle.pattern_theory.specs.Verdict.{ReadsOf, PatternIn, is_some, start_fits, StartFits}
use Rattle.pattern_theory.proofs.Joining.{at_below, joins}
use Rattle.pattern_theory.proofs.Appending.{all_newest}
use Rattle.pattern_theory.proofs.Clues.{empties}

-- ---- what a joined newest message has

-- each read is not own, and its value is asked
abbrev AllAsked : (ℕ → Option ℕ) → List PathRead → Type 0
AllAsked newest [] = Unit {0}
AllAsked newest (r ∷ rs) = T (not r.own) × (newest r.variable ≡ some r.value) × AllAsked newest rs

record JoinedIs (S : Shape) (newest newer : ℕ → Option ℕ) (rs : List PathRead) : Type 0 where
  keeps : (v x : ℕ) → newest v ≡ some x → newer v ≡ some x
  asks : AllAsked newer rs
  values : (v x : ℕ) → v < S.variables → newer v ≡ some x → x < S.values v

agrees_same : (o : Option ℕ) (u x : ℕ) → T (agrees o u) → o ≡ some x → some u ≡ some x
agrees_same none u x t e = let z : ◌≡◌ {A = ℕ} 0 1 = cc in absurd (omega arith)
agrees_same (some y) u x t e = ap some (sym (eqb→eq y u t)) ∙ e

same_some : {x y : ℕ} → some x ≡ some y → x ≡ y
same_some e = cc

module _ (S : Shape) where
  joined_is : (rs : List PathRead) (newest newer : ℕ → Option ℕ) → ((v x : ℕ) → v < S.variables → newest v ≡ some x → x < S.values v) → ReadsOf S rs
      → joined newest rs ≡ some newer → JoinedIs S newest newer rs
  joined_is [] newest newer i o e =
      let same : newest ≡ newer = cc in
      record {
        keeps = λ v x d. subst (λ (f : ℕ → Option ℕ). f v ≡ some x) same d;
        asks = tt;
        values = λ v x l d. i v x l (subst (λ (f : ℕ → Option ℕ). f v ≡ some x) (sym same) d);
      }
  joined_is (r ∷ rs) newest newer i o e = go (joined_is rs (put newest r.variable (some r.value)) newer next o.2) r.own refl (agrees (newest r.variable) r.value) refl e
    where
      next : (v x : ℕ) → v < S.variables → put newest r.variable (some r.value) v ≡ some x → x < S.values v
      next v x l = put_each (λ v (u : Option ℕ). v < S.variables → u ≡ some x → x < S.values v) newest r.variable (some r.value) v
          (λ h d. subst (λ (y : ℕ). y < S.values r.variable) (same_some d) o.1) (λ n h d. i v x h d) l

      go : (joined (put newest r.variable (some r.value)) rs ≡ some newer → JoinedIs S (put newest r.variable (some r.value)) newer rs)
          → (w : Bool) → r.own ≡ w → (t : Bool) → agrees (newest r.variable) r.value ≡ t
          → elim w [ true ↦ none | false ↦ elim t [ true ↦ joined (put newest r.variable (some r.value)) rs | false ↦ none ] ] ≡ some newer
          → JoinedIs S newest newer (r ∷ rs)
      go f true d t g e = let z : ◌≡◌ {A = ℕ} 0 1 = cc in absurd (omega arith)
      go f false d false g e = let z : ◌≡◌ {A = ℕ} 0 1 = cc in absurd (omega arith)
      go f false d true g e =
          let j = f e in
          record {
            keeps = λ v x q. j.keeps v x (put_each (λ v (u : Option ℕ). newest v ≡ some x → u ≡ some x) newest r.variable (some r.value) v
                (agrees_same (newest r.variable) r.value x (subst T (sym g) tt)) (λ n h. h) q);
            asks = (subst (λ (b : Bool). T (not b)) (sym d) tt, j.keeps r.variable r.value (put_same newest r.variable (some r.value)), j.asks);
            values = j.values;
          }

  reads_append : (rs ss : List PathRead) → ReadsOf S rs → ReadsOf S ss → ReadsOf S (rs ++ ss)
  reads_append [] ss a b = b
  reads_append (r ∷ rs) ss a b = (a.0, a.1, reads_append rs ss a.2 b)

  reads_below : (n : ℕ) (f : ℕ → List PathRead) → ((q : ℕ) → q < n → ReadsOf S (f q)) → ReadsOf S (for_below n f)
  reads_below zero f a = tt
  reads_below (suc n) f a = reads_append (for_below n f) (f n) (reads_below n f (λ q l. a q (omega arith))) (a n (omega arith))

asked_append : (newest : ℕ → Option ℕ) (rs ss : List PathRead) → AllAsked newest (rs ++ ss) → AllAsked newest rs × AllAsked newest ss
asked_append newest [] ss a = (tt, a)
asked_append newest (r ∷ rs) ss a = let w = asked_append newest rs ss a.2 in ((a.0, a.1, w.0), w.1)

asked_below : (newest : ℕ → Option ℕ) (n : ℕ) (f : ℕ → List PathRead) → AllAsked newest (for_below n f) → (q : ℕ) → q < n → AllAsked newest (f q)
asked_below newest zero f a q l = absurd (omega arith)
asked_below newest (suc n) f a q l =
    let w = asked_append newest (for_below n f) (f n) a in
    elim (ℕ_discrete q n) [ yes e ↦ subst (λ (i : ℕ). AllAsked newest (f i)) (sym e) w.1 | no e ↦ asked_below newest n f w.0 q (omega arith) ]

some_is : {A : Type 0} (o : Option A) → T (is_some o) → (x : A) × (o ≡ some x)
some_is none t = absurd t
some_is (some x) t = (x, refl)

is_some_lem : {A : Type 0} (o : Option A) (x : A) → o ≡ some x → T (is_some o)
is_some_lem o x e = subst (λ u. T (is_some u)) (sym e) tt

-- ---- a memory with the values that are asked

abbrev or_zero : Option ℕ → ℕ
or_zero none = 0
or_zero (some x) = x

-- f i, .., f (i + n - 1)
abbrev values_from : ℕ → ℕ → (ℕ → ℕ) → List ℕ
values_from zero i f = []
values_from (suc n) i f = f i ∷ values_from n (suc i) f

values_length : (n i : ℕ) (f : ℕ → ℕ) → length (values_from n i f) ≡ n
values_length zero i f = refl
values_length (suc n) i f = ap suc (values_length n (suc i) f)

values_at : (n i : ℕ) (f : ℕ → ℕ) (v : ℕ) → v < n → get_or (values_from n i f) v 0 ≡ f (i + v)
values_at zero i f v l = absurd (omega arith)
values_at (suc n) i f zero l = let e : i ≡ i + 0 = omega arith in ap f e
values_at (suc n) i f (suc v) l = let e : suc i + v ≡ i + suc v = omega arith in values_at n (suc i) f v (omega arith) ∙ ap f e

emptied_fits : (k : Clue) → T (can_empty k) → FitsClue k []
emptied_fits empty t = refl
emptied_fits (ends w v) t = absurd t
emptied_fits (contains []) t = nothing
emptied_fits (contains (x ∷ w)) t = absurd t

or_zero_lem : (o : Option ℕ) (n : ℕ) → 1 ≤ n → ((x : ℕ) → o ≡ some x → x < n) → or_zero o < n
or_zero_lem none n l f = l
or_zero_lem (some x) n l f = f x refl

asked_stands : (o : Option ℕ) (y : ℕ) → ((x : ℕ) → o ≡ some x → y ≡ x) → Stands o y
asked_stands none y f = tt
asked_stands (some x) y f = sym (f x refl)

module _ (P : Program) (R : WellFormed P) (a : Pattern) (o : PatternIn P.shape a) where
  abbrev S : Shape
  S = P.shape

  abbrev states : Bool
  states = all_below S.processes (λ p. eqb (P.initial p) (a.state p))

  abbrev clues : Bool
  clues = all_below S.processes (λ p. all_below S.variables (λ v. can_empty (a.clue p v)))

  abbrev together : Option (ℕ → Option ℕ)
  together = joined a.newest (for_below S.processes a.path)

  start_of_lem : StartFits P a → T (start_fits P a)
  start_of_lem w =
      let c = w.configuration in
      let s = w.start in
      let f = w.fits in
      let m = c.memory in
      let one = s.one in
      let val = held m (length m.channel) in
      let j =
      joins val a.newest f.newest (for_below S.processes a.path)
      (at_below val S.processes a.path
      (λ p l. all_newest m p (a.path p) (subst (λ (k : ℕ). PathFrom m p k (a.path p)) (s.pointers p l ∙ sym one) (f.paths p l)))) in
      yes_and (states && clues) (is_some together)
      (yes_and states clues
      (yes_all S.processes (λ p. eqb (P.initial p) (a.state p)) (λ p l. T_eq (P.initial p) (a.state p) (sym (s.states p l) ∙ f.states p l)))
      (yes_all S.processes (λ p. all_below S.variables (λ v. can_empty (a.clue p v)))
      (λ p l. yes_all S.variables (λ v. can_empty (a.clue p v)) (λ v h. empties (a.clue p v) (c.queue p v) (s.queues p v l h) (f.queues p v l h)))))
      (is_some_lem together j.newer j.is)

  module _ (newer : ℕ → Option ℕ) (j : JoinedIs S a.newest newer (for_below S.processes a.path)) where
    abbrev value : ℕ → ℕ
    value v = cond (ltb v S.variables) (or_zero (newer v)) 0

    -- the memory has room for so many values
    abbrev room : ℕ
    room = S.room

    abbrev memory : List ℕ
    memory = values_from room 0 value

    memory_at : (v : ℕ) → v < room → get_or memory v 0 ≡ value v
    memory_at v l = let e : 0 + v ≡ v = omega arith in values_at room 0 value v l ∙ ap value e

    asked_value : (v x : ℕ) → v < S.variables → newer v ≡ some x → get_or memory v 0 ≡ x
    asked_value v x l e = memory_at v (omega (arith, R.shape.variables)) ∙ (rw (lt-ltb v S.variables l) (ap or_zero e))

    permitted : StartingMemory S memory
    permitted =
        record {
          room = values_length room 0 value;
          values = λ v l. rw (memory_at v (omega (arith, R.shape.variables)), lt-ltb v S.variables l)
              (or_zero_lem (newer v) (S.values v) (R.shape.some_value v l) (λ x e. j.values v x l e));
          absent = λ v l. elim (dec_lt v room) [
            | yes h ↦ memory_at v h ∙ (rw (le-ltb v S.variables l))
            | no h ↦ let past : length memory ≤ v = omega (arith, values_length room 0 value) in get_or-eq_default memory 0 past
          ];
        }

    abbrev first : Configuration
    first = start_with P memory 0 0

    first_path : (p : ℕ) → p < S.processes → (rs : List PathRead) → ReadsOf S rs → AllAsked newer rs → (k : ℕ) → k ≤ 1 → PathFrom first.memory p k rs
    first_path p l [] i q k h = tt
    first_path p l (r ∷ rs) i q k h = (
      1,
      record {
        from = h;
        upto = omega arith;
        last = (last_is first.memory.channel (first.memory.pointer p) p r.variable (rw (lt-ltb p S.processes l) (omega arith))).high;
        value = asked_value r.variable r.value i.0 q.1;
        later = λ t. absurd (T_not r.own q.0 t);
        label = λ t. absurd (T_not r.own q.0 t);
      },
      first_path p l rs i.2 q.2 1 (omega arith),
    )

    first_fits : T states → T clues → StartFits P a
    first_fits s k =
        record {
          configuration = first;
          start = start_exists P R memory permitted 0 0 (omega (arith, R.shape.some_process)) (omega (arith, R.shape.some_variable));
          fits =
              record {
                states = λ p l. rw (lt-ltb p S.processes l) (eqb→eq (P.initial p) (a.state p) (all_yes S.processes (λ p. eqb (P.initial p) (a.state p)) s p l));
                queues = λ p v l h. emptied_fits (a.clue p v)
                    (all_yes S.variables (λ v. can_empty (a.clue p v)) (all_yes S.processes (λ p. all_below S.variables (λ v. can_empty (a.clue p v))) k p l) v h);
                newest = λ v. elim (dec_lt v S.variables) [
                  | yes l ↦ asked_stands (a.newest v) (get_or memory v 0) (λ x e. asked_value v x l (j.keeps v x e))
                  | no l ↦ subst (λ (u : Option ℕ). Stands u (get_or memory v 0)) (sym (o.absent v (omega arith))) tt
                ];
                paths = λ p l. first_path p l (a.path p) (o.reads p l) (asked_below newer S.processes a.path j.asks p l) (first.memory.pointer p)
                    (rw (lt-ltb p S.processes l) (omega arith));
              };
        }

  start_to : T (start_fits P a) → StartFits P a
  start_to t =
      let y = and_yes (states && clues) (is_some together) t in
      let z = and_yes states clues y.0 in
      let w = some_is together y.1 in
      let j = joined_is S (for_below S.processes a.path) a.newest w.0 (λ v x l e. o.newest v l x e) (reads_below S S.processes a.path o.reads) w.1 in
      first_fits w.0 j z.0 z.1

  pub start_is : T (start_fits P a) ↔ StartFits P a
  start_is = (start_to, start_of_lem)
