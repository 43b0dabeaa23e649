-- Each answer is given exactly when it says so, and one is always given.
use Prim.Native.Nat.{ℕ, ◌<◌}
use mathlib.Core.Path.{◌≡◌, refl, sym, ap, ap₂, subst, ◌∙◌}
use mathlib.Core.Logic.{⊎_elim}
use mathlib.Core.Bool.{Bool, true, false, ◌||◌, not}
use mathlib.Core.Option.{Option, none, some}
use mathlib.Core.List.{List, [], ◌∷◌, Memᴰ}
use native.Mathlib.Omega.{arith}
use native.Mathlib.Decide.{dec_lt, ℕ_discrete}
use lib.ListN.{length}
use lib.Dec.{T, T_not}
use mir.Facts.{or_yes, T_not-not}
use Rattle.machine_pws.specs.declared.Step.{Step}
use Rattle.machine_pws.specs.declared.Step.TheVariants.{Update}
use Rattle.machine_pws.specs.Program.{Program, WellFormed}
use Rattle.machine_pws.proofs.Facts.{T_or_not, or_left, or_right}
use Rattle.list_theory.specs.Lists.{every, lowest, first_failing}
use Rattle.list_theory.specs.Predecessors.{steps}
use Rattle.list_theory.specs.Verdict.{StepBefore, no_target, target, ListVerdict, safe, unheld, started, entered}
use Rattle.list_theory.proofs.Lists.{every_yes, every_no, Lowest, fails, passes, lowest_is}
use Rattle.list_theory.proofs.StepOrder.{before_or, steps_order, first_fails, first_lower}
use Rattle.pattern_theory.specs.Patterns.{Pattern, target_pattern}
use Rattle.pattern_theory.specs.Fitting.{no_pattern, pattern_of}
use Rattle.pattern_theory.specs.Within.{within_list}
use Rattle.pattern_theory.specs.Predecessors.{before}
use Rattle.pattern_theory.specs.Storing.{kept}
use Rattle.pattern_theory.specs.Verdict.{
  PatternsIn,
  target_held,
  start_fits,
  held_before,
  closed,
  pattern_verdict,
  WithinOne,
  OpenBefore,
  StartFits,
  TargetOpen,
  TargetsHeld,
  PatternStarted,
  NoneStarted,
  PatternEntered,
  PatternsSafe,
  PatternsJudged,
}
use Rattle.pattern_theory.specs.Safety.{PatternsDecided, AnswerGiven}
use Rattle.pattern_theory.proofs.Deciding.{within_one}
use Rattle.pattern_theory.proofs.Starts.{start_is}

-- ---- number 11, for one step

module _ (P : Program) (ps : List Pattern) (a : Pattern) (s : Step) where
  abbrev test : Pattern → Bool
  test b = not (kept P b) || within_list P.shape ps b

  pub step_yes : T (held_before P ps a s) → OpenBefore P ps a s → ⊥
  step_yes t w = ⊎_elim
      (λ n. T_not (kept P w.pattern) n w.kept)
      (λ y. w.outside ((within_one P.shape ps w.pattern).0 y))
      (or_yes (not (kept P w.pattern)) (within_list P.shape ps w.pattern) (every_yes test (before P a s) t w.pattern w.before))

  pub step_no : T (not (held_before P ps a s)) → OpenBefore P ps a s
  step_no t =
      let r = every_no test (before P a s) t in
      let b = r.0 in
      record {
        pattern = b;
        before = r.1;
        kept = ⊎_elim (λ k. k) (λ n. absurd (T_not (test b) r.2 (or_left (not (kept P b)) (within_list P.shape ps b) n))) (T_or_not (kept P b));
        outside = λ w. T_not (test b) r.2 (or_right (not (kept P b)) (within_list P.shape ps b) ((within_one P.shape ps b).1 w));
      }

module _ (P : Program) (ps : List Pattern) (a : Pattern) where
  closed_yes : T (closed P ps a) → (t : Step) → Memᴰ t (steps P) → OpenBefore P ps a t → ⊥
  closed_yes y t i = step_yes P ps a t (every_yes (held_before P ps a) (steps P) y t i)

  abbrev lowest_step : Step
  lowest_step = first_failing (held_before P ps a) (Update 0) (steps P)

  lower_steps : T (not (closed P ps a)) → (t : Step) → Memᴰ t (steps P) → StepBefore t lowest_step → OpenBefore P ps a t → ⊥
  lower_steps y t i l = step_yes P ps a t (first_lower (held_before P ps a) (Update 0) (steps P) (steps_order P) y t i l)

-- the first that fails is one of them
first_in : (f : Step → Bool) (d : Step) (xs : List Step) → T (not (every f xs)) → Memᴰ (first_failing f d xs) xs
first_in f d [] n = absurd n
first_in f d (x ∷ xs) n = go (first_in f d xs) (f x) n
  where
    go : (T (not (every f xs)) → Memᴰ (first_failing f d xs) xs) → (b : Bool) → T (not (elim b [ true ↦ every f xs | false ↦ false ]))
        → Memᴰ (elim b [ true ↦ first_failing f d xs | false ↦ x ]) (x ∷ xs)
    go ih true n = Memᴰ.tail (ih n)
    go ih false n = Memᴰ.head refl

-- ---- the whole verdict

module _ (P : Program) (R : WellFormed P) (ts : List (ℕ → ℕ)) (ps : List Pattern) (o : PatternsIn P.shape ps) where
  target_yes : (j : ℕ) → T (target_held P.shape ps (target ts j)) → WithinOne P.shape ps (target_pattern (target ts j))
  target_yes j t = (within_one P.shape ps (target_pattern (target ts j))).0 t

  unstarted : (j : ℕ) → j < length ps → T (not (start_fits P (pattern_of ps j))) → StartFits P (pattern_of ps j) → ⊥
  unstarted j l t w = T_not (start_fits P (pattern_of ps j)) t ((start_is P R (pattern_of ps j) (o j l)).1 w)

  third : TargetsHeld P ts ps → NoneStarted P ps → {k : Option ℕ} → Lowest (closed P ps) no_pattern ps k
      → PatternsJudged P ts ps (elim k [ some k ↦ entered k (first_failing (held_before P ps (pattern_of ps k)) (Update 0) (steps P)) | none ↦ safe (length ps) ])
  third H N (fails k l t a) =
      let b = pattern_of ps k in
      record {
        held = H;
        unstarted = N;
        exists = l;
        lower = λ j i. closed_yes P ps (pattern_of ps j) (a j i);
        step = first_in (held_before P ps b) (Update 0) (steps P) t;
        opened = step_no P ps b (lowest_step P ps b) (first_fails (held_before P ps b) (Update 0) (steps P) t);
        lower_step = lower_steps P ps b t;
      }
  third H N (passes a) = (refl, record { held = H; unstarted = N; closed = λ j l. closed_yes P ps (pattern_of ps j) (a j l) })

  second : TargetsHeld P ts ps → {k : Option ℕ} → Lowest (λ a. not (start_fits P a)) no_pattern ps k
      → PatternsJudged P ts ps (elim k [
        | some k ↦ started k
        | none ↦ elim (lowest (closed P ps) ps) [ some k ↦ entered k (first_failing (held_before P ps (pattern_of ps k)) (Update 0) (steps P)) | none ↦ safe (length ps) ]
      ])
  second H (fails k l t a) =
      record {
        held = H;
        exists = l;
        lower = λ j i. unstarted j (omega arith) (a j i);
        start = (start_is P R (pattern_of ps k) (o k l)).0 (T_not-not (start_fits P (pattern_of ps k)) t);
      }
  second H (passes a) = third H (λ k l. unstarted k l (a k l)) (lowest_is (closed P ps) no_pattern ps)

  first : {k : Option ℕ} → Lowest (target_held P.shape ps) no_target ts k
      → PatternsJudged P ts ps (elim k [
        | some k ↦ unheld k
        | none ↦ elim (lowest (λ a. not (start_fits P a)) ps) [
          | some k ↦ started k
          | none ↦ elim (lowest (closed P ps) ps) [ some k ↦ entered k (first_failing (held_before P ps (pattern_of ps k)) (Update 0) (steps P)) | none ↦ safe (length ps) ]
        ]
      ])
  first (fails k l t a) =
      record {
        exists = l;
        lower = λ j i. target_yes j (a j i);
        missed = λ w. T_not (target_held P.shape ps (target ts k)) t ((within_one P.shape ps (target_pattern (target ts k))).1 w);
      }
  first (passes a) = second (λ j l. target_yes j (a j l)) (lowest_is (λ a. not (start_fits P a)) no_pattern ps)

pub patterns_decided : PatternsDecided
patterns_decided P R ts ps o = first P R ts ps o (lowest_is (target_held P.shape ps) no_target ts)

-- ---- no two answers

lowest_same : {F G : ℕ → Type 0} → ((k : ℕ) → F k → G k → ⊥) → (i j : ℕ) → ((k : ℕ) → k < i → F k) → G i → ((k : ℕ) → k < j → F k) → G j → i ≡ j
lowest_same n i j fi gi fj gj = elim (ℕ_discrete i j) [
  | yes e ↦ e
  | no e ↦ elim (dec_lt i j) [ yes l ↦ absurd (n i (fj i l) gi) | no l ↦ absurd (n j (fi j (omega arith)) gj) ]
]

module _ (P : Program) (ts : List (ℕ → ℕ)) (ps : List Pattern) where
  abbrev Closed : ℕ → Type 0
  Closed j = (t : Step) → Memᴰ t (steps P) → OpenBefore P ps (pattern_of ps j) t → ⊥

  abbrev Opened : ℕ → Type 0
  Opened j = (t : Step) × Memᴰ t (steps P) × OpenBefore P ps (pattern_of ps j) t

  clash : (j : ℕ) → Closed j → Opened j → ⊥
  clash j c w = c w.0 w.1 w.2

  target_clash : {k : ℕ} → TargetOpen P ts ps k → TargetsHeld P ts ps → ⊥
  target_clash {k} u H = u.missed (H k u.exists)

  start_clash : {k : ℕ} → PatternStarted P ts ps k → NoneStarted P ps → ⊥
  start_clash {k} s N = N k s.exists s.start

  step_clash : {k : ℕ} {s : Step} → PatternEntered P ts ps k s → PatternsSafe P ts ps → ⊥
  step_clash {k} {s} w S = S.closed k w.exists s w.step w.opened

  entered_same : (k j : ℕ) (s t : Step) → PatternEntered P ts ps k s → PatternEntered P ts ps j t → entered k s ≡ entered j t
  entered_same k j s t x y =
      let e = lowest_same clash k j x.lower (s, x.step, x.opened) y.lower (t, y.step, y.opened) in
      let z = subst (λ (i : ℕ). PatternEntered P ts ps i t) (sym e) y in
      ap₂ entered e (⊎_elim
      (λ d. d)
      (⊎_elim (λ l. absurd (z.lower_step s x.step l x.opened)) (λ l. absurd (x.lower_step t y.step l z.opened)))
      (before_or s t))

  pub answer_once : (a b : ListVerdict) → PatternsJudged P ts ps a → PatternsJudged P ts ps b → a ≡ b
  answer_once (safe m) (safe n) x y = ap safe (x.0 ∙ sym y.0)
  answer_once (safe m) (unheld k) x y = absurd (target_clash y x.1.held)
  answer_once (safe m) (started k) x y = absurd (start_clash y x.1.unstarted)
  answer_once (safe m) (entered k s) x y = absurd (step_clash y x.1)
  answer_once (unheld k) (safe n) x y = absurd (target_clash x y.1.held)
  answer_once (unheld k) (unheld j) x y = ap unheld (lowest_same (λ i h (m : WithinOne P.shape ps (target_pattern (target ts i)) → ⊥). m h) k j x.lower x.missed y.lower y.missed)
  answer_once (unheld k) (started j) x y = absurd (target_clash x y.held)
  answer_once (unheld k) (entered j t) x y = absurd (target_clash x y.held)
  answer_once (started k) (safe n) x y = absurd (start_clash x y.1.unstarted)
  answer_once (started k) (unheld j) x y = absurd (target_clash y x.held)
  answer_once (started k) (started j) x y = ap started (lowest_same (λ i (h : StartFits P (pattern_of ps i) → ⊥) w. h w) k j x.lower x.start y.lower y.start)
  answer_once (started k) (entered j t) x y = absurd (start_clash x y.unstarted)
  answer_once (entered k s) (safe n) x y = absurd (step_clash x y.1)
  answer_once (entered k s) (unheld j) x y = absurd (target_clash y x.held)
  answer_once (entered k s) (started j) x y = absurd (start_clash y x.unstarted)
  answer_once (entered k s) (entered j t) x y = entered_same k j s t x y

-- an answer is given exactly when it is the one that is judged so
pub answer_given : AnswerGiven
answer_given P R ts ps o v = (
  λ e. subst (PatternsJudged P ts ps) e (patterns_decided P R ts ps o),
  λ j. answer_once P ts ps (pattern_verdict P ts ps) v (patterns_decided P R ts ps o) j,
)
