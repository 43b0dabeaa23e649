-- The computed answer is what the machine does from a start with the memory, and there is no other answer.
use Prim.Native.Nat.{ℕ, zero, suc, ◌+◌, ◌<◌}
use mathlib.Core.Path.{◌≡◌, refl, sym, ap, subst, ◌∙◌}
use mathlib.Core.Bool.{Bool, true, false, cond}
use mathlib.Core.Option.{Option, none, some}
use mathlib.Core.List.{List, [], ◌∷◌}
use native.Mathlib.Omega.{arith}
use native.Mathlib.Decide.{dec_lt}
use lib.ListN.{length, get_or, take}
use lib.Dec.{T, eqb, eqb→eq}
use mir.Facts.{yes_and}
use Rattle.machine_pws.specs.Program.{Shape, Program, WellFormed}
use Rattle.machine_pws.specs.Machine.{all_below}
use Rattle.machine_pws.specs.Configurations.{StartingMemory}
use Rattle.machine_pws.proofs.Facts.{T_eq}
use Rattle.machine_pws.proofs.Cases.{all_yes}
use Rattle.machine_pso.specs.declared.PsoStep.{PsoStep}
use Rattle.machine_pso.specs.declared.PsoStep.TheVariants.{RemoveMark}
use Rattle.machine_pso.specs.Machine.{PsoConfiguration, pso_may, pso_after}
use Rattle.machine_pso.specs.Runs.{PsoStart, pso_start_with, PsoTakes, done, step, PsoInTarget, pso_in_target}
use Rattle.std.specs.Prelude.{Ok, Err}
use Rattle.run_causes.specs.Causes.{Answer}
use Rattle.run_step.specs.declared.last_test.RunAnswer.{RunAnswer}
use Rattle.run_step.specs.declared.last_test.RunAnswer.TheVariants.{Reachable, Stopped, Missed}
use Rattle.run_replay.specs.Answers.{last_answer, answer_then}
use Rattle.pso_step.specs.Causes.{Because, pso_step_answer}
use Rattle.pso_replay.specs.Answers.{PsoAnswered, pso_lowest_met, pso_answer_from, pso_run_answer}
use Rattle.pso_step.proofs.CauseLaws.{Answers, answers, because_only}
use Rattle.pso_replay.proofs.Alike.{Alike, answers_alike}

-- ---- targets

target_is : (S : Shape) (t : ℕ → ℕ) (d : PsoConfiguration) → T (pso_in_target S t d) → PsoInTarget S t d
target_is S t d y p l = eqb→eq (d.state p) (t p) (all_yes S.processes (λ p. eqb (d.state p) (t p)) y p l)

target_yes : (n : ℕ) (f g : ℕ → ℕ) → ((p : ℕ) → p < n → f p ≡ g p) → T (all_below n (λ p. eqb (f p) (g p)))
target_yes zero f g h = tt
target_yes (suc n) f g h =
    yes_and (all_below n (λ p. eqb (f p) (g p))) (eqb (f n) (g n)) (target_yes n f g (λ p l. h p (omega arith))) (T_eq (f n) (g n) (h n (omega arith)))

-- what the last test says of the targets from number i on
abbrev LastSays : Shape → ℕ → List (ℕ → ℕ) → PsoConfiguration → Option ℕ → Type 0
LastSays S i ts d none = (j : ℕ) → j < length ts → PsoInTarget S (get_or ts j (λ p. 0)) d → ⊥
LastSays S i ts d (some k) =
    (m : ℕ) × (k ≡ i + m) × (m < length ts) × PsoInTarget S (get_or ts m (λ p. 0)) d × ((j : ℕ) → j < m → PsoInTarget S (get_or ts j (λ p. 0)) d → ⊥)

last_says : (S : Shape) (i : ℕ) (ts : List (ℕ → ℕ)) (d : PsoConfiguration) → LastSays S i ts d (pso_lowest_met S i ts d)
last_says S i [] d = λ j l h. omega arith
last_says S i (t ∷ ts) d = go (pso_in_target S t d) refl (pso_lowest_met S (suc i) ts d) (last_says S (suc i) ts d)
  where
    missed : pso_in_target S t d ≡ false → PsoInTarget S t d → ⊥
    missed e h = subst T e (target_yes S.processes d.state t h)

    later : pso_in_target S t d ≡ false → (n : ℕ) → ((j : ℕ) → j < n → PsoInTarget S (get_or ts j (λ p. 0)) d → ⊥)
        → (j : ℕ) → j < suc n → PsoInTarget S (get_or (t ∷ ts) j (λ p. 0)) d → ⊥
    later e n h zero l z = missed e z
    later e n h (suc j) l z = h j (omega arith) z

    go : (b : Bool) → pso_in_target S t d ≡ b → (o : Option ℕ) → LastSays S (suc i) ts d o → LastSays S i (t ∷ ts) d (cond b (some i) o)
    go true e o h = (0, omega arith, omega arith, target_is S t d (subst T (sym e) tt), λ j l z. omega arith)
    go false e none h = later e (length ts) h
    go false e (some k) h = (suc h.0, omega (arith, h.1), omega (arith, h.2), h.3, later e h.0 h.4)

-- ---- from a configuration on: n is the number of all steps, k that of those taken

abbrev From : Program → List (ℕ → ℕ) → ℕ → ℕ → PsoConfiguration → List PsoStep → RunAnswer → Type 0
From P ts n k d us (Reachable m j) =
    (m ≡ n) × (e : PsoConfiguration) × PsoTakes P d us e × (j < length ts) × PsoInTarget P.shape (get_or ts j (λ p. 0)) e
    × ((i : ℕ) → i < j → PsoInTarget P.shape (get_or ts i (λ p. 0)) e → ⊥)
From P ts n k d us (Stopped j cause) =
    (i : ℕ) × (j ≡ k + i) × (i < length us) × (e : PsoConfiguration) × PsoTakes P d (take i us) e × Because P e (get_or us i (RemoveMark 0)) cause
From P ts n k d us (Missed m) =
    (m ≡ n) × (e : PsoConfiguration) × PsoTakes P d us e × ((j : ℕ) → j < length ts → PsoInTarget P.shape (get_or ts j (λ p. 0)) e → ⊥)

module _ (P : Program) (ts : List (ℕ → ℕ)) (n : ℕ) where
  last_from : (k : ℕ) (d : PsoConfiguration) (o : Option ℕ) → LastSays P.shape 0 ts d o → From P ts n k d [] (last_answer n o)
  last_from k d none h = (refl, d, done, h)
  last_from k d (some j) h =
      let e : h.0 ≡ j = omega (arith, h.1) in (
        refl,
        d,
        done,
        subst (λ (i : ℕ). i < length ts) e h.2,
        subst (λ (i : ℕ). PsoInTarget P.shape (get_or ts i (λ p. 0)) d) e h.3,
        subst (λ (m : ℕ). (i : ℕ) → i < m → PsoInTarget P.shape (get_or ts i (λ p. 0)) d → ⊥) e h.4,
      )

  later_from : (k : ℕ) (d : PsoConfiguration) (u : PsoStep) (us : List PsoStep) → T (pso_may P d u) → (r : RunAnswer) → From P ts n (suc k) (pso_after P d u) us r → From P ts n k d (u ∷ us) r
  later_from k d u us t (Reachable m j) h = (h.0, h.1, step u t h.2, h.3, h.4, h.5)
  later_from k d u us t (Stopped j cause) h = (suc h.0, omega (arith, h.1), omega (arith, h.2), h.3, step u t h.4, h.5)
  later_from k d u us t (Missed m) h = (h.0, h.1, step u t h.2, h.3)

  -- the computed answer is one
  from_answer : (us : List PsoStep) (k : ℕ) (d : PsoConfiguration) → From P ts n k d us (pso_answer_from P ts n k d us)
  from_answer [] k d = last_from k d (pso_lowest_met P.shape 0 ts d) (last_says P.shape 0 ts d)
  from_answer (u ∷ us) k d = go (pso_step_answer P d u) (answers P d u) (pso_answer_from P ts n (suc k) (pso_after P d u) us) (from_answer us (suc k) (pso_after P d u))
    where
      go : (x : Answer) → Answers P d u x → (r : RunAnswer) → From P ts n (suc k) (pso_after P d u) us r → From P ts n k d (u ∷ us) (answer_then x k (λ _. r))
      go (Ok _) t r h = later_from k d u us t r h
      go (Err cause) t r h = (0, omega arith, omega arith, d, done, t)

  -- the first step of a run that is taken
  first_taken : {d e : PsoConfiguration} {u : PsoStep} {us : List PsoStep} → PsoTakes P d (u ∷ us) e → T (pso_may P d u) × PsoTakes P (pso_after P d u) us e
  first_taken (step u t r) = (t, r)

  none_taken : {d e : PsoConfiguration} → PsoTakes P d [] e → d ≡ e
  none_taken done = refl

  -- the last test's answer is the only one
  one_last : (d : PsoConfiguration) (x y : Option ℕ) → LastSays P.shape 0 ts d x → LastSays P.shape 0 ts d y → x ≡ y
  one_last d none none a b = refl
  one_last d none (some j) a b = absurd (a b.0 b.2 b.3)
  one_last d (some i) none a b = absurd (b a.0 a.2 a.3)
  one_last d (some i) (some j) a b = elim (dec_lt a.0 b.0) [
    | yes l ↦ absurd (b.4 a.0 l a.3)
    | no l ↦ elim (dec_lt b.0 a.0) [
      | yes m ↦ absurd (a.4 b.0 m b.3)
      | no m ↦ ap some (omega (arith, a.1, b.1))
    ]
  ]

  -- what else is an answer
  only_answer : (us : List PsoStep) (k : ℕ) (d : PsoConfiguration) (r : RunAnswer) → From P ts n k d us r → r ≡ pso_answer_from P ts n k d us
  only_answer [] k d (Reachable m j) h =
      let here : LastSays P.shape 0 ts d (some j) =
      let e = sym (none_taken h.2) in
      (j, omega arith, h.3, subst (PsoInTarget P.shape (get_or ts j (λ p. 0))) e h.4, λ i l z. h.5 i l (subst (PsoInTarget P.shape (get_or ts i (λ p. 0))) (sym e) z)) in
      ap (λ (a : ℕ). Reachable a j) h.0 ∙ ap (last_answer n) (one_last d (some j) (pso_lowest_met P.shape 0 ts d) here (last_says P.shape 0 ts d))
  only_answer [] k d (Stopped j cause) h = absurd (omega (arith, h.2))
  only_answer [] k d (Missed m) h =
      let here : LastSays P.shape 0 ts d none = λ j l z. h.3 j l (subst (PsoInTarget P.shape (get_or ts j (λ p. 0))) (none_taken h.2) z) in
      ap Missed h.0 ∙ ap (last_answer n) (one_last d none (pso_lowest_met P.shape 0 ts d) here (last_says P.shape 0 ts d))
  only_answer (u ∷ us) k d (Reachable m j) h =
      let w = first_taken h.2 in
      only_answer us (suc k) (pso_after P d u) (Reachable m j) (h.0, h.1, w.1, h.3, h.4, h.5)
      ∙ ap (λ (x : Answer). answer_then x k (λ _. pso_answer_from P ts n (suc k) (pso_after P d u) us)) (because_only P d u (Ok tt) w.0)
  only_answer (u ∷ us) k d (Stopped j cause) (zero, a, b, e, t, y) =
      ap (λ (i : ℕ). Stopped i cause) (omega (arith, a))
      ∙ ap (λ (x : Answer). answer_then x k (λ _. pso_answer_from P ts n (suc k) (pso_after P d u) us))
      (because_only P d u (Err cause) (subst (λ (z : PsoConfiguration). Because P z u cause) (sym (none_taken t)) y))
  only_answer (u ∷ us) k d (Stopped j cause) (suc i, a, b, e, t, y) =
      let w = first_taken t in
      only_answer us (suc k) (pso_after P d u) (Stopped j cause) (i, omega (arith, a), omega (arith, b), e, w.1, y)
      ∙ ap (λ (x : Answer). answer_then x k (λ _. pso_answer_from P ts n (suc k) (pso_after P d u) us)) (because_only P d u (Ok tt) w.0)
  only_answer (u ∷ us) k d (Missed m) h =
      let w = first_taken h.2 in
      only_answer us (suc k) (pso_after P d u) (Missed m) (h.0, h.1, w.1, h.3)
      ∙ ap (λ (x : Answer). answer_then x k (λ _. pso_answer_from P ts n (suc k) (pso_after P d u) us)) (because_only P d u (Ok tt) w.0)

-- ---- from a start with the memory

module _ (P : Program) (R : WellFormed P) (memory : List ℕ) (ts : List (ℕ → ℕ)) (us : List PsoStep) where
  start_alike : (d : PsoConfiguration) → PsoStart P memory d → Alike P.shape d (pso_start_with P memory)
  start_alike d s = record { states = s.states; buffers = s.buffers; memory = s.starts }

  -- the computed answer is one
  pub pso_answered : StartingMemory P.shape memory → PsoAnswered P memory ts us (pso_run_answer P memory ts us)
  pso_answered o = go (pso_run_answer P memory ts us) (from_answer P ts (length us) us 0 (pso_start_with P memory))
    where
      begins : PsoStart P memory (pso_start_with P memory)
      begins = record { permitted = o; states = λ p l. refl; buffers = λ p v l h. refl; starts = refl }

      go : (r : RunAnswer) → From P ts (length us) 0 (pso_start_with P memory) us r → PsoAnswered P memory ts us r
      go (Reachable n k) h =
          record { count = h.0; start = pso_start_with P memory; permitted = begins; end = h.1; takes = h.2; exists = h.3; met = h.4; lower = h.5 }
      go (Stopped k cause) h =
          let e : h.0 ≡ k = omega (arith, h.1) in
          record {
            exists = omega (arith, h.2);
            start = pso_start_with P memory;
            permitted = begins;
            before = h.3;
            takes = subst (λ (i : ℕ). PsoTakes P (pso_start_with P memory) (take i us) h.3) e h.4;
            because = subst (λ (i : ℕ). Because P h.3 (get_or us i (RemoveMark 0)) cause) e h.5;
          }
      go (Missed n) h = record { count = h.0; start = pso_start_with P memory; permitted = begins; end = h.1; takes = h.2; none = h.3 }

  -- and the only one
  from_start : (r : RunAnswer) (d : PsoConfiguration) → PsoStart P memory d → From P ts (length us) 0 d us r → r ≡ pso_run_answer P memory ts us
  from_start r d s h = only_answer P ts (length us) us 0 d r h ∙ answers_alike P R ts (length us) 0 us d (pso_start_with P memory) (start_alike d s)

  pub pso_only : (r : RunAnswer) → PsoAnswered P memory ts us r → r ≡ pso_run_answer P memory ts us
  pso_only (Reachable n k) a = from_start (Reachable n k) a.start a.permitted (a.count, a.end, a.takes, a.exists, a.met, a.lower)
  pso_only (Stopped k cause) a = from_start (Stopped k cause) a.start a.permitted (k, omega arith, a.exists, a.before, a.takes, a.because)
  pso_only (Missed n) a = from_start (Missed n) a.start a.permitted (a.count, a.end, a.takes, a.none)
