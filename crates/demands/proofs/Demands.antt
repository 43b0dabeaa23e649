-- The theorems of the demands: what each says stands in specs/Demands.
use Prim.Native.Nat.{ℕ, ◌<◌, ◌≤◌}
use mathlib.Core.Path.{◌≡◌, refl, sym, ap, ap₂, subst, ◌∙◌}
use mathlib.Core.Logic.{◌↔◌, ◌⊎◌, inl, inr, ⊎_elim}
use mathlib.Core.Bool.{true, cond}
use mathlib.Core.List.{List}
use native.Mathlib.Omega.{arith}
use native.Mathlib.Decide.{dec_lt, ℕ_discrete}
use lib.ListN.{get_or}
use lib.Dec.{eqb}
use Rattle.machine_pws.specs.declared.Step.{Step}
use Rattle.machine_pws.specs.Program.{Program, WellFormed}
use Rattle.machine_pws.specs.Configurations.{StartingMemory}
use Rattle.machine_pws.specs.Ranges.{CountsOf, KeepsRanges}
use Rattle.machine_pws.proofs.Simulation as machine
use Rattle.machine_pws.proofs.Ranges.{keeps_ranges}
use Rattle.list_theory.specs.Verdict as lists
use Rattle.list_theory.specs.Decision as decision
use Rattle.list_theory.proofs.Verdict.{verdict_unique, list_safety}
use Rattle.file_contents.specs.declared.evidence.Part.{Part}
use Rattle.file_contents.specs.Reading as reading
use Rattle.file_again.proofs.Contents.{run_read_lem, pso_run_read}
use Rattle.file_again.proofs.Counts.{HasCounts, file_counts}
use Rattle.run_causes.specs.declared.Cause.{Cause}
use Rattle.run_causes.specs.declared.Cause.TheVariants.{State, Queue, Pointer, Value, Nothing}
use Rattle.run_step.specs.declared.last_test.RunAnswer.{RunAnswer}
use Rattle.run_step.specs.declared.last_test.RunAnswer.TheVariants.{Reachable, Stopped, Missed}
use Rattle.run_causes.specs.Causes.{cause_number}
use Rattle.run_replay.specs.Answers.{run_answer}
use Rattle.machine_pso.specs.declared.PsoStep.TheVariants.{RemoveMark}
use Rattle.machine_pso.specs.Ranges.{PsoKeepsRanges}
use Rattle.machine_pso.proofs.Ranges.{pso_keeps_ranges}
use Rattle.pso_replay.specs.Answers.{pso_steps, PsoAnswered, pso_run_answer}
use Rattle.pso_replay.proofs.Accepted.{pso_answered, pso_only}
use Rattle.verdict.specs.Judge.{Verdict, safe, reachable, pso, refused, entered, of_list, of_run, of_pso_run, judged}
use Rattle.demands.specs.PsoRuns.{OfPsoRun, PsoHalts}
use Rattle.demands.specs.Demands.{
  OfList,
  OfRun,
  Stops,
  Cannot,
  OneAnswer,
  Refused8,
  RefusedReading,
  Refused9,
  Refused10,
  Refused11,
  StepNumber,
  Refused12,
  Refused16,
  Refused17,
  NoPointer,
  Refused15,
  Refused18,
  RefusedStep,
  Refused13,
  NoOther,
  AcceptedList,
  AcceptedRun,
  AcceptedPsoRun,
  Safety,
  Simulation,
  counts_in,
  ValuesInRange,
  PsoValuesInRange,
}
use Rattle.verdict.proofs.Verdicts.{kind, code, to_list, list_back, run_is, pso_is, never_both, run_high, list_code, is_run, short_file, judged_as, list_range, file_list_judged, judged_one}
use Rattle.demands.proofs.Numbers.{refused_low, refused_large}
use Rattle.demands.proofs.Runs.{RunJudged, run_judged, run_only, stopped_cannot, cannot_stopped}
use Rattle.demands.proofs.PsoRuns.{never_pointer, stopped_halts, halts_stopped}

-- ---- verdicts that differ

abbrev place : Verdict → ℕ
place (safe n) = n
place (reachable n k) = k
place (pso n k) = k
place (refused n k) = k
place (entered k s) = k

abbrev cause_by : ℕ → Cause
cause_by n = cond (eqb n 12) State (cond (eqb n 16) Queue (cond (eqb n 17) Pointer (cond (eqb n 15) Value Nothing)))

abbrev to_run : Verdict → RunAnswer
to_run (safe n) = Missed n
to_run (reachable n k) = Reachable n k
to_run (pso n k) = Reachable n k
to_run (refused n k) = cond (eqb n 13) (Missed k) (Stopped k (cause_by n))
to_run (entered k s) = Missed k

run_back : (v : RunAnswer) → to_run (of_run v) ≡ v
run_back (Reachable n k) = refl
run_back (Stopped k State) = refl
run_back (Stopped k Queue) = refl
run_back (Stopped k Pointer) = refl
run_back (Stopped k Value) = refl
run_back (Stopped k Nothing) = refl
run_back (Missed n) = refl

pso_back : (v : RunAnswer) → to_run (of_pso_run v) ≡ v
pso_back (Reachable n k) = refl
pso_back (Stopped k State) = refl
pso_back (Stopped k Queue) = refl
pso_back (Stopped k Pointer) = refl
pso_back (Stopped k Value) = refl
pso_back (Stopped k Nothing) = refl
pso_back (Missed n) = refl

-- the numbers of the causes
cause_range : (cause : Cause) → (12 ≤ cause_number cause) × (cause_number cause ≤ 18) × (cause_number cause ≡ 14 → ⊥)
cause_range State = (omega arith, omega arith, λ e. omega arith)
cause_range Queue = (omega arith, omega arith, λ e. omega arith)
cause_range Pointer = (omega arith, omega arith, λ e. omega arith)
cause_range Value = (omega arith, omega arith, λ e. omega arith)
cause_range Nothing = (omega arith, omega arith, λ e. omega arith)

step_number_lem : (cause : Cause) → StepNumber (cause_number cause)
step_number_lem State = inl refl
step_number_lem Queue = inr (omega arith, omega arith)
step_number_lem Pointer = inr (omega arith, omega arith)
step_number_lem Value = inr (omega arith, omega arith)
step_number_lem Nothing = inr (omega arith, omega arith)

number_step : (n : ℕ) → StepNumber n → (cause : Cause) × (cause_number cause ≡ n)
number_step n = ⊎_elim (λ e. (State, sym e)) (λ l. elim (ℕ_discrete 15 n) [
  | yes e ↦ (Value, e)
  | no a ↦ elim (ℕ_discrete 16 n) [
    | yes e ↦ (Queue, e)
    | no b ↦ elim (ℕ_discrete 17 n) [
      | yes e ↦ (Pointer, e)
      | no c ↦ (Nothing, omega (arith, l.0, l.1))
    ]
  ]
])

module _ (u : reading.Input) (area : ℕ) where
  abbrev Reads : reading.FileRead → Type 0
  Reads r = reading.read_file u area ≡ r

  pub run_formed : (P : Program) (ts : List (ℕ → ℕ)) (m : List ℕ) (ss : List Step) → Reads (reading.run P ts m ss) → WellFormed P
  run_formed P ts m ss q = (run_read_lem u area q).part.program.well_formed

  run_memory : (P : Program) (ts : List (ℕ → ℕ)) (m : List ℕ) (ss : List Step) → Reads (reading.run P ts m ss) → StartingMemory P.shape m
  run_memory P ts m ss q = (run_read_lem u area q).permitted

  module _ (P : Program) (ts : List (ℕ → ℕ)) (m : List ℕ) (ss : List Step) (q : Reads (reading.pso_run P ts m ss)) where
    pub pso_run_formed : WellFormed P
    pso_run_formed = (pso_run_read u area q).part.program.well_formed

    pso_run_memory : StartingMemory P.shape m
    pso_run_memory = (pso_run_read u area q).permitted

  -- what is said of a list, and of a run

  pub list_said_lem : (v : lists.ListVerdict) → (judged u area ≡ of_list v) ↔ OfList u area (λ P ts es. lists.ListJudged P ts es v)
  list_said_lem v = (
    λ e. go (reading.read_file u area) refl e,
    λ x.
        judged_as u area _ x.reads
        ∙ ap of_list (verdict_unique x.program x.targets x.entries (decision.verdict_of x.program x.targets x.entries) v (file_list_judged u area x.program x.targets x.entries x.reads) x.holds),
  )
    where
      go : (r : reading.FileRead) → Reads r → judged u area ≡ of_list v → OfList u area (λ P ts es. lists.ListJudged P ts es v)
      go (reading.refused w₀ r) q e = absurd (omega (arith, (refused_low u area w₀ r q).1, list_code v, ap code (sym (judged_as u area _ q) ∙ e)))
      go (reading.list P ts es) q e =
          let z = sym (list_back (decision.verdict_of P ts es)) ∙ ap to_list (sym (judged_as u area _ q) ∙ e) ∙ list_back v in
          record { program = P; targets = ts; entries = es; reads = q; holds = subst (lists.ListJudged P ts es) z (file_list_judged u area P ts es q) }
      go (reading.run P ts m ss) q e = absurd (never_both v _ (run_is (run_answer P ts m ss)) (sym e ∙ judged_as u area _ q))
      go (reading.pso_run P ts m ss) q e = absurd (never_both v _ (pso_is (pso_run_answer P m ts (pso_steps ss))) (sym e ∙ judged_as u area _ q))

  abbrev Run : RunAnswer → Type 0
  Run v = OfRun u area (λ P ts m ss. RunJudged P ts m ss v)

  abbrev PsoRun : RunAnswer → Type 0
  PsoRun v = OfPsoRun u area (λ P ts m us. PsoAnswered P m ts us v)

  said_run : (v : RunAnswer) → Run v → judged u area ≡ of_run v
  said_run v x =
      judged_as u area _ x.reads ∙ ap of_run (run_only x.program (run_formed _ _ _ _ x.reads) x.targets x.memory (run_memory _ _ _ _ x.reads) x.steps v x.holds)

  said_pso : (v : RunAnswer) → PsoRun v → judged u area ≡ of_pso_run v
  said_pso v x =
      judged_as u area _ x.reads
      ∙ ap of_pso_run (sym (pso_only x.program (pso_run_formed _ _ _ _ x.reads) x.memory x.targets (pso_steps x.records) v x.holds))

  -- w is the verdict of a run with the answer v, in one of the machines
  one_of_runs : (v : RunAnswer) (w : Verdict) → is_run w ≡ true → to_run w ≡ v → judged u area ≡ w → (Run v × (w ≡ of_run v)) ⊎ (PsoRun v × (w ≡ of_pso_run v))
  one_of_runs v w i b e = go (reading.read_file u area) refl
    where
      go : (r : reading.FileRead) → Reads r → (Run v × (w ≡ of_run v)) ⊎ (PsoRun v × (w ≡ of_pso_run v))
      go (reading.refused w₀ r) q = absurd (omega (arith, (refused_low u area w₀ r q).1, run_high w i, ap code (sym (judged_as u area _ q) ∙ e)))
      go (reading.list P ts es) q = absurd (never_both (decision.verdict_of P ts es) w i (sym (judged_as u area _ q) ∙ e))
      go (reading.run P ts m ss) q =
          let d : of_run (run_answer P ts m ss) ≡ w = sym (judged_as u area _ q) ∙ e in
          let z : run_answer P ts m ss ≡ v = sym (run_back (run_answer P ts m ss)) ∙ ap to_run d ∙ b in
          inl (
            record {
              program = P;
              targets = ts;
              memory = m;
              steps = ss;
              reads = q;
              holds = subst (RunJudged P ts m ss) z (run_judged P (run_formed P ts m ss q) ts m (run_memory P ts m ss q) ss);
            },
            sym d ∙ ap of_run z,
          )
      go (reading.pso_run P ts m ss) q =
          let d : of_pso_run (pso_run_answer P m ts (pso_steps ss)) ≡ w = sym (judged_as u area _ q) ∙ e in
          let z : pso_run_answer P m ts (pso_steps ss) ≡ v = sym (pso_back (pso_run_answer P m ts (pso_steps ss))) ∙ ap to_run d ∙ b in
          inr (
            record {
              program = P;
              targets = ts;
              memory = m;
              records = ss;
              reads = q;
              holds =
                  subst (PsoAnswered P m ts (pso_steps ss)) z (pso_answered P (pso_run_formed P ts m ss q) m ts (pso_steps ss) (pso_run_memory P ts m ss q));
            },
            sym d ∙ ap of_pso_run z,
          )

  -- a verdict that both machines can give
  either_said : (v : RunAnswer) (w : Verdict) → w ≡ of_run v → w ≡ of_pso_run v → (judged u area ≡ w) ↔ (Run v ⊎ PsoRun v)
  either_said v w a b = (
    λ e. ⊎_elim (λ x. inl x.0) (λ x. inr x.0) (one_of_runs v w (ap is_run a ∙ run_is v) (ap to_run a ∙ run_back v) e),
    ⊎_elim (λ x. said_run v x ∙ sym a) (λ x. said_pso v x ∙ sym b),
  )

  -- one that the PWS machine alone gives, and one that the PSO machine alone gives
  run_said : (v : RunAnswer) → (PsoRun v → of_run v ≡ of_pso_run v → ⊥) → (judged u area ≡ of_run v) ↔ Run v
  run_said v n = (λ e. ⊎_elim (λ x. x.0) (λ x. absurd (n x.0 x.1)) (one_of_runs v (of_run v) (run_is v) (run_back v) e), said_run v)

  pso_said : (v : RunAnswer) → (of_pso_run v ≡ of_run v → ⊥) → (judged u area ≡ of_pso_run v) ↔ PsoRun v
  pso_said v n = (λ e. ⊎_elim (λ x. absurd (n x.1)) (λ x. x.0) (one_of_runs v (of_pso_run v) (pso_is v) (pso_back v) e), said_pso v)

  -- and of the reading

  pub reading_said : (n k : ℕ) → n ≤ 8 → (judged u area ≡ refused n k) ↔ ((w : Part) × Reads (reading.refused w (record { number = n; place = k })))
  reading_said n k l = (λ e. go (reading.read_file u area) refl e, λ q. judged_as u area _ q.1)
    where
      go : (r : reading.FileRead) → Reads r → judged u area ≡ refused n k → (w : Part) × Reads (reading.refused w (record { number = n; place = k }))
      go (reading.refused w₀ r) q e =
          let z = sym (judged_as u area _ q) ∙ e in
          (w₀, q ∙ ap₂ (λ (a b : ℕ). reading.refused w₀ (record { number = a; place = b })) (ap code z) (ap place z))
      go (reading.list P ts es) q e = absurd (omega (arith, l, list_code (decision.verdict_of P ts es), ap code (sym (judged_as u area _ q) ∙ e)))
      go (reading.run P ts m ss) q e = absurd (omega (arith, l, run_high (of_run (run_answer P ts m ss)) (run_is (run_answer P ts m ss)), ap code (sym (judged_as u area _ q) ∙ e)))
      go (reading.pso_run P ts m ss) q e = absurd (omega (arith, l, run_high (of_pso_run (pso_run_answer P m ts (pso_steps ss))) (pso_is (pso_run_answer P m ts (pso_steps ss))), ap code (sym (judged_as u area _ q) ∙ e)))

-- ---- demand 1

pub one_answer : OneAnswer
one_answer u area = judged_one u area

pub refused8 : Refused8
refused8 u area k = (
  λ e. go ((reading_said u area 8 k (omega arith)).0 e),
  λ x.
      judged_as u area _ (short_file u area x.0) ∙ ap (refused 8) (sym x.1),
)
  where
    placed : reading.FileRead → ℕ
    placed (reading.refused w₀ r) = r.place
    placed (reading.list P ts es) = 0
    placed (reading.run P ts m ss) = 0
    placed (reading.pso_run P ts m ss) = 0

    go : (w : Part) × (reading.read_file u area ≡ reading.refused w (record { number = 8; place = k })) → (area < 65536) × (k ≡ 0)
    go q = elim (dec_lt area 65536) [
      | yes l ↦ (l, sym (ap placed q.1) ∙ ap placed (short_file u area l))
      | no l ↦ absurd (omega (arith, refused_large u area q.0 _ q.1 (omega arith)))
    ]

pub refused_reading : RefusedReading
refused_reading u area n k l = reading_said u area n k l

pub refused9 : Refused9
refused9 u area k = list_said_lem u area (lists.unheld k)

pub refused10 : Refused10
refused10 u area k = list_said_lem u area (lists.started k)

pub refused11 : Refused11
refused11 u area k s = list_said_lem u area (lists.entered k s)

pub refused12 : Refused12
refused12 u area k = either_said u area (Stopped k State) (refused 12 k) refl refl

pub refused16 : Refused16
refused16 u area k = either_said u area (Stopped k Queue) (refused 16 k) refl refl

pub refused17 : Refused17
refused17 u area k = run_said u area (Stopped k Pointer) (λ x e. never_pointer x.program x.holds.before (get_or (pso_steps x.records) k (RemoveMark 0)) x.holds.because)

pub no_pointer : NoPointer
no_pointer u area k x e = let z : ◌≡◌ {A = ℕ} 0 1 = ap machine (sym ((refused17 u area k).0 e).reads ∙ x.reads) in omega arith
  where
    machine : reading.FileRead → ℕ
    machine (reading.refused w₀ r) = 0
    machine (reading.list P ts es) = 0
    machine (reading.run P ts m ss) = 0
    machine (reading.pso_run P ts m ss) = 1

pub refused15 : Refused15
refused15 u area k = either_said u area (Stopped k Value) (refused 15 k) refl refl

pub refused18 : Refused18
refused18 u area k = either_said u area (Stopped k Nothing) (refused 18 k) refl refl

pub refused_step : RefusedStep
refused_step u area k = (
  λ w.
      let c = number_step w.0 w.1 in
      ⊎_elim (λ x. inl (run_cannot c.0 x)) (λ x. inr (pso_cannot c.0 x))
      ((either_said u area (Stopped k c.0) (refused (cause_number c.0) k) refl refl).0 (w.2 ∙ ap (λ (m : ℕ). refused m k) (sym c.1))),
  ⊎_elim
      (λ x.
      let w = cannot_stopped x.program (run_formed u area _ _ _ _ x.reads) x.targets x.memory (run_memory u area _ _ _ _ x.reads) x.steps k x.holds in
      (cause_number w.0, step_number_lem w.0, judged_as u area _ x.reads ∙ ap of_run w.1))
      (λ x.
      let w = halts_stopped x.program x.memory (pso_steps x.records) k x.holds in (
        cause_number w.0,
        step_number_lem w.0,
        said_pso u area (Stopped k w.0) (record {
          program = x.program;
          targets = x.targets;
          memory = x.memory;
          records = x.records;
          reads = x.reads;
          holds = w.1;
        }),
      )),
)
  where
    run_cannot : (cause : Cause) → OfRun u area (λ P ts m ss. RunJudged P ts m ss (Stopped k cause)) → OfRun u area (λ P ts m ss. Stops Cannot P m ss k)
    run_cannot cause x =
        record {
          program = x.program;
          targets = x.targets;
          memory = x.memory;
          steps = x.steps;
          reads = x.reads;
          holds = stopped_cannot x.program (run_formed u area _ _ _ _ x.reads) x.targets x.memory (run_memory u area _ _ _ _ x.reads) x.steps k cause x.holds;
        }

    pso_cannot : (cause : Cause) → OfPsoRun u area (λ P ts m us. PsoAnswered P m ts us (Stopped k cause)) → OfPsoRun u area (λ P ts m us. PsoHalts P m us k)
    pso_cannot cause x =
        record {
          program = x.program;
          targets = x.targets;
          memory = x.memory;
          records = x.records;
          reads = x.reads;
          holds = stopped_halts x.program x.memory (pso_steps x.records) k cause x.holds;
        }

pub refused13 : Refused13
refused13 u area n = either_said u area (Missed n) (refused 13 n) refl refl

pub no_other : NoOther
no_other u area n k e = go (reading.read_file u area) refl
  where
    list_most : (v : lists.ListVerdict) → of_list v ≡ refused n k → (9 ≤ n) × (n ≤ 10)
    list_most (lists.safe m) e = absurd (let z : ◌≡◌ {A = ℕ} _ 2 = ap kind e in omega arith)
    list_most (lists.unheld m) e = let z : 9 ≡ n = ap code e in (omega arith, omega arith)
    list_most (lists.started m) e = let z : 10 ≡ n = ap code e in (omega arith, omega arith)
    list_most (lists.entered m s) e = absurd (let z : ◌≡◌ {A = ℕ} 4 2 = ap kind e in omega arith)

    run_most : (v : RunAnswer) → of_run v ≡ refused n k → (12 ≤ n) × (n ≤ 18) × (n ≡ 14 → ⊥)
    run_most (Reachable m j) e = absurd (let z : ◌≡◌ {A = ℕ} _ 2 = ap kind e in omega arith)
    run_most (Stopped m cause) e =
        let z : cause_number cause ≡ n = ap code e in
        let w = cause_range cause in
        (omega (arith, w.0), omega (arith, w.1), λ q. w.2 (z ∙ q))
    run_most (Missed m) e = let z : 13 ≡ n = ap code e in (omega arith, omega arith, λ q. omega arith)

    pso_most : (v : RunAnswer) → of_pso_run v ≡ refused n k → (12 ≤ n) × (n ≤ 18) × (n ≡ 14 → ⊥)
    pso_most (Reachable m j) e = absurd (let z : ◌≡◌ {A = ℕ} _ 2 = ap kind e in omega arith)
    pso_most (Stopped m cause) e = run_most (Stopped m cause) e
    pso_most (Missed m) e = run_most (Missed m) e

    go : (r : reading.FileRead) → reading.read_file u area ≡ r → (1 ≤ n) × (n ≤ 18) × (n ≡ 11 → ⊥) × (n ≡ 14 → ⊥)
    go (reading.refused w₀ r) q =
        let w = refused_low u area w₀ r q in
        let z : r.number ≡ n = ap code (sym (judged_as u area _ q) ∙ e) in
        (omega (arith, w.0), omega (arith, w.1), λ x. omega (arith, w.1), λ x. omega (arith, w.1))
    go (reading.list P ts es) q =
        let w = list_most (decision.verdict_of P ts es) (sym (judged_as u area _ q) ∙ e) in
        (omega (arith, w.0), omega (arith, w.1), λ x. omega (arith, w.1), λ x. omega (arith, w.1))
    go (reading.run P ts m ss) q =
        let w = run_most (run_answer P ts m ss) (sym (judged_as u area _ q) ∙ e) in
        (omega (arith, w.0), w.1, λ x. omega (arith, w.0), w.2)
    go (reading.pso_run P ts m ss) q =
        let w = pso_most (pso_run_answer P m ts (pso_steps ss)) (sym (judged_as u area _ q) ∙ e) in
        (omega (arith, w.0), w.1, λ x. omega (arith, w.0), w.2)

-- ---- demand 2

pub accepted_list : AcceptedList
accepted_list u area n = list_said_lem u area (lists.safe n)

pub accepted_run : AcceptedRun
accepted_run u area n k = run_said u area (Reachable n k) (λ x e. let z : ◌≡◌ {A = ℕ} 1 3 = ap kind e in omega arith)

pub accepted_pso_run : AcceptedPsoRun
accepted_pso_run u area n k = pso_said u area (Reachable n k) (λ e. let z : ◌≡◌ {A = ℕ} 3 1 = ap kind e in omega arith)

-- ---- demand 3

pub safety : Safety
safety u area n e =
    let x = (accepted_list u area n).0 e in
    record {
      program = x.program;
      targets = x.targets;
      entries = x.entries;
      reads = x.reads;
      holds = list_safety x.program (list_range u area x.program x.targets x.entries x.reads).well_formed x.targets x.entries x.holds.1;
    }

pub simulation : Simulation
simulation u area P ts = (
  λ es q. machine.simulation P (list_range u area P ts es q).well_formed,
  λ m ss q. machine.simulation P (run_formed u area P ts m ss q),
  λ m ss q. machine.simulation P (pso_run_formed u area P ts m ss q),
)

in_range_lem : (f : List ℕ) (P : Program) → WellFormed P → CountsOf P.shape (counts_in f) → CountsOf P.shape (counts_in f) × KeepsRanges P (counts_in f)
in_range_lem f P R C = (C, keeps_ranges P R (counts_in f) C)

pub values_in_range : ValuesInRange
values_in_range u area P ts = (
  λ es q. in_range_lem u.code P (list_range u area P ts es q).well_formed (subst (HasCounts u.code) q (file_counts u area)),
  λ m ss q. in_range_lem u.code P (run_formed u area P ts m ss q) (subst (HasCounts u.code) q (file_counts u area)),
  λ m ss q. in_range_lem u.code P (pso_run_formed u area P ts m ss q) (subst (HasCounts u.code) q (file_counts u area)),
)

pso_in_range : (f : List ℕ) (P : Program) → WellFormed P → CountsOf P.shape (counts_in f) → CountsOf P.shape (counts_in f) × PsoKeepsRanges P (counts_in f)
pso_in_range f P R C = (C, pso_keeps_ranges P R (counts_in f) C)

pub pso_values_in_range : PsoValuesInRange
pso_values_in_range u area P ts = (
  λ es q. pso_in_range u.code P (list_range u area P ts es q).well_formed (subst (HasCounts u.code) q (file_counts u area)),
  λ m ss q. pso_in_range u.code P (run_formed u area P ts m ss q) (subst (HasCounts u.code) q (file_counts u area)),
  λ m ss q. pso_in_range u.code P (pso_run_formed u area P ts m ss q) (subst (HasCounts u.code) q (file_counts u area)),
)
