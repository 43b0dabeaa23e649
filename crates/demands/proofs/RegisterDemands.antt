-- The theorems of specs/RegisterDemands: what C gets for the program file that is written (ForC), which is read as the program that is written
-- (register_program), whose machines go step for step with those of the program with registers (register_machine).
use Rattle.std.specs.Prelude.{Result, Ok, Err, ⊤}
use Rattle.file_records.specs.declared.program.Refusal.{Refusal}
use Rattle.file_records.specs.ProgramPart.{whether, program_read}
use Prim.Native.Nat.{ℕ, suc, ◌+◌, ◌<◌}
use mathlib.Core.Path.{◌≡◌, refl, sym, ap, subst, ◌∙◌}
use mathlib.Core.List.{List, [], ◌∷◌}
use native.Mathlib.Omega.{arith}
use native.Mathlib.Decide.{dec_lt}
use lib.ListN.{length, get_or, take}
use Rattle.machine_pws.specs.declared.Step.{Step}
use Rattle.machine_pws.specs.Program.{Program}
use Rattle.machine_pws.specs.Machine.{Configuration}
use Rattle.machine_pws.specs.Configurations.{starting_memory, InTarget, Start}
use Rattle.machine_pws.specs.Sequences.{Takes, Visited}
use Rattle.machine_pws.specs.Sequences as sequences
use Rattle.machine_pso.specs.declared.PsoStep.{PsoStep}
use Rattle.machine_pso.specs.Machine.{PsoConfiguration}
use Rattle.machine_pso.specs.Runs.{PsoTakes, PsoVisited}
use Rattle.machine_pso.specs.Runs as runs
use Rattle.machine_equal.proofs.Reachability.{start_of_lem, same_reachability}
use Rattle.list_theory.specs.Verdict.{target}
use Rattle.file_contents.specs.Reading.{Input, pair, read_file}
use Rattle.file_again.specs.Offending.{offending}
use Rattle.drawing.specs.Writing.{made}
use Rattle.register_machine.specs.Program.{RegisterProgram, RegisterWellFormed}
use Rattle.register_machine.specs.Machine.{RegisterConfiguration}
use Rattle.register_machine.specs.Runs.{RegisterTakes, RegisterVisited}
use Rattle.register_machine.specs.Runs as registerRuns
use Rattle.register_machine.specs.PsoMachine.{RegisterPsoConfiguration, RegisterPsoTakes, RegisterPsoVisited}
use Rattle.register_machine.specs.PsoMachine as registerPsoRuns
use Rattle.register_machine.specs.Written.{written, target_becomes, written_targets}
use Rattle.register_machine.specs.Correspondence.{InWritten, StepForStep}
use Rattle.register_machine.specs.Correspondence as correspondence
use Rattle.register_machine.specs.PsoCorrespondence.{PsoStepForStep}
use Rattle.register_machine.specs.PsoCorrespondence as psoCorrespondence
use Rattle.register_machine.proofs.Lists.{joined_at, found, joined_grows, joined_suc}
use Rattle.register_machine.proofs.Stepping.{written_well_formed}
use Rattle.register_machine.proofs.Correspondence as machine
use Rattle.register_machine.proofs.PsoCorrespondence as psoMachine
use Rattle.register_program.specs.Registers.{of_read, part_of, registers_of, program_in, targets_in}
use Rattle.register_program.proofs.WrittenIsRead.{found_well_formed, written_is_read}
use Rattle.pso_replay.specs.Answers.{pso_steps, PsoReached}
use Rattle.verdict.specs.declared.answer.Verdict as declared
use Rattle.verdict.specs.Judge as judge
use Rattle.verdict.specs.Answers.{answer_in_c, Answered}
use Rattle.verdict.proofs.Verdicts.{judged_one}
use Rattle.demands.specs.Demands.{memory_in, steps_in, NoneVisited, Reaches}
use Rattle.demands.specs.Demands as demands
use Rattle.demands.specs.RegisterDemands.{
  NoneVisitedWithRegisters,
  TargetComesFrom,
  TargetOrigins,
  ReachesWithRegisters,
  PsoReachesWithRegisters,
  RegisterSafety,
  RegisterReachability,
  RegisterPsoReachability,
  RegisterSafeForC,
  RegisterReachableForC,
  RegisterPsoForC,
}
use Rattle.demands.proofs.ForC.{safe_for_c, reachable_for_c, pso_for_c}

-- ---- what is visited is reached, and what is reached is visited

visited_takes : {P : Program} {c d : Configuration} {ss : List Step} → Visited P c ss d → (us : List Step) × Takes P c us d
visited_takes sequences.start = ([], sequences.done)
visited_takes (sequences.later s t r) = let w = visited_takes r in (s ∷ w.0, sequences.step s t w.1)

pso_takes_visited : {P : Program} {d e : PsoConfiguration} {us : List PsoStep} → PsoTakes P d us e → PsoVisited P d us e
pso_takes_visited runs.done = runs.start
pso_takes_visited (runs.step u t r) = runs.later u t (pso_takes_visited r)

register_takes_visited : {R : RegisterProgram} {c d : RegisterConfiguration} {ss : List Step} → RegisterTakes R c ss d → RegisterVisited R c ss d
register_takes_visited registerRuns.done = registerRuns.start
register_takes_visited (registerRuns.step s t r) = registerRuns.later s t (register_takes_visited r)

register_pso_takes_visited : {R : RegisterProgram} {c d : RegisterPsoConfiguration} {us : List PsoStep} → RegisterPsoTakes R c us d → RegisterPsoVisited R c us d
register_pso_takes_visited registerPsoRuns.done = registerPsoRuns.start
register_pso_takes_visited (registerPsoRuns.step u t r) = registerPsoRuns.later u t (register_pso_takes_visited r)

-- ---- steps that are written are as many

steps_as_many : {R : RegisterProgram} {c : RegisterConfiguration} {d : Configuration} {ss ws : List Step} → StepForStep R c ss d ws → length ws ≡ length ss
steps_as_many (correspondence.done e) = refl
steps_as_many (correspondence.step s u e f a b r) = ap suc (steps_as_many r)

pso_steps_as_many : {R : RegisterProgram} {c : RegisterPsoConfiguration} {d : PsoConfiguration} {us ws : List PsoStep} → PsoStepForStep R c us d ws
    → length ws ≡ length us
pso_steps_as_many (psoCorrespondence.done e) = refl
pso_steps_as_many (psoCorrespondence.step u w e f a b r) = ap suc (pso_steps_as_many r)

-- ---- which target a written one comes from

module _ (R : RegisterProgram) (ts : List (ℕ → ℕ)) where
  abbrev none : ℕ → ℕ
  none p = 0

  -- the target that a written one comes from, and which of those it became that is
  record Source (k : ℕ) : Type 0 where
    number : ℕ
    from : TargetComesFrom R ts k number
    place : ℕ
    within : place < length (target_becomes R (target ts number))
    same : target (written_targets R ts) k ≡ target (target_becomes R (target ts number)) place

  source : (k : ℕ) → k < length (written_targets R ts) → Source k
  source k l =
      let f = found (target_becomes R) none none ts k l in
      let n = f.number in
      record {
        number = n;
        from =
            record {
              exists = f.exists;
              low = omega (arith, f.sum);
              high = omega (arith, f.sum, f.within, joined_suc (target_becomes R) none ts n f.exists);
            };
        place = f.place;
        within = f.within;
        same = ap (target (written_targets R ts)) f.sum ∙ joined_at (target_becomes R) none none ts n f.place f.exists f.within;
      }

  -- local states in one that a lower target became are in a lower written target
  lower_written : (state : ℕ → ℕ) (k n : ℕ) → TargetComesFrom R ts k n → (j : ℕ) → j < n → InWritten R (target ts j) state
      → (i : ℕ) × (i < k) × ((p : ℕ) → p < R.shape.processes → state p ≡ target (written_targets R ts) i p)
  lower_written state k n o j l w =
      let a : j < length ts = omega (arith, o.exists) in
      let i = length (written_targets R (take j ts)) + w.number in (
        i,
        omega (arith, w.exists, o.low, joined_suc (target_becomes R) none ts j a, joined_grows (target_becomes R) ts (suc j) n (omega arith)),
        λ p b. w.met p b ∙ ap (λ (t : ℕ → ℕ). t p) (sym (joined_at (target_becomes R) none none ts j w.number a w.exists)),
      )

pub target_origins : TargetOrigins
target_origins R ts k l =
    let o = source R ts k l in
    let n = o.number in (
      n,
      o.from,
      λ j w. elim (dec_lt j n) [
        | yes a ↦ absurd (omega (arith, w.high, o.from.low, joined_grows (target_becomes R) ts (suc j) n (omega arith)))
        | no a ↦ elim (dec_lt n j) [
          | yes b ↦ absurd (omega (arith, w.low, o.from.high, joined_grows (target_becomes R) ts (suc n) j (omega arith)))
          | no b ↦ omega arith
        ]
      ],
    )

-- ---- from the written program to the program with registers

module _ (R : RegisterProgram) (I : RegisterWellFormed R) (ts : List (ℕ → ℕ)) where
  abbrev W : Program
  W = written R

  none_visited : NoneVisited W (written_targets R ts) → NoneVisitedWithRegisters R ts
  none_visited N = record { pws = machine.safe_if_written R I ts quiet; pso = psoMachine.register_pso_safety R I ts quiet }
    where
      quiet : (d : Configuration) → Start W d → (us : List Step) (e : Configuration) → Visited W d us e
          → (k : ℕ) → k < length (written_targets R ts) → InTarget R.shape (get_or (written_targets R ts) k (λ p. 0)) e → ⊥
      quiet d s us e v k l h =
          let t = visited_takes v in
          let m = starting_memory d in
          let q =
          (same_reachability W (written_well_formed R I) m (get_or (written_targets R ts) k (λ p. 0))).0
          (record { first = d; starts = start_of_lem W m d s refl; steps = t.0; last = e; takes = t.1; reached = h }) in
          N m q.first q.starts q.steps q.last (pso_takes_visited q.takes) k l q.reached

  reaches : (m : List ℕ) (ws : List Step) (n k : ℕ) → Reaches W (written_targets R ts) m ws n k → ReachesWithRegisters R ts m ws n k
  reaches m ws n k h =
      let C = machine.correspondence R I in
      let s = C.0.back m h.start (start_of_lem W m h.start h.permitted h.memory) in
      let r = C.1.back m s.0 s.1 ws h.end (subst (λ (d : Configuration). Takes W d ws h.end) s.2 h.takes) in
      let o = source R ts k h.exists in
      let t = target ts o.number in
      let c = r.2.0 in
      let i =
      (C.2 t m s.0 c r.0 s.1 (register_takes_visited r.2.1)).1
      (record {
        number = o.place;
        exists = o.within;
        met = λ p l. ap (λ (d : Configuration). d.state p) (sym r.2.2) ∙ h.met p l ∙ ap (λ (t : ℕ → ℕ). t p) o.same;
      }) in
      record {
        start = s.0;
        permitted = s.1;
        steps = r.0;
        count = h.count ∙ steps_as_many r.1;
        end = c;
        takes = r.2.1;
        written = r.1;
        number = o.number;
        from = o.from;
        met = i;
        lower = λ j l g.
            let y = lower_written R ts _ k o.number o.from j l ((C.2 (target ts j) m s.0 c r.0 s.1 (register_takes_visited r.2.1)).0 g) in
            h.lower y.0 y.1 (λ p b. ap (λ (d : Configuration). d.state p) r.2.2 ∙ y.2 p b);
        pso = (psoMachine.register_same_reachability R I m t).0
            (record { first = s.0; starts = s.1; steps = r.0; last = c; takes = r.2.1; reached = i });
      }

  pso_reaches : (m : List ℕ) (ws : List PsoStep) (n k : ℕ) → PsoReached W m (written_targets R ts) ws n k → PsoReachesWithRegisters R ts m ws n k
  pso_reaches m ws n k h =
      let C = psoMachine.pso_correspondence R I in
      let s = C.0.back m h.start h.permitted in
      let r = C.1.back m s.0 s.1 ws h.end (subst (λ (d : PsoConfiguration). PsoTakes W d ws h.end) s.2 h.takes) in
      let o = source R ts k h.exists in
      let t = target ts o.number in
      let c = r.2.0 in
      let i =
      (C.2 t m s.0 c r.0 s.1 (register_pso_takes_visited r.2.1)).1
      (record {
        number = o.place;
        exists = o.within;
        met = λ p l. ap (λ (d : PsoConfiguration). d.state p) (sym r.2.2) ∙ h.met p l ∙ ap (λ (t : ℕ → ℕ). t p) o.same;
      }) in
      record {
        start = s.0;
        permitted = s.1;
        steps = r.0;
        count = h.count ∙ pso_steps_as_many r.1;
        end = c;
        takes = r.2.1;
        written = r.1;
        number = o.number;
        from = o.from;
        met = i;
        lower = λ j l g.
            let y = lower_written R ts _ k o.number o.from j l ((C.2 (target ts j) m s.0 c r.0 s.1 (register_pso_takes_visited r.2.1)).0 g) in
            h.lower y.0 y.1 (λ p b. ap (λ (d : PsoConfiguration). d.state p) r.2.2 ∙ y.2 p b);
        pws = (psoMachine.register_same_reachability R I m t).1
            (record { first = s.0; starts = s.1; steps = r.0; last = c; takes = r.2.1; reached = i });
      }

-- ---- the file

-- every record of a file for which bytes are written is fine
written_fine : (f w : List ℕ) → registers_of f ≡ made w → whether (part_of f) ≡ Ok tt
unfolding registers_of
written_fine f w e = go (whether (part_of f)) e
  where
    go : (x : Result ⊤ Refusal) → of_read f (program_read (part_of f)) x ≡ made w → x ≡ Ok tt
    go (Ok _) e = refl
    go (Err r) e = absurd (let z : ◌≡◌ {A = ℕ} 0 1 = cc in omega arith)

module _ (f w : List ℕ) (q : registers_of f ≡ made w) where
  formed : RegisterWellFormed (program_in f)
  formed = found_well_formed (record { fine = written_fine f w q; same = refl })

  -- what holds of the program file's program and targets holds of those that are written
  as_written : (F : Program → List (ℕ → ℕ) → Type 0) (e : List ℕ) → F (demands.program_in (pair w e)) (demands.targets_in (pair w e))
      → F (written (program_in f)) (written_targets (program_in f) (targets_in f))
  as_written F e y =
      let r = written_is_read f w q in
      subst (λ (P : Program). F P (written_targets (program_in f) (targets_in f))) r.program
      (subst (F (demands.program_in (pair w e))) r.targets y)

-- ---- what C gets

pub register_safe_for_c : RegisterSafeForC
register_safe_for_c f w e area r q A k =
    none_visited (program_in f) (formed f w q) (targets_in f) (as_written f w q NoneVisited e (safe_for_c (pair w e) area r A k).1)

pub register_reachable_for_c : RegisterReachableForC
register_reachable_for_c f w e area r q A k =
    let x = pair w e in
    let y = reachable_for_c x area r A k in (
      y.1,
      reaches (program_in f) (formed f w q) (targets_in f) (memory_in x) (steps_in x r.first) r.first r.second
          (as_written f w q (λ P ts. Reaches P ts (memory_in x) (steps_in x r.first) r.first r.second) e y.2),
    )

pub register_pso_for_c : RegisterPsoForC
register_pso_for_c f w e area r q A k =
    let x = pair w e in
    let y = pso_for_c x area r A k in
    let us = pso_steps (steps_in x r.first) in (
      y.1,
      pso_reaches (program_in f) (formed f w q) (targets_in f) (memory_in x) us r.first r.second
          (as_written f w q (λ P ts. PsoReached P (memory_in x) ts us r.first r.second) e y.2),
    )

-- ---- the verdict: C gets it

said : (x : Input) (area : ℕ) (v : judge.Verdict) → judge.judged x area ≡ v → Answered x area (answer_in_c x v (offending x (read_file x area)))
said x area v e = record { verdict = v; judged = subst (judge.Judged x area) e (judged_one x area).0; same = refl }

pub register_safety : RegisterSafety
register_safety f w e area n q j = register_safe_for_c f w e area _ q (said (pair w e) area (judge.safe n) j) refl

pub register_reachability : RegisterReachability
register_reachability f w e area n k q j = register_reachable_for_c f w e area _ q (said (pair w e) area (judge.reachable n k) j) refl

pub register_pso_reachability : RegisterPsoReachability
register_pso_reachability f w e area n k q j = register_pso_for_c f w e area _ q (said (pair w e) area (judge.pso n k) j) refl
