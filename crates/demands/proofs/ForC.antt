-- What C gets (the top of specs/Demands): by the demands on the verdict, and by what the bytes of a file that is read give.
use Prim.Native.Nat.{ℕ, ◌+◌}
use mathlib.Core.Path.{◌≡◌, refl, sym, ap, ap₂, subst, ◌∙◌}
use mathlib.Core.Bool.{Bool, true, false, cond}
use mathlib.Core.List.{List, []}
use native.Mathlib.Omega.{arith}
use lib.ListN.{length, length-map}
use lib.Dec.{eqb}
use Rattle.machine_pws.specs.declared.Step.{Step}
use Rattle.machine_pws.specs.declared.Step.TheVariants.{Take, Serialise, Update}
use Rattle.machine_pws.specs.Program.{Program}
use Rattle.machine_pso.specs.Runs.{PsoReachable}
use Rattle.list_theory.specs.Verdict.{target}
use Rattle.base.specs.Bytes.{byte}
use Rattle.file_contents.specs.Reading.{Input, evidence_at, FileRead, refused, list, run, pso_run, read_file}
use Rattle.file_again.proofs.Contents.{Outcome, outcome_refused, outcome_list, outcome_run, outcome, file_list, file_run}
use Rattle.file_again.proofs.Rows.{steps_length}
use Rattle.pso_replay.specs.Answers.{pso_step, pso_steps, PsoReached}
use Rattle.verdict.specs.declared.answer.Verdict as declared
use Rattle.verdict.specs.Judge as judge
use Rattle.verdict.specs.Answers.{in_c, Answered}
use Rattle.verdict.proofs.Verdicts.{judged_one}
use Rattle.demands.specs.Demands.{
  records_in,
  program_in,
  targets_in,
  ProgramIsRead,
  memory_in,
  steps_in,
  StepsAreRead,
  NoneVisited,
  Reaches,
  SafeForC,
  ReachableForC,
  PsoForC,
}
use Rattle.demands.proofs.Demands.{accepted_run, accepted_pso_run}
use Rattle.demands.proofs.PsoDemands.{pso_safety, pso_reachability}

-- ---- the kind of a verdict

safe_kind : (v : judge.Verdict) → (in_c v).kind ≡ 0 → (n : ℕ) × (v ≡ judge.safe n)
safe_kind (judge.safe n) e = (n, refl)
safe_kind (judge.reachable n k) e = absurd (let z : ◌≡◌ {A = ℕ} 1 0 = e in omega arith)
safe_kind (judge.pso n k) e = absurd (let z : ◌≡◌ {A = ℕ} 3 0 = e in omega arith)
safe_kind (judge.refused n k) e = absurd (let z : ◌≡◌ {A = ℕ} 2 0 = e in omega arith)
safe_kind (judge.entered k (Take n)) e = absurd (let z : ◌≡◌ {A = ℕ} 2 0 = e in omega arith)
safe_kind (judge.entered k (Serialise p v)) e = absurd (let z : ◌≡◌ {A = ℕ} 2 0 = e in omega arith)
safe_kind (judge.entered k (Update p)) e = absurd (let z : ◌≡◌ {A = ℕ} 2 0 = e in omega arith)

reachable_kind : (v : judge.Verdict) → (in_c v).kind ≡ 1 → v ≡ judge.reachable (in_c v).first (in_c v).second
reachable_kind (judge.safe n) e = absurd (let z : ◌≡◌ {A = ℕ} 0 1 = e in omega arith)
reachable_kind (judge.reachable n k) e = refl
reachable_kind (judge.pso n k) e = absurd (let z : ◌≡◌ {A = ℕ} 3 1 = e in omega arith)
reachable_kind (judge.refused n k) e = absurd (let z : ◌≡◌ {A = ℕ} 2 1 = e in omega arith)
reachable_kind (judge.entered k (Take n)) e = absurd (let z : ◌≡◌ {A = ℕ} 2 1 = e in omega arith)
reachable_kind (judge.entered k (Serialise p v)) e = absurd (let z : ◌≡◌ {A = ℕ} 2 1 = e in omega arith)
reachable_kind (judge.entered k (Update p)) e = absurd (let z : ◌≡◌ {A = ℕ} 2 1 = e in omega arith)

pso_kind : (v : judge.Verdict) → (in_c v).kind ≡ 3 → v ≡ judge.pso (in_c v).first (in_c v).second
pso_kind (judge.safe n) e = absurd (let z : ◌≡◌ {A = ℕ} 0 3 = e in omega arith)
pso_kind (judge.reachable n k) e = absurd (let z : ◌≡◌ {A = ℕ} 1 3 = e in omega arith)
pso_kind (judge.pso n k) e = refl
pso_kind (judge.refused n k) e = absurd (let z : ◌≡◌ {A = ℕ} 2 3 = e in omega arith)
pso_kind (judge.entered k (Take n)) e = absurd (let z : ◌≡◌ {A = ℕ} 2 3 = e in omega arith)
pso_kind (judge.entered k (Serialise p v)) e = absurd (let z : ◌≡◌ {A = ℕ} 2 3 = e in omega arith)
pso_kind (judge.entered k (Update p)) e = absurd (let z : ◌≡◌ {A = ℕ} 2 3 = e in omega arith)

-- ---- what a reading holds; where it holds none of a kind, what is given instead

abbrev read_as : FileRead → ℕ
read_as (refused w r) = 0
read_as (list P ts es) = 1
read_as (run P ts m ss) = 2
read_as (pso_run P ts m ss) = 2

abbrev program_by : Program → FileRead → Program
program_by Q (refused w r) = Q
program_by Q (list P ts es) = P
program_by Q (run P ts m ss) = P
program_by Q (pso_run P ts m ss) = P

abbrev targets_by : List (ℕ → ℕ) → FileRead → List (ℕ → ℕ)
targets_by us (refused w r) = us
targets_by us (list P ts es) = ts
targets_by us (run P ts m ss) = ts
targets_by us (pso_run P ts m ss) = ts

abbrev memory_by : List ℕ → FileRead → List ℕ
memory_by l (refused w r) = l
memory_by l (list P ts es) = l
memory_by l (run P ts m ss) = m
memory_by l (pso_run P ts m ss) = m

abbrev steps_by : FileRead → List Step
steps_by (refused w r) = []
steps_by (list P ts es) = []
steps_by (run P ts m ss) = ss
steps_by (pso_run P ts m ss) = ss

-- ---- it is what stands in the file

record ListIn (x : Input) (r : FileRead) : Type 0 where
  fine : ProgramIsRead x
  program : program_by (program_in x) r ≡ program_in x
  targets : targets_by (targets_in x) r ≡ targets_in x

record RunIn (x : Input) (r : FileRead) : Type 0 where
  fine : ProgramIsRead x
  program : program_by (program_in x) r ≡ program_in x
  targets : targets_by (targets_in x) r ≡ targets_in x
  memory : memory_by (memory_in x) r ≡ memory_in x
  count : ℕ
  steps : steps_by r ≡ steps_in x count
  all : StepsAreRead x count

-- a run of the one machine or the other
abbrev either : Bool → Program → List (ℕ → ℕ) → List ℕ → List Step → FileRead
either b P ts m ss = cond b (run P ts m ss) (pso_run P ts m ss)

either_as : (b : Bool) (P : Program) (ts : List (ℕ → ℕ)) (m : List ℕ) (ss : List Step) → read_as (either b P ts m ss) ≡ 2
either_as true P ts m ss = refl
either_as false P ts m ss = refl

either_in : (x : Input) (n : ℕ) → ProgramIsRead x → StepsAreRead x n → (b : Bool) → RunIn x (either b (program_in x) (targets_in x) (memory_in x) (steps_in x n))
either_in x n a s true = record { fine = a; program = refl; targets = refl; memory = refl; count = n; steps = refl; all = s }
either_in x n a s false = record { fine = a; program = refl; targets = refl; memory = refl; count = n; steps = refl; all = s }

module _ (x : Input) (area : ℕ) (r : FileRead) (q : read_file x area ≡ r) where
  -- the claim is 1
  abbrev one : Bool
  one = eqb (byte x.file (evidence_at x (records_in x) + 1)) 1

  list_in : read_as r ≡ 1 → ListIn x r
  list_in k = go (outcome x area)
    where
      go : Outcome x area → ListIn x r
      go (outcome_refused w s a b) = absurd (let z : read_as r ≡ 0 = ap read_as (sym q ∙ b) in omega (arith, k))
      go (outcome_list L) = subst (ListIn x) (sym (file_list x area L) ∙ q) (record { fine = L.fine; program = refl; targets = refl })
      go (outcome_run R) =
          absurd (let z : read_as r ≡ 2 = ap read_as (sym q ∙ file_run x area R) ∙ either_as one _ _ _ _ in omega (arith, k))

  run_in : read_as r ≡ 2 → RunIn x r
  run_in k = go (outcome x area)
    where
      go : Outcome x area → RunIn x r
      go (outcome_refused w s a b) = absurd (let z : read_as r ≡ 0 = ap read_as (sym q ∙ b) in omega (arith, k))
      go (outcome_list L) = absurd (let z : read_as r ≡ 1 = ap read_as (sym q ∙ file_list x area L) in omega (arith, k))
      go (outcome_run R) = subst (RunIn x) (sym (file_run x area R) ∙ q) (either_in x R.count R.fine R.reads one)

-- what holds of a run that is read holds of what stands in the file; n is the number of its steps
moved : (x : Input) (F : Program → List (ℕ → ℕ) → List ℕ → List Step → Type 0) (P : Program) (ts : List (ℕ → ℕ)) (m : List ℕ) (ss : List Step) (n c : ℕ)
    → n ≡ length ss → P ≡ program_in x → ts ≡ targets_in x → m ≡ memory_in x → ss ≡ steps_in x c → StepsAreRead x c → F P ts m ss
    → StepsAreRead x n × F (program_in x) (targets_in x) (memory_in x) (steps_in x n)
moved x F P ts m ss n c l p t e s a y =
    let d : c ≡ n = sym (steps_length x.file (evidence_at x (records_in x) + 2 + 5) c) ∙ ap length (sym s) ∙ sym l in
    let z : F P ts m (steps_in x n) = subst (F P ts m) (s ∙ ap (steps_in x) d) y in
    let z₁ : F P ts (memory_in x) (steps_in x n) = subst (λ (l : List ℕ). F P ts l (steps_in x n)) e z in
    let z₂ : F P (targets_in x) (memory_in x) (steps_in x n) = subst (λ (us : List (ℕ → ℕ)). F P us (memory_in x) (steps_in x n)) t z₁ in
    (subst (StepsAreRead x) d a, subst (λ (Q : Program). F Q (targets_in x) (memory_in x) (steps_in x n)) p z₂)

-- ---- the theorems

module _ (x : Input) (area : ℕ) (r : declared.Verdict) (A : Answered x area r) where
  answered : judge.judged x area ≡ A.verdict
  answered = sym ((judged_one x area).1 A.verdict A.judged)

  kind_is : r.kind ≡ (in_c A.verdict).kind
  kind_is = ap (λ (w : declared.Verdict). w.kind) A.same

  -- a verdict of the two numbers that C gets
  numbers : (v : ℕ → ℕ → judge.Verdict) → A.verdict ≡ v (in_c A.verdict).first (in_c A.verdict).second → judge.judged x area ≡ v r.first r.second
  numbers v e =
      answered ∙ e
      ∙ ap₂ v (ap (λ (w : declared.Verdict). w.first) (sym A.same)) (ap (λ (w : declared.Verdict). w.second) (sym A.same))

pub safe_for_c : SafeForC
safe_for_c x area r A e =
    let s = safe_kind A.verdict (sym (kind_is x area r A) ∙ e) in
    let y = pso_safety x area s.0 (answered x area r A ∙ s.1) in
    let i = list_in x area _ y.reads refl in
    let z : NoneVisited y.program y.targets = y.holds in
    let w : NoneVisited y.program (targets_in x) = subst (NoneVisited y.program) i.targets z in
    (i.fine, subst (λ (P : Program). NoneVisited P (targets_in x)) i.program w)

pub reachable_for_c : ReachableForC
reachable_for_c x area r A e =
    let v = numbers x area r A judge.reachable (reachable_kind A.verdict (sym (kind_is x area r A) ∙ e)) in
    let y = (accepted_run x area r.first r.second).0 v in
    let i = run_in x area _ y.reads refl in
    let w =
    moved x (λ P ts m ss. Reaches P ts m ss r.first r.second) y.program y.targets y.memory y.steps r.first i.count
    y.holds.count i.program i.targets i.memory i.steps i.all y.holds in
    let u = pso_reachability x area r.first r.second v in
    let j = run_in x area _ u.reads refl in
    let h =
    moved x (λ P ts m ss. PsoReachable P m (target ts r.second)) u.program u.targets u.memory u.steps (length u.steps) j.count
    refl j.program j.targets j.memory j.steps j.all u.holds in
    (i.fine, w.0, w.1, h.1)

pub pso_for_c : PsoForC
pso_for_c x area r A e =
    let v = numbers x area r A judge.pso (pso_kind A.verdict (sym (kind_is x area r A) ∙ e)) in
    let y = (accepted_pso_run x area r.first r.second).0 v in
    let i = run_in x area _ y.reads refl in
    let w =
    moved x (λ P ts m ss. PsoReached P m ts (pso_steps ss) r.first r.second) y.program y.targets y.memory y.records r.first i.count
    (y.holds.count ∙ length-map y.records pso_step) i.program i.targets i.memory i.steps i.all y.holds in
    (i.fine, w.0, w.1)
