-- What the judge's answers say of partial store order itself: statements about the verdict of a file and the PSO machine of the report's 4.1
-- (pso/specs). The theorems are in proofs/PsoDemands, under the same names in small letters. They hold for programs with sfence and without.
use Rattle.std.specs.Prelude.{ℕ, ◌<◌, ◌≡◌, List, length}
use Rattle.list_theory.specs.Verdict.{target}
use Rattle.machine_pso.specs.declared.PsoStep.{PsoStep}
use Rattle.machine_pso.specs.Machine.{PsoConfiguration}
use Rattle.machine_pso.specs.Runs.{PsoStart, PsoVisited, PsoInTarget, PsoReachable}
use Rattle.machine_equal.specs.Equivalence.{PwsReachable}
use Rattle.file_contents.specs.Reading.{Input}
use Rattle.verdict.specs.Judge.{safe, reachable, pso, judged}
use Rattle.demands.specs.PsoRuns.{OfPsoRun}
use Rattle.demands.specs.Demands.{OfList, OfRun}

-- In a file that is accepted as safe, with whatever work area, no sequence of steps of the PSO machine, of any length and from any
-- memory, visits a configuration in a target: not at its start and not after any step that the machine takes.
abbrev pub PsoSafety : Type 0
PsoSafety = (x : Input) (area n : ℕ) → judged x area ≡ safe n → OfList x area (λ P ts es.
    (memory : List ℕ) (d : PsoConfiguration) → PsoStart P memory d → (us : List PsoStep) (e : PsoConfiguration) → PsoVisited P d us e
    → (k : ℕ) → k < length ts → PsoInTarget P.shape (target ts k) e → ⊥)

-- In a file that is accepted as reachable, a run of the PSO machine reaches the same target from the file's memory.
abbrev pub PsoReachability : Type 0
PsoReachability = (x : Input) (area n k : ℕ) → judged x area ≡ reachable n k → OfRun x area (λ P ts m ss. PsoReachable P m (target ts k))

-- In a file that is accepted under claim 2, a run of the PWS machine reaches the same target from the file's memory.
abbrev pub PwsReachability : Type 0
PwsReachability = (x : Input) (area n k : ℕ) → judged x area ≡ pso n k → OfPsoRun x area (λ P ts m us. PwsReachable P m (target ts k))
