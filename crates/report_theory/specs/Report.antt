-- What a report says (document 02, N10): of a program and its targets, any number of marks, a list, and for each mark a run.
use Rattle.std.specs.Prelude.{ℕ, ◌<◌, ◌≡◌, ◌⊎◌, ◌≢◌, List, [], length, get_or, T}
use Rattle.machine_pws.specs.declared.Step.{Step}
use Rattle.machine_pws.specs.Program.{Program}
use Rattle.machine_pws.specs.Machine.{Configuration}
use Rattle.machine_pws.specs.Configurations.{starting_memory, Start, InTarget}
use Rattle.machine_pws.specs.Sequences.{Takes}
use Rattle.machine_pso.specs.Runs.{PsoReachable}
use Rattle.machine_equal.specs.Equivalence.{PwsReachable}
use Rattle.list_theory.specs.Verdict.{target, SafeList}
use Rattle.report_theory.specs.Nops.{Choice, with_nops, only, FenceOf}

-- ---- marks: the numbers of transitions

-- the mark of place i
abbrev pub mark : List ℕ → ℕ → ℕ
mark marks i = get_or marks i 0

-- each is a fence of the program, and no two are the same transition: what refusal 22 asks
pub record DifferentFences (P : Program) (marks : List ℕ) : Type 0 where
  pub fences : (i : ℕ) → i < length marks → FenceOf P (mark marks i)
  pub different : (i j : ℕ) → i < j → j < length marks → mark marks i ≢ mark marks j

-- n is marked
abbrev pub Marked : List ℕ → ℕ → Type 0
Marked marks n = (i : ℕ) × (i < length marks) × (mark marks i ≡ n)

-- at least one marked fence is made a nop, and the others are kept, as is every transition that is not marked
pub record MarkedChoice (marks : List ℕ) (choice : Choice) : Type 0 where
  pub some : (i : ℕ) × (i < length marks) × T (choice (mark marks i))
  pub others : (n : ℕ) → T (choice n) → Marked marks n

-- ---- evidence

-- what evidence with claim 1 holds
pub record Run : Type 0 where
  pub memory : List ℕ
  pub steps : List Step

abbrev pub no_run : Run
no_run = record { memory = []; steps = [] }

-- the run of place i
abbrev pub run : List Run → ℕ → Run
run runs i = get_or runs i no_run

-- from a start with its memory the machine takes every step of the run in turn, and ends in a target (document 01, demand 2, for runs)
pub record RunReaches (P : Program) (ts : List (ℕ → ℕ)) (r : Run) : Type 0 where
  pub start : Configuration
  pub permitted : Start P start
  pub memory : starting_memory start ≡ r.memory
  pub end : Configuration
  pub takes : Takes P start r.steps end
  pub number : ℕ
  pub exists : number < length ts
  pub met : InTarget P.shape (target ts number) end

-- of the run of place i: its own marked fence is a nop, and all else is kept
abbrev pub run_choice : List ℕ → ℕ → Choice
run_choice marks i = only (mark marks i)

abbrev pub run_program : Program → List ℕ → ℕ → Program
run_program P marks i = with_nops P (run_choice marks i)

-- the marks are different fences, the list is safe for the program, and each mark has in turn a run in which that fence is a nop
pub record NeededReport (P : Program) (ts : List (ℕ → ℕ)) (marks : List ℕ) (es : List Configuration) (runs : List Run) : Type 0 where
  pub fences : DifferentFences P marks
  pub list : SafeList P ts es
  pub count : length runs ≡ length marks
  pub reach : (i : ℕ) → i < length marks → RunReaches (run_program P marks i) ts (run runs i)

-- ---- what is said of a program

-- from some memory a run of one of the machines reaches a target
pub record OneReaches (P : Program) (ts : List (ℕ → ℕ)) : Type 0 where
  pub memory : List ℕ
  pub number : ℕ
  pub exists : number < length ts
  pub reachable : PwsReachable P memory (target ts number) ⊎ PsoReachable P memory (target ts number)

-- from some memory a run of the PWS machine reaches a target, and from the same memory one of the PSO machine reaches the same
pub record BothReach (P : Program) (ts : List (ℕ → ℕ)) : Type 0 where
  pub memory : List ℕ
  pub number : ℕ
  pub exists : number < length ts
  pub pws : PwsReachable P memory (target ts number)
  pub pso : PsoReachable P memory (target ts number)

-- from no memory does a run of either machine reach a target
pub record NeitherReaches (P : Program) (ts : List (ℕ → ℕ)) : Type 0 where
  pub pws : (memory : List ℕ) (k : ℕ) → k < length ts → PwsReachable P memory (target ts k) → ⊥
  pub pso : (memory : List ℕ) (k : ℕ) → k < length ts → PsoReachable P memory (target ts k) → ⊥
