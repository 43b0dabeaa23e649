-- What a report proves, for every well-formed program, with no bound of any kind (document 02, N10).
use Rattle.std.specs.Prelude.{ℕ, ◌<◌, ◌≡◌, ◌↔◌, true, List, [], length, set, T}
use Rattle.machine_pws.specs.declared.Operation.{Operation}
use Rattle.machine_pws.specs.declared.Step.{Step}
use Rattle.machine_pws.specs.Program.{Shape, Program, transition, WellFormed, ProgramInRange}
use Rattle.machine_pws.specs.Machine.{Configuration, may_operate, queue_after, memory_after, may, after}
use Rattle.machine_pws.specs.Sequences.{Takes}
use Rattle.machine_pso.specs.Runs.{PsoReachable}
use Rattle.machine_equal.specs.Equivalence.{PwsReachable}
use Rattle.list_theory.specs.Verdict.{SafeList}
use Rattle.report_theory.specs.Nops.{Choice, as_nop, with_nops, only, all_kept, is_fence, FenceOf, MoreNops}
use Rattle.report_theory.specs.Report.{DifferentFences, Marked, MarkedChoice, Run, run_program, NeededReport, OneReaches, BothReach, NeitherReaches}

-- ---- programs with nops

-- what the machines ask of a program holds with nops too, and so does what the format asks
abbrev pub NopsWellFormed : Type 0
NopsWellFormed = (P : Program) (choice : Choice) → WellFormed P → WellFormed (with_nops P choice)

abbrev pub NopsInRange : Type 0
NopsInRange = (P : Program) (choice : Choice) → ProgramInRange P → ProgramInRange (with_nops P choice)

abbrev pub AllKeptIsProgram : Type 0
AllKeptIsProgram = (P : Program) → with_nops P all_kept ≡ P

-- one alone is the list of transitions with a nop at its place
abbrev pub OnlyIsSet : Type 0
OnlyIsSet =
    (P : Program) (n : ℕ) → n < length P.transitions
    → (with_nops P (only n)).transitions ≡ set P.transitions n (as_nop true (transition P n))

-- ---- fences

-- the operation does nothing, and waits while a value waits in a queue of its process
pub record OnlyWaits (o : Operation) : Type 0 where
  pub queues : (c : Configuration) (p : ℕ) → queue_after c p o ≡ c.queue
  pub memory : (c : Configuration) (p : ℕ) → memory_after c.memory p o ≡ c.memory
  pub waits : (S : Shape) (c : Configuration) (p v : ℕ) → v < S.variables → T (may_operate S c p o) → c.queue p v ≡ []

-- the fences are the operations that only wait: both kinds, and no other
abbrev pub FencesOnlyWait : Type 0
FencesOnlyWait = (o : Operation) → T (is_fence o) ↔ OnlyWaits o

-- ---- the heart: what a fence permits a nop permits, with the same effect

abbrev pub NopPermits : Type 0
NopPermits =
    (P : Program) (fewer more : Choice) → MoreNops P fewer more → (c : Configuration) (s : Step) → T (may (with_nops P fewer) c s)
    → T (may (with_nops P more) c s) × (after (with_nops P more) c s ≡ after (with_nops P fewer) c s)

-- so a run stays a run, step for step, when more fences become nops
abbrev pub RunStays : Type 0
RunStays =
    (P : Program) (fewer more : Choice) → MoreNops P fewer more → (c d : Configuration) (ss : List Step) → Takes (with_nops P fewer) c ss d
    → Takes (with_nops P more) c ss d

-- An sfence leaves marks in the buffers of the PSO machine, and a nop does not: there it is said of targets.
abbrev pub TargetsStay : Type 0
TargetsStay =
    (P : Program) → WellFormed P → (fewer more : Choice) → MoreNops P fewer more → (memory : List ℕ) (t : ℕ → ℕ)
    → (PwsReachable (with_nops P fewer) memory t → PwsReachable (with_nops P more) memory t)
    × (PsoReachable (with_nops P fewer) memory t → PsoReachable (with_nops P more) memory t)

-- ---- reports

-- a report without a mark says that its list is safe
abbrev pub WithoutMarks : Type 0
WithoutMarks = (P : Program) (ts : List (ℕ → ℕ)) (es : List Configuration) → NeededReport P ts [] es [] ↔ SafeList P ts es

-- each choice that makes at least one marked fence a nop and keeps the others can reach a target
abbrev pub NeededEach : Type 0
NeededEach =
    (P : Program) → WellFormed P → (ts : List (ℕ → ℕ)) (marks : List ℕ) (es : List Configuration) (runs : List Run)
    → NeededReport P ts marks es runs → (choice : Choice) → MarkedChoice marks choice → BothReach (with_nops P choice) ts

-- with all kept none can
abbrev pub NeededKept : Type 0
NeededKept =
    (P : Program) → WellFormed P → (ts : List (ℕ → ℕ)) (marks : List ℕ) (es : List Configuration) (runs : List Run)
    → NeededReport P ts marks es runs → NeitherReaches P ts

-- A report can be given wherever it would be true: the list is safe, the marks are different fences, and with each of them a nop
-- one of the machines reaches a target.
abbrev pub ReportExists : Type 0
ReportExists =
    (P : Program) → WellFormed P → (ts : List (ℕ → ℕ)) (marks : List ℕ) (es : List Configuration) → DifferentFences P marks → SafeList P ts es
    → ((i : ℕ) → i < length marks → OneReaches (run_program P marks i) ts) → (runs : List Run) × NeededReport P ts marks es runs

-- ---- fences that are not marked

-- nops are made of fences alone, marked or not
abbrev pub OfFences : Program → Choice → Type 0
OfFences P choice = (n : ℕ) → n < length P.transitions → T (choice n) → FenceOf P n

-- so it is with any choice of fences that makes at least one marked one a nop
abbrev pub NeededAmongAll : Type 0
NeededAmongAll =
    (P : Program) → WellFormed P → (ts : List (ℕ → ℕ)) (marks : List ℕ) (es : List Configuration) (runs : List Run)
    → NeededReport P ts marks es runs → (choice : Choice) → OfFences P choice → (n : ℕ) → Marked marks n → T (choice n)
    → BothReach (with_nops P choice) ts

-- ---- every fence marked

-- No fewer fences will do: with all of them no target is reached, with any of them made nops one is. So each by itself is needed.
pub record LeastFences (P : Program) (ts : List (ℕ → ℕ)) : Type 0 where
  pub all : NeitherReaches P ts
  pub fewer : (choice : Choice) → OfFences P choice → (n : ℕ) → FenceOf P n → T (choice n) → BothReach (with_nops P choice) ts
  pub each : (n : ℕ) → FenceOf P n → BothReach (with_nops P (only n)) ts

-- a report that marks every fence says so
abbrev pub AllMarked : Type 0
AllMarked =
    (P : Program) → WellFormed P → (ts : List (ℕ → ℕ)) (marks : List ℕ) (es : List Configuration) (runs : List Run)
    → NeededReport P ts marks es runs → ((n : ℕ) → FenceOf P n → Marked marks n) → LeastFences P ts
