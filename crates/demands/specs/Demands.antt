-- The demands, as statements about the verdict of what is judged: x is one file (`combined f`), or a program file and an evidence file (`pair g f`,
-- document 02, N6). First what C gets, then the verdict itself. The theorems are in proofs/Demands and proofs/ForC, under the same names in small letters. A
-- configuration, a step and a sequence of steps are the machine's (machine_pws/specs), with no bound of any kind; `area` is the length of any work area.
-- Of a file whose claim is 2 they speak of the PSO machine (machine_pso/specs). What the answers to claims 0 and 1 say of it stands in specs/PsoDemands.
use Rattle.std.specs.Prelude.{ℕ, ◌+◌, ◌<◌, ◌≤◌, ◌≡◌, ◌↔◌, ◌⊎◌, false, List, [], ◌∷◌, length, get_or, take, Ok}
use Rattle.machine_pws.specs.declared.Step.{Step}
use Rattle.machine_pws.specs.declared.Step.TheVariants.{Take, Serialise, Update}
use Rattle.machine_pws.specs.declared.Operation.{Operation}
use Rattle.machine_pws.specs.declared.Operation.TheVariants.{Nop, Read, Write, Mfence, Sfence, Arw}
use Rattle.machine_pws.specs.Program.{Shape, Program, transition}
use Rattle.machine_pws.specs.Machine.{Configuration, newest, sees, may}
use Rattle.machine_pws.specs.Configurations.{starting_memory, Start, InTarget}
use Rattle.machine_pws.specs.Entries.{AboveList}
use Rattle.machine_pws.specs.Sequences.{Takes, Visited, Simulated}
use Rattle.machine_pws.specs.Ranges.{CountsOf, KeepsRanges}
use Rattle.machine_pso.specs.declared.PsoStep.{PsoStep}
use Rattle.machine_pso.specs.Machine.{PsoConfiguration}
use Rattle.machine_pso.specs.Runs.{PsoStart, PsoVisited, PsoInTarget, PsoReachable}
use Rattle.machine_pso.specs.Ranges.{PsoKeepsRanges}
use Rattle.list_theory.specs.Verdict.{target, SafeList, Unheld, Started, Entered}
use Rattle.base.specs.Bytes.{byte}
use Rattle.file_records.specs.declared.program.Program as records
use Rattle.file_records.specs.Records.{memory_at}
use Rattle.file_records.specs.ProgramPart.{program_from, program_of, targets_of, whether, program_read}
use Rattle.file_contents.specs.declared.evidence.Part.{Part}
use Rattle.file_contents.specs.EvidencePart.{steps_from, steps_of}
use Rattle.file_contents.specs.Reading as reading
use Rattle.run_causes.specs.declared.Cause.TheVariants.{State, Queue, Value, Nothing}
use Rattle.pso_replay.specs.Answers.{pso_steps, PsoReached, PsoStopped, PsoMissed}
use Rattle.verdict.specs.declared.answer.Verdict as declared
use Rattle.verdict.specs.Judge.{Verdict, safe, reachable, pso, refused, entered, Judged, judged}
use Rattle.verdict.specs.Answers.{Answered}
use Rattle.demands.specs.PsoRuns.{OfPsoRun, PsoHalts}

-- ---- what C gets

-- where the records of the program stand, and the program and the targets that they are; none of them is refused
abbrev pub records_in : reading.Input → records.Program
records_in x = program_read (program_from x.alone x.code 0)

abbrev pub program_in : reading.Input → Program
program_in x = program_of x.code (records_in x)

abbrev pub targets_in : reading.Input → List (ℕ → ℕ)
targets_in x = targets_of x.code (records_in x)

abbrev pub ProgramIsRead : reading.Input → Type 0
ProgramIsRead x = whether (program_from x.alone x.code 0) ≡ Ok tt

-- after the two bytes of its claim, the starting memory of a run; after the five of that, n steps; up to the file's end there are so many
abbrev pub memory_in : reading.Input → List ℕ
memory_in x = memory_at x.file (reading.evidence_at x (records_in x) + 2)

abbrev pub steps_in : reading.Input → ℕ → List Step
steps_in x n = steps_of x.file (reading.evidence_at x (records_in x) + 2 + 5) n

abbrev pub StepsAreRead : reading.Input → ℕ → Type 0
StepsAreRead x n = steps_from (records_in x).shape (records_in x).transitions.count x.file (reading.evidence_at x (records_in x) + 2 + 5) ≡ Ok n

-- no sequence of steps of the PSO machine, of any length and from any memory, visits a target: not at its start and not after any step
abbrev pub NoneVisited : Program → List (ℕ → ℕ) → Type 0
NoneVisited P ts =
    (memory : List ℕ) (d : PsoConfiguration) → PsoStart P memory d → (us : List PsoStep) (e : PsoConfiguration) → PsoVisited P d us e
    → (k : ℕ) → k < length ts → PsoInTarget P.shape (get_or ts k (λ p. 0)) e → ⊥

-- the PWS machine takes the steps in turn from a start with the memory m, and ends in the target of number k, and in no lower one; n is the number of steps
pub record Reaches (P : Program) (ts : List (ℕ → ℕ)) (m : List ℕ) (ss : List Step) (n k : ℕ) : Type 0 where
  pub count : n ≡ length ss
  pub start : Configuration
  pub permitted : Start P start
  pub memory : starting_memory start ≡ m
  pub end : Configuration
  pub takes : Takes P start ss end
  pub exists : k < length ts
  pub met : InTarget P.shape (target ts k) end
  pub lower : (j : ℕ) → j < k → InTarget P.shape (target ts j) end → ⊥

-- What the kinds say. Nothing here names a list of entries, an order of configurations, or how it is decided.

-- kind 0
abbrev pub SaysSafe : reading.Input → Type 0
SaysSafe x = ProgramIsRead x × NoneVisited (program_in x) (targets_in x)

-- kind 1: the steps, n of them, are a run of the PWS machine to the target of number k, and some run of the PSO machine, from the same memory,
-- reaches that target
abbrev pub SaysReachable : reading.Input → ℕ → ℕ → Type 0
SaysReachable x n k =
    ProgramIsRead x × StepsAreRead x n × Reaches (program_in x) (targets_in x) (memory_in x) (steps_in x n) n k
    × PsoReachable (program_in x) (memory_in x) (target (targets_in x) k)

-- kind 3: the steps are themselves such a run of the PSO machine
abbrev pub SaysPso : reading.Input → ℕ → ℕ → Type 0
SaysPso x n k = ProgramIsRead x × StepsAreRead x n × PsoReached (program_in x) (memory_in x) (targets_in x) (pso_steps (steps_in x n)) n k

-- `Answered x area r` is what the contracts of `hrafnolt_judge` and `hrafnolt_judge_pair` (crates/exports) say of their result r
abbrev pub SafeForC : Type 0
SafeForC = (x : reading.Input) (area : ℕ) (r : declared.Verdict) → Answered x area r → r.kind ≡ 0 → SaysSafe x

abbrev pub ReachableForC : Type 0
ReachableForC = (x : reading.Input) (area : ℕ) (r : declared.Verdict) → Answered x area r → r.kind ≡ 1 → SaysReachable x r.first r.second

abbrev pub PsoForC : Type 0
PsoForC = (x : reading.Input) (area : ℕ) (r : declared.Verdict) → Answered x area r → r.kind ≡ 3 → SaysPso x r.first r.second

-- ---- what the bytes give

-- they give a program, targets and entries, of which F holds
pub record OfList (x : reading.Input) (area : ℕ) (F : Program → List (ℕ → ℕ) → List Configuration → Type 0) : Type 0 where
  pub program : Program
  pub targets : List (ℕ → ℕ)
  pub entries : List Configuration
  pub reads : reading.read_file x area ≡ reading.list program targets entries
  pub holds : F program targets entries

-- they give a program, targets, a starting memory and steps, of which F holds
pub record OfRun (x : reading.Input) (area : ℕ) (F : Program → List (ℕ → ℕ) → List ℕ → List Step → Type 0) : Type 0 where
  pub program : Program
  pub targets : List (ℕ → ℕ)
  pub memory : List ℕ
  pub steps : List Step
  pub reads : reading.read_file x area ≡ reading.run program targets memory steps
  pub holds : F program targets memory steps

-- ---- what the machine does with a run's steps

-- from a start with the memory m it takes the steps before that of number k, and does not take that one for the reason F
pub record Stops (F : Program → Configuration → Step → Type 0) (P : Program) (m : List ℕ) (ss : List Step) (k : ℕ) : Type 0 where
  pub exists : k < length ss
  pub start : Configuration
  pub permitted : Start P start
  pub memory : starting_memory start ≡ m
  pub before : Configuration
  pub takes : Takes P start (take k ss) before
  pub reason : F P before (get_or ss k (Update 0))

-- 13: it takes every step in turn from a start with the memory m, and ends in no target; n is the number of steps
pub record Misses (P : Program) (ts : List (ℕ → ℕ)) (m : List ℕ) (ss : List Step) (n : ℕ) : Type 0 where
  pub count : n ≡ length ss
  pub start : Configuration
  pub permitted : Start P start
  pub memory : starting_memory start ≡ m
  pub end : Configuration
  pub takes : Takes P start ss end
  pub none : (j : ℕ) → j < length ts → InTarget P.shape (target ts j) end → ⊥

-- ---- why it does not take a step (document 02, N1): the first that fails, of a transition's local state, queues, pointer and value

-- transition n exists, and its process is in the first of its local states
abbrev pub InState : Program → Configuration → ℕ → Type 0
InState P c n = (n < length P.transitions) × (c.state (transition P n).process ≡ (transition P n).from)

-- the queues that must be empty are: all queues of p for a fence, p's own of the variable for an arw
abbrev pub QueuesEmpty : Shape → Configuration → ℕ → Operation → Type 0
QueuesEmpty S c p Nop = Unit {0}
QueuesEmpty S c p (Read v x) = Unit {0}
QueuesEmpty S c p (Write v x) = Unit {0}
QueuesEmpty S c p Mfence = (v : ℕ) → v < S.variables → c.queue p v ≡ []
QueuesEmpty S c p Sfence = (v : ℕ) → v < S.variables → c.queue p v ≡ []
QueuesEmpty S c p (Arw v old new) = c.queue p v ≡ []

-- p points at the newest message, for an mfence or an arw
abbrev pub AtNewest : Configuration → ℕ → Operation → Type 0
AtNewest c p Nop = Unit {0}
AtNewest c p (Read v x) = Unit {0}
AtNewest c p (Write v x) = Unit {0}
AtNewest c p Mfence = c.memory.pointer p ≡ length c.memory.channel
AtNewest c p Sfence = Unit {0}
AtNewest c p (Arw v old new) = c.memory.pointer p ≡ length c.memory.channel

-- the value is there: the one read is what p sees, an arw's old one is in the newest message
abbrev pub ValueThere : Configuration → ℕ → Operation → Type 0
ValueThere c p Nop = Unit {0}
ValueThere c p (Read v x) = sees c p v ≡ x
ValueThere c p (Write v x) = Unit {0}
ValueThere c p Mfence = Unit {0}
ValueThere c p Sfence = Unit {0}
ValueThere c p (Arw v old new) = get_or (newest c.memory.channel).snapshot v 0 ≡ old

-- 12
abbrev pub OtherState : Program → Configuration → Step → Type 0
OtherState P c (Take n) = InState P c n → ⊥
OtherState P c (Serialise p v) = ⊥
OtherState P c (Update p) = ⊥

-- 16
abbrev pub QueueWaits : Program → Configuration → Step → Type 0
QueueWaits P c (Take n) = let t = transition P n in InState P c n × (QueuesEmpty P.shape c t.process t.operation → ⊥)
QueueWaits P c (Serialise p v) = ⊥
QueueWaits P c (Update p) = ⊥

-- 17
abbrev pub PointerBehind : Program → Configuration → Step → Type 0
PointerBehind P c (Take n) =
    let t = transition P n in InState P c n × QueuesEmpty P.shape c t.process t.operation × (AtNewest c t.process t.operation → ⊥)
PointerBehind P c (Serialise p v) = ⊥
PointerBehind P c (Update p) = ⊥

-- 15
abbrev pub OtherValue : Program → Configuration → Step → Type 0
OtherValue P c (Take n) =
    let t = transition P n in
    InState P c n × QueuesEmpty P.shape c t.process t.operation × AtNewest c t.process t.operation
    × (ValueThere c t.process t.operation → ⊥)
OtherValue P c (Serialise p v) = ⊥
OtherValue P c (Update p) = ⊥

-- 18: no value waits there; p has no newer message
abbrev pub NothingThere : Program → Configuration → Step → Type 0
NothingThere P c (Take n) = ⊥
NothingThere P c (Serialise p v) = ((p < P.shape.processes) × (v < P.shape.variables) × (c.queue p v ≡ [] → ⊥)) → ⊥
NothingThere P c (Update p) = ((p < P.shape.processes) × (c.memory.pointer p < length c.memory.channel)) → ⊥

-- any of them: the machine may not take it
abbrev pub Cannot : Program → Configuration → Step → Type 0
Cannot P c s = may P c s ≡ false

-- their numbers
abbrev pub StepNumber : ℕ → Type 0
StepNumber n = (n ≡ 12) ⊎ ((15 ≤ n) × (n ≤ 18))

-- ---- demand 1: every file has exactly one answer, and each refusal is said exactly when the table says so

-- `judged` computes a verdict of the file, and there is no other
abbrev pub OneAnswer : Type 0
OneAnswer = (x : reading.Input) (area : ℕ) → Judged x area (judged x area) × ((v : Verdict) → Judged x area v → v ≡ judged x area)

-- 8
abbrev pub Refused8 : Type 0
Refused8 = (x : reading.Input) (area k : ℕ) → (judged x area ≡ refused 8 k) ↔ ((area < 65536) × (k ≡ 0))

-- 1 to 7: the reading of the records says so, in an area that is large enough; the record stands in the program part or in the evidence part
abbrev pub RefusedReading : Type 0
RefusedReading = (x : reading.Input) (area n k : ℕ) → n ≤ 8 → (judged x area ≡ refused n k) ↔ ((w : Part) × (reading.read_file x area ≡ reading.refused w (record { number = n; place = k })))

-- 9: k is the lowest target with a configuration, in hand, that is not above the list
abbrev pub Refused9 : Type 0
Refused9 = (x : reading.Input) (area k : ℕ) → (judged x area ≡ refused 9 k) ↔ OfList x area (λ P ts es. Unheld P ts es k)

-- 10: k is the lowest entry that a start, in hand, is above; every target is held
abbrev pub Refused10 : Type 0
Refused10 = (x : reading.Input) (area k : ℕ) → (judged x area ≡ refused 10 k) ↔ OfList x area (λ P ts es. Started P ts es k)

-- 11: k is the lowest entry above which some step leads from outside the list, and s the lowest such step (document 02, N13): a
-- configuration outside, in hand, gets above entry k through s, and none does through a lower step. Every target is held and no start is
-- above an entry.
abbrev pub Refused11 : Type 0
Refused11 = (x : reading.Input) (area k : ℕ) (s : Step) → (judged x area ≡ entered k s) ↔ OfList x area (λ P ts es. Entered P ts es k s)

-- 12, 16, 17, 15 and 18: the machine takes the steps before number k, and step k fails for this reason first. A run of either machine gets
-- them, but for 17, of which the PSO machine knows nothing.
abbrev pub Refused12 : Type 0
Refused12 =
    (x : reading.Input) (area k : ℕ) → (judged x area ≡ refused 12 k)
    ↔ (OfRun x area (λ P ts m ss. Stops OtherState P m ss k) ⊎ OfPsoRun x area (λ P ts m us. PsoStopped P m us k State))

abbrev pub Refused16 : Type 0
Refused16 =
    (x : reading.Input) (area k : ℕ) → (judged x area ≡ refused 16 k)
    ↔ (OfRun x area (λ P ts m ss. Stops QueueWaits P m ss k) ⊎ OfPsoRun x area (λ P ts m us. PsoStopped P m us k Queue))

abbrev pub Refused17 : Type 0
Refused17 = (x : reading.Input) (area k : ℕ) → (judged x area ≡ refused 17 k) ↔ OfRun x area (λ P ts m ss. Stops PointerBehind P m ss k)

-- so 17 is never said under claim 2
abbrev pub NoPointer : Type 0
NoPointer = (x : reading.Input) (area k : ℕ) → OfPsoRun x area (λ P ts m us. Unit {0}) → judged x area ≡ refused 17 k → ⊥

abbrev pub Refused15 : Type 0
Refused15 =
    (x : reading.Input) (area k : ℕ) → (judged x area ≡ refused 15 k)
    ↔ (OfRun x area (λ P ts m ss. Stops OtherValue P m ss k) ⊎ OfPsoRun x area (λ P ts m us. PsoStopped P m us k Value))

abbrev pub Refused18 : Type 0
Refused18 =
    (x : reading.Input) (area k : ℕ) → (judged x area ≡ refused 18 k)
    ↔ (OfRun x area (λ P ts m ss. Stops NothingThere P m ss k) ⊎ OfPsoRun x area (λ P ts m us. PsoStopped P m us k Nothing))

-- together: one of them is said of step k exactly when the machine takes the steps before it and cannot take it
abbrev pub RefusedStep : Type 0
RefusedStep =
    (x : reading.Input) (area k : ℕ) → ((n : ℕ) × StepNumber n × (judged x area ≡ refused n k))
    ↔ (OfRun x area (λ P ts m ss. Stops Cannot P m ss k) ⊎ OfPsoRun x area (λ P ts m us. PsoHalts P m us k))

-- 13

abbrev pub Refused13 : Type 0
Refused13 =
    (x : reading.Input) (area n : ℕ) → (judged x area ≡ refused 13 n)
    ↔ (OfRun x area (λ P ts m ss. Misses P ts m ss n) ⊎ OfPsoRun x area (λ P ts m us. PsoMissed P m ts us n))

-- and there is no other number; 11 is said with its step
abbrev pub NoOther : Type 0
NoOther = (x : reading.Input) (area n k : ℕ) → judged x area ≡ refused n k → (1 ≤ n) × (n ≤ 18) × (n ≡ 11 → ⊥) × (n ≡ 14 → ⊥)

-- ---- demand 2: what is accepted

-- a list, if and only if the configurations above it hold every target one, no starting one, and every one a single step before them
abbrev pub AcceptedList : Type 0
AcceptedList = (x : reading.Input) (area n : ℕ) → (judged x area ≡ safe n) ↔ OfList x area (λ P ts es. (n ≡ length es) × SafeList P ts es)

-- a run, if and only if the machine can take every step in turn from a start with the file's memory and stops in a target
abbrev pub AcceptedRun : Type 0
AcceptedRun = (x : reading.Input) (area n k : ℕ) → (judged x area ≡ reachable n k) ↔ OfRun x area (λ P ts m ss. Reaches P ts m ss n k)

-- claim 2: if and only if the PSO machine does (document 02, N7)
abbrev pub AcceptedPsoRun : Type 0
AcceptedPsoRun = (x : reading.Input) (area n k : ℕ) → (judged x area ≡ pso n k) ↔ OfPsoRun x area (λ P ts m us. PsoReached P m ts us n k)

-- ---- demand 3

-- In a file that is accepted as safe, with whatever work area, no sequence of steps, of any length and from any start of any memory, visits a
-- configuration in a target, or one above the list: not at its start and not after any step that the machine takes.
abbrev pub Safety : Type 0
Safety = (x : reading.Input) (area n : ℕ) → judged x area ≡ safe n → OfList x area (λ P ts es.
    (c : Configuration) → Start P c → (ss : List Step) (d : Configuration) → Visited P c ss d
    → ((k : ℕ) → k < length ts → InTarget P.shape (target ts k) d → ⊥) × (AboveList P.shape es d → ⊥))

-- Of two configurations, one above the other, the upper answers each of any number of steps of the lower (`Simulated`). So for the program of
-- every file that is read as a list, accepted or not, and as a run of either machine.
abbrev pub Simulation : Type 0
Simulation =
    (x : reading.Input) (area : ℕ) (P : Program) (ts : List (ℕ → ℕ))
    → ((es : List Configuration) → reading.read_file x area ≡ reading.list P ts es → Simulated P)
    × ((m : List ℕ) (ss : List Step) → reading.read_file x area ≡ reading.run P ts m ss → Simulated P)
    × ((m : List ℕ) (ss : List Step) → reading.read_file x area ≡ reading.pso_run P ts m ss → Simulated P)

-- ---- document 02, N5: values in the ranges of their variables

-- the four counts of the shape record, with which the file of the program begins
abbrev pub counts_in : List ℕ → List ℕ
counts_in f = byte f 3 ∷ byte f 4 ∷ byte f 5 ∷ byte f 6 ∷ []

-- Every snapshot and every queue keeps its values in the ranges of these counts: in every step, and so in every configuration that a sequence
-- of steps, of any length and from any start, visits. So for the program of every file that is read as a list, accepted or
-- not, and as a run of either machine.
abbrev pub ValuesInRange : Type 0
ValuesInRange =
    (x : reading.Input) (area : ℕ) (P : Program) (ts : List (ℕ → ℕ))
    → ((es : List Configuration) → reading.read_file x area ≡ reading.list P ts es → CountsOf P.shape (counts_in x.code) × KeepsRanges P (counts_in x.code))
    × ((m : List ℕ) (ss : List Step) → reading.read_file x area ≡ reading.run P ts m ss → CountsOf P.shape (counts_in x.code) × KeepsRanges P (counts_in x.code))
    × ((m : List ℕ) (ss : List Step) → reading.read_file x area ≡ reading.pso_run P ts m ss → CountsOf P.shape (counts_in x.code) × KeepsRanges P (counts_in x.code))

-- The same of memory and of every buffer of the PSO machine, on whose run claim 2 is judged.
abbrev pub PsoValuesInRange : Type 0
PsoValuesInRange =
    (x : reading.Input) (area : ℕ) (P : Program) (ts : List (ℕ → ℕ))
    → ((es : List Configuration) → reading.read_file x area ≡ reading.list P ts es → CountsOf P.shape (counts_in x.code) × PsoKeepsRanges P (counts_in x.code))
    × ((m : List ℕ) (ss : List Step) → reading.read_file x area ≡ reading.run P ts m ss → CountsOf P.shape (counts_in x.code) × PsoKeepsRanges P (counts_in x.code))
    × ((m : List ℕ) (ss : List Step) → reading.read_file x area ≡ reading.pso_run P ts m ss → CountsOf P.shape (counts_in x.code) × PsoKeepsRanges P (counts_in x.code))
