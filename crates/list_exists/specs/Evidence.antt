-- Evidence exists for every program: a run that reaches a target, or a list that is safe (report, 6.2: the analysis is exact and ends).
use Rattle.std.specs.Prelude.{ℕ, ◌<◌, ◌≡◌, ◌⊎◌, length, T}
use mathlib.Core.List.{List, Memᴰ}
use Rattle.machine_pws.specs.declared.Step.{Step}
use Rattle.machine_pws.specs.Program.{Program, WellFormed}
use Rattle.machine_pws.specs.Machine.{Configuration, may, after}
use Rattle.machine_pws.specs.Configurations.{StatesOf, ConfigurationOf, Start, InTarget}
use Rattle.machine_pws.specs.Order.{Below}
use Rattle.machine_pws.specs.Entries.{NoValueIsFF, EntryOf, entry}
use Rattle.machine_pws.specs.Sequences.{Takes}
use Rattle.machine_pso.specs.Runs.{PsoReachable}
use Rattle.machine_equal.specs.Equivalence.{PwsReachable}
use Rattle.list_theory.specs.Verdict.{target, SafeList, safe}
use Rattle.list_theory.specs.Decision.{verdict_of}
use Rattle.list_exists.specs.AlmostFull.{Basis}
use Rattle.list_exists.specs.Order.{Of, BelowOf}

-- ---- backward from the targets

-- steps that lead from c to one of the targets
pub record Reaches (P : Program) (ts : List (ℕ → ℕ)) (c : Configuration) : Type 0 where
  pub number : ℕ
  pub exists : number < length ts
  pub steps : List Step
  pub last : Configuration
  pub takes : Takes P c steps last
  pub reached : InTarget P.shape (target ts number) last

-- the least configurations that reach a target are finitely many, and are found
abbrev pub LeastFound : Type 0
LeastFound = (P : Program) → WellFormed P → (ts : List (ℕ → ℕ)) → Basis (BelowOf P) (λ c. Reaches P ts c.0)

-- ---- evidence of the two kinds

-- a memory and steps that reach a target
pub record RunFound (P : Program) (ts : List (ℕ → ℕ)) : Type 0 where
  pub memory : List ℕ
  pub number : ℕ
  pub exists : number < length ts
  pub reachable : PwsReachable P memory (target ts number)

-- c is above one of the list
abbrev pub AboveOne : (P : Program) → List (Of P) → Configuration → Type 0
AboveOne P xs c = (x : Of P) × Memᴰ x xs × Below P.shape x.0 c

-- demand 2's sentences of a list, for a list of configurations: they have no FF
pub record SafeConfigurations (P : Program) (ts : List (ℕ → ℕ)) (xs : List (Of P)) : Type 0 where
  pub targets : (c : Configuration) → ConfigurationOf P c → (k : ℕ) → k < length ts → InTarget P.shape (target ts k) c
      → AboveOne P xs c
  pub starts : (c : Configuration) → Start P c → AboveOne P xs c → ⊥
  pub before : (c : Configuration) → ConfigurationOf P c → (s : Step) → T (may P c s) → AboveOne P xs (after P c s) → AboveOne P xs c

-- finitely many entries of the program, each with a pointer at its first message as the format asks (document 01, refusal 7), that are safe
-- in demand 2's words
pub record ListFound (P : Program) (ts : List (ℕ → ℕ)) : Type 0 where
  pub entries : List Configuration
  pub of : (k : ℕ) → k < length entries → EntryOf P (entry entries k)
  pub first : (k : ℕ) → k < length entries → (p : ℕ) × (p < P.shape.processes) × ((entry entries k).memory.pointer p ≡ 1)
  pub safe : SafeList P ts entries

-- ---- the theorem: every well-formed program has evidence, for any targets

-- with no bound of any kind
abbrev pub ConfigurationsExist : Type 0
ConfigurationsExist =
    (P : Program) → WellFormed P → (ts : List (ℕ → ℕ)) → RunFound P ts ⊎ ((xs : List (Of P)) × SafeConfigurations P ts xs)

-- as a list of entries, if FF is no value
abbrev pub EvidenceExists : Type 0
EvidenceExists =
    (P : Program) → WellFormed P → NoValueIsFF P.shape → (ts : List (ℕ → ℕ)) → RunFound P ts ⊎ ListFound P ts

-- else an entry cannot have the value 255 itself, and it is false
abbrev pub NoValueIsFFNeeded : Type 0
NoValueIsFFNeeded = ((P : Program) → WellFormed P → (ts : List (ℕ → ℕ)) → RunFound P ts ⊎ ListFound P ts) → ⊥

-- the computed verdict of the list that is found (theory, section 7), if the states of the targets exist
abbrev pub FoundIsSafe : Type 0
FoundIsSafe =
    (P : Program) → WellFormed P → NoValueIsFF P.shape → (ts : List (ℕ → ℕ)) → ((k : ℕ) → k < length ts → StatesOf P (target ts k))
    → (f : ListFound P ts) → verdict_of P ts f.entries ≡ safe (length f.entries)

-- never both
abbrev pub NeverBoth : Type 0
NeverBoth = (P : Program) → WellFormed P → (ts : List (ℕ → ℕ)) → RunFound P ts → ListFound P ts → ⊥

-- ---- of the PSO machine

-- the run is one of the PSO machine too, from the same memory; and where the list is, no run of it from any memory reaches a target
pub record PsoRunFound (P : Program) (ts : List (ℕ → ℕ)) : Type 0 where
  pub memory : List ℕ
  pub number : ℕ
  pub exists : number < length ts
  pub reachable : PsoReachable P memory (target ts number)

abbrev pub PsoUnreachable : Program → List (ℕ → ℕ) → Type 0
PsoUnreachable P ts = (memory : List ℕ) (k : ℕ) → k < length ts → PsoReachable P memory (target ts k) → ⊥

abbrev pub PsoEvidenceExists : Type 0
PsoEvidenceExists =
    (P : Program) → WellFormed P → NoValueIsFF P.shape → (ts : List (ℕ → ℕ))
    → PsoRunFound P ts ⊎ (ListFound P ts × PsoUnreachable P ts)

-- ---- decisions, for every well-formed program

-- from a configuration
abbrev pub ReachesDecided : Type 0
ReachesDecided =
    (P : Program) → WellFormed P → (ts : List (ℕ → ℕ)) (c : Configuration) → ConfigurationOf P c → Dec (Reaches P ts c)

-- under partial store order from a given memory (report, 4.2), and from any
abbrev pub PsoDecided : Type 0
PsoDecided = (P : Program) → WellFormed P → (memory : List ℕ) (t : ℕ → ℕ) → Dec (PsoReachable P memory t)

abbrev pub PsoDecidedFromAny : Type 0
PsoDecidedFromAny = (P : Program) → WellFormed P → (t : ℕ → ℕ) → Dec ((memory : List ℕ) × PsoReachable P memory t)
