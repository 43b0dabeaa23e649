-- What is said of a list of entries (document 01, the refusal table's 9, 10 and 11, and demand 2): over all configurations of the
-- program, with no bound of any kind.
use Rattle.std.specs.Prelude.{ℕ, ◌<◌, ◌≡◌, ◌⊎◌, List, length, get_or, T}
use Rattle.machine_pws.specs.declared.Step.{Step}
use Rattle.machine_pws.specs.declared.Step.TheVariants.{Take, Serialise, Update}
use Rattle.machine_pws.specs.Program.{Program, WellFormed}
use Rattle.machine_pws.specs.Machine.{Configuration, may, after}
use Rattle.machine_pws.specs.Configurations.{ConfigurationOf, Start, InTarget}
use Rattle.machine_pws.specs.Sequences.{Visited}
use Rattle.machine_pws.specs.Entries.{Above, AboveList, entry}

-- ---- targets, starts and predecessors, each for one target or one entry

-- every configuration in the target is above the list
abbrev pub TargetHeld : Program → List Configuration → (ℕ → ℕ) → Type 0
TargetHeld P es t = (c : Configuration) → ConfigurationOf P c → InTarget P.shape t c → AboveList P.shape es c

-- a configuration in the target that is not above the list
pub record TargetMissed (P : Program) (es : List Configuration) (t : ℕ → ℕ) : Type 0 where
  pub configuration : Configuration
  pub of : ConfigurationOf P configuration
  pub in_target : InTarget P.shape t configuration
  pub outside : AboveList P.shape es configuration → ⊥

-- no start is above the entry
abbrev pub NoStartAbove : Program → Configuration → Type 0
NoStartAbove P e = (c : Configuration) → Start P c → Above P.shape e c → ⊥

pub record StartAbove (P : Program) (e : Configuration) : Type 0 where
  pub configuration : Configuration
  pub start : Start P configuration
  pub above : Above P.shape e configuration

-- every configuration one step before those above the entry is above the list
abbrev pub Closed : Program → List Configuration → Configuration → Type 0
Closed P es e = (c : Configuration) → ConfigurationOf P c → (s : Step) → T (may P c s) → Above P.shape e (after P c s) → AboveList P.shape es c

-- a configuration that the step leads above the entry, and that is not above the list
pub record WayIn (P : Program) (es : List Configuration) (e : Configuration) (step : Step) : Type 0 where
  pub configuration : Configuration
  pub of : ConfigurationOf P configuration
  pub permitted : T (may P configuration step)
  pub above : Above P.shape e (after P configuration step)
  pub outside : AboveList P.shape es configuration → ⊥

-- The order of steps (document 02, N13): transitions by number, serialise by process then variable, update by process.
abbrev pub StepBefore : Step → Step → Type 0
StepBefore (Take m) (Take n) = m < n
StepBefore (Take m) (Serialise p v) = Unit {0}
StepBefore (Take m) (Update p) = Unit {0}
StepBefore (Serialise p v) (Take n) = ⊥
StepBefore (Serialise p v) (Serialise q w) = (p < q) ⊎ ((p ≡ q) × (v < w))
StepBefore (Serialise p v) (Update q) = Unit {0}
StepBefore (Update p) (Take n) = ⊥
StepBefore (Update p) (Serialise q v) = ⊥
StepBefore (Update p) (Update q) = p < q

-- s is the lowest step through which a configuration outside the list gets above the entry; it is in hand
pub record LowestWayIn (P : Program) (es : List Configuration) (e : Configuration) (s : Step) : Type 0 where
  pub way : WayIn P es e s
  pub lower : (t : Step) → StepBefore t s → WayIn P es e t → ⊥

-- ---- the whole list

abbrev pub no_target : ℕ → ℕ
no_target p = 0

-- the target of number k
abbrev pub target : List (ℕ → ℕ) → ℕ → ℕ → ℕ
target ts k = get_or ts k no_target

-- demand 2 for lists: the configurations above the list hold every target one, no starting one, and every one a single step before them
pub record SafeList (P : Program) (ts : List (ℕ → ℕ)) (es : List Configuration) : Type 0 where
  pub targets : (c : Configuration) → ConfigurationOf P c → (k : ℕ) → k < length ts → InTarget P.shape (target ts k) c → AboveList P.shape es c
  pub starts : (c : Configuration) → Start P c → AboveList P.shape es c → ⊥
  pub before : (c : Configuration) → ConfigurationOf P c → (s : Step) → T (may P c s) → AboveList P.shape es (after P c s) → AboveList P.shape es c

-- No configuration that a sequence of steps, of any length and from any start, visits is in a target, or above the list: so for every
-- well-formed program (document 01, demand 3).
abbrev pub ListSafety : Type 0
ListSafety =
    (P : Program) → WellFormed P → (ts : List (ℕ → ℕ)) (es : List Configuration) → SafeList P ts es → (c : Configuration) → Start P c
    → (ss : List Step) (d : Configuration) → Visited P c ss d
    → ((k : ℕ) → k < length ts → InTarget P.shape (target ts k) d → ⊥) × (AboveList P.shape es d → ⊥)

-- ---- verdicts

-- safe with the number of entries; or refused: a target that is not held (9), an entry that a start is above (10), an entry with a
-- way in (11), and the step
pub data ListVerdict : Type 0 where
  safe : ℕ → ListVerdict
  unheld : ℕ → ListVerdict
  started : ℕ → ListVerdict
  entered : ℕ → Step → ListVerdict

pub record Unheld (P : Program) (ts : List (ℕ → ℕ)) (es : List Configuration) (k : ℕ) : Type 0 where
  pub exists : k < length ts
  pub lower : (j : ℕ) → j < k → TargetHeld P es (target ts j)
  pub missed : TargetMissed P es (target ts k)

pub record Started (P : Program) (ts : List (ℕ → ℕ)) (es : List Configuration) (k : ℕ) : Type 0 where
  pub held : (j : ℕ) → j < length ts → TargetHeld P es (target ts j)
  pub exists : k < length es
  pub lower : (j : ℕ) → j < k → NoStartAbove P (entry es j)
  pub start : StartAbove P (entry es k)

pub record Entered (P : Program) (ts : List (ℕ → ℕ)) (es : List Configuration) (k : ℕ) (s : Step) : Type 0 where
  pub held : (j : ℕ) → j < length ts → TargetHeld P es (target ts j)
  pub unstarted : (j : ℕ) → j < length es → NoStartAbove P (entry es j)
  pub exists : k < length es
  pub lower : (j : ℕ) → j < k → Closed P es (entry es j)
  pub way : LowestWayIn P es (entry es k) s

-- what the verdict of a list says. The numbers are tested in this order, and each refusal has its lowest place and what shows the fault.
abbrev pub ListJudged : Program → List (ℕ → ℕ) → List Configuration → ListVerdict → Type 0
ListJudged P ts es (safe n) = (n ≡ length es) × SafeList P ts es
ListJudged P ts es (unheld k) = Unheld P ts es k
ListJudged P ts es (started k) = Started P ts es k
ListJudged P ts es (entered k s) = Entered P ts es k s
