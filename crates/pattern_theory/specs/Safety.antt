-- What a list of patterns promises (docs/PATTERNS.md, "What safe means"): statements, for every well-formed program, of whatever size, with no bound on the steps.
use Rattle.std.specs.Prelude.{ℕ, ◌<◌, ◌≡◌, ◌⊎◌, ◌↔◌, length, T}
use mathlib.Core.List.{List, Memᴰ}
use Rattle.machine_pws.specs.declared.Step.{Step}
use Rattle.machine_pws.specs.Program.{Program, WellFormed}
use Rattle.machine_pws.specs.Machine.{Configuration, may, after}
use Rattle.machine_pws.specs.Configurations.{ConfigurationOf, Start, InTarget}
use Rattle.machine_pws.specs.Sequences.{Visited}
use Rattle.machine_pso.specs.Runs.{PsoReachable}
use Rattle.list_theory.specs.Verdict.{target, ListVerdict, safe}
use Rattle.pattern_theory.specs.Patterns.{Pattern}
use Rattle.pattern_theory.specs.Fitting.{FitsPattern, FitsList}
use Rattle.pattern_theory.specs.Within.{Within}
use Rattle.pattern_theory.specs.Predecessors.{before}
use Rattle.pattern_theory.specs.Storing.{kept, Stored}
use Rattle.pattern_theory.specs.Verdict.{PatternIn, PatternsIn, pattern_verdict, PatternsJudged}

-- what fits a fits whatever a is within
abbrev pub WithinFits : Type 0
WithinFits =
    (P : Program) (a b : Pattern) → PatternIn P.shape b → Within P.shape a b → (c : Configuration) → ConfigurationOf P c → FitsPattern P.shape a c
    → FitsPattern P.shape b c

-- every configuration that a run visits is one in which only stored values are found
abbrev pub RunsStore : Type 0
RunsStore = (P : Program) → WellFormed P → (c : Configuration) → Start P c → (ss : List Step) (d : Configuration) → Visited P c ss d → Stored P d

-- c fits a predecessor of a that is not dropped
pub record FitsBefore (P : Program) (a : Pattern) (s : Step) (c : Configuration) : Type 0 where
  pub pattern : Pattern
  pub before : Memᴰ pattern (before P a s)
  pub kept : T (kept P pattern)
  pub fits : FitsPattern P.shape pattern c

-- the heart: if a configuration of a run steps into one that fits a, it fits a or a predecessor of a that is not dropped
abbrev pub EntersPattern : Type 0
EntersPattern =
    (P : Program) → WellFormed P → (a : Pattern) (c : Configuration) → Stored P c → (s : Step) → T (may P c s)
    → FitsPattern P.shape a (after P c s) → FitsPattern P.shape a c ⊎ FitsBefore P a s c

-- one answer is always judged so
abbrev pub PatternsDecided : Type 0
PatternsDecided =
    (P : Program) → WellFormed P → (ts : List (ℕ → ℕ)) (ps : List Pattern) → PatternsIn P.shape ps
    → PatternsJudged P ts ps (pattern_verdict P ts ps)

-- and an answer is given exactly when it is judged so
abbrev pub AnswerGiven : Type 0
AnswerGiven =
    (P : Program) → WellFormed P → (ts : List (ℕ → ℕ)) (ps : List Pattern) → PatternsIn P.shape ps → (v : ListVerdict)
    → (pattern_verdict P ts ps ≡ v) ↔ PatternsJudged P ts ps v

-- no sequence of steps from any start of any memory visits a target, or a configuration that fits a pattern of a list judged safe
abbrev pub PatternSafety : Type 0
PatternSafety =
    (P : Program) → WellFormed P → (ts : List (ℕ → ℕ)) (ps : List Pattern) → PatternsIn P.shape ps → (n : ℕ)
    → pattern_verdict P ts ps ≡ safe n → (c : Configuration) → Start P c → (ss : List Step) (d : Configuration) → Visited P c ss d
    → ((k : ℕ) → k < length ts → InTarget P.shape (target ts k) d → ⊥) × (FitsList P.shape ps d → ⊥)

-- and no run of the PSO machine visits a target
abbrev pub PatternPsoSafety : Type 0
PatternPsoSafety =
    (P : Program) → WellFormed P → (ts : List (ℕ → ℕ)) (ps : List Pattern) → PatternsIn P.shape ps → (n : ℕ)
    → pattern_verdict P ts ps ≡ safe n → (memory : List ℕ) (k : ℕ) → k < length ts → PsoReachable P memory (target ts k) → ⊥
