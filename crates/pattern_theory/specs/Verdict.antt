-- What is said of a list of patterns (docs/PATTERNS.md, "Verdict"): as a test, and as what each answer means.
use Rattle.std.specs.Prelude.{ℕ, ◌<◌, ◌≤◌, ◌≡◌, Bool, true, false, ◌&&◌, ◌||◌, not, length, T, eqb}
use Rattle.std.proofs.Math.Option.{Option, none, some}
use mathlib.Core.List.{List, [], ◌∷◌, Memᴰ}
use Rattle.machine_pws.specs.declared.Step.{Step}
use Rattle.machine_pws.specs.declared.Step.TheVariants.{Update}
use Rattle.machine_pws.specs.Program.{Shape, Program}
use Rattle.machine_pws.specs.Machine.{Configuration, all_below}
use Rattle.machine_pws.specs.Configurations.{Start}
use Rattle.list_theory.specs.Lists.{for_below, every, lowest, first_failing}
use Rattle.list_theory.specs.Predecessors.{steps}
use Rattle.list_theory.specs.Verdict.{StepBefore, target, ListVerdict, safe, unheld, started, entered}
use Rattle.pattern_theory.specs.Patterns.{PathRead, Pattern, target_pattern}
use Rattle.pattern_theory.specs.Fitting.{FitsPattern, pattern_of}
use Rattle.pattern_theory.specs.Within.{Within, within_list}
use Rattle.pattern_theory.specs.Predecessors.{can_empty, joined, before}
use Rattle.pattern_theory.specs.Storing.{kept}

-- ---- patterns of a shape: their values and the variables of their reads exist, and nothing is asked of variables that there are not

abbrev pub ReadsOf : Shape → List PathRead → Type 0
ReadsOf S [] = Unit {0}
ReadsOf S (r ∷ rs) = (r.variable < S.variables) × (r.value < S.values r.variable) × ReadsOf S rs

pub record PatternIn (S : Shape) (a : Pattern) : Type 0 where
  pub newest : (v : ℕ) → v < S.variables → (x : ℕ) → a.newest v ≡ some x → x < S.values v
  pub absent : (v : ℕ) → S.variables ≤ v → a.newest v ≡ none
  pub reads : (p : ℕ) → p < S.processes → ReadsOf S (a.path p)

abbrev pub PatternsIn : Shape → List Pattern → Type 0
PatternsIn S ps = (k : ℕ) → k < length ps → PatternIn S (pattern_of ps k)

-- ---- the tests

-- 9: the pattern of the target is within a pattern of the list
abbrev pub target_held : Shape → List Pattern → (ℕ → ℕ) → Bool
target_held S ps t = within_list S ps (target_pattern t)

abbrev pub is_some : {A : Type 0} → Option A → Bool
is_some none = false
is_some (some x) = true

-- 10: local states are initial, every clue can be emptied, and all reads of all paths together can be joined to the newest message
abbrev pub start_fits : Program → Pattern → Bool
start_fits P a =
    (all_below P.shape.processes (λ p. eqb (P.initial p) (a.state p))
    && all_below P.shape.processes (λ p. all_below P.shape.variables (λ v. can_empty (a.clue p v))))
    && is_some (joined a.newest (for_below P.shape.processes a.path))

-- 11: each predecessor under the step is dropped, or within a single pattern of the list
abbrev pub held_before : Program → List Pattern → Pattern → Step → Bool
held_before P ps a s = every (λ b. not (kept P b) || within_list P.shape ps b) (before P a s)

abbrev pub closed : Program → List Pattern → Pattern → Bool
closed P ps a = every (held_before P ps a) (steps P)

abbrev pub pattern_verdict : Program → List (ℕ → ℕ) → List Pattern → ListVerdict
pattern_verdict P ts ps = elim (lowest (target_held P.shape ps) ts) [
  | some k ↦ unheld k
  | none ↦ elim (lowest (λ a. not (start_fits P a)) ps) [
    | some k ↦ started k
    | none ↦ elim (lowest (closed P ps) ps) [
      | some k ↦ entered k (first_failing (held_before P ps (pattern_of ps k)) (Update 0) (steps P))
      | none ↦ safe (length ps)
    ]
  ]
]

-- ---- what each answer means

-- a is within a single pattern of the list
pub record WithinOne (S : Shape) (ps : List Pattern) (a : Pattern) : Type 0 where
  pub number : ℕ
  pub exists : number < length ps
  pub within : Within S a (pattern_of ps number)

-- a predecessor of a under the step that is not dropped and within no single pattern of the list
pub record OpenBefore (P : Program) (ps : List Pattern) (a : Pattern) (s : Step) : Type 0 where
  pub pattern : Pattern
  pub before : Memᴰ pattern (before P a s)
  pub kept : T (kept P pattern)
  pub outside : WithinOne P.shape ps pattern → ⊥

pub record StartFits (P : Program) (a : Pattern) : Type 0 where
  pub configuration : Configuration
  pub start : Start P configuration
  pub fits : FitsPattern P.shape a configuration

pub record TargetOpen (P : Program) (ts : List (ℕ → ℕ)) (ps : List Pattern) (k : ℕ) : Type 0 where
  pub exists : k < length ts
  pub lower : (j : ℕ) → j < k → WithinOne P.shape ps (target_pattern (target ts j))
  pub missed : WithinOne P.shape ps (target_pattern (target ts k)) → ⊥

abbrev pub TargetsHeld : Program → List (ℕ → ℕ) → List Pattern → Type 0
TargetsHeld P ts ps = (j : ℕ) → j < length ts → WithinOne P.shape ps (target_pattern (target ts j))

pub record PatternStarted (P : Program) (ts : List (ℕ → ℕ)) (ps : List Pattern) (k : ℕ) : Type 0 where
  pub held : TargetsHeld P ts ps
  pub exists : k < length ps
  pub lower : (j : ℕ) → j < k → StartFits P (pattern_of ps j) → ⊥
  pub start : StartFits P (pattern_of ps k)

abbrev pub NoneStarted : Program → List Pattern → Type 0
NoneStarted P ps = (j : ℕ) → j < length ps → StartFits P (pattern_of ps j) → ⊥

pub record PatternEntered (P : Program) (ts : List (ℕ → ℕ)) (ps : List Pattern) (k : ℕ) (s : Step) : Type 0 where
  pub held : TargetsHeld P ts ps
  pub unstarted : NoneStarted P ps
  pub exists : k < length ps
  pub lower : (j : ℕ) → j < k → (t : Step) → Memᴰ t (steps P) → OpenBefore P ps (pattern_of ps j) t → ⊥
  pub step : Memᴰ s (steps P)
  pub opened : OpenBefore P ps (pattern_of ps k) s
  pub lower_step : (t : Step) → Memᴰ t (steps P) → StepBefore t s → OpenBefore P ps (pattern_of ps k) t → ⊥

pub record PatternsSafe (P : Program) (ts : List (ℕ → ℕ)) (ps : List Pattern) : Type 0 where
  pub held : TargetsHeld P ts ps
  pub unstarted : NoneStarted P ps
  pub closed : (j : ℕ) → j < length ps → (t : Step) → Memᴰ t (steps P) → OpenBefore P ps (pattern_of ps j) t → ⊥

-- 9, 10 and 11 are tested in this order, each with its lowest place. 9 and 11 say that no *single* pattern holds the one named.
abbrev pub PatternsJudged : Program → List (ℕ → ℕ) → List Pattern → ListVerdict → Type 0
PatternsJudged P ts ps (safe n) = (n ≡ length ps) × PatternsSafe P ts ps
PatternsJudged P ts ps (unheld k) = TargetOpen P ts ps k
PatternsJudged P ts ps (started k) = PatternStarted P ts ps k
PatternsJudged P ts ps (entered k s) = PatternEntered P ts ps k s
