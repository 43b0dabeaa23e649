-- Sequences of steps: what the machine takes, what it visits, and what answers it (document 01, "The machine" and "What the
-- contracts carry": each step acts on the configuration that the one before left).
use Rattle.std.specs.Prelude.{ℕ, suc, ◌≤◌, Bool, true, false, List, [], ◌∷◌, length, T}
use Rattle.machine_pws.specs.declared.Step.{Step}
use Rattle.machine_pws.specs.Program.{Program, WellFormed}
use Rattle.machine_pws.specs.Machine.{Configuration, may, after}
use Rattle.machine_pws.specs.Configurations.{ConfigurationOf}
use Rattle.machine_pws.specs.Order.{Below}

-- from c the machine takes each step in turn, and ends in d
pub data Takes (P : Program) : Configuration → List Step → Configuration → Type 0 where
  done : {c : Configuration} → Takes P c [] c
  step : {c d : Configuration} {ss : List Step} (s : Step) → T (may P c s) → Takes P (after P c s) ss d → Takes P c (s ∷ ss) d

-- c is visited on the way of the steps ss from b: at the start, and after every step taken, up to the first that is refused
pub data Visited (P : Program) : Configuration → List Step → Configuration → Type 0 where
  start : {b : Configuration} {ss : List Step} → Visited P b ss b
  later : {b c : Configuration} {ss : List Step} (s : Step) → T (may P b s) → Visited P (after P b s) ss c → Visited P b (s ∷ ss) c

-- what a replay of the steps gives: the last configuration, or the number of the first step that the machine cannot take
pub data Replay : Type 0 where
  ended : Configuration → Replay
  stopped : ℕ → Replay

abbrev pub replay : Program → ℕ → Configuration → List Step → Replay
replay P k c [] = ended c
replay P k c (s ∷ ss) = elim (may P c s) [ true ↦ replay P (suc k) (after P c s) ss | false ↦ stopped k ]

-- ---- one sequence answered by another (document 01, demand 3: the upper answers each step of the lower with one or more of its own)

-- d answers with one or more steps that lead it to `to`
pub record Answer (P : Program) (d : Configuration) : Type 0 where
  pub steps : List Step
  pub some : 1 ≤ length steps
  pub to : Configuration
  pub takes : Takes P d steps to

-- the upper, d, answers each of the steps that the lower, c, takes, in turn; after each answer it is above the lower again
pub data Answers (P : Program) : Configuration → Configuration → List Step → Type 0 where
  none : {c d : Configuration} → Answers P c d []
  each : {c d : Configuration} {ss : List Step} (s : Step) (a : Answer P d) → Below P.shape (after P c s) a.to
      → Answers P (after P c s) a.to ss → Answers P c d (s ∷ ss)

-- Of two configurations, one above the other, the upper answers each of any number of steps that the lower takes, in turn, with one or more
-- of its own, and is above it again after each.
abbrev pub Simulated : Program → Type 0
Simulated P = (c d e : Configuration) → ConfigurationOf P c → ConfigurationOf P d → Below P.shape c d → (ss : List Step) → Takes P c ss e → Answers P c d ss

-- so for every well-formed program
abbrev pub Simulation : Type 0
Simulation = (P : Program) → WellFormed P → Simulated P
