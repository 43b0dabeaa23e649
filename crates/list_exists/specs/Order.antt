-- The machine of a program is well structured (report, Definition 12), and its order a well-quasi-order on all configurations (Lemma 1), said
-- without an axiom.
use Rattle.std.specs.Prelude.{ℕ, suc, ◌≡◌, T}
use Rattle.machine_pws.specs.declared.Step.{Step}
use Rattle.machine_pws.specs.Program.{Program, WellFormed}
use Rattle.machine_pws.specs.declared.Step.TheVariants.{Serialise}
use Rattle.machine_pws.specs.Machine.{Configuration, may, after, newest}
use Rattle.machine_pws.specs.Configurations.{ConfigurationOf, InTarget}
use Rattle.machine_pws.specs.Order.{Below}
use Rattle.machine_pws.specs.Entries.{Above}
use Rattle.machine_pws.specs.Sequences.{Answer}
use Rattle.list_exists.specs.AlmostFull.{AlmostFull, Pair, Basis, Decided}

-- a configuration of the program, whether a run leads to it or not
abbrev pub Of : Program → Type 0
Of P = (c : Configuration) × ConfigurationOf P c

abbrev pub BelowOf : (P : Program) → Of P → Of P → Type 0
BelowOf P c d = Below P.shape c.0 d.0

-- of every program, of any size
abbrev pub BelowAlmostFull : Type 1
BelowAlmostFull = (P : Program) → AlmostFull (BelowOf P)

abbrev pub BelowDecided : Type 0
BelowDecided = (P : Program) → Decided (BelowOf P)

-- so no set of configurations is without finitely many least ones, of which an upward closed set is all that is above them
abbrev pub LeastConfigurations : Type 1
LeastConfigurations = (P : Program) (U : Of P → Type 0) → (Basis (BelowOf P) U → ⊥) → ⊥

-- ---- well structured

-- the configurations that the step leads above e: the report's pre of what is above e
abbrev pub Before : (P : Program) → Of P → Step → Configuration → Type 0
Before P e s c = T (may P c s) × Below P.shape e.0 (after P c s)

-- Definition 12: the order is decided, monotonic and a well-quasi-order (Definition 11: well-founded, and every sequence has a pair), and the
-- least predecessors are computed; so are the least configurations of a target, from which the analysis begins (6.2)
pub record WellStructured (P : Program) : Type 1 where
  pub order : Decided (BelowOf P)
  pub monotonic : (c d : Of P) → BelowOf P c d → (s : Step) → T (may P c.0 s)
      → (a : Answer P d.0) × Below P.shape (after P c.0 s) a.to
  pub quasi : AlmostFull (BelowOf P)
  pub pairs : (f : ℕ → Of P) → Pair (BelowOf P) f
  pub well_founded : (f : ℕ → Of P) → ((i : ℕ) → BelowOf P (f (suc i)) (f i) × (BelowOf P (f i) (f (suc i)) → ⊥)) → ⊥
  pub predecessors : (e : Of P) (s : Step) → Basis (BelowOf P) (λ c. Before P e s c.0)
  pub targets : (t : ℕ → ℕ) → Basis (BelowOf P) (λ c. InTarget P.shape t c.0)

abbrev pub AllWellStructured : Type 1
AllWellStructured = (P : Program) → WellFormed P → WellStructured P

-- ---- serialises

-- a serialise that leads above an entry has the label of the entry's newest message
abbrev pub SerialiseByLabel : Type 0
SerialiseByLabel =
    (P : Program) → WellFormed P → (e c : Configuration) → ConfigurationOf P c → (p v : ℕ) → T (may P c (Serialise p v))
    → Above P.shape e (after P c (Serialise p v))
    → ((newest e.memory.channel).process ≡ p) × ((newest e.memory.channel).variable ≡ v)

-- so there is one at most, from whatever configurations
abbrev pub OneSerialise : Type 0
OneSerialise =
    (P : Program) → WellFormed P → (e c d : Configuration) → ConfigurationOf P c → ConfigurationOf P d → (p v q w : ℕ)
    → T (may P c (Serialise p v)) → T (may P d (Serialise q w)) → Above P.shape e (after P c (Serialise p v))
    → Above P.shape e (after P d (Serialise q w)) → Serialise p v ≡ Serialise q w
