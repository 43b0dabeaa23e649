-- Runs as step records (document 01, "Records", kinds 20 to 22), for a program of full shape: four processes, four variables, 256
-- transitions; up to 1,024 steps.
use Rattle.std.specs.Prelude.{ℕ, ◌<◌, ◌≤◌, Bool, ◌&&◌, List, [], ◌∷◌, ◌++◌, length, ltb}
use Rattle.machine_pws.specs.declared.Step.{Step}
use Rattle.machine_pws.specs.declared.Step.TheVariants.{Take, Serialise, Update}
use Rattle.file_records.specs.declared.program.Shape.{Shape}

abbrev pub full_shape : Shape
full_shape = record { processes = 4; variables = 4; values = 4 ∷ 4 ∷ 4 ∷ 4 ∷ [] }

-- the step names what a program of full shape has
abbrev pub StepInRange : Step → Type 0
StepInRange (Take n) = n < 256
StepInRange (Serialise p v) = (p < 4) × (v < 4)
StepInRange (Update p) = p < 4

abbrev pub step_in_range : Step → Bool
step_in_range (Take n) = ltb n 256
step_in_range (Serialise p v) = ltb p 4 && ltb v 4
step_in_range (Update p) = ltb p 4

abbrev pub AllInRange : List Step → Type 0
AllInRange [] = Unit {0}
AllInRange (s ∷ ss) = StepInRange s × AllInRange ss

pub record Run (ss : List Step) : Type 0 where
  pub steps : AllInRange ss
  pub few : length ss ≤ 1024

abbrev pub record_of : Step → List ℕ
record_of (Take n) = 32 ∷ n ∷ []
record_of (Serialise p v) = 33 ∷ p ∷ v ∷ []
record_of (Update p) = 34 ∷ p ∷ []

unfoldable pub records_of : List Step → List ℕ
records_of [] = []
records_of (s ∷ ss) = record_of s ++ records_of ss
