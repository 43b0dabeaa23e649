-- What the definitions compute, on small cases: the verdicts of the table, and what is tempting and wrong (document 01).
use Prim.Native.Nat.{ℕ}
use mathlib.Core.Path.{◌≡◌, refl}
use mathlib.Core.Bool.{true, false, cond}
use mathlib.Core.List.{List, [], ◌∷◌, map}
use lib.ListN.{length}
use lib.Dec.{eqb}
use Rattle.machine_pws.specs.declared.Message.{Message}
use Rattle.machine_pws.specs.declared.Operation.TheVariants.{Write}
use Rattle.machine_pws.specs.declared.Step.TheVariants.{Take, Serialise, Update}
use Rattle.machine_pws.specs.Program.{Program}
use Rattle.machine_pws.specs.Machine.{Configuration}
use Rattle.machine_pws.specs.Entries.{FF}
use Rattle.list_theory.specs.Cubes.{memory_of}
use Rattle.list_theory.specs.Verdict.{ListVerdict}
use Rattle.list_theory.specs.Values.{fills, alike}
use Rattle.list_theory.specs.Matching.{queue_matches, matches}
use Rattle.list_theory.specs.Predecessors.{predecessors}
use Rattle.list_theory.specs.Shapes.{shape_cubes}
use Rattle.list_theory.specs.Decision.{verdict_of}
use Rattle.list_theory.specs.Cases.{program_with, entry_with, Row, program_of, targets_of, entries_of, cases}

abbrev pub computed : Row → ListVerdict
computed r = verdict_of (program_of r) (targets_of r) (entries_of r)

pub verdicts_computed : map computed cases ≡ map (λ (r : Row). r.verdict) cases
verdicts_computed = refl

-- ---- matching

-- K: queue 1 is below 0 1, and not below 1 0
pub last_value : (queue_matches eqb (1 ∷ []) (0 ∷ 1 ∷ []) ≡ true) × (queue_matches eqb (1 ∷ []) (1 ∷ 0 ∷ []) ≡ false)
last_value = (refl, refl)

-- the newest message is a LastWrite, and may not be left unmatched
pub role_unmatched : matches (program_with []).shape alike (entry_with 1 1 []) (entry_with 1 2 []) ≡ false
role_unmatched = refl

-- FF stands for any value, on either side
pub free_value : (queue_matches fills (FF ∷ []) (1 ∷ []) ≡ true) × (queue_matches fills (1 ∷ []) (FF ∷ []) ≡ false) × (queue_matches alike (1 ∷ []) (FF ∷ []) ≡ true)
free_value = (refl, refl, refl)

-- ---- predecessors

abbrev messages : List Configuration → List ℕ
messages cs = map (λ (c : Configuration). length c.memory.channel) cs

abbrev waiting : List Configuration → List ℕ
waiting cs = map (λ (c : Configuration). length (c.queue 0 0)) cs

abbrev eight : List ℕ
eight = 0 ∷ 0 ∷ 0 ∷ 0 ∷ 0 ∷ 0 ∷ 0 ∷ 0 ∷ []

-- an entry has eight waiting values at most, and its predecessors nine
pub nine_waiting : waiting (predecessors (program_with []) (entry_with 1 2 eight) (Serialise 0 0)) ≡ 9 ∷ 9 ∷ []
nine_waiting = refl

-- sixteen messages, and seventeen: p pointed at one more
pub seventeen_messages : messages (predecessors (program_with []) (entry_with 1 16 []) (Update 0)) ≡ 17 ∷ []
seventeen_messages = refl

-- two processes and one variable; the newest message is process 0's, those before are process 1's, and both point at the oldest
abbrev two : Program
two = record { shape = record { processes = 2; variables = 1; values = λ v. 2; room = 4 }; states = λ p. 1; initial = λ p. 0; transitions = [] }

abbrev by : ℕ → Message
by p = record { process = p; variable = 0; snapshot = FF ∷ 0 ∷ 0 ∷ 0 ∷ [] }

abbrev third : Configuration
third = record { state = λ p. 0; queue = λ p v. []; memory = memory_of (by 0 ∷ by 1 ∷ by 1 ∷ []) (λ p. cond (eqb p 0) 1 (cond (eqb p 1) 1 0)) }

-- before process 0's message is serialised: the two before it alone, with its LastWrite inside, and with its LastWrite on top
pub inserted_message : messages (predecessors two third (Serialise 0 0)) ≡ 2 ∷ 3 ∷ 3 ∷ []
inserted_message = refl

-- before a write: the value was the only one, or one more waited before it
pub waited_value :
    waiting (predecessors (program_with (record { process = 0; from = 0; operation = Write 0 1; to = 1 } ∷ [])) (entry_with 1 1 (FF ∷ [])) (Take 0)) ≡ 0 ∷ 1 ∷ []
waited_value = refl

-- ---- shapes: how many there are for so many processes and variables (theory, section 3)

abbrev shapes : ℕ → ℕ → ℕ
shapes p v = length (shape_cubes (record { processes = p; variables = v; values = λ v. 2; room = v }) (λ p. 0))

pub shapes_counted : (shapes 1 1 ≡ 4) × (shapes 1 2 ≡ 40) × (shapes 2 1 ≡ 232) × (shapes 1 3 ≡ 384)
shapes_counted = (refl, refl, refl, refl)
