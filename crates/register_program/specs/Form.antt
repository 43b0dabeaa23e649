-- A program and its targets as the records 01 to 04 of a program file (document 01, "Records"; document 02, N5 for the counts of values).
use Rattle.std.specs.Prelude.{ℕ, List, [], ◌∷◌, ◌++◌}
use Rattle.machine_pws.specs.declared.Operation.{Operation}
use Rattle.machine_pws.specs.declared.Operation.TheVariants.{Nop, Read, Write, Mfence, Sfence, Arw}
use Rattle.machine_pws.specs.declared.Transition.{Transition}
use Rattle.machine_pws.specs.Program.{Shape, Program}
use Rattle.file_records.specs.ProgramPart.{table_from}
use Rattle.register_machine.specs.Written.{joined}

-- 01: processes, variables, the number of values of each of four variables
abbrev pub shape_record : Shape → List ℕ
shape_record S = 1 ∷ S.processes ∷ S.variables ∷ S.values 0 ∷ S.values 1 ∷ S.values 2 ∷ S.values 3 ∷ []

-- 02: number of states, initial state
abbrev pub states_record : Program → ℕ → List ℕ
states_record P p = 2 ∷ P.states p ∷ P.initial p ∷ []

-- operation 0 to 5, variable, value, new value; what the operation lacks is 0
abbrev pub operation_bytes : Operation → List ℕ
operation_bytes Nop = 0 ∷ 0 ∷ 0 ∷ 0 ∷ []
operation_bytes (Read v x) = 1 ∷ v ∷ x ∷ 0 ∷ []
operation_bytes (Write v x) = 2 ∷ v ∷ x ∷ 0 ∷ []
operation_bytes Mfence = 3 ∷ 0 ∷ 0 ∷ 0 ∷ []
operation_bytes Sfence = 4 ∷ 0 ∷ 0 ∷ 0 ∷ []
operation_bytes (Arw v old new) = 5 ∷ v ∷ old ∷ new ∷ []

-- 03: process, from, operation, variable, value, new value, to
abbrev pub transition_record : Transition → List ℕ
transition_record t = 3 ∷ t.process ∷ t.from ∷ (operation_bytes t.operation ++ (t.to ∷ []))

-- 04: one state per process
abbrev pub target_record : (ℕ → ℕ) → List ℕ
target_record target = 4 ∷ target 0 ∷ target 1 ∷ target 2 ∷ target 3 ∷ []

-- the whole file: one 01; an 02 for each process; the 03s; the 04s
unfoldable pub program_bytes : Program → List (ℕ → ℕ) → List ℕ
program_bytes P targets =
    shape_record P.shape
    ++ (joined (states_record P) (table_from (λ p. p) 0 P.shape.processes) ++ (joined transition_record P.transitions ++ joined target_record targets))
