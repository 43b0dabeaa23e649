-- The worked cases A to F of document 01 ("Judged files"), as a table with one statement: the list of each row is judged so.
use Rattle.std.specs.Prelude.{ℕ, zero, suc, cond, List, [], ◌∷◌, map, eqb}
use Rattle.machine_pws.specs.declared.Message.{Message}
use Rattle.machine_pws.specs.declared.Operation.TheVariants.{Nop}
use Rattle.machine_pws.specs.declared.Step.TheVariants.{Take}
use Rattle.machine_pws.specs.declared.Transition.{Transition}
use Rattle.machine_pws.specs.Program.{Program}
use Rattle.machine_pws.specs.Machine.{Configuration}
use Rattle.machine_pws.specs.Entries.{FF}
use Rattle.list_theory.specs.Verdict.{ListVerdict, safe, unheld, started, entered, ListJudged}

-- ---- the programs: one process with two states, one variable with two values

abbrev pub program_with : List Transition → Program
program_with ts = record { shape = record { processes = 1; variables = 1; values = λ v. 2; room = 4 }; states = λ p. 2; initial = λ p. 0; transitions = ts }

abbrev pub goes : Transition
goes = record { process = 0; from = 0; operation = Nop; to = 1 }

-- x for the one process, and 0 for those that do not exist
abbrev pub one : ℕ → ℕ → ℕ
one x p = cond (eqb p 0) x 0

-- ---- the entries

abbrev pub free : ℕ → List Message
free zero = []
free (suc n) = record { process = 0; variable = 0; snapshot = FF ∷ 0 ∷ 0 ∷ 0 ∷ [] } ∷ free n

-- the process in this state, its pointer at the oldest of n messages, and these values waiting
abbrev pub entry_with : ℕ → ℕ → List ℕ → Configuration
entry_with q n xs = record { state = one q; queue = λ p v. cond (eqb p 0) (cond (eqb v 0) xs []) []; memory = record { channel = free n; pointer = one 1 } }

-- ---- the table

pub record Row : Type 0 where
  pub transitions : List Transition
  -- the target, and the state of every entry
  pub state : ℕ
  -- messages and waiting values of each entry
  pub entries : List (ℕ × List ℕ)
  pub verdict : ListVerdict

abbrev pub program_of : Row → Program
program_of r = program_with r.transitions

abbrev pub targets_of : Row → List (ℕ → ℕ)
targets_of r = one r.state ∷ []

abbrev pub entries_of : Row → List Configuration
entries_of r = map (λ d. entry_with r.state d.0 d.1) r.entries

unfoldable pub Holds : Row → Type 0
Holds r = ListJudged (program_of r) (targets_of r) (entries_of r) r.verdict

pub data Each (F : Row → Type 0) : List Row → Type 0 where
  no_row : Each F []
  row : {r : Row} {rs : List Row} → F r → Each F rs → Each F (r ∷ rs)

abbrev pub cases : List Row
cases =
    -- A
    record { transitions = []; state = 1; entries = (1, []) ∷ (1, FF ∷ []) ∷ (2, []) ∷ (2, FF ∷ []) ∷ []; verdict = safe 4 }
    -- B: without the second entry
    ∷ record { transitions = []; state = 1; entries = (1, []) ∷ (2, []) ∷ (2, FF ∷ []) ∷ []; verdict = unheld 0 }
    -- C: its waiting value is 0
    ∷ record { transitions = []; state = 1; entries = (1, []) ∷ (1, 0 ∷ []) ∷ (2, []) ∷ (2, FF ∷ []) ∷ []; verdict = unheld 0 }
    -- D: it is given twice, with 0 and with 1
    ∷ record { transitions = []; state = 1; entries = (1, []) ∷ (1, 0 ∷ []) ∷ (1, 1 ∷ []) ∷ (2, []) ∷ (2, FF ∷ []) ∷ []; verdict = safe 5 }
    -- E: with a transition
    ∷ record { transitions = goes ∷ []; state = 1; entries = (1, []) ∷ (1, FF ∷ []) ∷ (2, []) ∷ (2, FF ∷ []) ∷ []; verdict = entered 0 (Take 0) }
    -- F: in state 0
    ∷ record { transitions = []; state = 0; entries = (1, []) ∷ (1, FF ∷ []) ∷ (2, []) ∷ (2, FF ∷ []) ∷ []; verdict = started 0 }
    ∷ []
