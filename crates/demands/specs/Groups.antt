-- The groups of a list (request N2): entries with equal local states. To be above the list is to be above one group, and the summary keeps the
-- number of entries of each.
use Rattle.std.specs.Prelude.{ℕ, ◌<◌, ◌≡◌, Bool, true, List, [], ◌∷◌, length, eqb}
use Rattle.machine_pws.specs.Program.{Shape}
use Rattle.machine_pws.specs.Machine.{Configuration, all_below}
use Rattle.machine_pws.specs.Entries.{AboveList, entry}
use Rattle.file_records.specs.declared.program.Program.{Program}
use Rattle.base.specs.Bytes.{choose}
use Rattle.file_records.specs.ProgramPart.{program_of}
use Rattle.file_again.specs.Again.{entries_of}
use Rattle.list_summary.specs.Slots.{count_at}
use Rattle.list_summary.specs.Groups.{leads}
use Rattle.list_judge.specs.Ready.{Ready}

-- every process has the same local state in both
unfoldable pub equal_states : Shape → Configuration → Configuration → Bool
equal_states S e d = all_below S.processes (λ p. eqb (e.state p) (d.state p))

-- the entries with the local states of d, in the order of the list
abbrev pub group : Shape → List Configuration → Configuration → List Configuration
group S [] d = []
group S (e ∷ es) d = choose (equal_states S e d) (λ _. e ∷ group S es d) (λ _. group S es d)

-- a configuration is above the list if and only if it is above the group of its local states
abbrev pub GroupAgrees : Type 0
GroupAgrees = (S : Shape) (es : List Configuration) (d : Configuration)
    → (AboveList S es d → AboveList S (group S es d) d) × (AboveList S (group S es d) d → AboveList S es d)

-- the first entry of a group has its number in the summary
abbrev pub GroupNumbered : Type 0
GroupNumbered = (g f list sum : List ℕ) (n : ℕ) (p : Program) → Ready g f list sum n p → (k : ℕ) → k < n → leads f list p.shape k ≡ true
    → count_at sum k ≡ length (group (program_of g p).shape (entries_of f list n) (entry (entries_of f list n) k))
