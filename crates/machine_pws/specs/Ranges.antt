-- Values in the ranges of their variables (document 02, N5). A table of counts, four in the format, has the number of values of each variable,
-- and 0 in a place that is of none.
use Rattle.std.specs.Prelude.{ℕ, ◌<◌, ◌≤◌, ◌≡◌, ◌⊎◌, List, length, get_or, T}
use Rattle.machine_pws.specs.declared.Step.{Step}
use Rattle.machine_pws.specs.Program.{Shape, Program}
use Rattle.machine_pws.specs.Machine.{Configuration, message, may, after}
use Rattle.machine_pws.specs.Configurations.{All, Start}
use Rattle.machine_pws.specs.Sequences.{Visited}

-- x is one of n values; of a variable that there is not, a snapshot has 0
abbrev pub Within : ℕ → ℕ → Type 0
Within n x = (x < n) ⊎ ((n ≡ 0) × (x ≡ 0))

-- every snapshot and every queue has its values in the ranges of the table
pub record InRanges (counts : List ℕ) (c : Configuration) : Type 0 where
  pub snapshots : (i v : ℕ) → 1 ≤ i → i ≤ length c.memory.channel → Within (get_or counts v 0) (get_or (message c.memory.channel i).snapshot v 0)
  pub queues : (p v : ℕ) → All (λ x. x < get_or counts v 0) (c.queue p v)

-- the table is that of the shape
pub record CountsOf (S : Shape) (counts : List ℕ) : Type 0 where
  pub room : length counts ≡ S.room
  pub present : (v : ℕ) → v < S.variables → S.values v ≡ get_or counts v 0
  pub absent : (v : ℕ) → S.variables ≤ v → get_or counts v 0 ≡ 0

-- every step that the machine takes keeps them there, and so they are in every configuration that it comes to from a start
pub record KeepsRanges (P : Program) (counts : List ℕ) : Type 0 where
  pub steps : (c : Configuration) (s : Step) → InRanges counts c → T (may P c s) → InRanges counts (after P c s)
  pub visited : (c : Configuration) → Start P c → (ss : List Step) (d : Configuration) → Visited P c ss d → InRanges counts d
