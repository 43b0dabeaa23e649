-- Families of configurations: what number 11 asks of an entry does not depend on most of its channel, so it is often asked of all of them at once.
use Rattle.std.specs.Prelude.{ℕ, ◌+◌, ◌-◌, ◌/◌, ◌%◌, ◌<◌, ◌≤◌, ◌≡◌, cond, ◌&&◌, List, [], ◌∷◌, map, length, get_or, replicate, T, eqb, leb}
use Rattle.machine_pws.specs.declared.Message.{Message}
use Rattle.machine_pws.specs.Program.{Shape}
use Rattle.machine_pws.specs.Machine.{Memory, Configuration, no_message}
use Rattle.machine_pws.specs.Configurations.{Fits, ValueOf}
use Rattle.machine_pws.specs.Entries.{AboveList, entry}
use Rattle.list_theory.specs.Values.{fills, pairwise}
use Rattle.list_theory.specs.Cubes.{memory_of, with_values, topmost}
use Rattle.list_theory.specs.Matching.{QueueMatch}
use Rattle.list_theory.specs.Shapes.{memory_shapes}
use Rattle.list_theory.specs.Seen.{Sees}

-- ---- what is asked of a memory

-- newest values that may stand where e has its own; or that a process can come to see a value
pub data Clue : Type 0 where
  newest : Clue
  sees : ℕ → ℕ → ℕ → Clue

abbrev pub Clued : Shape → Clue → Memory → Memory → Type 0
Clued S newest e d = T (pairwise fills (topmost e.channel).snapshot (topmost d.channel).snapshot)
Clued S (sees p v x) e d = Sees S p v x d

-- d is in a family of e: it has the local states of e, waiting values above those of e, and what is asked of its memory; its messages and its pointers may be any
-- else
pub record InFamily (S : Shape) (q : Clue) (e d : Configuration) : Type 0 where
  pub states : (p : ℕ) → p < S.processes → e.state p ≡ d.state p
  pub queues : (p v : ℕ) → p < S.processes → v < S.variables → QueueMatch fills (e.queue p v) (d.queue p v)
  pub clue : Clued S q e.memory d.memory

-- a family of e is full: every configuration in it is above the list
abbrev pub FamilyHeld : Shape → List Configuration → Clue → Configuration → Type 0
FamilyHeld S es q e = (d : Configuration) → Fits (ValueOf S) S d → InFamily S q e d → AboveList S es d

-- ---- the cubes that are looked for: e with every irreducible memory in place of its own

-- the newest message has these values
abbrev pub topped : List ℕ → List Message → List Message
topped xs [] = []
topped xs (m ∷ ms) = with_values m xs ∷ ms

abbrev pub family_cube : Configuration → Memory → Configuration
family_cube e m =
    record {
      state = e.state;
      queue = e.queue;
      memory = memory_of (topped (topmost e.memory.channel).snapshot m.channel) m.pointer;
    }

abbrev pub family_cubes : Shape → Configuration → List Configuration
family_cubes S e = map (family_cube e) (memory_shapes S)
