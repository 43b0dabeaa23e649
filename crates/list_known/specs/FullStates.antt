-- Full local states: every configuration with them is above the list (what number 9 asks of a target). They stand in a table, four bytes each;
-- what is known to be full need not be looked for again at number 11.
use Rattle.std.specs.Prelude.{ℕ, ◌+◌, ◌*◌, ◌%◌, ◌<◌, ◌≤◌, min, ◌≡◌, Bool, false, cond, List, [], ◌∷◌, length, get_or, set, eqb, leb}
use Rattle.machine_pws.specs.Program.{Program}
use Rattle.machine_pws.specs.Machine.{Configuration, put, all_below}
use Rattle.machine_pws.specs.Entries.{EntryOf, entry}
use Rattle.list_theory.specs.Verdict.{TargetHeld}
use Rattle.file_records.specs.declared.program.Shape.{Shape}
use Rattle.base.specs.Bytes.{choose}

-- the four bytes at a place
unfoldable pub four_at : List ℕ → ℕ → List ℕ
four_at table at = get_or table at 0 ∷ get_or table (at + 1) 0 ∷ get_or table (at + 2) 0 ∷ get_or table (at + 3) 0 ∷ []

-- the entries are the program's, and every configuration of the program with local states of the table is above the list
pub record Full (P : Program) (es : List Configuration) (table : List ℕ) : Type 0 where
  pub entries : (k : ℕ) → k < length es → EntryOf P (entry es k)
  pub groups : (i : ℕ) → 4 * i + 4 ≤ length table → TargetHeld P es (λ q. get_or (four_at table (4 * i)) q 0)

-- ---- how the code finds local states in it. No statement rests on these definitions.

-- their place, of 1,024: each pair of states of two processes has its own
unfoldable pub place_of : List ℕ → ℕ
place_of states = 4 * ((get_or states 0 0 + 32 * get_or states 1 0 + 328 * get_or states 2 0 + 577 * get_or states 3 0) % 1024)

-- they stand there
unfoldable pub is_full : List ℕ → Shape → List ℕ → Bool
is_full table s states =
    cond (leb (place_of states + 4) (length table)) (all_below (min s.processes 4) (λ q. eqb (get_or (four_at table (place_of states)) q 0) (get_or states q 0))) false

-- all four stand in the table
abbrev pub Among : List ℕ → List ℕ → Type 0
Among table states = (i : ℕ) × (4 * i + 4 ≤ length table) × (four_at table (4 * i) ≡ states)

unfoldable pub put_four : List ℕ → ℕ → List ℕ → List ℕ
put_four table at states = set (set (set (set table at (get_or states 0 0)) (at + 1) (get_or states 1 0)) (at + 2) (get_or states 2 0)) (at + 3) (get_or states 3 0)

-- the table with them, in the place of what stood there
unfoldable pub with_states : List ℕ → List ℕ → List ℕ
with_states table states = choose (leb (place_of states + 4) (length table)) (λ _. put_four table (place_of states) states) (λ _. table)

-- local states with x for process p
unfoldable pub states_from : List ℕ → ℕ → ℕ → List ℕ
states_from states p x = put (λ q. get_or states q 0) p x 0 ∷ put (λ q. get_or states q 0) p x 1 ∷ put (λ q. get_or states q 0) p x 2 ∷ put (λ q. get_or states q 0) p x 3 ∷ []
