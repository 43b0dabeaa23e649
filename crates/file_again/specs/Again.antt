-- What a file holds, read again by number: from the file, the places of its program part, and the list of its entries' offsets.
use Rattle.std.specs.Prelude.{ℕ, zero, suc, ◌+◌, ◌*◌, min, List, [], ◌∷◌, length}
use Rattle.machine_pws.specs.declared.Transition.{Transition}
use Rattle.machine_pws.specs.Machine.{Configuration}
use Rattle.file_records.specs.declared.program.Program.{Program}
use Rattle.file_contents.specs.declared.entry.Cube.{Cube}
use Rattle.base.specs.Bytes.{byte, le32}
use Rattle.file_records.specs.Records.{transition_at}
use Rattle.file_records.specs.ProgramPart.{table_from}
use Rattle.file_contents.specs.Cube.{configuration_of, load_entry}

-- ---- entries, by the list of their offsets

abbrev pub offset_at : List ℕ → ℕ → ℕ
offset_at list i = le32 list (4 * i)

abbrev pub cube_at : List ℕ → List ℕ → ℕ → Cube
cube_at f list i = load_entry f (offset_at list i)

-- n of them
abbrev pub entries_of : List ℕ → List ℕ → ℕ → List Configuration
entries_of f list n = table_from (λ i. configuration_of (load_entry f (le32 list (4 * i)))) 0 n

-- ---- transitions and targets

-- a place in the file; every byte past its end is 0, so its end stands for any place past it
abbrev pub place_in : List ℕ → ℕ → ℕ
place_in f at = min (length f) at

abbrev pub transition_of : List ℕ → Program → ℕ → Transition
transition_of f p i = transition_at f (p.transitions.at + 8 * i)

-- four states
abbrev pub target_of : List ℕ → Program → ℕ → List ℕ
target_of f p k =
    byte f (p.targets.at + 5 * k + 1) ∷ byte f (p.targets.at + 5 * k + 2) ∷ byte f (p.targets.at + 5 * k + 3) ∷ byte f (p.targets.at + 5 * k + 4) ∷ []

-- ---- records of different sizes in a row

-- where record i stands, the first of them standing at `at`
abbrev pub place_of : (ℕ → ℕ) → ℕ → ℕ → ℕ
place_of size at zero = at
place_of size at (suc i) = place_of size (at + size at) i
