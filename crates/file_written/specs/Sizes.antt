-- The sizes by which a record is handed back (document 02, N6) are those of the records that files are written in.
use Rattle.std.specs.Prelude.{ℕ, ◌≡◌, length}
use mathlib.Core.List.{List, [], ◌∷◌, ◌++◌, Memᴰ}
use Rattle.machine_pws.specs.declared.Transition.{Transition}
use Rattle.machine_pws.specs.declared.Step.{Step}
use Rattle.machine_pws.specs.Program.{Shape, Program}
use Rattle.file_again.specs.Offending.{body_of, record_at}
use Rattle.file_written.specs.Written.{
  shape_bytes,
  states_bytes,
  transition_bytes,
  target_bytes,
  claim_bytes,
  memory_bytes,
  step_bytes,
  EntryRecord,
  record_bytes,
  EntryRecords,
  head_bytes,
}

-- a record of any kind that a file has
pub data FileRecord : Type 0 where
  shape : Shape → FileRecord
  states : Program → ℕ → FileRecord
  transition : Transition → FileRecord
  target : (ℕ → ℕ) → FileRecord
  claim : ℕ → FileRecord
  memory : List ℕ → FileRecord
  step : Step → FileRecord
  head : EntryRecords → FileRecord
  body : EntryRecord → FileRecord

abbrev pub bytes_of : FileRecord → List ℕ
bytes_of (shape S) = shape_bytes S
bytes_of (states P p) = states_bytes P p
bytes_of (transition t) = transition_bytes t
bytes_of (target t) = target_bytes t
bytes_of (claim c) = claim_bytes c
bytes_of (memory m) = memory_bytes m
bytes_of (step s) = step_bytes s
bytes_of (head r) = head_bytes r
bytes_of (body r) = record_bytes r

-- wherever a written record stands, it is what is handed back there
abbrev pub WrittenHandedBack : Type 0
WrittenHandedBack = (r : FileRecord) (front rest : List ℕ) → record_at (front ++ (bytes_of r ++ rest)) (length front) ≡ bytes_of r

-- the kinds: 01 to 04, 0F to 12, 1F to 22
abbrev pub kinds : List ℕ
kinds = 1 ∷ 2 ∷ 3 ∷ 4 ∷ 15 ∷ 16 ∷ 17 ∷ 18 ∷ 31 ∷ 32 ∷ 33 ∷ 34 ∷ []

-- of any other the kind byte alone
abbrev pub UnknownAlone : Type 0
UnknownAlone = (kind : ℕ) → (Memᴰ kind kinds → ⊥) → body_of kind ≡ 0
