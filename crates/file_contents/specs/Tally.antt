-- Where a queue stands in the counts of an entry, and what is handed on of a list that was read. No statement rests on these definitions.
use Rattle.file_records.specs.declared.program.Refusal.{Refusal}
use Rattle.std.specs.Prelude.{ℕ, ◌+◌, ◌*◌, List, length, Result, Ok, Err, ⊤}
use Rattle.base.specs.Bytes.{byte}
use Rattle.file_contents.specs.EvidencePart.{EntriesRead}

-- the place of a queue's count
abbrev pub queue_at : List ℕ → ℕ → ℕ
queue_at f at = 4 * byte f (at + 1) + byte f (at + 2)

-- what is handed on
abbrev pub counted : Result ⊤ Refusal → ℕ → Result ℕ Refusal
counted (Ok _) n = Ok n
counted (Err r) n = Err r

abbrev pub count_of : EntriesRead → Result ℕ Refusal
count_of r = counted r.answer (length r.offsets)
