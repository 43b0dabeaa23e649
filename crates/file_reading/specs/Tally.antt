-- What the reading of an entry keeps: counts. No statement rests on these definitions; they say how the code's counts stand for the entry.
use Rattle.std.specs.Prelude.{ℕ, ◌+◌, ◌*◌, ◌<◌, ◌≤◌, ◌≡◌, true, false, cond, List, length, get_or, set, Result, Ok, Err}
use Rattle.machine_pws.specs.Machine.{Configuration}
use Rattle.file_records.specs.declared.program.Shape.{Shape}
use Rattle.file_records.specs.declared.program.Refusal.{Refusal}
use Rattle.file_reading.specs.declared.list.Tally.{Tally}
use Rattle.file_records.specs.Records.{is_kind, message_number, waiting_number}
use Rattle.file_contents.specs.EvidencePart.{EntryRead, whole, bad}
use Rattle.file_contents.specs.Tally.{queue_at}

-- bodyNumber by the counts
unfoldable pub number_by : Shape → List ℕ → ℕ → Tally → ℕ
number_by s f at t =
    cond (is_kind f at 17) (message_number s f at t.messages) (cond (is_kind f at 18) (waiting_number s f at (get_or t.waiting (queue_at f at) 0)) 2)

-- with one record more
unfoldable pub tallied : List ℕ → ℕ → Tally → Tally
tallied f at t =
    cond (is_kind f at 17) (record { messages = t.messages + 1; waiting = t.waiting })
    (record { messages = t.messages; waiting = set t.waiting (queue_at f at) (get_or t.waiting (queue_at f at) 0 + 1) })

-- one record more can be counted
pub record TallyRoom (f : List ℕ) (at : ℕ) (t : Tally) : Type 0 where
  pub messages : is_kind f at 17 ≡ true → t.messages ≤ 16
  pub place : is_kind f at 17 ≡ false → queue_at f at < 16
  pub waiting : is_kind f at 17 ≡ false → get_or t.waiting (queue_at f at) 0 ≤ 8

-- the counts are those of e
pub record Tallies (t : Tally) (e : Configuration) : Type 0 where
  pub room : length t.waiting ≡ 16
  pub messages : t.messages ≡ length e.memory.channel
  pub waiting : (p v : ℕ) → p < 4 → v < 4 → get_or t.waiting (4 * p + v) 0 ≡ length (e.queue p v)

-- what is handed on
abbrev pub end_of : EntryRead → Result ℕ Refusal
end_of (whole e next) = Ok next
end_of (bad r) = Err r
