-- The signature of a cube: bits for what it says beyond its key, where values and messages without a role stand. No statement rests on it: only that
-- an entry which covers a cube has no bit that the cube has not (`match_signature`) is ever used.
use Rattle.std.specs.Prelude.{ℕ, zero, suc, ◌+◌, ◌*◌, ◌%◌, ◌^◌, ◌<◌, min, ◌≡◌, Bool, true, false, cond, List, [], ◌∷◌, length, get_or, eqb, ltb, leb}
use Rattle.std.proofs.Math.Option.{Option, none, some}
use Rattle.std.specs.Int.Bits.{bit_or}
use Rattle.machine_pws.specs.declared.Message.{Message}
use Rattle.machine_pws.specs.Machine.{no_message, newest_waiting}
use Rattle.file_records.specs.declared.program.Shape.{Shape}
use Rattle.file_contents.specs.declared.entry.Queue.{Queue}
use Rattle.file_contents.specs.declared.entry.Cube.{Cube}
use Rattle.file_contents.specs.Cube.{no_queue, waiting_of}
use Rattle.list_key.specs.Word.{Word}
use Rattle.list_key.specs.Tags.{tags_of, lowest_pointer}

-- every bit of a is one of b
pub record Contained (a b : ℕ) : Type 0 where
  pub are : bit_or a b ≡ b

-- ---- messages: sixteen bits

unfoldable pub bit_at : ℕ → ℕ
bit_at k = 2 ^ (k % 16)

-- a value that is not FF
unfoldable pub value_bit : ℕ → ℕ → ℕ
value_bit base x = cond (eqb x 255) 0 (bit_at (base + x))

-- those of the first n variables
unfoldable pub value_bits : ℕ → ℕ → List ℕ → ℕ
value_bits zero base xs = 0
value_bits (suc v) base xs = bit_or (value_bits v base xs) (value_bit (base + 5 * v) (get_or xs v 0))

-- only four bytes of which the first n are FF are this number
abbrev pub FreeWord : ℕ → ℕ → Type 0
FreeWord n r = (a b c d : ℕ) → Word a b c d r → (v : ℕ) → v < n → get_or (a ∷ b ∷ c ∷ d ∷ []) v 0 ≡ 255

-- a message with or without a role, past r newer ones with a role
unfoldable pub message_bits : ℕ → ℕ → Bool → Message → ℕ
message_bits variables r true m = value_bits variables r m.snapshot
message_bits variables r false m = bit_or (value_bits variables (r + 9) m.snapshot) (bit_at (3 * r + 4 * m.process + m.variable + 2))

-- the first i messages, newest first, from the lowest pointer on; which have a role is seen by their tags
abbrev pub signed : ℕ → ℕ → List ℕ → List Message → ℕ → ℕ → ℕ → ℕ
signed variables low ts ms zero r bits = bits
signed variables low ts ms (suc i) r bits =
    cond (leb low (suc i))
    (signed variables low ts ms i (cond (leb 65536 (get_or ts i 0)) (suc r) r) (bit_or bits (message_bits variables r (leb 65536 (get_or ts i 0)) (get_or ms i no_message))))
    bits

-- ---- queues: two bits, whether some newest waiting value is not FF, and whether two values wait somewhere

abbrev pub last_bit : Option ℕ → ℕ
last_bit none = 0
last_bit (some x) = cond (eqb x 255) 0 65536

unfoldable pub wait_bits : List ℕ → ℕ
wait_bits xs = bit_or (last_bit (newest_waiting xs)) (cond (ltb (length xs) 2) 0 131072)

-- the first n queues of process p
abbrev pub row_bits : List Queue → ℕ → ℕ → ℕ → ℕ
row_bits qs p zero bits = bits
row_bits qs p (suc v) bits = bit_or (row_bits qs p v bits) (wait_bits (waiting_of (get_or qs (4 * p + v) no_queue)))

-- the same of the first n processes
abbrev pub queue_bits : ℕ → List Queue → ℕ → ℕ
queue_bits variables qs zero = 0
queue_bits variables qs (suc p) = row_bits qs p variables (queue_bits variables qs p)

unfoldable pub signature_of : Shape → Cube → ℕ
signature_of s c =
    signed (min s.variables 4) (lowest_pointer s c.pointers) (tags_of s c) c.messages (min c.count 20) 0
    (queue_bits (min s.variables 4) c.queues (min s.processes 4))
