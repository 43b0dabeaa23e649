-- The number of a cube, and of its local states. Only this is ever used: an entry that matches a cube has its number but for the signature
-- (`match_number`, `match_states`), and no bit of a signature that a cube has not which it covers (`match_signature`).
use Rattle.std.specs.Prelude.{ℕ, zero, suc, ◌+◌, ◌*◌, ◌/◌, ◌%◌, ◌^◌, min, ◌≡◌, cond, List, get_or, leb}
use Rattle.std.specs.Int.Bits.{bit_xor}
use Rattle.machine_pws.specs.Machine.{is_empty}
use Rattle.file_records.specs.declared.program.Shape.{Shape}
use Rattle.file_contents.specs.declared.entry.Queue.{Queue}
use Rattle.file_contents.specs.declared.entry.Cube.{Cube}
use Rattle.file_contents.specs.Cube.{no_queue, waiting_of}
use Rattle.list_key.specs.Tags.{tags_of}
use Rattle.list_key.specs.Signature.{signature_of}

-- in 64 bits
unfoldable pub mix_left : ℕ → ℕ → ℕ
mix_left k h = bit_xor h ((h * 2 ^ k) % 2 ^ 64)

unfoldable pub mix_right : ℕ → ℕ → ℕ
mix_right k h = bit_xor h (h / 2 ^ k)

unfoldable pub stir : ℕ → ℕ
stir h = mix_left 32 (mix_right 32 (mix_left 11 (mix_right 29 (mix_left 23 h))))

-- h, with the k bits of x behind it
unfoldable pub behind : ℕ → ℕ → ℕ → ℕ
behind k h x = bit_xor ((h * 2 ^ k) % 2 ^ 64) x

-- the first n local states
abbrev pub packed_states : ℕ → List ℕ → ℕ
packed_states zero zs = 0
packed_states (suc n) zs = behind 8 (packed_states n zs) (get_or zs n 0)

abbrev pub empty_bit : Queue → ℕ
empty_bit q = cond (is_empty (waiting_of q)) 1 0

-- which of the first n queues of process p are empty
abbrev pub packed_row : List Queue → ℕ → ℕ → ℕ → ℕ
packed_row qs p zero h = h
packed_row qs p (suc v) h = behind 1 (packed_row qs p v h) (empty_bit (get_or qs (4 * p + v) no_queue))

-- the same of the first n processes
abbrev pub packed_queues : ℕ → List Queue → ℕ → ℕ → ℕ
packed_queues variables qs zero h = h
packed_queues variables qs (suc p) h = packed_row qs p variables (packed_queues variables qs p h)

abbrev pub with_tag : ℕ → ℕ → ℕ
with_tag t h = cond (leb 65536 t) (bit_xor (stir h) t) h

-- those of the first n tags that have a role, newest first
abbrev pub with_tags : List ℕ → ℕ → ℕ → ℕ
with_tags ts zero h = h
with_tags ts (suc n) h = with_tags ts n (with_tag (get_or ts n 0) h)

unfoldable pub states_mixed : Shape → List ℕ → ℕ
states_mixed s zs = stir (packed_states (min s.processes 4) zs)

-- a number with a signature of eighteen bits above its lowest two
unfoldable pub with_signature : ℕ → ℕ → ℕ
with_signature h x = 1048576 * (h / 1048576) + (4 * x + h % 4)

-- with every bit of one
unfoldable pub widened : ℕ → ℕ
widened x = with_signature x 262143

-- that signature
abbrev pub signature_in : ℕ → ℕ
signature_in x = x / 4 % 262144

-- two numbers that differ in their signatures alone
pub record Agrees (x y : ℕ) : Type 0 where
  pub upper : x / 1048576 ≡ y / 1048576
  pub lowest : x % 4 ≡ y % 4

-- of the key alone
unfoldable pub key_mixed : Shape → Cube → ℕ
key_mixed s c =
    stir
    (with_tags (tags_of s c) (min c.count 20)
    (packed_queues (min s.variables 4) c.queues (min s.processes 4) (packed_states (min s.processes 4) c.states)))

unfoldable pub number_of : Shape → Cube → ℕ
number_of s c = with_signature (key_mixed s c) (signature_of s c)
