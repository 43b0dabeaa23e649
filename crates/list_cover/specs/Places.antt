-- Places of a cube as the code holds them. No statement rests on these definitions: they say how a cube's parts are those of `split`.
use Rattle.std.specs.Prelude.{ℕ, suc, ◌+◌, ◌*◌, ◌-◌, ◌/◌, ◌%◌, min, ◌≡◌, Bool, true, false, cond, ◌&&◌, List, Option, Some, None, [], ◌∷◌, length, get_or, set, eqb, ltb}
use Rattle.machine_pws.specs.declared.Message.{Message}
use Rattle.machine_pws.specs.Machine.{no_message}
use Rattle.list_theory.specs.Covering as lists
use Rattle.list_theory.specs.Cubes.{with_values}
use Rattle.file_records.specs.declared.program.Shape.{Shape}
use Rattle.file_contents.specs.declared.entry.Queue.{Queue}
use Rattle.file_contents.specs.declared.entry.Cube.{Cube}
use Rattle.base.specs.Bytes.{choose}
use Rattle.file_records.specs.Records.{value_count}
use Rattle.file_contents.specs.Cube.{no_queue, waiting_of}
use Rattle.list_cover.specs.declared.place.Place.{Place}
use Rattle.list_cover.specs.declared.place.Place.TheVariants.{Waiting, Sent}

-- ---- parts

abbrev pub set_waiting : Queue → ℕ → ℕ → Queue
set_waiting q j x = record { values = set q.values j x; count = q.count }

abbrev pub with_queues : Cube → List Queue → Cube
with_queues c qs = record { states = c.states; pointers = c.pointers; queues = qs; messages = c.messages; count = c.count }

abbrev pub with_messages : Cube → List Message → Cube
with_messages c ms = record { states = c.states; pointers = c.pointers; queues = c.queues; messages = ms; count = c.count }

unfoldable pub with_waiting : Cube → ℕ → ℕ → ℕ → ℕ → Cube
with_waiting c p v j x =
    choose (ltb p 4 && (ltb v 4 && ltb j 9))
    (λ _. with_queues c (set c.queues (4 * p + v) (set_waiting (get_or c.queues (4 * p + v) no_queue) j x)))
    (λ _. c)

unfoldable pub with_sent : Cube → ℕ → ℕ → ℕ → Cube
with_sent c i v x =
    choose (ltb i 20 && ltb v 4)
    (λ _. with_messages c (set c.messages i (with_values (get_or c.messages i no_message) (set (get_or c.messages i no_message).snapshot v x))))
    (λ _. c)

abbrev pub part_of : Cube → Place → ℕ → Cube
part_of c (Waiting p v j) x = with_waiting c p v j x
part_of c (Sent i v) x = with_sent c i v x

-- ---- places that are free

unfoldable pub value_free : Queue → ℕ → Bool
value_free q j = ltb j (length (waiting_of q)) && (ltb j 9 && eqb (get_or q.values j 0) 255)

unfoldable pub waits_free : Shape → Cube → ℕ → ℕ → ℕ → Bool
waits_free s c p v j =
    (ltb p (min s.processes 4) && ltb v (min s.variables 4)) && value_free (get_or c.queues (4 * p + v) no_queue) j

unfoldable pub sent_free : Shape → Cube → ℕ → ℕ → Bool
sent_free s c i v = (ltb i (min c.count 20) && ltb v (min s.variables 4)) && eqb (get_or (get_or c.messages i no_message).snapshot v 0) 255

abbrev pub is_free : Shape → Cube → Place → Bool
is_free s c (Waiting p v j) = waits_free s c p v j
is_free s c (Sent i v) = sent_free s c i v

-- if there is one, it is free
abbrev pub proper : Shape → Cube → Option Place → Bool
proper s c None = true
proper s c (Some a) = is_free s c a

abbrev pub NoneFree : Shape → Cube → Type 0
NoneFree s c = (a : Place) → is_free s c a ≡ false

abbrev pub fillings : Shape → Place → ℕ
fillings s (Waiting p v j) = min (value_count s v) 4
fillings s (Sent i v) = min (value_count s v) 4

unfoldable pub place_at : ℕ → Place
place_at k = cond (ltb k 144) (Waiting (k / 36) (k / 9 % 4) (k % 9)) (Sent ((k - 144) / 4) ((k - 144) % 4))

-- ---- how many values are free: each part has fewer

abbrev pub total {ℓ} : {A : Type ℓ} → (A → ℕ) → List A → ℕ
total f [] = 0
total f (x ∷ xs) = f x + total f xs

abbrev pub free : ℕ → ℕ
free x = cond (eqb x 255) 1 0

abbrev pub free_of : Cube → ℕ
free_of c = total (λ q. total free q.values) c.queues + total (λ m. total free m.snapshot) c.messages

-- ---- in the definitions' words

abbrev pub place_of : Place → lists.Place
place_of (Waiting p v j) = lists.in_queue p v j
place_of (Sent i v) = lists.in_message (suc i) v
