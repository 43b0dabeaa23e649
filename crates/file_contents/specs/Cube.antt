-- An entry as the code holds it, and what it stands for. No statement rests on these definitions but through `configuration_of`.
use Rattle.std.specs.Prelude.{ℕ, zero, suc, ◌+◌, ◌*◌, Bool, true, false, cond, ◌&&◌, List, [], ◌∷◌, length, get_or, set, take, replicate, leb, ltb}
use Rattle.machine_pws.specs.declared.Message.{Message}
use Rattle.machine_pws.specs.Machine.{Configuration, no_message}
use Rattle.file_contents.specs.declared.entry.Queue.{Queue}
use Rattle.file_contents.specs.declared.entry.Cube.{Cube}
use Rattle.file_contents.specs.declared.entry.Loaded.{Loaded}
use Rattle.base.specs.Bytes.{choose, byte}
use Rattle.file_records.specs.Records.{is_kind, message_at}
use Rattle.file_contents.specs.Tally.{queue_at}

-- ---- what it stands for

abbrev pub no_queue : Queue
no_queue = record { values = []; count = 0 }

abbrev pub waiting_of : Queue → List ℕ
waiting_of q = take q.count q.values

-- the first n messages, newest first
abbrev pub channel_of : List Message → ℕ → List Message
channel_of ms zero = []
channel_of ms (suc n) = get_or ms n no_message ∷ channel_of ms n

abbrev pub queue_of : List Queue → ℕ → ℕ → List ℕ
queue_of qs p v = cond (ltb p 4 && ltb v 4) (waiting_of (get_or qs (4 * p + v) no_queue)) []

abbrev pub configuration_of : Cube → Configuration
configuration_of c =
    record {
      state = λ p. get_or c.states p 0;
      queue = queue_of c.queues;
      memory = record { channel = channel_of c.messages c.count; pointer = λ p. get_or c.pointers p 0 };
    }

-- ---- reading it

unfoldable pub pushed : Queue → ℕ → Queue
pushed q x = cond (leb 9 q.count) q (record { values = set q.values q.count x; count = q.count + 1 })

unfoldable pub loads_message : List ℕ → ℕ → ℕ → Bool
loads_message f at count = is_kind f at 17 && ltb count 20

unfoldable pub loads_waiting : List ℕ → ℕ → Bool
loads_waiting f at = is_kind f at 18 && (ltb (byte f (at + 1)) 4 && ltb (byte f (at + 2)) 4)

abbrev pub blank_message : Message
blank_message = record { process = 0; variable = 0; snapshot = 0 ∷ 0 ∷ 0 ∷ 0 ∷ [] }

abbrev pub empty_queue : Queue
empty_queue = record { values = replicate 9 0; count = 0 }

abbrev pub nothing_loaded : Loaded
nothing_loaded = record { queues = replicate 16 empty_queue; messages = replicate 20 blank_message; count = 0 }

abbrev pub more_message : List ℕ → ℕ → Loaded → Loaded
more_message f at l = record { queues = l.queues; messages = set l.messages l.count (message_at f at); count = l.count + 1 }

abbrev pub more_waiting : List ℕ → ℕ → Loaded → Loaded
more_waiting f at l =
    record {
      queues = set l.queues (queue_at f at) (pushed (get_or l.queues (queue_at f at) no_queue) (byte f (at + 3)));
      messages = l.messages;
      count = l.count;
    }

unfoldable pub load_from : ℕ → List ℕ → ℕ → Loaded → Loaded
load_from zero f at l = l
load_from (suc bytes) f at l =
    choose (loads_message f at l.count) (λ _. load_from bytes f (at + 7) (more_message f at l))
    (λ _. choose (loads_waiting f at) (λ _. load_from bytes f (at + 4) (more_waiting f at l)) (λ _. l))

unfoldable pub loaded : List ℕ → ℕ → Loaded
loaded f at = choose (ltb at (length f)) (λ _. load_from (length f) f (at + 9) nothing_loaded) (λ _. nothing_loaded)

-- an entry with these states and pointers
abbrev pub headed : List ℕ → List ℕ → Loaded → Cube
headed states pointers l = record { states = states; pointers = pointers; queues = l.queues; messages = l.messages; count = l.count }

unfoldable pub load_entry : List ℕ → ℕ → Cube
load_entry f at =
    record {
      states = byte f (at + 1) ∷ byte f (at + 2) ∷ byte f (at + 3) ∷ byte f (at + 4) ∷ [];
      pointers = byte f (at + 5) ∷ byte f (at + 6) ∷ byte f (at + 7) ∷ byte f (at + 8) ∷ [];
      queues = (loaded f at).queues;
      messages = (loaded f at).messages;
      count = (loaded f at).count;
    }
