-- Parts of a cube, and a cube with one of them changed. No statement rests on these definitions.
use Rattle.std.specs.Prelude.{ℕ, ◌+◌, ◌*◌, ◌-◌, ◌<◌, ◌≤◌, ◌≡◌, false, cond, ◌&&◌, List, get_or, replicate, leb, ltb, Option, MatchOption}
use Rattle.machine_pws.specs.declared.Message.{Message}
use Rattle.machine_pws.specs.Machine.{Memory, Configuration, last_write, no_message}
use Rattle.machine_pws.specs.Insertion.{put_message}
use Rattle.file_records.specs.declared.program.Shape.{Shape}
use Rattle.file_contents.specs.declared.entry.Queue.{Queue}
use Rattle.file_contents.specs.declared.entry.Cube.{Cube}
use Rattle.file_contents.specs.Cube.{no_queue, waiting_of, channel_of, configuration_of}

-- The sizes of an entry of a file that was read: its predecessor cubes have room. It is the one condition of this crate's contracts; of
-- other cubes its functions end, and nothing is said of what they give.
pub record Sound (s : Shape) (c : Cube) : Type 0 where
  pub processes : s.processes ≤ 4
  pub variables : s.variables ≤ 4
  pub some : 1 ≤ c.count
  pub count : c.count ≤ 16
  pub queues : (i : ℕ) → i < 16 → (get_or c.queues i no_queue).count ≤ 8
  pub pointer : (p : ℕ) → p < s.processes → 1 ≤ get_or c.pointers p 0
  pub pointers : (p : ℕ) → p < 4 → get_or c.pointers p 0 ≤ c.count

-- r stands for e, and there is room for it in a cube
pub record CubeFor (r : Cube) (e : Configuration) : Type 0 where
  pub configuration : configuration_of r ≡ e
  pub count : r.count ≤ 20
  pub queues : (i : ℕ) → i < 16 → (get_or r.queues i no_queue).count ≤ 9

-- ---- LastWrite of each process and variable

-- that of p and v is at 4 p + v
abbrev pub LastWrites : List ℕ → Memory → Type 0
LastWrites ws m = (p v : ℕ) → p < 4 → v < 4 → get_or ws (4 * p + v) 0 ≡ last_write m p v

-- where the LastWrite of a message's label stands; nothing if there is no such label
abbrev pub WritePlace : Message → Option ℕ → Type 0
WritePlace m r = MatchOption r (ltb m.process 4 && ltb m.variable 4 ≡ false) (λ q. (m.process < 4) × (m.variable < 4) × (q ≡ 4 * m.process + m.variable))

-- ---- parts of a cube

-- these values wait in r, and there is room for them
pub record Waits (r : Queue) (xs : List ℕ) : Type 0 where
  pub waiting : waiting_of r ≡ xs
  pub most : r.count ≤ 9

abbrev pub by_number : List ℕ → ℕ → ℕ
by_number zs q = get_or zs q 0

-- r is c with μ put in as message k, and these pointers
pub record Inserted (r c : Cube) (k : ℕ) (μ : Message) (zs : List ℕ) : Type 0 where
  pub states : r.states ≡ c.states
  pub pointers : r.pointers ≡ zs
  pub queues : r.queues ≡ c.queues
  pub count : r.count ≡ c.count + 1
  pub channel : channel_of r.messages (c.count + 1) ≡ put_message (channel_of c.messages c.count) k μ

-- the values of the newest of at most 20 messages
unfoldable pub newest_values : Cube → List ℕ
newest_values c = cond (leb 1 c.count && leb c.count 20) (get_or c.messages (c.count - 1) no_message).snapshot (replicate 4 0)
