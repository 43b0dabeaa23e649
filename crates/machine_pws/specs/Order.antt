-- The order on configurations (document 01, "Above"; report, 5.3).
use Rattle.std.specs.Prelude.{ℕ, ◌<◌, ◌≤◌, ◌≡◌, length}
use mathlib.Core.List.{List, Sublistᴰ}
use Rattle.machine_pws.specs.Program.{Shape}
use Rattle.machine_pws.specs.Machine.{Memory, Configuration, message, last_write, newest_waiting}

-- i is a message from the lowest pointer on: some process points at it or before it
pub record Live (S : Shape) (m : Memory) (i : ℕ) : Type 0 where
  pub who : ℕ
  pub exists : who < S.processes
  pub from : m.pointer who ≤ i
  pub upto : i ≤ length m.channel

-- h takes the messages of m from the lowest pointer on, in rising order and so one to one, to equal messages (snapshot and label)
-- of n from its lowest pointer on, each pointer to that of n and each LastWrite to that of n
pub record Maps (S : Shape) (m n : Memory) (h : ℕ → ℕ) : Type 0 where
  pub lands : (i : ℕ) → Live S m i → Live S n (h i)
  pub rises : (i j : ℕ) → Live S m i → Live S m j → i < j → h i < h j
  pub equal : (i : ℕ) → Live S m i → message m.channel i ≡ message n.channel (h i)
  pub pointers : (p : ℕ) → p < S.processes → n.pointer p ≡ h (m.pointer p)
  pub last_writes : (p v : ℕ) → p < S.processes → v < S.variables → last_write n p v ≡ h (last_write m p v)

-- xs is a subsequence of ys, and both are empty or both end in the same value
pub record QueueBelow (xs ys : List ℕ) : Type 0 where
  pub subsequence : Sublistᴰ xs ys
  pub end : newest_waiting xs ≡ newest_waiting ys

-- c is below d, and d above c
pub record Below (S : Shape) (c d : Configuration) : Type 0 where
  pub states : (p : ℕ) → p < S.processes → c.state p ≡ d.state p
  pub queues : (p v : ℕ) → p < S.processes → v < S.variables → QueueBelow (c.queue p v) (d.queue p v)
  pub h : ℕ → ℕ
  pub maps : Maps S c.memory d.memory h
