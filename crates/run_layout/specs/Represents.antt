-- How the bytes and arrays of a run represent a configuration of the machine.
use Rattle.std.specs.Prelude.{ℕ, ◌+◌, ◌*◌, ◌-◌, ◌<◌, ◌≤◌, ◌≡◌, List, [], length, get_or}
use Rattle.machine_pws.specs.Program.{Shape}
use Rattle.machine_pws.specs.Machine.{Configuration, message, last_write}
use Rattle.file_records.specs.ProgramPart.{table_from}
use Rattle.run_layout.specs.declared.arrays.Run.{Run}
use Rattle.run_layout.specs.Layout.{snapshot_at, waiting_at}

-- the values that wait in queue q, oldest first: those from the number heads[q] on, up to the one before tails[q]
abbrev pub waiting_in : Run → List ℕ → ℕ → List ℕ
waiting_in run a q = table_from (waiting_at a q) (get_or run.heads q 0) (get_or run.tails q 0 - get_or run.heads q 0)

pub record Represents (S : Shape) (run : Run) (a : List ℕ) (c : Configuration) : Type 0 where
  pub states : (p : ℕ) → p < S.processes → get_or run.states p 0 ≡ c.state p
  pub queues : (p v : ℕ) → p < S.processes → v < S.variables → waiting_in run a (4 * p + v) ≡ c.queue p v
  pub messages : run.messages ≡ length c.memory.channel
  pub snapshots : (i : ℕ) → 1 ≤ i → i ≤ length c.memory.channel → snapshot_at a i ≡ (message c.memory.channel i).snapshot
  -- a row for each process: its pointer, and its LastWrite of each variable
  pub pointers : (p : ℕ) → p < S.processes → get_or (get_or run.rows p []) 0 0 ≡ c.memory.pointer p
  pub last_writes : (p v : ℕ) → p < S.processes → v < S.variables → get_or (get_or run.rows p []) (v + 1) 0 ≡ last_write c.memory p v
