-- How the bytes and arrays of a run represent a configuration of the PSO machine.
use Rattle.std.specs.Prelude.{ℕ, ◌+◌, ◌*◌, ◌-◌, ◌<◌, ◌≡◌, cond, List, get_or, eqb}
use Rattle.machine_pws.specs.Program.{Shape}
use Rattle.machine_pso.specs.Machine.{Item, value, mark, PsoConfiguration}
use Rattle.file_records.specs.ProgramPart.{table_from}
use Rattle.pso_layout.specs.declared.buffers.PsoRun.{PsoRun}
use Rattle.pso_layout.specs.Layout.{item_at}

-- a byte as an item: 255 is a mark
abbrev pub item_of : ℕ → Item
item_of b = cond (eqb b 255) mark (value b)

-- the items from number h on, up to the one before t, of those put into buffer q
abbrev pub items_in : List ℕ → ℕ → ℕ → ℕ → List Item
items_in a q h t = table_from (λ k. item_of (item_at a q k)) h (t - h)

pub record Represents (S : Shape) (run : PsoRun) (a : List ℕ) (d : PsoConfiguration) : Type 0 where
  pub states : (p : ℕ) → p < S.processes → get_or run.states p 0 ≡ d.state p
  pub memory : run.memory ≡ d.memory
  pub buffers : (p v : ℕ) → p < S.processes → v < S.variables
      → items_in a (4 * p + v) (get_or run.heads (4 * p + v) 0) (get_or run.tails (4 * p + v) 0) ≡ d.buffer p v
