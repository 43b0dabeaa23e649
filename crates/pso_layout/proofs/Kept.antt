-- What is kept of the bytes and arrays of a run of the PSO machine, and the tests of the buffers in them.
use Prim.Native.Nat.{ℕ, ◌+◌, ◌*◌, ◌<◌, ◌≤◌}
use mathlib.Core.Path.{◌≡◌, ◌∙◌}
use mathlib.Core.List.{List}
use native.Mathlib.Omega.{arith}
use lib.ListN.{length, get_or}
use Rattle.machine_pws.specs.Program as pws
use Rattle.machine_pws.specs.Machine.{all_below}
use Rattle.machine_pso.specs.Machine.{PsoConfiguration, no_item, value_first, mark_first, pso_sees}
use Rattle.base.proofs.Tests.{all_equal, few_all}
use Rattle.file_records.specs.declared.program.Shape.{Shape}
use Rattle.file_records.specs.ProgramPart.{shape_of}
use Rattle.run_layout.proofs.Kept.{queue_is}
use Rattle.pso_layout.specs.declared.buffers.PsoRun.{PsoRun}
use Rattle.pso_layout.specs.Layout.{empty_in, head_item, value_first_in, mark_first_in, no_items_in, all_marked_in, sees_in}
use Rattle.pso_layout.specs.Represents.{Represents}
use Rattle.pso_layout.proofs.Items.{BufferHeld, empty_held, value_held, mark_held, newest_held}

-- ---- what holds of the bytes and arrays after k steps

pub record Kept (S : pws.Shape) (k : ℕ) (run : PsoRun) (a : List ℕ) (d : PsoConfiguration) : Type 0 where
  pub states : (p : ℕ) → p < S.processes → get_or run.states p 0 ≡ d.state p
  pub memory : run.memory ≡ d.memory
  pub state_count : length run.states ≡ 4
  pub head_count : length run.heads ≡ 16
  pub tail_count : length run.tails ≡ 16
  pub last_count : length run.lasts ≡ 16
  pub area : length a ≡ 16384
  pub buffers : (p v : ℕ) → p < S.processes → v < S.variables
      → BufferHeld a (4 * p + v) (get_or run.heads (4 * p + v) 0) (get_or run.tails (4 * p + v) 0) (get_or run.lasts (4 * p + v) 0) k (d.buffer p v)

pub kept_represents : {S : pws.Shape} {k : ℕ} {run : PsoRun} {a : List ℕ} {d : PsoConfiguration} → Kept S k run a d → Represents S run a d
kept_represents K = record { states = K.states; memory = K.memory; buffers = λ p v pe ve. (K.buffers p v pe ve).items }

module _ (s : Shape) (pl : s.processes ≤ 4) (vl : s.variables ≤ 4) (k : ℕ) (run : PsoRun) (a : List ℕ) (d : PsoConfiguration) (K : Kept (shape_of s) k run a d) where
  pub empty_is : (p v : ℕ) → p < s.processes → v < s.variables → empty_in run p v ≡ no_item (d.buffer p v)
  unfolding empty_in
  empty_is p v pe ve = rw (queue_is p v (omega arith) (omega arith)) (empty_held (K.buffers p v pe ve))

  pub value_first_is : (p v : ℕ) → p < s.processes → v < s.variables → value_first_in run a p v ≡ value_first (d.buffer p v)
  unfolding value_first_in empty_in head_item
  value_first_is p v pe ve = rw (queue_is p v (omega arith) (omega arith)) (value_held (K.buffers p v pe ve))

  pub mark_first_is : (p v : ℕ) → p < s.processes → v < s.variables → mark_first_in run a p v ≡ mark_first (d.buffer p v)
  unfolding mark_first_in empty_in head_item
  mark_first_is p v pe ve = rw (queue_is p v (omega arith) (omega arith)) (mark_held (K.buffers p v pe ve))

  pub no_items_is : (p : ℕ) → p < s.processes → no_items_in run s p ≡ all_below s.variables (λ v. no_item (d.buffer p v))
  unfolding no_items_in
  no_items_is p pe = few_all s.variables (empty_in run p) vl ∙ all_equal s.variables (empty_in run p) (λ v. no_item (d.buffer p v)) (λ v ve. empty_is p v pe ve)

  pub all_marked_is : (p : ℕ) → p < s.processes → all_marked_in run a s p ≡ all_below s.variables (λ v. mark_first (d.buffer p v))
  unfolding all_marked_in
  all_marked_is p pe = few_all s.variables (mark_first_in run a p) vl ∙ all_equal s.variables (mark_first_in run a p) (λ v. mark_first (d.buffer p v)) (λ v ve. mark_first_is p v pe ve)

  pub sees_is : (p v : ℕ) → p < s.processes → v < s.variables → sees_in run a p v ≡ pso_sees d p v
  unfolding sees_in
  sees_is p v pe ve =
      rw (queue_is p v (omega arith) (omega arith), K.memory) (newest_held (K.buffers p v pe ve) (get_or d.memory v 0))
