use Prim.Native.Nat.{ℕ}
use mathlib.Core.Path.{sym, ap, ◌∙◌}
use native.Mathlib.Omega.{arith}
use mathlib.Core.Bool.{false≢true}
use borrow.Author.Rules.{rules}
use Rattle.machine_pws.specs.Machine.{all_below, none_waiting}
use Rattle.file_records.specs.ProgramPart.{shape_of}
use Rattle.file_contents.specs.Cube.{configuration_of}
use Rattle.list_starts.proofs.StartLaws.{by_count}
use Rattle.list_starts.proofs.looks_started.Goals as goal
use Rattle.list_starts.proofs.looks_started.Goals.{then-states_match, else-states_match}

pub returns-then-all_below : goal.returns-then-all_below
returns-then-all_below c small = elim c.if-states_match.branch [
  | then-states_match w ↦ by_count c.args.shape c.args.initial c.args.cube small (sym c.states_match.ensures ∙ w.if-states_match.true) (sym (w.all_below.ensures (none_waiting (shape_of c.args.shape) (configuration_of c.args.cube)) (λ p r l t. search rules) ∙ ap (λ (k : ℕ). all_below k (none_waiting (shape_of c.args.shape) (configuration_of c.args.cube))) {x = w.min.result} {y = c.args.shape.processes} (omega (arith, w.min.ensures, small.processes))) ∙ sym w.value-is ∙ c.if-all_below.true)
  | else-states_match w ↦ absurd (false≢true (sym w.if-states_match.false ∙ sym w.value-is ∙ c.if-all_below.true))
]
