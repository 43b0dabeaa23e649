use Prim.Native.Nat.{ℕ}
use mathlib.Core.Path.{ap, ◌∙◌}
use mathlib.Core.List.{List}
use Rattle.machine_pws.specs.Machine.{newest_waiting}
use Rattle.list_theory.specs.Predecessors.{ends_alike}
use Rattle.list_before.proofs.operations.may_write.Goals as goal

pub returns : goal.returns
returns c = c.ends_alike.ensures ∙ ap (λ (xs : List ℕ). ends_alike (newest_waiting xs) c.args.x) c.queue_at.ensures.0
