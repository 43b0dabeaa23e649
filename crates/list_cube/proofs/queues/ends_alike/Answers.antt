use Rattle.list_cube.proofs.QueueLaws.{ends_some}
use Rattle.list_theory.specs.Values.{alike}
use Rattle.file_contents.specs.Cube.{waiting_of}
use mathlib.Core.Path.{sym, ap, ◌∙◌}
use Prim.Native.Nat.{ℕ}
use Rattle.list_cube.proofs.queues.ends_alike.Goals as goal

pub returns-then-not-is_empty : goal.returns-then-not-is_empty
returns-then-not-is_empty c = c.related.ensures ∙ ap (λ (y : ℕ). alike y c.args.x) c.newest_or.ensures ∙ ends_some (waiting_of c.args.queue) c.args.x (sym c.is_empty.ensures ∙ c.if-not-is_empty.true)
