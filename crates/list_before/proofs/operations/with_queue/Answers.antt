use mathlib.Core.Path.{ap₂}
use mathlib.Core.List.{List}
use Prim.Native.Nat.{ℕ}
use Rattle.file_contents.specs.declared.entry.Queue.{Queue}
use Rattle.list_before.proofs.operations.with_queue.Goals as goal

pub returns : goal.returns
returns c = λ a b. ap₂ (λ (ss : List ℕ) (qs : List Queue). record { states = ss; pointers = c.args.cube.pointers; queues = qs; messages = c.args.cube.messages; count = c.args.cube.count }) c.with_at.ensures (c.put_queue.ensures a b)
