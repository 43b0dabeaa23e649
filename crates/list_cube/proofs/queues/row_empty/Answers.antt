use Prim.Native.Nat.{ℕ, min}
use mathlib.Core.Path.{ap, ◌∙◌}
use native.Mathlib.Omega.{arith}
use borrow.Author.Rules.{rules}
use Rattle.machine_pws.specs.Machine.{is_empty, all_below}
use Rattle.file_contents.specs.Cube.{queue_of}
use Rattle.list_cube.proofs.QueueLaws.{row_first}
use Rattle.list_cube.proofs.queues.row_empty.Goals as goal

pub returns : goal.returns
returns c =
    c.all_below.ensures (λ v. is_empty (queue_of c.args.queues.now c.args.p v)) (λ v r l t. search rules)
    ∙ ap (λ (k : ℕ). all_below k (λ v. is_empty (queue_of c.args.queues.now c.args.p v))) {x = c.min.result} {y = min c.args.n 4} (omega (arith, c.min.ensures))
    ∙ row_first c.args.queues.now c.args.p c.args.n
