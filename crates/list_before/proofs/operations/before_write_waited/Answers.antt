use Prim.Native.Nat.{ℕ, ◌≤◌}
use mathlib.Core.Path.{◌≡◌, subst}
use mathlib.Core.List.{List}
use lib.ListN.{length}
use Rattle.list_theory.specs.Cubes.{with_last}
use Rattle.list_cube.specs.Editing.{Waits}
use Rattle.list_key.proofs.ValueLaws.{length_mapped}
use Rattle.list_before.proofs.CubeLaws.{few, less, few_wait, requeued}
use native.Mathlib.Omega.{arith}
use borrow.Author.Rules.{rules}
use Rattle.list_before.proofs.operations.before_write_waited.Goals as goal

pub returns : goal.returns
returns c = λ s x w a b. let k = few w c.args.p a in let l = less w c.args.v b in let o : c.queue_at-queue.result.count ≤ 9 = omega (arith, few_wait w c.args.p c.args.v k l (c.queue_at-queue.ensures.1 k l)) in let m : length c.args.cube.states ≡ 4 = search rules in let n : length c.args.cube.queues ≡ 16 = search (rules, length_mapped) in requeued w c.args.p c.args.from c.args.v k l m n (subst (λ (xs : List ℕ). Waits c.with_last.result (with_last xs 255)) c.queue_at-queue.ensures.0 (c.with_last.ensures o)) (c.with_queue.ensures k l)
