use Prim.Native.Nat.{ℕ, ◌≤◌}
use mathlib.Core.Path.{◌≡◌, sym, ap, subst, ◌∙◌}
use mathlib.Core.List.{List}
use lib.ListN.{length}
use Rattle.machine_pws.specs.Machine.{is_empty, last_write}
use Rattle.list_theory.specs.Cubes.{value_put, with_last}
use Rattle.file_contents.specs.Cube.{configuration_of}
use Rattle.machine_pws.specs.declared.Operation.TheVariants.{Read}
use Rattle.list_theory.specs.Predecessors.{undone}
use Rattle.list_before.specs.Before.{take_before}
use Rattle.list_cube.specs.Editing.{Waits, CubeFor}
use Rattle.list_cube.proofs.MessageLaws.{write_some}
use Rattle.list_key.proofs.ValueLaws.{length_mapped}
use Rattle.list_before.proofs.CubeLaws.{few, less, room, few_wait, requeued, read_waiting, read_sent}
use native.Mathlib.Omega.{arith}
use borrow.Author.Rules.{rules}
use Rattle.list_before.proofs.operations.before_read.Goals as goal

pub returns-then-p-ge4 : goal.returns-then-p-ge4
returns-then-p-ge4 c = λ s w g a b. absurd (omega (arith, c.then-p-ge4.either, few w c.args.p a, less w c.args.v b))

pub returns-then-not-is_empty : goal.returns-then-not-is_empty
returns-then-not-is_empty c = λ s w g a b. let k = few w c.args.p a in let l = less w c.args.v b in let o : c.queue_at-queue.result.count ≤ 9 = omega (arith, few_wait w c.args.p c.args.v k l (c.queue_at-queue.ensures.1 k l)) in let m : length c.args.cube.states ≡ 4 = search rules in let n : length c.args.cube.queues ≡ 16 = search (rules, length_mapped) in read_waiting w c.args.p c.args.from c.args.v c.args.x (ap is_empty (sym c.queue_at-queue.ensures.0) ∙ sym c.is_empty.ensures ∙ c.if-not-is_empty.true) (requeued w c.args.p c.args.from c.args.v k l m n (subst (λ (xs : List ℕ). Waits c.with_last.result (with_last xs c.args.x)) c.queue_at-queue.ensures.0 (c.with_last.ensures o)) (c.with_queue.ensures k l))

pub returns : goal.returns
returns c = λ s w g a b. let k = few w c.args.p a in let l = less w c.args.v b in let e : c.from-last.result ≡ last_write (configuration_of c.args.cube).memory c.args.p c.args.v = c.from-last.ensures ∙ g c.args.p c.args.v k l in let z = write_some w c.args.p c.args.v a in let m : length c.args.cube.states ≡ 4 = search rules in subst (λ (ss : List ℕ). CubeFor (record { states = ss; pointers = c.args.cube.pointers; queues = c.args.cube.queues; messages = c.with_value_in.result; count = c.args.cube.count }) (take_before (configuration_of c.args.cube) c.args.p c.args.from (Read c.args.v c.args.x) undone)) (sym c.with_at.ensures) (read_sent w c.args.p c.args.from c.args.v c.args.x (omega arith) (ap is_empty (sym c.queue_at-queue.ensures.0) ∙ sym c.is_empty.ensures ∙ c.if-not-is_empty.false) (c.with_value_in.ensures (room w) (omega (arith, z.0)) (omega (arith, z.1)) ∙ ap (λ (i : ℕ). value_put (configuration_of c.args.cube).memory.channel i c.args.v c.args.x) e))
