use Prim.Native.Nat.{ℕ}
use mathlib.Core.Path.{◌≡◌, ap, ap₂, ◌∙◌}
use mathlib.Core.List.{List, ◌∷◌}
use lib.ListN.{length, get_or}
use Rattle.machine_pws.specs.declared.Message.{Message}
use Rattle.list_key.proofs.ValueLaws.{length_mapped}
use Rattle.list_before.proofs.CubeLaws.{few_wait, again}
use borrow.Author.Rules.{rules}
use Rattle.list_before.proofs.serialise.waiting_again.Goals as goal

pub returns : goal.returns
returns c = λ s w a b. let n : length c.args.cube.queues ≡ 16 = search (rules, length_mapped) in again w c.args.p c.args.v a b n (c.with_first.ensures (few_wait w c.args.p c.args.v a b (c.queue_at-queue.ensures.1 a b))) (c.put_queue.ensures a b) (ap₂ (λ (x : ℕ) (xs : List ℕ). x ∷ xs) (c.at_or-value.ensures ∙ ap (λ (m : Message). get_or m.snapshot c.args.v 0) (c.newest.ensures s w)) c.queue_at-queue.ensures.0)
