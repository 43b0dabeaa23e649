use Prim.Native.Nat.{ℕ}
use mathlib.Core.Path.{◌≡◌, ap, ap₂, ◌∙◌}
use mathlib.Core.List.{List}
use lib.ListN.{get_or}
use Rattle.machine_pws.specs.Machine.{message, newest_or, newest_waiting, last_write}
use Rattle.list_theory.specs.Values.{alike}
use Rattle.file_contents.specs.Cube.{configuration_of}
use Rattle.list_cube.proofs.MessageLaws.{write_some}
use Rattle.list_before.proofs.CubeLaws.{few, less, room}
use native.Mathlib.Omega.{arith}
use Rattle.list_before.proofs.operations.may_read.Goals as goal

pub returns-then-p-ge4 : goal.returns-then-p-ge4
returns-then-p-ge4 c = λ s w g a b. absurd (omega (arith, c.then-p-ge4.either, few w c.args.p a, less w c.args.v b))

pub returns : goal.returns
returns c = λ s w g a b. let e : c.from-last.result ≡ last_write (configuration_of c.args.cube).memory c.args.p c.args.v = c.from-last.ensures ∙ g c.args.p c.args.v (few w c.args.p a) (less w c.args.v b) in let z = write_some w c.args.p c.args.v a in c.related.ensures ∙ ap (λ (y : ℕ). alike y c.args.x) (c.newest_or-seen.ensures ∙ ap₂ (λ (xs : List ℕ) (y : ℕ). newest_or (newest_waiting xs) y) c.queue_at.ensures.0 (c.value_in.ensures (room w) (omega (arith, z.0)) (omega (arith, z.1)) ∙ ap (λ (i : ℕ). get_or (message (configuration_of c.args.cube).memory.channel i).snapshot c.args.v 0) e))
