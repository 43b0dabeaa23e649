use Prim.Native.Nat.{ℕ, ◌<◌}
use mathlib.Core.Path.{◌≡◌, ap, ◌∙◌}
use lib.ListN.{length, get_or}
use Rattle.machine_pws.specs.Machine.{put}
use Rattle.file_contents.proofs.CubeParts.{four_put}
use Rattle.list_before.proofs.CubeLaws.{few, low, sound_cube}
use Rattle.list_cube.proofs.MessageLaws.{inserted_cube}
use native.Mathlib.Omega.{arith}
use borrow.Author.Rules.{rules}
use Rattle.list_before.proofs.update.before_update_pointed.Goals as goal

pub returns-then-p-ge4 : goal.returns-then-p-ge4
returns-then-p-ge4 c = λ w a. absurd (omega (arith, c.if-p-ge4.true, few w c.args.p a))

pub returns : goal.returns
returns c = λ w a. let k = few w c.args.p a in let n : length c.raised-moved.result ≡ 4 = search rules in let l : c.args.cube.count < 20 = omega (arith, w.count) in inserted_cube (sound_cube w) (rw c.any_message.ensures at (c.inserted.ensures (w.pointer c.args.p a) (omega (arith, w.pointers c.args.p k)) l)) (four_put c.raised-moved.result c.args.p (get_or c.args.cube.pointers c.args.p 0) (omega arith) ∙ ap (λ (f : ℕ → ℕ). put f c.args.p (get_or c.args.cube.pointers c.args.p 0)) (c.raised-moved.ensures (low w) (w.pointer c.args.p a))) l
