use borrow.Author.Rules.{rules}
use Prim.Native.Nat.{◌<◌, ℕ}
use mathlib.Core.Path.{◌≡◌, ap, ap₂, ◌∙◌}
use mathlib.Core.Bool.{true, cond}
use lib.Dec.{ltb}
use Rattle.machine_pws.specs.Machine.{all_below, last_write}
use Rattle.list_theory.specs.Predecessors.{without_newest, inside}
use Rattle.list_theory.specs.Decision.{held}
use Rattle.file_records.specs.ProgramPart.{shape_of}
use Rattle.file_contents.specs.Cube.{configuration_of}
use Rattle.list_before.specs.Before.{serialise_before}
use Rattle.list_closing.specs.Closing.{entries_in}
use native.Mathlib.Omega.{arith}
use Rattle.list_closing.proofs.serialise.insides_held.Goals as goal

pub returns : goal.returns
returns c = λ E Z u. let e : c.older_write-last.result ≡ last_write (without_newest (configuration_of c.args.entry.now.cube).memory) c.args.p c.args.v = c.older_write-last.ensures c.args.closing.now.program.shape Z.walkable.stepping.sound ∙ ap₂ (last_write (without_newest (configuration_of c.args.entry.now.cube).memory)) c.from.ensures c.from-2.ensures in let m : c.min.result ≡ c.args.entry.now.cube.count = omega (arith, c.min.ensures, Z.walkable.stepping.sound.count) in c.all_below.ensures (λ k. cond (ltb (last_write (without_newest (configuration_of c.args.entry.now.cube).memory) c.args.p c.args.v) k) (held (shape_of c.args.closing.now.program.shape) (entries_in c.args.closing.now) (serialise_before (shape_of c.args.closing.now.program.shape) (configuration_of c.args.entry.now.cube) c.args.p c.args.v (inside k))) true) (λ k r l h. (let b : k < c.args.entry.now.cube.count = omega (arith, l, c.min.ensures) in search rules) ∙ ap (λ (w : ℕ). cond (ltb w k) (held (shape_of c.args.closing.now.program.shape) (entries_in c.args.closing.now) (serialise_before (shape_of c.args.closing.now.program.shape) (configuration_of c.args.entry.now.cube) c.args.p c.args.v (inside k))) true) e) ∙ ap (λ (n : ℕ). all_below n (λ k. cond (ltb (last_write (without_newest (configuration_of c.args.entry.now.cube).memory) c.args.p c.args.v) k) (held (shape_of c.args.closing.now.program.shape) (entries_in c.args.closing.now) (serialise_before (shape_of c.args.closing.now.program.shape) (configuration_of c.args.entry.now.cube) c.args.p c.args.v (inside k))) true)) m
