use borrow.Author.Rules.{rules}
use Prim.Native.Nat.{◌<◌}
use Rattle.machine_pws.specs.declared.Step.TheVariants.{Update}
use Rattle.file_contents.specs.Cube.{configuration_of}
use Rattle.list_closing.specs.Closing.{program_in, entries_in}
use Rattle.list_closing.specs.Walk.{step_held}
use Rattle.list_closing.proofs.WalkLaws.{lowest_least}
use Rattle.list_closing.proofs.UpdateLaws.{update_absent}
use native.Mathlib.Omega.{arith}
use Rattle.list_closing.proofs.open_update.Goals as goal

pub returns-clause-lowest : goal.returns-clause-lowest
returns-clause-lowest c = λ E. lowest_least (omega (arith, c.min.ensures)) (λ p a b. update_absent c.args.closing.now.code.now c.args.closing.now.listing.file.now c.args.closing.now.listing.offsets.now c.args.closing.now.listing.count c.args.closing.now.program c.args.entry.now.cube p (omega (arith, c.min.ensures))) _ (c.lowest_failing.ensures.lowest (λ j. step_held (program_in c.args.closing.now) (entries_in c.args.closing.now) (configuration_of c.args.entry.now.cube) (Update j)) (λ p r l h. let b : p < c.args.closing.now.program.shape.processes = omega (arith, l, c.min.ensures) in search rules))
