use borrow.Author.Rules.{rules}
use mathlib.Core.Path.{subst}
use Prim.Native.Nat.{ℕ, ◌<◌}
use Rattle.machine_pws.specs.declared.Step.TheVariants.{Take}
use Rattle.file_contents.specs.Cube.{configuration_of}
use Rattle.list_closing.specs.Closing.{program_in, entries_in}
use Rattle.list_closing.specs.Walk.{step_held, LowestFailing}
use native.Mathlib.Omega.{arith}
use Rattle.list_closing.proofs.open_take.Goals as goal

pub returns : goal.returns
returns c = λ E. subst (λ (n : ℕ). LowestFailing (λ j. step_held (program_in c.args.closing.now) (entries_in c.args.closing.now) (configuration_of c.args.entry.now.cube) (Take j)) n c.lowest_failing.result) c.min.ensures (c.lowest_failing.ensures.lowest (λ j. step_held (program_in c.args.closing.now) (entries_in c.args.closing.now) (configuration_of c.args.entry.now.cube) (Take j)) (λ j r l h. let b : j < c.args.closing.now.program.transitions.count = omega (arith, l, c.min.ensures) in search rules))
