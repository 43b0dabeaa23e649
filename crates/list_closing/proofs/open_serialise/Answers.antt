use Prim.Native.Nat.{◌+◌, ◌*◌, ◌/◌, ◌%◌}
use mathlib.Core.Path.{◌≡◌, sym, ap, subst, ◌∙◌}
use mathlib.Core.Bool.{Bool, true, cond}
use Rattle.machine_pws.specs.declared.Step.TheVariants.{Serialise}
use Rattle.machine_pws.specs.Machine.{labelled}
use Rattle.list_theory.specs.Cubes.{topmost}
use Rattle.file_contents.specs.Cube.{configuration_of}
use Rattle.list_closing.specs.Closing.{program_in, entries_in}
use Rattle.list_closing.specs.Walk.{step_held, FailsFirst}
use Rattle.list_closing.proofs.StepLaws.{cond_same}
use Rattle.list_closing.proofs.SerialiseLaws.{serialise_lowest}
use native.Mathlib.Omega.{arith}
use Rattle.list_closing.proofs.open_serialise.Goals as goal

pub returns-then-serialised_held-clause-lowest : goal.returns-then-serialised_held-clause-lowest
returns-then-serialised_held-clause-lowest c = λ E i l. c.serialised_held.ensures E (i / 4) (i % 4) ∙ ap (λ (h : Bool). cond (labelled (topmost (configuration_of c.args.entry.now.cube).memory.channel) (i / 4) (i % 4)) h true) c.if-serialised_held.true ∙ sym (cond_same (labelled (topmost (configuration_of c.args.entry.now.cube).memory.channel) (i / 4) (i % 4)))

pub returns-clause-lowest : goal.returns-clause-lowest
returns-clause-lowest c = λ E. let e : 4 * c.newest-message.result.process + c.newest-message.result.variable ≡ 4 * c.from.result + c.from-2.result = omega (arith, c.from.ensures, c.from-2.ensures) in subst (FailsFirst (λ i. step_held (program_in c.args.closing.now) (entries_in c.args.closing.now) (configuration_of c.args.entry.now.cube) (Serialise (i / 4) (i % 4))) 16) e (serialise_lowest _ _ _ _ _ _ _ E.walkable c.newest-message.result (c.newest-message.ensures c.args.closing.now.program.shape E.walkable.stepping.sound) (λ p v. c.serialised_held.ensures E p v ∙ ap (λ (h : Bool). cond (labelled (topmost (configuration_of c.args.entry.now.cube).memory.channel) p v) h true) c.if-serialised_held.false))
