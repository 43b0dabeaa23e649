use mathlib.Core.Bool.{not}
use mathlib.Core.Path.{refl, sym, ◌∙◌, ap}
use Rattle.machine_pws.specs.declared.Operation.TheVariants.{Read}
use Rattle.machine_pws.specs.Machine.{sees}
use Rattle.list_theory.specs.Values.{alike}
use Rattle.file_contents.specs.Cube.{configuration_of}
use Rattle.list_cube.proofs.MessageLaws.{all_messages}
use Rattle.list_closing.proofs.TakeLaws.{process_exists, operation_exists, plain_none, plain_held}
use Rattle.list_closing.proofs.take.read_held.Goals as goal

pub returns-then-not-may_read : goal.returns-then-not-may_read
returns-then-not-may_read c = λ E j A. ap not c.if-not-may_read.true ∙ plain_none _ _ _ _ _ _ _ E.walkable j _ _ (Read c.args.v c.args.x) A (alike (sees (configuration_of c.args.entry.now.cube) c.args.p c.args.v) c.args.x) (λ k. refl) (sym (c.may_read.ensures c.args.closing.now.program.shape E.walkable.stepping.sound (all_messages E.walkable.stepping.sound c.args.entry.now.writes c.args.entry.now.last) (process_exists _ _ _ _ _ _ _ E.walkable j _ _ (Read c.args.v c.args.x) A) (operation_exists _ _ _ _ _ _ _ E.walkable j _ _ (Read c.args.v c.args.x) A).0) ∙ c.if-not-may_read.true)

pub returns-else-not-may_read : goal.returns-else-not-may_read
returns-else-not-may_read c = λ E j A. plain_held _ _ _ _ _ _ _ E.walkable j _ _ (Read c.args.v c.args.x) A (alike (sees (configuration_of c.args.entry.now.cube) c.args.p c.args.v) c.args.x) (λ k. refl) (sym (c.may_read.ensures c.args.closing.now.program.shape E.walkable.stepping.sound (all_messages E.walkable.stepping.sound c.args.entry.now.writes c.args.entry.now.last) (process_exists _ _ _ _ _ _ _ E.walkable j _ _ (Read c.args.v c.args.x) A) (operation_exists _ _ _ _ _ _ _ E.walkable j _ _ (Read c.args.v c.args.x) A).0) ∙ c.if-not-may_read.false) (c.before_read.ensures c.args.closing.now.program.shape E.walkable.stepping.sound (all_messages E.walkable.stepping.sound c.args.entry.now.writes c.args.entry.now.last) (process_exists _ _ _ _ _ _ _ E.walkable j _ _ (Read c.args.v c.args.x) A) (operation_exists _ _ _ _ _ _ _ E.walkable j _ _ (Read c.args.v c.args.x) A).0) (c.found.ensures E.families)
