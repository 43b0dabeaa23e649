use mathlib.Core.Bool.{not}
use mathlib.Core.Path.{sym, ◌∙◌, ap}
use Rattle.machine_pws.specs.declared.Operation.TheVariants.{Arw}
use Rattle.list_closing.proofs.TakeLaws.{process_exists, undone_absent, undone_there}
use Rattle.list_closing.proofs.take.unswapped_held.Goals as goal

pub returns-then-not-alike_before : goal.returns-then-not-alike_before
returns-then-not-alike_before c = λ E j x A z. ap not c.if-not-alike_before.true ∙ undone_absent _ _ _ _ _ _ _ E.walkable j _ _ _ _ x A (sym (c.alike_before.ensures c.args.closing.now.program.shape E.walkable.stepping.sound) ∙ c.if-not-alike_before.true)

pub returns-else-not-alike_before : goal.returns-else-not-alike_before
returns-else-not-alike_before c = λ E j x A z. let i = sym (c.alike_before.ensures c.args.closing.now.program.shape E.walkable.stepping.sound) ∙ c.if-not-alike_before.false in undone_there _ _ _ _ _ _ _ E.walkable j _ _ _ _ x A z i (c.before_arw.ensures c.args.closing.now.program.shape x E.walkable.stepping.sound (process_exists _ _ _ _ _ _ _ E.walkable j _ _ (Arw c.args.v c.args.old x) A) i) (c.found.ensures E.families)
