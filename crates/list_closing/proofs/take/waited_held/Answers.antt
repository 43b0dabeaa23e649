use mathlib.Core.Bool.{not}
use mathlib.Core.Path.{sym, ap, ◌∙◌}
use Rattle.list_before.proofs.CubeLaws.{cube_is}
use Rattle.list_closing.proofs.TakeLaws.{process_exists, plain_none, plain_held}
use Rattle.list_closing.proofs.take.waited_held.Goals as goal

pub returns-then-not-may : goal.returns-then-not-may
returns-then-not-may c = λ o N E j A. ap not c.if-not-may.true ∙ plain_none _ _ _ _ _ _ _ E.walkable j _ _ o A c.args.may N.kinds c.if-not-may.true

pub returns-else-not-may : goal.returns-else-not-may
returns-else-not-may c = λ o N E j A. plain_held _ _ _ _ _ _ _ E.walkable j _ _ o A c.args.may N.kinds c.if-not-may.false (cube_is (sym N.before) (c.before_nop.ensures c.args.closing.now.program.shape E.walkable.stepping.sound (process_exists _ _ _ _ _ _ _ E.walkable j _ _ o A))) (c.found.ensures E.families)
