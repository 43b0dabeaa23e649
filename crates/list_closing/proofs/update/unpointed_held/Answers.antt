use Rattle.list_closing.proofs.UpdateLaws.{undone_absent, undone_there}
use native.Mathlib.Omega.{arith}
use Rattle.list_closing.proofs.update.unpointed_held.Goals as goal

pub returns-then-at_or-lt2 : goal.returns-then-at_or-lt2
returns-then-at_or-lt2 c = λ E l. undone_absent _ _ _ _ _ _ _ E.walkable c.args.p l (omega (arith, c.at_or.ensures, c.if-at_or-lt2.true))

pub returns : goal.returns
returns c = λ E l. undone_there _ _ _ _ _ _ _ E.walkable c.args.p l (omega (arith, c.at_or.ensures, c.if-at_or-lt2.false)) (c.before_update.ensures c.args.closing.now.program.shape E.walkable.stepping.sound l) c.search.ensures
