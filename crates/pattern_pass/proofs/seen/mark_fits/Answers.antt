use borrow.Author.Tests.{eq-eqb, ne_eqb}
use Rattle.pattern_pass.specs.Seen.{mark_fits_seen}
use Rattle.pattern_pass.proofs.seen.mark_fits.Goals as goal

pub returns-then-mark-eq0 : goal.returns-then-mark-eq0
unfolding mark_fits_seen
returns-then-mark-eq0 c = rw (eq-eqb c.args.mark 0 c.if-mark-eq0.true)

pub returns-then-mark-eq1 : goal.returns-then-mark-eq1
unfolding mark_fits_seen
returns-then-mark-eq1 c = rw (ne_eqb c.args.mark 0 c.if-mark-eq0.false, eq-eqb c.args.mark 1 c.if-mark-eq1.true)

pub returns : goal.returns
unfolding mark_fits_seen
returns c = rw (ne_eqb c.args.mark 0 c.if-mark-eq0.false, ne_eqb c.args.mark 1 c.if-mark-eq1.false)
