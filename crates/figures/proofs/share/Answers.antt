use mathlib.Core.Path.{sym, ◌∙◌}
use borrow.Author.Tests.{ne_eqb}
use native.Mathlib.Omega.{arith}
use Rattle.figures.specs.Collections.{plausible, share_of}
use Rattle.figures.proofs.Bounds.{figure_refused, figure_allowed}
use Rattle.figures.proofs.share.Goals as goal

pub returns-in-Some : goal.returns-in-Some
unfolding share_of
returns-in-Some c = c.refused.ensures ∙ figure_refused (plausible c.args.c) c.args.c.results _ _ _ (sym c.refusal.ensures ∙ c.in-Some.is)

pub reduced-requires : goal.reduced-requires
reduced-requires c = (figure_allowed (plausible c.args.c) c.args.c.results (sym c.refusal.ensures ∙ c.in-None.is)).1

pub returns-in-None : goal.returns-in-None
unfolding share_of
returns-in-None c =
    let d = figure_allowed (plausible c.args.c) c.args.c.results (sym c.refusal.ensures ∙ c.in-None.is) in
    rw (d.0, ne_eqb c.args.c.results 0 (λ e. omega (arith, e, d.1))) c.reduced.ensures
