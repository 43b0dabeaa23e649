use mathlib.Core.Path.{sym, ◌∙◌}
use native.Mathlib.Nat.{mul-pos}
use borrow.Author.Tests.{ne_eqb}
use native.Mathlib.Omega.{arith}
use Rattle.figures.specs.Collections.{plausible, variance_of}
use Rattle.figures.proofs.Bounds.{plausible_bounds, square_fits, product_fits, figure_refused, figure_allowed}
use Rattle.figures.proofs.variance.Goals as goal

pub returns-in-Some : goal.returns-in-Some
unfolding variance_of
returns-in-Some c = c.refused.ensures ∙ figure_refused (plausible c.args.c) c.args.c.safe _ _ _ (sym c.refusal.ensures ∙ c.in-Some.is)

pub overflow_mul-c : goal.overflow_mul-c
overflow_mul-c c =
    let b = plausible_bounds c.args.c (figure_allowed (plausible c.args.c) c.args.c.safe (sym c.refusal.ensures ∙ c.in-None.is)).0 in
    record { fits = product_fits _ _ (omega arith) (omega arith) }

pub overflow_mul-c-in-None : goal.overflow_mul-c-in-None
overflow_mul-c-in-None c =
    let b = plausible_bounds c.args.c (figure_allowed (plausible c.args.c) c.args.c.safe (sym c.refusal.ensures ∙ c.in-None.is)).0 in
    record { fits = square_fits _ (omega arith) }

pub overflow_sub-c : goal.overflow_sub-c
overflow_sub-c c = (plausible_bounds c.args.c (figure_allowed (plausible c.args.c) c.args.c.safe (sym c.refusal.ensures ∙ c.in-None.is)).0).difference

pub overflow_mul-c-in-None-2 : goal.overflow_mul-c-in-None-2
overflow_mul-c-in-None-2 c =
    let b = plausible_bounds c.args.c (figure_allowed (plausible c.args.c) c.args.c.safe (sym c.refusal.ensures ∙ c.in-None.is)).0 in
    record { fits = product_fits _ _ (omega arith) (omega arith) }

pub reduced-requires : goal.reduced-requires
reduced-requires c =
    let d = figure_allowed (plausible c.args.c) c.args.c.safe (sym c.refusal.ensures ∙ c.in-None.is) in
    mul-pos d.1 d.1

pub returns-in-None : goal.returns-in-None
unfolding variance_of
returns-in-None c =
    let d = figure_allowed (plausible c.args.c) c.args.c.safe (sym c.refusal.ensures ∙ c.in-None.is) in
    rw (d.0, ne_eqb c.args.c.safe 0 (λ e. omega (arith, e, d.1))) c.reduced.ensures
