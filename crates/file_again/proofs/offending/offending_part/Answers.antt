use mathlib.Core.Path.{sym, ap, ◌∙◌}
use mathlib.Core.Bool.{Bool, ◌||◌}
use lib.Dec.{eqb}
use Rattle.file_again.specs.Offending.{part_said_by}
use Rattle.file_again.proofs.offending.offending_part.Goals as goal

pub returns-then-either : goal.returns-then-either
unfolding part_said_by
returns-then-either c = rw (sym (ap (λ (b : Bool). b || eqb c.args.number 6) c.is_of_record.ensures) ∙ sym c.either.ensures ∙ c.if-either.true)

pub returns : goal.returns
unfolding part_said_by
returns c = rw (sym (ap (λ (b : Bool). b || eqb c.args.number 6) c.is_of_record.ensures) ∙ sym c.either.ensures ∙ c.if-either.false)
