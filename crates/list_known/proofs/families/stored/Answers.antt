use Prim.Native.Nat.{ℕ, ◌+◌, ◌*◌}
use mathlib.Core.Path.{sym, ap, ◌∙◌}
use native.Mathlib.Omega.{arith}
use Rattle.list_known.specs.FamilyTable.{clue_of, asked}
use Rattle.list_known.proofs.ClueLaws.{clue_none, clue_stored}
use Rattle.list_known.proofs.families.stored.Goals as goal

pub returns-in-Newest : goal.returns-in-Newest
returns-in-Newest c = (omega arith, sym clue_none ∙ sym (ap asked c.in-Newest.is))

pub returns-else-value-ge4 : goal.returns-else-value-ge4
returns-else-value-ge4 c = (
  omega (arith, c.from.ensures, c.if-process-ge4.false, c.if-variable-ge4.false, c.if-value-ge4.false),
  ap (λ (y : ℕ). clue_of (1 + y + 4 * (c.in-Sees.variable + 4 * c.in-Sees.process))) c.from.ensures
      ∙ clue_stored c.in-Sees.process c.in-Sees.variable c.in-Sees.value c.if-process-ge4.false c.if-variable-ge4.false c.if-value-ge4.false
      ∙ sym (ap asked c.in-Sees.is),
)
