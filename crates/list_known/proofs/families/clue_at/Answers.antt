use mathlib.Core.Path.{sym, ap, ◌∙◌}
use Rattle.list_known.specs.FamilyTable.{clue_of}
use Rattle.list_known.proofs.ClueLaws.{clue_none, clue_some}
use Rattle.list_known.proofs.families.clue_at.Goals as goal

pub returns-then-number-eq0 : goal.returns-then-number-eq0
returns-then-number-eq0 c = clue_none ∙ sym (ap clue_of c.if-number-eq0.true)

pub returns : goal.returns
returns c = clue_some c.args.number c.if-number-eq0.false
