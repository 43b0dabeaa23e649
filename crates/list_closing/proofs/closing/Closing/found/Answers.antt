use mathlib.Core.Path.{◌∙◌}
use Rattle.list_closing.proofs.FamilyLaws.{found_held}
use Rattle.list_closing.proofs.closing.Closing.found.Goals as goal

pub returns-then-in_full_family : goal.returns-then-in_full_family
returns-then-in_full_family c F Z = let full = c.if-in_full_family.true in full ∙ found_held _ _ _ _ _ _ c.args.cube (c.in_full_family.ensures full) F Z
