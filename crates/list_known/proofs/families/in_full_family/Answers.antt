use mathlib.Core.Path.{subst}
use native.Mathlib.Omega.{arith}
use Rattle.file_records.specs.ProgramPart.{shape_of}
use Rattle.file_contents.specs.Cube.{configuration_of}
use Rattle.list_theory.specs.Family.{Clue, Clued}
use Rattle.list_known.proofs.FamilyTable.{within_family, recorded_at}
use Rattle.list_known.proofs.families.in_full_family.Goals as goal

pub returns-then-clue_met : goal.returns-then-clue_met
returns-then-clue_met c e =
    recorded_at c.args.table.now c.args.listing.now.file.now c.args.listing.now.offsets.now c.args.listing.now.count c.args.listing.now.shape c.args.cube
    c.loop-at.at c.word_at-word.ensures.value c.word_at.ensures.value (omega (arith, c.loop-at-test.true, c.look_of-look.ensures)) c.if-x-eq0.false c.if-listing-x.false
    (λ few narrow. within_family c.args.listing.now.shape c.args.listing.now.file.now _ c.args.cube few narrow c.newest_values-values.ensures c.if-cube-eq0.false c.if-cube-gt20.false
    (c.in_family.ensures c.if-in_family.true))
    (λ e m. subst (λ (q : Clue). Clued (shape_of c.args.listing.now.shape) q e (configuration_of c.args.cube).memory) c.clue_at.ensures (c.clue_met.ensures c.if-clue_met.true e m))
