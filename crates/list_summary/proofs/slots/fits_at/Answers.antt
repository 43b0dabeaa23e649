use Rattle.list_summary.proofs.SlotLaws.{fits_tested}
use Rattle.list_summary.proofs.slots.fits_at.Goals as goal

pub returns : goal.returns
returns c = fits_tested c.args.sum.now c.args.k c.args.bits c.field_at.ensures.value
