use Prim.Native.Nat.{◌-◌}
use lib.ListN.{length}
use Rattle.file_again.proofs.OffendingLaws.{end_empty}
use Rattle.file_again.proofs.offending.end_of.Goals as goal

pub returns : goal.returns
returns c = end_empty c.args.file.now (length c.args.file.now - length c.args.file.now)
