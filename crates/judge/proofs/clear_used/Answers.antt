use mathlib.Core.Path.{sym}
use lib.Seq.{length-take-le}
use Rattle.verdict.proofs.AreaLaws.{front_cleared}
use Rattle.judge.proofs.clear_used.Goals as goal

pub slice_bounds-clear-end-2 : goal.slice_bounds-clear-end-2
slice_bounds-clear-end-2 c = sym (length-take-le c.args.n c.args.work.now c.requires)

pub returns : goal.returns
returns c = front_cleared c.args.n c.args.work.now _ c.requires c.clear.ensures
