use native.Mathlib.Omega.{arith}
use Rattle.pattern_step.proofs.PathLaws.{cut_reads}
use Rattle.pattern_step.proofs.paths.PathReads.cut.Goals as goal

pub returns : goal.returns
returns c = (cut_reads c.args.self.count c.args.at c.args.self.reads (omega (arith, c.len.ensures.count)), omega (arith, c.len.ensures.count), λ w i l. w i (omega (arith, c.len.ensures.count)))
