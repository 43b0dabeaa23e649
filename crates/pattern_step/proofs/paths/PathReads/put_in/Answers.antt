use mathlib.Core.Path.{◌≡◌, refl, ◌∙◌}
use native.Mathlib.Omega.{arith}
use Rattle.std.proofs.Common.{rules}
use lib.ListN.{length}
use Rattle.pattern_step.specs.Meaning.{no_read}
use Rattle.pattern_step.proofs.PathLaws.{copied, shift_end, shift_fine}
use Rattle.pattern_step.proofs.paths.PathReads.put_in.Goals as goal

pub returns : goal.returns
returns c l m =
    let f : length c.args.self.reads ≡ 17 = search rules in
    let w = copied no_read (c.copy_within.ensures.len ∙ f) c.copy_within.ensures.by_index.0 c.copy_within.ensures.by_index.1 (omega arith) in
    record {
      reads = shift_end no_read c.args.read c.args.self.count f w (omega (arith, c.from-n.ensures)) m l;
      count = refl;
      fine = λ z v j k. shift_fine no_read c.args.read c.args.self.count w (omega (arith, c.from-n.ensures)) m l z v j k;
    }
