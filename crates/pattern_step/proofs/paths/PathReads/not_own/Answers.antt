use mathlib.Core.Path.{◌≡◌, refl}
use mathlib.Core.Bool.{false}
use native.Mathlib.Omega.{arith}
use Rattle.std.proofs.Common.{rules}
use lib.ListN.{length, get_or}
use Rattle.pattern_step.specs.Meaning.{no_read, path_of}
use Rattle.pattern_step.proofs.PathLaws.{not_own_past, not_own_reads, fine_set}
use Rattle.pattern_step.proofs.paths.PathReads.not_own.Goals as goal

pub returns-then-at-len : goal.returns-then-at-len
returns-then-at-len c =
    let f : length c.args.self.reads ≡ 17 = search rules in (
      not_own_reads c.args.self.count c.args.at c.args.self.reads (get_or c.args.self.reads c.args.at no_read) (omega (arith, c.len.ensures.count)) (omega (arith, c.len.ensures.count)) refl,
      refl,
      λ w.
          let v = w c.args.at (omega (arith, c.len.ensures.count)) in
          fine_set c.args.self.count c.args.at c.args.self.reads
          (record { variable = (get_or c.args.self.reads c.args.at no_read).variable; value = (get_or c.args.self.reads c.args.at no_read).value; own = false })
          (omega (arith, c.len.ensures.count)) (record { variable = v.variable; value = v.value }) w,
    )

pub returns-else-at-len : goal.returns-else-at-len
returns-else-at-len c = (not_own_past c.args.at (path_of c.args.self) (omega (arith, c.len.ensures.reads)), refl, λ w. w)
