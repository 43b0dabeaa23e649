use lib.ListN.{length}
use mathlib.Core.Path.{◌≡◌, ◌∙◌}
use native.Mathlib.Omega.{arith}
use borrow.Author.Rules.{rules}
use Rattle.std.proofs.lemmas.Slice.{put_mid-paste}
use Rattle.run_layout.proofs.ByteLaws.{put_copied}
use Rattle.run_layout.proofs.area.put_snapshot.Goals as goal

pub returns-then-at-lower : goal.returns-then-at-lower
returns-then-at-lower c =
    let four : length c.args.snapshot ≡ 4 = search rules in
    rw c.from-at.ensures
    (put_mid-paste _ _ _ _ c.args.snapshot 4 c.copy_from_slice.ensures.after (omega arith) (omega (arith, four))
    ∙ put_copied c.args.lower.now c.args.i c.args.snapshot (omega (arith, c.from-at.ensures, c.if-at-lower.true)) four)
