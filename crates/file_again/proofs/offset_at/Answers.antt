use Prim.Native.Nat.{◌*◌}
use mathlib.Core.Path.{sym, ap, ◌∙◌}
use native.Mathlib.Omega.{arith}
use Rattle.base.specs.Bytes.{le32}
use Rattle.base.proofs.ByteLaws.{le32_past}
use Rattle.file_again.proofs.offset_at.Goals as goal

pub returns-then-list-i : goal.returns-then-list-i
returns-then-list-i c = sym (le32_past c.args.list.now (4 * c.args.i) (omega arith))

pub returns : goal.returns
returns c = c.number_at.ensures ∙ ap (le32 c.args.list.now) (omega (arith, c.word_place.ensures))
