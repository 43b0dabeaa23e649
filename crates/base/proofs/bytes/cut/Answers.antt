use Prim.Native.Nat.{◌-◌}
use mathlib.Core.Path.{sym}
use native.Mathlib.Omega.{arith}
use lib.ListN.{length}
use borrow.Author.Rules.{rules}
use borrow.Author.Tests.{le-leb}
use Rattle.base.specs.Bytes.{cut}
use Rattle.base.proofs.bytes.cut.Goals as goal

pub returns-then-s-at : goal.returns-then-s-at
unfolding cut
returns-then-s-at c = sym (le-leb (length c.args.s.now - c.args.at) c.args.body (omega arith))

pub returns : goal.returns
unfolding cut
returns c = search rules
