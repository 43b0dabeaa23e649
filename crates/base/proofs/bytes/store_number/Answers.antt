use Prim.Native.Nat.{◌+◌}
use native.Mathlib.Omega.{arith}
use lib.ListN.{length, length-set}
use borrow.Author.Tests.{le-leb, lt-leb}
use Rattle.base.specs.Bytes.{put32}
use Rattle.base.proofs.bytes.store_number.Goals as goal

pub returns-then-s-lt4 : goal.returns-then-s-lt4
unfolding put32
returns-then-s-lt4 c = rw (lt-leb (c.args.at + 4) (length c.args.s.now) (omega arith))

pub returns-then-s-at : goal.returns-then-s-at
unfolding put32
returns-then-s-at c = rw (lt-leb (c.args.at + 4) (length c.args.s.now) (omega arith))

pub bounds-s-at-2 : goal.bounds-s-at-2
unfolding put32
bounds-s-at-2 c = simp length-set (omega arith)

pub bounds-s-at-3 : goal.bounds-s-at-3
unfolding put32
bounds-s-at-3 c = simp length-set (omega arith)

pub bounds-s-at-4 : goal.bounds-s-at-4
unfolding put32
bounds-s-at-4 c = simp length-set (omega arith)

pub shape_of-s : goal.shape_of-s
unfolding put32
shape_of-s c = simp length-set

pub returns : goal.returns
unfolding put32
returns c = rw (le-leb (c.args.at + 4) (length c.args.s.now) (omega arith))
