use borrow.Author.Tests.{le-leb, lt-leb}
use native.Mathlib.Omega.{arith}
use Rattle.base.specs.Bytes.{byte}
use Rattle.drawing.specs.Reading.{is_small}
use Rattle.drawing.proofs.label.is_small.Goals as goal

pub returns-in-48-to-51 : goal.returns-in-48-to-51
unfolding is_small
returns-in-48-to-51 c = let b = byte c.args.text.now c.args.at in rw (le-leb 48 b (omega arith), le-leb b 51 (omega arith))

pub returns-in_default : goal.returns-in_default
unfolding is_small
returns-in_default c = let b = byte c.args.text.now c.args.at in rw (lt-leb 48 b (omega arith))

pub returns-in_default-2 : goal.returns-in_default-2
unfolding is_small
returns-in_default-2 c = let b = byte c.args.text.now c.args.at in rw (le-leb 48 b (omega arith), lt-leb b 51 (omega arith))
