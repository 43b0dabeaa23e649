use Rattle.drawing.proofs.PutLaws.{put_as}
use Rattle.drawing.proofs.NumberLaws.{decimal_one, decimal_two, decimal_three, decimal_four}
use lib.ListN.{length}
use mathlib.Core.Path.{ap}
use native.Mathlib.Omega.{arith}
use Rattle.drawing.proofs.put.put_number.Goals as goal

pub put-requires : goal.put-requires
put-requires c = let n = c.args.n in omega (arith, ap length (decimal_one n c.if-n-lt10.true), c.requires.1)

pub returns-then-n-lt10 : goal.returns-then-n-lt10
returns-then-n-lt10 c = let n = c.args.n in put_as c.put.ensures (rw (decimal_one n c.if-n-lt10.true, c.digit.ensures))

pub put-requires-then-n-lt100 : goal.put-requires-then-n-lt100
put-requires-then-n-lt100 c = let n = c.args.n in omega (arith, ap length (decimal_two n c.if-n-lt10.false c.if-n-lt100.true), c.requires.1)

pub returns-then-n-lt100 : goal.returns-then-n-lt100
returns-then-n-lt100 c = let n = c.args.n in put_as c.put-then-n-lt100.ensures (rw (decimal_two n c.if-n-lt10.false c.if-n-lt100.true, c.digit-then-n-lt100.ensures, c.digit-then-n-lt100-2.ensures))

pub put-requires-then-n-lt1000 : goal.put-requires-then-n-lt1000
put-requires-then-n-lt1000 c = let n = c.args.n in omega (arith, ap length (decimal_three n c.if-n-lt100.false c.if-n-lt1000.true), c.requires.1)

pub returns-then-n-lt1000 : goal.returns-then-n-lt1000
returns-then-n-lt1000 c = let n = c.args.n in put_as c.put-then-n-lt1000.ensures (rw (decimal_three n c.if-n-lt100.false c.if-n-lt1000.true, c.digit-then-n-lt1000.ensures, c.digit-then-n-lt1000-2.ensures, c.digit-then-n-lt1000-3.ensures))

pub put-requires-2 : goal.put-requires-2
put-requires-2 c = let n = c.args.n in omega (arith, ap length (decimal_four n c.if-n-lt1000.false c.requires.0), c.requires.1)

pub returns : goal.returns
returns c = let n = c.args.n in put_as c.put-2.ensures (rw (decimal_four n c.if-n-lt1000.false c.requires.0, c.digit-2.ensures, c.digit-3.ensures, c.digit-4.ensures, c.digit-5.ensures))
