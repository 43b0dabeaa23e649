use Rattle.drawing.specs.Text.{letters}
use Rattle.drawing.proofs.PutLaws.{then_put, put_as}
use native.Mathlib.Omega.{arith}
use Rattle.drawing.proofs.put.put_letters.Goals as goal

pub put-next-requires : goal.put-next-requires
unfolding letters
put-next-requires c = let h = rw c.in-Take.is at c.requires.1 in omega (arith, h)

pub put_number-requires : goal.put_number-requires
unfolding letters
put_number-requires c = let h = rw c.in-Take.is at c.requires.1 in let g = rw c.in-Take.is at c.requires.0 in (omega (arith, g), omega (arith, h, c.put-next.ensures.after, c.put-next.auto.out))

pub put-requires : goal.put-requires
unfolding letters
put-requires c = let h = rw c.in-Serialise.is at c.requires.1 in omega (arith, h)

pub put-requires-in-Update : goal.put-requires-in-Update
unfolding letters
put-requires-in-Update c = let h = rw c.in-Update.is at c.requires.1 in omega (arith, h)

pub returns-in-Take : goal.returns-in-Take
unfolding letters
returns-in-Take c = rw c.in-Take.is (then_put c.put-next.ensures c.put_number.ensures)

pub returns-in-Serialise : goal.returns-in-Serialise
unfolding letters
returns-in-Serialise c = rw c.in-Serialise.is (put_as c.put.ensures (rw (c.digit.ensures, c.digit-in-Serialise.ensures)))

pub returns-in-Update : goal.returns-in-Update
unfolding letters
returns-in-Update c = rw c.in-Update.is (put_as c.put-in-Update.ensures (rw c.digit-in-Update.ensures))
