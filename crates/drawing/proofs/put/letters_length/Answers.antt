use Rattle.drawing.specs.Text.{letters}
use Rattle.drawing.proofs.NumberLaws.{decimal_short}
use native.Mathlib.Omega.{arith}
use Rattle.drawing.proofs.put.letters_length.Goals as goal

pub overflow_add-result : goal.overflow_add-result
overflow_add-result c = let h = rw c.in-Take.is at c.requires in omega (arith, c.number_length.ensures, decimal_short c.in-Take.transition (omega (arith, h)))

pub returns-in-Take : goal.returns-in-Take
unfolding letters
returns-in-Take c = rw c.in-Take.is (omega (arith, c.number_length.ensures))

pub returns-in-Serialise : goal.returns-in-Serialise
unfolding letters
returns-in-Serialise c = rw c.in-Serialise.is

pub returns-in-Update : goal.returns-in-Update
unfolding letters
returns-in-Update c = rw c.in-Update.is
