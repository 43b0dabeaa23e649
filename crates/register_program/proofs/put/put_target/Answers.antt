use native.Mathlib.Omega.{arith}
use Rattle.drawing.proofs.PutLaws.{put_as}
use Rattle.register_program.specs.Parts.{chosen}
use Rattle.register_program.proofs.put.put_target.Goals as goal

pub pair-a-requires : goal.pair-a-requires
unfolding chosen
pair-a-requires c = (omega (arith, c.requires.0 0), c.requires.1 0)

pub pair-b-requires : goal.pair-b-requires
unfolding chosen
pair-b-requires c = (omega (arith, c.requires.0 1), c.requires.1 1)

pub pair-c-requires : goal.pair-c-requires
unfolding chosen
pair-c-requires c = (omega (arith, c.requires.0 2), c.requires.1 2)

pub pair-d-requires : goal.pair-d-requires
unfolding chosen
pair-d-requires c = (omega (arith, c.requires.0 3), c.requires.1 3)

pub put-requires : goal.put-requires
unfolding chosen
put-requires c = omega (arith, c.requires.2)

pub returns : goal.returns
unfolding chosen
returns c = put_as c.put.ensures (rw (c.pair-d.ensures, c.pair-c.ensures, c.pair-b.ensures, c.pair-a.ensures))
