use native.Mathlib.Omega.{arith}
use Rattle.list_targets.proofs.SeenLaws.{value_cube, value_one}
use Rattle.list_targets.proofs.seen.value_held.Goals as goal

pub returns : goal.returns
returns c = value_one c.requires.0 c.args.i c.from-last.ensures c.if-number-last.false (value_cube c.requires.0 c.args.i (c.with_value_in.ensures (omega (arith, c.requires.0.room)) (omega arith) (omega (arith, c.requires.1)))) c.search.ensures.value
