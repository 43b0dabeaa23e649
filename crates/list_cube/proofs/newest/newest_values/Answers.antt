use native.Mathlib.Omega.{arith}
use Rattle.list_cube.proofs.NewestLaws.{values_none, values_some}
use Rattle.list_cube.proofs.newest.newest_values.Goals as goal

pub returns-then-n-eq0 : goal.returns-then-n-eq0
returns-then-n-eq0 c = values_none c.args.cube (λ u. omega (arith, c.then-n-eq0.either))

pub returns : goal.returns
returns c = values_some c.args.cube (omega arith) (omega arith)
