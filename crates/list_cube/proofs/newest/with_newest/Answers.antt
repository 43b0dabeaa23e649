use Prim.Native.Nat.{suc, ◌-◌}
use mathlib.Core.Path.{◌≡◌}
use Rattle.list_cube.proofs.NewestLaws.{newest_put}
use Rattle.list_key.proofs.ValueLaws.{length_mapped}
use native.Mathlib.Omega.{arith}
use borrow.Author.Rules.{rules}
use Rattle.list_cube.proofs.newest.with_newest.Goals as goal

pub returns-then-n-le20 : goal.returns-then-n-le20
returns-then-n-le20 c = λ a b. let e : c.args.cube.count ≡ suc (c.args.cube.count - 1) = omega arith in newest_put c.args.cube.messages (c.args.cube.count - 1) c.args.cube.count c.args.message e b (search (rules, length_mapped))
