use Prim.Native.Nat.{suc, ◌-◌}
use mathlib.Core.Path.{◌≡◌}
use Rattle.list_cube.proofs.NewestLaws.{met_channel}
use Rattle.list_key.proofs.ValueLaws.{length_mapped}
use native.Mathlib.Omega.{arith}
use borrow.Author.Rules.{rules}
use Rattle.list_cube.proofs.newest.met_older.Goals as goal

pub returns-then-n-le20 : goal.returns-then-n-le20
returns-then-n-le20 c = λ a b. let e : c.args.cube.count ≡ suc (suc (c.args.cube.count - 2)) = omega arith in met_channel c.args.cube.messages c.args.values (c.args.cube.count - 2) c.args.cube.count c.met_with.result e b (search (rules, length_mapped)) c.met_with.ensures
