use Rattle.drawing.proofs.LineLaws.{head_length, head_parts}
use native.Mathlib.Numerals.{add-one}
use Rattle.drawing.specs.Text.{decimal}
use Rattle.drawing.proofs.PutLaws.{then_put, put_as}
use lib.ListN.{length}
use mathlib.Core.Path.{ap}
use Prim.Native.Nat.{ℕ}
use native.Mathlib.Omega.{arith}
use Rattle.drawing.proofs.put.put_head.Goals as goal

pub put-a-requires : goal.put-a-requires
put-a-requires c = omega (arith, c.requires.1, head_length c.args.k, ap (λ (m : ℕ). length (decimal m)) (add-one c.args.k))

pub put_number-b-requires : goal.put_number-b-requires
put_number-b-requires c = (omega (arith, c.requires.0), omega (arith, c.requires.1, head_length c.args.k, ap (λ (m : ℕ). length (decimal m)) (add-one c.args.k), c.put-a.ensures.after, c.put-a.auto.out))

pub put-c-requires : goal.put-c-requires
put-c-requires c = omega (arith, c.requires.1, head_length c.args.k, ap (λ (m : ℕ). length (decimal m)) (add-one c.args.k), c.put-a.ensures.after, c.put-a.auto.out, c.put_number-b.ensures.after, c.put_number-b.auto.out)

pub put_number-d-requires : goal.put_number-d-requires
put_number-d-requires c = (omega (arith, c.requires.0), omega (arith, c.requires.1, head_length c.args.k, ap (λ (m : ℕ). length (decimal m)) (add-one c.args.k), c.put-a.ensures.after, c.put-a.auto.out, c.put_number-b.ensures.after, c.put_number-b.auto.out, c.put-c.ensures.after, c.put-c.auto.out))

pub put-requires : goal.put-requires
put-requires c = omega (arith, c.requires.1, head_length c.args.k, ap (λ (m : ℕ). length (decimal m)) (add-one c.args.k), c.put-a.ensures.after, c.put-a.auto.out, c.put_number-b.ensures.after, c.put_number-b.auto.out, c.put-c.ensures.after, c.put-c.auto.out, c.put_number-d.ensures.after, c.put_number-d.auto.out)

pub returns : goal.returns
returns c = put_as (then_put (then_put (then_put (then_put c.put-a.ensures c.put_number-b.ensures) c.put-c.ensures) c.put_number-d.ensures) c.put.ensures) (head_parts c.args.k)
