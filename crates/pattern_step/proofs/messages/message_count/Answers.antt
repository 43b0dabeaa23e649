use Prim.Native.Nat.{◌*◌}
use mathlib.Core.Path.{◌∙◌}
use native.Mathlib.Omega.{arith}
use Rattle.std.proofs.Common.{rules}
use lib.ListN.{get_or}
use Rattle.pattern_step.proofs.MessageLaws.{product_is, product_most, many_places, more_all}
use Rattle.pattern_step.proofs.messages.message_count.Goals as goal

pub overflow_mul-result-3 : goal.overflow_mul-result-3
overflow_mul-result-3 c =
    let a = (c.with_first.ensures 0 (omega arith)).1 in
    let b = (c.with_first.ensures 1 (omega arith)).1 in
    let d = (c.with_first.ensures 2 (omega arith)).1 in
    let e = (c.with_first.ensures 3 (omega arith)).1 in
    let two = product_most (get_or c.with_first.result 0 0) (get_or c.with_first.result 1 0) 256 256 a b in
    let three = product_most (get_or c.with_first.result 0 0 * get_or c.with_first.result 1 0) (get_or c.with_first.result 2 0) 65536 256 two d in
    omega (arith, product_most (get_or c.with_first.result 0 0 * get_or c.with_first.result 1 0 * get_or c.with_first.result 2 0) (get_or c.with_first.result 3 0) 16777216 256 three e)

pub returns : goal.returns
returns c k l e w =
    product_is (λ q. get_or c.more_places.result q 0) (get_or c.with_first.result 0 0) (get_or c.with_first.result 1 0) (get_or c.with_first.result 2 0) (get_or c.with_first.result 3 0)
    (c.with_first.ensures 0 (omega arith)).0 (c.with_first.ensures 1 (omega arith)).0 (c.with_first.ensures 2 (omega arith)).0 (c.with_first.ensures 3 (omega arith)).0
    ∙ many_places (more_all c.more_places.result (search rules) w c.more_places.ensures) w.processes
