use Prim.Native.Nat.{ℕ, ◌+◌, ◌*◌, ◌-◌, ◌%◌, ◌≤◌}
use mathlib.Core.Path.{◌≡◌}
use native.Mathlib.Omega.{arith}
use Rattle.judge.proofs.SummaryLaws.{slots_cleared_lem}
use native.Mathlib.Omega.{arith}
use Rattle.judge.proofs.clear_slots.Goals as goal

span : (at n r : ℕ) → n ≤ 524288 → r ≡ (8 * n) % 18446744073709551616 → at + r - at ≡ 8 * n
span at n r l e = let d : r ≡ 8 * n = omega arith in omega (arith, d)

pub returns : goal.returns
returns c = slots_cleared_lem c.args.upper.now _ c.args.at c.args.n (c.args.at + c.slot_place.result - c.args.at) (span c.args.at c.args.n c.slot_place.result c.requires.1 c.slot_place.ensures) (omega (arith, c.requires.0, c.requires.2)) c.clear.ensures
