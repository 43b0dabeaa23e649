use Prim.Native.Nat.{ℕ, ◌*◌, ◌%◌, ◌<◌}
use mathlib.Core.Path.{◌≡◌}
use native.Mathlib.Omega.{arith}
use borrow.Author.Rules.{rules}
use Rattle.list_known.specs.FullStates.{place_of}
use Rattle.list_known.proofs.full.place_of.Goals as goal

shifted : (x : ℕ) → x < 256 → x * 32 % 18446744073709551616 ≡ 32 * x
shifted x l = omega arith

quarter : (x : ℕ) → x % 1024 * 4 % 18446744073709551616 ≡ 4 * (x % 1024)
quarter x = omega arith

pub returns : goal.returns
unfolding place_of
returns c =
    let few : c.from-b.result < 256 = search rules in
    (rw (quarter, shifted c.from-b.result few, c.third_place.ensures, c.fourth_place.ensures, c.from-a.ensures, c.from-b.ensures, c.from-c.ensures, c.from-d.ensures), rw quarter (omega arith))
