use Prim.Native.Nat.{◌-◌}
use mathlib.Core.Bool.{false}
use Rattle.base.proofs.Tests.{Each}
use Rattle.list_cover.specs.Places.{is_free, place_at}
use Rattle.list_cover.proofs.place.first_free.Given as goal

abbrev pub invariant-loop-k : goal.invariant-loop-k
invariant-loop-k l = Each (λ k. is_free l.shape l.cube (place_at k)) false 224 l.k

abbrev pub decreases-loop-k : goal.decreases-loop-k
decreases-loop-k l = 224 - l.k
