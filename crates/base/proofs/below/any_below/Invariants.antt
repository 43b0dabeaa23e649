use Rattle.std.proofs.Common.{◌≡◌, ℕ, Bool, false, ◌<◌, ◌-◌}
use Rattle.base.proofs.Tests.{Each}
use Rattle.base.proofs.below.any_below.Given as goal

abbrev pub invariant-loop-p : goal.invariant-loop-p
invariant-loop-p g l = (f : ℕ → Bool) → ((p : ℕ) (r : Bool) → p < l.n → goal.F-post g l.test p r → r ≡ f p) → Each f false l.n l.p

abbrev pub decreases-loop-p : goal.decreases-loop-p
decreases-loop-p g l = l.n - l.p
