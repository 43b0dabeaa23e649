use Rattle.std.proofs.Common.{◌≡◌, ℕ, Bool, true, ◌<◌}
use Rattle.base.proofs.Tests.{Each}
use Rattle.list_closing.proofs.lowest.lowest_failing.Given as goal

abbrev pub invariant-loop-p : goal.invariant-loop-p
invariant-loop-p g l = (f : ℕ → Bool) → ((p : ℕ) (r : Bool) → p < l.n → goal.F-post g l.test p r → r ≡ f p) → Each f true l.n l.p
