use mathlib.Core.Path.{◌≡◌}
use Rattle.list_key.specs.Tags.{lowest_below}
use Rattle.list_key.proofs.tags.lowest.Given as goal

abbrev pub invariant-loop-p : goal.invariant-loop-p
invariant-loop-p l = l.low ≡ lowest_below l.p l.pointers
