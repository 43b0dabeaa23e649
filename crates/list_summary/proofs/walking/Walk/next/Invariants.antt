use Prim.Native.Nat.{min}
use mathlib.Core.Path.{◌≡◌}
use Rattle.list_summary.proofs.OnwardLaws.{Passing}
use Rattle.list_summary.proofs.walking.Walk.next.Given as goal

abbrev pub invariant-loop-i : goal.invariant-loop-i
invariant-loop-i l =
    Passing l.listing.file.now l.listing.offsets.now l.listing.summary.now l.listing.count l.listing.shape l.fn.self.states l.fn.self.number
    (min l.fn.self.below l.listing.count) l.fn.self.link l.fn.self.led l.self.below l.self.link
    × (l.self.states ≡ l.fn.self.states) × (l.self.number ≡ l.fn.self.number) × (l.self.led ≡ l.fn.self.led)

abbrev pub decreases-loop-i : goal.decreases-loop-i
decreases-loop-i l = l.self.below
