use Prim.Native.Nat.{◌+◌, ◌-◌, ◌*◌}
use Rattle.list_targets.proofs.JudgeLaws.{EachHeld}
use Rattle.list_targets.proofs.ChannelSteps.{labelled_by, written_by}
use Rattle.list_targets.specs.Walk.{leaf_of}
use Rattle.list_targets.proofs.+choices_held_outlines_held.Given as goal

abbrev pub decreases-outlines_held : goal.decreases-outlines_held
decreases-outlines_held l = 6 * (l.most - l.sketch.count) + 5

abbrev pub decreases-choices_held : goal.decreases-choices_held
decreases-choices_held l = 6 * (l.most - l.sketch.count) + (4 - l.q)

abbrev pub invariant-outlines_held-loop-v : goal.invariant-outlines_held-loop-v
invariant-outlines_held-loop-v l = EachHeld l.listing (labelled_by l.listing.shape (leaf_of l.listing l.aim) l.sketch.messages l.sketch.count l.sketch.places l.p) l.listing.shape.variables l.v

abbrev pub decreases-outlines_held-loop-v : goal.decreases-outlines_held-loop-v
decreases-outlines_held-loop-v l = l.listing.shape.variables - l.v

abbrev pub invariant-outlines_held-loop-p : goal.invariant-outlines_held-loop-p
invariant-outlines_held-loop-p l = EachHeld l.listing (written_by l.listing.shape (leaf_of l.listing l.aim) l.sketch.messages l.sketch.count l.sketch.places) l.listing.shape.processes l.p

abbrev pub decreases-outlines_held-loop-p : goal.decreases-outlines_held-loop-p
decreases-outlines_held-loop-p l = l.listing.shape.processes - l.p
