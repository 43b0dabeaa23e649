use Prim.Native.Nat.{◌+◌, ◌*◌, ◌%◌}
use lib.ListN.{get_or}
use Rattle.list_key.specs.Tags.{cube_memory}
use Rattle.list_key.proofs.RoleLaws.{RolesTo}
use Rattle.list_key.proofs.MarkLaws.{Labels, Marked}
use Rattle.list_key.proofs.tags.tags_of.Given as goal

abbrev pub invariant-loop-i : goal.invariant-loop-i
invariant-loop-i l = RolesTo (λ p. get_or l.fn.cube.pointers p 0) l.fn.cube.messages l.roles l.i × Labels l.tags l.fn.cube.messages l.i

abbrev pub invariant-loop-p : goal.invariant-loop-p
invariant-loop-p l = Marked l.variables l.n (cube_memory l.fn.cube) l.fn.cube.messages l.tags (5 * l.p) 0

abbrev pub invariant-loop-k : goal.invariant-loop-k
invariant-loop-k l = Marked l.variables l.n (cube_memory l.fn.cube) l.fn.cube.messages l.tags (5 * l.p + l.k) ((5 * l.p + l.k) % 5)
