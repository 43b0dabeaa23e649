use Prim.Native.Nat.{◌+◌, ◌-◌, ◌*◌, ◌%◌}
use mathlib.Core.Path.{◌≡◌, refl, subst, subst₂}
use native.Mathlib.Omega.{arith}
use borrow.Author.Rules.{rules}
use Rattle.list_key.specs.Tags.{cube_memory}
use Rattle.list_key.proofs.RoleLaws.{Roles, roles_first, place_next, roles_end}
use Rattle.list_key.proofs.MarkLaws.{Labels, Marked, labels_begin, labels_next, marked_begin, hit_here, miss_here, row_end, bit_small, marked_end}
use Rattle.list_key.proofs.PackLaws.{zeros_at}
use Rattle.list_key.proofs.tags.tags_of.Goals as goal
use Rattle.list_key.proofs.tags.tags_of.Goals.{then-i-gt0+then-i-n, else-i-gt0}

pub loop-i-init : goal.loop-i-init
loop-i-init c = (roles_first c.args.cube (search rules) refl refl refl refl, labels_begin c.args.cube.messages refl (zeros_at 20))

pub loop-i-preserved : goal.loop-i-preserved
loop-i-preserved c = (place_next c.loop-i.invariant.0 c.label_place-q.ensures.0 c.max.ensures refl, labels_next c.loop-i.invariant.1 (omega arith) c.label_number.ensures.0 c.label_number.ensures.1)

pub loop-p-init : goal.loop-p-init
loop-p-init c =
    let e : c.loop-i.i ≡ c.min-n.result = omega arith in
    marked_begin c.min-variables.result c.min-n.result (cube_memory c.args.cube) c.args.cube.messages (subst (Labels c.loop-i.tags c.args.cube.messages) e c.loop-i.invariant.1)

pub overflow_add-tags : goal.overflow_add-tags
overflow_add-tags c = omega (arith, c.loop-k.invariant.low (c.from-i.result - 1), c.role_bit.ensures, bit_small (5 * c.loop-p.p + c.loop-k.k) (omega arith))

pub loop-k-init : goal.loop-k-init
loop-k-init c =
    let e : 5 * c.loop-p.p ≡ 5 * c.loop-p.p + 0 = omega arith in
    let f : 0 ≡ (5 * c.loop-p.p + 0) % 5 = omega arith in
    subst₂ (Marked c.min-variables.result c.min-n.result (cube_memory c.args.cube) c.args.cube.messages c.loop-p.tags) e f c.loop-p.invariant

pub loop-k-preserved : goal.loop-k-preserved
loop-k-preserved c =
    let e : c.loop-i.i ≡ c.min-n.result = omega arith in
    let R : Roles c.loop-i.roles (cube_memory c.args.cube) = roles_end c.args.cube (omega arith) c.loop-i.invariant.0 in
    elim c.if-i-gt0.branch [
      | then-i-gt0+then-i-n w ↦ hit_here c.min-variables.result c.min-n.result (cube_memory c.args.cube) c.args.cube.messages c.loop-k.invariant R (omega arith) (omega arith) (omega arith) c.from-i.ensures (omega arith) (omega arith) (omega arith) (omega arith) w.role_bit.ensures w.tags-is
      | else-i-gt0 w ↦ miss_here c.min-variables.result c.min-n.result (cube_memory c.args.cube) c.args.cube.messages c.loop-k.invariant R (omega arith) (omega arith) (omega arith) c.from-i.ensures (omega arith) (λ u. omega (arith, w.else-i-gt0.either)) w.tags-is
    ]

pub loop-p-preserved : goal.loop-p-preserved
loop-p-preserved c =
    row_end c.min-variables.result c.min-n.result (cube_memory c.args.cube) c.args.cube.messages (roles_end c.args.cube (omega arith) c.loop-i.invariant.0) (omega arith) (omega arith) (omega arith) (omega arith) c.loop-k.invariant

pub returns : goal.returns
returns c = marked_end c.args.shape c.args.cube c.min-variables.ensures c.min-n.ensures (omega arith) c.loop-p.invariant
