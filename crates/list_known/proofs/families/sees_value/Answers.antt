use Prim.Native.Nat.{◌-◌}
use mathlib.Core.Path.{sym, ◌∙◌}
use native.Mathlib.Omega.{arith}
use Rattle.list_known.proofs.ClueLaws.{last_low, last_older, sees_at}
use Rattle.list_known.proofs.families.sees_value.Goals as goal

pub loop-older-init : goal.loop-older-init
loop-older-init c = last_low c.args.cube.messages c.args.cube.count c.from-pointer.result c.args.p c.args.v c.if-cube-pointer.false

pub returns-then-message-v : goal.returns-then-message-v
returns-then-message-v c e =
    sees_at c.args.cube c.args.p c.args.v c.from-pointer.ensures (c.loop-older.older - 1) (omega (arith, c.loop-older-test.true, c.loop-older.auto.older)) (omega (arith, c.loop-older.invariant, c.loop-older-test.true))
    c.if-message-v.true

pub loop-older-preserved : goal.loop-older-preserved
loop-older-preserved c =
    last_older c.args.cube.messages c.args.cube.count c.from-pointer.result c.args.p c.args.v c.if-cube-pointer.false (c.loop-older.older - 1)
    (omega (arith, c.loop-older-test.true, c.loop-older.auto.older)) (omega (arith, c.loop-older.invariant, c.loop-older-test.true)) c.if-older-pointer.false (sym c.carries.ensures ∙ c.if-carries.false)
