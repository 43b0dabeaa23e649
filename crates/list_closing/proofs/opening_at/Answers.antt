use native.Mathlib.Omega.{arith}
use Rattle.list_closing.proofs.WalkLaws.{opening_take, opening_serialise, opening_update, opening_none}
use Rattle.list_closing.proofs.opening_at.Goals as goal

pub returns-then-j-m : goal.returns-then-j-m
returns-then-j-m c = opening_take c.args.m c.args.j c.if-j-m.true

pub returns-then-i-lt16 : goal.returns-then-i-lt16
returns-then-i-lt16 c = opening_serialise c.args.m c.args.j (omega (arith, c.if-j-m.false)) (omega (arith, c.if-i-lt16.true, c.if-j-m.false))

pub returns-then-i-lt20 : goal.returns-then-i-lt20
returns-then-i-lt20 c = opening_update c.args.m c.args.j (omega (arith, c.if-i-lt16.false, c.if-j-m.false)) (omega (arith, c.if-i-lt20.true, c.if-j-m.false))

pub returns : goal.returns
returns c = opening_none c.args.m c.args.j (omega (arith, c.if-i-lt20.false, c.if-j-m.false))
