use Prim.Native.Nat.{ℕ}
use mathlib.Core.Path.{ap, refl, ◌∙◌}
use mathlib.Core.List.{◌++◌}
use native.Mathlib.Omega.{arith}
use lib.ListN.{length, drop, replicate}
use Rattle.verdict.proofs.AreaLaws.{used_fits, cleared_all, untouched}
use Rattle.judge.proofs.clear_area.Goals as goal

pub returns-then-size-lt65536 : goal.returns-then-size-lt65536
returns-then-size-lt65536 c = untouched _ c.if-size-lt65536.true

pub clear_used-requires : goal.clear_used-requires
clear_used-requires c = omega (arith, used_fits (length c.args.work.now) (omega (arith, c.if-size-lt65536.false)), c.used_of.ensures)

pub returns : goal.returns
returns c = let w = c.args.work.now in c.clear_used.ensures ∙ ap (λ (n : ℕ). replicate n 0 ++ drop n w) c.used_of.ensures ∙ cleared_all w w c.if-size-lt65536.false refl
