use mathlib.Core.Path.{refl, ap₂}
use mathlib.Core.Bool.{◌&&◌}
use native.Mathlib.Omega.{arith}
use borrow.Author.Tests.{eq-eqb, lt-ltb}
use Rattle.list_bytes.proofs.SameLaws.{waits_loads, not_cut}
use Rattle.list_bytes.proofs.messages.waits_on.Goals as goal

pub returns-then-file-k-lt4 : goal.returns-then-file-k-lt4
returns-then-file-k-lt4 c = λ t. (waits_loads c.args.file.now c.args.k refl refl (ap₂ ◌&&◌ (eq-eqb _ _ c.if-file-k-eq18.true) (ap₂ ◌&&◌ (lt-ltb _ _ c.if-file-k-lt4.true) t)), omega (arith, not_cut c.args.file.now c.args.k 3 c.cut.ensures c.if-cut.false))
