use Prim.Native.Nat.{ℕ}
use mathlib.Core.Path.{subst}
use native.Mathlib.Omega.{arith}
use Rattle.list_bytes.specs.Same.{Took}
use Rattle.list_bytes.proofs.SameLaws.{waits_behind, waits_before}
use Rattle.list_bytes.proofs.queues.closes.Goals as goal

pub returns-then-back-at : goal.returns-then-back-at
returns-then-back-at c = λ t start qs F T. waits_behind c.args.back (omega arith) c.requires.m_bound c.requires.kinds c.if-back-at.true (subst (λ (k : ℕ). Took c.args.file.now k qs c.args.next) (F.behind c.if-back-at.true) T) c.ends_at.ensures t

pub returns-then-next-back : goal.returns-then-next-back
returns-then-next-back c = λ t start qs F T. waits_before c.args.back (omega arith) c.requires.m_bound c.requires.kinds (subst (λ (k : ℕ). Took c.args.file.now k qs c.args.next) (F.ahead c.if-back-at.false) T) c.if-next-back.true c.ends_at-then-next-back.ensures t
