use mathlib.Core.Path.{sym, ap, ◌∙◌}
use native.Mathlib.Omega.{arith}
use lib.Dec.{eqb}
use borrow.Author.Tests.{le-leb}
use Rattle.pattern_theory.specs.Patterns.{PathRead}
use Rattle.pattern_step.specs.Meaning.{no_read, read_of, path_of}
use Rattle.pattern_step.proofs.PathLaws.{reads_at, starts_past, starts_in}
use Rattle.pattern_step.proofs.paths.PathReads.starts_at.Goals as goal

pub returns-then-len-at : goal.returns-then-len-at
returns-then-len-at c =
    le-leb c.len.result c.args.at c.if-len-at.true ∙ starts_past c.args.x (read_of no_read) (path_of c.args.self) c.args.at (omega (arith, c.len.ensures.reads))

pub returns-else-len-at : goal.returns-else-len-at
returns-else-len-at c =
    ap (λ (r : PathRead). eqb r.variable c.args.x) (sym (reads_at c.args.self.count c.args.self.reads c.args.at (omega (arith, c.len.ensures.count))))
    ∙ starts_in c.args.x (read_of no_read) (path_of c.args.self) c.args.at (omega (arith, c.len.ensures.reads))
