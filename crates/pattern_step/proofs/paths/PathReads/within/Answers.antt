use Prim.Native.Nat.{ℕ, ◌+◌, ◌<◌}
use mathlib.Core.Path.{sym, ap₂, subst, ◌∙◌}
use native.Mathlib.Omega.{arith}
use lib.ListN.{length}
use Rattle.pattern_theory.specs.Within.{same_read}
use Rattle.pattern_step.specs.Meaning.{newest_of, no_read, read_of, path_of}
use Rattle.pattern_step.proofs.PathLaws.{reads_at, Followed, followed_all, followed_match, followed_skip}
use Rattle.pattern_step.proofs.paths.PathReads.within.Goals.{then-same_read, else-same_read}
use Rattle.pattern_step.proofs.paths.PathReads.within.Goals as goal

pub returns-then-m-i : goal.returns-then-m-i
returns-then-m-i c =
    followed_all (newest_of c.args.newest) (read_of no_read) (path_of c.args.self) (path_of c.args.other) c.loop-j.invariant (omega (arith, c.len-m.ensures.reads))
    (omega (arith, c.len-n.ensures.reads))

pub loop-j-preserved : goal.loop-j-preserved
loop-j-preserved c =
    let a : c.loop-j.i < length (path_of c.args.other) = omega (arith, c.len-m.ensures.reads) in
    let b : c.loop-j.j < length (path_of c.args.self) = omega (arith, c.len-n.ensures.reads) in
    let t =
    ap₂ same_read (reads_at c.args.other.count c.args.other.reads c.loop-j.i (omega (arith, c.len-m.ensures.count))) (reads_at c.args.self.count c.args.self.reads c.loop-j.j (omega (arith, c.len-n.ensures.count)))
    ∙ sym c.same_read.ensures in
    elim c.if-same_read.branch [
      | then-same_read w ↦ subst (λ (i : ℕ). Followed (newest_of c.args.newest) (read_of no_read) (path_of c.args.self) (path_of c.args.other) i (c.loop-j.j + 1)) (sym w.i-is)
          (followed_match (newest_of c.args.newest) (read_of no_read) (path_of c.args.self) (path_of c.args.other) c.loop-j.invariant a b (t ∙ w.if-same_read.true))
      | else-same_read w ↦ subst (λ (i : ℕ). Followed (newest_of c.args.newest) (read_of no_read) (path_of c.args.self) (path_of c.args.other) i (c.loop-j.j + 1)) (sym w.i-is)
          (followed_skip (newest_of c.args.newest) (read_of no_read) (path_of c.args.self) (path_of c.args.other) c.loop-j.invariant a b (t ∙ w.if-same_read.false))
    ]
