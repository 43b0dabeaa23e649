use Prim.Native.Nat.{◌+◌, ◌*◌}
use mathlib.Core.Path.{sym}
use native.Mathlib.Omega.{arith}
use Rattle.run_layout.proofs.AreaLaws.{transition_past}
use Rattle.run_layout.proofs.moves.transition_in.Goals as goal

pub returns-then-file-row : goal.returns-then-file-row
returns-then-file-row c = sym (transition_past c.args.file.now (c.args.row.at + 8 * c.args.n) (omega (arith, c.if-file-row.true)))

pub returns-then-file-row-2 : goal.returns-then-file-row-2
returns-then-file-row-2 c = sym (transition_past c.args.file.now (c.args.row.at + 8 * c.args.n) (omega (arith, c.if-file-row-2.true)))

pub returns : goal.returns
returns c = c.transition_at.ensures
