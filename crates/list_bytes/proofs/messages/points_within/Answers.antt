use lib.ListN.{get_or}
use lib.Dec.{ltb, leb}
use mathlib.Core.Bool.{◌&&◌}
use mathlib.Core.Path.{◌∙◌, sym}
use native.Mathlib.Omega.{arith}
use borrow.Author.Rules.{rules}
use Rattle.list_bytes.proofs.PlacedLaws.{points_all}
use Rattle.list_bytes.proofs.messages.points_within.Goals as goal

pub returns : goal.returns
returns c = λ t p l. points_all c.min.result c.args.m c.args.pointers (sym (c.all_below.ensures (λ p. ltb 0 (get_or c.args.pointers p 0) && leb (get_or c.args.pointers p 0) c.args.m) (λ p r k e. search rules)) ∙ t) p (omega arith)
