use borrow.Author.Rules.{rules}
use Rattle.file_records.specs.ProgramPart.{shape_of}
use Rattle.file_contents.specs.Cube.{configuration_of}
use Rattle.list_theory.specs.Lists.{for_below}
use Rattle.list_targets.specs.Seeing.{witnessed_at}
use Rattle.list_targets.proofs.JudgeLaws.{judges_below}
use Rattle.list_targets.proofs.seen.labels_held.Goals as goal

pub returns : goal.returns
returns c =
    judges_below c.args.listing.now.shape.processes
    (λ p. for_below c.args.listing.now.shape.variables (witnessed_at (shape_of c.args.listing.now.shape) (configuration_of c.args.view.now.cube) c.args.view.now.sight c.args.i p))
    c.all_below.ensures (λ p b l x. search rules)
