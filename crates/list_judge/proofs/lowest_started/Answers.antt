use mathlib.Core.Path.{◌≡◌, sym, ap, ◌∙◌}
use mathlib.Core.Bool.{not}
use Rattle.machine_pws.specs.Machine.{Configuration}
use Rattle.list_theory.specs.Decision.{looks_started}
use Rattle.file_contents.specs.Cube.{configuration_of}
use Rattle.file_again.specs.Again.{cube_at}
use Rattle.list_cube.specs.Sizes.{starts_of}
use Rattle.list_judge.specs.Ready.{start_in}
use Rattle.list_judge.proofs.ListLaws.{small, entry_is}
use borrow.Author.Rules.{rules}
use Rattle.list_judge.proofs.lowest_started.Goals as goal

pub returns : goal.returns
returns c = c.lowest_failing.ensures.lowest (start_in c.args.judged.now.listing c.args.judged.now.code.now c.args.judged.now.program) (λ k r l h.
    let s = small c.args.judged.now.code.now c.args.judged.now.listing.file.now c.args.judged.now.listing.offsets.now c.args.judged.now.listing.summary.now c.args.judged.now.listing.count c.args.judged.now.program c.requires in
    let said : r ≡ not (looks_started (starts_of c.args.judged.now.program.shape c.args.judged.now.program.initial) (configuration_of (cube_at c.args.judged.now.listing.file.now c.args.judged.now.listing.offsets.now k))) = search rules in
    said ∙ ap (λ (e : Configuration). not (looks_started (starts_of c.args.judged.now.program.shape c.args.judged.now.program.initial) e)) (sym (entry_is c.args.judged.now.code.now c.args.judged.now.listing.file.now c.args.judged.now.listing.offsets.now c.args.judged.now.listing.summary.now c.args.judged.now.listing.count c.args.judged.now.program k l)))
