use mathlib.Core.Path.{ap, ◌∙◌}
use Rattle.file_contents.specs.Cube.{load_entry}
use Rattle.file_again.proofs.entry_at.Goals as goal

pub returns : goal.returns
returns c = c.load_entry.ensures ∙ ap (load_entry c.args.file.now) c.offset_at-at.ensures
