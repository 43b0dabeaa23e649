use Prim.Native.Nat.{ℕ, ◌+◌, ◌*◌}
use mathlib.Core.Path.{ap, ◌∙◌}
use Rattle.file_records.specs.Records.{transition_at}
use Rattle.file_again.proofs.PlaceLaws.{place_transition}
use Rattle.file_again.proofs.transition_of.Goals as goal

pub returns : goal.returns
returns c = c.transition_at.ensures ∙ ap (λ (n : ℕ). transition_at c.args.file.now n) c.transition_place-at.ensures
    ∙ place_transition c.args.file.now (c.args.program.transitions.at + 8 * c.args.i)
