use Rattle.pattern_step.specs.Numbers.{PlacesMore}
use Rattle.pattern_step.proofs.MessageLaws.{four_of}
use Rattle.pattern_step.proofs.messages.more_places.Goals as goal

pub returns : goal.returns
returns c =
    four_of (PlacesMore c.args.shape c.args.a c.args.p) c.more_at.result c.more_at-2.result c.more_at-3.result c.more_at-4.result 0 c.more_at.ensures c.more_at-2.ensures
    c.more_at-3.ensures c.more_at-4.ensures
