use mathlib.Core.Path.{ap, ◌∙◌}
use native.Mathlib.Omega.{arith}
use Rattle.pattern_verdict.specs.Offending.{pattern_body_of}
use Rattle.pattern_verdict.proofs.ShownLaws.{body_most, size_is}
use Rattle.pattern_verdict.proofs.record_size.Goals as goal

pub overflow_add-body_of : goal.overflow_add-body_of
overflow_add-body_of c = omega (arith, c.body_of.ensures, body_most c.byte_at.result)

pub returns : goal.returns
returns c = let e = c.body_of.ensures ∙ ap pattern_body_of c.byte_at.ensures in omega (arith, size_is c.args.file.now c.args.at)
