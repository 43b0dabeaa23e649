use native.Mathlib.Omega.{arith}
use Rattle.file_contents.specs.EvidencePart.{entries_allowed}
use Rattle.file_contents.proofs.evidence.entries_allowed.Goals as goal

pub returns-then-area-lt16384 : goal.returns-then-area-lt16384
unfolding entries_allowed
returns-then-area-lt16384 c = omega arith

pub returns-then-most-lt524288 : goal.returns-then-most-lt524288
unfolding entries_allowed
returns-then-most-lt524288 c = omega arith

pub returns-else-most-lt524288 : goal.returns-else-most-lt524288
unfolding entries_allowed
returns-else-most-lt524288 c = omega arith
