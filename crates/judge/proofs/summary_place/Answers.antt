use Prim.Native.Nat.{ℕ, ◌*◌, ◌%◌}
use mathlib.Core.Path.{◌≡◌}
use native.Mathlib.Omega.{arith}
use Rattle.file_contents.specs.EvidencePart.{entries_allowed}
use Rattle.verdict.proofs.AreaLaws.{few}
use Rattle.judge.proofs.summary_place.Goals as goal

behind : (area r n : ℕ) → n ≡ entries_allowed area → r ≡ (4 * n) % 18446744073709551616 → r ≡ 4 * entries_allowed area
behind area r n e d = let l = few n area e in omega arith

pub returns : goal.returns
returns c = behind _ _ _ c.entries_allowed.ensures c.word_place.ensures
