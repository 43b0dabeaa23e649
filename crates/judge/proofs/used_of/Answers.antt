use Prim.Native.Nat.{ℕ, ◌+◌, ◌*◌, ◌%◌}
use mathlib.Core.Path.{◌≡◌}
use native.Mathlib.Omega.{arith}
use Rattle.file_contents.specs.EvidencePart.{entries_allowed}
use Rattle.verdict.specs.Judge.{used_of}
use Rattle.verdict.proofs.AreaLaws.{few}
use Rattle.judge.proofs.used_of.Goals as goal

used : (area n a b : ℕ) → n ≡ entries_allowed area → a ≡ (4 * n) % 18446744073709551616 → b ≡ (8 * n) % 18446744073709551616 → 16384 + a + b ≡ used_of area
unfolding used_of
used area n a b e d g = let l = few n area e in omega arith

pub overflow_add-result : goal.overflow_add-result
overflow_add-result c = omega (arith, few _ _ c.entries_allowed-n.ensures, c.word_place.ensures)

pub overflow_add-result-2 : goal.overflow_add-result-2
overflow_add-result-2 c = omega (arith, few _ _ c.entries_allowed-n.ensures, c.word_place.ensures, c.slot_place.ensures)

pub returns : goal.returns
returns c = used _ _ _ _ c.entries_allowed-n.ensures c.word_place.ensures c.slot_place.ensures
