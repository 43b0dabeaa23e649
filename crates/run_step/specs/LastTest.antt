-- The last test as the code makes it, over the bytes of the program. No statement rests on these definitions: `targets_last` (replay Replaying) says
-- that they give the lowest target met.
use Rattle.std.specs.Prelude.{ℕ, zero, suc, ◌+◌, min, Bool, cond, List, [], ◌∷◌, length, get_or, eqb, leb}
use Rattle.machine_pws.specs.Machine.{all_below}
use Rattle.file_records.specs.declared.program.Shape.{Shape}
use Rattle.file_records.specs.declared.program.Row.{Row}
use Rattle.base.specs.Bytes.{choose, byte}
use Rattle.run_step.specs.declared.last_test.RunAnswer.{RunAnswer}
use Rattle.run_step.specs.declared.last_test.RunAnswer.TheVariants.{Reachable, Missed}

-- the local states that the target at a place names
abbrev pub target_at : List ℕ → ℕ → List ℕ
target_at f at = byte f (at + 1) ∷ byte f (at + 2) ∷ byte f (at + 3) ∷ byte f (at + 4) ∷ []

unfoldable pub in_target_in : List ℕ → ℕ → Shape → List ℕ → Bool
in_target_in f at s states = all_below (min s.processes 4) (λ p. eqb (get_or states p 0) (get_or (target_at f at) p 0))

unfoldable pub next_target : List ℕ → ℕ → ℕ
next_target f at = cond (leb (length f) at) at (at + 5)

-- the targets from number i on, which stands at `at`; n of them are left
unfoldable pub last_from : List ℕ → Shape → List ℕ → ℕ → ℕ → ℕ → ℕ → RunAnswer
last_from f s states steps at i zero = Missed steps
last_from f s states steps at i (suc n) =
    choose (in_target_in f at s states) (λ _. Reachable steps i) (λ _. last_from f s states steps (next_target f at) (i + 1) n)

abbrev pub last_in : List ℕ → Row → Shape → List ℕ → ℕ → RunAnswer
last_in f targets s states steps = last_from f s states steps targets.at 0 targets.count
