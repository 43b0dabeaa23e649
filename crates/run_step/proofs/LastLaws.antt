-- Laws of the loop over the targets: what one turn does to the definitions of specs/LastTest.antt.
use Prim.Native.Nat.{ℕ, suc, ◌+◌, ◌-◌, ◌<◌, ◌≤◌}
use mathlib.Core.Path.{◌≡◌, ap, ◌∙◌}
use mathlib.Core.Bool.{true, false}
use mathlib.Core.List.{List}
use native.Mathlib.Omega.{arith}
use Rattle.file_records.specs.declared.program.Shape.{Shape}
use Rattle.run_step.specs.declared.last_test.RunAnswer.TheVariants.{Reachable, Missed}
use Rattle.run_step.specs.LastTest.{in_target_in, next_target, last_from}

pub left_suc : (n i : ℕ) → i < n → n - i ≡ suc (n - (i + 1))
left_suc n i l = omega arith

pub left_zero : (n i : ℕ) → n ≤ i → n - i ≡ 0
left_zero n i l = omega arith

module _ (f : List ℕ) (s : Shape) (states : List ℕ) (steps : ℕ) where
  pub last_begin : (n at : ℕ) → last_from f s states steps at 0 (n - 0) ≡ last_from f s states steps at 0 n
  last_begin n at = ap (last_from f s states steps at 0) (omega arith)

  pub last_hit : (n at i : ℕ) → i < n → in_target_in f at s states ≡ true → last_from f s states steps at i (n - i) ≡ Reachable steps i
  unfolding last_from
  last_hit n at i l e = ap (last_from f s states steps at i) (left_suc n i l) ∙ rw e

  pub last_next : (n at i : ℕ) → i < n → in_target_in f at s states ≡ false
      → last_from f s states steps at i (n - i) ≡ last_from f s states steps (next_target f at) (i + 1) (n - (i + 1))
  unfolding last_from
  last_next n at i l e = ap (last_from f s states steps at i) (left_suc n i l) ∙ rw e

  pub last_none : (n at i : ℕ) → n ≤ i → last_from f s states steps at i (n - i) ≡ Missed steps
  unfolding last_from
  last_none n at i l = ap (last_from f s states steps at i) (left_zero n i l)
