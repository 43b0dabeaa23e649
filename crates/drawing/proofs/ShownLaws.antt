-- The letters of one step.
use Prim.Native.Nat.{ℕ, ◌<◌, ◌≤◌}
use mathlib.Core.Path.{◌≡◌, sym, ap, ◌∙◌}
use mathlib.Core.Bool.{true, false}
use mathlib.Core.List.{List, [], ◌++◌}
use native.Mathlib.Omega.{arith}
use lib.ListN.{length, drop}
use lib.Dec.{ltb}
use borrow.Author.Tests.{ltb-true, le-leb, lt-leb}
use Rattle.machine_pws.specs.declared.Step.{Step}
use Rattle.machine_pws.specs.declared.Step.TheVariants.{Take, Serialise, Update}
use Rattle.drawing.specs.Text.{letters}
use Rattle.drawing.specs.Runs.{StepInRange, step_in_range}
use Rattle.drawing.specs.Writing.{shown}
use Rattle.drawing.specs.Parts.{Put}
use Rattle.drawing.proofs.PutLaws.{put_first}
use Rattle.drawing.proofs.WordLaws.{both_are}

pub is_in_range : (s : Step) → step_in_range s ≡ true → StepInRange s
is_in_range (Take n) e = ltb-true n 256 e
is_in_range (Serialise p v) e = let d = both_are (ltb p 4) (ltb v 4) e in (ltb-true p 4 d.0, ltb-true v 4 d.1)
is_in_range (Update p) e = ltb-true p 4 e

module _ (out : List ℕ) (s : Step) where
  shown_all : step_in_range s ≡ true → length (letters s) ≤ length out → shown (length out) s ≡ letters s
  unfolding shown
  shown_all e l = rw (e, le-leb (length (letters s)) (length out) l)

  none_fits : step_in_range s ≡ true → length out < length (letters s) → shown (length out) s ≡ []
  unfolding shown
  none_fits e l = rw (e, lt-leb (length (letters s)) (length out) l)

  none_there : step_in_range s ≡ false → shown (length out) s ≡ []
  unfolding shown
  none_there e = rw e

  nothing : shown (length out) s ≡ [] → (0 ≡ length (shown (length out) s)) × (out ≡ shown (length out) s ++ drop (length (shown (length out) s)) out)
  nothing e = (sym (ap length e), sym (ap (λ (w : List ℕ). w ++ drop (length w) out) e))

  pub says_letters : {new : List ℕ} {next : ℕ} → step_in_range s ≡ true → Put out new 0 next (letters s)
      → (next ≡ length (shown (length out) s)) × (new ≡ shown (length out) s ++ drop (length (shown (length out) s)) out)
  says_letters {new} {next} e p =
      let q = shown_all e (omega (arith, p.room)) in
      (omega (arith, p.after, ap length q), put_first p ∙ sym (ap (λ (w : List ℕ). w ++ drop (length w) out) q))

  pub says_short : step_in_range s ≡ true → length out < length (letters s)
      → (0 ≡ length (shown (length out) s)) × (out ≡ shown (length out) s ++ drop (length (shown (length out) s)) out)
  says_short e l = nothing (none_fits e l)

  pub says_none : step_in_range s ≡ false → (0 ≡ length (shown (length out) s)) × (out ≡ shown (length out) s ++ drop (length (shown (length out) s)) out)
  says_none e = nothing (none_there e)
