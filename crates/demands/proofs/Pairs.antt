-- The theorems of specs/Pairs.
use Prim.Native.Nat.{ℕ, ◌+◌, ◌<◌}
use mathlib.Core.Path.{◌≡◌, refl, sym, ap, ◌∙◌}
use mathlib.Core.Bool.{Bool, true, false}
use mathlib.Core.List.{List, ◌++◌}
use lib.ListN.{length, take, drop, replicate}
use lib.Dec.{ltb}
use Rattle.base.specs.Bytes.{choose}
use Rattle.file_contents.specs.declared.evidence.Part.TheVariants.{InProgram, InEvidence}
use Rattle.file_contents.specs.Reading as reading
use Rattle.file_contents.specs.Reading.{combined, pair, read_file}
use Rattle.file_again.specs.Cutting.{moved_read}
use Rattle.file_again.proofs.Cutting.{cut_at_claim}
use Rattle.verdict.specs.Judge.{of_file, judged, used_of, area_after}
use Rattle.verdict.specs.Answers.{said_in_c}
use Rattle.demands.specs.Pairs.{Called, DependsOnly, moved_by, CutSame}

pub depends_only : DependsOnly
unfolding area_after
depends_only x w₁ w₂ r₁ r₂ v₁ v₂ A B e =
    (A.answer ∙ ap (said_in_c x) e ∙ sym B.answer, go (ltb (length w₁) 65536) A.area (B.area ∙ ap after (sym e)))
  where
    after : ℕ → List ℕ
    after n = choose (ltb n 65536) (λ _. w₂) (λ _. replicate (used_of n) 0 ++ drop (used_of n) w₂)

    go : (b : Bool) → v₁ ≡ choose b (λ _. w₁) (λ _. replicate (used_of (length w₁)) 0 ++ drop (used_of (length w₁)) w₁)
        → v₂ ≡ choose b (λ _. w₂) (λ _. replicate (used_of (length w₁)) 0 ++ drop (used_of (length w₁)) w₂)
        → (n : ℕ) × (v₁ ≡ replicate n 0 ++ drop n w₁) × (v₂ ≡ replicate n 0 ++ drop n w₂)
    go true a b = (0, a, b)
    go false a b = (used_of (length w₁), a, b)

moved_said : (c : ℕ) (r : reading.FileRead) → of_file (moved_read c r) ≡ moved_by c r (of_file r)
moved_said c (reading.refused InProgram r) = refl
moved_said c (reading.refused InEvidence r) = refl
moved_said c (reading.list P ts es) = refl
moved_said c (reading.run P ts m ss) = refl
moved_said c (reading.pso_run P ts m ss) = refl

pub cut_same : CutSame
unfolding judged
cut_same f c area q =
    let e = cut_at_claim f c area q in (ap of_file e.0 ∙ moved_said c (read_file (pair (take c f) (drop c f)) area), e.1)
