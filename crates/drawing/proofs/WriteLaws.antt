-- The answers, and what is left in the output.
use Rattle.std.specs.Prelude.{Ok, Err}
use Prim.Native.Nat.{ℕ, ◌+◌, ◌<◌, ◌≤◌}
use mathlib.Core.Path.{◌≡◌, sym, ap, ◌∙◌}
use mathlib.Core.Bool.{true, false}
use mathlib.Core.List.{List, ◌++◌}
use native.Mathlib.Omega.{arith}
use lib.ListN.{length, drop}
use lib.Dec.{ltb}
use borrow.Author.Tests.{lt-ltb, le-ltb}
use Rattle.file_records.specs.declared.program.Refusal.{Refusal}
use Rattle.file_contents.specs.EvidencePart.{steps_from, steps_of}
use Rattle.drawing.specs.declared.Written.{Written}
use Rattle.drawing.specs.Text.{text}
use Rattle.drawing.specs.Runs.{full_shape}
use Rattle.drawing.specs.Parts.{placed}
use Rattle.drawing.specs.Writing.{Made, made, refused, answered_or, left_in, of_count, drawing_of}

pub drawing_refused : (f : List ℕ) (r : Refusal) → steps_from full_shape 256 f 0 ≡ Err r → drawing_of f ≡ refused r.number r.place
unfolding drawing_of
drawing_refused f r e = ap (of_count f) e

pub drawing_made : (f : List ℕ) (n : ℕ) → steps_from full_shape 256 f 0 ≡ Ok n → drawing_of f ≡ made (text (steps_of f 0 n))
unfolding drawing_of
drawing_made f n e = ap (of_count f) e

abbrev answer_short : ℕ → ℕ → Written
answer_short short n = record { number = short; value = n }

abbrev answer_written : ℕ → Written
answer_written n = record { number = 0; value = n }

module _ (short : ℕ) (out : List ℕ) (m : Made) where
  pub says_refused : (number place : ℕ) → m ≡ refused number place
      → (record { number = number; value = place } ≡ answered_or short (length out) m) × (out ≡ left_in out m)
  says_refused number place e = (sym (ap (answered_or short (length out)) e), sym (ap (left_in out) e))

  pub says_short : (w : List ℕ) (needed : ℕ) → m ≡ made w → needed ≡ length w → length out < needed
      → (record { number = short; value = needed } ≡ answered_or short (length out) m) × (out ≡ left_in out m)
  says_short w needed e d l =
      let t : ltb (length out) (length w) ≡ true = ap (ltb (length out)) (sym d) ∙ lt-ltb (length out) needed l in
      (rw (e, t) (ap (answer_short short) d), rw (e, t))

  pub says_written : (w new : List ℕ) (needed : ℕ) → m ≡ made w → needed ≡ length w → needed ≤ length out → new ≡ w ++ drop (length w) out
      → (record { number = 0; value = needed } ≡ answered_or short (length out) m) × (new ≡ left_in out m)
  says_written w new needed e d l q =
      let t : ltb (length out) (length w) ≡ false = ap (ltb (length out)) (sym d) ∙ le-ltb (length out) needed l in
      (rw (e, t) (ap answer_written d), rw (e, t) q)

pub placed_first : (old w : List ℕ) → placed old 0 w ≡ w ++ drop (length w) old
unfolding placed
placed_first old w = let e : 0 + length w ≡ length w = omega arith in ap (λ (n : ℕ). w ++ drop n old) e
