-- What the writer and the reader answer, and what they leave in the output (request N12): a refusal of the input comes first; an output
-- too short is 26 with the bytes needed; success is the number of bytes written. No refusal writes anything, and no byte past those
-- is touched.
use Rattle.std.specs.Prelude.{ℕ, cond, ◌&&◌, List, [], ◌++◌, length, drop, leb, ltb, Result, Ok, Err}
use Rattle.machine_pws.specs.declared.Step.{Step}
use Rattle.base.specs.Bytes.{choose}
use Rattle.file_records.specs.declared.program.Refusal.{Refusal}
use Rattle.file_contents.specs.EvidencePart.{steps_from, steps_of}
use Rattle.drawing.specs.declared.Written.{Written}
use Rattle.drawing.specs.Text.{letters, text}
use Rattle.drawing.specs.Runs.{full_shape, step_in_range}

-- what the input comes to: bytes to write, or a refusal with its number and place
pub data Made : Type 0 where
  made : List ℕ → Made
  refused : ℕ → ℕ → Made

-- the two numbers that say it: 0 and the bytes written, or the refusal's own
abbrev pub told : Result ℕ Refusal → Written
told (Ok n) = record { number = 0; value = n }
told (Err r) = record { number = r.number; value = r.place }

-- in an output of this length; `short` is the number of an output too short
abbrev pub answered_or : ℕ → ℕ → Made → Written
answered_or short room (made w) =
    choose (ltb room (length w)) (λ _. record { number = short; value = length w }) (λ _. record { number = 0; value = length w })
answered_or short room (refused number place) = record { number = number; value = place }

abbrev pub answered : ℕ → Made → Written
answered room m = answered_or 26 room m

-- the output afterwards
abbrev pub left_in : List ℕ → Made → List ℕ
left_in out (made w) = choose (ltb (length out) (length w)) (λ _. out) (λ _. w ++ drop (length w) out)
left_in out (refused number place) = out

-- ---- the writer

abbrev pub of_count : List ℕ → Result ℕ Refusal → Made
of_count f (Ok n) = made (text (steps_of f 0 n))
of_count f (Err r) = refused r.number r.place

-- the drawing of step records; bad ones are refused as the judge refuses them for a program of full shape
unfoldable pub drawing_of : List ℕ → Made
drawing_of f = of_count f (steps_from full_shape 256 f 0)

-- ---- the letters of one step, for other lines than a drawing's

-- nothing of a step that no program of full shape has, and nothing in less room than they take
unfoldable pub shown : ℕ → Step → List ℕ
shown room s = cond (step_in_range s && leb (length (letters s)) room) (letters s) []
