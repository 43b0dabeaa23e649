-- The code's answers: document 01's number and values for each, and the verdict as C has it, with the offending record (document 02, N6).
use Rattle.std.specs.Prelude.{ℕ, ◌≡◌, Bool, cond, length}
use Rattle.machine_pws.specs.declared.Step.TheVariants.{Take, Serialise, Update}
use Rattle.verdict.specs.declared.answer.Answer.{Answer}
use Rattle.verdict.specs.declared.answer.Answer.TheVariants.{Safe, Reachable, Pso, Unread, Unheld, Started, Entered, Stopped, Missed}
use Rattle.verdict.specs.declared.answer.Verdict as declared
use Rattle.file_contents.specs.declared.evidence.Part.{Part}
use Rattle.file_contents.specs.declared.evidence.Part.TheVariants.{InProgram, InEvidence}
use Rattle.file_contents.specs.Reading.{Input, read_file}
use Rattle.file_again.specs.Offending.{Offending, end_of_file, offending_by, offending}
use Rattle.run_causes.specs.Causes.{cause_number}
use Rattle.verdict.specs.Judge.{Verdict, safe, reachable, pso, refused, entered, Judged, judged}

abbrev pub verdict_in : Answer → Verdict
verdict_in (Safe n) = safe n
verdict_in (Reachable n k) = reachable n k
verdict_in (Pso n k) = pso n k
verdict_in (Unread w r) = refused r.number r.place
verdict_in (Unheld k) = refused 9 k
verdict_in (Started k) = refused 10 k
verdict_in (Entered k s) = entered k s
verdict_in (Stopped k cause) = refused (cause_number cause) k
verdict_in (Missed n) = refused 13 n

-- a verdict with no step; its record is put in last
abbrev pub stepless : ℕ → ℕ → ℕ → declared.Verdict
stepless kind first second = record { kind = kind; first = first; second = second; step_kind = 0; step_first = 0; step_second = 0; record_file = 0; record_at = 0; record_length = 0 }

-- 11 with its step: the kind of the step's record (20, 21 and 22 are 32, 33 and 34), and the numbers in it, 0 where there is no second
abbrev pub entered_by : ℕ → ℕ → ℕ → ℕ → declared.Verdict
entered_by k kind first second = record { kind = 2; first = 11; second = k; step_kind = kind; step_first = first; step_second = second; record_file = 0; record_at = 0; record_length = 0 }

-- kind 0 safe, 1 reachable, 2 refused, 3 pso
abbrev pub in_c : Verdict → declared.Verdict
in_c (safe n) = stepless 0 n 0
in_c (reachable n k) = stepless 1 n k
in_c (pso n k) = stepless 3 n k
in_c (refused n k) = stepless 2 n k
in_c (entered k (Take n)) = entered_by k 32 n 0
in_c (entered k (Serialise p v)) = entered_by k 33 p v
in_c (entered k (Update p)) = entered_by k 34 p 0

-- ---- the record that is handed back

-- an answer that refuses the reading hands back the record of its refusal, and every other the empty end of the evidence
abbrev pub offending_in : Input → Answer → Offending
offending_in x (Unread w r) = offending_by x.code x.file w r.number r.place
offending_in x (Safe n) = end_of_file x.code x.file InEvidence
offending_in x (Reachable n k) = end_of_file x.code x.file InEvidence
offending_in x (Pso n k) = end_of_file x.code x.file InEvidence
offending_in x (Unheld k) = end_of_file x.code x.file InEvidence
offending_in x (Started k) = end_of_file x.code x.file InEvidence
offending_in x (Entered k s) = end_of_file x.code x.file InEvidence
offending_in x (Stopped k cause) = end_of_file x.code x.file InEvidence
offending_in x (Missed n) = end_of_file x.code x.file InEvidence

-- the number of the file that a part stands in: 0 the program file or the combined one, 1 the evidence file
abbrev pub file_number : Bool → Part → ℕ
file_number alone InProgram = 0
file_number alone InEvidence = cond alone 1 0

abbrev pub with_record : declared.Verdict → ℕ → ℕ → ℕ → declared.Verdict
with_record v file at size =
    record {
      kind = v.kind;
      first = v.first;
      second = v.second;
      step_kind = v.step_kind;
      step_first = v.step_first;
      step_second = v.step_second;
      record_file = file;
      record_at = at;
      record_length = size;
    }

-- a verdict with the record that it hands back, by its file, its place there and its length
abbrev pub answer_in_c : Input → Verdict → Offending → declared.Verdict
answer_in_c x v o = with_record (in_c v) (file_number x.alone o.part) o.at (length o.bytes)

-- what C gets for x with a work area of so many bytes
unfoldable pub said_in_c : Input → ℕ → declared.Verdict
said_in_c x area = answer_in_c x (judged x area) (offending x (read_file x area))

-- r is the verdict of x, with a work area of so many bytes, and the record that is handed back with it
pub record Answered (x : Input) (area : ℕ) (r : declared.Verdict) : Type 0 where
  pub verdict : Verdict
  pub judged : Judged x area verdict
  pub same : r ≡ answer_in_c x verdict (offending x (read_file x area))
