-- The offending record of a refusal (document 02, N6), handed back as the part of whichever file it stands in.
use Rattle.std.specs.Prelude.{ℕ, ◌+◌, Bool, true, false, cond, ◌&&◌, ◌||◌, not, List, [], length, take, drop, eqb, leb}
use Rattle.file_contents.specs.declared.evidence.Part.{Part}
use Rattle.file_contents.specs.declared.evidence.Part.TheVariants.{InProgram, InEvidence}
use Rattle.base.specs.Bytes.{byte}
use Rattle.file_contents.specs.Reading.{Input, FileRead, refused, list, run, pso_run}

-- the length of the body of each kind that the judge's files have anywhere (document 01, "Records"; document 02, N3 and N5), and 0 for an unknown one
unfoldable pub body_of : ℕ → ℕ
body_of kind =
    cond (eqb kind 1) 6
    (cond (eqb kind 2) 2
    (cond (eqb kind 3) 7
    (cond (eqb kind 4) 4
    (cond (eqb kind 15) 1
    (cond (eqb kind 16) 8
    (cond (eqb kind 17) 6
    (cond (eqb kind 18) 3
    (cond (eqb kind 31) 4
    (cond (eqb kind 32) 1
    (cond (eqb kind 33) 2
    (cond (eqb kind 34) 1 0)))))))))))

-- the record at a place: cut at the file's end if need be, and the kind byte alone for an unknown kind
unfoldable pub record_at : List ℕ → ℕ → List ℕ
record_at f at = take (1 + body_of (byte f at)) (drop at f)

-- the file that it is a part of, where it stands there, and its bytes
pub record Offending : Type 0 where
  pub part : Part
  pub at : ℕ
  pub bytes : List ℕ

-- it stands in the file that holds the program
abbrev pub is_in_program : Part → Bool
is_in_program InProgram = true
is_in_program InEvidence = false

-- the file that a part stands in: the program is held by the bytes g, the evidence by the bytes f
abbrev pub bytes_of : List ℕ → List ℕ → Part → List ℕ
bytes_of g f InProgram = g
bytes_of g f InEvidence = f

-- the empty end of a file
abbrev pub end_of_file : List ℕ → List ℕ → Part → Offending
end_of_file g f w = record { part = w; at = length (bytes_of g f w); bytes = [] }

-- 1, 2, 3, 4, 5 and 7
unfoldable pub is_of_record : ℕ → Bool
is_of_record n = leb 1 n && (leb n 7 && not (eqb n 6))

-- Of a refusal of number n at the place k, which stands in part w. For 1, 2, 3, 4, 5 and 7 the record there; 6 hands back the empty end of the
-- file that ended, and every other number that of the evidence (or combined) file.
unfoldable pub offending_by : List ℕ → List ℕ → Part → ℕ → ℕ → Offending
offending_by g f w n k =
    cond (is_of_record n) (record { part = w; at = k; bytes = record_at (bytes_of g f w) k }) (cond (eqb n 6) (end_of_file g f w) (end_of_file g f InEvidence))

-- the part that it is of
unfoldable pub part_said_by : Part → ℕ → Part
part_said_by w n = cond (is_of_record n || eqb n 6) w InEvidence

-- of what was read: every verdict on what was not refused there hands back the empty end of the evidence
abbrev pub offending : Input → FileRead → Offending
offending x (refused w r) = offending_by x.code x.file w r.number r.place
offending x (list P ts es) = end_of_file x.code x.file InEvidence
offending x (run P ts m ss) = end_of_file x.code x.file InEvidence
offending x (pso_run P ts m ss) = end_of_file x.code x.file InEvidence
