-- The record that a refusal of a pattern file hands back (docs/PATTERNS.md, "Records"): the judge's rule (file_again, Offending) for the kinds of these files.
use Rattle.std.specs.Prelude.{ℕ, ◌+◌, cond, List, take, drop, eqb}
use Rattle.base.specs.Bytes.{byte}
use Rattle.file_contents.specs.declared.evidence.Part.{Part}
use Rattle.file_contents.specs.declared.evidence.Part.TheVariants.{InEvidence}
use Rattle.file_contents.specs.Reading.{Input}
use Rattle.file_again.specs.Offending.{Offending, bytes_of, end_of_file, is_of_record}
use Rattle.pattern_reading.specs.Reading.{PatternFile, refused, patterns}

-- the length of the body of each kind that pattern files have anywhere: 01 to 04, 0F, 12 to 15; 0 for any other
unfoldable pub pattern_body_of : ℕ → ℕ
pattern_body_of kind =
    cond (eqb kind 1) 6
    (cond (eqb kind 2) 2
    (cond (eqb kind 3) 7
    (cond (eqb kind 4) 4
    (cond (eqb kind 15) 1
    (cond (eqb kind 18) 3
    (cond (eqb kind 19) 8
    (cond (eqb kind 20) 4
    (cond (eqb kind 21) 3 0))))))))

-- the record at a place: cut at the file's end if need be, and the kind byte alone for an unknown kind
unfoldable pub pattern_record_at : List ℕ → ℕ → List ℕ
pattern_record_at f at = take (1 + pattern_body_of (byte f at)) (drop at f)

-- Of a refusal of number n at the place k, which stands in part w. For 1, 2, 3, 4, 5 and 7 the record there (of 7 the pattern's 13); 6 hands back the
-- empty end of the file that ended, and every other number that of the evidence (or combined) file.
unfoldable pub pattern_offending_by : List ℕ → List ℕ → Part → ℕ → ℕ → Offending
pattern_offending_by g f w n k =
    cond (is_of_record n) (record { part = w; at = k; bytes = pattern_record_at (bytes_of g f w) k })
    (cond (eqb n 6) (end_of_file g f w) (end_of_file g f InEvidence))

-- of what was read: every verdict on what was not refused there hands back the empty end of the evidence
abbrev pub patterns_offending : Input → PatternFile → Offending
patterns_offending x (refused w r) = pattern_offending_by x.code x.file w r.number r.place
patterns_offending x (patterns P ts ps) = end_of_file x.code x.file InEvidence
