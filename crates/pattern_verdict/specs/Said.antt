-- What C gets for a pattern file, or for a program file and an evidence file (docs/PATTERNS.md, "Records"). The area afterwards is the judge's
-- areaAfter (verdict, Judge).
use Rattle.std.specs.Prelude.{ℕ, ◌≡◌, List, Ok}
use Rattle.file_records.specs.declared.program.Refusal.{Refusal}
use Rattle.file_records.specs.ProgramPart.{program_from, program_of, targets_of, whether, program_read}
use Rattle.file_contents.specs.declared.evidence.Part.{Part}
use Rattle.file_contents.specs.Reading.{Input}
use Rattle.list_theory.specs.Verdict as lists
use Rattle.verdict.specs.declared.answer.Verdict as declared
use Rattle.verdict.specs.Judge.{Verdict, of_list}
use Rattle.verdict.specs.Judge as judge
use Rattle.verdict.specs.Answers.{answer_in_c}
use Rattle.pattern_theory.specs.Patterns.{Pattern}
use Rattle.pattern_theory.specs.Verdict.{PatternsJudged}
use Rattle.pattern_reading.specs.Reading.{PatternFile, refused, patterns, read_patterns, PatternAnswer, unread, judged, pattern_answer}
use Rattle.pattern_verdict.specs.Offending.{pattern_offending_by, patterns_offending}

-- the refusal table's number of each answer
abbrev pub of_pattern_answer : PatternAnswer → Verdict
of_pattern_answer (unread n k) = judge.refused n k
of_pattern_answer (judged l) = of_list l

-- what C gets for a refusal of the reading, which stands in part w
abbrev pub refused_in_c : Input → Part → Refusal → declared.Verdict
refused_in_c x w r = answer_in_c x (judge.refused r.number r.place) (pattern_offending_by x.code x.file w r.number r.place)

-- what C gets with a work area of so many bytes
unfoldable pub patterns_said_in_c : Input → ℕ → declared.Verdict
patterns_said_in_c x area = answer_in_c x (of_pattern_answer (pattern_answer x area)) (patterns_offending x (read_patterns x area))

-- ---- what that means

-- A refused reading ends the judgement with its number and place; of patterns is said what is true of them.
abbrev pub PatternFileJudged : PatternFile → Verdict → Type 0
PatternFileJudged (refused w r) v = v ≡ judge.refused r.number r.place
PatternFileJudged (patterns P ts ps) v = (l : lists.ListVerdict) × PatternsJudged P ts ps l × (v ≡ of_list l)

-- r is the verdict of x, and the record that is handed back with it
pub record PatternsAnswered (x : Input) (area : ℕ) (r : declared.Verdict) : Type 0 where
  pub verdict : Verdict
  pub judged : PatternFileJudged (read_patterns x area) verdict
  pub same : r ≡ answer_in_c x verdict (patterns_offending x (read_patterns x area))

abbrev pub AlwaysAnswered : Type 0
AlwaysAnswered = (x : Input) (area : ℕ) → PatternsAnswered x area (patterns_said_in_c x area)

-- Kind 0, safe: the program part was read, and its program, its targets and n patterns are called safe. What that promises is FileSafety and
-- FilePsoSafety (pattern_reading, Safety).
pub record CalledSafe (x : Input) (area n : ℕ) : Type 0 where
  pub fine : whether (program_from x.alone x.code 0) ≡ Ok tt
  pub list : List Pattern
  pub reads : read_patterns x area
      ≡ patterns (program_of x.code (program_read (program_from x.alone x.code 0))) (targets_of x.code (program_read (program_from x.alone x.code 0))) list
  pub answer : pattern_answer x area ≡ judged (lists.safe n)

abbrev pub KindZero : Type 0
KindZero = (x : Input) (area : ℕ) → (patterns_said_in_c x area).kind ≡ 0 → CalledSafe x area (patterns_said_in_c x area).first
