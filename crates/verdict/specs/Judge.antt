-- The whole judgement (document 01, "Verdicts and refusal table"): what is said of a file, or of a program file and
-- an evidence file (document 02, N6), and what is left in the work area.
use Rattle.std.specs.Prelude.{ℕ, ◌+◌, ◌*◌, ◌≡◌, List, ◌++◌, length, drop, replicate, ltb}
use Rattle.machine_pws.specs.declared.Step.{Step}
use Rattle.list_theory.specs.Verdict as lists
use Rattle.list_theory.specs.Decision as decision
use Rattle.base.specs.Bytes.{choose}
use Rattle.file_contents.specs.EvidencePart.{entries_allowed}
use Rattle.file_contents.specs.Reading as reading
use Rattle.run_step.specs.declared.last_test.RunAnswer.{RunAnswer}
use Rattle.run_step.specs.declared.last_test.RunAnswer.TheVariants.{Reachable, Stopped, Missed}
use Rattle.run_causes.specs.Causes.{cause_number}
use Rattle.run_replay.specs.Answers.{run_answer}
use Rattle.pso_replay.specs.Answers.{pso_steps, pso_run_answer}

pub data Verdict : Type 0 where
  -- the number of entries
  safe : ℕ → Verdict
  -- the number of steps, and the lowest number of a target met by the last local states
  reachable : ℕ → ℕ → Verdict
  -- the same, of a run of the PSO machine (document 02, N7)
  pso : ℕ → ℕ → Verdict
  -- number and place; 11 has its own
  refused : ℕ → ℕ → Verdict
  -- refused with 11: the entry, and the lowest step through which a configuration outside the list gets above it (document 02, N13)
  entered : ℕ → Step → Verdict

-- ---- the refusal table's numbers of what is said of a list, and of a run

abbrev pub of_list : lists.ListVerdict → Verdict
of_list (lists.safe n) = safe n
of_list (lists.unheld k) = refused 9 k
of_list (lists.started k) = refused 10 k
of_list (lists.entered k s) = entered k s

abbrev pub of_run : RunAnswer → Verdict
of_run (Reachable n k) = reachable n k
of_run (Stopped k cause) = refused (cause_number cause) k
of_run (Missed n) = refused 13 n

abbrev pub of_pso_run : RunAnswer → Verdict
of_pso_run (Reachable n k) = pso n k
of_pso_run (Stopped k cause) = refused (cause_number cause) k
of_pso_run (Missed n) = refused 13 n

-- ---- the verdict

-- A refused reading ends the judgement with its number and place. Of a list is said what is true of it over all configurations; a run is
-- replayed in its machine.
abbrev pub FileJudged : reading.FileRead → Verdict → Type 0
FileJudged (reading.refused w r) v = v ≡ refused r.number r.place
FileJudged (reading.list P ts es) v = (l : lists.ListVerdict) × lists.ListJudged P ts es l × (v ≡ of_list l)
FileJudged (reading.run P ts m ss) v = v ≡ of_run (run_answer P ts m ss)
FileJudged (reading.pso_run P ts m ss) v = v ≡ of_pso_run (pso_run_answer P m ts (pso_steps ss))

-- v is the verdict of x, one file or a program file and an evidence file, with a work area of so many bytes
unfoldable pub Judged : reading.Input → ℕ → Verdict → Type 0
Judged x area v = FileJudged (reading.read_file x area) v

-- the same by computation: `one_answer` says that it is the verdict, and the only one
abbrev pub of_file : reading.FileRead → Verdict
of_file (reading.refused w r) = refused r.number r.place
of_file (reading.list P ts es) = of_list (decision.verdict_of P ts es)
of_file (reading.run P ts m ss) = of_run (run_answer P ts m ss)
of_file (reading.pso_run P ts m ss) = of_pso_run (pso_run_answer P m ts (pso_steps ss))

unfoldable pub judged : reading.Input → ℕ → Verdict
judged x area = of_file (reading.read_file x area)

-- ---- the work area afterwards

-- the first 16,384 bytes, and twelve for each entry allowed
unfoldable pub used_of : ℕ → ℕ
used_of area = 16384 + 12 * entries_allowed area

-- these are 0 and the rest is untouched; after 8 all of it is
unfoldable pub area_after : List ℕ → List ℕ
area_after w = choose (ltb (length w) 65536) (λ _. w) (λ _. replicate (used_of (length w)) 0 ++ drop (used_of (length w)) w)
