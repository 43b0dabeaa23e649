-- The four counts that the program's file begins with are those of the program that was read (document 02, N5).
use Prim.Native.Nat.{ℕ, ◌+◌}
use mathlib.Core.Path.{◌≡◌, sym, subst}
use mathlib.Core.Bool.{Bool, true, false, cond}
use mathlib.Core.List.{List}
use lib.Dec.{eqb}
use Rattle.machine_pws.specs.declared.Step.{Step}
use Rattle.machine_pws.specs.Program as pws
use Rattle.machine_pws.specs.Ranges.{CountsOf}
use Rattle.file_records.specs.declared.program.Program.{Program}
use Rattle.base.specs.Bytes.{byte}
use Rattle.file_records.specs.Records.{shape_at}
use Rattle.file_records.specs.ProgramPart.{program_from, program_read}
use Rattle.file_contents.specs.Reading.{Input, evidence_at, FileRead, refused, list, run, pso_run, read_file}
use Rattle.file_again.proofs.ProgramPart.{part_counts}
use Rattle.file_again.proofs.Contents.{Outcome, outcome_refused, outcome_list, outcome_run, outcome, file_list, file_run}

abbrev pub HasCounts : List ℕ → FileRead → Type 0
HasCounts f (refused w r) = Unit {0}
HasCounts f (list P ts es) = CountsOf P.shape (shape_at f 0).values
HasCounts f (run P ts m ss) = CountsOf P.shape (shape_at f 0).values
HasCounts f (pso_run P ts m ss) = CountsOf P.shape (shape_at f 0).values

run_counts : (f : List ℕ) (P : pws.Program) (ts : List (ℕ → ℕ)) (m : List ℕ) (ss : List Step) → CountsOf P.shape (shape_at f 0).values → (b : Bool)
    → HasCounts f (cond b (run P ts m ss) (pso_run P ts m ss))
run_counts f P ts m ss C true = C
run_counts f P ts m ss C false = C

pub file_counts : (x : Input) (area : ℕ) → HasCounts x.code (read_file x area)
file_counts x area = go (outcome x area)
  where
    p : Program
    p = program_read (program_from x.alone x.code 0)

    go : Outcome x area → HasCounts x.code (read_file x area)
    go (outcome_refused w r a b) = subst (HasCounts x.code) (sym b) tt
    go (outcome_list L) = subst (HasCounts x.code) (sym (file_list x area L)) (part_counts x.alone x.code 0 L.fine)
    go (outcome_run R) =
        subst (HasCounts x.code) (sym (file_run x area R))
        (run_counts x.code _ _ _ _ (part_counts x.alone x.code 0 R.fine) (eqb (byte x.file (evidence_at x p + 1)) 1))
