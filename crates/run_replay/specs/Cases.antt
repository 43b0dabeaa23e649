-- The worked cases of document 01 ("Judged files") that are runs, as rows of bytes with their verdicts: the file is read, and its run has the
-- verdict of the row. The cases of the machine alone are in the ground's table.
use Rattle.std.specs.Prelude.{ℕ, ◌≡◌, List, [], ◌∷◌, ◌++◌}
use Rattle.std.proofs.Math.Option.{Option, none, some}
use Rattle.file_contents.specs.Reading.{combined, FileRead, refused, list, run, pso_run, read_file}
use Rattle.run_replay.specs.Replay.{RunVerdict, reachable, stopped, missed, run_verdict}

-- ---- rows and what they say

pub record Row : Type 0 where
  pub file : List ℕ
  pub verdict : RunVerdict

-- the verdict of a file that is a run
unfoldable pub of_run : FileRead → Option RunVerdict
of_run (refused w r) = none
of_run (list P ts es) = none
of_run (run P ts m ss) = some (run_verdict P ts m ss)
of_run (pso_run P ts m ss) = none

-- with the smallest work area
unfoldable pub Holds : Row → Type 0
Holds r = of_run (read_file (combined r.file) 65536) ≡ some r.verdict

pub data Each (F : Row → Type 0) : List Row → Type 0 where
  no_row : Each F []
  row : {r : Row} {rs : List Row} → F r → Each F rs → Each F (r ∷ rs)

-- ---- the files, up to the steps

-- one process, one variable, two values; two local states
abbrev small : List ℕ
small = 1 ∷ 1 ∷ 1 ∷ 2 ∷ 0 ∷ 0 ∷ 0 ∷ 2 ∷ 2 ∷ 0 ∷ []

-- the claim 1, and a starting memory of zeros
abbrev claim : List ℕ
claim = 15 ∷ 1 ∷ 31 ∷ 0 ∷ 0 ∷ 0 ∷ 0 ∷ []

-- one process reads 1; up to the starting memory
abbrev file_n : List ℕ
file_n = small ++ (3 ∷ 0 ∷ 0 ∷ 1 ∷ 0 ∷ 1 ∷ 0 ∷ 1 ∷ []) ++ (4 ∷ 1 ∷ 0 ∷ 0 ∷ 0 ∷ []) ++ (15 ∷ 1 ∷ [])

-- E: a nop from 0 to 1, and the target 1
abbrev file_e : List ℕ
file_e = small ++ (3 ∷ 0 ∷ 0 ∷ 0 ∷ 0 ∷ 0 ∷ 0 ∷ 1 ∷ []) ++ (4 ∷ 1 ∷ 0 ∷ 0 ∷ 0 ∷ []) ++ claim

-- F: the initial state is the target
abbrev file_f : List ℕ
file_f = small ++ (4 ∷ 0 ∷ 0 ∷ 0 ∷ 0 ∷ []) ++ claim

-- two processes, two variables, two values. Process 0 writes variable 0 := 1, then variable 1 := 1; process 1 reads variable 1 as 1, then
-- variable 0 as 0
abbrev file_g : List ℕ
file_g =
    (1 ∷ 2 ∷ 2 ∷ 2 ∷ 2 ∷ 0 ∷ 0 ∷ 2 ∷ 3 ∷ 0 ∷ 2 ∷ 3 ∷ 0 ∷ []) ++ (3 ∷ 0 ∷ 0 ∷ 2 ∷ 0 ∷ 1 ∷ 0 ∷ 1 ∷ []) ++ (3 ∷ 0 ∷ 1 ∷ 2 ∷ 1 ∷ 1 ∷ 0 ∷ 2 ∷ [])
    ++ (3 ∷ 1 ∷ 0 ∷ 1 ∷ 1 ∷ 1 ∷ 0 ∷ 1 ∷ []) ++ (3 ∷ 1 ∷ 1 ∷ 1 ∷ 0 ∷ 0 ∷ 0 ∷ 2 ∷ []) ++ (4 ∷ 2 ∷ 2 ∷ 0 ∷ 0 ∷ []) ++ claim

-- G with an sfence between the writes
abbrev file_j : List ℕ
file_j =
    (1 ∷ 2 ∷ 2 ∷ 2 ∷ 2 ∷ 0 ∷ 0 ∷ 2 ∷ 4 ∷ 0 ∷ 2 ∷ 3 ∷ 0 ∷ []) ++ (3 ∷ 0 ∷ 0 ∷ 2 ∷ 0 ∷ 1 ∷ 0 ∷ 1 ∷ []) ++ (3 ∷ 0 ∷ 1 ∷ 4 ∷ 0 ∷ 0 ∷ 0 ∷ 2 ∷ [])
    ++ (3 ∷ 0 ∷ 2 ∷ 2 ∷ 1 ∷ 1 ∷ 0 ∷ 3 ∷ []) ++ (3 ∷ 1 ∷ 0 ∷ 1 ∷ 1 ∷ 1 ∷ 0 ∷ 1 ∷ []) ++ (3 ∷ 1 ∷ 1 ∷ 1 ∷ 0 ∷ 0 ∷ 0 ∷ 2 ∷ [])
    ++ (4 ∷ 3 ∷ 2 ∷ 0 ∷ 0 ∷ []) ++ claim

-- one process writes 1; then it may read 1, read 0, or pass one of the fences (sfence, mfence)
abbrev file_h : List ℕ
file_h =
    (1 ∷ 1 ∷ 1 ∷ 2 ∷ 0 ∷ 0 ∷ 0 ∷ 2 ∷ 3 ∷ 0 ∷ []) ++ (3 ∷ 0 ∷ 0 ∷ 2 ∷ 0 ∷ 1 ∷ 0 ∷ 1 ∷ []) ++ (3 ∷ 0 ∷ 1 ∷ 1 ∷ 0 ∷ 1 ∷ 0 ∷ 2 ∷ []) ++ (3 ∷ 0 ∷ 1 ∷ 1 ∷ 0 ∷ 0 ∷ 0 ∷ 2 ∷ [])
    ++ (3 ∷ 0 ∷ 1 ∷ 4 ∷ 0 ∷ 0 ∷ 0 ∷ 2 ∷ []) ++ (3 ∷ 0 ∷ 1 ∷ 3 ∷ 0 ∷ 0 ∷ 0 ∷ 2 ∷ []) ++ (4 ∷ 2 ∷ 0 ∷ 0 ∷ 0 ∷ []) ++ claim

-- ---- steps

-- the write, and its serialise
abbrev written : List ℕ
written = 32 ∷ 0 ∷ 33 ∷ 0 ∷ 0 ∷ []

-- ---- the table

abbrev says : List ℕ → RunVerdict → Row
says f v = record { file = f; verdict = v }

abbrev pub cases : List Row
cases =
    -- E with claim 1 and one step
    says (file_e ++ (32 ∷ 0 ∷ [])) (reachable 1 0)
    -- F with claim 1 and no step
    ∷ says file_f (reachable 0 0)
    -- no step, and the initial state is no target: 13
    ∷ says file_e (missed 0)
    -- G
    ∷ says (file_g ++ (32 ∷ 0 ∷ 32 ∷ 1 ∷ 33 ∷ 0 ∷ 1 ∷ 34 ∷ 1 ∷ 32 ∷ 2 ∷ 32 ∷ 3 ∷ [])) (reachable 6 0)
    -- H: read 1 with the pointer still at 1; reading 0 there is not permitted
    ∷ says (file_h ++ written ++ (32 ∷ 1 ∷ [])) (reachable 3 0)
    ∷ says (file_h ++ written ++ (32 ∷ 2 ∷ [])) (stopped 2)
    -- I: after that serialise sfence is permitted and mfence is not; after one update mfence is
    ∷ says (file_h ++ written ++ (32 ∷ 3 ∷ [])) (reachable 3 0)
    ∷ says (file_h ++ written ++ (32 ∷ 4 ∷ [])) (stopped 2)
    ∷ says (file_h ++ written ++ (34 ∷ 0 ∷ 32 ∷ 4 ∷ [])) (reachable 4 0)
    -- J
    ∷ says (file_j ++ (32 ∷ 0 ∷ 32 ∷ 1 ∷ [])) (stopped 1)
    -- a value that is only there at the start
    ∷ says (file_n ++ (31 ∷ 1 ∷ 0 ∷ 0 ∷ 0 ∷ 32 ∷ 0 ∷ [])) (reachable 1 0)
    ∷ says (file_n ++ (31 ∷ 0 ∷ 0 ∷ 0 ∷ 0 ∷ 32 ∷ 0 ∷ [])) (stopped 0)
    ∷ []
