-- The small files of docs/PATTERNS.md as a table with one statement: the list of each row is judged so. Their refusals by number 7 are of the
-- reading. Then its examples of *within* and of predecessors.
use Rattle.std.specs.Prelude.{ℕ, ◌≡◌, true, false, cond, List, [], ◌∷◌, map, eqb}
use Rattle.std.proofs.Math.Option.{Option, none, some}
use Rattle.machine_pws.specs.declared.Operation.TheVariants.{Nop, Read, Write, Mfence, Sfence}
use Rattle.machine_pws.specs.declared.Transition.{Transition}
use Rattle.machine_pws.specs.declared.Operation.{Operation}
use Rattle.machine_pws.specs.declared.Step.TheVariants.{Take}
use Rattle.machine_pws.specs.declared.Step.{Step}
use Rattle.machine_pws.specs.Program.{Program}
use Rattle.machine_pws.specs.Machine.{Configuration}
use Rattle.machine_pws.specs.Configurations.{Start}
use Rattle.machine_pws.specs.Sequences.{Visited}
use Rattle.machine_equal.specs.Equivalence.{PwsReachable}
use Rattle.list_theory.specs.Verdict.{ListVerdict, safe, unheld, started, entered}
use Rattle.pattern_theory.specs.Patterns.{Clue, empty, ends, contains, PathRead, Pattern}
use Rattle.pattern_theory.specs.Within.{clue_within, path_within}
use Rattle.pattern_theory.specs.Predecessors.{cuts, own_cut, before_read, in_front, before_operation}
use Rattle.pattern_theory.specs.Verdict.{pattern_verdict}

-- ---- one process and one variable x with two values; process 0 starts in local state 0

abbrev pub goes : ℕ → Operation → ℕ → Transition
goes from operation to = record { process = 0; from = from; operation = operation; to = to }

abbrev pub program_of : List Transition → Program
program_of ts = record { shape = record { processes = 1; variables = 1; values = λ v. 2; room = 4 }; states = λ p. 4; initial = λ p. 0; transitions = ts }

-- x for the one process or variable, and else what there is where none is
abbrev pub one : {A : Type 0} → A → A → ℕ → A
one x else p = cond (eqb p 0) x else

abbrev pub pattern_with : ℕ → Option ℕ → Clue → List PathRead → Pattern
pattern_with q newest clue path = record { state = one q 0; clue = one (one clue empty) (λ v. empty); newest = one newest none; path = one path [] }

-- local state q, and nothing else
abbrev pub in_state : ℕ → Pattern
in_state q = pattern_with q none (contains []) []

abbrev pub reads : ℕ → ℕ → PathRead
reads x v = record { variable = x; value = v; own = false }

abbrev pub reads_own : ℕ → ℕ → PathRead
reads_own x v = record { variable = x; value = v; own = true }

-- ---- the table

pub record Row : Type 0 where
  pub program : Program
  -- the local state of process 0 in the target; that of the others is 0
  pub target : ℕ
  pub patterns : List Pattern
  pub verdict : ListVerdict

unfoldable pub Holds : Row → Type 0
Holds r = pattern_verdict r.program (one r.target 0 ∷ []) r.patterns ≡ r.verdict

-- W: write x := 1, then read x = 0. Before the read the queue is empty and 0 is still to be read; only a start has that, and no write leads there.
abbrev pub write_read : List Transition
write_read = goes 0 (Write 0 1) 1 ∷ goes 1 (Read 0 0) 2 ∷ []

abbrev pub patterns_w : List Pattern
patterns_w = in_state 2 ∷ pattern_with 1 none empty (reads 0 0 ∷ []) ∷ []

-- x := 0, then x := 1, then read x = 1: made for the rule of a write. The queue before the second write ends in 0.
abbrev pub write_twice : List Transition
write_twice = goes 0 (Write 0 0) 1 ∷ goes 1 (Write 0 1) 2 ∷ goes 2 (Read 0 1) 3 ∷ []

abbrev pub patterns_twice : List Pattern
patterns_twice = in_state 3 ∷ pattern_with 2 none (ends [] 1) [] ∷ pattern_with 2 none empty (reads 0 1 ∷ []) ∷ pattern_with 1 none (ends [] 1) [] ∷ []

-- W with an mfence before the read
abbrev pub write_fence_read : List Transition
write_fence_read = goes 0 (Write 0 1) 1 ∷ goes 1 Mfence 2 ∷ goes 2 (Read 0 0) 3 ∷ []

abbrev pub patterns_fence : List Pattern
patterns_fence = in_state 3 ∷ pattern_with 2 none empty (reads 0 0 ∷ []) ∷ pattern_with 1 (some 0) empty [] ∷ []

-- W with a second process, which has a write of 0 that it never comes to
abbrev pub program_two : Program
program_two =
    record {
      shape = record { processes = 2; variables = 1; values = λ v. 2; room = 4 };
      states = λ p. 4;
      initial = λ p. 0;
      transitions = goes 0 (Write 0 1) 1 ∷ goes 1 (Read 0 0) 2 ∷ record { process = 1; from = 1; operation = Write 0 0; to = 1 } ∷ [];
    }

-- a local state and a path of process 0, and a clue for each process
abbrev pub pattern_two : ℕ → Clue → List PathRead → Clue → Pattern
pattern_two q clue path clue' = record { state = one q 0; clue = one (λ v. clue) (λ v. clue'); newest = λ v. none; path = one path [] }

abbrev pub patterns_two : List Pattern
patterns_two =
    pattern_two 2 (contains []) [] (contains [])
    ∷ pattern_two 1 empty (reads 0 0 ∷ []) (contains [])
    ∷ pattern_two 1 (contains []) [] (contains (some 0 ∷ []))
    ∷ pattern_two 0 (contains []) [] (contains (some 0 ∷ []))
    ∷ []

pub data Each (F : Row → Type 0) : List Row → Type 0 where
  no_row : Each F []
  row : {r : Row} {rs : List Row} → F r → Each F rs → Each F (r ∷ rs)

abbrev pub cases : List Row
cases =
    record { program = program_of []; target = 1; patterns = in_state 1 ∷ []; verdict = safe 1 }
    ∷ record { program = program_of []; target = 1; patterns = []; verdict = unheld 0 }
    -- several patterns together do not hold what none holds alone
    ∷ record {
      program = program_of [];
      target = 1;
      patterns = pattern_with 1 (some 0) (contains []) [] ∷ pattern_with 1 (some 1) (contains []) [] ∷ [];
      verdict = unheld 0;
    }
    ∷ record { program = program_of (goes 0 Nop 1 ∷ []); target = 1; patterns = in_state 1 ∷ []; verdict = entered 0 (Take 0) }
    ∷ record { program = program_of []; target = 0; patterns = in_state 0 ∷ []; verdict = started 0 }
    ∷ record { program = program_of write_read; target = 2; patterns = patterns_w; verdict = safe 2 }
    -- W with a queue that may hold anything
    ∷ record { program = program_of write_read; target = 2; patterns = in_state 2 ∷ pattern_with 1 none (contains []) (reads 0 0 ∷ []) ∷ []; verdict = entered 1 (Take 0) }
    -- W without its second pattern
    ∷ record { program = program_of write_read; target = 2; patterns = in_state 2 ∷ []; verdict = entered 0 (Take 1) }
    -- W with x := 0 in local state 2, so that 0 is stored
    ∷ record {
      program = program_of (goes 0 (Write 0 1) 1 ∷ goes 1 (Read 0 0) 2 ∷ goes 2 (Write 0 0) 2 ∷ []);
      target = 2;
      patterns = patterns_w;
      verdict = entered 0 (Take 1);
    }
    -- a list that is closed only if a write keeps the end of a word
    ∷ record { program = program_of write_twice; target = 3; patterns = patterns_twice; verdict = entered 1 (Take 1) }
    -- a path before an mfence is read at the newest message
    ∷ record { program = program_of write_fence_read; target = 3; patterns = patterns_fence; verdict = safe 3 }
    -- another process stores 0: process 0 does not, so no 0 waits in its queue
    ∷ record { program = program_two; target = 2; patterns = patterns_two; verdict = safe 4 }
    ∷ []

-- W as an instance of the theorems: from no start of no memory is local state 2 visited
abbrev pub NeverReadsZero : Type 0
NeverReadsZero = (c : Configuration) → Start (program_of write_read) c → (ss : List Step) (d : Configuration) → Visited (program_of write_read) c ss d → d.state 0 ≡ 2 → ⊥

-- and what the wrong rule would call safe is reached
abbrev pub ReadsOne : Type 0
ReadsOne = PwsReachable (program_of write_twice) (0 ∷ 0 ∷ 0 ∷ 0 ∷ []) (one 3 0)

-- ---- the examples of *within*: variables x = 0 and y = 1

pub record WithinExamples : Type 0 where
  -- path x = 1, y = 0 is within path y = 0; within y = 0, x = 1 only if the newest message has x = 1
  pub shorter : path_within (λ v. none) (reads 0 1 ∷ reads 1 0 ∷ []) (reads 1 0 ∷ []) ≡ true
  pub turned : path_within (λ v. none) (reads 0 1 ∷ reads 1 0 ∷ []) (reads 1 0 ∷ reads 0 1 ∷ []) ≡ false
  pub turned_asked : path_within (one (some 1) none) (reads 0 1 ∷ reads 1 0 ∷ []) (reads 1 0 ∷ reads 0 1 ∷ []) ≡ true
  -- *ends* 0 1 is within *contains* FF 1 and *ends* 1; not within *ends* 1 1 and *empty*
  pub any_then_one : clue_within (ends (some 0 ∷ []) 1) (contains (none ∷ some 1 ∷ [])) ≡ true
  pub ends_one : clue_within (ends (some 0 ∷ []) 1) (ends [] 1) ≡ true
  pub ends_twice : clue_within (ends (some 0 ∷ []) 1) (ends (some 1 ∷ []) 1) ≡ false
  pub not_empty : clue_within (ends (some 0 ∷ []) 1) empty ≡ false
  -- a value goes to that value alone, never to any value
  pub value_to_any : clue_within (contains (none ∷ [])) (contains (some 0 ∷ [])) ≡ false
  -- the last value of an ended word is not passed over
  pub ends_other : clue_within (ends (some 1 ∷ []) 0) (ends [] 1) ≡ false

-- ---- the examples of predecessors

pub record PredecessorExamples : Type 0 where
  -- path y = 0, and x is read as 1 from a message
  pub read : before_read 0 1 (reads 1 0 ∷ []) ≡ (reads 0 1 ∷ reads 1 0 ∷ []) ∷ (reads 1 0 ∷ reads_own 0 1 ∷ []) ∷ []
  -- an own read of x stands already
  pub read_own : before_read 0 1 (reads 1 0 ∷ reads_own 0 1 ∷ []) ≡ (reads 1 0 ∷ reads_own 0 1 ∷ []) ∷ []
  pub read_other : before_read 0 0 (reads 1 0 ∷ reads_own 0 1 ∷ []) ≡ []
  -- another's path x = 1, y = 0, x = 1 at a new message of x: all of it, its last read, or nothing stands there
  pub cut : cuts 0 (reads 0 1 ∷ reads 1 0 ∷ reads 0 1 ∷ [])
      ≡ record { front = []; end = reads 0 1 ∷ reads 1 0 ∷ reads 0 1 ∷ [] }
      ∷ record { front = reads 0 1 ∷ reads 1 0 ∷ []; end = reads 0 1 ∷ [] }
      ∷ record { front = reads 0 1 ∷ reads 1 0 ∷ reads 0 1 ∷ []; end = [] }
      ∷ []
  -- its own: all from the first read of x on
  pub cut_own : own_cut 0 (reads 1 0 ∷ reads_own 0 1 ∷ reads 1 1 ∷ []) ≡ record { front = reads 1 0 ∷ []; end = reads 0 1 ∷ reads 1 1 ∷ [] }
  -- before an sfence nothing waits
  pub sfence : map (λ b. b.clue 0 0) (before_operation (program_of []).shape (in_state 1) 0 Sfence) ≡ empty ∷ []
  pub sfence_waits : before_operation (program_of []).shape (pattern_with 1 none (contains (none ∷ [])) []) 0 Sfence ≡ []
  -- *empty* with nothing known of the value that left is *contains* FF
  pub unknown : in_front none empty ≡ contains (none ∷ [])
  pub known : in_front (some 1) empty ≡ ends [] 1
