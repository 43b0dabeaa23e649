-- The worked cases A to K of document 01 ("Judged files"), with the causes, starting memories, shapes and steps of document 02 (N1, N3, N5, N13),
-- runs of the PSO machine (N7), and small examples of the refusal table, as one table with one statement. Files are rows of bytes, K is two facts about queues. Bytes are in
-- decimal: 15 is 0F, 16 to 18 are 10 to 12, 31 is 1F, 32 to 34 are 20 to 22, 255 is FF.
use Rattle.std.specs.Prelude.{ℕ, zero, suc, ◌≤◌, ◌≡◌, List, [], ◌∷◌, ◌++◌}
use Rattle.machine_pws.specs.Order.{QueueBelow}
use Rattle.machine_pws.specs.declared.Step.TheVariants.{Take, Serialise, Update}
use Rattle.file_contents.specs.declared.evidence.Part.{Part}
use Rattle.file_contents.specs.declared.evidence.Part.TheVariants.{InProgram, InEvidence}
use Rattle.file_contents.specs.Reading.{Input, combined, pair, read_file}
use Rattle.file_again.specs.Offending.{offending}
use Rattle.verdict.specs.Judge.{Verdict, safe, reachable, pso, refused, entered, judged}

-- ---- rows and what they say

pub data Row : Type 0 where
  -- a file and its verdict
  file : List ℕ → Verdict → Row
  -- a program file, an evidence file, and the verdict
  files : List ℕ → List ℕ → Verdict → Row
  -- what is judged, and the record that is handed back: its part, where it stands there, and its bytes
  hands : Input → Part → ℕ → List ℕ → Row
  -- the first queue is below the second, or is not
  below : List ℕ → List ℕ → Row
  not_below : List ℕ → List ℕ → Row

-- with every work area that is not refused
unfoldable pub Holds : Row → Type 0
Holds (file f v) = (area : ℕ) → 65536 ≤ area → judged (combined f) area ≡ v
Holds (files g f v) = (area : ℕ) → 65536 ≤ area → judged (pair g f) area ≡ v
Holds (hands x w at bytes) = (area : ℕ) → 65536 ≤ area → offending x (read_file x area) ≡ record { part = w; at = at; bytes = bytes }
Holds (below xs ys) = QueueBelow xs ys
Holds (not_below xs ys) = QueueBelow xs ys → ⊥

-- ---- records

-- one process with two states, one variable with so many values
abbrev pub small_of : ℕ → List ℕ
small_of values = 1 ∷ 1 ∷ 1 ∷ values ∷ 0 ∷ 0 ∷ 0 ∷ 2 ∷ 2 ∷ 0 ∷ []

-- with two
abbrev pub small : List ℕ
small = small_of 2

-- two processes with three states, two variables with two values
abbrev pub two_processes : List ℕ
two_processes = 1 ∷ 2 ∷ 2 ∷ 2 ∷ 2 ∷ 0 ∷ 0 ∷ 2 ∷ 3 ∷ 0 ∷ 2 ∷ 3 ∷ 0 ∷ []

-- one process with three states, one variable with two values
abbrev pub single : List ℕ
single = 1 ∷ 1 ∷ 1 ∷ 2 ∷ 0 ∷ 0 ∷ 0 ∷ 2 ∷ 3 ∷ 0 ∷ []

-- process, from, operation, variable, value, to; the new value is 0
abbrev pub goes : ℕ → ℕ → ℕ → ℕ → ℕ → ℕ → List ℕ
goes p from operation v x to = 3 ∷ p ∷ from ∷ operation ∷ v ∷ x ∷ 0 ∷ to ∷ []

abbrev pub target : ℕ → ℕ → List ℕ
target q r = 4 ∷ q ∷ r ∷ 0 ∷ 0 ∷ []

abbrev pub claim : ℕ → List ℕ
claim x = 15 ∷ x ∷ []

-- the starting memory of a run, with this value in variable 0
abbrev pub starting : ℕ → List ℕ
starting x = 31 ∷ x ∷ 0 ∷ 0 ∷ 0 ∷ []

-- a run from a memory of zeros
abbrev pub from_zeros : List ℕ
from_zeros = claim 1 ++ starting 0

-- the same, of the PSO machine
abbrev pub pso_from_zeros : List ℕ
pso_from_zeros = claim 2 ++ starting 0

-- an entry of one process, whose pointer is 1
abbrev pub entry : ℕ → List ℕ
entry q = 16 ∷ q ∷ 0 ∷ 0 ∷ 0 ∷ 1 ∷ 0 ∷ 0 ∷ 0 ∷ []

-- with this value in variable 0
abbrev pub message_of : ℕ → List ℕ
message_of x = 17 ∷ 0 ∷ 0 ∷ x ∷ 0 ∷ 0 ∷ 0 ∷ []

abbrev pub message : List ℕ
message = message_of 255

abbrev pub waiting : ℕ → List ℕ
waiting x = 18 ∷ 0 ∷ 0 ∷ x ∷ []

abbrev pub take_step : ℕ → List ℕ
take_step n = 32 ∷ n ∷ []

abbrev pub serialise : ℕ → ℕ → List ℕ
serialise p v = 33 ∷ p ∷ v ∷ []

abbrev pub update : ℕ → List ℕ
update p = 34 ∷ p ∷ []

-- under claim 2 a 21 is an update of a variable, and a 22 removes a mark
abbrev pub update_variable : ℕ → ℕ → List ℕ
update_variable = serialise

abbrev pub remove_mark : ℕ → List ℕ
remove_mark = update

-- ---- files

-- the four entries of A, in state q
abbrev pub first : ℕ → List ℕ
first q = entry q ++ message

abbrev pub second : ℕ → ℕ → List ℕ
second q x = entry q ++ message ++ waiting x

abbrev pub others : ℕ → List ℕ
others q = entry q ++ message ++ message ++ entry q ++ message ++ message ++ waiting 255

abbrev pub four : ℕ → List ℕ
four q = first q ++ second q 255 ++ others q

abbrev pub case_a : List ℕ
case_a = small ++ target 1 0 ++ claim 0 ++ four 1

-- the same entries with x at each FF
abbrev pub four_of : ℕ → List ℕ
four_of x =
    entry 1 ++ message_of x ++ entry 1 ++ message_of x ++ waiting x ++ entry 1 ++ message_of x ++ message_of x
    ++ entry 1 ++ message_of x ++ message_of x ++ waiting x

-- E's transition
abbrev pub nop : List ℕ
nop = goes 0 0 0 0 0 1

-- process 0 writes variable 0 := 1, then variable 1 := 1; process 1 reads variable 1 as 1, then variable 0 as 0
abbrev pub program_g : List ℕ
program_g = two_processes ++ goes 0 0 2 0 1 1 ++ goes 0 1 2 1 1 2 ++ goes 1 0 1 1 1 1 ++ goes 1 1 1 0 0 2 ++ target 2 2

-- an sfence between the writes
abbrev pub program_j : List ℕ
program_j =
    1 ∷ 2 ∷ 2 ∷ 2 ∷ 2 ∷ 0 ∷ 0 ∷ 2 ∷ 4 ∷ 0 ∷ 2 ∷ 3 ∷ 0 ∷ []
    ++ goes 0 0 2 0 1 1 ++ goes 0 1 4 0 0 2 ++ goes 0 2 2 1 1 3 ++ goes 1 0 1 1 1 1 ++ goes 1 1 1 0 0 2 ++ target 3 2

-- store buffering: each process writes 1 to its own variable and reads 0 in the other's
abbrev pub buffering : List ℕ
buffering = two_processes ++ goes 0 0 2 0 1 1 ++ goes 0 1 1 1 0 2 ++ goes 1 0 2 1 1 1 ++ goes 1 1 1 0 0 2 ++ target 2 2

-- an sfence, then an arw
abbrev pub marked : List ℕ
marked = single ++ goes 0 0 4 0 0 1 ++ goes 0 1 5 0 0 2 ++ target 2 0

-- one process writes 1; then it may read 1, read 0, or pass an sfence or an mfence
abbrev pub program_h : List ℕ
program_h = single ++ goes 0 0 2 0 1 1 ++ goes 0 1 1 0 1 2 ++ goes 0 1 1 0 0 2 ++ goes 0 1 4 0 0 2 ++ goes 0 1 3 0 0 2 ++ target 2 0

-- one process reads 1
abbrev pub program_n : List ℕ
program_n = small ++ goes 0 0 1 0 1 1 ++ target 1 0

-- with what it reads before, in state 0: the newest own value that waits, or else the newest message, is 1
abbrev pub reads_one : List ℕ
reads_one =
    entry 0 ++ message_of 1 ++ entry 0 ++ message ++ waiting 1 ++ entry 0 ++ message ++ message_of 1 ++ entry 0 ++ message ++ message ++ waiting 1

abbrev pub targets : ℕ → List ℕ
targets zero = []
targets (suc n) = target 1 0 ++ targets n

abbrev pub messages : ℕ → List ℕ
messages zero = []
messages (suc n) = message ++ messages n

-- ---- the table

pub data Each (F : Row → Type 0) : List Row → Type 0 where
  no_row : Each F []
  row : {r : Row} {rs : List Row} → F r → Each F rs → Each F (r ∷ rs)

abbrev pub cases : List Row
cases =
    -- A
    file case_a (safe 4)
    -- B: without its second entry
    ∷ file (small ++ target 1 0 ++ claim 0 ++ first 1 ++ others 1) (refused 9 0)
    -- C: the second entry's waiting value is 0
    ∷ file (small ++ target 1 0 ++ claim 0 ++ first 1 ++ second 1 0 ++ others 1) (refused 9 0)
    -- D: the second entry twice, with 0 and with 1
    ∷ file (small ++ target 1 0 ++ claim 0 ++ first 1 ++ second 1 0 ++ second 1 1 ++ others 1) (safe 5)
    -- E: with a transition; and as a run
    ∷ file (small ++ nop ++ target 1 0 ++ claim 0 ++ four 1) (entered 0 (Take 0))
    ∷ file (small ++ nop ++ target 1 0 ++ from_zeros ++ take_step 0) (reachable 1 0)
    -- the lowest of three transitions that leads into state 1
    ∷ file (small ++ goes 0 1 0 0 0 0 ++ nop ++ nop ++ target 1 0 ++ claim 0 ++ four 1) (entered 0 (Take 1))
    -- A with an entry in state 0: the second of its messages was a value that waited, or the process pointed at an older one; in state 0 with a
    -- value that waits and one message, only the latter
    ∷ file (small ++ target 1 0 ++ claim 0 ++ four 1 ++ entry 0 ++ message ++ message) (entered 4 (Serialise 0 0))
    ∷ file (small ++ target 1 0 ++ claim 0 ++ four 1 ++ entry 0 ++ message ++ waiting 255) (entered 4 (Update 0))
    -- F: target and entries in state 0; and as a run
    ∷ file (small ++ target 0 0 ++ claim 0 ++ four 0) (refused 10 0)
    ∷ file (small ++ target 0 0 ++ from_zeros) (reachable 0 0)
    -- G
    ∷ file (program_g ++ from_zeros ++ take_step 0 ++ take_step 1 ++ serialise 0 1 ++ update 1 ++ take_step 2 ++ take_step 3) (reachable 6 0)
    -- H: read 1 with the pointer still at 1; reading 0 there is not permitted
    ∷ file (program_h ++ from_zeros ++ take_step 0 ++ serialise 0 0 ++ take_step 1) (reachable 3 0)
    ∷ file (program_h ++ from_zeros ++ take_step 0 ++ serialise 0 0 ++ take_step 2) (refused 15 2)
    -- I: after that serialise sfence is permitted and mfence is not; after one update mfence is
    ∷ file (program_h ++ from_zeros ++ take_step 0 ++ serialise 0 0 ++ take_step 3) (reachable 3 0)
    ∷ file (program_h ++ from_zeros ++ take_step 0 ++ serialise 0 0 ++ take_step 4) (refused 17 2)
    ∷ file (program_h ++ from_zeros ++ take_step 0 ++ serialise 0 0 ++ update 0 ++ take_step 4) (reachable 4 0)
    -- J
    ∷ file (program_j ++ from_zeros ++ take_step 0 ++ take_step 1) (refused 16 1)
    -- 12: the nop of E a second time, in state 1; 18: what was serialised is serialised again, and no newer message is there
    ∷ file (small ++ nop ++ target 1 0 ++ from_zeros ++ take_step 0 ++ take_step 0) (refused 12 1)
    ∷ file (program_h ++ from_zeros ++ take_step 0 ++ serialise 0 0 ++ serialise 0 0) (refused 18 2)
    ∷ file (program_h ++ from_zeros ++ take_step 0 ++ update 0) (refused 18 1)
    -- a run that needs a starting value other than 0
    ∷ file (program_n ++ claim 1 ++ starting 1 ++ take_step 0) (reachable 1 0)
    ∷ file (program_n ++ from_zeros ++ take_step 0) (refused 15 0)
    -- a list that holds no start of cleared memory: its entry 4 is a start whose variable is 1
    ∷ file (program_n ++ claim 0 ++ four 1 ++ reads_one) (refused 10 4)
    -- the file ends before the starting memory; another record stands there; it stands there twice, or in a list; a value that does not exist
    ∷ file (program_n ++ claim 1) (refused 6 25)
    ∷ file (program_n ++ claim 1 ++ take_step 0) (refused 2 25)
    ∷ file (program_n ++ from_zeros ++ starting 0) (refused 2 30)
    ∷ file (program_n ++ claim 0 ++ starting 0) (refused 2 25)
    ∷ file (program_n ++ claim 1 ++ starting 255) (refused 4 25)
    -- K
    ∷ below (1 ∷ []) (0 ∷ 1 ∷ [])
    ∷ not_below (1 ∷ []) (1 ∷ 0 ∷ [])
    -- the refusal table's small examples of 2, 1, 5, 3, 4, 7, 6, 9 and 13
    ∷ file (7 ∷ []) (refused 2 0)
    ∷ file (1 ∷ 1 ∷ []) (refused 1 0)
    ∷ file (small ++ target 1 0 ++ claim 0 ++ entry 1 ++ messages 17) (refused 5 138)
    ∷ file (1 ∷ 0 ∷ 1 ∷ 2 ∷ 0 ∷ 0 ∷ 0 ∷ []) (refused 3 0)
    ∷ file (1 ∷ 1 ∷ 1 ∷ 2 ∷ 0 ∷ 0 ∷ 0 ∷ 2 ∷ 2 ∷ 0 ∷ 4 ∷ 2 ∷ 0 ∷ 0 ∷ 0 ∷ []) (refused 4 10)
    ∷ file (small ++ target 1 0 ++ claim 0 ++ (16 ∷ 1 ∷ 0 ∷ 0 ∷ 0 ∷ 0 ∷ 0 ∷ 0 ∷ 0 ∷ []) ++ message) (refused 7 17)
    ∷ file [] (refused 6 0)
    ∷ file (small ++ target 1 0 ++ claim 0) (refused 9 0)
    ∷ file (small ++ target 1 0 ++ from_zeros) (refused 13 0)
    -- 17 targets are allowed (document 02, N8): the file ends before its claim
    ∷ file (small ++ targets 17) (refused 6 95)
    -- counts of values (document 02, N5): 5 of a variable that is there, and 0; 1 of one that is not; 3 comes before 4
    ∷ file (1 ∷ 1 ∷ 1 ∷ 5 ∷ 0 ∷ 0 ∷ 0 ∷ []) (refused 3 0)
    ∷ file (1 ∷ 1 ∷ 2 ∷ 4 ∷ 0 ∷ 0 ∷ 0 ∷ []) (refused 3 0)
    ∷ file (1 ∷ 1 ∷ 1 ∷ 2 ∷ 1 ∷ 0 ∷ 0 ∷ []) (refused 4 0)
    ∷ file (1 ∷ 1 ∷ 1 ∷ 5 ∷ 1 ∷ 0 ∷ 0 ∷ []) (refused 3 0)
    -- a tick has four values and a flag two: 2 may be written to the tick, and not to the flag
    ∷ file ((1 ∷ 1 ∷ 2 ∷ 4 ∷ 2 ∷ 0 ∷ 0 ∷ 2 ∷ 2 ∷ 0 ∷ []) ++ goes 0 0 2 0 2 1 ++ goes 0 0 2 1 2 1) (refused 4 18)
    -- D of a variable with three values: 0 and 1 are not all, 2 is missing
    ∷ file (small_of 3 ++ target 1 0 ++ claim 0 ++ first 1 ++ second 1 0 ++ second 1 1 ++ others 1) (refused 9 0)
    ∷ file (small_of 3 ++ target 1 0 ++ claim 0 ++ first 1 ++ second 1 0 ++ second 1 1 ++ second 1 2 ++ others 1) (safe 6)
    -- of one value, FF and 0 are the same
    ∷ file (small_of 1 ++ target 1 0 ++ claim 0 ++ four_of 0) (safe 4)
    ∷ file (small_of 2 ++ target 1 0 ++ claim 0 ++ four_of 0) (refused 9 0)
    -- runs of the PSO machine (document 02, N7): G and store buffering; J, whose sfence is permitted and keeps the writes in order
    ∷ file (program_g ++ pso_from_zeros ++ take_step 0 ++ take_step 1 ++ update_variable 0 1 ++ take_step 2 ++ take_step 3) (pso 5 0)
    ∷ file (buffering ++ pso_from_zeros ++ take_step 0 ++ take_step 1 ++ take_step 2 ++ take_step 3) (pso 4 0)
    ∷ file (program_j ++ pso_from_zeros ++ take_step 0 ++ take_step 1 ++ take_step 2 ++ update_variable 0 0 ++ remove_mark 0 ++ update_variable 0 1 ++ take_step 3 ++ take_step 4) (refused 15 7)
    -- 12; 15, and a starting memory that has the value; 16: a value for an mfence, and a mark for an arw, which is permitted once it is removed
    ∷ file (small ++ nop ++ target 1 0 ++ pso_from_zeros ++ take_step 0 ++ take_step 0) (refused 12 1)
    ∷ file (program_h ++ pso_from_zeros ++ take_step 0 ++ update_variable 0 0 ++ take_step 2) (refused 15 2)
    ∷ file (program_n ++ pso_from_zeros ++ take_step 0) (refused 15 0)
    ∷ file (program_n ++ claim 2 ++ starting 1 ++ take_step 0) (pso 1 0)
    ∷ file (program_h ++ pso_from_zeros ++ take_step 0 ++ take_step 4) (refused 16 1)
    ∷ file (marked ++ pso_from_zeros ++ take_step 0 ++ take_step 1) (refused 16 1)
    ∷ file (marked ++ pso_from_zeros ++ take_step 0 ++ remove_mark 0 ++ take_step 1) (pso 3 0)
    -- 18: nothing to update; a mark heads the queue; a mark does not head every queue; 13
    ∷ file (program_h ++ pso_from_zeros ++ update_variable 0 0) (refused 18 0)
    ∷ file (program_j ++ pso_from_zeros ++ take_step 0 ++ take_step 1 ++ take_step 2 ++ update_variable 0 1) (refused 18 3)
    ∷ file (program_j ++ pso_from_zeros ++ take_step 0 ++ take_step 1 ++ remove_mark 0) (refused 18 2)
    ∷ file (small ++ target 1 0 ++ pso_from_zeros) (refused 13 0)
    -- the starting memory is missing, another record stands there; a claim above 2
    ∷ file (small ++ target 1 0 ++ claim 2) (refused 6 17)
    ∷ file (small ++ target 1 0 ++ claim 2 ++ take_step 0) (refused 2 17)
    ∷ file (small ++ target 1 0 ++ claim 3 ++ starting 0) (refused 4 15)
    -- a program file and an evidence file (document 02, N6): A and G; the same list for a program with a transition
    ∷ files (small ++ target 1 0) (claim 0 ++ four 1) (safe 4)
    ∷ files program_g (from_zeros ++ take_step 0 ++ take_step 1 ++ serialise 0 1 ++ update 1 ++ take_step 2 ++ take_step 3) (reachable 6 0)
    ∷ files (small ++ nop ++ target 1 0) (claim 0 ++ four 1) (entered 0 (Take 0))
    -- the program file ends before its first 04; an 0F in it is 2; it is read through before the evidence
    ∷ files small (claim 0 ++ four 1) (refused 6 10)
    ∷ files (small ++ target 1 0 ++ claim 0 ++ four 1) (claim 0 ++ four 1) (refused 2 15)
    ∷ files (small ++ target 1 0 ++ target 2 0) [] (refused 4 15)
    -- evidence begins with 0F, and offsets count within its file
    ∷ files (small ++ target 1 0) [] (refused 6 0)
    ∷ files (small ++ target 1 0) (four 1) (refused 2 0)
    ∷ files (small ++ target 1 0) (claim 0 ++ first 1 ++ waiting 2) (refused 4 18)
    -- the records that these hand back: the kind byte alone of an unknown kind; a known one whole, in whichever file it stands, or cut at the file's end; the
    -- 10 of a bad entry; the empty end of the file that ended; and of the evidence or combined file in every other case
    ∷ hands (pair (small ++ target 1 0) (claim 0 ++ 7 ∷ 0 ∷ [])) InEvidence 2 (7 ∷ [])
    ∷ hands (pair (small ++ target 1 0 ++ claim 0 ++ four 1) []) InProgram 15 (claim 0)
    ∷ hands (pair (small ++ target 1 0 ++ first 1) []) InProgram 15 (entry 1)
    ∷ hands (pair (small ++ target 1 0) (first 1)) InEvidence 0 (entry 1)
    ∷ hands (combined (small ++ target 1 0 ++ claim 0 ++ first 1 ++ waiting 2)) InEvidence 33 (waiting 2)
    ∷ hands (combined (1 ∷ 1 ∷ [])) InProgram 0 (1 ∷ 1 ∷ [])
    ∷ hands (pair (small ++ target 1 0) (15 ∷ [])) InEvidence 0 (15 ∷ [])
    ∷ hands (pair (small ++ target 1 0) (claim 0 ++ entry 1 ++ first 1)) InEvidence 2 (entry 1)
    ∷ hands (pair small (claim 0 ++ four 1)) InProgram 10 []
    ∷ hands (pair (small ++ target 1 0) []) InEvidence 0 []
    ∷ hands (combined case_a) InEvidence 103 []
    ∷ hands (pair (small ++ nop ++ target 1 0) (claim 0 ++ four 1)) InEvidence 88 []
    ∷ []
