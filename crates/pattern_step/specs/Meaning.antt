-- What the code's clues, paths and patterns stand for. No statement rests on these definitions.
use Rattle.std.specs.Prelude as std
use Rattle.std.specs.Prelude.{ℕ, zero, suc, ◌+◌, ◌*◌, ◌<◌, ◌≤◌, min, ◌≡◌, Bool, true, false, cond, List, [], ◌∷◌, ◌++◌, map, get_or, take, drop, eqb, Some, None, IfSome}
use Rattle.std.proofs.Math.Option.{Option, none, some}
use Rattle.machine_pws.specs.Machine.{all_below}
use Rattle.file_records.specs.declared.program.Shape.{Shape}
use Rattle.pattern_theory.specs.Patterns as patterns
use Rattle.pattern_theory.specs.Patterns.{empty, ends, contains, PathRead}
use Rattle.pattern_theory.specs.Within.{clue_within}
use Rattle.pattern_theory.specs.Predecessors.{can_empty, with_newest, with_paths}
use Rattle.pattern_reading.specs.Records.{asked}
use Rattle.pattern_step.specs.declared.clues.Clue.{Clue}
use Rattle.pattern_step.specs.declared.clues.Clue.TheVariants.{Contains, Ends, Empty}
use Rattle.pattern_step.specs.declared.clues.Word.{Word}
use Rattle.pattern_step.specs.declared.paths.Read.{Read}
use Rattle.pattern_step.specs.declared.paths.PathReads.{PathReads}
use Rattle.pattern_step.specs.declared.patterns.Pattern.{Pattern}

-- ---- what may be absent

abbrev pub given : {A B : Type 0} → (A → B) → std.Option A → Option B
given f None = none
given f (Some x) = some (f x)

-- ---- clues

abbrev pub word_of : Word → List (Option ℕ)
word_of w = map asked (take w.count w.values)

abbrev pub clue_of : Clue → patterns.Clue
clue_of (Contains w) = contains (word_of w)
clue_of (Ends w v) = ends (word_of w) v
clue_of Empty = empty

-- how many values its word has
abbrev pub count_of : Clue → ℕ
count_of (Contains w) = w.count
count_of (Ends w v) = w.count
count_of Empty = 0

abbrev pub end_of : std.Option ℕ → List (Option ℕ)
end_of None = []
end_of (Some v) = some v ∷ []

-- r is what there is, if there is anything, and has at most n values
pub record ClueGiven (r : std.Option Clue) (k : Option patterns.Clue) (n : ℕ) : Type 0 where
  pub clue : given clue_of r ≡ k
  pub most : IfSome r (λ c. count_of c ≤ n)

pub record ClueFor (r : Clue) (k : patterns.Clue) (n : ℕ) : Type 0 where
  pub clue : clue_of r ≡ k
  pub most : count_of r ≤ n

-- ---- what is asked of the newest message

abbrev pub newest_of : List ℕ → ℕ → Option ℕ
newest_of xs v = asked (get_or xs v 255)

-- ---- paths

abbrev pub no_read : Read
no_read = record { variable = 0; value = 0; own = false }

abbrev pub read_of : Read → PathRead
read_of r = record { variable = r.variable; value = r.value; own = r.own }

abbrev pub reads_of : ℕ → List Read → List PathRead
reads_of n rs = map read_of (take n rs)

abbrev pub path_of : PathReads → List PathRead
path_of p = reads_of p.count p.reads

-- the reads of a file that was read, and of its program
pub record FineRead (r : Read) : Type 0 where
  pub variable : r.variable < 4
  pub value : r.value < 255

abbrev pub FineReads : PathReads → Type 0
FineReads p = (i : ℕ) → i < p.count → FineRead (get_or p.reads i no_read)

-- the place of the first read of x; past the last if there is none
abbrev pub place_of : ℕ → List PathRead → ℕ
place_of x [] = 0
place_of x (r ∷ rs) = cond (eqb r.variable x) 0 (suc (place_of x rs))

-- may an end begin here, at a new message of x?
abbrev pub starts_at : ℕ → List PathRead → ℕ → Bool
starts_at x [] c = true
starts_at x (r ∷ rs) zero = eqb r.variable x
starts_at x (r ∷ rs) (suc c) = starts_at x rs c

-- the read here counts as not own
abbrev pub not_own : ℕ → List PathRead → List PathRead
not_own c [] = []
not_own zero (r ∷ rs) = record { variable = r.variable; value = r.value; own = false } ∷ rs
not_own (suc c) (r ∷ rs) = r ∷ not_own c rs

-- r is the path with a read behind the first ones
pub record Inserted (r path : PathReads) (at : ℕ) (read : Read) : Type 0 where
  pub reads : path_of r ≡ take at (path_of path) ++ (read_of read ∷ drop at (path_of path))
  pub count : r.count ≡ path.count + 1
  pub fine : FineReads path → FineRead read → FineReads r

-- ---- patterns

abbrev pub no_clue : Clue
no_clue = Empty

abbrev pub no_path : PathReads
no_path = record { reads = []; count = 0 }

abbrev pub clue_at : List Clue → ℕ → ℕ → patterns.Clue
clue_at cs p v = clue_of (get_or cs (4 * p + v) no_clue)

abbrev pub path_at : List PathReads → ℕ → List PathRead
path_at ps p = path_of (get_or ps p no_path)

-- the tests of the queues of p
unfoldable pub row_within : ℕ → List Clue → List Clue → ℕ → Bool
row_within n a b p = all_below (min n 4) (λ v. clue_within (clue_at a p v) (clue_at b p v))

unfoldable pub row_empty : ℕ → List Clue → ℕ → Bool
row_empty n a p = all_below (min n 4) (λ v. can_empty (clue_at a p v))

-- a stands for e: in what there is of processes and variables. Its words have at most k values and its paths at most l reads.
pub record Stands (s : Shape) (k l : ℕ) (a : Pattern) (e : patterns.Pattern) : Type 0 where
  pub processes : s.processes ≤ 4
  pub variables : s.variables ≤ 4
  pub state : (p : ℕ) → p < s.processes → get_or a.states p 0 ≡ e.state p
  pub clue : (p v : ℕ) → p < s.processes → v < s.variables → clue_at a.clues p v ≡ e.clue p v
  pub newest : newest_of a.newest ≡ e.newest
  pub path : (p : ℕ) → p < s.processes → path_at a.paths p ≡ e.path p
  pub words : (i : ℕ) → i < 16 → count_of (get_or a.clues i no_clue) ≤ k
  pub lengths : (p : ℕ) → p < 4 → (get_or a.paths p no_path).count ≤ l
  pub fine : (p : ℕ) → p < 4 → FineReads (get_or a.paths p no_path)

-- r is the one pattern of a list, or the list has none
pub data GivenBy (s : Shape) : std.Option Pattern → List patterns.Pattern → Type 0 where
  absent : GivenBy s None []
  present : {a : Pattern} {b : patterns.Pattern} → Stands s 9 17 a b → GivenBy s (Some a) (b ∷ [])

-- r is the pattern e with another newest message and other paths, of which a list is made; or the list is empty
pub data MessageBy (s : Shape) (e : patterns.Pattern) (to : (ℕ → Option ℕ) → (ℕ → List PathRead) → List patterns.Pattern) : std.Option Pattern → List patterns.Pattern → Type 0 where
  no_message_lem : MessageBy s e to None []
  message : {a : Pattern} (newest : ℕ → Option ℕ) (fronts : ℕ → List PathRead) → Stands s 8 16 a (with_paths (with_newest e newest) fronts) → MessageBy s e to (Some a) (to newest fronts)
