-- What the code knows of what was read: the program from the bytes g, the entries from the bytes f. No statement rests on these definitions.
use Rattle.std.specs.Prelude.{ℕ, zero, suc, ◌+◌, ◌*◌, ◌-◌, ◌<◌, ◌≤◌, ◌≡◌, Bool, true, not, List, ◌++◌, length, take, drop, replicate}
use Rattle.std.proofs.Math.Option.{none, some}
use Rattle.machine_pws.specs.Entries.{entry}
use Rattle.list_theory.specs.Lists.{lowest}
use Rattle.list_theory.specs.Verdict.{target}
use Rattle.list_theory.specs.Decision.{target_held, looks_started, closed, open_step, verdict_of}
use Rattle.file_records.specs.declared.program.Program.{Program}
use Rattle.file_records.specs.ProgramPart.{program_of, targets_of}
use Rattle.file_again.specs.Again.{cube_at, entries_of, target_of}
use Rattle.list_known.specs.FullStates.{four_at, with_states}
use Rattle.file_again.specs.Contents.{ProgramPartRead, EntryRange, ProgramSizes, CubeRange}
use Rattle.list_summary.specs.declared.listing.Listing.{Listing}
use Rattle.list_summary.specs.Summary.{Summed}
use Rattle.verdict.specs.Judge.{Verdict, safe, entered, of_list}

-- a list of n entries, as it was read
pub record Listed (g f list : List ℕ) (n : ℕ) (p : Program) : Type 0 where
  pub sizes : ProgramSizes p
  pub part : ProgramPartRead (program_of g p) (targets_of g p)
  pub count : n ≤ 524288
  pub entries : (k : ℕ) → k < n → EntryRange (program_of g p) (entry (entries_of f list n) k)
  pub cubes : (k : ℕ) → k < n → CubeRange (cube_at f list k)

-- in the upper part of a work area, with its offsets below `at` and room for its summary from there on
pub record ListReady (g f upper : List ℕ) (at n : ℕ) (p : Program) : Type 0 where
  pub offsets : 4 * n ≤ at
  pub room : at ≤ length upper
  pub slots : 8 * n ≤ length upper - at
  pub listed : Listed g f (take at upper) n p

-- the slots of n entries from `at` on are 0
unfoldable pub slots_cleared : List ℕ → ℕ → ℕ → List ℕ
slots_cleared upper at n = take at upper ++ (replicate (8 * n) 0 ++ drop (at + 8 * n) upper)

-- a list of n entries with its summary
pub record Ready (g f list sum : List ℕ) (n : ℕ) (p : Program) : Type 0 where
  pub summed : Summed f list sum n p.shape
  pub sizes : ProgramSizes p
  pub part : ProgramPartRead (program_of g p) (targets_of g p)
  pub count : n ≤ 524288
  pub entries : (k : ℕ) → k < n → EntryRange (program_of g p) (entry (entries_of f list n) k)
  pub cubes : (k : ℕ) → k < n → CubeRange (cube_at f list k)

-- ---- the tests of numbers 9, 10 and 11, by number

abbrev pub held_test : List ℕ → List ℕ → List ℕ → ℕ → Program → ℕ → Bool
held_test g f list n p k = target_held (program_of g p) (entries_of f list n) (target (targets_of g p) k)

-- number 9 is not said
abbrev pub TargetsHeld : List ℕ → List ℕ → List ℕ → ℕ → Program → Type 0
TargetsHeld g f list n p = (k : ℕ) → k < p.targets.count → held_test g f list n p k ≡ true

-- a table of full local states with those of the first m targets
unfoldable pub with_targets : List ℕ → Program → List ℕ → ℕ → List ℕ
with_targets g p table zero = table
with_targets g p table (suc m) = with_states (with_targets g p table m) (target_of g p m)

abbrev pub start_test : List ℕ → List ℕ → List ℕ → ℕ → Program → ℕ → Bool
start_test g f list n p k = not (looks_started (program_of g p) (entry (entries_of f list n) k))

abbrev pub closed_test : List ℕ → List ℕ → List ℕ → ℕ → Program → ℕ → Bool
closed_test g f list n p k = closed (program_of g p) (entries_of f list n) (entry (entries_of f list n) k)

-- of every number with local states of the table the test holds
pub record Known (states : ℕ → List ℕ) (test : ℕ → Bool) (n : ℕ) (table : List ℕ) : Type 0 where
  pub groups : (i : ℕ) → 4 * i + 4 ≤ length table → (k : ℕ) → k < n → states k ≡ four_at table (4 * i) → test k ≡ true

-- a target with local states of the table is held
abbrev pub Holds : List ℕ → List ℕ → List ℕ → ℕ → Program → List ℕ → Type 0
Holds g f list n p table = Known (target_of g p) (held_test g f list n p) p.targets.count table

-- nothing leads in to an entry with local states of the table
abbrev pub Shuts : List ℕ → List ℕ → List ℕ → ℕ → Program → List ℕ → Type 0
Shuts g f list n p table = Known (λ k. (cube_at f list k).states) (closed_test g f list n p) n table

-- the verdict of a list all of whose targets are held, and none of whose entries a start is above
abbrev pub entered_said : List ℕ → List ℕ → List ℕ → ℕ → Program → Verdict
entered_said g f list n p = elim (lowest (closed (program_of g p) (entries_of f list n)) (entries_of f list n)) [
  | some k ↦ entered k (open_step (program_of g p) (entries_of f list n) (entry (entries_of f list n) k))
  | none ↦ safe n
]

-- the verdict of the list
abbrev pub list_said : List ℕ → List ℕ → List ℕ → ℕ → Program → Verdict
list_said g f list n p = of_list (verdict_of (program_of g p) (targets_of g p) (entries_of f list n))

-- ---- the same of a list L and a program p that is read from the bytes g

module _ (L : Listing) (g : List ℕ) (p : Program) where
  abbrev pub ReadyIn : Type 0
  ReadyIn = Ready g L.file.now L.offsets.now L.summary.now L.count p

  abbrev pub held_in : ℕ → Bool
  held_in = held_test g L.file.now L.offsets.now L.count p

  abbrev pub TargetsHeldIn : Type 0
  TargetsHeldIn = TargetsHeld g L.file.now L.offsets.now L.count p

  abbrev pub start_in : ℕ → Bool
  start_in = start_test g L.file.now L.offsets.now L.count p

  abbrev pub closed_in : ℕ → Bool
  closed_in = closed_test g L.file.now L.offsets.now L.count p

  abbrev pub HoldsIn : List ℕ → Type 0
  HoldsIn = Holds g L.file.now L.offsets.now L.count p

  abbrev pub ShutsIn : List ℕ → Type 0
  ShutsIn = Shuts g L.file.now L.offsets.now L.count p

  abbrev pub entered_in : Verdict
  entered_in = entered_said g L.file.now L.offsets.now L.count p
