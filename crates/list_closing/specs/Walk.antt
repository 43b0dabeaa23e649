-- The walk over the predecessors of an entry, in the order of `steps`.
use Rattle.std.specs.Prelude.{ℕ, ◌+◌, ◌-◌, ◌/◌, ◌%◌, ◌<◌, ◌≤◌, min, ◌≡◌, Bool, true, false, cond, ◌&&◌, List, length, get_or, ltb, Option, Some, None, MatchOption}
use Rattle.machine_pws.specs.declared.Operation.{Operation}
use Rattle.machine_pws.specs.declared.Operation.TheVariants.{Nop}
use Rattle.machine_pws.specs.declared.Step.{Step}
use Rattle.machine_pws.specs.declared.Step.TheVariants.{Take, Serialise, Update}
use Rattle.machine_pws.specs.Program as pws
use Rattle.machine_pws.specs.Program.{transition}
use Rattle.machine_pws.specs.Machine.{Configuration}
use Rattle.machine_pws.specs.Configurations.{Fits}
use Rattle.machine_pws.specs.Entries.{ValueOrFF, EntryOf}
use Rattle.list_theory.specs.Lists.{every}
use Rattle.list_theory.specs.Predecessors as lists
use Rattle.list_theory.specs.Predecessors.{predecessors, serialised, has_operation, is_undone, undone}
use Rattle.list_theory.specs.Decision.{held, closed, open_step}
use Rattle.file_records.specs.declared.program.Program.{Program}
use Rattle.file_contents.specs.declared.entry.Cube.{Cube}
use Rattle.file_records.specs.ProgramPart.{shape_of, program_of}
use Rattle.file_contents.specs.Cube.{configuration_of}
use Rattle.file_again.specs.Again.{cube_at, transition_of}
use Rattle.list_known.specs.FullStates.{Full, is_full, states_from}
use Rattle.list_known.specs.FamilyTable.{Families}
use Rattle.list_summary.specs.Summary.{Summed}
use Rattle.list_cube.specs.Editing.{Sound}
use Rattle.list_before.specs.Before.{take_before}
use Rattle.list_closing.specs.declared.closing.Closing.{Closing}
use Rattle.list_closing.specs.Closing.{program_in, entries_in}

-- every predecessor cube of e for the step s is held: `closed` asks it of each step
unfoldable pub step_held : pws.Program → List Configuration → Configuration → Step → Bool
step_held P es e s = every (held P.shape es) (predecessors P e s)

-- ---- steps by number

-- Step j: a transition, then a serialise by process and variable, then an update. Those that the shape does not have have no cubes, and the
-- others stand in the order of `steps`.
unfoldable pub walk_step : ℕ → ℕ → Step
walk_step transitions j =
    cond (ltb j transitions) (Take j)
    (cond (ltb (j - transitions) 16) (Serialise ((j - transitions) / 4) ((j - transitions) % 4)) (Update (j - transitions - 16)))

-- there are 20 after the transitions
unfoldable pub opening_at : ℕ → ℕ → Option Step
opening_at transitions j = cond (ltb j (transitions + 20)) (Some (walk_step transitions j)) None

-- what `closed` and `open_step` say of an entry
unfoldable pub opening_of : pws.Program → List Configuration → Configuration → Option Step
opening_of P es e = cond (closed P es e) None (Some (open_step P es e))

-- r is the lowest number below n that fails the test
pub record FailsFirst (g : ℕ → Bool) (n r : ℕ) : Type 0 where
  pub exists : r < n
  pub each : (j : ℕ) → j < r → g j ≡ true
  pub fails : g r ≡ false

-- the lowest number below n that fails the test, or none if none does
abbrev pub LowestFailing : (ℕ → Bool) → ℕ → Option ℕ → Type 0
LowestFailing g n o = MatchOption o ((j : ℕ) → j < n → g j ≡ true) (FailsFirst g n)

-- ---- what the walk goes over: the program is read from the bytes g, the entries from the bytes f

-- an entry of a file that was read
pub record Stepping (g : List ℕ) (p : Program) (c : Cube) : Type 0 where
  pub program : pws.ProgramInRange (program_of g p)
  pub sound : Sound p.shape c

-- and the entries with it, of which it is one
pub record Walkable (g f list sum : List ℕ) (n : ℕ) (p : Program) (c : Cube) : Type 0 where
  pub count : n ≤ 524288
  pub transitions : p.transitions.count ≤ 256
  pub stepping : Stepping g p c
  pub own : EntryOf (program_of g p) (configuration_of c)
  pub number : ℕ
  pub listed : number < n
  pub is : cube_at f list number ≡ c
  pub entries : (k : ℕ) → k < n → Fits (ValueOrFF (shape_of p.shape)) (shape_of p.shape) (configuration_of (cube_at f list k))
  pub summed : Summed f list sum n p.shape

-- local states that stand in a table of full ones, as do those from which a transition leads there
pub record Surrounded (full g : List ℕ) (p : Program) (states : List ℕ) : Type 0 where
  pub own : is_full full p.shape states ≡ true
  pub before : (j : ℕ) → j < min p.transitions.count 256 → get_or states (transition_of g p j).process 0 ≡ (transition_of g p j).to
      → is_full full p.shape (states_from states (transition_of g p j).process (transition_of g p j).from) ≡ true

-- transition j is one of p from x, with the operation o, to the state that p has in e
pub record Acting (P : pws.Program) (e : Configuration) (j p x : ℕ) (o : Operation) : Type 0 where
  pub exists : j < length P.transitions
  pub is : transition P j ≡ record { process = p; from = x; operation = o; to = e.state p }

-- The condition of this crate's contracts: the cube is one of the entries, and the tables have full local states and full families. On other bytes its
-- functions end, and nothing is said of what they give.
pub record Searching (w : Closing) (c : Cube) : Type 0 where
  pub walkable : Walkable w.code.now w.listing.file.now w.listing.offsets.now w.listing.summary.now w.listing.count w.program c
  pub full : Full (program_in w) (entries_in w) w.full.now
  pub families : Families (shape_of w.program.shape) (entries_in w) w.families.now

-- r says whether all predecessor cubes of the cube for the step are held
abbrev pub StepHeld : Closing → Cube → Step → Bool → Type 0
StepHeld w c s r = r ≡ step_held (program_in w) (entries_in w) (configuration_of c) s

-- r says whether all predecessor cubes for such a transition are held
abbrev pub TakenHeld : Closing → Cube → ℕ → ℕ → Operation → Bool → Type 0
TakenHeld w c q x o r = Searching w c → (j : ℕ) → Acting (program_in w) (configuration_of c) j q x o → StepHeld w c (Take j) r

-- before the operation o there is nothing but another local state, where `may` says so, and else there is nothing
pub record LikeNop (s : pws.Shape) (e : Configuration) (q x : ℕ) (o : Operation) (may : Bool) : Type 0 where
  pub kinds : (k : lists.Kind) → has_operation s e q o k ≡ is_undone k && may
  pub before : take_before e q x o undone ≡ take_before e q x Nop undone

-- the newest message is one that a serialise of p and v made
pub record Serialising (g f list sum : List ℕ) (n : ℕ) (s : Program) (c : Cube) (p v : ℕ) : Type 0 where
  pub walkable : Walkable g f list sum n s c
  pub process : p < s.shape.processes
  pub variable : v < s.shape.variables
  pub made : serialised (shape_of s.shape) (configuration_of c).memory p v ≡ true

abbrev pub SerialisingIn : Closing → Cube → ℕ → ℕ → Type 0
SerialisingIn w c p v = Serialising w.code.now w.listing.file.now w.listing.offsets.now w.listing.summary.now w.listing.count w.program c p v
