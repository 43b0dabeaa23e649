-- The predecessors of a pattern by number, as the code makes them: each number gives one pattern or none. No statement rests on these definitions.
use Rattle.std.specs.Prelude.{ℕ, zero, suc, ◌*◌, ◌/◌, ◌%◌, ◌<◌, ◌≤◌, ◌≡◌, Bool, cond, ◌&&◌, not, List, [], ◌∷◌, ◌++◌, map, length, take, drop, eqb, leb}
use Rattle.std.proofs.Math.Option.{Option, none, some}
use Rattle.machine_pws.specs.declared.Operation.{Operation}
use Rattle.machine_pws.specs.declared.Operation.TheVariants.{Nop, Read, Write, Mfence, Sfence, Arw}
use Rattle.machine_pws.specs.declared.Transition.{Transition}
use Rattle.machine_pws.specs.declared.Step.{Step}
use Rattle.machine_pws.specs.declared.Step.TheVariants.{Take, Serialise, Update}
use Rattle.machine_pws.specs.Program.{Shape, Program, transition}
use Rattle.machine_pws.specs.Machine.{put, all_below}
use Rattle.list_theory.specs.Lists.{for_below, for_each, every}
use Rattle.pattern_theory.specs.Patterns.{PathRead, Pattern}
use Rattle.pattern_theory.specs.Patterns.{empty}
use Rattle.pattern_theory.specs.Predecessors.{provided, from_option, agrees, can_empty, waiting, in_front, first_own, Cut, own_cut, joined, with_state, with_clue, with_newest, with_path, with_paths, before_operation, before}
use Rattle.file_records.specs.declared.program.Shape as program
use Rattle.pattern_step.specs.declared.patterns.Pattern as code
use Rattle.pattern_step.specs.Meaning.{place_of, starts_at, Stands}

-- ---- reading a message: the read behind the first n reads of the path, own but in front

abbrev pub inserted_at : ℕ → ℕ → List PathRead → ℕ → List PathRead
inserted_at x v path n = take n path ++ (record { variable = x; value = v; own = not (eqb n 0) } ∷ drop n path)

abbrev pub read_numbered : ℕ → ℕ → List PathRead → ℕ → List (List PathRead)
read_numbered x v path n = elim (first_own x path) [
  | some u ↦ cond (eqb n 0 && eqb u v) (path ∷ []) []
  | none ↦ cond (leb n (place_of x path)) (inserted_at x v path n ∷ []) []
]

-- ---- a new message of label (p, x): a number is a place of each path but p's, where its end begins

-- how many places there are but the first; of p's path one alone
abbrev pub places_more : (ℕ → List PathRead) → ℕ → ℕ → ℕ
places_more path p q = cond (eqb q p) 0 (length (path q))

-- n is how many the path of q has
pub record PlacesMore (s : program.Shape) (a : code.Pattern) (p q n : ℕ) : Type 0 where
  pub here : (k l : ℕ) (e : Pattern) → Stands s k l a e → q < s.processes → n ≡ places_more e.path p q
  pub past : s.processes ≤ q → n ≡ 0

-- how many numbers there are for the processes below n
abbrev pub many : (ℕ → ℕ) → ℕ → ℕ
many more zero = 1
many more (suc n) = many more n * suc (more n)

-- the place that number j has for process q
abbrev pub digit : (ℕ → ℕ) → ℕ → ℕ → ℕ → ℕ
digit more zero j q = 0
digit more (suc n) j q = cond (eqb q n) (j % suc (more n)) (digit more n (j / suc (more n)) q)

-- the cuts of process q at a place: one or none
abbrev pub cuts_at : ℕ → (ℕ → List PathRead) → ℕ → Cut → ℕ → ℕ → List Cut
cuts_at x path p k q c = cond (eqb q p) (k ∷ []) (cond (starts_at x (path q) c) (record { front = take c (path q); end = drop c (path q) } ∷ []) [])

-- what number j gives
abbrev pub picked : (ℕ → ℕ) → (ℕ → ℕ → List Cut) → ℕ → ℕ → ((ℕ → Cut) → List Pattern) → List Pattern
picked more cut zero j to = to (λ q. record { front = []; end = [] })
picked more cut (suc n) j to = picked more cut n (j / suc (more n)) (λ g. for_each (cut n (j % suc (more n))) (λ c. to (put g n c)))

-- a new message of n processes, by number
abbrev pub message_numbered : ℕ → (ℕ → Option ℕ) → (ℕ → List PathRead) → ℕ → ℕ → Cut → ((ℕ → Option ℕ) → (ℕ → List PathRead) → List Pattern) → ℕ → List Pattern
message_numbered n newest path p x k to j =
    picked (places_more path p) (cuts_at x path p k) n j (λ g.
    elim (joined newest (for_below n (λ q. (g q).end))) [ none ↦ [] | some after ↦ to after (λ q. (g q).front) ])

-- what a serialise and an arw make of it

abbrev pub serialised : Pattern → ℕ → ℕ → (ℕ → Option ℕ) → (ℕ → List PathRead) → List Pattern
serialised a p x newest fronts = with_paths (with_newest (with_clue a p x (in_front (newest x) (a.clue p x))) (put newest x none)) fronts ∷ []

abbrev pub swapped : Pattern → ℕ → ℕ → ℕ → ℕ → (ℕ → Option ℕ) → (ℕ → List PathRead) → List Pattern
swapped a p x old new newest fronts = provided (agrees (newest x) new) (with_paths (with_newest (with_clue a p x empty) (put newest x (some old))) fronts ∷ [])

abbrev pub serialise_numbered : ℕ → Pattern → ℕ → ℕ → ℕ → List Pattern
serialise_numbered n a p x j = message_numbered n a.newest a.path p x (own_cut x (a.path p)) (serialised a p x) j

abbrev pub arw_numbered : ℕ → Pattern → ℕ → ℕ → ℕ → ℕ → ℕ → List Pattern
arw_numbered n a p x old new j = provided (can_empty (a.clue p x)) (message_numbered n a.newest a.path p x (record { front = []; end = a.path p }) (swapped a p x old new) j)

-- ---- each step: how many numbers it has, and what a number gives

abbrev pub operation_count : Shape → Pattern → ℕ → Operation → ℕ
operation_count S a p Nop = 1
operation_count S a p (Read x v) = suc (suc (place_of x (a.path p)))
operation_count S a p (Write x v) = 1
operation_count S a p Mfence = 1
operation_count S a p Sfence = 1
operation_count S a p (Arw x old new) = many (places_more a.path p) S.processes

-- the reads: first of what waits, then of a message
abbrev pub read_before : Pattern → ℕ → ℕ → ℕ → ℕ → List Pattern
read_before a p x v zero = from_option (waiting v (a.clue p x)) (with_clue a p x)
read_before a p x v (suc n) = provided (can_empty (a.clue p x)) (map (with_path (with_clue a p x empty) p) (read_numbered x v (a.path p) n))

abbrev pub operation_numbered : Shape → Pattern → ℕ → Operation → ℕ → List Pattern
operation_numbered S a p Nop j = before_operation S a p Nop
operation_numbered S a p (Read x v) j = read_before a p x v j
operation_numbered S a p (Write x v) j = before_operation S a p (Write x v)
operation_numbered S a p Mfence j = before_operation S a p Mfence
operation_numbered S a p Sfence j = before_operation S a p Sfence
operation_numbered S a p (Arw x old new) j = arw_numbered S.processes a p x old new j

abbrev pub take_numbered : Shape → Pattern → Transition → ℕ → List Pattern
take_numbered S a t j =
    provided (eqb (a.state t.process) t.to)
    (map (λ b. with_state b t.process t.from) (operation_numbered S a t.process t.operation j))

abbrev pub step_count : Program → Pattern → Step → ℕ
step_count P a (Take n) = operation_count P.shape a (transition P n).process (transition P n).operation
step_count P a (Serialise p x) = many (places_more a.path p) P.shape.processes
step_count P a (Update p) = 0

abbrev pub step_numbered : Program → Pattern → Step → ℕ → List Pattern
step_numbered P a (Take n) j = take_numbered P.shape a (transition P n) j
step_numbered P a (Serialise p x) j = serialise_numbered P.shape.processes a p x j
step_numbered P a (Update p) j = []

-- an operation of a program that was read: its variable exists, and its values are no FF
abbrev pub FineOperation : Shape → Operation → Type 0
FineOperation S Nop = Unit {0}
FineOperation S (Read x v) = (x < S.variables) × (v < 255)
FineOperation S (Write x v) = (x < S.variables) × (v < 255)
FineOperation S Mfence = Unit {0}
FineOperation S Sfence = Unit {0}
FineOperation S (Arw x old new) = (x < S.variables) × (old < 255)

-- the predecessors of a pattern are those of its numbers, in this order
abbrev pub BeforeNumbered : Type 0
BeforeNumbered = (P : Program) (a : Pattern) (s : Step) → for_below (step_count P a s) (step_numbered P a s) ≡ before P a s

-- so a test of all of them is one of each number
abbrev pub EveryBefore : Type 0
EveryBefore = (f : Pattern → Bool) (P : Program) (a : Pattern) (s : Step) → every f (before P a s) ≡ all_below (step_count P a s) (λ j. every f (step_numbered P a s j))
