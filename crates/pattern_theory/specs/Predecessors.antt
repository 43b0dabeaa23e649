-- The predecessors of a pattern under a step (docs/PATTERNS.md, "Predecessors"): what a configuration is asked for that the step leads into the
-- pattern. What "can't be" gives no predecessor.
use Rattle.std.specs.Prelude.{ℕ, zero, suc, Bool, true, false, cond, List, [], ◌∷◌, ◌++◌, map, eqb}
use Rattle.std.proofs.Math.Option.{Option, none, some}
use Rattle.machine_pws.specs.declared.Operation.{Operation}
use Rattle.machine_pws.specs.declared.Operation.TheVariants.{Nop, Read, Write, Mfence, Sfence, Arw}
use Rattle.machine_pws.specs.declared.Transition.{Transition}
use Rattle.machine_pws.specs.declared.Step.{Step}
use Rattle.machine_pws.specs.declared.Step.TheVariants.{Take, Serialise, Update}
use Rattle.machine_pws.specs.Program.{Shape, Program, transition}
use Rattle.machine_pws.specs.Machine.{put, all_below}
use Rattle.list_theory.specs.Lists.{for_below, for_each}
use Rattle.pattern_theory.specs.Patterns.{Clue, empty, ends, contains, ending, PathRead, Pattern}

-- ---- a pattern with one thing changed

abbrev pub with_state : Pattern → ℕ → ℕ → Pattern
with_state a p s = record { state = put a.state p s; clue = a.clue; newest = a.newest; path = a.path }

abbrev pub with_clue : Pattern → ℕ → ℕ → Clue → Pattern
with_clue a p x k = record { state = a.state; clue = put a.clue p (put (a.clue p) x k); newest = a.newest; path = a.path }

-- all queues of p are empty
abbrev pub with_none_waiting : Pattern → ℕ → Pattern
with_none_waiting a p = record { state = a.state; clue = put a.clue p (λ x. empty); newest = a.newest; path = a.path }

abbrev pub with_newest : Pattern → (ℕ → Option ℕ) → Pattern
with_newest a newest = record { state = a.state; clue = a.clue; newest = newest; path = a.path }

abbrev pub with_path : Pattern → ℕ → List PathRead → Pattern
with_path a p rs = record { state = a.state; clue = a.clue; newest = a.newest; path = put a.path p rs }

abbrev pub with_paths : Pattern → (ℕ → List PathRead) → Pattern
with_paths a paths = record { state = a.state; clue = a.clue; newest = a.newest; path = paths }

-- ---- lists of predecessors

abbrev pub provided : Bool → List Pattern → List Pattern
provided true ps = ps
provided false ps = []

abbrev pub from_option : {A : Type 0} → Option A → (A → Pattern) → List Pattern
from_option none f = []
from_option (some x) f = f x ∷ []

-- ---- emptying and joining

-- *empty* and *contains* nothing can be emptied
abbrev pub can_empty : Clue → Bool
can_empty empty = true
can_empty (ends w v) = false
can_empty (contains []) = true
can_empty (contains (x ∷ w)) = false

-- may the value be asked besides what is asked already?
abbrev pub agrees : Option ℕ → ℕ → Bool
agrees none v = true
agrees (some u) v = eqb u v

-- the reads asked of the newest message; not if one is own, or if a variable would get two values
abbrev pub joined : (ℕ → Option ℕ) → List PathRead → Option (ℕ → Option ℕ)
joined newest [] = some newest
joined newest (r ∷ rs) = elim r.own [
  | true ↦ none
  | false ↦ elim (agrees (newest r.variable) r.value) [
    | true ↦ joined (put newest r.variable (some r.value)) rs
    | false ↦ none
  ]
]

-- ---- words

-- w without its last value, if that is v or any value; else w
abbrev pub without_end : ℕ → List (Option ℕ) → List (Option ℕ)
without_end v [] = []
without_end v (x ∷ []) = cond (agrees x v) [] (x ∷ [])
without_end v (x ∷ y ∷ w) = x ∷ without_end v (y ∷ w)

-- the queue before v was put behind it
abbrev pub before_write : ℕ → Clue → Option Clue
before_write v empty = none
before_write v (ends w u) = cond (eqb u v) (some (contains w)) none
before_write v (contains w) = some (contains (without_end v w))

-- the queue if v is its newest value
abbrev pub waiting : ℕ → Clue → Option Clue
waiting v empty = none
waiting v (ends w u) = cond (eqb u v) (some (ends w u)) none
waiting v (contains w) = some (ends (without_end v w) v)

-- the queue before its oldest value left: u in front of the word
abbrev pub in_front : Option ℕ → Clue → Clue
in_front u empty = ending [] u
in_front u (ends w v) = ends (u ∷ w) v
in_front u (contains w) = contains (u ∷ w)

-- ---- reading a message

-- the value of the first own read of x
abbrev pub first_own : ℕ → List PathRead → Option ℕ
first_own x [] = none
first_own x (r ∷ rs) = cond r.own (cond (eqb r.variable x) (some r.value) (first_own x rs)) (first_own x rs)

-- the own read (x, v) put in behind the first l reads, for each l >= 1 such that none of them is of x
abbrev pub put_behind : ℕ → ℕ → List PathRead → List (List PathRead)
put_behind x v [] = []
put_behind x v (r ∷ rs) = elim (eqb r.variable x) [
  | true ↦ []
  | false ↦ map (λ path. r ∷ path) ((record { variable = x; value = v; own = true } ∷ rs) ∷ put_behind x v rs)
]

-- the paths before p reads v in x from a message
abbrev pub before_read : ℕ → ℕ → List PathRead → List (List PathRead)
before_read x v path = elim (first_own x path) [
  | some u ↦ cond (eqb u v) (path ∷ []) []
  | none ↦ (record { variable = x; value = v; own = false } ∷ path) ∷ put_behind x v path
]

-- ---- a new message

-- a path in two: what is read before the new message, and what is read at it
pub record Cut : Type 0 where
  pub front : List PathRead
  pub end : List PathRead

abbrev pub behind : PathRead → Cut → Cut
behind r k = record { front = r ∷ k.front; end = k.end }

-- of another process: the end is empty, or begins at any of its reads of x
abbrev pub cuts : ℕ → List PathRead → List Cut
cuts x [] = record { front = []; end = [] } ∷ []
cuts x (r ∷ rs) = cond (eqb r.variable x) (record { front = []; end = r ∷ rs } ∷ []) [] ++ map (behind r) (cuts x rs)

-- of the process that stores: the end begins at its first read of x, which counts as not own then
abbrev pub own_cut : ℕ → List PathRead → Cut
own_cut x [] = record { front = []; end = [] }
own_cut x (r ∷ rs) = elim (eqb r.variable x) [
  | true ↦ record { front = []; end = record { variable = r.variable; value = r.value; own = false } ∷ rs }
  | false ↦ behind r (own_cut x rs)
]

-- a cut for each process below n, in each combination
abbrev pub choices : ℕ → (ℕ → List Cut) → List (ℕ → Cut)
choices zero f = (λ q. record { front = []; end = [] }) ∷ []
choices (suc n) f = for_each (choices n f) (λ g. map (put g n) (f n))

-- a new message of label (p, x): p's path has this cut, each other process one of its own. `to` has what is asked of the newest message
-- after all ends are joined to it, and the fronts.
abbrev pub new_message : Shape → Pattern → ℕ → ℕ → Cut → ((ℕ → Option ℕ) → (ℕ → List PathRead) → List Pattern) → List Pattern
new_message S a p x k to =
    for_each (choices S.processes (λ q. elim (eqb q p) [ true ↦ k ∷ [] | false ↦ cuts x (a.path q) ])) (λ g.
    elim (joined a.newest (for_below S.processes (λ q. (g q).end))) [ none ↦ [] | some newest ↦ to newest (λ q. (g q).front) ])

-- ---- each step

-- the operation of p, local states aside
abbrev pub before_operation : Shape → Pattern → ℕ → Operation → List Pattern
before_operation S a p Nop = a ∷ []
before_operation S a p Sfence = provided (all_below S.variables (λ x. can_empty (a.clue p x))) (with_none_waiting a p ∷ [])
before_operation S a p Mfence =
    provided (all_below S.variables (λ x. can_empty (a.clue p x)))
    (from_option (joined a.newest (a.path p)) (λ newest. with_newest (with_path (with_none_waiting a p) p []) newest))
before_operation S a p (Write x v) = from_option (before_write v (a.clue p x)) (with_clue a p x)
before_operation S a p (Read x v) =
    from_option (waiting v (a.clue p x)) (with_clue a p x)
    ++ provided (can_empty (a.clue p x)) (map (with_path (with_clue a p x empty) p) (before_read x v (a.path p)))
before_operation S a p (Arw x old new) =
    provided (can_empty (a.clue p x))
    (new_message S a p x (record { front = []; end = a.path p }) (λ newest fronts.
    provided (agrees (newest x) new) (with_paths (with_newest (with_clue a p x empty) (put newest x (some old))) fronts ∷ [])))

abbrev pub before_take : Shape → Pattern → Transition → List Pattern
before_take S a t =
    provided (eqb (a.state t.process) t.to)
    (map (λ b. with_state b t.process t.from) (before_operation S a t.process t.operation))

abbrev pub before_serialise : Shape → Pattern → ℕ → ℕ → List Pattern
before_serialise S a p x =
    new_message S a p x (own_cut x (a.path p)) (λ newest fronts.
    with_paths (with_newest (with_clue a p x (in_front (newest x) (a.clue p x))) (put newest x none)) fronts ∷ [])

abbrev pub before : Program → Pattern → Step → List Pattern
before P a (Take n) = before_take P.shape a (transition P n)
before P a (Serialise p x) = before_serialise P.shape a p x
before P a (Update p) = []
