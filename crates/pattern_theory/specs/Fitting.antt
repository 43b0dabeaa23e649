-- Which configurations fit a pattern (docs/PATTERNS.md, "What a pattern asks").
use Rattle.std.specs.Prelude.{ℕ, ◌<◌, ◌≤◌, ◌≡◌, List, [], ◌∷◌, ◌++◌, length, get_or, T}
use Rattle.std.proofs.Math.Option.{Option, none, some}
use Rattle.machine_pws.specs.Program.{Shape}
use Rattle.machine_pws.specs.Machine.{Memory, Configuration, message, newest, labelled, last_write}
use Rattle.pattern_theory.specs.Patterns.{Clue, empty, ends, contains, PathRead, Pattern}

-- xs goes in order to places of ys, each of its members to one that it is related to; the others of ys are skipped
pub data Subsequence {A B : Type 0} (R : A → B → Type 0) : List A → List B → Type 0 where
  nothing : {ys : List B} → Subsequence R [] ys
  keep : {x : A} {y : B} {xs : List A} {ys : List B} → R x y → Subsequence R xs ys → Subsequence R (x ∷ xs) (y ∷ ys)
  skip : {y : B} {xs : List A} {ys : List B} → Subsequence R xs ys → Subsequence R xs (y ∷ ys)

-- y is what is asked: that value, or any
abbrev pub Stands : Option ℕ → ℕ → Type 0
Stands none y = Unit {0}
Stands (some x) y = x ≡ y

-- **Queues.**
abbrev pub FitsClue : Clue → List ℕ → Type 0
FitsClue empty q = q ≡ []
FitsClue (ends w v) q = (front : List ℕ) × (q ≡ front ++ (v ∷ [])) × Subsequence Stands w front
FitsClue (contains w) q = Subsequence Stands w q

-- what message i has in v
abbrev pub held : Memory → ℕ → ℕ → ℕ
held m i v = get_or (message m.channel i).snapshot v 0

-- **Paths.** The process p can make the read r at message i, after what it read at message k (or with its pointer there): no earlier than
-- there and than LastWrite, and for an own read at a later message, of its own label.
pub record ReadAt (m : Memory) (p k : ℕ) (r : PathRead) (i : ℕ) : Type 0 where
  pub from : k ≤ i
  pub upto : i ≤ length m.channel
  pub last : last_write m p r.variable ≤ i
  pub value : held m i r.variable ≡ r.value
  pub later : T r.own → k < i
  pub label : T r.own → T (labelled (message m.channel i) p r.variable)

-- the reads stand at messages from k on
abbrev pub PathFrom : Memory → ℕ → ℕ → List PathRead → Type 0
PathFrom m p k [] = Unit {0}
PathFrom m p k (r ∷ rs) = (i : ℕ) × ReadAt m p k r i × PathFrom m p i rs

-- c fits a. Nothing is before a path's first read but the process's pointer, which LastWrite is never below: a first read that is not own
-- is asked for no more than that.
pub record FitsPattern (S : Shape) (a : Pattern) (c : Configuration) : Type 0 where
  pub states : (p : ℕ) → p < S.processes → c.state p ≡ a.state p
  pub queues : (p v : ℕ) → p < S.processes → v < S.variables → FitsClue (a.clue p v) (c.queue p v)
  pub newest : (v : ℕ) → Stands (a.newest v) (held c.memory (length c.memory.channel) v)
  pub paths : (p : ℕ) → p < S.processes → PathFrom c.memory p (c.memory.pointer p) (a.path p)

-- the pattern of number k of a list; past its end, one that asks for nothing
abbrev pub no_pattern : Pattern
no_pattern = record { state = λ p. 0; clue = λ p v. contains []; newest = λ v. none; path = λ p. [] }

abbrev pub pattern_of : List Pattern → ℕ → Pattern
pattern_of ps k = get_or ps k no_pattern

-- c fits one of the list
pub record FitsList (S : Shape) (ps : List Pattern) (c : Configuration) : Type 0 where
  pub number : ℕ
  pub exists : number < length ps
  pub fits : FitsPattern S (pattern_of ps number) c
