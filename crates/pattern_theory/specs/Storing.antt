-- Which values a process stores, and what no run can come to have (docs/PATTERNS.md, "Never stored").
use Rattle.std.specs.Prelude.{ℕ, ◌<◌, ◌≤◌, Bool, false, ◌&&◌, ◌||◌, not, List, [], ◌∷◌, ◌++◌, length, get_or, T, eqb}
use Rattle.std.proofs.Math.Option.{Option, none, some}
use Rattle.machine_pws.specs.declared.Message.{Message}
use Rattle.machine_pws.specs.declared.Operation.{Operation}
use Rattle.machine_pws.specs.declared.Operation.TheVariants.{Nop, Read, Write, Mfence, Sfence, Arw}
use Rattle.machine_pws.specs.Program.{Program}
use Rattle.machine_pws.specs.Machine.{Configuration, message, all_below}
use Rattle.machine_pws.specs.Configurations.{All, ConfigurationOf}
use Rattle.list_theory.specs.Lists.{every, any_of}
use Rattle.pattern_theory.specs.Patterns.{Clue, empty, ends, contains, PathRead, Pattern}

-- ---- what a process stores, by all transitions of the program

-- the operation is a write of v to x
abbrev pub is_write : ℕ → ℕ → Operation → Bool
is_write x v Nop = false
is_write x v (Read y u) = false
is_write x v (Write y u) = eqb y x && eqb u v
is_write x v Mfence = false
is_write x v Sfence = false
is_write x v (Arw y old new) = false

-- it is a write to x
abbrev pub is_write_to : ℕ → Operation → Bool
is_write_to x Nop = false
is_write_to x (Read y u) = false
is_write_to x (Write y u) = eqb y x
is_write_to x Mfence = false
is_write_to x Sfence = false
is_write_to x (Arw y old new) = false

-- it is a write of v to x, or an arw that stores v in x
abbrev pub is_store : ℕ → ℕ → Operation → Bool
is_store x v Nop = false
is_store x v (Read y u) = false
is_store x v (Write y u) = eqb y x && eqb u v
is_store x v Mfence = false
is_store x v Sfence = false
is_store x v (Arw y old new) = eqb y x && eqb new v

-- some transition of p has such an operation
abbrev pub does : Program → ℕ → (Operation → Bool) → Bool
does P p is = any_of (λ t. eqb t.process p && is t.operation) P.transitions

-- ---- predecessors that are kept

-- may this stand in a word of (p, x)?
abbrev pub may_wait : Program → ℕ → ℕ → Option ℕ → Bool
may_wait P p x none = does P p (is_write_to x)
may_wait P p x (some v) = does P p (is_write x v)

-- the word of a clue, with the value that it ends in
abbrev pub word_of : Clue → List (Option ℕ)
word_of empty = []
word_of (ends w v) = w ++ (some v ∷ [])
word_of (contains w) = w

-- may p make this read?
abbrev pub may_read : Program → ℕ → PathRead → Bool
may_read P p r = not r.own || does P p (is_store r.variable r.value)

-- no word and no own read has what its process never stores
abbrev pub kept : Program → Pattern → Bool
kept P a =
    all_below P.shape.processes (λ p. all_below P.shape.variables (λ x. every (may_wait P p x) (word_of (a.clue p x))))
    && all_below P.shape.processes (λ p. every (may_read P p) (a.path p))

-- ---- the configurations of runs

-- each waiting value is one that its process writes there, and each message but the first holds in its label's variable a value that its
-- label's process stores there
pub record Stored (P : Program) (c : Configuration) : Type 0 where
  pub configuration : ConfigurationOf P c
  pub waits : (p x : ℕ) → p < P.shape.processes → x < P.shape.variables → All (λ v. T (does P p (is_write x v))) (c.queue p x)
  pub sent : (i : ℕ) → 2 ≤ i → i ≤ length c.memory.channel
      → let m : Message = message c.memory.channel i in T (does P m.process (is_store m.variable (get_or m.snapshot m.variable 0)))
