-- The program without registers that is written for a program with registers (document 02, N8), in the order of its file, and the numbers that
-- its transitions get.
use Rattle.std.specs.Prelude.{ℕ, zero, suc, ◌+◌, ◌*◌, ◌<◌, ◌≤◌, Bool, true, false, cond, List, [], ◌∷◌, ◌++◌, map, length, take}
use Rattle.machine_pws.specs.declared.Operation.{Operation}
use Rattle.machine_pws.specs.declared.Operation.TheVariants as plain
use Rattle.machine_pws.specs.declared.Transition.{Transition}
use Rattle.machine_pws.specs.Program.{Program}
use Rattle.machine_pws.specs.Machine.{put}
use Rattle.register_machine.specs.declared.RegisterOperation.{RegisterOperation}
use Rattle.register_machine.specs.declared.RegisterOperation.TheVariants.{
  Nop,
  Read,
  Write,
  Mfence,
  Sfence,
  Arw,
  LoadRegister,
  StoreRegister,
  TestRegister,
}
use Rattle.register_machine.specs.declared.RegisterTransition.{RegisterTransition}
use Rattle.register_machine.specs.Program.{RegisterProgram, register_transition, has_register}

-- the lists that f gives, one after another
abbrev pub joined {ℓ} : {A B : Type ℓ} → (A → List B) → List A → List B
joined f [] = []
joined f (x ∷ xs) = f x ++ joined f xs

abbrev pub four_values : List ℕ
four_values = 0 ∷ 1 ∷ 2 ∷ 3 ∷ []

-- ---- local states ("pairs, numbered by state and then by register value"). b: has the process a register?

abbrev pub pair_of : Bool → ℕ → ℕ → ℕ
pair_of true q r = 4 * q + r
pair_of false q r = q

abbrev pub states_of : Bool → ℕ → ℕ
states_of true n = 4 * n
states_of false n = n

-- ---- transitions ("one for each register value it can start from, then each value it can read, rising")

-- 8 starts from the value that it names
abbrev pub starting_values : RegisterOperation → List ℕ
starting_values Nop = four_values
starting_values (Read v x) = four_values
starting_values (Write v x) = four_values
starting_values Mfence = four_values
starting_values Sfence = four_values
starting_values (Arw v old new) = four_values
starting_values (LoadRegister v) = four_values
starting_values (StoreRegister v) = four_values
starting_values (TestRegister x) = x ∷ []

-- 6 reads any value; what another operation reads, it names (one transition, and the 0 counts for nothing)
abbrev pub read_values : RegisterOperation → List ℕ
read_values Nop = 0 ∷ []
read_values (Read v x) = 0 ∷ []
read_values (Write v x) = 0 ∷ []
read_values Mfence = 0 ∷ []
read_values Sfence = 0 ∷ []
read_values (Arw v old new) = 0 ∷ []
read_values (LoadRegister v) = four_values
read_values (StoreRegister v) = 0 ∷ []
read_values (TestRegister x) = 0 ∷ []

-- what it does where the register has r and 6 reads x
abbrev pub plain_operation : RegisterOperation → ℕ → ℕ → Operation
plain_operation Nop r x = plain.Nop
plain_operation (Read v y) r x = plain.Read v y
plain_operation (Write v y) r x = plain.Write v y
plain_operation Mfence r x = plain.Mfence
plain_operation Sfence r x = plain.Sfence
plain_operation (Arw v old new) r x = plain.Arw v old new
plain_operation (LoadRegister v) r x = plain.Read v x
plain_operation (StoreRegister v) r x = plain.Write v r
plain_operation (TestRegister y) r x = plain.Nop

-- and what the register then has
abbrev pub held : RegisterOperation → ℕ → ℕ → ℕ
held Nop r x = r
held (Read v y) r x = r
held (Write v y) r x = r
held Mfence r x = r
held Sfence r x = r
held (Arw v old new) r x = r
held (LoadRegister v) r x = x
held (StoreRegister v) r x = r
held (TestRegister y) r x = r

abbrev pub plain_transition : Bool → RegisterTransition → ℕ → ℕ → Transition
plain_transition b t r x =
    record {
      process = t.process;
      from = pair_of b t.from r;
      operation = plain_operation t.operation r x;
      to = pair_of b t.to (held t.operation r x);
    }

-- those that t becomes; one if its process has no register
abbrev pub becomes : Bool → RegisterTransition → List Transition
becomes b t = joined (λ r. map (plain_transition b t r) (read_values t.operation)) (cond b (starting_values t.operation) (0 ∷ []))

abbrev pub becomes_in : RegisterProgram → RegisterTransition → List Transition
becomes_in R t = becomes (has_register R t.process) t

abbrev pub written : RegisterProgram → Program
written R =
    record {
      shape = R.shape;
      states = λ p. states_of (has_register R p) (R.states p);
      initial = λ p. pair_of (has_register R p) (R.initial p) 0;
      transitions = joined (becomes_in R) R.transitions;
    }

-- ---- numbers

-- the number of the first transition that those from number n on become
abbrev pub first_written : RegisterProgram → ℕ → ℕ
first_written R n = length (joined (becomes_in R) (take n R.transitions))

-- the written transition of number m comes from the transition of number n
pub record ComesFrom (R : RegisterProgram) (m n : ℕ) : Type 0 where
  pub exists : n < length R.transitions
  pub low : first_written R n ≤ m
  pub high : m < first_written R (suc n)

-- the place, among those that an operation becomes, of the one that starts from r and reads x
abbrev pub place : Bool → RegisterOperation → ℕ → ℕ → ℕ
place false o r x = 0
place true Nop r x = r
place true (Read v y) r x = r
place true (Write v y) r x = r
place true Mfence r x = r
place true Sfence r x = r
place true (Arw v old new) r x = r
place true (LoadRegister v) r x = 4 * r + x
place true (StoreRegister v) r x = r
place true (TestRegister y) r x = 0

abbrev pub number_written : RegisterProgram → ℕ → ℕ → ℕ → ℕ
number_written R n r x = let t = register_transition R n in first_written R n + place (has_register R t.process) t.operation r x

-- ---- targets ("one for each choice of register values, process 0's slowest")

-- the choices of register values of the n processes from p on that have one
abbrev pub choices : RegisterProgram → ℕ → ℕ → List (ℕ → ℕ)
choices R p zero = (λ q. 0) ∷ []
choices R p (suc n) = joined (λ r. map (λ registers. put registers p r) (choices R (suc p) n)) (cond (has_register R p) four_values (0 ∷ []))

-- those that a target becomes
abbrev pub target_becomes : RegisterProgram → (ℕ → ℕ) → List (ℕ → ℕ)
target_becomes R target = map (λ registers p. pair_of (has_register R p) (target p) (registers p)) (choices R 0 R.shape.processes)

abbrev pub written_targets : RegisterProgram → List (ℕ → ℕ) → List (ℕ → ℕ)
written_targets R targets = joined (target_becomes R) targets
