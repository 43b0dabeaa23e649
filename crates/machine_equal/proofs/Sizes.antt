-- What the conjecture asks of a program bounds no size: of any numbers of processes, variables, values and local states, one each at least,
-- every list of transitions that name what exists makes a well-formed program.
use Prim.Native.Nat.{ℕ, suc, ◌<◌}
use mathlib.Core.List.{List}
use native.Mathlib.Omega.{arith}
use lib.ListN.{length}
use Rattle.machine_pws.specs.declared.Transition.{Transition}
use Rattle.machine_pws.specs.Program.{Program, transition, TransitionOf, WellFormed}

-- so many processes and variables more than one; a snapshot has a place for each variable, as in the report
abbrev sized : ℕ → ℕ → (ℕ → ℕ) → (ℕ → ℕ) → List Transition → Program
sized processes variables values states ts =
    record {
      shape = record { processes = suc processes; variables = suc variables; values = λ v. suc (values v); room = suc variables };
      states = λ p. suc (states p);
      initial = λ p. 0;
      transitions = ts;
    }

pub any_size : (processes variables : ℕ) (values states : ℕ → ℕ) (ts : List Transition)
    → ((n : ℕ) → n < length ts → TransitionOf (sized processes variables values states ts) (transition (sized processes variables values states ts) n))
    → WellFormed (sized processes variables values states ts)
any_size processes variables values states ts f =
    record {
      shape = record { some_process = omega arith; some_variable = omega arith; some_value = λ v l. omega arith; variables = omega arith };
      initial = λ p l. omega arith;
      transitions = f;
    }
