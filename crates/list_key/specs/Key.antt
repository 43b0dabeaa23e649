-- The key of a configuration: what is the same in all that are above it (theory, section 2). Local states, which queues are empty, and the
-- messages with a role, newest first, each without its snapshot.
use Rattle.std.specs.Prelude.{ℕ, Bool, false, cond, ◌||◌, List, [], ◌∷◌}
use Rattle.machine_pws.specs.Program.{Shape}
use Rattle.machine_pws.specs.Machine.{Configuration, is_empty}
use Rattle.machine_pws.specs.Tagged.{Tagged, table, tagged}

-- a message without its snapshot
pub record Mark : Type 0 where
  pub process : ℕ
  pub variable : ℕ
  pub roles : List (List Bool)

abbrev pub mark_of : Tagged → Mark
mark_of x = record { process = x.message.process; variable = x.message.variable; roles = x.roles }

abbrev pub some_true : List Bool → Bool
some_true [] = false
some_true (b ∷ bs) = b || some_true bs

abbrev pub some_role : List (List Bool) → Bool
some_role [] = false
some_role (row ∷ rows) = some_true row || some_role rows

-- those with a role
abbrev pub marks_of : List Tagged → List Mark
marks_of [] = []
marks_of (x ∷ xs) = cond (some_role x.roles) (mark_of x ∷ marks_of xs) (marks_of xs)

pub record Key : Type 0 where
  pub states : List ℕ
  pub empty : List (List Bool)
  pub marks : List Mark

abbrev pub key : Shape → Configuration → Key
key S c =
    record {
      states = table S.processes c.state;
      empty = table S.processes (λ p. table S.variables (λ v. is_empty (c.queue p v)));
      marks = marks_of (tagged S c.memory);
    }
