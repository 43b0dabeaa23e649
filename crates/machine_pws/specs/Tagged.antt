-- Messages with their roles (theory, section 1). No statement rests on these definitions: T1 says that they give the order again,
-- in a form that can be computed.
use Rattle.std.specs.Prelude.{ℕ, zero, suc, Bool, true, false, cond, ◌||◌, List, [], ◌∷◌, length, eqb, leb}
use Rattle.machine_pws.specs.declared.Message.{Message}
use Rattle.machine_pws.specs.Program.{Shape}
use Rattle.machine_pws.specs.Machine.{Memory, last_write}

-- f (n - 1), .., f 0
abbrev pub table {ℓ} : {A : Type ℓ} → ℕ → (ℕ → A) → List A
table zero f = []
table (suc n) f = f n ∷ table n f

abbrev pub any_below : ℕ → (ℕ → Bool) → Bool
any_below zero f = false
any_below (suc n) f = f n || any_below n f

-- what message i is to each process: does its pointer stand there, and its LastWrite to each variable?
abbrev pub roles : Shape → Memory → ℕ → List (List Bool)
roles S m i = table S.processes (λ p. eqb (m.pointer p) i ∷ table S.variables (λ v. eqb (last_write m p v) i))

-- some process points at i, or it is some LastWrite
abbrev pub has_role : Shape → Memory → ℕ → Bool
has_role S m i = any_below S.processes (λ p. eqb (m.pointer p) i || any_below S.variables (λ v. eqb (last_write m p v) i))

pub record Tagged : Type 0 where
  pub message : Message
  pub roles : List (List Bool)

-- is i a message from the lowest pointer on?
abbrev pub is_live_at : Shape → Memory → ℕ → Bool
is_live_at S m i = any_below S.processes (λ p. leb (m.pointer p) i)

-- those of ms, the oldest messages of m, that are from the lowest pointer on, each with its roles
abbrev pub tagged_from : Shape → Memory → List Message → List Tagged
tagged_from S m [] = []
tagged_from S m (x ∷ xs) = cond (is_live_at S m (suc (length xs))) (record { message = x; roles = roles S m (suc (length xs)) } ∷ tagged_from S m xs) []

-- the tagged channel
abbrev pub tagged : Shape → Memory → List Tagged
tagged S m = tagged_from S m m.channel
