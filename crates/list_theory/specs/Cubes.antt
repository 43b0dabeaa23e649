-- What cubes are made with. A cube is a configuration in which a value may be FF, as an entry is (theory, "Notation").
use Rattle.std.specs.Prelude.{ℕ, zero, suc, Bool, false, cond, List, [], ◌∷◌, length, set, eqb, ltb}
use Rattle.machine_pws.specs.declared.Message.{Message}
use Rattle.machine_pws.specs.Program.{Shape}
use Rattle.machine_pws.specs.Machine.{Memory, no_message}
use Rattle.machine_pws.specs.Entries.{FF}
use Rattle.list_theory.specs.Values.{alike, pairwise, meet_all}

abbrev pub memory_of : List Message → (ℕ → ℕ) → Memory
memory_of ms z = record { channel = ms; pointer = z }

abbrev pub message_of : ℕ → ℕ → List ℕ → Message
message_of p v xs = record { process = p; variable = v; snapshot = xs }

-- m with these values instead
abbrev pub with_values : Message → List ℕ → Message
with_values m xs = message_of m.process m.variable xs

-- ---- a message all of whose values are free

-- variables that the shape does not have are 0
abbrev pub any_value : Shape → ℕ → ℕ
any_value S v = cond (ltb v S.variables) FF 0

-- those of n places from v on
abbrev pub any_values : Shape → ℕ → ℕ → List ℕ
any_values S v zero = []
any_values S v (suc n) = any_value S v ∷ any_values S (suc v) n

abbrev pub any_message : Shape → ℕ → ℕ → Message
any_message S p v = message_of p v (any_values S 0 S.room)

-- ---- values in place of others

-- message i has x in v
abbrev pub value_put : List Message → ℕ → ℕ → ℕ → List Message
value_put [] i v x = []
value_put (m ∷ ms) i v x = cond (eqb i (suc (length ms))) (with_values m (set m.snapshot v x) ∷ ms) (m ∷ value_put ms i v x)

abbrev pub without_last : List ℕ → List ℕ
without_last [] = []
without_last (x ∷ []) = []
without_last (x ∷ y ∷ ys) = x ∷ without_last (y ∷ ys)

-- the last is z
abbrev pub with_last : List ℕ → ℕ → List ℕ
with_last [] z = []
with_last (x ∷ []) z = z ∷ []
with_last (x ∷ y ∷ ys) z = x ∷ with_last (y ∷ ys) z

-- ---- the newest message, which stands first

abbrev pub topmost : List Message → Message
topmost [] = no_message
topmost (m ∷ ms) = m

abbrev pub older : List Message → List Message
older [] = []
older (m ∷ ms) = ms

-- there is one, and its values are ~ xs; it is met with xs
abbrev pub alike_newest : List Message → List ℕ → Bool
alike_newest [] xs = false
alike_newest (m ∷ ms) xs = pairwise alike m.snapshot xs

abbrev pub meet_newest : List Message → List ℕ → List Message
meet_newest [] xs = []
meet_newest (m ∷ ms) xs = with_values m (meet_all m.snapshot xs) ∷ ms
