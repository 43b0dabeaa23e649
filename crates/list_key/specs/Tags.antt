-- Tags: the roles of a message and its label in one number. No statement rests on these definitions: two tags are equal exactly when
-- roles and labels are (`tags_roles`), and a message has a role exactly when its tag is 65,536 or more (`tag_role`).
use Rattle.std.specs.Prelude.{ℕ, zero, suc, ◌+◌, ◌-◌, ◌*◌, ◌/◌, ◌%◌, ◌^◌, min, max, cond, List, [], ◌∷◌, get_or, eqb, ltb}
use Rattle.machine_pws.specs.declared.Message.{Message}
use Rattle.machine_pws.specs.Machine.{Memory, no_message, last_write}
use Rattle.file_records.specs.declared.program.Shape.{Shape}
use Rattle.file_contents.specs.declared.entry.Cube.{Cube}
use Rattle.file_contents.specs.Cube.{channel_of}

-- f 0 + .. + f (n - 1)
abbrev pub sum_below : ℕ → (ℕ → ℕ) → ℕ
sum_below zero f = 0
sum_below (suc n) f = sum_below n f + f n

-- f 0, .., f (n - 1)
abbrev pub list_below : ℕ → (ℕ → ℕ) → List ℕ
list_below zero f = []
list_below (suc n) f = f 0 ∷ list_below n (λ i. f (suc i))

-- the message that has role k of process p: the one that it points at is role 0, and its LastWrite of v is role 1 + v
abbrev pub role_of : Memory → ℕ → ℕ → ℕ
role_of m p zero = m.pointer p
role_of m p (suc v) = last_write m p v

-- the same at 5 p + k, with 0, which is no message, for a variable that does not exist
unfoldable pub role_at : ℕ → Memory → ℕ → ℕ
role_at variables m q = cond (ltb variables (q % 5)) 0 (role_of m (q / 5) (q % 5))

-- a bit for each role of message i: of process p, bit 5 p if it points there, and bit 5 p + 1 + v if it is its LastWrite of v
unfoldable pub mask : ℕ → ℕ → Memory → ℕ → ℕ
mask processes variables m i = sum_below (5 * processes) (λ q. cond (eqb (role_at variables m q) i) (2 ^ q) 0)

abbrev pub label_number : Message → ℕ
label_number x = 256 * x.process + x.variable

-- the memory of a cube, of which the code has twenty messages
abbrev pub cube_memory : Cube → Memory
cube_memory c = record { channel = channel_of c.messages (min c.count 20); pointer = λ p. get_or c.pointers p 0 }

-- the tag of message i, counted from 1
unfoldable pub tag_of : Shape → Cube → ℕ → ℕ
tag_of s c i = 65536 * mask (min s.processes 4) (min s.variables 4) (cube_memory c) i + label_number (get_or c.messages (i - 1) no_message)

-- the tag of message i at i - 1, and 0 where there is no message
unfoldable pub tags_of : Shape → Cube → List ℕ
tags_of s c = list_below 20 (λ i. cond (ltb i (min c.count 20)) (tag_of s c (suc i)) 0)

-- the least of the first n pointers
abbrev pub lowest_below : ℕ → List ℕ → ℕ
lowest_below zero zs = 255
lowest_below (suc n) zs = min (lowest_below n zs) (get_or zs n 0)

-- the number of the first message from the lowest pointer on
unfoldable pub lowest_pointer : Shape → List ℕ → ℕ
lowest_pointer s zs = max 1 (lowest_below (min s.processes 4) zs)
