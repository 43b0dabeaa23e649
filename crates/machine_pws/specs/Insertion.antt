-- A message put into a channel, and one left out (theory, T4 and section 5). No statement of document 01 rests on these definitions.
use Rattle.std.specs.Prelude.{ℕ, suc, ◌-◌, cond, List, [], ◌∷◌, length, eqb, leb}
use Rattle.machine_pws.specs.declared.Message.{Message}
use Rattle.machine_pws.specs.Machine.{Memory, Configuration}

-- μ becomes number k; the numbers from k on go up by one
abbrev pub put_message : List Message → ℕ → Message → List Message
put_message [] k μ = μ ∷ []
put_message (x ∷ xs) k μ = cond (leb k (suc (length xs))) (x ∷ put_message xs k μ) (μ ∷ x ∷ xs)

abbrev pub up : ℕ → ℕ → ℕ
up k i = cond (leb k i) (suc i) i

abbrev pub insert_into : Memory → ℕ → Message → Memory
insert_into m k μ = record { channel = put_message m.channel k μ; pointer = λ q. up k (m.pointer q) }

-- the message of number k is left out; the numbers past k go down by one
abbrev pub leave_out : List Message → ℕ → List Message
leave_out [] k = []
leave_out (x ∷ xs) k = cond (eqb k (suc (length xs))) xs (x ∷ leave_out xs k)

abbrev pub down : ℕ → ℕ → ℕ
down k i = cond (leb i k) i (i - 1)

abbrev pub without : Memory → ℕ → Memory
without m k = record { channel = leave_out m.channel k; pointer = λ q. down k (m.pointer q) }
