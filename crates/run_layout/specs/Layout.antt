-- How the code holds the configuration of a run: in the lower 16,384 bytes of the work area, in a small struct and in an array of arrays.
-- specs/Represents.antt says which configuration that is; no statement rests on the other definitions but through it.
use Rattle.std.specs.Prelude.{ℕ, min, ◌+◌, ◌*◌, ◌/◌, ◌%◌, cond, List, [], ◌∷◌, length, get_or, set, eqb, leb, ltb, Option, Some, None}
use Rattle.machine_pws.specs.declared.Transition.{Transition}
use Rattle.machine_pws.specs.declared.Step as pws
use Rattle.machine_pws.specs.declared.Step.TheVariants as steps
use Rattle.file_records.specs.declared.program.Row.{Row}
use Rattle.base.specs.Bytes.{choose, byte}
use Rattle.file_records.specs.Records.{transition_at}
use Rattle.run_layout.specs.declared.moves.Move.{Move}
use Rattle.run_layout.specs.declared.moves.Move.TheVariants.{Take, Serialise, Update}

-- ---- numbers

-- one more; there is no number past 65,535
unfoldable pub next_number : ℕ → ℕ
next_number x = min (x + 1) 65535

-- the queue of process p and variable v; 16 where there is none
unfoldable pub queue_number : ℕ → ℕ → ℕ
queue_number p v = cond (leb 4 p) 16 (cond (leb 4 v) 16 (4 * p + v))

-- ---- the bytes

-- the four values of message i stand at 4 i
unfoldable pub snapshot_at : List ℕ → ℕ → List ℕ
snapshot_at a i = byte a (4 * i) ∷ byte a (4 * i + 1) ∷ byte a (4 * i + 2) ∷ byte a (4 * i + 3) ∷ []

unfoldable pub put_snapshot : List ℕ → ℕ → List ℕ → List ℕ
put_snapshot a i s =
    choose (ltb (length a) (4 * i + 4)) (λ _. a)
    (λ _. set (set (set (set a (4 * i) (get_or s 0 0)) (4 * i + 1) (get_or s 1 0)) (4 * i + 2) (get_or s 2 0)) (4 * i + 3) (get_or s 3 0))

-- value k of queue q is a half of this byte: the lower one for even k
abbrev pub waiting_place : ℕ → ℕ → ℕ
waiting_place q k = 8192 + 512 * q + k / 2

unfoldable pub waiting_at : List ℕ → ℕ → ℕ → ℕ
waiting_at a q k = cond (eqb (k % 2) 0) (byte a (waiting_place q k) % 16) (byte a (waiting_place q k) / 16)

-- the byte with x as value k; no value past k is kept
unfoldable pub halves : ℕ → ℕ → ℕ → ℕ
halves b k x = cond (eqb (k % 2) 0) (x % 16) (b % 16 + 16 * (x % 16))

abbrev pub put_waiting : List ℕ → ℕ → ℕ → ℕ → List ℕ
put_waiting a q k x = set a (waiting_place q k) (halves (byte a (waiting_place q k)) k x)

-- ---- the step's transition

-- the transition of number n, in a row of 03s
abbrev pub transition_in : List ℕ → Row → ℕ → Transition
transition_in f row n = transition_at f (row.at + 8 * n)

-- a transition that does not exist has no move
abbrev pub move_of : List ℕ → Row → pws.Step → Option Move
move_of f row (steps.Take n) = choose (leb row.count n) (λ _. None) (λ _. Some (Take (transition_in f row n)))
move_of f row (steps.Serialise p v) = Some (Serialise p v)
move_of f row (steps.Update p) = Some (Update p)

-- ---- the arrays

-- the number of the queue of p and v goes up by one
unfoldable pub advanced : List ℕ → ℕ → ℕ → List ℕ
advanced xs p v = set xs (queue_number p v) (next_number (get_or xs (queue_number p v) 0))

unfoldable pub pointer_of : List (List ℕ) → ℕ → ℕ
pointer_of rows p = cond (leb 4 p) 0 (get_or (get_or rows p []) 0 0)

unfoldable pub last_write_of : List (List ℕ) → ℕ → ℕ → ℕ
last_write_of rows p v = cond (leb 4 p) 0 (cond (leb 4 v) 0 (get_or (get_or rows p []) (v + 1) 0))
