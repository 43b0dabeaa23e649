-- What is kept of the bytes and arrays of a run, and laws of the numbers and tables in them.
use Prim.Native.Nat.{ℕ, zero, suc, ◌+◌, ◌*◌, ◌-◌, ◌<◌, ◌≤◌}
use mathlib.Core.Path.{◌≡◌, sym, ap, ◌∙◌}
use mathlib.Core.Option.{some}
use mathlib.Core.List.{List, []}
use native.Mathlib.Omega.{arith}
use native.Mathlib.Decide.{dec_le}
use lib.ListN.{length, get_or}
use lib.Dec.{leb}
use borrow.Author.Tests.{le-leb, lt-leb}
use Rattle.machine_pws.specs.Program as pws
use Rattle.machine_pws.specs.Machine.{Configuration, is_empty, newest_waiting}
use Rattle.file_records.specs.ProgramPart.{table_from}
use Rattle.run_layout.specs.declared.arrays.Run.{Run}
use Rattle.run_layout.specs.Layout.{queue_number, pointer_of, last_write_of}
use Rattle.run_layout.specs.Represents.{Represents}

-- ---- what else holds of the bytes and arrays after k steps

pub record Kept (S : pws.Shape) (k : ℕ) (run : Run) (a : List ℕ) (c : Configuration) : Type 0 where
  pub represents : Represents S run a c
  pub area : length a ≡ 16384
  pub states : length run.states ≡ 4
  pub heads : length run.heads ≡ 16
  pub tails : length run.tails ≡ 16
  pub row_count : length run.rows ≡ 4
  pub row_length : (p : ℕ) → p < 4 → length (get_or run.rows p []) ≡ 5
  pub order : (q : ℕ) → get_or run.heads q 0 ≤ get_or run.tails q 0
  pub most : (q : ℕ) → get_or run.tails q 0 ≤ k
  pub some : 1 ≤ run.messages
  pub channel : run.messages ≤ k + 1
  pub low : (p : ℕ) → p < S.processes → 1 ≤ c.memory.pointer p
  pub high : (p : ℕ) → p < S.processes → c.memory.pointer p ≤ length c.memory.channel

-- ---- tables

pub table_empty : (g : ℕ → ℕ) (h t : ℕ) → leb t h ≡ is_empty (table_from g h (t - h))
table_empty g h t = elim (dec_le t h) [
  | yes l ↦ let e : t - h ≡ 0 = omega arith in le-leb t h l ∙ ap (λ (n : ℕ). is_empty (table_from g h n)) (sym e)
  | no l ↦ let e : t - h ≡ suc (t - suc h) = omega arith in lt-leb t h (omega arith) ∙ ap (λ (n : ℕ). is_empty (table_from g h n)) (sym e)
]

pub table_newest : (g : ℕ → ℕ) (h n : ℕ) → newest_waiting (table_from g h (suc n)) ≡ some (g (h + n))
table_newest g h zero = ap (λ (i : ℕ). some (g i)) (omega arith)
table_newest g h (suc n) = table_newest g (suc h) n ∙ ap (λ (i : ℕ). some (g i)) (omega arith)

-- ---- numbers

pub queue_is : (p v : ℕ) → p < 4 → v < 4 → queue_number p v ≡ 4 * p + v
unfolding queue_number
queue_is p v a b = rw (lt-leb 4 p a, lt-leb 4 v b)

pub pointer_is : (rows : List (List ℕ)) (p : ℕ) → p < 4 → pointer_of rows p ≡ get_or (get_or rows p []) 0 0
unfolding pointer_of
pointer_is rows p a = rw (lt-leb 4 p a)

pub last_write_is : (rows : List (List ℕ)) (p v : ℕ) → p < 4 → v < 4 → last_write_of rows p v ≡ get_or (get_or rows p []) (v + 1) 0
unfolding last_write_of
last_write_is rows p v a b = rw (lt-leb 4 p a, lt-leb 4 v b)
