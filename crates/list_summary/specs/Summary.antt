-- What holds of a summary (request N2): groups by local states with the number in each, a total to which they add up, and every entry where it is
-- looked for.
use Rattle.std.specs.Prelude.{ℕ, ◌*◌, ◌<◌, ◌≤◌, ◌≡◌, true, false, cond, ◌&&◌, List, length, ltb}
use Rattle.file_records.specs.declared.program.Shape.{Shape}
use Rattle.file_again.specs.Again.{cube_at}
use Rattle.list_key.specs.Tags.{sum_below}
use Rattle.list_key.specs.Number.{signature_in, number_of, states_mixed}
use Rattle.list_summary.specs.Slots.{linked, head_link, count_at, signature_at, home_of, mark_in, Met}
use Rattle.list_summary.specs.Groups.{states_at, leads, in_group}

-- after m of n additions
pub record Grouped (f list sum : List ℕ) (n : ℕ) (s : Shape) (m : ℕ) : Type 0 where
  pub most : m ≤ n
  pub room : 8 * n ≤ length sum
  -- the number in each group, kept at its first entry
  pub numbers : (k : ℕ) → k < n → count_at sum k ≡ cond (ltb k m && leads f list s k) (in_group f list s m (states_at f list s k)) 0
  -- they add up to the number of entries
  pub total : sum_below n (count_at sum) ≡ m
  -- the first entry of a group is met on the chain of its states, and each other one on that of its key
  pub first : (k : ℕ) → k < m → leads f list s k ≡ true → (mark : ℕ) × Met sum n (head_link sum (home_of (states_mixed s (states_at f list s k)) n)) k mark
  pub others : (k : ℕ) → k < m → leads f list s k ≡ false
      → Met sum n (head_link sum (home_of (number_of s (cube_at f list k)) n)) k (mark_in (number_of s (cube_at f list k)))
  -- an entry that leads no group has its signature in its slot
  pub signed : (k : ℕ) → k < m → leads f list s k ≡ false → signature_at sum k ≡ signature_in (number_of s (cube_at f list k))
  pub heads : (h : ℕ) → h < n → linked (head_link sum h) ≤ m

-- `sum` is the summary of the n entries of `list`
pub record Summed (f list sum : List ℕ) (n : ℕ) (s : Shape) : Type 0 where
  pub count : n ≤ 524288
  pub grouped : Grouped f list sum n s n
