-- The groups of a list: entries with equal local states (request N2), and how they are added to a summary.
use Rattle.std.specs.Prelude.{ℕ, zero, suc, ◌+◌, ◌-◌, ◌/◌, ◌<◌, min, ◌≡◌, Bool, cond, ◌&&◌, not, List, Option, Some, None, ◌++◌, length, get_or, take, drop, eqb, ltb, leb}
use Rattle.machine_pws.specs.Machine.{all_below}
use Rattle.file_records.specs.declared.program.Shape.{Shape}
use Rattle.base.specs.Bytes.{choose}
use Rattle.file_again.specs.Again.{cube_at}
use Rattle.list_key.specs.Number.{signature_in, number_of, states_mixed}
use Rattle.list_summary.specs.Slots.{linked, next_link, head_link, count_at, hung, put_field, home_of, mark_in, entry_in}

-- entry k, which has this number, joins the group that entry j leads: the group has one more, the entry hangs on the chain of its number, and its
-- signature is kept
unfoldable pub joined_at : List ℕ → ℕ → ℕ → ℕ → ℕ → List ℕ
joined_at sum j number n k = put_field (hung (put_field sum j (count_at sum j + 1)) (home_of number n) k (mark_in number)) k (786432 + signature_in number)

-- ---- groups

-- the local states of two entries, or of an entry and a configuration, are equal
unfoldable pub same_states : Shape → List ℕ → List ℕ → Bool
same_states s a b = all_below (min s.processes 4) (λ p. eqb (get_or a p 0) (get_or b p 0))

module _ (f list : List ℕ) (s : Shape) where
  abbrev pub states_at : ℕ → List ℕ
  states_at k = (cube_at f list k).states

  -- entry k is the first with its local states
  unfoldable pub leads : ℕ → Bool
  leads k = all_below k (λ j. not (same_states s (states_at j) (states_at k)))

  -- how many of the first m entries have these local states
  unfoldable pub in_group : ℕ → List ℕ → ℕ
  in_group zero states = 0
  in_group (suc m) states = in_group m states + cond (same_states s (states_at m) states) 1 0

  -- ---- the first entry with these local states, counted from 1, or 0: on the chain of their number, one that leads a group

  unfoldable pub leader_from : List ℕ → List ℕ → ℕ → ℕ → ℕ → ℕ
  leader_from sum states zero below link = 0
  leader_from sum states (suc fuel) below link =
      choose (eqb (linked link) 0) (λ _. 0)
      (λ _. choose (ltb below (linked link)) (λ _. 0)
      (λ _. choose (not (eqb (count_at sum (linked link - 1)) 0) && same_states s (states_at (linked link - 1)) states) (λ _. linked link)
      (λ _. leader_from sum states fuel (linked link - 1) (next_link sum (linked link - 1)))))

  unfoldable pub leader_of : List ℕ → ℕ → List ℕ → ℕ
  leader_of sum n states = leader_from sum states (suc n) n (head_link sum (home_of (states_mixed s states) n))

  -- ---- additions

  -- entry k joins the summary of the entries before it; there will be n
  unfoldable pub added : List ℕ → ℕ → ℕ → List ℕ
  added sum n k =
      choose (eqb (leader_of sum n (states_at k)) 0) (λ _. put_field (hung sum (home_of (states_mixed s (states_at k)) n) k (mark_in (states_mixed s (states_at k)))) k 1)
      (λ _. let j : ℕ = leader_of sum n (states_at k) - 1 in
      joined_at sum j (number_of s (cube_at f list k)) n k)

  -- the first entry of its group, if it is not the first itself; and the number of the chain where it joins
  pub record Joins (sum : List ℕ) (n k : ℕ) (leader : Option ℕ) (number : ℕ) : Type 0 where
    pub leading : leader ≡ entry_in (leader_of sum n (states_at k))
    pub small : (j : ℕ) → leader ≡ Some j → j < 1048575
    pub first : leader ≡ None → number ≡ states_mixed s (states_at k)
    pub other : (j : ℕ) → leader ≡ Some j → number ≡ number_of s (cube_at f list k)

  unfoldable pub added_from : List ℕ → ℕ → ℕ → List ℕ
  added_from sum n zero = sum
  added_from sum n (suc k) = added (added_from sum n k) n k

-- the summary of n entries, in bytes that were 0: each is added in turn
abbrev pub summary_of : List ℕ → List ℕ → Shape → ℕ → List ℕ → List ℕ
summary_of f list s n sum = added_from f list s sum n n

-- in the upper part of a work area: below `at` the offsets, from there on the summary. Nothing is done where it has no room for n entries, or n is
-- more than a list can have.
unfoldable pub summarised : List ℕ → Shape → ℕ → ℕ → List ℕ → List ℕ
summarised f s at n upper =
    choose (leb at (length upper) && (leb n ((length upper - at) / 8) && leb n 524288)) (λ _. take at upper ++ summary_of f (take at upper) s n (drop at upper)) (λ _. upper)
