-- Patterns found by their local states: chains in a table of words of four bytes, two for each pattern. Word 2 h is the first pattern of chain h, word
-- 2 k + 1 the one after pattern k, each counted from 1. No statement of the judge rests on these definitions: whatever the words hold, a walk falls and ends,
-- and each pattern that it leads to is held against the file.
use Rattle.std.specs.Prelude.{ℕ, zero, suc, ◌+◌, ◌*◌, ◌-◌, ◌/◌, ◌%◌, ◌<◌, min, ◌≡◌, Bool, cond, ◌&&◌, ◌||◌, List, [], ◌∷◌, ◌++◌, length, get_or, take, drop, eqb, leb, Option, Some, None}
use Rattle.machine_pws.specs.Machine.{all_below}
use Rattle.base.specs.Bytes.{choose, byte}
use Rattle.file_records.specs.declared.program.Shape.{Shape}
use Rattle.file_again.specs.Again.{offset_at}
use Rattle.list_key.specs.Number.{states_mixed}
use Rattle.list_summary.specs.Slots.{word, put_word}
use Rattle.list_summary.specs.Groups.{states_at}

-- a link to one of the patterns below a bound, else none
abbrev pub falling : ℕ → ℕ → ℕ
falling below link = cond (leb link below) link 0

-- the link to a pattern, if there is one
abbrev pub link_of : Option ℕ → ℕ
link_of None = 0
link_of (Some k) = suc k

-- the chain of a number among n
abbrev pub chain_of : ℕ → ℕ → ℕ
chain_of number n = choose (eqb n 0) (λ _. 0) (λ _. number % n)

-- the first pattern of the chain of a number, counted from 1, or 0; and the one after pattern k
unfoldable pub first_of : List ℕ → ℕ → ℕ → ℕ
first_of sum n number = falling n (word sum (2 * chain_of number n))

unfoldable pub next_of : List ℕ → ℕ → ℕ
next_of sum k = falling k (word sum (2 * k + 1))

-- pattern k is met on the chain that goes on with `next`
pub data On (sum : List ℕ) : (next k : ℕ) → Type 0 where
  here : {next k : ℕ} → next ≡ suc k → On sum next k
  later : {next k : ℕ} (j : ℕ) → next ≡ suc j → On sum (next_of sum j) k → On sum next k

-- each of n patterns is met on the chain of its states
abbrev pub Indexed : List ℕ → List ℕ → List ℕ → ℕ → Shape → Type 0
Indexed f list sum n s = (k : ℕ) → k < n → On sum (first_of sum n (states_mixed s (states_at f list s k))) k

-- ---- what a 13 says of its pattern, before the rest of it is looked at

-- a value that the newest message is asked for, FF for none: the first is asked for what the second is
abbrev pub value_holds : ℕ → ℕ → Bool
value_holds x y = eqb y 255 || eqb x y

-- the values of the 13 of pattern k
abbrev pub values_at : List ℕ → List ℕ → ℕ → List ℕ
values_at f list k =
    byte f (offset_at list k + 5) ∷ byte f (offset_at list k + 6) ∷ byte f (offset_at list k + 7) ∷ byte f (offset_at list k + 8) ∷ []

-- it has these local states, and asks for none but these values
unfoldable pub head_holds : Shape → List ℕ → List ℕ → List ℕ → List ℕ → ℕ → Bool
head_holds s f list states newest k =
    all_below (min s.processes 4) (λ p. eqb (get_or states p 0) (get_or (states_at f list s k) p 0))
    && all_below (min s.variables 4) (λ v. value_holds (get_or newest v 0) (get_or (values_at f list k) v 0))

-- ---- how they are added

-- pattern k becomes the first of chain h
unfoldable pub hung_on : List ℕ → ℕ → ℕ → List ℕ
hung_on sum h k = put_word (put_word sum (2 * h) (k + 1)) (2 * k + 1) (falling k (word sum (2 * h)))

module _ (f list : List ℕ) (s : Shape) where
  -- the first m of n patterns
  unfoldable pub index_from : List ℕ → ℕ → ℕ → List ℕ
  index_from sum n zero = sum
  index_from sum n (suc m) = hung_on (index_from sum n m) (chain_of (states_mixed s (states_at f list s m)) n) m

-- in the upper part of a work area, below `at` the offsets, from there on the table: pattern k of n joins
abbrev pub hung_in : List ℕ → Shape → ℕ → ℕ → List ℕ → ℕ → List ℕ
hung_in f s at n upper k = take at upper ++ hung_on (drop at upper) (chain_of (states_mixed s (states_at f (take at upper) s k)) n) k

-- and all n. Nothing is done where it has no room for them, or n is more than a list can have.
unfoldable pub indexed_in : List ℕ → Shape → ℕ → ℕ → List ℕ → List ℕ
indexed_in f s at n upper =
    choose (leb at (length upper) && (leb n ((length upper - at) / 8) && leb n 524288)) (λ _. take at upper ++ index_from f (take at upper) s (drop at upper) n n)
    (λ _. upper)
