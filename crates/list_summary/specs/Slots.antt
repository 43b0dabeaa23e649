-- The bytes of a summary (request N2): words of four bytes, two for each entry allowed. No statement of the judge rests on these
-- definitions: whatever the words hold, each entry that they lead to is held against the file.
use Rattle.std.specs.Prelude.{ℕ, zero, suc, ◌+◌, ◌*◌, ◌-◌, ◌/◌, ◌%◌, ◌^◌, ◌<◌, ◌≡◌, cond, List, Option, Some, None, length, ltb}
use Rattle.std.specs.Int.Count.{count_leading_zeros}
use Rattle.base.specs.Bytes.{choose, le32, put32}

-- ---- words

-- word i, 0 where it is not whole
unfoldable pub word : List ℕ → ℕ → ℕ
word sum i = cond (ltb i (length sum / 4)) (le32 sum (4 * i)) 0

unfoldable pub put_word : List ℕ → ℕ → ℕ → List ℕ
put_word sum i x = choose (ltb i (length sum / 4)) (λ _. put32 sum (4 * i) x) (λ _. sum)

-- ---- links: an entry, counted from 1, or 0 for none, in 20 bits; and a mark in two

abbrev pub linked : ℕ → ℕ
linked link = link % 1048576

-- the entry that a number counted from 1 stands for
abbrev pub entry_in : ℕ → Option ℕ
entry_in zero = None
entry_in (suc k) = Some k

abbrev pub marked : ℕ → ℕ
marked link = link / 1048576

abbrev pub link_to : ℕ → ℕ → ℕ
link_to k mark = k + 1 + 1048576 * mark

-- ---- slots: slot k is words 2 k and 2 k + 1. In their lower 22 bits, the first link of chain k and the link after entry k; in their upper
-- ten, a field of twenty bits: the number of entries in the group that entry k leads; or, if it leads none, 786,432 and its signature.

unfoldable pub head_link : List ℕ → ℕ → ℕ
head_link sum k = word sum (2 * k) % 4194304

unfoldable pub next_link : List ℕ → ℕ → ℕ
next_link sum k = word sum (2 * k + 1) % 4194304

unfoldable pub field_at : List ℕ → ℕ → ℕ
field_at sum k = word sum (2 * k) / 4194304 % 1024 + 1024 * (word sum (2 * k + 1) / 4194304 % 1024)

-- the number in a field; none if it has a signature
abbrev pub number_in : ℕ → ℕ
number_in x = cond (ltb x 786432) x 0

-- how many entries the group has that entry k leads, 0 if it leads none
unfoldable pub count_at : List ℕ → ℕ → ℕ
count_at sum k = number_in (field_at sum k)

unfoldable pub signature_at : List ℕ → ℕ → ℕ
signature_at sum k = field_at sum k % 262144

-- a word with another link, and with another digit of a field
abbrev pub with_link : ℕ → ℕ → ℕ
with_link w link = 4194304 * (w / 4194304 % 1024) + link

abbrev pub with_digit : ℕ → ℕ → ℕ
with_digit w digit = w % 4194304 + 4194304 * digit

-- entry k becomes the first of a chain
unfoldable pub hung : List ℕ → ℕ → ℕ → ℕ → List ℕ
hung sum home k mark =
    let old : ℕ = head_link sum home in
    let led : List ℕ = put_word sum (2 * home) (with_link (word sum (2 * home)) (link_to k mark)) in
    put_word led (2 * k + 1) (with_link (word led (2 * k + 1)) old)

-- x is the field of slot k
unfoldable pub put_field : List ℕ → ℕ → ℕ → List ℕ
put_field sum k x =
    let low : List ℕ = put_word sum (2 * k) (with_digit (word sum (2 * k)) (x % 1024)) in
    put_word low (2 * k + 1) (with_digit (word low (2 * k + 1)) (x / 1024 % 1024))

-- ---- where a number belongs in a table of n chains, and its mark

-- the top bits of the number, as many as n - 1 has, less n if they are not below it
unfoldable pub home_of : ℕ → ℕ → ℕ
home_of number n =
    choose (ltb n 2) (λ _. 0)
    (λ _. choose (ltb (number / 2 ^ count_leading_zeros 64 (n - 1)) n) (λ _. number / 2 ^ count_leading_zeros 64 (n - 1))
    (λ _. choose (ltb (number / 2 ^ count_leading_zeros 64 (n - 1) - n) n) (λ _. number / 2 ^ count_leading_zeros 64 (n - 1) - n) (λ _. 0)))

abbrev pub mark_in : ℕ → ℕ
mark_in number = number % 4

-- ---- chains

-- entry k is met on the chain that goes on with `link`, through a link with this mark. Entries fall, from those below `below`: a link that
-- does not fall ends the chain.
pub data Met (sum : List ℕ) : (below link k mark : ℕ) → Type 0 where
  here : {below link k : ℕ} → linked link ≡ suc k → k < below → Met sum below link k (marked link)
  later : {below link k mark : ℕ} (j : ℕ) → linked link ≡ suc j → j < below → Met sum j (next_link sum j) k mark → Met sum below link k mark
