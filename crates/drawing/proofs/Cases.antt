-- Texts worked out by hand: the layout of request N12, and places of 27.
use Prim.Native.Nat.{ℕ}
use mathlib.Core.Path.{◌≡◌, refl}
use mathlib.Core.List.{List, [], ◌∷◌, ◌++◌}
use Rattle.machine_pws.specs.declared.Step.TheVariants.{Take, Serialise, Update}
use Rattle.drawing.specs.Text.{decimal_in, decimal, letters, node_line, edge_line, node_lines, edge_lines, text}
use Rattle.drawing.specs.Parts.{edge_head}
use Rattle.drawing.specs.Accepted.{Reading, place}
use Rattle.drawing.specs.Reading.{has_byte, expect_at, is_digit_byte, is_small, value_at, third_digit, second_digit, number_at, variable_at, pair_at, label_at, edge_end, edge_at, edges_at, nodes_at, more_at, nodes_read, reading_of}

-- `t0`, `s01`, `u1`, `t255`
letters_t0 : letters (Take 0) ≡ 116 ∷ 48 ∷ []
unfolding letters decimal decimal_in
letters_t0 = refl

letters_s01 : letters (Serialise 0 1) ≡ 115 ∷ 48 ∷ 49 ∷ []
unfolding letters
letters_s01 = refl

letters_u1 : letters (Update 1) ≡ 117 ∷ 49 ∷ []
unfolding letters
letters_u1 = refl

letters_t255 : letters (Take 255) ≡ 116 ∷ 50 ∷ 53 ∷ 53 ∷ []
unfolding letters decimal decimal_in
letters_t255 = refl

decimal_1024 : decimal 1024 ≡ 49 ∷ 48 ∷ 50 ∷ 52 ∷ []
unfolding decimal decimal_in
decimal_1024 = refl

-- `digraph run {`, `c0;`
beginning : List ℕ
beginning = 100 ∷ 105 ∷ 103 ∷ 114 ∷ 97 ∷ 112 ∷ 104 ∷ 32 ∷ 114 ∷ 117 ∷ 110 ∷ 32 ∷ 123 ∷ 10 ∷ 99 ∷ 48 ∷ 59 ∷ 10 ∷ []

-- the empty run: and `}`
text_empty : text [] ≡ beginning ++ (125 ∷ 10 ∷ [])
unfolding text node_lines node_line edge_lines decimal decimal_in beginning
text_empty = refl

-- `c1;`, `c0 -> c1 [label=`
middle : List ℕ
middle = 99 ∷ 49 ∷ 59 ∷ 10 ∷ 99 ∷ 48 ∷ 32 ∷ 45 ∷ 62 ∷ 32 ∷ 99 ∷ 49 ∷ 32 ∷ 91 ∷ 108 ∷ 97 ∷ 98 ∷ 101 ∷ 108 ∷ 61 ∷ []

-- one step: and `t0];`, `}`
text_t0 : text (Take 0 ∷ []) ≡ beginning ++ (middle ++ (116 ∷ 48 ∷ 93 ∷ 59 ∷ 10 ∷ 125 ∷ 10 ∷ []))
unfolding text node_lines node_line edge_lines edge_line letters decimal decimal_in beginning middle
text_t0 = refl

-- ---- 27: with `t01]`, with `t256]`, with `s04]`, and where the text stops after `t2`

module _ (l : List ℕ) where
  abbrev said : Reading
  said = reading_of (beginning ++ (middle ++ l))

leading_zero : said (116 ∷ 48 ∷ 49 ∷ 93 ∷ []) ≡ place 40
unfolding reading_of nodes_read more_at nodes_at edges_at edge_at edge_end label_at number_at second_digit third_digit value_at is_digit_byte expect_at has_byte edge_head node_line decimal decimal_in beginning middle
leading_zero = refl

too_large : said (116 ∷ 50 ∷ 53 ∷ 54 ∷ 93 ∷ []) ≡ place 41
unfolding reading_of nodes_read more_at nodes_at edges_at edge_at edge_end label_at number_at second_digit third_digit value_at is_digit_byte expect_at has_byte edge_head node_line decimal decimal_in beginning middle
too_large = refl

no_variable : said (115 ∷ 48 ∷ 52 ∷ 93 ∷ []) ≡ place 40
unfolding reading_of nodes_read more_at nodes_at edges_at edge_at edge_end label_at pair_at variable_at value_at is_small expect_at has_byte edge_head node_line decimal decimal_in beginning middle
no_variable = refl

stops_early : said (116 ∷ 50 ∷ []) ≡ place 40
unfolding reading_of nodes_read more_at nodes_at edges_at edge_at edge_end label_at number_at second_digit third_digit value_at is_digit_byte expect_at has_byte edge_head node_line decimal decimal_in beginning middle
stops_early = refl
