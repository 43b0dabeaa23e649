-- How a text is read, byte after byte. That this means what Accepted.antt says is proved (ReadLaws).
use Rattle.std.specs.Prelude.{ℕ, zero, suc, ◌+◌, ◌*◌, ◌-◌, ◌≤◌, ◌≡◌, Bool, ◌&&◌, not, List, [], ◌∷◌, length, eqb, leb, ltb, Result, Ok, Err}
use Rattle.machine_pws.specs.declared.Step.{Step}
use Rattle.machine_pws.specs.declared.Step.TheVariants.{Take, Serialise, Update}
use Rattle.base.specs.Bytes.{choose, byte}
use Rattle.file_records.specs.ProgramPart.{and_then}
use Rattle.drawing.specs.declared.word.Outside.{Outside}
use Rattle.drawing.specs.declared.label.Edge.{Edge}
use Rattle.drawing.specs.declared.read.Nodes.{Nodes}
use Rattle.drawing.specs.Text.{line, opening, node_line}
use Rattle.drawing.specs.Runs.{records_of}
use Rattle.drawing.specs.Writing.{Made, made, refused}
use Rattle.drawing.specs.Parts.{edge_head, edge_tail}
use Rattle.drawing.specs.Accepted.{Reading, run, place}

-- ---- what a part of the reading gives, or where it stops

abbrev pub stuck : {A : Type 0} → ℕ → Result A Outside
stuck p = Err (record { place = p })

abbrev pub edge_of : Step → ℕ → Result Edge Outside
edge_of s a = Ok (record { step = s; next = a })

abbrev pub nodes_of : ℕ → ℕ → Result Nodes Outside
nodes_of n a = Ok (record { edges = n; at = a })

-- ---- bytes and words

-- the byte c stands at `at`
unfoldable pub has_byte : List ℕ → ℕ → ℕ → Bool
has_byte t at c = ltb at (length t) && eqb (byte t at) c

-- the word stands at `at`: the place after it, or that of the first byte that differs or is missing
unfoldable pub expect_at : List ℕ → ℕ → List ℕ → Result ℕ Outside
expect_at t at [] = Ok at
expect_at t at (c ∷ w) = choose (has_byte t at c) (λ _. expect_at t (at + 1) w) (λ _. stuck at)

-- ---- a step's letters

unfoldable pub is_digit_byte : List ℕ → ℕ → Bool
is_digit_byte t at = leb 48 (byte t at) && leb (byte t at) 57

-- 0 to 3
unfoldable pub is_small : List ℕ → ℕ → Bool
is_small t at = leb 48 (byte t at) && leb (byte t at) 51

unfoldable pub value_at : List ℕ → ℕ → ℕ
value_at t at = byte t at - 48

-- a third digit is read if the number stays below 256; b is the number so far
unfoldable pub third_digit : List ℕ → ℕ → ℕ → Result Edge Outside
third_digit t at b = choose (is_digit_byte t at && leb (10 * b + value_at t at) 255) (λ _. edge_of (Take (10 * b + value_at t at)) (at + 1)) (λ _. edge_of (Take b) at)

-- no digit follows a leading zero
unfoldable pub second_digit : List ℕ → ℕ → ℕ → Result Edge Outside
second_digit t at a = choose (not (eqb a 0) && is_digit_byte t at) (λ _. third_digit t (at + 1) (10 * a + value_at t at)) (λ _. edge_of (Take a) at)

unfoldable pub number_at : List ℕ → ℕ → Result Edge Outside
number_at t at = choose (is_digit_byte t at) (λ _. second_digit t (at + 1) (value_at t at)) (λ _. stuck at)

unfoldable pub variable_at : List ℕ → ℕ → ℕ → Result Edge Outside
variable_at t at p = choose (is_small t at) (λ _. edge_of (Serialise p (value_at t at)) (at + 1)) (λ _. stuck at)

unfoldable pub pair_at : List ℕ → ℕ → Result Edge Outside
pair_at t at = choose (is_small t at) (λ _. variable_at t (at + 1) (value_at t at)) (λ _. stuck at)

unfoldable pub process_at : List ℕ → ℕ → Result Edge Outside
process_at t at = choose (is_small t at) (λ _. edge_of (Update (value_at t at)) (at + 1)) (λ _. stuck at)

unfoldable pub label_at : List ℕ → ℕ → Result Edge Outside
label_at t at =
    choose (has_byte t at 116) (λ _. number_at t (at + 1))
    (λ _. choose (has_byte t at 115) (λ _. pair_at t (at + 1)) (λ _. choose (has_byte t at 117) (λ _. process_at t (at + 1)) (λ _. stuck at)))

-- ---- the lines

-- the rest of an edge's line, after its step
unfoldable pub edge_end : List ℕ → ℕ → Step → Result Edge Outside
edge_end t at s = and_then (expect_at t at edge_tail) (λ a. edge_of s a)

-- the line of edge k
unfoldable pub edge_at : List ℕ → ℕ → ℕ → Result Edge Outside
edge_at t at k = and_then (expect_at t at (edge_head k)) (λ a. and_then (label_at t a) (λ e. edge_end t e.next e.step))

-- `}` and nothing more
abbrev pub ending : List ℕ → Result ℕ Outside → Reading
ending t (Ok a) = choose (ltb a (length t)) (λ _. place a) (λ _. run [])
ending t (Err e) = place e.place

abbrev pub edges_then : Result Edge Outside → (Edge → Reading) → Reading
edges_then (Ok e) g = g e
edges_then (Err e) g = place e.place

abbrev pub step_then : Step → Reading → Reading
step_then s (run ss) = run (s ∷ ss)
step_then s (place p) = place p

-- m edges, from number k on, and the end
unfoldable pub edges_at : ℕ → List ℕ → ℕ → ℕ → Reading
edges_at zero t at k = ending t (expect_at t at (line (125 ∷ [])))
edges_at (suc m) t at k = edges_then (edge_at t at k) (λ e. step_then e.step (edges_at m t e.next (k + 1)))

-- After node n, which is not node 0: `c0` begins the edges, of which there are n; else one more node follows, if one may.
unfoldable pub nodes_at : ℕ → List ℕ → ℕ → ℕ → Result Nodes Outside
nodes_at zero t at n = nodes_of n at
nodes_at (suc left) t at n =
    choose (has_byte t at 99)
    (λ _. choose (has_byte t (at + 1) 48) (λ _. nodes_of n at) (λ _. and_then (expect_at t at (node_line (n + 1))) (λ a. nodes_at left t a (n + 1))))
    (λ _. stuck at)

-- after node 0: `}`, or node 1
unfoldable pub more_at : List ℕ → ℕ → Result Nodes Outside
more_at t at = choose (has_byte t at 125) (λ _. nodes_of 0 at) (λ _. and_then (expect_at t at (node_line 1)) (λ a. nodes_at 1023 t a 1))

unfoldable pub nodes_read : List ℕ → Result Nodes Outside
nodes_read t = and_then (expect_at t 0 (line opening)) (λ a. and_then (expect_at t a (node_line 0)) (λ b. more_at t b))

abbrev pub edges_from : List ℕ → Result Nodes Outside → Reading
edges_from t (Ok n) = edges_at n.edges t n.at 0
edges_from t (Err e) = place e.place

unfoldable pub reading_of : List ℕ → Reading
reading_of t = edges_from t (nodes_read t)

-- ---- what is written

abbrev pub of_reading : Reading → Made
of_reading (run ss) = made (records_of ss)
of_reading (place p) = refused 27 p

-- the step records of a text
unfoldable pub records_in : List ℕ → Made
records_in t = of_reading (reading_of t)

-- how many bytes they take, after those of the steps before
abbrev pub size_after : ℕ → Reading → Result ℕ Outside
size_after n (run ss) = Ok (n + length (records_of ss))
size_after n (place p) = stuck p

unfoldable pub end_size : List ℕ → ℕ → ℕ → Result ℕ Outside
end_size t at n = size_after n (ending t (expect_at t at (line (125 ∷ []))))

abbrev pub steps_in : Reading → List Step
steps_in (run ss) = ss
steps_in (place p) = []

-- n edges stand at `at`, and so much room is enough for their records
pub record Readable (t : List ℕ) (at n room : ℕ) : Type 0 where
  pub few : n ≤ 1024
  pub reads : edges_at n t at 0 ≡ run (steps_in (edges_at n t at 0))
  pub enough : length (records_of (steps_in (edges_at n t at 0))) ≤ room
