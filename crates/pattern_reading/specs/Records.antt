-- The records of a pattern, and when each is refused (docs/PATTERNS.md, "Records"). Kinds are in decimal: 18 is 12, 19 is 13, 20 is 14, 21 is 15.
use Rattle.std.specs.Prelude.{ℕ, ◌+◌, Bool, false, cond, ◌&&◌, not, List, [], ◌∷◌, ◌++◌, length, eqb, leb, ltb}
use Rattle.std.proofs.Math.Option.{Option, none, some}
use Rattle.machine_pws.specs.Machine.{put}
use Rattle.file_records.specs.declared.program.Shape.{Shape}
use Rattle.base.specs.Bytes.{byte, cut}
use Rattle.file_records.specs.Records.{first_number, is_kind, value_count, exists, state_names, state_at, value_name, waiting_number}
use Rattle.pattern_theory.specs.Patterns.{PathRead}
use Rattle.pattern_theory.specs.Verdict.{is_some}

-- FF is any value
abbrev pub asked : ℕ → Option ℕ
asked x = cond (eqb x 255) none (some x)

-- what the records of a pattern give: its words, and for each queue the last byte of its 15
pub record Given : Type 0 where
  pub state : ℕ → ℕ
  pub newest : ℕ → Option ℕ
  pub word : ℕ → ℕ → List (Option ℕ)
  pub mark : ℕ → ℕ → Option ℕ
  pub path : ℕ → List PathRead

-- ---- 0F: the claim is 0

unfoldable pub claim_number : List ℕ → ℕ → ℕ
claim_number f at = first_number (not (is_kind f at 15)) (cut f at 1) false false (not (eqb (byte f (at + 1)) 0))

-- ---- 13: four local states; four values, FF for free, and 0 for a variable that the shape does not have

unfoldable pub newest_names : Shape → List ℕ → ℕ → Bool
newest_names s f at =
    value_name s 0 (byte f (at + 5)) && (value_name s 1 (byte f (at + 6)) && (value_name s 2 (byte f (at + 7)) && value_name s 3 (byte f (at + 8))))

unfoldable pub pattern_number : Shape → List ℕ → List ℕ → ℕ → Bool → ℕ
pattern_number s states f at full = first_number (not (is_kind f at 19)) (cut f at 8) full false (not (state_names s states f at && newest_names s f at))

abbrev pub newest_at : Shape → List ℕ → ℕ → ℕ → Option ℕ
newest_at s f at v = cond (ltb v s.variables) (asked (byte f (at + (5 + v)))) none

abbrev pub beginning : Shape → List ℕ → ℕ → Given
beginning s f at = record { state = state_at f at; newest = newest_at s f at; word = λ p v. []; mark = λ p v. none; path = λ p. [] }

-- ---- 12, 14 and 15 of a pattern

-- 14: process, variable, value, own; at most 16 for a process, and one that does not exist is never full
unfoldable pub read_names : Shape → List ℕ → ℕ → Bool
read_names s f at =
    exists s (byte f (at + 1)) (byte f (at + 2)) && (ltb (byte f (at + 3)) (value_count s (byte f (at + 2))) && leb (byte f (at + 4)) 1)

unfoldable pub read_number : Shape → List ℕ → ℕ → ℕ → ℕ
read_number s f at reads = first_number false (cut f at 4) (ltb (byte f (at + 1)) s.processes && leb 16 reads) false (not (read_names s f at))

-- 15: process, variable, 0 or 1; one for a queue
unfoldable pub mark_names : Shape → List ℕ → ℕ → Bool
mark_names s f at = exists s (byte f (at + 1)) (byte f (at + 2)) && leb (byte f (at + 3)) 1

unfoldable pub mark_number : Shape → List ℕ → ℕ → Bool → ℕ
mark_number s f at marked = first_number false (cut f at 3) (exists s (byte f (at + 1)) (byte f (at + 2)) && marked) false (not (mark_names s f at))

unfoldable pub body_number : Shape → List ℕ → ℕ → Given → ℕ
body_number s f at g =
    cond (is_kind f at 18) (waiting_number s f at (length (g.word (byte f (at + 1)) (byte f (at + 2)))))
    (cond (is_kind f at 20) (read_number s f at (length (g.path (byte f (at + 1)))))
    (cond (is_kind f at 21) (mark_number s f at (is_some (g.mark (byte f (at + 1)) (byte f (at + 2))))) 2))

unfoldable pub body_size : List ℕ → ℕ → ℕ
body_size f at = cond (is_kind f at 20) 5 4

-- ---- with one record more

abbrev pub with_value : List ℕ → ℕ → Given → Given
with_value f at g =
    let p = byte f (at + 1) in
    let v = byte f (at + 2) in
    record {
      state = g.state;
      newest = g.newest;
      word = put g.word p (put (g.word p) v (g.word p v ++ (asked (byte f (at + 3)) ∷ [])));
      mark = g.mark;
      path = g.path;
    }

abbrev pub read_at : List ℕ → ℕ → PathRead
read_at f at = record { variable = byte f (at + 2); value = byte f (at + 3); own = eqb (byte f (at + 4)) 1 }

abbrev pub read_put : List ℕ → ℕ → Given → Given
read_put f at g =
    let p = byte f (at + 1) in
    record { state = g.state; newest = g.newest; word = g.word; mark = g.mark; path = put g.path p (g.path p ++ (read_at f at ∷ [])) }

abbrev pub with_mark : List ℕ → ℕ → Given → Given
with_mark f at g =
    let p = byte f (at + 1) in
    record {
      state = g.state;
      newest = g.newest;
      word = g.word;
      mark = put g.mark p (put (g.mark p) (byte f (at + 2)) (some (byte f (at + 3))));
      path = g.path;
    }

unfoldable pub extended : List ℕ → ℕ → Given → Given
extended f at g = cond (is_kind f at 18) (with_value f at g) (cond (is_kind f at 20) (read_put f at g) (with_mark f at g))
