-- The program part of a file, from a place in it on: one 01; an 02 for each process; 0 to 256 of 03; 1 to 4,096 of 04 (document 01, "Records"; document 02,
-- N8, for the number of 04s, and for a program with registers, which has 05s in place of the 03s and up to 16 of 04).
-- In a combined file it ends at the claim, and a file that ends before that is 6. In a program file (document 02, N6) it ends with the file, which is 6 if it
-- ends before its first 04; an 0F there is 2, as every other kind but 04 is. `alone` says that the file is a program file.
use Rattle.std.specs.Prelude.{ℕ, zero, suc, ◌+◌, ◌*◌, Bool, true, false, cond, ◌&&◌, not, List, [], ◌∷◌, length, get_or, eqb, leb, ltb, Result, Ok, Err, ⊤}
use Rattle.machine_pws.specs.Program as pws
use Rattle.file_records.specs.declared.program.Format.{Format}
use Rattle.file_records.specs.declared.program.Format.TheVariants.{Plain}
use Rattle.file_records.specs.declared.program.Shape.{Shape}
use Rattle.file_records.specs.declared.program.Refusal.{Refusal}
use Rattle.file_records.specs.declared.program.Program.{Program}
use Rattle.base.specs.Bytes.{choose, byte}
use Rattle.file_records.specs.Format.{transition_kind, most_targets}
use Rattle.file_records.specs.Records.{checked, is_kind, shape_at, shape_number, value_count, states_number, transition_number, transition_at, target_number, state_at}

-- ---- one record after another

-- 6 at the file's end, else what is said of the record there
unfoldable pub unless_end : List ℕ → ℕ → Result ⊤ Refusal → Result ⊤ Refusal
unless_end f at x = cond (leb (length f) at) (Err (record { number = 6; place = length f })) x

-- the first refusal, or what comes of the value
abbrev pub and_then : {A B E : Type 0} → Result A E → (A → Result B E) → Result B E
and_then (Ok a) x = x a
and_then (Err e) x = Err e

-- the refusal alone
abbrev pub whether : {A E : Type 0} → Result A E → Result ⊤ E
whether (Ok a) = Ok tt
whether (Err e) = Err e

-- ---- the 02s: n of them

unfoldable pub states_from : List ℕ → ℕ → ℕ → Result ⊤ Refusal
states_from f at zero = Ok tt
states_from f at (suc n) = and_then (unless_end f at (checked (states_number f at) at)) (λ _. states_from f (at + 3) n)

-- the byte k places into the 02 of each of n processes, and 0 for the others
abbrev pub of_process : List ℕ → ℕ → ℕ → ℕ → ℕ → ℕ
of_process f at k n p = cond (ltb p n) (byte f (at + (k + 3 * p))) 0

abbrev pub of_processes : List ℕ → ℕ → ℕ → ℕ → List ℕ
of_processes f at k n = of_process f at k n 0 ∷ of_process f at k n 1 ∷ of_process f at k n 2 ∷ of_process f at k n 3 ∷ []

-- ---- records in a row

-- How many stand here, n of them being read already, up to where the row ends; or the first refusal. `left` more are allowed, and the
-- check of a record is told how many stand before it.
unfoldable pub row_from : (ℕ → ℕ → Bool) → (ℕ → ℕ → Result ⊤ Refusal) → (ℕ → ℕ) → ℕ → ℕ → ℕ → Result ℕ Refusal
row_from ends check size zero at n = choose (ends at n) (λ _. Ok n) (λ _. and_then (check at n) (λ _. Ok n))
row_from ends check size (suc left) at n =
    choose (ends at n) (λ _. Ok n) (λ _. and_then (check at n) (λ _. row_from ends check size left (at + size at) (suc n)))

-- the 03s or 05s: all that stand here
unfoldable pub transitions_from : Format → Shape → List ℕ → List ℕ → ℕ → Result ℕ Refusal
transitions_from k s states f at =
    row_from (λ i n. not (is_kind f i (transition_kind k))) (λ i n. checked (transition_number k s states f i n) i) (λ i. 8) 256 at 0

-- the part ends here, after at least one target: with the file, or at the claim
unfoldable pub at_end : Bool → List ℕ → ℕ → ℕ → Bool
at_end alone f at n = cond alone (leb (length f) at) (is_kind f at 15) && leb 1 n

-- the 04s, up to where the part ends
unfoldable pub targets_from : Format → Bool → Shape → List ℕ → List ℕ → ℕ → Result ℕ Refusal
targets_from k alone s states f at =
    row_from (at_end alone f) (λ i n. unless_end f i (checked (target_number k s states f i n) i)) (λ i. 5) (most_targets k) at 0

-- ---- the whole part: where everything stands, or the first refusal

abbrev pub no_program : Program
no_program =
    record {
      shape = record { processes = 0; variables = 0; values = 0 ∷ 0 ∷ 0 ∷ 0 ∷ [] };
      states = 0 ∷ 0 ∷ 0 ∷ 0 ∷ [];
      initial = 0 ∷ 0 ∷ 0 ∷ 0 ∷ [];
      transitions = record { at = 0; count = 0 };
      targets = record { at = 0; count = 0 };
      claim = 0;
    }

-- what was read, and nothing where it is refused
abbrev pub program_read : Result Program Refusal → Program
program_read (Ok p) = p
program_read (Err r) = no_program

-- the transitions and the 04s
unfoldable pub rows_from : Format → Bool → List ℕ → ℕ → Shape → List ℕ → List ℕ → Result Program Refusal
rows_from k alone f at s states initial =
    and_then (transitions_from k s states f at) (λ n.
    and_then (targets_from k alone s states f (at + 8 * n)) (λ m.
    Ok (
    record {
      shape = s;
      states = states;
      initial = initial;
      transitions = record { at = at; count = n };
      targets = record { at = at + 8 * n; count = m };
      claim = at + 8 * n + 5 * m;
    })))

-- and the 02s before them
unfoldable pub rest_from : Format → Bool → List ℕ → ℕ → Shape → Result Program Refusal
rest_from k alone f at s =
    and_then (states_from f at s.processes) (λ _.
    rows_from k alone f (at + 3 * s.processes) s (of_processes f at 1 s.processes) (of_processes f at 2 s.processes))

-- and the 01 before these
unfoldable pub program_with : Format → Bool → List ℕ → ℕ → Result Program Refusal
program_with k alone f at = and_then (unless_end f at (checked (shape_number k f at) at)) (λ _. rest_from k alone f (at + 7) (shape_at f at))

-- as the judge reads it
abbrev pub program_from : Bool → List ℕ → ℕ → Result Program Refusal
program_from alone f at = program_with Plain alone f at

-- ---- what stands there

abbrev pub table_from {ℓ} : {A : Type ℓ} → (ℕ → A) → ℕ → ℕ → List A
table_from g i zero = []
table_from g i (suc n) = g i ∷ table_from g (suc i) n

-- the shape, the program and the targets of the machine's definitions
abbrev pub shape_of : Shape → pws.Shape
shape_of s = record { processes = s.processes; variables = s.variables; values = value_count s; room = 4 }

abbrev pub program_of : List ℕ → Program → pws.Program
program_of f p =
    record {
      shape = shape_of p.shape;
      states = λ q. get_or p.states q 0;
      initial = λ q. get_or p.initial q 0;
      transitions = table_from (λ i. transition_at f (p.transitions.at + 8 * i)) 0 p.transitions.count;
    }

abbrev pub targets_of : List ℕ → Program → List (ℕ → ℕ)
targets_of f p = table_from (λ i. state_at f (p.targets.at + 5 * i)) 0 p.targets.count
