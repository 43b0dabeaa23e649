-- A program and its targets are read back from their records.
use Rattle.std.specs.Prelude.{Result, Ok}
use Rattle.file_records.specs.declared.program.Refusal.{Refusal}
use Prim.Native.Nat.{ℕ, ◌+◌, ◌-◌, ◌*◌, ◌<◌, ◌≤◌}
use mathlib.Core.Path.{◌≡◌, refl, sym, ap, ap₂, ◌∙◌}
use mathlib.Core.Bool.{Bool, true, false, ◌&&◌, not}
use mathlib.Core.List.{List, [], ◌∷◌, ◌++◌}
use native.Mathlib.Omega.{arith}
use native.Mathlib.Decide.{dec_lt}
use lib.ListN.{length, get_or, get_or-append, get_or-eq_default}
use lib.Seq.{get_or-append-add}
use borrow.Author.Tests.{eq-eqb, ne_eqb, lt-ltb, le-ltb, le-leb, lt-leb}
use Rattle.machine_pws.specs.declared.Operation.{Operation}
use Rattle.machine_pws.specs.declared.Operation.TheVariants.{Nop, Read, Write, Mfence, Sfence, Arw}
use Rattle.machine_pws.specs.declared.Transition.{Transition}
use Rattle.machine_pws.specs.Program as pws
use Rattle.machine_pws.specs.Configurations.{StatesOf}
use Rattle.base.specs.Bytes.{byte, cut}
use Rattle.file_records.specs.declared.program.Format.TheVariants.{Plain}
use Rattle.file_records.specs.declared.program.Shape.{Shape}
use Rattle.file_records.specs.declared.program.Program.{Program}
use Rattle.file_records.specs.Records.{
  first_number,
  checked,
  is_kind,
  in_range,
  shape_at,
  value_count,
  count_in_range,
  counts_in_range,
  count_if_absent,
  counts_if_absent,
  shape_number,
  states_number,
  value_exists,
  all_zero,
  names_of,
  operation_names,
  operation_of,
  transition_names,
  transition_at,
  transition_number,
  state_name,
  state_names,
  state_at,
  target_number,
}
use Rattle.file_records.specs.ProgramPart.{unless_end, states_from, of_process, of_processes, transitions_from, at_end, targets_from, rows_from, rest_from, program_with, table_from, program_of, targets_of, whether, program_read}
use Rattle.file_records.proofs.RecordLaws.{unless_not}
use Rattle.file_again.specs.Contents.{ProgramPartRead}
use Rattle.file_again.proofs.Tables.{table_length, table_number, table_of, of_four}
use Rattle.file_again.proofs.Rows.{place_eight, place_five}
use Rattle.file_again.proofs.ProgramCut.{row_counts, states_all}
use Rattle.register_machine.specs.Written.{joined}
use Rattle.register_program.specs.Form.{shape_record, states_record, operation_bytes, transition_record, target_record, program_bytes}
use Rattle.register_program.specs.Registers.{ReadAs}
use Rattle.register_program.proofs.Joined.{joined_length, joined_byte}
use Rattle.register_program.proofs.RecordLaws.{transition_eight}
use Rattle.register_program.proofs.Answers.{bytes_length}

-- nothing is said of what the shape does not have
pub record Bare (P : pws.Program) : Type 0 where
  pub states : (p : ℕ) → P.shape.processes ≤ p → P.states p ≡ 0
  pub initial : (p : ℕ) → P.shape.processes ≤ p → P.initial p ≡ 0
  pub values : (v : ℕ) → P.shape.variables ≤ v → P.shape.values v ≡ 0

-- ---- tests that hold

both_true : {a b : Bool} → a ≡ true → b ≡ true → (a && b) ≡ true
both_true {a} {b} p q = ap₂ ◌&&◌ p q

number_zero : {a b c d e : Bool} → a ≡ false → b ≡ false → c ≡ false → d ≡ false → e ≡ false → first_number a b c d e ≡ 0
unfolding first_number
number_zero p q r s t = rw (p, q, r, s, t)

is_fine : (n k : ℕ) → n ≡ 0 → checked n k ≡ Ok tt
unfolding checked
is_fine n k e = rw e

in_range_lem : (x most : ℕ) → 1 ≤ x → x ≤ most → in_range x most ≡ true
unfolding in_range
in_range_lem x most a b = both_true (ap not (ne_eqb x 0 (λ e. omega arith))) (le-leb x most b)

is_kind_lem : (f : List ℕ) (at k : ℕ) → byte f at ≡ k → is_kind f at k ≡ true
unfolding is_kind
is_kind_lem f at k e = eq-eqb (byte f at) k e

is_whole : (f : List ℕ) (at body : ℕ) → at + body < length f → cut f at body ≡ false
unfolding cut
is_whole f at body l = lt-leb (length f - at) body (omega arith)

-- the bytes of an operation, and the operation of these bytes
abbrev OpBytes : Transition → Type 0
OpBytes T =
    (byte (transition_record T) 3 ≡ byte (operation_bytes T.operation) 0)
    × (byte (transition_record T) 4 ≡ byte (operation_bytes T.operation) 1)
    × (byte (transition_record T) 5 ≡ byte (operation_bytes T.operation) 2)
    × (byte (transition_record T) 6 ≡ byte (operation_bytes T.operation) 3)
    × (byte (transition_record T) 7 ≡ T.to)

op_byte : (T : Transition) → OpBytes T
op_byte T = go T.operation
  where
    go : (o : Operation) → OpBytes (record { process = T.process; from = T.from; operation = o; to = T.to })
    go Nop = (refl, refl, refl, refl, refl)
    go (Read v x) = (refl, refl, refl, refl, refl)
    go (Write v x) = (refl, refl, refl, refl, refl)
    go Mfence = (refl, refl, refl, refl, refl)
    go Sfence = (refl, refl, refl, refl, refl)
    go (Arw v x y) = (refl, refl, refl, refl, refl)

operation_back : (o : Operation) → operation_of (byte (operation_bytes o) 0) (byte (operation_bytes o) 1) (byte (operation_bytes o) 2) (byte (operation_bytes o) 3) ≡ o
unfolding operation_of
operation_back Nop = refl
operation_back (Read v x) = refl
operation_back (Write v x) = refl
operation_back Mfence = refl
operation_back Sfence = refl
operation_back (Arw v x y) = refl

-- ---- the bytes

module _ (P : pws.Program) (ts : List (ℕ → ℕ)) (I : ProgramPartRead P ts) (Z : Bare P) where
  abbrev n : ℕ
  n = P.shape.processes

  abbrev t : ℕ
  t = length P.transitions

  abbrev m : ℕ
  m = length ts

  abbrev w : List ℕ
  w = program_bytes P ts

  abbrev states : List ℕ
  states = joined (states_record P) (table_from (λ p. p) 0 n)

  abbrev moves : List ℕ
  moves = joined transition_record P.transitions

  abbrev aims : List ℕ
  aims = joined target_record ts

  few : n ≤ 4
  few = I.program.shape.processes

  size : length w ≡ 7 + (3 * n + (8 * t + 5 * m))
  size = bytes_length P ts

  states_size : length states ≡ 3 * n
  states_size = joined_length (states_record P) 3 (λ p. refl) (table_from (λ p. p) 0 n) ∙ ap (λ (k : ℕ). 3 * k) (table_length (λ (p : ℕ). p) 0 n)

  moves_size : length moves ≡ 8 * t
  moves_size = joined_length transition_record 8 transition_eight P.transitions

  opening : (k : ℕ) → k < 7 → byte w k ≡ byte (shape_record P.shape) k
  unfolding program_bytes
  opening k l = get_or-append (shape_record P.shape) (states ++ (moves ++ aims)) 0 k l

  states_byte : (p j : ℕ) → p < n → j < 3 → byte w (7 + 3 * p + j) ≡ byte (states_record P p) j
  unfolding program_bytes
  states_byte p j l s =
      let a : 7 + 3 * p + j ≡ length (shape_record P.shape) + (3 * p + j) = omega arith in
      ap (byte w) a ∙ get_or-append-add (shape_record P.shape) (states ++ (moves ++ aims)) (3 * p + j) 0
      ∙ get_or-append states (moves ++ aims) 0 (3 * p + j) (omega (arith, states_size))
      ∙ joined_byte (states_record P) 3 (λ p. refl) (table_from (λ p. p) 0 n) 0 p j (omega (arith, table_length (λ (p : ℕ). p) 0 n)) s
      ∙ ap (λ (q : ℕ). byte (states_record P q) j) (table_number (λ (p : ℕ). p) n p 0 l)

  moves_byte : (i j : ℕ) → i < t → j < 8 → byte w (7 + 3 * n + 8 * i + j) ≡ byte (transition_record (pws.transition P i)) j
  unfolding program_bytes
  moves_byte i j l s =
      let a : 7 + 3 * n + 8 * i + j ≡ length (shape_record P.shape) + (length states + (8 * i + j)) = omega (arith, states_size) in
      ap (byte w) a ∙ get_or-append-add (shape_record P.shape) (states ++ (moves ++ aims)) (length states + (8 * i + j)) 0
      ∙ get_or-append-add states (moves ++ aims) (8 * i + j) 0
      ∙ get_or-append moves aims 0 (8 * i + j) (omega (arith, moves_size))
      ∙ joined_byte transition_record 8 transition_eight P.transitions pws.no_transition i j l s

  aims_byte : (i j : ℕ) → i < m → j < 5 → byte w (7 + 3 * n + 8 * t + 5 * i + j) ≡ byte (target_record (get_or ts i (λ p. 0))) j
  unfolding program_bytes
  aims_byte i j l s =
      let a : 7 + 3 * n + 8 * t + 5 * i + j ≡ length (shape_record P.shape) + (length states + (length moves + (5 * i + j))) = omega (arith, states_size, moves_size) in
      ap (byte w) a ∙ get_or-append-add (shape_record P.shape) (states ++ (moves ++ aims)) (length states + (length moves + (5 * i + j))) 0
      ∙ get_or-append-add states (moves ++ aims) (length moves + (5 * i + j)) 0
      ∙ get_or-append-add moves aims (5 * i + j) 0
      ∙ joined_byte target_record 5 (λ t. refl) ts (λ p. 0) i j l s

  -- ---- 01

  abbrev s : Shape
  s = record { processes = n; variables = P.shape.variables; values = P.shape.values 0 ∷ P.shape.values 1 ∷ P.shape.values 2 ∷ P.shape.values 3 ∷ [] }

  shape_is : shape_at w 0 ≡ s
  shape_is = rw (opening 1 (omega arith), opening 2 (omega arith), opening 3 (omega arith), opening 4 (omega arith), opening 5 (omega arith), opening 6 (omega arith))

  values_is : (v : ℕ) → value_count s v ≡ P.shape.values v
  values_is v = elim (dec_lt v 4) [
    | yes l ↦ of_four (λ (v : ℕ). value_count s v ≡ P.shape.values v) refl refl refl refl v l
    | no l ↦
        let past : length s.values ≤ v = omega arith in
        get_or-eq_default s.values 0 past ∙ sym (Z.values v (omega (arith, I.program.shape.variables)))
  ]

  count_fine : (v : ℕ) → count_in_range Plain s v ≡ true
  unfolding count_in_range
  count_fine v = elim (dec_lt v s.variables) [
    | yes l ↦ rw (lt-ltb v s.variables l)
        (both_true (le-leb 1 (value_count s v) (omega (arith, values_is v, I.program.shape.well_formed.some_value v l))) (le-leb (value_count s v) 4 (omega (arith, values_is v, I.program.shape.values v l))))
    | no l ↦ rw (le-ltb v s.variables (omega arith))
  ]

  absent_fine : (v : ℕ) → count_if_absent s v ≡ true
  unfolding count_if_absent
  absent_fine v = elim (dec_lt v s.variables) [
    | yes l ↦ rw (lt-ltb v s.variables l)
    | no l ↦ rw (le-ltb v s.variables (omega arith)) (eq-eqb (value_count s v) 0 (values_is v ∙ Z.values v (omega arith)))
  ]

  shape_zero : shape_number Plain w 0 ≡ 0
  unfolding shape_number counts_in_range counts_if_absent
  shape_zero =
      let a : counts_in_range Plain (shape_at w 0) ≡ true = rw shape_is (both_true (count_fine 0) (both_true (count_fine 1) (both_true (count_fine 2) (count_fine 3)))) in
      let b : counts_if_absent (shape_at w 0) ≡ true = rw shape_is (both_true (absent_fine 0) (both_true (absent_fine 1) (both_true (absent_fine 2) (absent_fine 3)))) in
      number_zero (ap not (is_kind_lem w 0 1 (opening 0 (omega arith)))) (is_whole w 0 6 (omega (arith, size))) refl
      (ap not (both_true (in_range_lem (byte w 1) 4 (omega (arith, opening 1 (omega arith), I.program.shape.well_formed.some_process)) (omega (arith, opening 1 (omega arith), few)))
      (both_true (in_range_lem (byte w 2) 4 (omega (arith, opening 2 (omega arith), I.program.shape.well_formed.some_variable)) (omega (arith, opening 2 (omega arith), I.program.shape.variables)))
      a)))
      (ap not b)

  -- ---- the 02s

  states_zero : (p : ℕ) → p < n → states_number w (7 + 3 * p) ≡ 0
  unfolding states_number
  states_zero p l =
      let z : 7 + 3 * p + 0 ≡ 7 + 3 * p = omega arith in
      let b₀ = sym (ap (byte w) z) ∙ states_byte p 0 l (omega arith) in
      let b₁ = states_byte p 1 l (omega arith) in
      let b₂ = states_byte p 2 l (omega arith) in
      let i = I.program.well_formed.initial p l in
      number_zero (ap not (is_kind_lem w (7 + 3 * p) 2 b₀)) (is_whole w (7 + 3 * p) 2 (omega (arith, size))) refl
      (ap not (in_range_lem (byte w (7 + 3 * p + 1)) 32 (omega (arith, b₁, i)) (omega (arith, b₁, I.states p l))))
      (ap not (lt-ltb (byte w (7 + 3 * p + 2)) (byte w (7 + 3 * p + 1)) (omega (arith, b₁, b₂, i))))

  states_fine : states_from w 7 n ≡ Ok tt
  states_fine = states_all w n 7 (λ p l. unless_not w (7 + 3 * p) _ (omega (arith, size)) ∙ is_fine _ (7 + 3 * p) (states_zero p l))

  abbrev st : List ℕ
  st = P.states 0 ∷ P.states 1 ∷ P.states 2 ∷ P.states 3 ∷ []

  abbrev it : List ℕ
  it = P.initial 0 ∷ P.initial 1 ∷ P.initial 2 ∷ P.initial 3 ∷ []

  state_of : (q : ℕ) → of_process w 7 1 n q ≡ P.states q
  state_of q = elim (dec_lt q n) [
    | yes l ↦ let a : 7 + (1 + 3 * q) ≡ 7 + 3 * q + 1 = omega arith in rw (lt-ltb q n l) (ap (byte w) a ∙ states_byte q 1 l (omega arith))
    | no l ↦ rw (le-ltb q n (omega arith)) (sym (Z.states q (omega arith)))
  ]

  initial_of : (q : ℕ) → of_process w 7 2 n q ≡ P.initial q
  initial_of q = elim (dec_lt q n) [
    | yes l ↦ let a : 7 + (2 + 3 * q) ≡ 7 + 3 * q + 2 = omega arith in rw (lt-ltb q n l) (ap (byte w) a ∙ states_byte q 2 l (omega arith))
    | no l ↦ rw (le-ltb q n (omega arith)) (sym (Z.initial q (omega arith)))
  ]

  states_list : of_processes w 7 1 n ≡ st
  states_list = λ i. state_of 0 i ∷ state_of 1 i ∷ state_of 2 i ∷ state_of 3 i ∷ []

  initial_list : of_processes w 7 2 n ≡ it
  initial_list = λ i. initial_of 0 i ∷ initial_of 1 i ∷ initial_of 2 i ∷ initial_of 3 i ∷ []

  state_at_lem : (q : ℕ) → get_or st q 0 ≡ P.states q
  state_at_lem q = elim (dec_lt q 4) [
    | yes l ↦ of_four (λ (q : ℕ). get_or st q 0 ≡ P.states q) refl refl refl refl q l
    | no l ↦ let past : length st ≤ q = omega arith in get_or-eq_default st 0 past ∙ sym (Z.states q (omega (arith, few)))
  ]

  initial_at : (q : ℕ) → get_or it q 0 ≡ P.initial q
  initial_at q = elim (dec_lt q 4) [
    | yes l ↦ of_four (λ (q : ℕ). get_or it q 0 ≡ P.initial q) refl refl refl refl q l
    | no l ↦ let past : length it ≤ q = omega arith in get_or-eq_default it 0 past ∙ sym (Z.initial q (omega (arith, few)))
  ]

  -- ---- the 03s

  exists : (v x : ℕ) → (v < P.shape.variables) × (x < P.shape.values v) → value_exists s v x ≡ true
  unfolding value_exists
  exists v x h = both_true (lt-ltb v s.variables h.0) (lt-ltb x (value_count s v) (omega (arith, values_is v, h.1)))

  operation_fine : (o : Operation) → pws.OperationOf P.shape o
      → operation_names Plain s (byte (operation_bytes o) 0) (byte (operation_bytes o) 1) (byte (operation_bytes o) 2) (byte (operation_bytes o) 3) ≡ true
  unfolding operation_names names_of all_zero
  operation_fine Nop h = refl
  operation_fine (Read v x) h = both_true (exists v x h) refl
  operation_fine (Write v x) h = both_true (exists v x h) refl
  operation_fine Mfence h = refl
  operation_fine Sfence h = refl
  operation_fine (Arw v x y) h = both_true (exists v x (h.0, h.1)) (exists v y (h.0, h.2))

  module _ (i : ℕ) (l : i < t) where
    abbrev T : Transition
    T = pws.transition P i

    abbrev at : ℕ
    at = 7 + 3 * n + 8 * i

    O : pws.TransitionOf P T
    O = I.program.well_formed.transitions i l

    b₀ : byte w at ≡ 3
    b₀ = let z : at + 0 ≡ at = omega arith in sym (ap (byte w) z) ∙ moves_byte i 0 l (omega arith)

    b₁ : byte w (at + 1) ≡ T.process
    b₁ = moves_byte i 1 l (omega arith)

    b₂ : byte w (at + 2) ≡ T.from
    b₂ = moves_byte i 2 l (omega arith)

    b₃ : byte w (at + 3) ≡ byte (operation_bytes T.operation) 0
    b₃ = moves_byte i 3 l (omega arith) ∙ (op_byte T).0

    b₄ : byte w (at + 4) ≡ byte (operation_bytes T.operation) 1
    b₄ = moves_byte i 4 l (omega arith) ∙ (op_byte T).1

    b₅ : byte w (at + 5) ≡ byte (operation_bytes T.operation) 2
    b₅ = moves_byte i 5 l (omega arith) ∙ (op_byte T).2

    b₆ : byte w (at + 6) ≡ byte (operation_bytes T.operation) 3
    b₆ = moves_byte i 6 l (omega arith) ∙ (op_byte T).3

    b₇ : byte w (at + 7) ≡ T.to
    b₇ = moves_byte i 7 l (omega arith) ∙ (op_byte T).4

    transition_back : transition_at w at ≡ T
    transition_back =
        ap₂ (λ (p q : ℕ). record { process = p; from = q; operation = operation_of (byte w (at + 3)) (byte w (at + 4)) (byte w (at + 5)) (byte w (at + 6)); to = byte w (at + 7) }) b₁ b₂
        ∙ ap₂ (λ (o : Operation) (q : ℕ). record { process = T.process; from = T.from; operation = o; to = q })
        (ap₂ (λ (a b : ℕ). operation_of a b (byte w (at + 5)) (byte w (at + 6))) b₃ b₄
        ∙ ap₂ (operation_of (byte (operation_bytes T.operation) 0) (byte (operation_bytes T.operation) 1)) b₅ b₆ ∙ operation_back T.operation) b₇

    transition_names_lem : transition_names Plain s st w at ≡ true
    unfolding transition_names
    transition_names_lem =
        let c = ap (λ (q : ℕ). get_or st q 0) b₁ ∙ state_at_lem T.process in
        both_true (lt-ltb (byte w (at + 1)) s.processes (omega (arith, b₁, O.process)))
        (both_true (lt-ltb (byte w (at + 2)) (get_or st (byte w (at + 1)) 0) (omega (arith, b₂, c, O.from)))
        (both_true (lt-ltb (byte w (at + 7)) (get_or st (byte w (at + 1)) 0) (omega (arith, b₇, c, O.to)))
        (ap₂ (λ (a b : ℕ). operation_names Plain s a b (byte w (at + 5)) (byte w (at + 6))) b₃ b₄
        ∙ ap₂ (operation_names Plain s (byte (operation_bytes T.operation) 0) (byte (operation_bytes T.operation) 1)) b₅ b₆
        ∙ operation_fine T.operation O.operation)))

    transition_zero : transition_number Plain s st w at (0 + i) ≡ 0
    unfolding transition_number
    transition_zero =
        number_zero (ap not (is_kind_lem w at 3 b₀)) (is_whole w at 7 (omega (arith, size))) (lt-leb 256 (0 + i) (omega (arith, I.transitions))) refl (ap not transition_names_lem)

  -- ---- the 04s

  module _ (i : ℕ) (l : i < m) where
    abbrev G : ℕ → ℕ
    G = get_or ts i (λ p. 0)

    abbrev aim : ℕ
    aim = 7 + 3 * n + 8 * t + 5 * i

    A : StatesOf P G
    A = I.targets i l

    c₀ : byte w aim ≡ 4
    c₀ = let z : aim + 0 ≡ aim = omega arith in sym (ap (byte w) z) ∙ aims_byte i 0 l (omega arith)

    state_fine : (q x : ℕ) → x ≡ G q → state_name s st q x ≡ true
    unfolding state_name
    state_fine q x e = elim (dec_lt q n) [
      | yes k ↦ rw (lt-ltb q n k) (lt-ltb x (get_or st q 0) (omega (arith, e, state_at_lem q, A.exist q k)))
      | no k ↦ rw (le-ltb q n (omega arith)) (eq-eqb x 0 (e ∙ A.absent q (omega arith)))
    ]

    state_names_lem : state_names s st w aim ≡ true
    unfolding state_names
    state_names_lem =
        both_true (state_fine 0 _ (aims_byte i 1 l (omega arith)))
        (both_true (state_fine 1 _ (aims_byte i 2 l (omega arith))) (both_true (state_fine 2 _ (aims_byte i 3 l (omega arith))) (state_fine 3 _ (aims_byte i 4 l (omega arith)))))

    target_back : state_at w aim ≡ G
    target_back = λ j q. each q j
      where
        each : (q : ℕ) → state_at w aim q ≡ G q
        each q = elim (dec_lt q 4) [
          | yes k ↦ of_four (λ (q : ℕ). state_at w aim q ≡ G q) (aims_byte i 1 l (omega arith)) (aims_byte i 2 l (omega arith)) (aims_byte i 3 l (omega arith)) (aims_byte i 4 l (omega arith)) q k
          | no k ↦ rw (le-ltb q 4 (omega arith)) (sym (A.absent q (omega (arith, few))))
        ]

    target_zero : target_number Plain s st w aim (0 + i) ≡ 0
    unfolding target_number
    target_zero =
        number_zero (ap not (is_kind_lem w aim 4 c₀)) (is_whole w aim 4 (omega (arith, size))) (lt-leb 4096 (0 + i) (omega (arith, I.few_targets))) refl (ap not state_names_lem)

  -- ---- the rows

  first_target : is_kind w (7 + 3 * n + 8 * t) 3 ≡ false
  unfolding is_kind
  first_target =
      let z : 7 + 3 * n + 8 * t + 5 * 0 ≡ 7 + 3 * n + 8 * t = omega arith in
      let e = sym (ap (byte w) z) ∙ c₀ 0 I.some_target in
      ne_eqb (byte w (7 + 3 * n + 8 * t)) 3 (λ d. omega arith)

  transitions_read : transitions_from Plain s st w (7 + 3 * n) ≡ Ok t
  unfolding transitions_from
  transitions_read =
      let z : 0 + t ≡ t = omega arith in
      row_counts (λ k i. not (is_kind w k 3)) (λ k i. checked (transition_number Plain s st w k i) k) (λ k. 8) 256 t (7 + 3 * n) 0 I.transitions
      (λ i l. rw (place_eight (7 + 3 * n) i) (ap not (is_kind_lem w (7 + 3 * n + 8 * i) 3 (b₀ i l))))
      (λ i l. rw (place_eight (7 + 3 * n) i) (is_fine _ (7 + 3 * n + 8 * i) (transition_zero i l)))
      (rw (place_eight (7 + 3 * n) t) (ap not first_target))
      ∙ ap Ok z

  targets_read : targets_from Plain true s st w (7 + 3 * n + 8 * t) ≡ Ok m
  unfolding targets_from at_end
  targets_read =
      let z : 0 + m ≡ m = omega arith in
      let a = 7 + 3 * n + 8 * t in
      row_counts (at_end true w) (λ k i. unless_end w k (checked (target_number Plain s st w k i) k)) (λ k. 5) 4096 m (7 + 3 * n + 8 * t) 0 I.few_targets
      (λ i l. rw (place_five (7 + 3 * n + 8 * t) i, lt-leb (length w) (7 + 3 * n + 8 * t + 5 * i) (omega (arith, size))))
      (λ i l. rw (place_five (7 + 3 * n + 8 * t) i) (unless_not w (7 + 3 * n + 8 * t + 5 * i) _ (omega (arith, size)) ∙ is_fine _ (7 + 3 * n + 8 * t + 5 * i) (target_zero i l)))
      (rw (place_five (7 + 3 * n + 8 * t) m, le-leb (length w) (7 + 3 * n + 8 * t + 5 * m) (omega (arith, size)), le-leb 1 (0 + m) (omega (arith, I.some_target))))
      ∙ ap Ok z

  -- ---- the whole

  abbrev program : Program
  program =
      record {
        shape = s;
        states = st;
        initial = it;
        transitions = record { at = 7 + 3 * n; count = t };
        targets = record { at = 7 + 3 * n + 8 * t; count = m };
        claim = 7 + 3 * n + 8 * t + 5 * m;
      }

  rows_read : rows_from Plain true w (7 + 3 * n) s st it ≡ Ok program
  unfolding rows_from
  rows_read = rw (transitions_read, targets_read)

  rest_read : rest_from Plain true w 7 s ≡ Ok program
  unfolding rest_from
  rest_read = rw states_fine (ap₂ (rows_from Plain true w (7 + 3 * n) s) states_list initial_list ∙ rows_read)

  all_read : program_with Plain true w 0 ≡ Ok program
  unfolding program_with
  all_read =
      let a : unless_end w 0 (checked (shape_number Plain w 0) 0) ≡ Ok tt = unless_not w 0 _ (omega (arith, size)) ∙ is_fine _ 0 shape_zero in
      rw a (ap (rest_from Plain true w 7) shape_is ∙ rest_read)

  moves_back : table_from (λ i. transition_at w (7 + 3 * n + 8 * i)) 0 t ≡ P.transitions
  moves_back =
      sym (table_of (λ i. transition_at w (7 + 3 * n + 8 * i)) 0 t P.transitions pws.no_transition refl
      (λ k l. let z : 0 + k ≡ k = omega arith in sym (ap (λ (i : ℕ). transition_at w (7 + 3 * n + 8 * i)) z ∙ transition_back k l)))

  aims_back : table_from (λ i. state_at w (7 + 3 * n + 8 * t + 5 * i)) 0 m ≡ ts
  aims_back =
      sym (table_of (λ i. state_at w (7 + 3 * n + 8 * t + 5 * i)) 0 m ts (λ p. 0) refl
      (λ k l. let z : 0 + k ≡ k = omega arith in sym (ap (λ (i : ℕ). state_at w (7 + 3 * n + 8 * t + 5 * i)) z ∙ target_back k l)))

  program_back : program_of w program ≡ P
  program_back = λ i.
      record {
        shape = record { processes = n; variables = P.shape.variables; values = λ v. values_is v i; room = sym I.program.shape.room i };
        states = λ q. state_at_lem q i;
        initial = λ q. initial_at q i;
        transitions = moves_back i;
      }

  pub bytes_read : ReadAs w P ts
  bytes_read =
      record {
        fine = ap (λ (r : Result Program Refusal). whether r) all_read;
        program = ap (λ (r : Result Program Refusal). program_of w (program_read r)) all_read ∙ program_back;
        targets = ap (λ (r : Result Program Refusal). targets_of w (program_read r)) all_read ∙ aims_back;
      }
