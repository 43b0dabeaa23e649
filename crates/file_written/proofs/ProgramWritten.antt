-- A written program part is read as what was written.
use Rattle.std.specs.Prelude.{Result, Ok}
use Rattle.file_records.specs.declared.program.Refusal.{Refusal}
use Prim.Native.Nat.{ℕ, zero, suc, ◌+◌, ◌*◌, ◌-◌, ◌<◌, ◌≤◌}
use mathlib.Core.Path.{◌≡◌, refl, sym, ap, ap₂, subst, ◌∙◌}
use mathlib.Core.Bool.{Bool, true, false, cond, ◌&&◌, not}
use mathlib.Core.List.{List, [], ◌∷◌, ◌++◌}
use native.Mathlib.Omega.{arith}
use native.Mathlib.Decide.{dec_lt}
use lib.ListN.{length, get_or, length-append, get_or-eq_default}
use lib.Dec.{eqb, leb, ltb}
use borrow.Author.Tests.{lt-ltb, le-ltb, le-leb, lt-leb, eq-eqb, ne_eqb}
use Rattle.machine_pws.specs.declared.Operation.{Operation}
use Rattle.machine_pws.specs.declared.Operation.TheVariants.{Nop, Read, Write, Mfence, Sfence, Arw}
use Rattle.machine_pws.specs.declared.Transition.{Transition}
use Rattle.machine_pws.specs.Program as pws
use Rattle.machine_pws.specs.Configurations.{StatesOf}
use Rattle.file_records.specs.declared.program.Format.TheVariants.{Plain}
use Rattle.file_records.specs.declared.program.Shape.{Shape}
use Rattle.file_records.specs.declared.program.Program.{Program}
use Rattle.base.specs.Bytes.{byte}
use Rattle.file_records.specs.Records.{checked, is_kind, in_range, shape_at, value_count, count_in_range, counts_in_range, count_if_absent, counts_if_absent, shape_number, states_number, value_exists, all_zero, names_of, operation_names, operation_of, transition_at, transition_names, transition_number, state_name, state_names, state_at, target_number}
use Rattle.file_records.specs.ProgramPart.{unless_end, states_from, of_process, of_processes, transitions_from, at_end, targets_from, rows_from, rest_from, program_with, program_from, shape_of, table_from, program_of, targets_of, whether, program_read}
use Rattle.file_records.proofs.RecordLaws.{unless_not}
use Rattle.file_again.proofs.Tables.{table_length, table_number, table_of, of_four}
use Rattle.file_again.proofs.ProgramCut.{states_all}
use Rattle.file_written.specs.Written.{joined, numbers, shape_bytes, states_bytes, operation_byte, variable_byte, value_byte, new_value_byte, transition_bytes, target_bytes, program_bytes}
use Rattle.file_written.specs.ProgramPart.{shape_for, ProgramContents, ProgramReadAs, ProgramWrittenIsRead}
use Rattle.file_written.specs.Standing.{Stands}
use Rattle.file_written.proofs.Standing.{stands_whole, stands_moved, stands_left, stands_right, stands_first, stands_kind, not_cut, joined_length, joined_at}
use Rattle.file_written.proofs.Fine.{number_fine, both, not_so, range_in, row_written}

-- ---- the shape as it is read

abbrev pub four : (ℕ → ℕ) → List ℕ
four g = g 0 ∷ g 1 ∷ g 2 ∷ g 3 ∷ []

-- what is 0 from the fifth place on is told by four places
pub four_each : (g : ℕ → ℕ) → ((p : ℕ) → 4 ≤ p → g p ≡ 0) → (p : ℕ) → get_or (four g) p 0 ≡ g p
four_each g none p = elim (dec_lt p 4) [
  | yes l ↦ of_four (λ (p : ℕ). get_or (four g) p 0 ≡ g p) refl refl refl refl p l
  | no l ↦ let past : length (four g) ≤ p = omega arith in get_or-eq_default (four g) 0 past ∙ sym (none p (omega arith))
]

pub four_same : (g : ℕ → ℕ) → ((p : ℕ) → 4 ≤ p → g p ≡ 0) → (λ (p : ℕ). get_or (four g) p 0) ≡ g
four_same g none = λ i p. four_each g none p i

module _ (S : pws.Shape) (range : pws.ShapeInRange S) (absent : (v : ℕ) → S.variables ≤ v → S.values v ≡ 0) where
  abbrev s : Shape
  s = shape_for S

  pub value_same : (v : ℕ) → value_count s v ≡ S.values v
  value_same v = four_each S.values (λ v l. absent v (omega (arith, range.variables))) v

  pub shape_same : shape_of s ≡ S
  shape_same = λ i. record { processes = S.processes; variables = S.variables; values = λ v. value_same v i; room = sym range.room i }

  count_in : (v : ℕ) → count_in_range Plain s v ≡ true
  unfolding count_in_range
  count_in v = elim (dec_lt v S.variables) [
    | yes l ↦ rw (lt-ltb v S.variables l, value_same v) (both (le-leb 1 (S.values v) (range.well_formed.some_value v l)) (le-leb (S.values v) 4 (range.values v l)))
    | no l ↦ rw (le-ltb v S.variables (omega arith))
  ]

  count_out : (v : ℕ) → count_if_absent s v ≡ true
  unfolding count_if_absent
  count_out v = elim (dec_lt v S.variables) [
    | yes l ↦ rw (lt-ltb v S.variables l)
    | no l ↦ rw (le-ltb v S.variables (omega arith)) (eq-eqb (value_count s v) 0 (value_same v ∙ absent v (omega arith)))
  ]

  counts_in : counts_in_range Plain s ≡ true
  unfolding counts_in_range
  counts_in = both (count_in 0) (both (count_in 1) (both (count_in 2) (count_in 3)))

  counts_out : counts_if_absent s ≡ true
  unfolding counts_if_absent
  counts_out = both (count_out 0) (both (count_out 1) (both (count_out 2) (count_out 3)))

  module _ (f : List ℕ) (at : ℕ) (T : Stands f at (shape_bytes S)) where
    pub shape_read : shape_at f at ≡ s
    shape_read =
        rw (T.same 1 (omega arith), T.same 2 (omega arith), T.same 3 (omega arith), T.same 4 (omega arith), T.same 5 (omega arith), T.same 6 (omega arith))

    in_range_lem : (in_range (byte f (at + 1)) 4 && (in_range (byte f (at + 2)) 4 && counts_in_range Plain (shape_at f at))) ≡ true
    in_range_lem =
        rw (shape_read, T.same 1 (omega arith), T.same 2 (omega arith))
        (both (range_in S.processes 4 range.well_formed.some_process range.processes)
        (both (range_in S.variables 4 range.well_formed.some_variable range.variables) counts_in))

    none_absent : counts_if_absent (shape_at f at) ≡ true
    none_absent = rw shape_read counts_out

    pub shape_passes : unless_end f at (checked (shape_number Plain f at) at) ≡ Ok tt
    unfolding shape_number
    shape_passes =
        unless_not f at _ (omega (arith, T.fits))
        ∙ number_fine at
        (record { allowed = not_so (stands_kind 1 _ T); whole = not_cut f at 6 T.fits; room = refl; range = not_so in_range_lem; names = not_so none_absent })

-- ---- the 02s

module _ (P : pws.Program) (f : List ℕ) (at p : ℕ) (T : Stands f at (states_bytes P p)) where
  states_pass : 1 ≤ P.states p → P.states p ≤ 32 → P.initial p < P.states p → unless_end f at (checked (states_number f at) at) ≡ Ok tt
  unfolding states_number
  states_pass a b c =
      let r : in_range (byte f (at + 1)) 32 ≡ true = rw (T.same 1 (omega arith)) (range_in (P.states p) 32 a b) in
      let n : ltb (byte f (at + 2)) (byte f (at + 1)) ≡ true = rw (T.same 1 (omega arith), T.same 2 (omega arith)) (lt-ltb (P.initial p) (P.states p) c) in
      unless_not f at _ (omega (arith, T.fits))
      ∙ number_fine at
      (record { allowed = not_so (stands_kind 2 _ T); whole = not_cut f at 2 T.fits; room = refl; range = not_so r; names = not_so n })

module _ (P : pws.Program) (f : List ℕ) (at n : ℕ) (T : Stands f at (joined (states_bytes P) (numbers n))) where
  states_at : (p : ℕ) → p < n → Stands f (at + 3 * p) (states_bytes P p)
  states_at p l =
      let e = table_number (λ i. i) n p 0 l in
      let m = table_length (λ i. i) 0 n in
      subst (λ (q : ℕ). Stands f (at + 3 * p) (states_bytes P q)) e (joined_at (states_bytes P) 3 (λ p. refl) at (numbers n) 0 T p (omega arith))

  of_written : (k : ℕ) (g : ℕ → ℕ) → k < 3 → ((p : ℕ) → byte (states_bytes P p) k ≡ g p) → ((p : ℕ) → n ≤ p → g p ≡ 0) → (p : ℕ) → of_process f at k n p ≡ g p
  of_written k g small e none p = elim (dec_lt p n) [
    | yes l ↦
        let z : at + (k + 3 * p) ≡ at + 3 * p + k = omega arith in
        rw (lt-ltb p n l) (ap (byte f) z ∙ (states_at p l).same k small ∙ e p)
    | no l ↦ rw (le-ltb p n (omega arith)) (sym (none p (omega arith)))
  ]

  pub ofs_written : (k : ℕ) (g : ℕ → ℕ) → k < 3 → ((p : ℕ) → byte (states_bytes P p) k ≡ g p) → ((p : ℕ) → n ≤ p → g p ≡ 0) → of_processes f at k n ≡ four g
  ofs_written k g small e none = let o = of_written k g small e none in rw (o 0, o 1, o 2, o 3)

-- ---- the 03s

module _ (s : Shape) (S : pws.Shape) (variables : s.variables ≡ S.variables) (counts : (v : ℕ) → value_count s v ≡ S.values v) where
  value_there : (v x : ℕ) → v < S.variables → x < S.values v → value_exists s v x ≡ true
  unfolding value_exists
  value_there v x a b = rw (variables, counts v) (both (lt-ltb v S.variables a) (lt-ltb x (S.values v) b))

  operation_there : (o : Operation) → pws.OperationOf S o → operation_names Plain s (operation_byte o) (variable_byte o) (value_byte o) (new_value_byte o) ≡ true
  unfolding operation_names names_of all_zero
  operation_there Nop w = refl
  operation_there (Read v x) w = both (value_there v x w.0 w.1) refl
  operation_there (Write v x) w = both (value_there v x w.0 w.1) refl
  operation_there Mfence w = refl
  operation_there Sfence w = refl
  operation_there (Arw v old new) w = both (value_there v old w.0 w.1) (value_there v new w.0 w.2)

operation_same : (o : Operation) → operation_of (operation_byte o) (variable_byte o) (value_byte o) (new_value_byte o) ≡ o
unfolding operation_of
operation_same Nop = refl
operation_same (Read v x) = refl
operation_same (Write v x) = refl
operation_same Mfence = refl
operation_same Sfence = refl
operation_same (Arw v old new) = refl

module _ (f : List ℕ) (at : ℕ) (t : Transition) (T : Stands f at (transition_bytes t)) where
  pub transition_read : transition_at f at ≡ t
  transition_read =
      let o = operation_same t.operation in
      rw (T.same 1 (omega arith), T.same 2 (omega arith), T.same 3 (omega arith), T.same 4 (omega arith), T.same 5 (omega arith), T.same 6 (omega arith), T.same 7 (omega arith))
      (λ i. record { process = t.process; from = t.from; operation = o i; to = t.to })

  module _ (s : Shape) (states : List ℕ) (P : pws.Program) (processes : s.processes ≡ P.shape.processes) (variables : s.variables ≡ P.shape.variables)
      (counts : (v : ℕ) → value_count s v ≡ P.shape.values v) (stated : (p : ℕ) → get_or states p 0 ≡ P.states p) (w : pws.TransitionOf P t) where
    pub transition_names_lem : transition_names Plain s states f at ≡ true
    unfolding transition_names
    transition_names_lem =
        rw (T.same 1 (omega arith), T.same 2 (omega arith), T.same 3 (omega arith), T.same 4 (omega arith), T.same 5 (omega arith), T.same 6 (omega arith), T.same 7 (omega arith), stated t.process)
        (both (lt-ltb t.process s.processes (omega (arith, w.process)))
        (both (lt-ltb t.from (P.states t.process) w.from)
        (both (lt-ltb t.to (P.states t.process) w.to) (operation_there s P.shape variables counts t.operation w.operation))))

    pub transition_passes : (n : ℕ) → n < 256 → checked (transition_number Plain s states f at n) at ≡ Ok tt
    unfolding transition_number
    transition_passes n l =
        number_fine at
        (record { allowed = not_so (stands_kind 3 _ T); whole = not_cut f at 7 T.fits; room = lt-leb 256 n l; range = refl; names = not_so transition_names_lem })

-- ---- the 04s

module _ (f : List ℕ) (at : ℕ) (t : ℕ → ℕ) (T : Stands f at (target_bytes t)) where
  pub state_read : ((p : ℕ) → 4 ≤ p → t p ≡ 0) → state_at f at ≡ t
  state_read none = λ i p. each p i
    where
      each : (p : ℕ) → state_at f at p ≡ t p
      each p = elim (dec_lt p 4) [
        | yes l ↦ rw (lt-ltb p 4 l)
            (of_four (λ (p : ℕ). byte f (at + (1 + p)) ≡ t p) (T.same 1 (omega arith)) (T.same 2 (omega arith)) (T.same 3 (omega arith)) (T.same 4 (omega arith)) p l)
        | no l ↦ rw (le-ltb p 4 (omega arith)) (sym (none p (omega arith)))
      ]

module _ (s : Shape) (states : List ℕ) (P : pws.Program) (processes : s.processes ≡ P.shape.processes) (stated : (p : ℕ) → get_or states p 0 ≡ P.states p)
    (t : ℕ → ℕ) (w : StatesOf P t) where
  state_there : (p : ℕ) → state_name s states p (t p) ≡ true
  unfolding state_name
  state_there p = elim (dec_lt p P.shape.processes) [
    | yes l ↦ rw (processes, lt-ltb p P.shape.processes l, stated p) (lt-ltb (t p) (P.states p) (w.exist p l))
    | no l ↦ rw (processes, le-ltb p P.shape.processes (omega arith)) (eq-eqb (t p) 0 (w.absent p (omega arith)))
  ]

  pub states_there : (f : List ℕ) (at : ℕ) → byte f (at + 1) ≡ t 0 → byte f (at + 2) ≡ t 1 → byte f (at + 3) ≡ t 2 → byte f (at + 4) ≡ t 3 → state_names s states f at ≡ true
  unfolding state_names
  states_there f at a b c d = rw (a, b, c, d) (both (state_there 0) (both (state_there 1) (both (state_there 2) (state_there 3))))

  pub target_passes : (f : List ℕ) (at n : ℕ) → Stands f at (target_bytes t) → n < 4096 → unless_end f at (checked (target_number Plain s states f at n) at) ≡ Ok tt
  unfolding target_number
  target_passes f at n T l =
      unless_not f at _ (omega (arith, T.fits))
      ∙ number_fine at (record {
        allowed = not_so (stands_kind 4 _ T);
        whole = not_cut f at 4 T.fits;
        room = lt-leb 4096 n l;
        range = refl;
        names = not_so (states_there f at (T.same 1 (omega arith)) (T.same 2 (omega arith)) (T.same 3 (omega arith)) (T.same 4 (omega arith)));
      })

-- ---- the whole part

-- where everything stands
abbrev pub placed : pws.Program → List (ℕ → ℕ) → ℕ → Program
placed P ts at =
    record {
      shape = shape_for P.shape;
      states = four P.states;
      initial = four P.initial;
      transitions = record { at = at + 7 + 3 * P.shape.processes; count = length P.transitions };
      targets = record { at = at + 7 + 3 * P.shape.processes + 8 * length P.transitions; count = length ts };
      claim = at + 7 + 3 * P.shape.processes + 8 * length P.transitions + 5 * length ts;
    }

pub program_length : (P : pws.Program) (ts : List (ℕ → ℕ)) → length (program_bytes P ts) ≡ 7 + 3 * P.shape.processes + 8 * length P.transitions + 5 * length ts
program_length P ts =
    let B = joined (states_bytes P) (numbers P.shape.processes) in
    let C = joined transition_bytes P.transitions in
    let D = joined target_bytes ts in
    let a = length-append (shape_bytes P.shape) (B ++ (C ++ D)) in
    let b = length-append B (C ++ D) in
    let c = length-append C D in
    let e = joined_length (states_bytes P) 3 (λ p. refl) (numbers P.shape.processes) in
    let n = table_length (λ i. i) 0 P.shape.processes in
    let g = joined_length transition_bytes 8 (λ t. refl) P.transitions in
    let h = joined_length target_bytes 5 (λ t. refl) ts in
    omega arith

module _ (P : pws.Program) (ts : List (ℕ → ℕ)) (K : ProgramContents P ts) (alone : Bool) (f : List ℕ) (at : ℕ) (T : Stands f at (program_bytes P ts))
    (shut : cond alone (leb (length f) (placed P ts at).claim) (is_kind f (placed P ts at).claim 15) ≡ true) where
  abbrev n : ℕ
  n = P.shape.processes

  abbrev B : List ℕ
  B = joined (states_bytes P) (numbers n)

  abbrev C : List ℕ
  C = joined transition_bytes P.transitions

  abbrev D : List ℕ
  D = joined target_bytes ts

  abbrev range : pws.ShapeInRange P.shape
  range = K.part.program.shape

  abbrev shaped : Shape
  shaped = shape_for P.shape

  after_shape : Stands f (at + 7) (B ++ (C ++ D))
  after_shape = stands_right (shape_bytes P.shape) (B ++ (C ++ D)) T

  second : Stands f (at + 7) B
  second = stands_left B (C ++ D) after_shape

  after_states : Stands f (at + 7 + 3 * n) (C ++ D)
  after_states =
      let e = joined_length (states_bytes P) 3 (λ p. refl) (numbers n) in
      let m = table_length (λ i. i) 0 n in
      let z : at + 7 + length B ≡ at + 7 + 3 * n = omega arith in
      stands_moved z (stands_right B (C ++ D) after_shape)

  pub third : Stands f (at + 7 + 3 * n) C
  third = stands_left C D after_states

  pub fourth : Stands f (at + 7 + 3 * n + 8 * length P.transitions) D
  fourth =
      let e = joined_length transition_bytes 8 (λ t. refl) P.transitions in
      let z : at + 7 + 3 * n + length C ≡ at + 7 + 3 * n + 8 * length P.transitions = omega arith in
      stands_moved z (stands_right C D after_states)

  states_each : (p : ℕ) → get_or (four P.states) p 0 ≡ P.states p
  states_each = four_each P.states (λ p l. K.states p (omega (arith, range.processes)))

  initial_each : (p : ℕ) → get_or (four P.initial) p 0 ≡ P.initial p
  initial_each = four_each P.initial (λ p l. K.initial p (omega (arith, range.processes)))

  states_fine : states_from f (at + 7) n ≡ Ok tt
  states_fine =
      states_all f n (at + 7) (λ p l.
      let i = K.part.program.well_formed.initial p l in
      states_pass P f (at + 7 + 3 * p) p (states_at P f (at + 7) n second p l) (omega arith) (K.part.states p l) i)

  counts : (v : ℕ) → value_count shaped v ≡ P.shape.values v
  counts = value_same P.shape range K.values

  first_target : is_kind f (at + 7 + 3 * n + 8 * length P.transitions) 3 ≡ false
  unfolding is_kind
  first_target =
      let here = at + 7 + 3 * n + 8 * length P.transitions in
      let z : here + 5 * 0 ≡ here = omega arith in
      let S = stands_moved z (joined_at target_bytes 5 (λ t. refl) here ts (λ p. 0) fourth 0 K.part.some_target) in
      let b = stands_first 4 _ S in
      ne_eqb (byte f here) 3 (λ e. omega arith)

  transitions_read : transitions_from Plain shaped (four P.states) f (at + 7 + 3 * n) ≡ Ok (length P.transitions)
  unfolding transitions_from
  transitions_read =
      let here = at + 7 + 3 * n in
      let e = joined_length transition_bytes 8 (λ t. refl) P.transitions in
      let z : here + length C ≡ here + 8 * length P.transitions = omega arith in
      let y : 0 + length P.transitions ≡ length P.transitions = omega arith in
      row_written transition_bytes (pws.TransitionOf P) pws.no_transition f (λ i n. not (is_kind f i 3)) (λ i n. checked (transition_number Plain shaped (four P.states) f i n) i) (λ i. 8) 256
      (λ t w k i l S. (not_so (stands_kind 3 _ S), transition_passes f k t S shaped (four P.states) P refl refl counts states_each w i l, refl))
      P.transitions K.part.program.well_formed.transitions 256 here 0 (omega arith) K.part.transitions third
      (ap (λ (k : ℕ). not (is_kind f k 3)) z ∙ ap not first_target)
      ∙ ap Ok y

  goes_on : (b : Bool) (k : ℕ) (t : ℕ → ℕ) → Stands f k (target_bytes t) → cond b (leb (length f) k) (is_kind f k 15) ≡ false
  unfolding is_kind
  goes_on true k t S = lt-leb (length f) k (omega (arith, S.fits))
  goes_on false k t S = let b = stands_first 4 _ S in ne_eqb (byte f k) 15 (λ e. omega arith)

  ends_not : (k i : ℕ) (t : ℕ → ℕ) → Stands f k (target_bytes t) → at_end alone f k i ≡ false
  unfolding at_end
  ends_not k i t S = rw (goes_on alone k t S)

  targets_read : targets_from Plain alone shaped (four P.states) f (at + 7 + 3 * n + 8 * length P.transitions) ≡ Ok (length ts)
  unfolding targets_from at_end
  targets_read =
      let here = at + 7 + 3 * n + 8 * length P.transitions in
      let e = joined_length target_bytes 5 (λ t. refl) ts in
      let z : here + length D ≡ here + 5 * length ts = omega arith in
      let y : 0 + length ts ≡ length ts = omega arith in
      row_written target_bytes (StatesOf P) (λ p. 0) f (at_end alone f) (λ i n. unless_end f i (checked (target_number Plain shaped (four P.states) f i n) i)) (λ i. 5) 4096
      (λ t w k i l S. (ends_not k i t S, target_passes shaped (four P.states) P refl states_each t w f k i S l, refl))
      ts K.part.targets 4096 here 0 (omega arith) K.part.few_targets fourth
      (ap (λ (k : ℕ). at_end alone f k (0 + length ts)) z ∙ both shut (le-leb 1 (0 + length ts) (omega (arith, K.part.some_target))))
      ∙ ap Ok y

  rows_read : rows_from Plain alone f (at + 7 + 3 * n) shaped (four P.states) (four P.initial) ≡ Ok (placed P ts at)
  unfolding rows_from
  rows_read = rw (transitions_read, targets_read)

  rest_read : rest_from Plain alone f (at + 7) shaped ≡ Ok (placed P ts at)
  unfolding rest_from
  rest_read =
      rw states_fine
      (ap₂ (rows_from Plain alone f (at + 7 + 3 * n) shaped)
      (ofs_written P f (at + 7) n second 1 P.states (omega arith) (λ p. refl) K.states) (ofs_written P f (at + 7) n second 2 P.initial (omega arith) (λ p. refl) K.initial)
      ∙ rows_read)

  pub part_placed : program_from alone f at ≡ Ok (placed P ts at)
  unfolding program_with
  part_placed =
      let S = stands_left (shape_bytes P.shape) (B ++ (C ++ D)) T in
      rw (shape_passes P.shape range K.values f at S) (ap (rest_from Plain alone f (at + 7)) (shape_read P.shape range K.values f at S) ∙ rest_read)

  transitions_same : table_from (λ i. transition_at f (at + 7 + 3 * n + 8 * i)) 0 (length P.transitions) ≡ P.transitions
  transitions_same =
      sym (table_of (λ i. transition_at f (at + 7 + 3 * n + 8 * i)) 0 (length P.transitions) P.transitions pws.no_transition refl (λ k l.
      let z : at + 7 + 3 * n + 8 * k ≡ at + 7 + 3 * n + 8 * (0 + k) = omega arith in
      sym (transition_read f (at + 7 + 3 * n + 8 * (0 + k)) (pws.transition P k) (stands_moved z (joined_at transition_bytes 8 (λ t. refl) (at + 7 + 3 * n) P.transitions pws.no_transition third k l)))))

  pub program_same : program_of f (placed P ts at) ≡ P
  program_same =
      let a = shape_same P.shape range K.values in
      let b = transitions_same in
      λ i. record { shape = a i; states = λ p. states_each p i; initial = λ p. initial_each p i; transitions = b i }

  pub targets_same : targets_of f (placed P ts at) ≡ ts
  targets_same =
      let here = at + 7 + 3 * n + 8 * length P.transitions in
      sym (table_of (λ i. state_at f (here + 5 * i)) 0 (length ts) ts (λ p. 0) refl (λ k l.
      let z : here + 5 * k ≡ here + 5 * (0 + k) = omega arith in
      sym (state_read f (here + 5 * (0 + k)) (get_or ts k (λ p. 0)) (stands_moved z (joined_at target_bytes 5 (λ t. refl) here ts (λ p. 0) fourth k l))
      (λ p m. (K.part.targets k l).absent p (omega (arith, range.processes))))))

-- ---- the theorem

module _ (P : pws.Program) (ts : List (ℕ → ℕ)) (K : ProgramContents P ts) where
  -- from its beginning
  pub read_as : (alone : Bool) (f : List ℕ) → Stands f 0 (program_bytes P ts)
      → cond alone (leb (length f) (length (program_bytes P ts))) (is_kind f (length (program_bytes P ts)) 15) ≡ true → ProgramReadAs alone f P ts
  read_as alone f T shut =
      let e : length (program_bytes P ts) ≡ (placed P ts 0).claim = omega (arith, program_length P ts) in
      let shut' : cond alone (leb (length f) (placed P ts 0).claim) (is_kind f (placed P ts 0).claim 15) ≡ true = rw e at shut in
      let q = part_placed P ts K alone f 0 T shut' in
      record {
        fine = ap (λ (r : Result Program Refusal). whether r) q;
        program = ap (λ (r : Result Program Refusal). program_of f (program_read r)) q ∙ program_same P ts K alone f 0 T shut';
        targets = ap (λ (r : Result Program Refusal). targets_of f (program_read r)) q ∙ targets_same P ts K alone f 0 T shut';
      }

pub program_written_is_read : ProgramWrittenIsRead
unfolding is_kind
program_written_is_read P ts K =
    let bs = program_bytes P ts in (
      read_as P ts K true bs (stands_whole bs) (le-leb (length bs) (length bs) (omega arith)),
      λ rest.
          let f = bs ++ (15 ∷ rest) in
          let S = stands_right bs (15 ∷ rest) (stands_whole f) in
          let z : 0 + length bs ≡ length bs = omega arith in
          read_as P ts K false f (stands_left bs (15 ∷ rest) (stands_whole f)) (stands_kind 15 rest (stands_moved z S)),
    )
