-- Each record of the program part, and the part as a whole, in the table's words.
use Rattle.std.specs.Prelude.{Result, Ok, Err, ⊤}
use Prim.Native.Nat.{ℕ, zero, suc, ◌+◌, ◌*◌, ◌-◌, ◌<◌, ◌≤◌}
use mathlib.Core.Path.{◌≡◌, refl, sym, ap, subst, ◌∙◌}
use mathlib.Core.Logic.{◌⊎◌, inl, inr, ⊎_elim}
use mathlib.Core.Bool.{Bool, true, false, cond, ◌&&◌, not}
use mathlib.Core.List.{List, [], ◌∷◌, ◌++◌}
use native.Mathlib.Omega.{arith}
use native.Mathlib.Decide.{dec_lt, ℕ_discrete}
use lib.ListN.{length, get_or, length-append, get_or-eq_default}
use lib.Dec.{eqb, leb, ltb}
use borrow.Author.Tests.{leb-true, leb-false, le-leb, lt-leb, eqb-true, eqb-false, eq-eqb, ne_eqb, lt-ltb, le-ltb, ltb-true, not-false, not-true}
use Rattle.machine_pws.specs.declared.Transition.{Transition}
use Rattle.machine_pws.specs.Program as pws
use Rattle.machine_pws.specs.Configurations.{StatesOf}
use Rattle.file_records.specs.declared.program.Format.TheVariants.{Plain}
use Rattle.file_records.specs.declared.program.Shape.{Shape}
use Rattle.file_records.specs.declared.program.Refusal.{Refusal}
use Rattle.base.specs.Bytes.{byte, choose, cut}
use Rattle.file_records.specs.Records.{first_number, checked, is_kind, in_range, shape_at, shape_number, value_count, count_in_range, counts_in_range, count_if_absent, counts_if_absent, states_number, transition_at, transition_number, transition_names, state_at, state_names, target_number}
use Rattle.file_records.specs.ProgramPart.{unless_end, row_from, states_from, of_process, of_processes, transitions_from, at_end, targets_from, rows_from, rest_from, program_with, program_from, shape_of, table_from, whether}
use Rattle.file_records.proofs.RecordLaws.{fine_refused, refused_same, unless_fine, transition_fine, target_fine}
use Rattle.base.proofs.ByteLaws.{byte_past}
use Rattle.file_records.proofs.ProgramLaws.{and_true, transitions_most, targets_most}
use Rattle.file_again.specs.Again.{place_of}
use Rattle.file_again.proofs.Tables.{table_length, table_number, of_four}
use Rattle.file_again.proofs.Names.{no_true, range_true, transition_of, states_of_lem}
use Rattle.file_again.proofs.Rows.{row_each, place_eight, place_five}
use Rattle.file_again.proofs.ProgramPart.{ShapeRange, shape_in, states_most, initial_below}
use Rattle.file_written.specs.Standing.{Stands}
use Rattle.file_written.specs.Written.{joined, numbers, shape_bytes, states_bytes, transition_bytes, target_bytes, program_bytes}
use Rattle.file_written.specs.Faults.{Fault, ShapeNumbers, AbsentCounts, ShapeFault, StatesFault, TransitionFault, TargetFault, ShapeBegun, StatesBegun, RowsBegun, states_begun_bytes, ProgramFault, in_shape, in_states, in_transitions, in_targets, ends_before, ends_in_states, ends_in_rows, ProgramRefused}
use Rattle.file_written.proofs.Standing.{stands_moved, stands_all, stands_join, joined_length, joined_stands}
use Rattle.file_written.proofs.Fine.{both, not_so, range_in}
use Rattle.file_written.proofs.ProgramWritten.{transition_names_lem, states_there, program_length}
use Rattle.file_written.proofs.ProgramRead.{shape_stands, states_stand, transition_stands, target_stands, row_shut}
use Rattle.file_written.proofs.Faults.{Told, fault_of, kind_told, kind_tells, false_true, unless_refused, Stop, row_stopped, StatesStop, states_stopped}

-- ---- 01

module _ (f : List ℕ) (at : ℕ) where
  abbrev s : Shape
  s = shape_at f at

  counted : (v : ℕ) → v < 4 → value_count s v ≡ byte f (at + (3 + v))
  counted = of_four (λ (v : ℕ). value_count s v ≡ byte f (at + (3 + v))) refl refl refl refl

  counts_told : counts_in_range Plain s ≡ true → (v : ℕ) → v < 4 → count_in_range Plain s v ≡ true
  unfolding counts_in_range
  counts_told e =
      let a = and_true (count_in_range Plain s 0) (count_in_range Plain s 1 && (count_in_range Plain s 2 && count_in_range Plain s 3)) e in
      let b = and_true (count_in_range Plain s 1) (count_in_range Plain s 2 && count_in_range Plain s 3) a.1 in
      let c = and_true (count_in_range Plain s 2) (count_in_range Plain s 3) b.1 in
      of_four (λ (v : ℕ). count_in_range Plain s v ≡ true) a.0 b.0 c.0 c.1

  count_told : (v : ℕ) → v < 4 → v < s.variables → count_in_range Plain s v ≡ true → (1 ≤ byte f (at + (3 + v))) × (byte f (at + (3 + v)) ≤ 4)
  unfolding count_in_range
  count_told v i l e =
      let r = and_true (leb 1 (value_count s v)) (leb (value_count s v) 4) (rw (lt-ltb v s.variables l) at e) in
      let c = counted v i in
      (omega (arith, leb-true 1 (value_count s v) r.0), omega (arith, leb-true (value_count s v) 4 r.1))

  count_tells : ((v : ℕ) → v < s.variables → (1 ≤ byte f (at + (3 + v))) × (byte f (at + (3 + v)) ≤ 4)) → (v : ℕ) → v < 4 → count_in_range Plain s v ≡ true
  unfolding count_in_range
  count_tells h v i = elim (dec_lt v s.variables) [
    | yes l ↦
        let c = counted v i in
        let w = h v l in
        rw (lt-ltb v s.variables l) (both (le-leb 1 (value_count s v) (omega (arith, w.0))) (le-leb (value_count s v) 4 (omega (arith, w.1))))
    | no l ↦ rw (le-ltb v s.variables (omega arith))
  ]

  absent_tells : AbsentCounts f at → (v : ℕ) → v < 4 → count_if_absent s v ≡ true
  unfolding count_if_absent
  absent_tells h v i = elim (dec_lt v s.variables) [
    | yes l ↦ rw (lt-ltb v s.variables l)
    | no l ↦ rw (le-ltb v s.variables (omega arith)) (eq-eqb (value_count s v) 0 (counted v i ∙ h v i (omega arith)))
  ]

  numbers_told : not (in_range (byte f (at + 1)) 4 && (in_range (byte f (at + 2)) 4 && counts_in_range Plain s)) ≡ false → ShapeNumbers f at
  numbers_told e =
      let a = and_true (in_range (byte f (at + 1)) 4) (in_range (byte f (at + 2)) 4 && counts_in_range Plain s) (not-false _ e) in
      let b = and_true (in_range (byte f (at + 2)) 4) (counts_in_range Plain s) a.1 in
      let x = range_true (byte f (at + 1)) 4 a.0 in
      let y = range_true (byte f (at + 2)) 4 b.0 in
      (x.0, x.1, y.0, y.1, λ v l. count_told v (omega (arith, y.1)) l (counts_told b.1 v (omega (arith, y.1))))

  numbers_tell : ShapeNumbers f at → not (in_range (byte f (at + 1)) 4 && (in_range (byte f (at + 2)) 4 && counts_in_range Plain s)) ≡ false
  unfolding counts_in_range
  numbers_tell h =
      let c = count_tells h.4 in
      not_so (both (range_in (byte f (at + 1)) 4 h.0 h.1) (both (range_in (byte f (at + 2)) 4 h.2 h.3)
      (both (c 0 (omega arith)) (both (c 1 (omega arith)) (both (c 2 (omega arith)) (c 3 (omega arith)))))))

  absents_tell : AbsentCounts f at → not (counts_if_absent s) ≡ false
  unfolding counts_if_absent
  absents_tell h = let c = absent_tells h in not_so (both (c 0 (omega arith)) (both (c 1 (omega arith)) (both (c 2 (omega arith)) (c 3 (omega arith)))))

  shape_fault : (r : Refusal) → checked (shape_number Plain f at) at ≡ Err r → (r.place ≡ at) × ShapeFault f at r.number
  unfolding shape_number
  shape_fault r q =
      fault_of f at 6 (byte f at ≡ 1) ⊥ (ShapeNumbers f at) (AbsentCounts f at) r
      (record {
        kind = kind_told f at 1;
        unkind = kind_tells f at 1;
        full = false_true;
        room = λ e x. x;
        range = numbers_told;
        unrange = numbers_tell;
        names = absents_tell;
      }) q

  -- ---- 02

  states_fault : (r : Refusal) → checked (states_number f at) at ≡ Err r → (r.place ≡ at) × StatesFault f at r.number
  unfolding states_number
  states_fault r q =
      fault_of f at 2 (byte f at ≡ 2) ⊥ ((1 ≤ byte f (at + 1)) × (byte f (at + 1) ≤ 32)) (byte f (at + 2) < byte f (at + 1)) r
      (record {
        kind = kind_told f at 2;
        unkind = kind_tells f at 2;
        full = false_true;
        room = λ e x. x;
        range = λ e. range_true (byte f (at + 1)) 32 (not-false _ e);
        unrange = λ h. not_so (range_in (byte f (at + 1)) 32 h.0 h.1);
        names = λ h. not_so (lt-ltb (byte f (at + 2)) (byte f (at + 1)) h);
      }) q

-- ---- 03 and 04, of a program whose shape and states these are

module _ (P : pws.Program) (s : Shape) (states : List ℕ) (processes : s.processes ≡ P.shape.processes) (variables : s.variables ≡ P.shape.variables)
    (counts : (v : ℕ) → value_count s v ≡ P.shape.values v) (stated : (p : ℕ) → get_or states p 0 ≡ P.states p) (f : List ℕ) (at : ℕ) (r : Refusal) where
  transition_fault : (n : ℕ) → n ≡ length P.transitions → checked (transition_number Plain s states f at n) at ≡ Err r → (r.place ≡ at) × TransitionFault P f at r.number
  unfolding transition_number
  transition_fault n e q =
      fault_of f at 7 (byte f at ≡ 3) (256 ≤ length P.transitions) Unit ((t : Transition) × pws.TransitionOf P t × Stands f at (transition_bytes t)) r
      (record {
        kind = kind_told f at 3;
        unkind = kind_tells f at 3;
        full = λ d. omega (arith, leb-true 256 n d);
        room = λ d l. omega (arith, leb-false 256 n d);
        range = λ d. tt;
        unrange = λ u. refl;
        names = λ h. not_so (transition_names_lem f at h.0 h.2 s states P processes variables counts stated h.1);
      }) q

  target_fault : (ts : List (ℕ → ℕ)) (n : ℕ) → n ≡ length ts → checked (target_number Plain s states f at n) at ≡ Err r → (r.place ≡ at) × TargetFault P ts f at r.number
  unfolding target_number
  target_fault ts n e q =
      fault_of f at 4 (byte f at ≡ 4) (4096 ≤ length ts) Unit ((t : ℕ → ℕ) × StatesOf P t × Stands f at (target_bytes t)) r
      (record {
        kind = kind_told f at 4;
        unkind = kind_tells f at 4;
        full = λ d. omega (arith, leb-true 4096 n d);
        room = λ d l. omega (arith, leb-false 4096 n d);
        range = λ d. tt;
        unrange = λ u. refl;
        names = λ h. not_so (states_there s states P processes stated h.0 h.1 f at (h.2.same 1 (omega arith)) (h.2.same 2 (omega arith)) (h.2.same 3 (omega arith)) (h.2.same 4 (omega arith)));
      }) q

-- ---- beginnings

module _ (f : List ℕ) (first_Fine : unless_end f 0 (checked (shape_number Plain f 0) 0) ≡ Ok tt) where
  abbrev shaped : Shape
  shaped = shape_at f 0

  range : ShapeRange Plain shaped
  range = shape_in Plain f 0 first_Fine

  well_formed_lem : pws.WellFormedShape (shape_of shaped)
  well_formed_lem =
      record {
        some_process = range.processes.0;
        some_variable = range.variables.0;
        some_value = λ v l. (range.values v l).0;
        variables = range.variables.1;
      }

  shape_begun : ShapeBegun (shape_of shaped)
  shape_begun =
      record {
        shape =
            record {
              well_formed = well_formed_lem;
              processes = range.processes.1;
              variables = range.variables.1;
              values = λ v l. (range.values v l).1;
              room = refl;
            };
        values = λ v l. elim (dec_lt v 4) [
          | yes i ↦ range.absent v i l
          | no i ↦ let past : length shaped.values ≤ v = omega arith in get_or-eq_default shaped.values 0 past
        ];
      }

  -- the first k processes
  module _ (k : ℕ) (l : k ≤ shaped.processes) (q : states_from f 7 k ≡ Ok tt) (ts : List Transition) where
    abbrev begun_with : pws.Program
    begun_with = record { shape = shape_of shaped; states = λ p. get_or (of_processes f 7 1 k) p 0; initial = λ p. get_or (of_processes f 7 2 k) p 0; transitions = ts }

    few : k ≤ 4
    few = omega (arith, range.processes.1)

    states_begun : StatesBegun begun_with k
    states_begun = record { begun = shape_begun; few = λ p i. states_most f 7 k few q p i; initial = λ p i. initial_below f 7 k few q p i }

    second_stands : Stands f 7 (joined (states_bytes begun_with) (numbers k))
    second_stands =
        let m = table_length (λ i. i) 0 k in
        joined_stands (states_bytes begun_with) 3 (λ p. refl) 7 (numbers k) 0 (shape_stands f 0 first_Fine).fits (λ p j.
        let i : p < k = omega arith in
        subst (λ (q : ℕ). Stands f (7 + 3 * p) (states_bytes begun_with q)) (sym (table_number (λ i. i) k p 0 i)) (states_stand f 7 k few q begun_with (λ p l. refl) (λ p l. refl) p i))

    second_length : length (joined (states_bytes begun_with) (numbers k)) ≡ 3 * k
    second_length = joined_length (states_bytes begun_with) 3 (λ p. refl) (numbers k) ∙ ap (λ (i : ℕ). 3 * i) (table_length (λ i. i) 0 k)

    begun_stands : Stands f 0 (states_begun_bytes begun_with k)
    begun_stands = stands_join (shape_bytes (shape_of shaped)) (joined (states_bytes begun_with) (numbers k)) (shape_stands f 0 first_Fine) second_stands

    begun_length : length (states_begun_bytes begun_with k) ≡ 7 + 3 * k
    begun_length = omega (arith, second_length, length-append (shape_bytes (shape_of shaped)) (joined (states_bytes begun_with) (numbers k)))

  -- and n transitions and m targets
  module _ (q : states_from f 7 shaped.processes ≡ Ok tt) (n m : ℕ) (fewer : n ≤ 256) (fewest : m ≤ 4096) where
    abbrev states : List ℕ
    states = of_processes f 7 1 shaped.processes

    abbrev first : ℕ
    first = 7 + 3 * shaped.processes

    abbrev second : ℕ
    second = first + 8 * n

    abbrev P : pws.Program
    P = begun_with shaped.processes (omega arith) q (table_from (λ i. transition_at f (first + 8 * i)) 0 n)

    abbrev ts : List (ℕ → ℕ)
    ts = table_from (λ i. state_at f (second + 5 * i)) 0 m

    count₁ : length P.transitions ≡ n
    count₁ = table_length (λ i. transition_at f (first + 8 * i)) 0 n

    count₂ : length ts ≡ m
    count₂ = table_length (λ i. state_at f (second + 5 * i)) 0 m

    rows_length : length (program_bytes P ts) ≡ second + 5 * m
    rows_length = omega (arith, program_length P ts, count₁, count₂)

    module _ (taken : (i : ℕ) → i < n → checked (transition_number Plain shaped states f (first + 8 * i) (0 + i)) (first + 8 * i) ≡ Ok tt)
        (aimed : (i : ℕ) → i < m → checked (target_number Plain shaped states f (second + 5 * i) (0 + i)) (second + 5 * i) ≡ Ok tt) where
      rows_begun : RowsBegun P ts
      rows_begun =
          record {
            begun = states_begun shaped.processes (omega arith) q (table_from (λ i. transition_at f (first + 8 * i)) 0 n);
            transitions = λ k l.
                let i : k < n = omega (arith, count₁) in
                subst (pws.TransitionOf P) (sym (table_number (λ i. transition_at f (first + 8 * i)) n k pws.no_transition i))
                (transition_of shaped states P.initial P.transitions f (first + 8 * k) (not-false _ (transition_fine f (first + 8 * k) Plain shaped states (0 + k) (taken k i)).names));
            few_transitions = omega (arith, count₁);
            targets = λ k l.
                let i : k < m = omega (arith, count₂) in
                subst (StatesOf P) (sym (table_number (λ i. state_at f (second + 5 * i)) m k (λ p. 0) i))
                (states_of_lem shaped states P.initial P.transitions f (second + 5 * k) range.processes.1
                (not-false _ (target_fine f (second + 5 * k) Plain shaped states (0 + k) (aimed k i)).names));
            few_targets = omega (arith, count₂);
          }

      rows_stand : Stands f 0 (program_bytes P ts)
      rows_stand =
          let S₂ = second_stands shaped.processes (omega arith) q P.transitions in
          let e₂ = second_length shaped.processes (omega arith) q P.transitions in
          let S₃ : Stands f first (joined transition_bytes P.transitions) =
          joined_stands transition_bytes 8 (λ t. refl) first P.transitions pws.no_transition (omega (arith, S₂.fits, e₂)) (λ k l.
          let i : k < n = omega (arith, count₁) in
          subst (λ (t : Transition). Stands f (first + 8 * k) (transition_bytes t)) (sym (table_number (λ i. transition_at f (first + 8 * i)) n k pws.no_transition i))
          (transition_stands f (first + 8 * k) shaped states (0 + k) (taken k i))) in
          let e₃ : length (joined transition_bytes P.transitions) ≡ 8 * n = joined_length transition_bytes 8 (λ t. refl) P.transitions ∙ ap (λ (k : ℕ). 8 * k) count₁ in
          let S₄ : Stands f second (joined target_bytes ts) =
          joined_stands target_bytes 5 (λ t. refl) second ts (λ p. 0) (omega (arith, S₃.fits, e₃)) (λ k l.
          let i : k < m = omega (arith, count₂) in
          subst (λ (t : ℕ → ℕ). Stands f (second + 5 * k) (target_bytes t)) (sym (table_number (λ i. state_at f (second + 5 * i)) m k (λ p. 0) i))
          (target_stands f (second + 5 * k) shaped states (0 + k) (aimed k i))) in
          let B = joined (states_bytes P) (numbers shaped.processes) in
          let C = joined transition_bytes P.transitions in
          let D = joined target_bytes ts in
          let y : second ≡ first + length C = omega (arith, e₃) in
          let z : first ≡ 7 + length B = omega (arith, e₂) in
          stands_join (shape_bytes (shape_of shaped)) (B ++ (C ++ D)) (shape_stands f 0 first_Fine)
          (stands_join B (C ++ D) S₂ (stands_moved z (stands_join C D S₃ (stands_moved y S₄))))

-- ---- the whole part

inside : (f : List ℕ) (at k : ℕ) → byte f at ≡ suc k → at < length f
inside f at k e = elim (dec_lt at (length f)) [ yes l ↦ l | no l ↦ absurd (omega (arith, byte_past f at (omega arith))) ]

module _ (alone : Bool) (f : List ℕ) (r : Refusal) where
  by_shape : unless_end f 0 (checked (shape_number Plain f 0) 0) ≡ Err r → ProgramFault alone f r
  by_shape q = ⊎_elim
      (λ a. ends_before a.1 a.2 (omega (arith, a.0)))
      (λ a. let w = shape_fault f 0 r a.1 in in_shape a.0 w.0 w.1) (unless_refused f 0 _ r q)

  module _ (A : unless_end f 0 (checked (shape_number Plain f 0) 0) ≡ Ok tt) where
    by_states : states_from f 7 (shape_at f 0).processes ≡ Err r → ProgramFault alone f r
    by_states q =
        let S = states_stopped f 7 (shape_at f 0).processes r q in
        let k = S.count in
        let l : k ≤ (shape_at f 0).processes = omega (arith, S.less) in
        let T = begun_stands f A k l S.before [] in
        let n = begun_length f A k l S.before [] in
        let B = states_begun f A k l S.before [] in
        ⊎_elim
        (λ a. ends_in_states _ k B S.less a.1 a.2 (stands_all f _ T (omega (arith, a.0, T.fits))))
        (λ a.
        let w = states_fault f (7 + 3 * k) r a.1 in
        in_states _ k B S.less T (w.0 ∙ sym n) (omega (arith, w.0, a.0)) (subst (λ (i : ℕ). StatesFault f i r.number) (sym w.0) w.1))
        (unless_refused f (7 + 3 * k) _ r S.stops)

    module _ (Q : states_from f 7 (shape_at f 0).processes ≡ Ok tt) where
      abbrev sh : Shape
      sh = shape_at f 0

      abbrev st : List ℕ
      st = of_processes f 7 1 sh.processes

      abbrev begins : ℕ
      begins = 7 + 3 * sh.processes

      by_transitions : transitions_from Plain sh st f begins ≡ Err r → ProgramFault alone f r
      unfolding transitions_from
      by_transitions q =
          let S = row_stopped (λ k n. not (is_kind f k 3)) (λ k n. checked (transition_number Plain sh st f k n) k) (λ k. 8) r 256 begins 0 q in
          let n = S.count in
          let taken : (i : ℕ) → i < n → checked (transition_number Plain sh st f (begins + 8 * i) (0 + i)) (begins + 8 * i) ≡ Ok tt = λ i l. rw (place_eight begins i) at (S.before i l) in
          let none : (i : ℕ) → i < 0 → checked (target_number Plain sh st f (begins + 8 * n + 5 * i) (0 + i)) (begins + 8 * n + 5 * i) ≡ Ok tt = λ i l. absurd (omega arith) in
          let goes = rw (place_eight begins n) at S.goes in
          let stops = rw (place_eight begins n) at S.stops in
          let c = count₁ f A Q n 0 S.most (omega arith) in
          let z : 0 + n ≡ length (P f A Q n 0 S.most (omega arith)).transitions = omega (arith, c) in
          let w = transition_fault (P f A Q n 0 S.most (omega arith)) sh st refl refl (λ v. refl) (λ p. refl) f (begins + 8 * n) r (0 + n) z stops in
          let three = kind_told f (begins + 8 * n) 3 goes in
          let place = w.0 in
          in_transitions (P f A Q n 0 S.most (omega arith)) (rows_begun f A Q n 0 S.most (omega arith) taken none) (rows_stand f A Q n 0 S.most (omega arith) taken none)
          (omega (arith, rows_length f A Q n 0 S.most (omega arith))) (omega (arith, inside f (begins + 8 * n) 2 three)) (ap (byte f) place ∙ three)
          (subst (λ (i : ℕ). TransitionFault (P f A Q n 0 S.most (omega arith)) f i r.number) (sym place) w.1)

      module _ (n : ℕ) (reads : transitions_from Plain sh st f begins ≡ Ok n) where
        most : n ≤ 256
        most = transitions_most Plain sh st f begins n reads

        taken : (i : ℕ) → i < n → checked (transition_number Plain sh st f (begins + 8 * i) (0 + i)) (begins + 8 * i) ≡ Ok tt
        unfolding transitions_from
        taken i l =
            let e = row_each (λ k n. not (is_kind f k 3)) (λ k n. checked (transition_number Plain sh st f k n) k) (λ k. 8) 256 begins 0 n reads i (omega arith) in
            rw (place_eight begins i) at e

        -- no 03 stands after the row
        no_three : byte f (begins + 8 * n) ≡ 3 → ⊥
        unfolding transitions_from
        no_three b =
            let e = (row_shut (λ k n. not (is_kind f k 3)) (λ k n. checked (transition_number Plain sh st f k n) k) (λ k. 8) 256 begins 0 n
            (λ k c. no_true (sym (transition_fine f k Plain sh st 256 c).room)) reads).1 in
            let z : n - 0 ≡ n = omega arith in
            let d : not (is_kind f (begins + 8 * n) 3) ≡ true = rw (z, place_eight begins n) at e in
            no_true (sym (kind_tells f (begins + 8 * n) 3 b) ∙ d)

        abbrev ends : ℕ
        ends = begins + 8 * n

        not_ended : (b : Bool) (at j : ℕ) → (cond b (leb (length f) at) (is_kind f at 15) && leb 1 j) ≡ false → (b ≡ true → length f ≤ at → j ≡ 0) × (b ≡ false → 1 ≤ j → byte f at ≡ 15 → ⊥)
        unfolding is_kind
        not_ended b at j e = (
          (λ c l. elim (dec_lt j 1) [
            | yes i ↦ omega arith
            | no i ↦
                let t : (cond true (leb (length f) at) (eqb (byte f at) 15) && leb 1 j) ≡ true = both (le-leb (length f) at l) (le-leb 1 j (omega arith)) in
                absurd (no_true (sym (subst (λ (b : Bool). (cond b (leb (length f) at) (eqb (byte f at) 15) && leb 1 j) ≡ false) c e) ∙ t))
          ]),
          (λ c l k.
              let t : (cond false (leb (length f) at) (eqb (byte f at) 15) && leb 1 j) ≡ true = both (eq-eqb (byte f at) 15 k) (le-leb 1 j l) in
              no_true (sym (subst (λ (b : Bool). (cond b (leb (length f) at) (eqb (byte f at) 15) && leb 1 j) ≡ false) c e) ∙ t)),
        )

        by_targets : targets_from Plain alone sh st f ends ≡ Err r → ProgramFault alone f r
        unfolding targets_from at_end
        by_targets q =
            let S = row_stopped (at_end alone f) (λ k n. unless_end f k (checked (target_number Plain sh st f k n) k)) (λ k. 5) r 4096 ends 0 q in
            let m = S.count in
            let place : ℕ = ends + 5 * m in
            let aimed : (i : ℕ) → i < m → checked (target_number Plain sh st f (ends + 5 * i) (0 + i)) (ends + 5 * i) ≡ Ok tt =
            λ i l. (unless_fine f (ends + 5 * i) _ (rw (place_five ends i) at (S.before i l))).1 in
            let goes : at_end alone f place (0 + m) ≡ false = rw (place_five ends m) at S.goes in
            let stops : unless_end f place (checked (target_number Plain sh st f place (0 + m)) place) ≡ Err r = rw (place_five ends m) at S.stops in
            let N = not_ended alone place (0 + m) goes in
            let PP = P f A Q n m most S.most in
            let us = ts f A Q n m most S.most in
            let c : length us ≡ m = count₂ f A Q n m most S.most in
            let size : length (program_bytes PP us) ≡ place = rows_length f A Q n m most S.most in
            let B = rows_begun f A Q n m most S.most taken aimed in
            let T = rows_stand f A Q n m most S.most taken aimed in
            ⊎_elim
            (λ a. ends_in_rows PP us B (λ e. omega (arith, N.0 e a.0, c)) a.1 a.2 (stands_all f (program_bytes PP us) T (omega (arith, a.0, T.fits, size))))
            (λ a.
            let z : 0 + m ≡ length us = omega arith in
            let w = target_fault PP sh st refl refl (λ v. refl) (λ p. refl) f place r us (0 + m) z a.1 in
            let at : r.place ≡ place = w.0 in
            in_targets PP us B T (at ∙ sym size) (omega (arith, a.0))
            (λ e b. let y : place ≡ ends = omega arith in no_three (ap (byte f) (sym (at ∙ y)) ∙ b))
            (λ e l b. N.1 e (omega arith) (ap (byte f) (sym at) ∙ b))
            (subst (λ (i : ℕ). TargetFault PP us f i r.number) (sym at) w.1))
            (unless_refused f place _ r stops)

  -- ---- which of them it is

  abbrev answer : Type 0
  answer = whether (program_from alone f 0) ≡ Err r

  by_parts : answer → (x y : Result ⊤ Refusal) (n : Result ℕ Refusal) → unless_end f 0 (checked (shape_number Plain f 0) 0) ≡ x → states_from f 7 (shape_at f 0).processes ≡ y
      → transitions_from Plain (shape_at f 0) (of_processes f 7 1 (shape_at f 0).processes) f (7 + 3 * (shape_at f 0).processes) ≡ n → ProgramFault alone f r
  unfolding program_with rest_from rows_from
  by_parts q (Err p) y n a b c = by_shape (a ∙ (sym (rw a) ∙ q))
  by_parts q (Ok _) (Err p) n a b c = by_states a (b ∙ (sym (rw (a, b)) ∙ q))
  by_parts q (Ok _) (Ok _) (Err p) a b c = by_transitions a b (c ∙ ap Err (refused_same (sym (rw (a, b, c)) ∙ q)))
  by_parts q (Ok _) (Ok _) (Ok n) a b c = go (targets_from Plain alone (shape_at f 0) (of_processes f 7 1 (shape_at f 0).processes) f (7 + 3 * (shape_at f 0).processes + 8 * n)) refl
    where
      go : (m : Result ℕ Refusal) → targets_from Plain alone (shape_at f 0) (of_processes f 7 1 (shape_at f 0).processes) f (7 + 3 * (shape_at f 0).processes + 8 * n) ≡ m → ProgramFault alone f r
      go (Ok m) d = absurd (fine_refused {r = r} (sym (rw (a, b, c, d)) ∙ q))
      go (Err p) d = by_targets a b n c (d ∙ ap Err (refused_same (sym (rw (a, b, c, d)) ∙ q)))

pub program_refused : ProgramRefused
program_refused alone f r q = by_parts alone f r q _ _ _ refl refl refl
