-- The program and the targets of a file that was read.
use Rattle.std.specs.Prelude.{Ok}
use Prim.Native.Nat.{ℕ, ◌+◌, ◌*◌, ◌<◌, ◌≤◌}
use mathlib.Core.Path.{◌≡◌, refl, sym, ap, subst, ◌∙◌}
use mathlib.Core.Logic.{⊎_elim}
use mathlib.Core.Bool.{Bool, true, cond, ◌&&◌, not}
use mathlib.Core.List.{List}
use native.Mathlib.Omega.{arith}
use native.Mathlib.Decide.{dec_lt}
use lib.ListN.{length, get_or, get_or-eq_default}
use lib.Dec.{leb}
use borrow.Author.Tests.{eqb-true, leb-true, ltb-true, lt-ltb, le-ltb, not-false}
use Rattle.machine_pws.specs.Program as pws
use Rattle.machine_pws.specs.Configurations.{StatesOf}
use Rattle.machine_pws.specs.Ranges.{CountsOf}
use Rattle.file_records.specs.declared.program.Format.{Format}
use Rattle.file_records.specs.declared.program.Format.TheVariants.{Plain}
use Rattle.file_records.specs.declared.program.Shape.{Shape}
use Rattle.file_records.specs.declared.program.Program.{Program}
use Rattle.base.specs.Bytes.{byte}
use Rattle.file_records.specs.Format.{transition_kind, least_values, most_targets}
use Rattle.file_records.specs.Records.{checked, in_range, is_kind, shape_at, value_count, count_in_range, counts_in_range, count_if_absent, counts_if_absent, shape_number, transition_at, transition_number, transition_names, target_number, state_names, state_at}
use Rattle.file_records.specs.ProgramPart.{unless_end, states_from, of_process, of_processes, at_end, transitions_from, targets_from, program_from, shape_of, program_of, targets_of, whether, program_read}
use Rattle.file_records.proofs.RecordLaws.{good, unless_fine, states_fine, transition_fine, target_fine}
use Rattle.file_records.proofs.ProgramLaws.{and_true, some_target_lem, transitions_most, targets_most}
use Rattle.file_contents.proofs.ReadingLaws.{ProgramFine, program_fine}
use Rattle.file_again.specs.Contents.{ProgramPartRead, ProgramSizes}
use Rattle.file_again.proofs.Tables.{table_length, table_number, of_four}
use Rattle.file_again.proofs.Names.{range_true, transition_of, states_of_lem}
use Rattle.file_again.proofs.Rows.{row_each, row_stop, place_eight, place_five, states_each}

-- ---- the shape

pub record ShapeRange (k : Format) (s : Shape) : Type 0 where
  pub processes : (1 ≤ s.processes) × (s.processes ≤ 4)
  pub variables : (1 ≤ s.variables) × (s.variables ≤ 4)
  pub values : (v : ℕ) → v < s.variables → (least_values k ≤ value_count s v) × (value_count s v ≤ 4)
  pub absent : (v : ℕ) → v < 4 → s.variables ≤ v → value_count s v ≡ 0

module _ (k : Format) (s : Shape) where
  count_range : (v : ℕ) → v < s.variables → count_in_range k s v ≡ true → (least_values k ≤ value_count s v) × (value_count s v ≤ 4)
  unfolding count_in_range
  count_range v l e =
      let r = and_true (leb (least_values k) (value_count s v)) (leb (value_count s v) 4) (rw (lt-ltb v s.variables l) at e) in
      (leb-true (least_values k) (value_count s v) r.0, leb-true (value_count s v) 4 r.1)

  count_each : counts_in_range k s ≡ true → (v : ℕ) → v < 4 → count_in_range k s v ≡ true
  unfolding counts_in_range
  count_each e =
      let a = and_true (count_in_range k s 0) (count_in_range k s 1 && (count_in_range k s 2 && count_in_range k s 3)) e in
      let b = and_true (count_in_range k s 1) (count_in_range k s 2 && count_in_range k s 3) a.1 in
      let c = and_true (count_in_range k s 2) (count_in_range k s 3) b.1 in
      of_four (λ (v : ℕ). count_in_range k s v ≡ true) a.0 b.0 c.0 c.1

  count_none : (v : ℕ) → s.variables ≤ v → count_if_absent s v ≡ true → value_count s v ≡ 0
  unfolding count_if_absent
  count_none v l e = eqb-true (value_count s v) 0 (rw (le-ltb v s.variables l) at e)

  absent_each : counts_if_absent s ≡ true → (v : ℕ) → v < 4 → count_if_absent s v ≡ true
  unfolding counts_if_absent
  absent_each e =
      let a = and_true (count_if_absent s 0) (count_if_absent s 1 && (count_if_absent s 2 && count_if_absent s 3)) e in
      let b = and_true (count_if_absent s 1) (count_if_absent s 2 && count_if_absent s 3) a.1 in
      let c = and_true (count_if_absent s 2) (count_if_absent s 3) b.1 in
      of_four (λ (v : ℕ). count_if_absent s v ≡ true) a.0 b.0 c.0 c.1

pub shape_in : (k : Format) (f : List ℕ) (at : ℕ) → unless_end f at (checked (shape_number k f at) at) ≡ Ok tt → ShapeRange k (shape_at f at)
unfolding shape_number
shape_in k f at e =
    let g = good at (unless_fine f at _ e).1 in
    let a = and_true (in_range (byte f (at + 1)) 4) (in_range (byte f (at + 2)) 4 && counts_in_range k (shape_at f at)) (not-false _ g.range) in
    let b = and_true (in_range (byte f (at + 2)) 4) (counts_in_range k (shape_at f at)) a.1 in
    let few = range_true (byte f (at + 2)) 4 b.0 in
    record {
      processes = range_true (byte f (at + 1)) 4 a.0;
      variables = few;
      values = λ v l. count_range k (shape_at f at) v l (count_each k (shape_at f at) b.1 v (omega arith));
      absent = λ v l m. count_none k (shape_at f at) v m (absent_each k (shape_at f at) (not-false _ g.names) v l);
    }

shape_counts : (f : List ℕ) (at : ℕ) → ShapeRange Plain (shape_at f at) → CountsOf (shape_of (shape_at f at)) (shape_at f at).values
shape_counts f at r =
    record {
      room = refl;
      present = λ v l. refl;
      absent = λ v l. elim (dec_lt v 4) [
        | yes i ↦ r.absent v i l
        | no i ↦ let past : length (shape_at f at).values ≤ v = omega arith in get_or-eq_default (shape_at f at).values 0 past
      ];
    }

-- ---- states

pub of_process_lem : (f : List ℕ) (at k n p : ℕ) → p < n → n ≤ 4 → get_or (of_processes f at k n) p 0 ≡ byte f (at + (k + 3 * p))
of_process_lem f at k n p l few =
    of_four (λ (p : ℕ). get_or (of_processes f at k n) p 0 ≡ of_process f at k n p) refl refl refl refl p (omega arith) ∙ rw (lt-ltb p n l)

module _ (f : List ℕ) (at n : ℕ) (few : n ≤ 4) (q : states_from f at n ≡ Ok tt) (p : ℕ) (l : p < n) where
  numbers : (in_range (byte f (at + 3 * p + 1)) 32 ≡ true) × (byte f (at + 3 * p + 2) < byte f (at + 3 * p + 1))
  numbers =
      let g = states_fine f (at + 3 * p) (states_each f at n q p l) in
      (not-false _ g.range, ltb-true (byte f (at + 3 * p + 2)) (byte f (at + 3 * p + 1)) (not-false _ g.names))

  said : (k : ℕ) → get_or (of_processes f at k n) p 0 ≡ byte f (at + 3 * p + k)
  said k = let a : at + (k + 3 * p) ≡ at + 3 * p + k = omega arith in of_process_lem f at k n p l few ∙ ap (byte f) a

  pub states_most : get_or (of_processes f at 1 n) p 0 ≤ 32
  states_most = rw (said 1) (range_true (byte f (at + 3 * p + 1)) 32 numbers.0).1

  pub initial_below : get_or (of_processes f at 2 n) p 0 < get_or (of_processes f at 1 n) p 0
  initial_below = rw (said 1, said 2) numbers.1

-- ---- transitions and targets

module _ (k : Format) (s : Shape) (states : List ℕ) (f : List ℕ) (at : ℕ) where
  pub transition_named : (n i : ℕ) → transitions_from k s states f at ≡ Ok n → i < n → transition_names k s states f (at + 8 * i) ≡ true
  unfolding transitions_from
  transition_named n i q l =
      let e = row_each (λ j n. not (is_kind f j (transition_kind k))) (λ j n. checked (transition_number k s states f j n) j) (λ j. 8) 256 at 0 n q i (omega arith) in
      let a = transition_fine f (at + 8 * i) k s states (0 + i) (rw (place_eight at i) at e) in
      not-false _ a.names

  pub target_named : (alone : Bool) (n i : ℕ) → targets_from k alone s states f at ≡ Ok n → i < n → state_names s states f (at + 5 * i) ≡ true
  unfolding targets_from
  target_named alone n i q l =
      let e = row_each (at_end alone f) (λ j n. unless_end f j (checked (target_number k s states f j n) j)) (λ j. 5) (most_targets k) at 0 n q i (omega arith) in
      let d = (unless_fine f (at + 5 * i) _ (rw (place_five at i) at e)).1 in
      not-false _ (target_fine f (at + 5 * i) k s states (0 + i) d).names

  pub targets_least : (alone : Bool) (n : ℕ) → targets_from k alone s states f at ≡ Ok n → 1 ≤ n
  unfolding targets_from at_end
  targets_least alone n q =
      ⊎_elim (λ e. leb-true 1 n (and_true (cond alone (leb (length f) e.0) (is_kind f e.0 15)) (leb 1 n) e.1).1) (λ e. omega (arith, some_target_lem k))
      (row_stop (at_end alone f) (λ j n. unless_end f j (checked (target_number k s states f j n) j)) (λ j. 5) (most_targets k) at 0 n q)

-- ---- the whole part

module _ (alone : Bool) (f : List ℕ) (at : ℕ) (F : ProgramFine Plain alone f at) where
  abbrev s : Shape
  s = shape_at f at

  abbrev states : List ℕ
  states = of_processes f (at + 7) 1 s.processes

  abbrev first : ℕ
  first = at + 7 + 3 * s.processes

  abbrev p : Program
  p =
      record {
        shape = s;
        states = states;
        initial = of_processes f (at + 7) 2 s.processes;
        transitions = record { at = first; count = F.transitions };
        targets = record { at = first + 8 * F.transitions; count = F.targets };
        claim = first + 8 * F.transitions + 5 * F.targets;
      }

  range : ShapeRange Plain s
  range = shape_in Plain f at F.shape

  taken : (i : ℕ) → i < F.transitions → pws.TransitionOf (program_of f p) (pws.transition (program_of f p) i)
  taken i l =
      subst (pws.TransitionOf (program_of f p)) (sym (table_number (λ i. transition_at f (first + 8 * i)) F.transitions i pws.no_transition l))
      (transition_of s states (program_of f p).initial (program_of f p).transitions f (first + 8 * i) (transition_named Plain s states f first F.transitions i F.rows l))

  aimed : (k : ℕ) → k < F.targets → StatesOf (program_of f p) (get_or (targets_of f p) k (λ p. 0))
  aimed k l =
      subst (StatesOf (program_of f p)) (sym (table_number (λ i. state_at f (first + 8 * F.transitions + 5 * i)) F.targets k (λ p. 0) l))
      (states_of_lem s states (program_of f p).initial (program_of f p).transitions f (first + 8 * F.transitions + 5 * k) range.processes.1
      (target_named Plain s states f (first + 8 * F.transitions) alone F.targets k F.aims l))

  count₁ : length (program_of f p).transitions ≡ F.transitions
  count₁ = table_length (λ i. transition_at f (first + 8 * i)) 0 F.transitions

  count₂ : length (targets_of f p) ≡ F.targets
  count₂ = table_length (λ i. state_at f (first + 8 * F.transitions + 5 * i)) 0 F.targets

  few_rows : (F.transitions ≤ 256) × (F.targets ≤ 4096)
  few_rows = (transitions_most Plain s states f first F.transitions F.rows, targets_most Plain s states f (first + 8 * F.transitions) alone F.targets F.aims)

  well_formed_shape : pws.WellFormedShape (shape_of s)
  well_formed_shape =
      record {
        some_process = range.processes.0;
        some_variable = range.variables.0;
        some_value = λ v l. (range.values v l).0;
        variables = range.variables.1;
      }

  whole_part : ProgramPartRead (program_of f p) (targets_of f p)
  whole_part =
      record {
        program =
            record {
              well_formed =
                  record {
                    shape = well_formed_shape;
                    initial = λ q l. initial_below f (at + 7) s.processes range.processes.1 F.states q l;
                    transitions = λ i l. taken i (omega (arith, count₁));
                  };
              shape =
                  record {
                    well_formed = well_formed_shape;
                    processes = range.processes.1;
                    variables = range.variables.1;
                    values = λ v l. (range.values v l).1;
                    room = refl;
                  };
            };
        states = λ q l. states_most f (at + 7) s.processes range.processes.1 F.states q l;
        transitions = omega (arith, count₁, few_rows.0);
        targets = λ k l. aimed k (omega (arith, count₂));
        some_target = omega (arith, count₂, targets_least Plain s states f (first + 8 * F.transitions) alone F.targets F.aims);
        few_targets = omega (arith, count₂, few_rows.1);
      }

  near : p.claim ≤ at + 22547
  near = omega (arith, few_rows.0, few_rows.1, range.processes.1)

  whole_sizes : ◌≡◌ {A = ℕ} at 0 → ProgramSizes p
  whole_sizes z =
      record {
        processes = range.processes;
        variables = range.variables;
        values = range.values;
        transitions = few_rows.0;
        targets = (targets_least Plain s states f (first + 8 * F.transitions) alone F.targets F.aims, few_rows.1);
        claim = omega (arith, near);
      }

module _ (alone : Bool) (f : List ℕ) (at : ℕ) (q : whether (program_from alone f at) ≡ Ok tt) where
  F : ProgramFine Plain alone f at
  F = program_fine Plain alone f at q

  pub part_read : ProgramPartRead (program_of f (program_read (program_from alone f at))) (targets_of f (program_read (program_from alone f at)))
  part_read = subst (λ (p : Program). ProgramPartRead (program_of f p) (targets_of f p)) (sym F.same) (whole_part alone f at F)

  pub part_shape : ShapeRange Plain (program_read (program_from alone f at)).shape
  part_shape = subst (λ (p : Program). ShapeRange Plain p.shape) (sym F.same) (shape_in Plain f at F.shape)

  -- the four counts of the 01 are those of the program
  pub part_counts : CountsOf (program_of f (program_read (program_from alone f at))).shape (shape_at f at).values
  part_counts = subst (λ (p : Program). CountsOf (program_of f p).shape (shape_at f at).values) (sym F.same) (shape_counts f at (shape_in Plain f at F.shape))

  pub part_sizes : ◌≡◌ {A = ℕ} at 0 → ProgramSizes (program_read (program_from alone f at))
  part_sizes z = subst ProgramSizes (sym F.same) (whole_sizes alone f at F z)

  -- the claim stands near the beginning
  pub claim_near : (program_read (program_from alone f at)).claim ≤ at + 22547
  claim_near = subst (λ (p : Program). p.claim ≤ at + 22547) (sym F.same) (near alone f at F)
