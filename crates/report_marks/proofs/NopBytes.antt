-- A program file with the operation of one fence set to that of a nop: where everything stands is as before, and the transition there is a nop.
use Rattle.std.specs.Prelude.{Result, Ok, ⊤}
use Rattle.file_records.specs.declared.program.Refusal.{Refusal}
use Prim.Native.Nat.{ℕ, zero, suc, ◌+◌, ◌*◌, ◌<◌, ◌≤◌}
use mathlib.Core.Path.{◌≡◌, sym, ap, ap₂, subst, ◌∙◌}
use mathlib.Core.Bool.{Bool, true, cond, not}
use mathlib.Core.List.{List}
use native.Mathlib.Omega.{arith}
use native.Mathlib.Decide.{dec_lt, ℕ_discrete}
use lib.ListN.{length}
use lib.Dec.{T, eqb, leb, ltb}
use borrow.Author.Tests.{ne_eqb, eq-eqb, lt-ltb, le-ltb, leb-true}
use Rattle.machine_pws.specs.declared.Transition.{Transition}
use Rattle.machine_pws.specs.Program as pws
use Rattle.file_records.specs.declared.program.Format.TheVariants.{Plain}
use Rattle.file_records.specs.declared.program.Shape.{Shape}
use Rattle.file_records.specs.declared.program.Program.{Program}
use Rattle.base.specs.Bytes.{byte, cut}
use Rattle.file_records.specs.Records.{
  checked,
  is_kind,
  shape_at,
  shape_number,
  states_number,
  names_of,
  operation_names,
  operation_of,
  transition_at,
  transition_number,
  transition_names,
  target_number,
  state_names,
  state_at,
}
use Rattle.file_records.specs.ProgramPart.{
  unless_end,
  row_from,
  states_from,
  of_process,
  of_processes,
  transitions_from,
  at_end,
  targets_from,
  rows_from,
  rest_from,
  program_with,
  program_from,
  program_of,
  targets_of,
}
use Rattle.base.proofs.ByteLaws.{cut_fits}
use Rattle.file_records.proofs.RecordLaws.{unless_not, states_fine}
use Rattle.file_records.proofs.ProgramLaws.{and_true}
use Rattle.file_contents.proofs.ReadingLaws.{ProgramFine}
use Rattle.file_again.specs.Again.{place_of}
use Rattle.file_again.proofs.Tables.{table_length, table_number, table_of, of_four}
use Rattle.file_again.proofs.Names.{parts_named}
use Rattle.file_again.proofs.Rows.{place_eight, place_five, states_each}
use Rattle.file_again.proofs.ProgramPart.{transition_named}
use Rattle.file_again.proofs.ProgramCut.{states_all, table_same}
use Rattle.report_theory.specs.Nops.{as_nop, with_nops, only, is_fence}
use Rattle.report_theory.proofs.Nops.{same_length, transition_at_lem}
use Rattle.report_marks.specs.Copy.{operation_place}

-- ---- records in a row of which the same is said

module _ (ends ends' : ℕ → ℕ → Bool) (check check' : ℕ → ℕ → Result ⊤ Refusal) (size : ℕ → ℕ) where
  row_same : (left at n : ℕ) → ((i : ℕ) → ends (place_of size at i) (n + i) ≡ ends' (place_of size at i) (n + i))
      → ((i : ℕ) → check (place_of size at i) (n + i) ≡ check' (place_of size at i) (n + i)) → row_from ends check size left at n ≡ row_from ends' check' size left at n
  unfolding row_from
  row_same zero at n e c =
      let z : n + 0 ≡ n = omega arith in
      let e₀ : ends at n ≡ ends' at n = rw z at (e 0) in
      let c₀ : check at n ≡ check' at n = rw z at (c 0) in
      rw (e₀, c₀)
  row_same (suc left) at n e c =
      let z : n + 0 ≡ n = omega arith in
      let e₀ : ends at n ≡ ends' at n = rw z at (e 0) in
      let c₀ : check at n ≡ check' at n = rw z at (c 0) in
      let on : (i : ℕ) → suc n + i ≡ n + suc i = λ i. omega arith in
      let next : ℕ = at + size at in
      rw (e₀, c₀, row_same left next (suc n) (λ i. rw (on i) (e (suc i))) (λ i. rw (on i) (c (suc i))))

-- ---- a fence's record names nothing, so a nop's does not either

module _ (s : Shape) (v x y : ℕ) where
  abbrev NamesNone : ℕ → Type 0
  NamesNone o = T (is_fence (operation_of o v x y)) → operation_names Plain s o v x y ≡ true → operation_names Plain s 0 v x y ≡ true

  none_nop : NamesNone 0
  unfolding operation_of
  none_nop f e = absurd f

  none_read : NamesNone 1
  unfolding operation_of
  none_read f e = absurd f

  none_write : NamesNone 2
  unfolding operation_of
  none_write f e = absurd f

  none_mfence : NamesNone 3
  unfolding operation_names names_of
  none_mfence f e = e

  none_sfence : NamesNone 4
  unfolding operation_names names_of
  none_sfence f e = e

  none_arw : NamesNone 5
  unfolding operation_of
  none_arw f e = absurd f

  none_other : (o : ℕ) → 5 < o → NamesNone o
  unfolding operation_names
  none_other o l f e = absurd (omega (arith, leb-true o 5 (and_true (leb o 5) (names_of s o v x y) e).0))

  names_none : (o : ℕ) → NamesNone o
  names_none o = elim (dec_lt o 4) [
    | yes l ↦ of_four NamesNone none_nop none_read none_write none_mfence o l
    | no l ↦ elim (ℕ_discrete o 4) [
      | yes e ↦ subst NamesNone (sym e) none_sfence
      | no d ↦ elim (ℕ_discrete o 5) [ yes e ↦ subst NamesNone (sym e) none_arw | no d' ↦ none_other o (omega arith) ]
    ]
  ]

-- ---- g has the bytes of f but for that at c, which is 0

module _ (f g : List ℕ) (c : ℕ) (size : length g ≡ length f) (same : (j : ℕ) → (j ≡ c → ⊥) → byte g j ≡ byte f j) (nop : byte g c ≡ 0) where
  -- n bytes from `at` on do not hold the place
  abbrev Apart : ℕ → ℕ → Type 0
  Apart at n = (j : ℕ) → at ≤ j → j < at + n → j ≡ c → ⊥

  kind_same : (at x : ℕ) → (at ≡ c → ⊥) → is_kind g at x ≡ is_kind f at x
  unfolding is_kind
  kind_same at x d = ap (λ (b : ℕ). eqb b x) (same at d)

  cut_same : (at body : ℕ) → cut g at body ≡ cut f at body
  unfolding cut
  cut_same at body = rw size

  unless_same : (at : ℕ) (x : Result ⊤ Refusal) → unless_end g at x ≡ unless_end f at x
  unfolding unless_end
  unless_same at x = rw size

  field_same : (at n i : ℕ) → Apart at n → i < n → byte g (at + i) ≡ byte f (at + i)
  field_same at n i a l = same (at + i) (a (at + i) (omega arith) (omega arith))

  kind_apart : (at n x : ℕ) → Apart at n → 0 < n → is_kind g at x ≡ is_kind f at x
  kind_apart at n x a l = kind_same at x (a at (omega arith) (omega arith))

  shape_number_lem : (at : ℕ) → Apart at 7 → (shape_at g at ≡ shape_at f at) × (shape_number Plain g at ≡ shape_number Plain f at)
  unfolding shape_number
  shape_number_lem at a =
      let b₁ = field_same at 7 1 a (omega arith) in
      let b₂ = field_same at 7 2 a (omega arith) in
      let b₃ = field_same at 7 3 a (omega arith) in
      let b₄ = field_same at 7 4 a (omega arith) in
      let b₅ = field_same at 7 5 a (omega arith) in
      let b₆ = field_same at 7 6 a (omega arith) in
      (rw (b₁, b₂, b₃, b₄, b₅, b₆), rw (kind_apart at 7 1 a (omega arith), cut_same at 6, b₁, b₂, b₃, b₄, b₅, b₆))

  states_number_lem : (at : ℕ) → Apart at 3 → states_number g at ≡ states_number f at
  unfolding states_number
  states_number_lem at a =
      rw (kind_apart at 3 2 a (omega arith), cut_same at 2, field_same at 3 1 a (omega arith), field_same at 3 2 a (omega arith))

  transition_number_lem : (s : Shape) (states : List ℕ) (at n : ℕ) → Apart at 8 → transition_number Plain s states g at n ≡ transition_number Plain s states f at n
  unfolding transition_number transition_names
  transition_number_lem s states at n a =
      rw (kind_apart at 8 3 a (omega arith), cut_same at 7, field_same at 8 1 a (omega arith), field_same at 8 2 a (omega arith), field_same at 8 3 a (omega arith), field_same at 8 4 a (omega arith), field_same at 8 5 a (omega arith), field_same at 8 6 a (omega arith), field_same at 8 7 a (omega arith))

  transition_same : (at : ℕ) → Apart at 8 → transition_at g at ≡ transition_at f at
  transition_same at a =
      rw (field_same at 8 1 a (omega arith), field_same at 8 2 a (omega arith), field_same at 8 3 a (omega arith), field_same at 8 4 a (omega arith), field_same at 8 5 a (omega arith), field_same at 8 6 a (omega arith), field_same at 8 7 a (omega arith))

  target_number_lem : (s : Shape) (states : List ℕ) (at n : ℕ) → Apart at 5 → target_number Plain s states g at n ≡ target_number Plain s states f at n
  unfolding target_number state_names
  target_number_lem s states at n a =
      rw (kind_apart at 5 4 a (omega arith), cut_same at 4, field_same at 5 1 a (omega arith), field_same at 5 2 a (omega arith), field_same at 5 3 a (omega arith), field_same at 5 4 a (omega arith))

  state_same : (at : ℕ) → Apart at 5 → state_at g at ≡ state_at f at
  state_same at a = λ i p. each p i
    where
      each : (p : ℕ) → state_at g at p ≡ state_at f at p
      each p = elim (dec_lt p 4) [
        | yes k ↦ ap (λ (b : ℕ). cond (ltb p 4) b 0) (field_same at 5 (1 + p) a (omega arith))
        | no k ↦ rw (le-ltb p 4 (omega arith))
      ]

  process_same : (at k n p : ℕ) → k < 3 → Apart at (3 * n) → of_process g at k n p ≡ of_process f at k n p
  process_same at k n p small a = elim (dec_lt p n) [
    | yes j ↦ ap (λ (b : ℕ). cond (ltb p n) b 0) (field_same at (3 * n) (k + 3 * p) a (omega arith))
    | no j ↦ rw (le-ltb p n (omega arith))
  ]

  processes_same : (at k n : ℕ) → k < 3 → Apart at (3 * n) → of_processes g at k n ≡ of_processes f at k n
  processes_same at k n small a =
      rw (process_same at k n 0 small a, process_same at k n 1 small a, process_same at k n 2 small a, process_same at k n 3 small a)

  states_same : (at n : ℕ) → Apart at (3 * n) → states_from f at n ≡ Ok tt → states_from g at n ≡ Ok tt
  states_same at n a q =
      states_all g n at (λ p k. ap (λ (x : ℕ). unless_end g (at + 3 * p) (checked x (at + 3 * p))) (states_number_lem (at + 3 * p) (λ j l m. a j (omega arith) (omega arith)))
      ∙ unless_same (at + 3 * p) _ ∙ states_there p k)
    where
      states_there : (p : ℕ) → p < n → unless_end f (at + 3 * p) (checked (states_number f (at + 3 * p)) (at + 3 * p)) ≡ Ok tt
      states_there p k =
          let e = states_each f at n q p k in
          unless_not f (at + 3 * p) _ (omega (arith, cut_fits f (at + 3 * p) 2 (states_fine f (at + 3 * p) e).whole)) ∙ e

  -- ---- the rows

  module _ (s : Shape) (states : List ℕ) (at n : ℕ) (place : c ≡ at + 8 * n + 3) where
    apart_eight : (i : ℕ) → (i ≡ n → ⊥) → Apart (at + 8 * i) 8
    apart_eight i d j l h e = omega arith

    field_other : (i : ℕ) → (i ≡ 3 → ⊥) → byte g (at + 8 * n + i) ≡ byte f (at + 8 * n + i)
    field_other i d = same (at + 8 * n + i) (λ e. d (omega arith))

    operation_nop : byte g (at + 8 * n + 3) ≡ 0
    operation_nop = ap (byte g) (sym place) ∙ nop

    transition_nop : transition_at g (at + 8 * n) ≡ as_nop true (transition_at f (at + 8 * n))
    unfolding operation_of
    transition_nop = rw (field_other 1 (λ e. omega arith), field_other 2 (λ e. omega arith), operation_nop, field_other 7 (λ e. omega arith))

    -- the record that is changed is fine in both
    module _ (fence : T (is_fence (transition_at f (at + 8 * n)).operation)) (named : transition_names Plain s states f (at + 8 * n) ≡ true) where
      names_still : transition_names Plain s states g (at + 8 * n) ≡ true
      unfolding transition_names
      names_still =
          let N = parts_named Plain s states f (at + 8 * n) named in
          let z = names_none s (byte f (at + 8 * n + 4)) (byte f (at + 8 * n + 5)) (byte f (at + 8 * n + 6)) (byte f (at + 8 * n + 3)) fence N.operation in
          rw (field_other 1 (λ e. omega arith), field_other 2 (λ e. omega arith), operation_nop, field_other 4 (λ e. omega arith), field_other 5 (λ e. omega arith), field_other 6 (λ e. omega arith), field_other 7 (λ e. omega arith), lt-ltb _ _ N.process, lt-ltb _ _ N.from, lt-ltb _ _ N.to, z)

      number_still : (i : ℕ) → transition_number Plain s states g (at + 8 * n) i ≡ transition_number Plain s states f (at + 8 * n) i
      unfolding transition_number
      number_still i = rw (kind_same (at + 8 * n) 3 (λ e. omega arith), cut_same (at + 8 * n) 7, names_still, named)

      number_each : (i k : ℕ) → transition_number Plain s states g (at + 8 * i) k ≡ transition_number Plain s states f (at + 8 * i) k
      number_each i k = elim (ℕ_discrete i n) [
        | yes e ↦ rw e (number_still k)
        | no d ↦ transition_number_lem s states (at + 8 * i) k (apart_eight i d)
      ]

      transitions_same : transitions_from Plain s states g at ≡ transitions_from Plain s states f at
      unfolding transitions_from
      transitions_same =
          row_same (λ i k. not (is_kind g i 3)) (λ i k. not (is_kind f i 3)) (λ i k. checked (transition_number Plain s states g i k) i)
          (λ i k. checked (transition_number Plain s states f i k) i) (λ i. 8) 256 at 0
          (λ i. rw (place_eight at i) (ap not (kind_same (at + 8 * i) 3 (λ e. omega arith))))
          (λ i. rw (place_eight at i) (ap (λ (x : ℕ). checked x (at + 8 * i)) (number_each i (0 + i))))

  -- the 04s stand behind the place
  ends_same : (k n : ℕ) → at_end true g k n ≡ at_end true f k n
  unfolding at_end
  ends_same k n = rw size

  targets_same : (s : Shape) (states : List ℕ) (at : ℕ) → c < at → targets_from Plain true s states g at ≡ targets_from Plain true s states f at
  unfolding targets_from
  targets_same s states at behind =
      row_same (at_end true g) (at_end true f) (λ i k. unless_end g i (checked (target_number Plain s states g i k) i))
      (λ i k. unless_end f i (checked (target_number Plain s states f i k) i)) (λ i. 5) 4096 at 0 (λ i. ends_same _ _)
      (λ i. rw (place_five at i) (ap (λ (x : ℕ). unless_end g (at + 5 * i) (checked x (at + 5 * i)))
      (target_number_lem s states (at + 5 * i) (0 + i) (λ j l h e. omega arith)) ∙ unless_same (at + 5 * i) _))

  -- ---- the whole part

  module _ (F : ProgramFine Plain true f 0) (n : ℕ) (exists : n < F.transitions) (place : c ≡ 0 + 7 + 3 * (shape_at f 0).processes + 8 * n + 3)
      (fence : T (is_fence (transition_at f (0 + 7 + 3 * (shape_at f 0).processes + 8 * n)).operation)) where
    abbrev s : Shape
    s = shape_at f 0

    abbrev first : ℕ
    first = 0 + 7 + 3 * s.processes

    abbrev states : List ℕ
    states = of_processes f (0 + 7) 1 s.processes

    named : transition_names Plain s states f (first + 8 * n) ≡ true
    named = transition_named Plain s states f first F.transitions n F.rows exists

    apart_states : Apart (0 + 7) (3 * s.processes)
    apart_states j l h e = omega arith

    rows_same : (initial : List ℕ) → rows_from Plain true g first s states initial ≡ rows_from Plain true f first s states initial
    unfolding rows_from
    rows_same initial =
        rw (transitions_same s states first n place fence named, F.rows, targets_same s states (first + 8 * F.transitions) (omega arith))

    rest_same : rest_from Plain true g (0 + 7) s ≡ rest_from Plain true f (0 + 7) s
    unfolding rest_from
    rest_same =
        rw (states_same (0 + 7) s.processes apart_states F.states, F.states)
        (ap₂ (rows_from Plain true g first s) (processes_same (0 + 7) 1 s.processes (omega arith) apart_states) (processes_same (0 + 7) 2 s.processes (omega arith) apart_states)
        ∙ rows_same (of_processes f (0 + 7) 2 s.processes))

    pub part_same : program_from true g 0 ≡ program_from true f 0
    unfolding program_with
    part_same =
        let k = shape_number_lem 0 (λ j l h e. omega arith) in
        let a : unless_end g 0 (checked (shape_number Plain g 0) 0) ≡ Ok tt = ap (λ (x : ℕ). unless_end g 0 (checked x 0)) k.1 ∙ unless_same 0 _ ∙ F.shape in
        rw (a, F.shape) (ap (rest_from Plain true g (0 + 7)) k.0 ∙ rest_same)

  -- ---- what stands there

  module _ (p : Program) (n : ℕ) (exists : n < p.transitions.count) (place : c ≡ operation_place p n) where
    abbrev P : pws.Program
    P = program_of f p

    transition_each : (k : ℕ) → as_nop (only n k) (transition_at f (p.transitions.at + 8 * k)) ≡ transition_at g (p.transitions.at + 8 * k)
    transition_each k = elim (ℕ_discrete k n) [
      | yes e ↦ rw (eq-eqb k n e, e) (sym (transition_nop p.shape p.states p.transitions.at n place))
      | no d ↦ rw (ne_eqb k n d) (sym (transition_same (p.transitions.at + 8 * k) (apart_eight p.shape p.states p.transitions.at n place k d)))
    ]

    pub program_nop : program_of g p ≡ with_nops P (only n)
    program_nop =
        let count = table_length (λ i. transition_at f (p.transitions.at + 8 * i)) 0 p.transitions.count in
        let e = table_of (λ i. transition_at g (p.transitions.at + 8 * i)) 0 p.transitions.count (with_nops P (only n)).transitions pws.no_transition
        (same_length P (only n) ∙ count)
        (λ k l. let z : 0 + k ≡ k = omega arith in
        transition_at_lem P (only n) k (omega (arith, count))
        ∙ ap (as_nop (only n k)) (table_number (λ i. transition_at f (p.transitions.at + 8 * i)) p.transitions.count k pws.no_transition l)
        ∙ transition_each k ∙ rw z) in
        ap {A = List Transition} (λ ts. record { shape = P.shape; states = P.states; initial = P.initial; transitions = ts }) (sym e)

    pub targets_again : c < p.targets.at → targets_of g p ≡ targets_of f p
    targets_again behind =
        table_same (λ i. state_at g (p.targets.at + 5 * i)) (λ i. state_at f (p.targets.at + 5 * i)) p.targets.count (λ q. 0)
        (λ k l. state_same (p.targets.at + 5 * (0 + k)) (λ j m h e. omega arith))
