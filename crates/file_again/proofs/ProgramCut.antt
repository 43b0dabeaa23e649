-- The program part of a combined file, and of the program file that ends where its claim stands: the same is read.
use Rattle.std.specs.Prelude.{Result, Ok, ⊤}
use Rattle.file_records.specs.declared.program.Refusal.{Refusal}
use Prim.Native.Nat.{ℕ, zero, suc, ◌+◌, ◌*◌, ◌-◌, ◌<◌, ◌≤◌}
use mathlib.Core.Path.{◌≡◌, refl, sym, ap, ap₂, subst, ◌∙◌}
use mathlib.Core.Bool.{Bool, true, false, cond, not}
use mathlib.Core.List.{List}
use native.Mathlib.Omega.{arith}
use native.Mathlib.Decide.{dec_lt}
use lib.ListN.{length}
use lib.Dec.{eqb, ltb}
use borrow.Author.Tests.{eqb-true, ne_eqb, le-leb, lt-leb, le-ltb, not-false}
use Rattle.machine_pws.specs.declared.Transition.{Transition}
use Rattle.machine_pws.specs.Program as pws
use Rattle.file_records.specs.declared.program.Format.TheVariants.{Plain}
use Rattle.file_records.specs.declared.program.Shape.{Shape}
use Rattle.file_records.specs.declared.program.Program.{Program}
use Rattle.base.specs.Bytes.{byte, cut}
use Rattle.file_records.specs.Records.{checked, is_kind, shape_at, shape_number, states_number, transition_at, transition_number, transition_names, target_number, state_names, state_at}
use Rattle.file_records.specs.ProgramPart.{unless_end, states_from, of_process, of_processes, row_from, transitions_from, at_end, targets_from, rows_from, rest_from, program_with, program_from, table_from, program_of, targets_of, whether, program_read}
use Rattle.file_records.proofs.RecordLaws.{unless_fine, unless_not, row_ends, row_next, transition_fine, target_fine}
use Rattle.base.proofs.ByteLaws.{cut_fits}
use Rattle.file_records.proofs.ProgramLaws.{transitions_most, targets_most}
use Rattle.file_contents.proofs.ReadingLaws.{ProgramFine, program_fine}
use Rattle.file_again.specs.Again.{place_of}
use Rattle.file_again.proofs.Tables.{table_length, table_at, table_of}
use Rattle.file_again.proofs.Rows.{row_each, place_eight, place_five, states_each}
use Rattle.file_again.proofs.ProgramPart.{targets_least}

-- ---- records in a row, each of them fine

module _ (ends : ℕ → ℕ → Bool) (check : ℕ → ℕ → Result ⊤ Refusal) (size : ℕ → ℕ) where
  pub row_counts : (left m at n : ℕ) → m ≤ left → ((i : ℕ) → i < m → ends (place_of size at i) (n + i) ≡ false)
      → ((i : ℕ) → i < m → check (place_of size at i) (n + i) ≡ Ok tt) → ends (place_of size at m) (n + m) ≡ true → row_from ends check size left at n ≡ Ok (n + m)
  row_counts left zero at n l goes fine shut =
      let z : n + 0 ≡ n = omega arith in
      row_ends ends check size left at n (ap (ends at) (sym z) ∙ shut) ∙ ap Ok (sym z)
  row_counts zero (suc m) at n l goes fine shut = absurd (omega arith)
  row_counts (suc left) (suc m) at n l goes fine shut =
      let z : n + 0 ≡ n = omega arith in
      let on : (i : ℕ) → suc n + i ≡ n + suc i = λ i. omega arith in
      let next : ℕ = at + size at in
      row_next ends check size left at n (ap (ends at) (sym z) ∙ goes 0 (omega arith)) (ap (check at) (sym z) ∙ fine 0 (omega arith))
      ∙ row_counts left m next (suc n) (omega arith) (λ i k. ap (ends (place_of size next i)) (on i) ∙ goes (suc i) (omega arith))
      (λ i k. ap (check (place_of size next i)) (on i) ∙ fine (suc i) (omega arith)) (ap (ends (place_of size next m)) (on m) ∙ shut)
      ∙ ap Ok (on m)

pub states_all : (f : List ℕ) (n at : ℕ) → ((p : ℕ) → p < n → unless_end f (at + 3 * p) (checked (states_number f (at + 3 * p)) (at + 3 * p)) ≡ Ok tt) → states_from f at n ≡ Ok tt
unfolding states_from
states_all f zero at fine = refl
states_all f (suc n) at fine =
    let z : at + 3 * 0 ≡ at = omega arith in
    let e : unless_end f at (checked (states_number f at) at) ≡ Ok tt = ap (λ (k : ℕ). unless_end f k (checked (states_number f k) k)) (sym z) ∙ fine 0 (omega arith) in
    let on : (p : ℕ) → at + 3 + 3 * p ≡ at + 3 * suc p = λ p. omega arith in
    rw e (states_all f n (at + 3) (λ p l. ap (λ (k : ℕ). unless_end f k (checked (states_number f k) k)) (on p) ∙ fine (suc p) (omega arith)))

pub table_same {ℓ} : {A : Type ℓ} (g h : ℕ → A) (n : ℕ) (d : A) → ((k : ℕ) → k < n → g (0 + k) ≡ h (0 + k)) → table_from g 0 n ≡ table_from h 0 n
table_same g h n d e = table_of h 0 n (table_from g 0 n) d (table_length g 0 n) (λ k l. table_at g 0 n k d l ∙ e k l)

-- ---- what is fine in f

-- a program part that was read
abbrev fine_with : Shape → List ℕ → List ℕ → ℕ → ℕ → ℕ → Program
fine_with s states initial at n m =
    record {
      shape = s;
      states = states;
      initial = initial;
      transitions = record { at = at; count = n };
      targets = record { at = at + 8 * n; count = m };
      claim = at + 8 * n + 5 * m;
    }

four_three : (f : List ℕ) (at : ℕ) → is_kind f at 4 ≡ true → is_kind f at 3 ≡ false
unfolding is_kind
four_three f at e = let k = eqb-true (byte f at) 4 e in ne_eqb (byte f at) 3 (λ d. omega arith)

module _ (s : Shape) (states : List ℕ) (f : List ℕ) (at m : ℕ) (q : targets_from Plain false s states f at ≡ Ok m) where
  target_checked : (i : ℕ) → i < m → checked (target_number Plain s states f (at + 5 * i) (0 + i)) (at + 5 * i) ≡ Ok tt
  unfolding targets_from
  target_checked i l =
      let e = row_each (at_end false f) (λ k n. unless_end f k (checked (target_number Plain s states f k n) k)) (λ k. 5) 4096 at 0 m q i (omega arith) in
      (unless_fine f (at + 5 * i) _ (rw (place_five at i) at e)).1

  -- the file goes on to the end of its last 04
  targets_inside : at + 5 * m ≤ length f
  targets_inside =
      let some = targets_least Plain s states f at false m q in
      let g = target_fine f (at + 5 * (m - 1)) Plain s states (0 + (m - 1)) (target_checked (m - 1) (omega arith)) in
      omega (arith, cut_fits f (at + 5 * (m - 1)) 4 g.whole)

-- the file goes on to its claim
pub claim_inside : (f : List ℕ) → whether (program_from false f 0) ≡ Ok tt → (program_read (program_from false f 0)).claim ≤ length f
claim_inside f q =
    let F = program_fine Plain false f 0 q in
    rw F.same (targets_inside (shape_at f 0) (of_processes f 7 1 (shape_at f 0).processes) f (7 + 3 * (shape_at f 0).processes + 8 * F.transitions) F.targets F.aims)

-- ---- g is the program file of f

pub record CutProgram (f g : List ℕ) : Type 0 where
  pub fine : whether (program_from true g 0) ≡ Ok tt
  pub same : program_read (program_from true g 0) ≡ program_read (program_from false f 0)
  pub program : program_of g (program_read (program_from false f 0)) ≡ program_of f (program_read (program_from false f 0))
  pub targets : targets_of g (program_read (program_from false f 0)) ≡ targets_of f (program_read (program_from false f 0))

-- ---- a list of c bytes that f begins with

module _ (f g : List ℕ) (c : ℕ) (same : (k : ℕ) → k < c → byte g k ≡ byte f k) (size : length g ≡ c) (fits : c ≤ length f) where
  kind_same : (at x : ℕ) → at < c → is_kind g at x ≡ is_kind f at x
  unfolding is_kind
  kind_same at x l = ap (λ (b : ℕ). eqb b x) (same at l)

  cut_same : (at body : ℕ) → at + body < c → cut g at body ≡ cut f at body
  unfolding cut
  cut_same at body l =
      let j : body < length g - at = omega arith in
      let k : body < length f - at = omega arith in
      lt-leb (length g - at) body j ∙ sym (lt-leb (length f - at) body k)

  shape_number_lem : (at : ℕ) → at + 6 < c → (shape_at g at ≡ shape_at f at) × (shape_number Plain g at ≡ shape_number Plain f at)
  unfolding shape_number
  shape_number_lem at l =
      let b₁ = same (at + 1) (omega arith) in
      let b₂ = same (at + 2) (omega arith) in
      let b₃ = same (at + 3) (omega arith) in
      let b₄ = same (at + 4) (omega arith) in
      let b₅ = same (at + 5) (omega arith) in
      let b₆ = same (at + 6) (omega arith) in
      (rw (b₁, b₂, b₃, b₄, b₅, b₆), rw (kind_same at 1 (omega arith), cut_same at 6 l, b₁, b₂, b₃, b₄, b₅, b₆))

  states_number_lem : (at : ℕ) → at + 2 < c → states_number g at ≡ states_number f at
  unfolding states_number
  states_number_lem at l = rw (kind_same at 2 (omega arith), cut_same at 2 l, same (at + 1) (omega arith), same (at + 2) (omega arith))

  transition_number_lem : (s : Shape) (states : List ℕ) (at n : ℕ) → at + 7 < c → transition_number Plain s states g at n ≡ transition_number Plain s states f at n
  unfolding transition_number transition_names
  transition_number_lem s states at n l =
      rw (kind_same at 3 (omega arith), cut_same at 7 l, same (at + 1) (omega arith), same (at + 2) (omega arith), same (at + 3) (omega arith), same (at + 4) (omega arith), same (at + 5) (omega arith), same (at + 6) (omega arith), same (at + 7) (omega arith))

  target_number_lem : (s : Shape) (states : List ℕ) (at n : ℕ) → at + 4 < c → target_number Plain s states g at n ≡ target_number Plain s states f at n
  unfolding target_number state_names
  target_number_lem s states at n l =
      rw (kind_same at 4 (omega arith), cut_same at 4 l, same (at + 1) (omega arith), same (at + 2) (omega arith), same (at + 3) (omega arith), same (at + 4) (omega arith))

  transition_same : (at : ℕ) → at + 7 < c → transition_at g at ≡ transition_at f at
  transition_same at l =
      rw (same (at + 1) (omega arith), same (at + 2) (omega arith), same (at + 3) (omega arith), same (at + 4) (omega arith), same (at + 5) (omega arith), same (at + 6) (omega arith), same (at + 7) (omega arith))

  state_same : (at : ℕ) → at + 4 < c → state_at g at ≡ state_at f at
  state_same at l = λ i p. each p i
    where
      each : (p : ℕ) → state_at g at p ≡ state_at f at p
      each p = elim (dec_lt p 4) [
        | yes k ↦ ap (λ (b : ℕ). cond (ltb p 4) b 0) (same (at + (1 + p)) (omega arith))
        | no k ↦ rw (le-ltb p 4 (omega arith))
      ]

  process_same : (at k n p : ℕ) → k < 3 → at + 3 * n ≤ c → of_process g at k n p ≡ of_process f at k n p
  process_same at k n p small l = elim (dec_lt p n) [
    | yes j ↦ ap (λ (b : ℕ). cond (ltb p n) b 0) (same (at + (k + 3 * p)) (omega arith))
    | no j ↦ rw (le-ltb p n (omega arith))
  ]

  processes_same : (at k n : ℕ) → k < 3 → at + 3 * n ≤ c → of_processes g at k n ≡ of_processes f at k n
  processes_same at k n small l =
      rw (process_same at k n 0 small l, process_same at k n 1 small l, process_same at k n 2 small l, process_same at k n 3 small l)

  -- ---- the rows

  states_same : (at n : ℕ) → at + 3 * n ≤ c → states_from f at n ≡ Ok tt → states_from g at n ≡ Ok tt
  states_same at n l q =
      states_all g n at (λ p k. unless_not g (at + 3 * p) _ (omega arith)
      ∙ ap (λ (x : ℕ). checked x (at + 3 * p)) (states_number_lem (at + 3 * p) (omega arith)) ∙ states_each f at n q p k)

  module _ (s : Shape) (states : List ℕ) (at m : ℕ) (end : at + 5 * m ≡ c) (q : targets_from Plain false s states f at ≡ Ok m) where
    targets_same : targets_from Plain true s states g at ≡ Ok m
    unfolding targets_from at_end
    targets_same =
        let z : 0 + m ≡ m = omega arith in
        row_counts (at_end true g) (λ k n. unless_end g k (checked (target_number Plain s states g k n) k)) (λ k. 5) 4096 m at 0 (targets_most Plain s states f at false m q)
        (λ i l. rw (place_five at i, lt-leb (length g) (at + 5 * i) (omega arith)))
        (λ i l. rw (place_five at i) (unless_not g (at + 5 * i) _ (omega arith)
        ∙ ap (λ (x : ℕ). checked x (at + 5 * i)) (target_number_lem s states (at + 5 * i) (0 + i) (omega arith)) ∙ target_checked s states f at m q i l))
        (rw (place_five at m, le-leb (length g) (at + 5 * m) (omega arith), le-leb 1 (0 + m) (omega (arith, targets_least Plain s states f at false m q))))
        ∙ ap Ok z

  module _ (s : Shape) (states : List ℕ) (at n m : ℕ) (end : at + 8 * n + 5 * m ≡ c) (r : transitions_from Plain s states f at ≡ Ok n)
      (q : targets_from Plain false s states f (at + 8 * n) ≡ Ok m) where
    transition_checked : (i : ℕ) → i < n → checked (transition_number Plain s states f (at + 8 * i) (0 + i)) (at + 8 * i) ≡ Ok tt
    unfolding transitions_from
    transition_checked i l =
        let e = row_each (λ k n. not (is_kind f k 3)) (λ k n. checked (transition_number Plain s states f k n) k) (λ k. 8) 256 at 0 n r i (omega arith) in
        rw (place_eight at i) at e

    -- the first 04 ends the row of 03s
    row_shut : not (is_kind g (at + 8 * n) 3) ≡ true
    row_shut =
        let some = targets_least Plain s states f (at + 8 * n) false m q in
        let z : at + 8 * n + 5 * 0 ≡ at + 8 * n = omega arith in
        let d = rw z at (target_checked s states f (at + 8 * n) m q 0 some) in
        let k = (target_fine f (at + 8 * n) Plain s states (0 + 0) d).allowed in
        ap not (kind_same (at + 8 * n) 3 (omega arith) ∙ four_three f (at + 8 * n) (not-false _ k))

    transitions_same : transitions_from Plain s states g at ≡ Ok n
    unfolding transitions_from
    transitions_same =
        let some = targets_least Plain s states f (at + 8 * n) false m q in
        let z : 0 + n ≡ n = omega arith in
        row_counts (λ k n. not (is_kind g k 3)) (λ k n. checked (transition_number Plain s states g k n) k) (λ k. 8) 256 n at 0 (transitions_most Plain s states f at n r)
        (λ i l. rw (place_eight at i) (ap not (kind_same (at + 8 * i) 3 (omega arith)) ∙ (transition_fine f (at + 8 * i) Plain s states (0 + i) (transition_checked i l)).allowed))
        (λ i l. rw (place_eight at i)
        (ap (λ (x : ℕ). checked x (at + 8 * i)) (transition_number_lem s states (at + 8 * i) (0 + i) (omega arith)) ∙ transition_checked i l))
        (rw (place_eight at n) row_shut)
        ∙ ap Ok z

    rows_same : (initial : List ℕ) → rows_from Plain true g at s states initial ≡ Ok (fine_with s states initial at n m)
    unfolding rows_from
    rows_same initial = rw (transitions_same, targets_same s states (at + 8 * n) m end q)

  -- ---- the whole part

  rest_same : (s : Shape) (at n m : ℕ) → at + 3 * s.processes + 8 * n + 5 * m ≡ c → states_from f at s.processes ≡ Ok tt
      → transitions_from Plain s (of_processes f at 1 s.processes) f (at + 3 * s.processes) ≡ Ok n
      → targets_from Plain false s (of_processes f at 1 s.processes) f (at + 3 * s.processes + 8 * n) ≡ Ok m
      → rest_from Plain true g at s ≡ Ok (fine_with s (of_processes f at 1 s.processes) (of_processes f at 2 s.processes) (at + 3 * s.processes) n m)
  unfolding rest_from
  rest_same s at n m end d r q =
      let l : at + 3 * s.processes ≤ c = omega arith in
      rw (states_same at s.processes l d)
      (ap₂ (rows_from Plain true g (at + 3 * s.processes) s) (processes_same at 1 s.processes (omega arith) l) (processes_same at 2 s.processes (omega arith) l)
      ∙ rows_same s (of_processes f at 1 s.processes) (at + 3 * s.processes) n m end r q (of_processes f at 2 s.processes))

  module _ (at : ℕ) (F : ProgramFine Plain false f at) (end : at + 7 + 3 * (shape_at f at).processes + 8 * F.transitions + 5 * F.targets ≡ c) where
    abbrev s : Shape
    s = shape_at f at

    part_same : program_from true g at
        ≡ Ok (fine_with s (of_processes f (at + 7) 1 s.processes) (of_processes f (at + 7) 2 s.processes) (at + 7 + 3 * s.processes) F.transitions F.targets)
    unfolding program_with
    part_same =
        let k = shape_number_lem at (omega arith) in
        let a : unless_end g at (checked (shape_number Plain g at) at) ≡ Ok tt =
        unless_not g at _ (omega arith) ∙ ap (λ (x : ℕ). checked x at) k.1 ∙ (unless_fine f at _ F.shape).1 in
        rw a (ap (rest_from Plain true g (at + 7)) k.0 ∙ rest_same s (at + 7) F.transitions F.targets end F.states F.rows F.aims)

    abbrev p : Program
    p = fine_with s (of_processes f (at + 7) 1 s.processes) (of_processes f (at + 7) 2 s.processes) (at + 7 + 3 * s.processes) F.transitions F.targets

    transitions_again : program_of g p ≡ program_of f p
    transitions_again =
        let some = targets_least Plain s p.states f p.targets.at false F.targets F.aims in
        let e = table_same (λ i. transition_at g (p.transitions.at + 8 * i)) (λ i. transition_at f (p.transitions.at + 8 * i)) F.transitions pws.no_transition
        (λ k l. transition_same (p.transitions.at + 8 * (0 + k)) (omega arith)) in
        ap {A = List Transition} (λ ts. record { shape = (program_of f p).shape; states = (program_of f p).states; initial = (program_of f p).initial; transitions = ts }) e

    targets_again : targets_of g p ≡ targets_of f p
    targets_again =
        table_same (λ i. state_at g (p.targets.at + 5 * i)) (λ i. state_at f (p.targets.at + 5 * i)) F.targets (λ q. 0)
        (λ k l. state_same (p.targets.at + 5 * (0 + k)) (omega arith))

  pub program_cut : whether (program_from false f 0) ≡ Ok tt → (program_read (program_from false f 0)).claim ≡ c → CutProgram f g
  program_cut q place =
      let F = program_fine Plain false f 0 q in
      let end : 0 + 7 + 3 * (shape_at f 0).processes + 8 * F.transitions + 5 * F.targets ≡ c = sym (ap (λ (p : Program). p.claim) F.same) ∙ place in
      record {
        fine = ap (λ (r : Result Program Refusal). whether r) (part_same 0 F end);
        same = ap (λ (r : Result Program Refusal). program_read r) (part_same 0 F end) ∙ sym F.same;
        program = subst (λ (p : Program). program_of g p ≡ program_of f p) (sym F.same) (transitions_again 0 F end);
        targets = subst (λ (p : Program). targets_of g p ≡ targets_of f p) (sym F.same) (targets_again 0 F end);
      }
