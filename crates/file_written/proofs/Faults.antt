-- A refusal in the program part, in the table's words.
use Rattle.std.specs.Prelude.{Result, Ok, Err, ⊤}
use Prim.Native.Nat.{ℕ, zero, suc, ◌+◌, ◌*◌, ◌-◌, ◌<◌, ◌≤◌}
use mathlib.Core.Path.{◌≡◌, refl, sym, ap, subst, ◌∙◌}
use mathlib.Core.Logic.{◌⊎◌, inl, inr}
use mathlib.Core.Bool.{Bool, true, false, cond, ◌&&◌, not}
use mathlib.Core.List.{List, [], ◌∷◌, ◌++◌}
use native.Mathlib.Omega.{arith}
use native.Mathlib.Decide.{dec_lt, ℕ_discrete}
use lib.ListN.{length, get_or, length-append, get_or-eq_default}
use lib.Dec.{eqb, leb, ltb}
use borrow.Author.Tests.{leb-true, leb-false, le-leb, lt-leb, eqb-true, eqb-false, eq-eqb, ne_eqb, lt-ltb, le-ltb, ltb-true, not-false, not-true}
use Rattle.machine_pws.specs.declared.Transition.{Transition}
use Rattle.machine_pws.specs.Program as pws
use Rattle.machine_pws.specs.Configurations.{StatesOf}
use Rattle.file_records.specs.declared.program.Format.TheVariants.{Plain}
use Rattle.file_records.specs.declared.program.Shape.{Shape}
use Rattle.file_records.specs.declared.program.Refusal.{Refusal}
use Rattle.base.specs.Bytes.{byte, choose, cut}
use Rattle.file_records.specs.Records.{first_number, checked, is_kind, in_range, shape_at, shape_number, value_count, count_in_range, counts_in_range, count_if_absent, counts_if_absent, states_number, transition_at, transition_number, transition_names, state_at, state_names, target_number}
use Rattle.file_records.specs.ProgramPart.{unless_end, and_then, row_from, states_from, of_process, of_processes, transitions_from, at_end, targets_from, rows_from, rest_from, program_with, program_from, shape_of, table_from}
use Rattle.file_records.proofs.RecordLaws.{fine_refused, refused_same, unless_fine}
use Rattle.file_again.specs.Again.{place_of}
use Rattle.file_again.proofs.Names.{no_true}
use Rattle.file_written.specs.Standing.{Stands}
use Rattle.file_written.specs.Written.{joined, numbers, shape_bytes, states_bytes, transition_bytes, target_bytes, program_bytes}
use Rattle.file_written.specs.Faults.{Fault, not_allowed, ends_inside, one_too_many, out_of_range, bad_name, ShapeNumbers, AbsentCounts, ShapeFault, StatesFault, TransitionFault, TargetFault}
use Rattle.file_written.proofs.Fine.{both, not_so, range_in}

-- ---- one record

module _ (f : List ℕ) (at body : ℕ) (Kind Full Range Names : Type 0) (r : Refusal) where
  -- what the tests say of the record
  pub record Told (a c d e : Bool) : Type 0 where
    pub kind : a ≡ false → Kind
    pub unkind : Kind → a ≡ false
    pub full : c ≡ true → Full
    pub room : c ≡ false → Full → ⊥
    pub range : d ≡ false → Range
    pub unrange : Range → d ≡ false
    pub names : Names → e ≡ false

  abbrev Said : Refusal → Type 0
  Said q = (q.place ≡ at) × Fault f at Kind body Full Range Names q.number

  said : (n : ℕ) → Fault f at Kind body Full Range Names n → ◌≡◌ {A = Result ⊤ Refusal} (Err (record { number = n; place = at })) (Err r) → Said r
  said n x q = subst Said (refused_same q) (refl, x)

  fault : (a b c d e : Bool) → cut f at body ≡ b → Told a c d e → checked (first_number a b c d e) at ≡ Err r → Said r
  unfolding checked first_number cut
  fault true b c d e k T q = said 2 (not_allowed (λ x. no_true (sym (T.unkind x)))) q
  fault false true c d e k T q = said 1 (ends_inside (T.kind refl) (omega (arith, leb-true (length f - at) body k))) q
  fault false false true d e k T q = said 5 (one_too_many (T.kind refl) (omega (arith, leb-false (length f - at) body k)) (T.full refl)) q
  fault false false false true e k T q = said 3 (out_of_range (T.kind refl) (omega (arith, leb-false (length f - at) body k)) (T.room refl) (λ x. no_true (sym (T.unrange x)))) q
  fault false false false false true k T q =
      said 4 (bad_name (T.kind refl) (omega (arith, leb-false (length f - at) body k)) (T.room refl) (T.range refl) (λ x. no_true (sym (T.names x)))) q
  fault false false false false false k T q = absurd (fine_refused q)

  pub fault_of : {a c d e : Bool} → Told a c d e → checked (first_number a (cut f at body) c d e) at ≡ Err r → Said r
  fault_of {a} {c} {d} {e} T q = fault a (cut f at body) c d e refl T q

pub kind_told : (f : List ℕ) (at k : ℕ) → not (is_kind f at k) ≡ false → byte f at ≡ k
unfolding is_kind
kind_told f at k e = eqb-true (byte f at) k (not-false _ e)

pub kind_tells : (f : List ℕ) (at k : ℕ) → byte f at ≡ k → not (is_kind f at k) ≡ false
unfolding is_kind
kind_tells f at k e = not_so (eq-eqb (byte f at) k e)

pub false_true : ◌≡◌ {A = Bool} false true → ⊥
false_true e = no_true e

-- ---- 6, or what is said of the record there

pub unless_refused : (f : List ℕ) (at : ℕ) (x : Result ⊤ Refusal) (r : Refusal) → unless_end f at x ≡ Err r
    → ((length f ≤ at) × (r.number ≡ 6) × (r.place ≡ length f)) ⊎ ((at < length f) × (x ≡ Err r))
unfolding unless_end
unless_refused f at x r q = go (leb (length f) at) refl q
  where
    go : (b : Bool) → leb (length f) at ≡ b → cond b (Err (record { number = 6; place = length f })) x ≡ Err r
        → ((length f ≤ at) × (r.number ≡ 6) × (r.place ≡ length f)) ⊎ ((at < length f) × (x ≡ Err r))
    go true d q = let e = refused_same q in inl (leb-true (length f) at d, ap (λ (q : Refusal). q.number) (sym e), ap (λ (q : Refusal). q.place) (sym e))
    go false d q = inr (leb-false (length f) at d, q)

-- ---- where a row stops

pub stopped_same : {r q : Refusal} → ◌≡◌ {A = Result ℕ Refusal} (Err r) (Err q) → r ≡ q
stopped_same e = cc

pub records_stopped : {n : ℕ} {r : Refusal} → ◌≡◌ {A = Result ℕ Refusal} (Ok n) (Err r) → ⊥
records_stopped e = let z : ◌≡◌ {A = ℕ} 0 1 = cc in omega arith

module _ (ends : ℕ → ℕ → Bool) (check : ℕ → ℕ → Result ⊤ Refusal) (size : ℕ → ℕ) (r : Refusal) where
  pub record Stop (left at n : ℕ) : Type 0 where
    pub count : ℕ
    pub most : count ≤ left
    pub before : (j : ℕ) → j < count → check (place_of size at j) (n + j) ≡ Ok tt
    pub goes : ends (place_of size at count) (n + count) ≡ false
    pub stops : check (place_of size at count) (n + count) ≡ Err r

  here : (left at n : ℕ) → ends at n ≡ false → check at n ≡ Err r → Stop left at n
  here left at n e c =
      let z : n + 0 ≡ n = omega arith in
      record { count = 0; most = omega arith; before = λ j l. absurd (omega arith); goes = ap (ends at) z ∙ e; stops = ap (check at) z ∙ c }

  later : (left at n : ℕ) → check at n ≡ Ok tt → Stop left (at + size at) (suc n) → Stop (suc left) at n
  later left at n c S =
      let z : suc n + S.count ≡ n + suc S.count = omega arith in
      record {
        count = suc S.count;
        most = omega (arith, S.most);
        before = before;
        goes = ap (ends (place_of size (at + size at) S.count)) (sym z) ∙ S.goes;
        stops = ap (check (place_of size (at + size at) S.count)) (sym z) ∙ S.stops;
      }
    where
      before : (j : ℕ) → j < suc S.count → check (place_of size at j) (n + j) ≡ Ok tt
      before zero l = let z : n + 0 ≡ n = omega arith in ap (check at) z ∙ c
      before (suc j) l = let z : n + suc j ≡ suc n + j = omega arith in ap (check (place_of size (at + size at) j)) z ∙ S.before j (omega arith)

  by_last : (at n : ℕ) (b : Bool) → ends at n ≡ b → (x : Result ⊤ Refusal) → check at n ≡ x → choose b (λ _. Ok n) (λ _. and_then x (λ _. Ok n)) ≡ Err r → Stop 0 at n
  by_last at n true e x c q = absurd (records_stopped q)
  by_last at n false e (Ok _) c q = absurd (records_stopped q)
  by_last at n false e (Err p) c q = here 0 at n e (c ∙ ap Err (stopped_same q))

  by_more : (left at n : ℕ) → (row_from ends check size left (at + size at) (suc n) ≡ Err r → Stop left (at + size at) (suc n)) → (b : Bool) → ends at n ≡ b → (x : Result ⊤ Refusal) → check at n ≡ x
      → choose b (λ _. Ok n) (λ _. and_then x (λ _. row_from ends check size left (at + size at) (suc n))) ≡ Err r → Stop (suc left) at n
  by_more left at n ih true e x c q = absurd (records_stopped q)
  by_more left at n ih false e (Ok _) c q = later left at n c (ih q)
  by_more left at n ih false e (Err p) c q = here (suc left) at n e (c ∙ ap Err (stopped_same q))

  pub row_stopped : (left at n : ℕ) → row_from ends check size left at n ≡ Err r → Stop left at n
  unfolding row_from
  row_stopped zero at n q = by_last at n (ends at n) refl (check at n) refl q
  row_stopped (suc left) at n q = by_more left at n (row_stopped left (at + size at) (suc n)) (ends at n) refl (check at n) refl q

-- the 02s
pub record StatesStop (f : List ℕ) (at n : ℕ) (r : Refusal) : Type 0 where
  pub count : ℕ
  pub less : count < n
  pub before : states_from f at count ≡ Ok tt
  pub stops : unless_end f (at + 3 * count) (checked (states_number f (at + 3 * count)) (at + 3 * count)) ≡ Err r

pub states_stopped : (f : List ℕ) (at n : ℕ) (r : Refusal) → states_from f at n ≡ Err r → StatesStop f at n r
unfolding states_from
states_stopped f at zero r q = absurd (fine_refused q)
states_stopped f at (suc n) r q = go (states_stopped f (at + 3) n r) (unless_end f at (checked (states_number f at) at)) refl q
  where
    go : (states_from f (at + 3) n ≡ Err r → StatesStop f (at + 3) n r) → (x : Result ⊤ Refusal) → unless_end f at (checked (states_number f at) at) ≡ x
        → and_then x (λ _. states_from f (at + 3) n) ≡ Err r → StatesStop f at (suc n) r
    go ih (Err p) d q =
        let z : at + 3 * 0 ≡ at = omega arith in
        record { count = 0; less = omega arith; before = refl; stops = rw z (d ∙ q) }
    go ih (Ok _) d q =
        let S = ih q in
        let z : at + 3 * suc S.count ≡ at + 3 + 3 * S.count = omega arith in
        record { count = suc S.count; less = omega (arith, S.less); before = rw d S.before; stops = rw z S.stops }
