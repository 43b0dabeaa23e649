-- A program part that was read is the written form of what it was read as.
use Rattle.std.specs.Prelude.{Result, Ok, Err, ⊤}
use Rattle.file_records.specs.declared.program.Refusal.{Refusal}
use Prim.Native.Nat.{ℕ, zero, suc, ◌+◌, ◌*◌, ◌-◌, ◌<◌, ◌≤◌}
use mathlib.Core.Path.{◌≡◌, refl, sym, ap, ap₂, subst, ◌∙◌}
use mathlib.Core.Bool.{Bool, true, false, cond, ◌&&◌, not}
use mathlib.Core.List.{List, [], ◌∷◌, ◌++◌}
use native.Mathlib.Omega.{arith}
use native.Mathlib.Decide.{dec_lt, ℕ_discrete}
use lib.ListN.{length, get_or, drop, length-append, length-drop, get_or-eq_default}
use lib.Seq.{drop-cons}
use lib.Dec.{eqb, leb, ltb}
use borrow.Author.Tests.{leb-true, le-leb, eqb-true, lt-ltb, le-ltb, not-false}
use Rattle.machine_pws.specs.declared.Transition.{Transition}
use Rattle.machine_pws.specs.Program as pws
use Rattle.file_records.specs.declared.program.Format.TheVariants.{Plain}
use Rattle.file_records.specs.declared.program.Shape.{Shape}
use Rattle.file_records.specs.declared.program.Program.{Program}
use Rattle.base.specs.Bytes.{byte, choose}
use Rattle.file_records.specs.Records.{checked, is_kind, shape_at, shape_number, value_count, value_exists, all_zero, names_of, operation_names, operation_of, transition_at, transition_number, state_at, target_number}
use Rattle.file_records.specs.ProgramPart.{unless_end, row_from, states_from, of_process, of_processes, transitions_from, at_end, targets_from, program_from, shape_of, table_from, program_of, targets_of, whether, program_read, and_then}
use Rattle.base.proofs.ByteLaws.{byte_past, cut_fits}
use Rattle.file_records.proofs.RecordLaws.{good, unless_fine, states_fine, transition_fine, target_fine}
use Rattle.file_records.proofs.ProgramLaws.{and_true}
use Rattle.file_contents.proofs.ReadingLaws.{ProgramFine, program_fine}
use Rattle.file_again.specs.Again.{place_of}
use Rattle.file_again.specs.Contents.{ProgramPartRead}
use Rattle.file_again.proofs.Tables.{table_length, table_number, of_four}
use Rattle.file_again.proofs.Names.{no_true, parts_named}
use Rattle.file_again.proofs.Rows.{stopped_records, row_each, place_eight, place_five, states_each}
use Rattle.file_again.proofs.ProgramPart.{ShapeRange, shape_in, of_process_lem, part_read, transition_named}
use Rattle.file_written.specs.Written.{joined, numbers, shape_bytes, states_bytes, operation_byte, variable_byte, value_byte, new_value_byte, transition_bytes, target_bytes, program_bytes}
use Rattle.file_written.specs.ProgramPart.{ProgramContents, ProgramReadAs, ProgramReadIsWritten}
use Rattle.file_written.specs.Standing.{Stands}
use Rattle.file_written.proofs.Standing.{stands_moved, stands_all, stands_rest, stands_join, stands_record, joined_length, joined_stands}
use Rattle.file_written.proofs.ProgramWritten.{program_length}

-- ---- where a row ends

records_same : {m n : ℕ} → ◌≡◌ {A = Result ℕ Refusal} (Ok m) (Ok n) → m ≡ n
records_same e = cc

module _ (ends : ℕ → ℕ → Bool) (check : ℕ → ℕ → Result ⊤ Refusal) (size : ℕ → ℕ) where
  abbrev Shut : ℕ → ℕ → ℕ → Type 0
  Shut at n m = (n ≤ m) × (ends (place_of size at (m - n)) m ≡ true)

  shut_here : (at n m : ℕ) → ends at n ≡ true → n ≡ m → Shut at n m
  shut_here at n m e q =
      let z : m - n ≡ 0 = omega arith in
      (omega arith, rw z (ap (ends at) (sym q) ∙ e))

  shut_more : (left at n m : ℕ) → (row_from ends check size left (at + size at) (suc n) ≡ Ok m → Shut (at + size at) (suc n) m) → (b : Bool) → ends at n ≡ b → (x : Result ⊤ Refusal)
      → choose b (λ _. Ok n) (λ _. and_then x (λ _. row_from ends check size left (at + size at) (suc n))) ≡ Ok m → Shut at n m
  shut_more left at n m ih true d x q = shut_here at n m d (records_same q)
  shut_more left at n m ih false d (Err r) q = absurd (stopped_records q)
  shut_more left at n m ih false d (Ok _) q =
      let h = ih q in
      let z : m - n ≡ suc (m - suc n) = omega (arith, h.0) in
      (omega (arith, h.0), rw z h.1)

  shut_last : (at n m : ℕ) → (check at n ≡ Ok tt → ⊥) → (b : Bool) → ends at n ≡ b → (x : Result ⊤ Refusal) → check at n ≡ x
      → choose b (λ _. Ok n) (λ _. and_then x (λ _. Ok n)) ≡ Ok m → Shut at n m
  shut_last at n m full true d x c q = shut_here at n m d (records_same q)
  shut_last at n m full false d (Err r) c q = absurd (stopped_records q)
  shut_last at n m full false d (Ok _) c q = absurd (full c)

  pub row_shut : (left at n m : ℕ) → ((k : ℕ) → check k (n + left) ≡ Ok tt → ⊥) → row_from ends check size left at n ≡ Ok m → Shut at n m
  unfolding row_from
  row_shut zero at n m full q = let z : n + 0 ≡ n = omega arith in shut_last at n m (λ c. full at (ap (check at) z ∙ c)) (ends at n) refl (check at n) refl q
  row_shut (suc left) at n m full q =
      let z : suc n + left ≡ n + suc left = omega arith in
      shut_more left at n m (row_shut left (at + size at) (suc n) m (λ k c. full k (ap (check k) (sym z) ∙ c))) (ends at n) refl (check at n) q

-- ---- the operation of a record that is fine

module _ (s : Shape) (v x y : ℕ) where
  -- its four bytes are those of the operation
  pub record Bytes (o : ℕ) : Type 0 where
    pub operation : operation_byte (operation_of o v x y) ≡ o
    pub variable : variable_byte (operation_of o v x y) ≡ v
    pub value : value_byte (operation_of o v x y) ≡ x
    pub new_value : new_value_byte (operation_of o v x y) ≡ y

  abbrev Back : ℕ → Type 0
  Back o = operation_names Plain s o v x y ≡ true → Bytes o

  zeros : all_zero v x y ≡ true → (v ≡ 0) × (x ≡ 0) × (y ≡ 0)
  unfolding all_zero
  zeros e =
      let a = and_true (eqb v 0) (eqb x 0 && eqb y 0) e in
      let b = and_true (eqb x 0) (eqb y 0) a.1 in
      (eqb-true v 0 a.0, eqb-true x 0 b.0, eqb-true y 0 b.1)

  back_nop : Back 0
  unfolding operation_names names_of operation_of
  back_nop e = let z = zeros e in record { operation = refl; variable = sym z.0; value = sym z.1; new_value = sym z.2 }

  back_read : Back 1
  unfolding operation_names names_of operation_of
  back_read e = record { operation = refl; variable = refl; value = refl; new_value = sym (eqb-true y 0 (and_true (value_exists s v x) (eqb y 0) e).1) }

  back_write : Back 2
  unfolding operation_names names_of operation_of
  back_write e = record { operation = refl; variable = refl; value = refl; new_value = sym (eqb-true y 0 (and_true (value_exists s v x) (eqb y 0) e).1) }

  back_mfence : Back 3
  unfolding operation_names names_of operation_of
  back_mfence e = let z = zeros e in record { operation = refl; variable = sym z.0; value = sym z.1; new_value = sym z.2 }

  back_sfence : Back 4
  unfolding operation_names names_of operation_of
  back_sfence e = let z = zeros e in record { operation = refl; variable = sym z.0; value = sym z.1; new_value = sym z.2 }

  back_arw : Back 5
  unfolding operation_names names_of operation_of
  back_arw e = record { operation = refl; variable = refl; value = refl; new_value = refl }

  back_other : (o : ℕ) → 5 < o → Back o
  unfolding operation_names
  back_other o l e = absurd (omega (arith, leb-true o 5 (and_true (leb o 5) (names_of s o v x y) e).0))

  pub operation_back : (o : ℕ) → Back o
  operation_back o = elim (dec_lt o 4) [
    | yes l ↦ of_four Back back_nop back_read back_write back_mfence o l
    | no l ↦ elim (ℕ_discrete o 4) [
      | yes e ↦ subst Back (sym e) back_sfence
      | no d ↦ elim (ℕ_discrete o 5) [ yes e ↦ subst Back (sym e) back_arw | no d' ↦ back_other o (omega arith) ]
    ]
  ]

-- ---- each record stands as it is written

module _ (f : List ℕ) (at : ℕ) where
  pub shape_stands : unless_end f at (checked (shape_number Plain f at) at) ≡ Ok tt → Stands f at (shape_bytes (shape_of (shape_at f at)))
  unfolding shape_number
  shape_stands e =
      let g = good at (unless_fine f at _ e).1 in
      stands_record f at 1 6 (not-false _ g.allowed) (omega (arith, cut_fits f at 6 g.whole))

  module _ (s : Shape) (states : List ℕ) (n : ℕ) where
    pub transition_stands : checked (transition_number Plain s states f at n) at ≡ Ok tt → Stands f at (transition_bytes (transition_at f at))
    transition_stands e =
        let g = transition_fine f at Plain s states n e in
        let S = stands_record f at 3 7 (not-false _ g.allowed) (omega (arith, cut_fits f at 7 g.whole)) in
        let o = operation_back s (byte f (at + 4)) (byte f (at + 5)) (byte f (at + 6)) (byte f (at + 3)) (parts_named Plain s states f at (not-false _ g.names)).operation in
        subst (Stands f at) (λ i. 3 ∷ byte f (at + 1) ∷ byte f (at + 2) ∷ sym o.operation i ∷ sym o.variable i ∷ sym o.value i ∷ sym o.new_value i ∷ byte f (at + 7) ∷ []) S

    pub target_stands : checked (target_number Plain s states f at n) at ≡ Ok tt → Stands f at (target_bytes (state_at f at))
    target_stands e =
        let g = target_fine f at Plain s states n e in
        stands_record f at 4 4 (not-false _ g.allowed) (omega (arith, cut_fits f at 4 g.whole))

pub states_stand : (f : List ℕ) (at n : ℕ) → n ≤ 4 → states_from f at n ≡ Ok tt → (P : pws.Program) → ((p : ℕ) → p < n → P.states p ≡ get_or (of_processes f at 1 n) p 0)
    → ((p : ℕ) → p < n → P.initial p ≡ get_or (of_processes f at 2 n) p 0) → (p : ℕ) → p < n → Stands f (at + 3 * p) (states_bytes P p)
states_stand f at n few q P a b p l =
    let g = states_fine f (at + 3 * p) (states_each f at n q p l) in
    let S = stands_record f (at + 3 * p) 2 2 (not-false _ g.allowed) (omega (arith, cut_fits f (at + 3 * p) 2 g.whole)) in
    let y : at + (1 + 3 * p) ≡ at + 3 * p + 1 = omega arith in
    let z : at + (2 + 3 * p) ≡ at + 3 * p + 2 = omega arith in
    let c : P.states p ≡ byte f (at + 3 * p + 1) = a p l ∙ of_process_lem f at 1 n p l few ∙ ap (byte f) y in
    let d : P.initial p ≡ byte f (at + 3 * p + 2) = b p l ∙ of_process_lem f at 2 n p l few ∙ ap (byte f) z in
    subst (Stands f (at + 3 * p)) (λ i. 2 ∷ sym c i ∷ sym d i ∷ []) S

-- ---- the whole part

module _ (alone : Bool) (f : List ℕ) (at : ℕ) (F : ProgramFine Plain alone f at) where
  abbrev s : Shape
  s = shape_at f at

  abbrev n : ℕ
  n = s.processes

  abbrev states : List ℕ
  states = of_processes f (at + 7) 1 n

  abbrev first : ℕ
  first = at + 7 + 3 * n

  abbrev second : ℕ
  second = first + 8 * F.transitions

  abbrev p : Program
  p =
      record {
        shape = s;
        states = states;
        initial = of_processes f (at + 7) 2 n;
        transitions = record { at = first; count = F.transitions };
        targets = record { at = second; count = F.targets };
        claim = second + 5 * F.targets;
      }

  abbrev P : pws.Program
  P = program_of f p

  abbrev ts : List (ℕ → ℕ)
  ts = targets_of f p

  range : ShapeRange Plain s
  range = shape_in Plain f at F.shape

  S₁ : Stands f at (shape_bytes P.shape)
  S₁ = shape_stands f at F.shape

  abbrev B : List ℕ
  B = joined (states_bytes P) (numbers n)

  S₂ : Stands f (at + 7) B
  S₂ =
      let m = table_length (λ i. i) 0 n in
      joined_stands (states_bytes P) 3 (λ p. refl) (at + 7) (numbers n) 0 S₁.fits (λ k l.
      let i : k < n = omega arith in
      subst (λ (q : ℕ). Stands f (at + 7 + 3 * k) (states_bytes P q)) (sym (table_number (λ i. i) n k 0 i))
      (states_stand f (at + 7) n range.processes.1 F.states P (λ p l. refl) (λ p l. refl) k i))

  B_length : length B ≡ 3 * n
  B_length = joined_length (states_bytes P) 3 (λ p. refl) (numbers n) ∙ ap (λ (k : ℕ). 3 * k) (table_length (λ i. i) 0 n)

  abbrev C : List ℕ
  C = joined transition_bytes P.transitions

  count₁ : length P.transitions ≡ F.transitions
  count₁ = table_length (λ i. transition_at f (first + 8 * i)) 0 F.transitions

  taken : (i : ℕ) → i < F.transitions → checked (transition_number Plain s states f (first + 8 * i) (0 + i)) (first + 8 * i) ≡ Ok tt
  unfolding transitions_from
  taken i l =
      let e = row_each (λ k n. not (is_kind f k 3)) (λ k n. checked (transition_number Plain s states f k n) k) (λ k. 8) 256 first 0 F.transitions F.rows i (omega arith) in
      rw (place_eight first i) at e

  S₃ : Stands f first C
  S₃ =
      joined_stands transition_bytes 8 (λ t. refl) first P.transitions pws.no_transition (omega (arith, S₂.fits, B_length)) (λ k l.
      let i : k < F.transitions = omega (arith, count₁) in
      subst (λ (t : Transition). Stands f (first + 8 * k) (transition_bytes t)) (sym (table_number (λ i. transition_at f (first + 8 * i)) F.transitions k pws.no_transition i))
      (transition_stands f (first + 8 * k) s states (0 + k) (taken k i)))

  C_length : length C ≡ 8 * F.transitions
  C_length = joined_length transition_bytes 8 (λ t. refl) P.transitions ∙ ap (λ (k : ℕ). 8 * k) count₁

  abbrev D : List ℕ
  D = joined target_bytes ts

  count₂ : length ts ≡ F.targets
  count₂ = table_length (λ i. state_at f (second + 5 * i)) 0 F.targets

  aimed : (i : ℕ) → i < F.targets → checked (target_number Plain s states f (second + 5 * i) (0 + i)) (second + 5 * i) ≡ Ok tt
  unfolding targets_from
  aimed i l =
      let e = row_each (at_end alone f) (λ k n. unless_end f k (checked (target_number Plain s states f k n) k)) (λ k. 5) 4096 second 0 F.targets F.aims i (omega arith) in
      (unless_fine f (second + 5 * i) _ (rw (place_five second i) at e)).1

  S₄ : Stands f second D
  S₄ =
      joined_stands target_bytes 5 (λ t. refl) second ts (λ p. 0) (omega (arith, S₃.fits, C_length)) (λ k l.
      let i : k < F.targets = omega (arith, count₂) in
      subst (λ (t : ℕ → ℕ). Stands f (second + 5 * k) (target_bytes t)) (sym (table_number (λ i. state_at f (second + 5 * i)) F.targets k (λ p. 0) i))
      (target_stands f (second + 5 * k) s states (0 + k) (aimed k i)))

  pub part_stands : Stands f at (program_bytes P ts)
  part_stands =
      let y : second ≡ first + length C = omega (arith, C_length) in
      let z : first ≡ at + 7 + length B = omega (arith, B_length) in
      stands_join (shape_bytes P.shape) (B ++ (C ++ D)) S₁ (stands_join B (C ++ D) S₂ (stands_moved z (stands_join C D S₃ (stands_moved y S₄))))

  pub part_length : at + length (program_bytes P ts) ≡ p.claim
  part_length = omega (arith, program_length P ts, count₁, count₂)

  not_full : (k : ℕ) → unless_end f k (checked (target_number Plain s states f k (0 + 4096)) k) ≡ Ok tt → ⊥
  not_full k e = no_true (sym (target_fine f k Plain s states 4096 (unless_fine f k _ e).1).room)

  pub part_shut : cond alone (leb (length f) p.claim) (is_kind f p.claim 15) ≡ true
  unfolding targets_from at_end
  part_shut =
      let e = (row_shut (at_end alone f) (λ k n. unless_end f k (checked (target_number Plain s states f k n) k)) (λ k. 5) 4096 second 0 F.targets not_full F.aims).1 in
      let z : F.targets - 0 ≡ F.targets = omega arith in
      let d : at_end alone f (second + 5 * F.targets) F.targets ≡ true = rw (z, place_five second F.targets) at e in
      (and_true (cond alone (leb (length f) p.claim) (is_kind f p.claim 15)) (leb 1 F.targets) d).0

  -- ---- what the shape does not have

  none_of : (k : ℕ) (q : ℕ) → n ≤ q → get_or (of_processes f (at + 7) k n) q 0 ≡ 0
  none_of k q l = elim (dec_lt q 4) [
    | yes i ↦ of_four (λ (q : ℕ). get_or (of_processes f (at + 7) k n) q 0 ≡ of_process f (at + 7) k n q) refl refl refl refl q i ∙ rw (le-ltb q n l)
    | no i ↦ let past : length (of_processes f (at + 7) k n) ≤ q = omega arith in get_or-eq_default (of_processes f (at + 7) k n) 0 past
  ]

  no_values : (v : ℕ) → s.variables ≤ v → value_count s v ≡ 0
  no_values v l = elim (dec_lt v 4) [
    | yes i ↦ range.absent v i l
    | no i ↦ let past : length s.values ≤ v = omega arith in get_or-eq_default s.values 0 past
  ]

  pub part_contents : ProgramPartRead P ts → ProgramContents P ts
  part_contents w = record { part = w; values = no_values; states = none_of 1; initial = none_of 2 }

-- ---- from the beginning of a file

pub record PartRead (alone : Bool) (f : List ℕ) (p : Program) : Type 0 where
  pub contents : ProgramContents (program_of f p) (targets_of f p)
  pub stands : Stands f 0 (program_bytes (program_of f p) (targets_of f p))
  pub size : length (program_bytes (program_of f p) (targets_of f p)) ≡ p.claim
  pub shut : cond alone (leb (length f) p.claim) (is_kind f p.claim 15) ≡ true

pub part_written : (alone : Bool) (f : List ℕ) → whether (program_from alone f 0) ≡ Ok tt → PartRead alone f (program_read (program_from alone f 0))
part_written alone f q =
    let F = program_fine Plain alone f 0 q in
    let w : ProgramPartRead (program_of f (program_read (program_from alone f 0))) (targets_of f (program_read (program_from alone f 0))) = part_read alone f 0 q in
    subst (PartRead alone f) (sym F.same) (record {
      contents = part_contents alone f 0 F (subst (λ (p : Program). ProgramPartRead (program_of f p) (targets_of f p)) F.same w);
      stands = part_stands alone f 0 F;
      size = omega (arith, part_length alone f 0 F);
      shut = part_shut alone f 0 F;
    })

pub program_file : (f : List ℕ) (p : Program) → PartRead true f p → f ≡ program_bytes (program_of f p) (targets_of f p)
program_file f p R =
    let most = leb-true (length f) p.claim R.shut in
    stands_all f (program_bytes (program_of f p) (targets_of f p)) R.stands (omega (arith, R.size, R.stands.fits))

-- what follows a part of a file
pub stands_followed : (f bs : List ℕ) → Stands f 0 bs → f ≡ bs ++ drop (length bs) f
stands_followed f bs S =
    let n = length-drop (length bs) f in
    let m = length-append bs (drop (length bs) f) in
    let z : length bs ≡ 0 + length bs = omega arith in
    stands_all f (bs ++ drop (length bs) f) (stands_join bs (drop (length bs) f) S (stands_moved z (stands_rest f (length bs) (omega (arith, S.fits))))) (omega (arith, S.fits))

-- the claim stands after a program part
pub claim_stands : (f : List ℕ) (p : Program) → PartRead false f p → drop p.claim f ≡ 15 ∷ drop (suc p.claim) f
unfolding is_kind
claim_stands f p R =
    let b = eqb-true (byte f p.claim) 15 R.shut in
    let l : p.claim < length f = elim (dec_lt p.claim (length f)) [
      | yes l ↦ l
      | no l ↦ absurd (omega (arith, byte_past f p.claim (omega arith)))
    ] in
    drop-cons f p.claim 0 l ∙ ap (λ (x : ℕ). x ∷ drop (suc p.claim) f) b

pub combined_file : (f : List ℕ) (p : Program) → PartRead false f p → f ≡ program_bytes (program_of f p) (targets_of f p) ++ (15 ∷ drop (suc p.claim) f)
combined_file f p R =
    let bs = program_bytes (program_of f p) (targets_of f p) in
    stands_followed f bs R.stands ∙ ap (λ (xs : List ℕ). bs ++ xs) (ap (λ (k : ℕ). drop k f) R.size ∙ claim_stands f p R)

pub program_read_is_written : ProgramReadIsWritten
program_read_is_written f P ts = (
  λ R.
      let A = part_written true f R.fine in
      given R (λ Q us. ProgramContents Q us × (f ≡ program_bytes Q us)) (A.contents, program_file f _ A),
  λ R.
      let A = part_written false f R.fine in
      given R (λ Q us. ProgramContents Q us × ((rest : List ℕ) × (f ≡ program_bytes Q us ++ (15 ∷ rest)))) (A.contents, (_, combined_file f _ A)),
)
  where
    given : {alone : Bool} → ProgramReadAs alone f P ts → (G : pws.Program → List (ℕ → ℕ) → Type 0)
        → G (program_of f (program_read (program_from alone f 0))) (targets_of f (program_read (program_from alone f 0))) → G P ts
    given R G x = subst (λ (Q : pws.Program). G Q ts) R.program (subst (G _) R.targets x)
