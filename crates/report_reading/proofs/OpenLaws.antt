-- Laws of a report up to the claim of its list: what is said in each case, and what holds where nothing is refused.
use Rattle.std.specs.Prelude.{Result, Ok, Err, ⊤}
use Prim.Native.Nat.{ℕ, zero, suc, ◌+◌, ◌*◌, ◌-◌, ◌<◌, ◌≤◌}
use mathlib.Core.Path.{◌≡◌, refl, subst, ◌∙◌}
use mathlib.Core.Bool.{true, false, not}
use mathlib.Core.List.{List}
use native.Mathlib.Omega.{arith}
use native.Mathlib.Decide.{dec_lt}
use lib.ListN.{length, get_or}
use lib.Dec.{eqb, leb, ltb}
use borrow.Author.Tests.{lt-ltb, le-ltb, ltb-true, eqb-true, not-false}
use Rattle.base.specs.Bytes.{byte, cut}
use Rattle.base.proofs.ByteLaws.{cut_fits}
use Rattle.file_records.specs.declared.program.Refusal.{Refusal}
use Rattle.file_records.specs.declared.program.Program.{Program}
use Rattle.file_records.specs.Records.{checked, is_kind}
use Rattle.file_records.specs.ProgramPart.{program_from, whether, program_read}
use Rattle.file_records.proofs.RecordLaws.{Good, good, unless_fine, row_most}
use Rattle.file_records.proofs.ProgramLaws.{refused_read, fine_read}
use Rattle.file_again.specs.Again.{place_of}
use Rattle.file_again.proofs.Tables.{table_number}
use Rattle.file_again.proofs.Rows.{row_each}
use Rattle.report_reading.specs.Parts.{mark_number, marks_from, marks_of, due_number, due_claim, program_end, program_part, in_report}
use Rattle.report_reading.specs.Reading.{shut, opened, open_report}

-- ---- marks

place_two : (at i : ℕ) → place_of (λ k. 2) at i ≡ at + 2 * i
place_two at zero = omega arith
place_two at (suc i) = let a : at + 2 + 2 * i ≡ at + 2 * suc i = omega arith in place_two (at + 2) i ∙ a

pub mark_fine : (transitions : ℕ) (f : List ℕ) (at n : ℕ) → checked (mark_number transitions f at n) at ≡ Ok tt
    → Good (not (is_kind f at 48)) (cut f at 1) (leb 8 n) false (not (ltb (byte f (at + 1)) transitions))
unfolding mark_number
mark_fine transitions f at n e = good at e

module _ (transitions : ℕ) (f : List ℕ) (at : ℕ) where
  module _ (n : ℕ) (q : marks_from transitions f at ≡ Ok n) where
    pub marks_most : n ≤ 8
    unfolding marks_from
    marks_most = omega (arith, row_most _ _ _ 8 at 0 n q)

    mark_checked : (i : ℕ) → i < n → checked (mark_number transitions f (at + 2 * i) (0 + i)) (at + 2 * i) ≡ Ok tt
    unfolding marks_from
    mark_checked i l =
        let e = row_each (λ i n. not (is_kind f i 48)) (λ i n. checked (mark_number transitions f i n) i) (λ i. 2) 8 at 0 n q i (omega arith) in
        rw (place_two at i) at e

    -- each mark names a transition
    pub mark_exists : (i : ℕ) → i < n → get_or (marks_of f at n) i 0 < transitions
    mark_exists i l =
        let e = table_number (λ i. byte f (at + 2 * i + 1)) n i 0 l in
        rw e (ltb-true (byte f (at + 2 * i + 1)) transitions (not-false _ (mark_fine transitions f (at + 2 * i) (0 + i) (mark_checked i l)).names))

    -- and stands in the file
    pub marks_inside : at ≤ length f → at + 2 * n ≤ length f
    marks_inside l = elim (dec_lt 0 n) [
      | yes m ↦
          let i : ℕ = n - 1 in
          omega (arith, cut_fits f (at + 2 * i) 1 (mark_fine transitions f (at + 2 * i) (0 + i) (mark_checked i (omega arith))).whole)
      | no m ↦ omega arith
    ]

-- ---- claims

module _ (claim : ℕ) (f : List ℕ) (at : ℕ) (q : due_claim claim f at ≡ Ok tt) where
  due_good : Good (not (is_kind f at 15)) (cut f at 1) false false (not (eqb (byte f (at + 1)) claim))
  unfolding due_claim due_number
  due_good = good at (unless_fine f at _ q).1

  pub due_inside : at + 1 < length f
  due_inside = cut_fits f at 1 due_good.whole

  pub due_kind : is_kind f at 15 ≡ true
  due_kind = not-false _ due_good.allowed

  pub due_claim_lem : byte f (at + 1) ≡ claim
  due_claim_lem = eqb-true (byte f (at + 1)) claim (not-false _ due_good.names)

-- ---- what is said in each case

module _ (f : List ℕ) (area : ℕ) where
  abbrev part : Result Program Refusal
  part = program_from true (program_part f) 0

  abbrev marks_in : Result ℕ Refusal → Type 0
  marks_in x = marks_from (program_read part).transitions.count f (program_end f) ≡ x

  pub open_short : area < 65536 → open_report f area ≡ shut (record { number = 8; place = 0 })
  unfolding open_report
  open_short l = rw (lt-ltb area 65536 l)

  module _ (l : 65536 ≤ area) where
    pub open_program : (r : Refusal) → whether part ≡ Err r → open_report f area ≡ shut (in_report f 0 (program_end f) r)
    unfolding open_report
    open_program r e = rw (le-ltb area 65536 l, refused_read part r e)

    pub open_marks : (r : Refusal) → whether part ≡ Ok tt → marks_in (Err r) → open_report f area ≡ shut r
    unfolding open_report
    open_marks r e d = rw (le-ltb area 65536 l, fine_read part e, d)

    pub open_due : (n : ℕ) (r : Refusal) → whether part ≡ Ok tt → marks_in (Ok n) → due_claim 0 f (program_end f + 2 * n) ≡ Err r → open_report f area ≡ shut r
    unfolding open_report
    open_due n r e d c = rw (le-ltb area 65536 l, fine_read part e, d, c)

    pub open_all : (n : ℕ) → whether part ≡ Ok tt → marks_in (Ok n) → due_claim 0 f (program_end f + 2 * n) ≡ Ok tt → open_report f area ≡ opened (program_read part) n
    unfolding open_report
    open_all n e d c = rw (le-ltb area 65536 l, fine_read part e, d, c)

  -- ---- nothing is refused

  pub record OpenFine (p : Program) (n : ℕ) : Type 0 where
    pub enough : 65536 ≤ area
    pub fine : whether part ≡ Ok tt
    pub same : (program_read part) ≡ p
    pub marks : marks_in (Ok n)
    pub due : due_claim 0 f (program_end f + 2 * n) ≡ Ok tt

  not_shut : {r : Refusal} {p : Program} {n : ℕ} → open_report f area ≡ shut r → open_report f area ≡ opened p n → ⊥
  not_shut d q = let z : ◌≡◌ {A = ℕ} 0 1 = cc in omega arith

  module _ (p : Program) (n : ℕ) (q : open_report f area ≡ opened p n) where
    by_due : 65536 ≤ area → whether part ≡ Ok tt → (m : ℕ) → marks_in (Ok m) → (x : Result ⊤ Refusal) → due_claim 0 f (program_end f + 2 * m) ≡ x → OpenFine p n
    by_due l e m d (Err r) c = absurd (not_shut (open_due l m r e d c) q)
    by_due l e m d (Ok _) c =
        let s = open_all l m e d c in
        let z : m ≡ n = cc in
        record { enough = l; fine = e; same = cc; marks = subst (λ (k : ℕ). marks_in (Ok k)) z d; due = subst (λ (k : ℕ). due_claim 0 f (program_end f + 2 * k) ≡ Ok tt) z c }

    by_marks : 65536 ≤ area → whether part ≡ Ok tt → (x : Result ℕ Refusal) → marks_in x → OpenFine p n
    by_marks l e (Err r) d = absurd (not_shut (open_marks l r e d) q)
    by_marks l e (Ok m) d = by_due l e m d _ refl

    by_program : 65536 ≤ area → (x : Result ⊤ Refusal) → whether part ≡ x → OpenFine p n
    by_program l (Err r) e = absurd (not_shut (open_program l r e) q)
    by_program l (Ok _) e = by_marks l e _ refl

    pub open_fine : OpenFine p n
    open_fine = elim (dec_lt area 65536) [
      | yes l ↦ absurd (not_shut (open_short l) q)
      | no l ↦ by_program (omega arith) _ refl
    ]
