-- What the code returns up to the claim of the list, in each case.
use Rattle.std.specs.Prelude.{Result, Ok, Err, ⊤}
use Prim.Native.Nat.{ℕ, ◌+◌, ◌*◌, ◌≤◌}
use mathlib.Core.Path.{◌≡◌, sym, ap, ◌∙◌}
use mathlib.Core.Bool.{true}
use mathlib.Core.List.{List}
use native.Mathlib.Omega.{arith}
use lib.ListN.{length, take}
use Rattle.file_records.specs.declared.program.Refusal.{Refusal}
use Rattle.file_records.specs.declared.program.Program.{Program}
use Rattle.file_records.specs.ProgramPart.{program_from, whether, program_read}
use Rattle.report_reading.specs.declared.ReportReading.{ReportReading}
use Rattle.report_reading.specs.Parts.{marks_from, due_claim, program_end, in_report}
use Rattle.report_reading.specs.Reading.{open_report, report_opened}
use Rattle.report_reading.proofs.EndLaws.{program_most}
use Rattle.report_reading.proofs.OpenLaws.{marks_inside, open_program, open_marks, open_due, open_all}

module _ (f : List ℕ) (area : ℕ) (l : 65536 ≤ area) (end : ℕ) (e : end ≡ program_end f) (R : Result Program Refusal) (r : R ≡ program_from true (take end f) 0) where
  abbrev Returned : Result ReportReading Refusal → Type 0
  Returned X = X ≡ report_opened f (open_report f area)

  same : R ≡ program_from true (take (program_end f) f) 0
  same = r ∙ ap (λ (k : ℕ). program_from true (take k f) 0) e

  answered : {y : Result Program Refusal} → R ≡ y → program_from true (take (program_end f) f) 0 ≡ y
  answered d = sym same ∙ d

  pub program_returned : (q : Refusal) → R ≡ Err q → (w : Refusal) → w ≡ in_report f 0 end q → Returned (Err w)
  program_returned q d w b =
      ap Err (b ∙ ap (λ (k : ℕ). in_report f 0 k q) e) ∙ sym (ap (report_opened f) (open_program f area l q (ap whether (answered d))))

  module _ (p : Program) (fine : R ≡ Ok p) (M : Result ℕ Refusal) (m : M ≡ marks_from p.transitions.count f end) where
    read : program_read (program_from true (take (program_end f) f) 0) ≡ p
    read = ap program_read (answered fine)

    counted : {y : Result ℕ Refusal} → M ≡ y → marks_from (program_read (program_from true (take (program_end f) f) 0)).transitions.count f (program_end f) ≡ y
    counted d =
        ap (λ (x : Program). marks_from x.transitions.count f (program_end f)) read ∙ sym (ap (marks_from p.transitions.count f) e) ∙ sym m ∙ d

    pub marks_returned : (q : Refusal) → M ≡ Err q → Returned (Err q)
    marks_returned q d = sym (ap (report_opened f) (open_marks f area l q (ap whether (answered fine)) (counted d)))

    module _ (n : ℕ) (d : M ≡ Ok n) where
      pub marks_room : end + 2 * n ≤ length f
      marks_room = marks_inside p.transitions.count f end n (sym m ∙ d) (omega (arith, program_most f))

      due : {y : Result ⊤ Refusal} → due_claim 0 f (end + 2 * n) ≡ y → due_claim 0 f (program_end f + 2 * n) ≡ y
      due b = sym (ap (λ (k : ℕ). due_claim 0 f (k + 2 * n)) e) ∙ b

      pub due_returned : (q : Refusal) → due_claim 0 f (end + 2 * n) ≡ Err q → Returned (Err q)
      due_returned q b = sym (ap (report_opened f) (open_due f area l n q (ap whether (answered fine)) (counted d) (due b)))

      pub all_returned : due_claim 0 f (end + 2 * n) ≡ Ok tt → Returned (Ok (record { program = p; marks = record { at = end; count = n } }))
      all_returned b =
          ap {A = Program} (λ p. Ok (record { program = p; marks = record { at = end; count = n } })) (sym read)
          ∙ ap (λ (k : ℕ). Ok (record { program = program_read (program_from true (take (program_end f) f) 0); marks = record { at = k; count = n } })) e
          ∙ sym (ap (report_opened f) (open_all f area l n (ap whether (answered fine)) (counted d) (due b)))
