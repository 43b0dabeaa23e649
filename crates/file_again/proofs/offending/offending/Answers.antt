use Prim.Native.Nat.{ℕ}
use mathlib.Core.Path.{sym, ap, ◌∙◌}
use mathlib.Core.List.{List}
use borrow.Author.Tests.{not-true, not-false}
use Rattle.file_again.specs.Offending.{Offending, record_at}
use Rattle.file_again.proofs.OffendingLaws.{of_record, of_none, program_bytes, evidence_bytes}
use Rattle.file_again.proofs.offending.offending.Goals as goal

pub returns-then-not-is_of_record : goal.returns-then-not-is_of_record
returns-then-not-is_of_record c = let a = c.args in c.end_of.ensures ∙ of_none a.code.now a.file.now a.part a.number a.place (sym c.is_of_record.ensures ∙ not-true _ c.if-not-is_of_record.true-raw)

pub returns-then-in_program : goal.returns-then-in_program
returns-then-in_program c = let a = c.args in c.record_at.ensures ∙ sym (ap (λ (o : Offending). o.bytes) (of_record a.code.now a.file.now a.part a.number a.place (sym c.is_of_record.ensures ∙ not-false _ c.if-not-is_of_record.false-raw)) ∙ ap (λ (f : List ℕ). record_at f a.place) (program_bytes a.code.now a.file.now a.part (sym c.in_program.ensures ∙ c.if-in_program.true)))

pub returns : goal.returns
returns c = let a = c.args in c.record_at-2.ensures ∙ sym (ap (λ (o : Offending). o.bytes) (of_record a.code.now a.file.now a.part a.number a.place (sym c.is_of_record.ensures ∙ not-false _ c.if-not-is_of_record.false-raw)) ∙ ap (λ (f : List ℕ). record_at f a.place) (evidence_bytes a.code.now a.file.now a.part (sym c.in_program.ensures ∙ c.if-in_program.false)))
