use mathlib.Core.Path.{sym, ap, ◌∙◌}
use lib.ListN.{length}
use Rattle.file_again.specs.Offending.{Offending}
use Rattle.file_again.proofs.OffendingLaws.{of_record, of_end, of_other, program_bytes, evidence_bytes}
use Rattle.file_again.proofs.offending.offending_place.Goals as goal

pub returns-then-is_of_record : goal.returns-then-is_of_record
returns-then-is_of_record c = let a = c.args in sym (ap (λ (o : Offending). o.at) (of_record a.code.now a.file.now a.part a.number a.place (sym c.is_of_record.ensures ∙ c.if-is_of_record.true)))

pub returns-then-in_program : goal.returns-then-in_program
returns-then-in_program c = let a = c.args in sym (ap (λ (o : Offending). o.at) (of_end a.code.now a.file.now a.part a.number a.place (sym c.is_of_record.ensures ∙ c.if-is_of_record.false) c.if-number-eq6.true) ∙ ap length (program_bytes a.code.now a.file.now a.part (sym c.in_program.ensures ∙ c.if-in_program.true)))

pub returns-else-in_program : goal.returns-else-in_program
returns-else-in_program c = let a = c.args in sym (ap (λ (o : Offending). o.at) (of_end a.code.now a.file.now a.part a.number a.place (sym c.is_of_record.ensures ∙ c.if-is_of_record.false) c.if-number-eq6.true) ∙ ap length (evidence_bytes a.code.now a.file.now a.part (sym c.in_program.ensures ∙ c.if-in_program.false)))

pub returns-else-number-eq6 : goal.returns-else-number-eq6
returns-else-number-eq6 c = let a = c.args in sym (ap (λ (o : Offending). o.at) (of_other a.code.now a.file.now a.part a.number a.place (sym c.is_of_record.ensures ∙ c.if-is_of_record.false) c.if-number-eq6.false))
