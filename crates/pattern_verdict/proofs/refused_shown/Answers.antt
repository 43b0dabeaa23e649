use mathlib.Core.Path.{sym, ap, ◌∙◌}
use mathlib.Core.List.{List}
use Prim.Native.Nat.{ℕ}
use lib.ListN.{length}
use Rattle.file_contents.specs.Reading.{input}
use Rattle.file_again.specs.Offending.{is_in_program}
use Rattle.file_again.proofs.OffendingLaws.{program_bytes, evidence_bytes}
use Rattle.verdict.specs.Judge.{refused}
use Rattle.pattern_verdict.specs.Offending.{pattern_record_at}
use Rattle.pattern_verdict.proofs.ShownLaws.{same_end, with_size}
use Rattle.pattern_verdict.proofs.refused_shown.Goals as goal

pub returns-then-not-is_of_record : goal.returns-then-not-is_of_record
returns-then-not-is_of_record c = c.shown-judged.ensures ∙ same_end (input c.args.alone c.args.code.now c.args.file.now) (refused c.args.refusal.number c.args.refusal.place) c.args.part c.args.refusal.number c.args.refusal.place (sym c.is_of_record.ensures ∙ c.if-not-is_of_record.true)

pub returns-in-InProgram : goal.returns-in-InProgram
returns-in-InProgram c =
    c.with_length.ensures ∙ with_size (input c.args.alone c.args.code.now c.args.file.now) (refused c.args.refusal.number c.args.refusal.place) c.args.part c.args.refusal.number c.args.refusal.place _ c.shown-judged.ensures (sym c.is_of_record.ensures ∙ c.if-not-is_of_record.false) _
    (c.record_size.ensures ∙ ap (λ (b : List ℕ). length (pattern_record_at b c.args.refusal.place)) (sym (program_bytes _ c.args.file.now c.args.part (ap is_in_program c.in-InProgram.is))))

pub returns-in-InEvidence : goal.returns-in-InEvidence
returns-in-InEvidence c =
    c.with_length-in-InEvidence.ensures ∙ with_size (input c.args.alone c.args.code.now c.args.file.now) (refused c.args.refusal.number c.args.refusal.place) c.args.part c.args.refusal.number c.args.refusal.place _ c.shown-judged.ensures (sym c.is_of_record.ensures ∙ c.if-not-is_of_record.false) _
    (c.record_size-in-InEvidence.ensures ∙ ap (λ (b : List ℕ). length (pattern_record_at b c.args.refusal.place)) (sym (evidence_bytes c.args.code.now _ c.args.part (ap is_in_program c.in-InEvidence.is))))
