use Prim.Native.Nat.{ℕ}
use mathlib.Core.Path.{ap, ap₂, ◌∙◌}
use Rattle.verdict.specs.Answers.{stepless, with_record}
use borrow.Author.Rules.{rules}
use Rattle.report_verdict.proofs.unread.Goals as goal

pub returns : goal.returns
returns c = c.with_record.ensures
    ∙ ap (λ (n : ℕ). with_record (stepless 2 n c.args.refusal.place) 0 c.record_place-at.result c.record_length-size.result) c.from.ensures
    ∙ ap₂ (λ a l. with_record (stepless 2 c.args.refusal.number c.args.refusal.place) 0 a l) c.record_place-at.ensures c.record_length-size.ensures
