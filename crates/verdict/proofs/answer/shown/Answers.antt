use Rattle.file_contents.specs.Reading.{input}
use Rattle.verdict.proofs.Verdicts.{shown_is}
use Rattle.verdict.proofs.answer.shown.Goals as goal

pub returns-in-Unread : goal.returns-in-Unread
returns-in-Unread c =
    let a = c.args in
    shown_is (input a.alone a.code.now a.file.now) a.answer c.in-Unread.part c.in-Unread.refusal c.verdict_of-verdict.result _ _ _ _ c.in-Unread.is
    c.verdict_of-verdict.ensures c.offending_part-own.ensures c.file_number.ensures c.offending_place-at.ensures c.offending-record.ensures
