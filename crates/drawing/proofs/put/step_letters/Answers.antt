use Rattle.drawing.proofs.ShownLaws.{is_in_range, says_letters, says_short, says_none}
use native.Mathlib.Omega.{arith}
use mathlib.Core.Path.{sym, ◌∙◌}
use Rattle.drawing.proofs.put.step_letters.Goals as goal
use Rattle.drawing.proofs.put.step_letters.Goals.{else-in_range-via-then-in_range+else-letters_length-out, else-in_range-via-else-in_range}

pub letters_length-requires : goal.letters_length-requires
letters_length-requires c = is_in_range c.args.step (sym c.in_range.ensures ∙ c.if-in_range.true)

pub put_letters-requires : goal.put_letters-requires
put_letters-requires c = (is_in_range c.args.step (sym c.in_range.ensures ∙ c.if-in_range.true), omega (arith, c.letters_length.ensures, c.if-letters_length-out.true))

pub returns-then-letters_length-out : goal.returns-then-letters_length-out
returns-then-letters_length-out c = let q = says_letters c.args.out.now c.args.step (sym c.in_range.ensures ∙ c.if-in_range.true) c.put_letters.ensures in record { value = q.0; out_after = q.1 }

pub returns : goal.returns
returns c =
    elim c.else-in_range.branch [
      | else-in_range-via-then-in_range+else-letters_length-out w ↦
          let q = says_short c.args.out.now c.args.step (sym c.in_range.ensures ∙ w.if-in_range.true) (omega (arith, w.letters_length.ensures, w.if-letters_length-out.false)) in
          record { value = q.0; out_after = q.1 }
      | else-in_range-via-else-in_range w ↦
          let q = says_none c.args.out.now c.args.step (sym c.in_range.ensures ∙ w.if-in_range.false) in record { value = q.0; out_after = q.1 }
    ]
