use Rattle.std.proofs.lemmas.Result.{err_from_is_err_and}
use Rattle.std.specs.Prelude.{Result, Ok, Err, ⊤}
use Rattle.file_records.specs.declared.program.Refusal.{Refusal}
use Prim.Native.Nat.{ℕ, ◌-◌}
use mathlib.Core.Path.{◌≡◌, sym, ap, ◌∙◌, refl}
use mathlib.Core.Bool.{Bool, true, false, not}
use mathlib.Core.List.{List}
use native.Mathlib.Omega.{arith}
use borrow.Author.Rules.{rules}
use borrow.Author.Tests.{leb-false}
use Rattle.file_records.specs.Records.{checked, is_kind}
use Rattle.base.proofs.ByteLaws.{cut_fits}
use Rattle.file_records.proofs.RecordLaws.{row_ends, row_stops, row_step}
use Rattle.report_reading.specs.Parts.{mark_number, marks_from}
use Rattle.report_reading.proofs.OpenLaws.{mark_fine}
use Rattle.report_reading.proofs.records.marks_from.Goals as goal

abbrev ends : List ℕ → ℕ → ℕ → Bool
ends f k n = not (is_kind f k 48)

abbrev check : ℕ → List ℕ → ℕ → ℕ → Result ⊤ Refusal
check transitions f k n = checked (mark_number transitions f k n) k

pub loop-at-init : goal.loop-at-init
unfolding marks_from
loop-at-init c = (search rules, refl)

pub returns-in_err-check_mark : goal.returns-in_err-check_mark
unfolding marks_from
returns-in_err-check_mark c = let a = c.args in
    let f = a.file.now in
    let k = c.loop-at.k in
    let n = c.loop-at.n in
    let p = err_from_is_err_and c.from_residual.result c.from_residual.ensures.1 in
    let r = p.0 in
    let d : is_kind f k 48 ≡ true = sym c.is_kind.ensures ∙ c.loop-at-test.true in
    let e : check a.transitions f k n ≡ Err r = rw p.2 (sym c.check_mark.ensures ∙ c.in_err-check_mark.was) in
    p.1 ∙ sym (row_stops (ends f) (check a.transitions f) (λ k. 2) (8 - n) k n r (ap not d) e) ∙ c.loop-at.invariant.1

pub overflow_add-k : goal.overflow_add-k
unfolding marks_from
overflow_add-k c = omega (arith, cut_fits c.args.file.now c.loop-at.k 1 (mark_fine c.args.transitions c.args.file.now c.loop-at.k c.loop-at.n (sym c.check_mark.ensures ∙ c.in_ok-check_mark.was)).whole)

pub loop-at-smaller : goal.loop-at-smaller
unfolding marks_from
loop-at-smaller c = omega (arith, leb-false 8 c.loop-at.n (mark_fine c.args.transitions c.args.file.now c.loop-at.k c.loop-at.n (sym c.check_mark.ensures ∙ c.in_ok-check_mark.was)).room)

pub loop-at-preserved : goal.loop-at-preserved
unfolding marks_from
loop-at-preserved c = let a = c.args in
    let f = a.file.now in
    let k = c.loop-at.k in
    let n = c.loop-at.n in
    let d : is_kind f k 48 ≡ true = sym c.is_kind.ensures ∙ c.loop-at-test.true in
    let e : check a.transitions f k n ≡ Ok tt = sym c.check_mark.ensures ∙ c.in_ok-check_mark.was in
    let l = leb-false 8 n (mark_fine a.transitions f k n e).room in
    (omega arith, sym (row_step (ends f) (check a.transitions f) (λ k. 2) 8 k n l (ap not d) e) ∙ c.loop-at.invariant.1)

pub returns : goal.returns
unfolding marks_from
returns c = let a = c.args in
    let f = a.file.now in
    let k = c.loop-at.k in
    let n = c.loop-at.n in
    let d : is_kind f k 48 ≡ false = sym c.is_kind.ensures ∙ c.loop-at-test.false in
    sym (row_ends (ends f) (check a.transitions f) (λ k. 2) (8 - n) k n (ap not d)) ∙ c.loop-at.invariant.1
