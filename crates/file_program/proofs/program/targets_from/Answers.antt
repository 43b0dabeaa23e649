use Rattle.std.proofs.lemmas.Result.{err_from_is_err_and}
use Rattle.std.specs.Prelude.{Result, Ok, Err, ⊤}
use Rattle.file_records.specs.declared.program.Refusal.{Refusal}
use Prim.Native.Nat.{ℕ, ◌-◌}
use mathlib.Core.Path.{◌≡◌, sym, ap, ◌∙◌}
use mathlib.Core.Bool.{Bool, true, false}
use mathlib.Core.List.{List}
use native.Mathlib.Omega.{arith}
use borrow.Author.Rules.{rules}
use borrow.Author.Tests.{leb-false, not-true, not-false}
use Rattle.file_records.specs.declared.program.Format.{Format}
use Rattle.file_records.specs.declared.program.Shape.{Shape}
use Rattle.file_records.specs.Format.{most_targets}
use Rattle.file_records.specs.Records.{checked, target_number}
use Rattle.file_records.specs.ProgramPart.{unless_end, at_end, targets_from}
use Rattle.base.proofs.ByteLaws.{cut_fits}
use Rattle.file_records.proofs.ProgramLaws.{few_targets}
use Rattle.file_records.proofs.RecordLaws.{unless_fine, target_fine, row_ends, row_stops, row_step}
use Rattle.file_program.proofs.program.targets_from.Goals as goal

abbrev ends : Bool → List ℕ → ℕ → ℕ → Bool
ends alone f = at_end alone f

abbrev check : Format → Shape → List ℕ → List ℕ → ℕ → ℕ → Result ⊤ Refusal
check format s states f k n = unless_end f k (checked (target_number format s states f k n) k)

pub loop-format-init : goal.loop-format-init
unfolding targets_from
loop-format-init c = let z : most_targets c.args.format - 0 ≡ most_targets c.args.format = omega arith in (search rules, rw z)

pub returns-in_err-unless_end : goal.returns-in_err-unless_end
unfolding targets_from
returns-in_err-unless_end c = let a = c.args in
    let f = a.file.now in
    let k = c.loop-format.k in
    let n = c.loop-format.n in
    let p = err_from_is_err_and c.from_residual.result c.from_residual.ensures.1 in
    let r = p.0 in
    let d' : at_end a.alone f k n ≡ false = sym c.at_end.ensures ∙ not-true _ c.loop-format-test.true-raw in
    let e : check a.format a.shape a.states f k n ≡ Err r = rw p.2 (sym (c.unless_end.ensures ∙ ap (unless_end f k) c.check_target.ensures) ∙ c.in_err-unless_end.was) in
    p.1
    ∙ sym (row_stops (ends a.alone f) (check a.format a.shape a.states f) (λ k. 5) (most_targets a.format - n) k n r d' e) ∙ c.loop-format.invariant.1

pub overflow_add-k : goal.overflow_add-k
unfolding targets_from
overflow_add-k c = let a = c.args in
    let f = a.file.now in
    let k = c.loop-format.k in
    let n = c.loop-format.n in
    let e : check a.format a.shape a.states f k n ≡ Ok tt = sym (c.unless_end.ensures ∙ ap (unless_end f k) c.check_target.ensures) ∙ c.in_ok-unless_end.was in
    omega (arith, cut_fits f k 4 (target_fine f k a.format a.shape a.states n (unless_fine f k _ e).1).whole)

pub overflow_add-n : goal.overflow_add-n
unfolding targets_from
overflow_add-n c = omega (arith, few_targets c.args.format)

pub loop-format-smaller : goal.loop-format-smaller
unfolding targets_from
loop-format-smaller c = let a = c.args in
    let f = a.file.now in
    let k = c.loop-format.k in
    let n = c.loop-format.n in
    let e : check a.format a.shape a.states f k n ≡ Ok tt = sym (c.unless_end.ensures ∙ ap (unless_end f k) c.check_target.ensures) ∙ c.in_ok-unless_end.was in
    omega (arith, leb-false (most_targets a.format) n (target_fine f k a.format a.shape a.states n (unless_fine f k _ e).1).room)

pub loop-format-preserved : goal.loop-format-preserved
unfolding targets_from
loop-format-preserved c = let a = c.args in
    let f = a.file.now in
    let k = c.loop-format.k in
    let n = c.loop-format.n in
    let d' : at_end a.alone f k n ≡ false = sym c.at_end.ensures ∙ not-true _ c.loop-format-test.true-raw in
    let e : check a.format a.shape a.states f k n ≡ Ok tt = sym (c.unless_end.ensures ∙ ap (unless_end f k) c.check_target.ensures) ∙ c.in_ok-unless_end.was in
    let l = leb-false (most_targets a.format) n (target_fine f k a.format a.shape a.states n (unless_fine f k _ e).1).room in
    (omega arith, sym (row_step (ends a.alone f) (check a.format a.shape a.states f) (λ k. 5) (most_targets a.format) k n l d' e) ∙ c.loop-format.invariant.1)

pub returns : goal.returns
unfolding targets_from
returns c = let a = c.args in
    let f = a.file.now in
    let k = c.loop-format.k in
    let n = c.loop-format.n in
    let d' : at_end a.alone f k n ≡ true = sym c.at_end.ensures ∙ not-false _ c.loop-format-test.false-raw in
    sym (row_ends (ends a.alone f) (check a.format a.shape a.states f) (λ k. 5) (most_targets a.format - n) k n d') ∙ c.loop-format.invariant.1
