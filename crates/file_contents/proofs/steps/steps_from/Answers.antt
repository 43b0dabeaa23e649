use Rattle.std.proofs.lemmas.Result.{err_from_is_err_and}
use Rattle.std.specs.Prelude.{Result, Ok, Err, ⊤}
use Rattle.file_records.specs.declared.program.Refusal.{Refusal}
use Prim.Native.Nat.{ℕ, ◌+◌, ◌-◌}
use mathlib.Core.Path.{◌≡◌, sym, ap, ◌∙◌, refl}
use mathlib.Core.Bool.{Bool, true, false}
use mathlib.Core.List.{List}
use native.Mathlib.Omega.{arith}
use lib.ListN.{length}
use lib.Dec.{leb}
use borrow.Author.Rules.{rules}
use borrow.Author.Tests.{le-leb, lt-leb, leb-false}
use Rattle.file_records.specs.declared.program.Shape.{Shape}
use Rattle.file_records.specs.Records.{checked, step_body, step_number}
use Rattle.file_contents.specs.EvidencePart.{steps_from}
use Rattle.base.proofs.ByteLaws.{cut_fits}
use Rattle.file_records.proofs.RecordLaws.{step_fine, row_ends, row_stops, row_step}
use Rattle.file_contents.proofs.steps.steps_from.Goals as goal

abbrev ends : List ℕ → ℕ → ℕ → Bool
ends f k n = leb (length f) k

abbrev check : Shape → ℕ → List ℕ → ℕ → ℕ → Result ⊤ Refusal
check s transitions f k n = checked (step_number s transitions f k n) k

pub loop-k-init : goal.loop-k-init
unfolding steps_from
loop-k-init c = (search rules, refl)

pub returns-in_err-check_step : goal.returns-in_err-check_step
unfolding steps_from
returns-in_err-check_step c = let a = c.args in
    let f = a.file.now in
    let k = c.loop-k.k in
    let n = c.loop-k.n in
    let p = err_from_is_err_and c.from_residual.result c.from_residual.ensures.1 in
    let e : check a.shape a.transitions f k n ≡ Err p.0 = rw p.2 (sym c.check_step.ensures ∙ c.in_err-check_step.was) in
    p.1 ∙ sym (row_stops (ends f) (check a.shape a.transitions f) (λ k. 1 + step_body f k) (1024 - n) k n p.0 (lt-leb (length f) k c.loop-k-test.true) e)
    ∙ c.loop-k.invariant.1

pub overflow_add-k : goal.overflow_add-k
unfolding steps_from
overflow_add-k c = let a = c.args in
    let f = a.file.now in
    let k = c.loop-k.k in
    let n = c.loop-k.n in
    let e : check a.shape a.transitions f k n ≡ Ok tt = sym c.check_step.ensures ∙ c.in_ok-check_step.was in
    let g = step_fine f k a.shape a.transitions n e in
    omega (arith, c.step_body.ensures, cut_fits f k (step_body f k) g.whole)

pub overflow_add-k-in-loop-k : goal.overflow_add-k-in-loop-k
unfolding steps_from
overflow_add-k-in-loop-k c = let a = c.args in
    let f = a.file.now in
    let k = c.loop-k.k in
    let n = c.loop-k.n in
    let e : check a.shape a.transitions f k n ≡ Ok tt = sym c.check_step.ensures ∙ c.in_ok-check_step.was in
    let g = step_fine f k a.shape a.transitions n e in
    omega (arith, c.step_body.ensures, cut_fits f k (step_body f k) g.whole)

pub loop-k-smaller : goal.loop-k-smaller
unfolding steps_from
loop-k-smaller c = let a = c.args in
    let f = a.file.now in
    let k = c.loop-k.k in
    let n = c.loop-k.n in
    let e : check a.shape a.transitions f k n ≡ Ok tt = sym c.check_step.ensures ∙ c.in_ok-check_step.was in
    let g = step_fine f k a.shape a.transitions n e in
    omega (arith, leb-false 1024 n g.room)

pub loop-k-preserved : goal.loop-k-preserved
unfolding steps_from
loop-k-preserved c = let a = c.args in
    let f = a.file.now in
    let k = c.loop-k.k in
    let n = c.loop-k.n in
    let e : check a.shape a.transitions f k n ≡ Ok tt = sym c.check_step.ensures ∙ c.in_ok-check_step.was in
    let g = step_fine f k a.shape a.transitions n e in
    let l = leb-false 1024 n g.room in
    let s : k + (1 + c.step_body.result) ≡ k + (1 + step_body f k) = ap (λ (i : ℕ). k + (1 + i)) c.step_body.ensures in
    (omega arith, rw s (sym (row_step (ends f) (check a.shape a.transitions f) (λ k. 1 + step_body f k) 1024 k n l (lt-leb (length f) k c.loop-k-test.true) e) ∙ c.loop-k.invariant.1))

pub returns : goal.returns
unfolding steps_from
returns c = let a = c.args in
    let f = a.file.now in
    let k = c.loop-k.k in
    let n = c.loop-k.n in
    sym (row_ends (ends f) (check a.shape a.transitions f) (λ k. 1 + step_body f k) (1024 - n) k n (le-leb (length f) k c.loop-k-test.false)) ∙ c.loop-k.invariant.1
