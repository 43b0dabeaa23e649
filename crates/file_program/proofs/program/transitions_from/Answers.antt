use Rattle.std.proofs.lemmas.Result.{err_from_is_err_and}
use Rattle.std.specs.Prelude.{Result, Ok, Err, ⊤}
use Rattle.file_records.specs.declared.program.Refusal.{Refusal}
use Prim.Native.Nat.{ℕ, ◌-◌}
use mathlib.Core.Path.{◌≡◌, sym, ap, ◌∙◌, refl}
use mathlib.Core.Bool.{Bool, true, false, not}
use mathlib.Core.List.{List}
use native.Mathlib.Omega.{arith}
use borrow.Author.Rules.{rules}
use borrow.Author.Tests.{leb-false}
use Rattle.file_records.specs.declared.program.Format.{Format}
use Rattle.file_records.specs.declared.program.Shape.{Shape}
use Rattle.file_records.specs.Format.{transition_kind}
use Rattle.file_records.specs.Records.{checked, is_kind, transition_number}
use Rattle.file_records.specs.ProgramPart.{transitions_from}
use Rattle.base.proofs.ByteLaws.{cut_fits}
use Rattle.file_records.proofs.RecordLaws.{transition_fine, row_ends, row_stops, row_step}
use Rattle.file_program.proofs.program.transitions_from.Goals as goal

abbrev ends : Format → List ℕ → ℕ → ℕ → Bool
ends format f k n = not (is_kind f k (transition_kind format))

abbrev check : Format → Shape → List ℕ → List ℕ → ℕ → ℕ → Result ⊤ Refusal
check format s states f k n = checked (transition_number format s states f k n) k

pub loop-format-init : goal.loop-format-init
unfolding transitions_from
loop-format-init c = (search rules, refl)

pub returns-in_err-check_transition : goal.returns-in_err-check_transition
unfolding transitions_from
returns-in_err-check_transition c = let a = c.args in
    let kind = c.transition_kind-kind.ensures in
    let f = a.file.now in
    let k = c.loop-format.k in
    let n = c.loop-format.n in
    let p = err_from_is_err_and c.from_residual.result c.from_residual.ensures.1 in
    let r = p.0 in
    let d : is_kind f k (transition_kind a.format) ≡ true = ap (is_kind f k) (sym kind) ∙ sym c.is_kind.ensures ∙ c.loop-format-test.true in
    let e : check a.format a.shape a.states f k n ≡ Err r = rw p.2 (sym c.check_transition.ensures ∙ c.in_err-check_transition.was) in
    p.1
    ∙ sym (row_stops (ends a.format f) (check a.format a.shape a.states f) (λ k. 8) (256 - n) k n r (ap not d) e) ∙ c.loop-format.invariant.1

pub overflow_add-k : goal.overflow_add-k
unfolding transitions_from
overflow_add-k c = let a = c.args in
    let f = a.file.now in
    let k = c.loop-format.k in
    let n = c.loop-format.n in
    let e : check a.format a.shape a.states f k n ≡ Ok tt = sym c.check_transition.ensures ∙ c.in_ok-check_transition.was in
    omega (arith, cut_fits f k 7 (transition_fine f k a.format a.shape a.states n e).whole)

pub loop-format-smaller : goal.loop-format-smaller
unfolding transitions_from
loop-format-smaller c = let a = c.args in
    let f = a.file.now in
    let k = c.loop-format.k in
    let n = c.loop-format.n in
    let e : check a.format a.shape a.states f k n ≡ Ok tt = sym c.check_transition.ensures ∙ c.in_ok-check_transition.was in
    omega (arith, leb-false 256 n (transition_fine f k a.format a.shape a.states n e).room)

pub loop-format-preserved : goal.loop-format-preserved
unfolding transitions_from
loop-format-preserved c = let a = c.args in
    let kind = c.transition_kind-kind.ensures in
    let f = a.file.now in
    let k = c.loop-format.k in
    let n = c.loop-format.n in
    let d : is_kind f k (transition_kind a.format) ≡ true = ap (is_kind f k) (sym kind) ∙ sym c.is_kind.ensures ∙ c.loop-format-test.true in
    let e : check a.format a.shape a.states f k n ≡ Ok tt = sym c.check_transition.ensures ∙ c.in_ok-check_transition.was in
    let l = leb-false 256 n (transition_fine f k a.format a.shape a.states n e).room in
    (omega arith, sym (row_step (ends a.format f) (check a.format a.shape a.states f) (λ k. 8) 256 k n l (ap not d) e) ∙ c.loop-format.invariant.1)

pub returns : goal.returns
unfolding transitions_from
returns c = let a = c.args in
    let kind = c.transition_kind-kind.ensures in
    let f = a.file.now in
    let k = c.loop-format.k in
    let n = c.loop-format.n in
    let d : is_kind f k (transition_kind a.format) ≡ false = ap (is_kind f k) (sym kind) ∙ sym c.is_kind.ensures ∙ c.loop-format-test.false in
    sym (row_ends (ends a.format f) (check a.format a.shape a.states f) (λ k. 8) (256 - n) k n (ap not d)) ∙ c.loop-format.invariant.1
