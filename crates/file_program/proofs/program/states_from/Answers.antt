use Rattle.std.proofs.lemmas.Result.{err_from_is_err_and}
use Rattle.std.specs.Prelude.{Ok, Err}
use Prim.Native.Nat.{◌-◌}
use mathlib.Core.Path.{◌≡◌, sym, ap, ◌∙◌}
use native.Mathlib.Omega.{arith}
use borrow.Author.Rules.{rules}
use Rattle.file_records.specs.Records.{checked, states_number}
use Rattle.file_records.specs.ProgramPart.{unless_end, states_from}
use Rattle.base.proofs.ByteLaws.{cut_fits}
use Rattle.file_records.proofs.RecordLaws.{unless_fine, states_fine, states_step, states_stop}
use Rattle.file_program.proofs.program.states_from.Goals as goal

pub loop-p-init : goal.loop-p-init
unfolding states_from
loop-p-init c = let z : c.args.n - 0 ≡ c.args.n = omega arith in (search rules, rw z)

pub returns-in_err-unless_end : goal.returns-in_err-unless_end
unfolding states_from
returns-in_err-unless_end c = let f = c.args.file.now in
    let k = c.loop-p.k in
    let p = err_from_is_err_and c.from_residual.result c.from_residual.ensures.1 in
    let r = p.0 in
    let e : unless_end f k (checked (states_number f k) k) ≡ Err r = rw p.2 (sym (c.unless_end.ensures ∙ ap (unless_end f k) c.check_states.ensures) ∙ c.in_err-unless_end.was) in
    p.1 ∙ sym (states_stop f k c.args.n c.loop-p.p r c.loop-p-test.true e) ∙ c.loop-p.invariant.1

pub overflow_add-k : goal.overflow_add-k
unfolding states_from
overflow_add-k c = let f = c.args.file.now in
    let k = c.loop-p.k in
    let e : unless_end f k (checked (states_number f k) k) ≡ Ok tt = sym (c.unless_end.ensures ∙ ap (unless_end f k) c.check_states.ensures) ∙ c.in_ok-unless_end.was in
    omega (arith, cut_fits f k 2 (states_fine f k (unless_fine f k _ e).1).whole)

pub loop-p-preserved : goal.loop-p-preserved
unfolding states_from
loop-p-preserved c = let f = c.args.file.now in
    let k = c.loop-p.k in
    let e : unless_end f k (checked (states_number f k) k) ≡ Ok tt = sym (c.unless_end.ensures ∙ ap (unless_end f k) c.check_states.ensures) ∙ c.in_ok-unless_end.was in
    (omega arith, sym (states_step f k c.args.n c.loop-p.p c.loop-p-test.true e) ∙ c.loop-p.invariant.1)

pub returns : goal.returns
unfolding states_from
returns c = let z : c.args.n - c.loop-p.p ≡ 0 = omega arith in rw z at c.loop-p.invariant.1
