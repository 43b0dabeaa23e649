use Prim.Native.Nat.{◌+◌, ◌*◌}
use mathlib.Core.Path.{◌≡◌, sym, ◌∙◌}
use native.Mathlib.Omega.{arith}
use Rattle.std.specs.Prelude.{Ok, Err}
use Rattle.std.proofs.lemmas.Result.{err_from_is_err_and}
use Rattle.file_records.specs.ProgramPart.{transitions_from, targets_from, rows_from}
use Rattle.file_records.proofs.ProgramLaws.{few_targets, transitions_most, targets_most}
use Rattle.file_program.proofs.program.read_rows.Goals as goal

pub returns-in_err-n : goal.returns-in_err-n
unfolding rows_from
returns-in_err-n c = let a = c.args in
    let p = err_from_is_err_and c.from_residual.result c.from_residual.ensures.1 in
    let e : transitions_from a.format a.shape a.states a.file.now a.at ≡ Err p.0 = rw p.2 (sym c.transitions_from.ensures ∙ c.in_err-n.was) in
    p.1 ∙ rw e

pub overflow_mul-next : goal.overflow_mul-next
overflow_mul-next c = let a = c.args in
    let e : transitions_from a.format a.shape a.states a.file.now a.at ≡ Ok c.in_ok-n.n = sym c.transitions_from.ensures ∙ c.in_ok-n.was in
    omega (arith, transitions_most a.format a.shape a.states a.file.now a.at _ e)

pub overflow_add-next : goal.overflow_add-next
overflow_add-next c = let a = c.args in
    let e : transitions_from a.format a.shape a.states a.file.now a.at ≡ Ok c.in_ok-n.n = sym c.transitions_from.ensures ∙ c.in_ok-n.was in
    omega (arith, transitions_most a.format a.shape a.states a.file.now a.at _ e)

pub returns-in_err-m : goal.returns-in_err-m
unfolding rows_from
returns-in_err-m c = let a = c.args in
    let n = c.in_ok-n.n in
    let p = err_from_is_err_and c.from_residual-in_err-m.result c.from_residual-in_err-m.ensures.1 in
    let e : transitions_from a.format a.shape a.states a.file.now a.at ≡ Ok n = sym c.transitions_from.ensures ∙ c.in_ok-n.was in
    let d : targets_from a.format a.alone a.shape a.states a.file.now (a.at + 8 * n) ≡ Err p.0 = rw p.2 (sym c.targets_from.ensures ∙ c.in_err-m.was) in
    p.1 ∙ rw (e, d)

pub overflow_mul-result : goal.overflow_mul-result
overflow_mul-result c = let a = c.args in
    let d : targets_from a.format a.alone a.shape a.states a.file.now (a.at + 8 * c.in_ok-n.n) ≡ Ok c.in_ok-m.m = sym c.targets_from.ensures ∙ c.in_ok-m.was in
    omega (arith, few_targets a.format, targets_most a.format a.shape a.states a.file.now (a.at + 8 * c.in_ok-n.n) a.alone _ d)

pub overflow_add-result : goal.overflow_add-result
overflow_add-result c = let a = c.args in
    let n = c.in_ok-n.n in
    let e : transitions_from a.format a.shape a.states a.file.now a.at ≡ Ok n = sym c.transitions_from.ensures ∙ c.in_ok-n.was in
    let d : targets_from a.format a.alone a.shape a.states a.file.now (a.at + 8 * n) ≡ Ok c.in_ok-m.m = sym c.targets_from.ensures ∙ c.in_ok-m.was in
    omega (
      arith,
      transitions_most a.format a.shape a.states a.file.now a.at n e,
      few_targets a.format,
      targets_most a.format a.shape a.states a.file.now (a.at + 8 * n) a.alone _ d,
    )

pub returns : goal.returns
unfolding rows_from
returns c = let a = c.args in
    let n = c.in_ok-n.n in
    let e : transitions_from a.format a.shape a.states a.file.now a.at ≡ Ok n = sym c.transitions_from.ensures ∙ c.in_ok-n.was in
    let d : targets_from a.format a.alone a.shape a.states a.file.now (a.at + 8 * n) ≡ Ok c.in_ok-m.m = sym c.targets_from.ensures ∙ c.in_ok-m.was in
    rw (e, d)
