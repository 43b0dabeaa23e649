use Rattle.std.specs.Prelude.{Ok, Err}
use Rattle.std.proofs.lemmas.Result.{err_from_is_err_and}
use Rattle.file_records.specs.ProgramPart.{states_from, rest_from}
use mathlib.Core.Path.{◌≡◌, sym, ◌∙◌}
use Rattle.file_program.proofs.program.read_rest.Goals as goal

pub returns-in_err-states_from : goal.returns-in_err-states_from
unfolding rest_from
returns-in_err-states_from c = let a = c.args in
    let p = err_from_is_err_and c.from_residual.result c.from_residual.ensures.1 in
    let e : states_from a.file.now a.at a.shape.processes ≡ Err p.0 = rw p.2 (sym c.states_from.ensures ∙ c.in_err-states_from.was) in
    p.1 ∙ rw e

pub returns : goal.returns
unfolding rest_from
returns c = let a = c.args in
    let e : states_from a.file.now a.at a.shape.processes ≡ Ok tt = sym c.states_from.ensures ∙ c.in_ok-states_from.was in
    rw (e, ← c.of_processes-states.ensures, ← c.of_processes-initial.ensures) c.read_rows.ensures
