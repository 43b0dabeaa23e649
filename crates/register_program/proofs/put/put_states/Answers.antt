use Prim.Native.Nat.{ℕ, ◌+◌, ◌-◌, ◌≤◌}
use mathlib.Core.Path.{◌≡◌, sym, ap, subst}
use mathlib.Core.List.{List, ◌++◌}
use native.Mathlib.Omega.{arith}
use lib.ListN.{length}
use Rattle.file_records.specs.ProgramPart.{table_from}
use Rattle.drawing.proofs.PutLaws.{put_as}
use Rattle.register_machine.specs.Written.{joined}
use Rattle.register_program.proofs.Joined.{table_next, table_all, table_done, going_begin, going_as, going_first, going_next, going_end}
use Rattle.register_program.proofs.Found.{found_read}
use Rattle.register_program.proofs.CountLaws.{states_most}
use Rattle.register_program.proofs.LoopLaws.{states_row, states_rows}
use Rattle.register_program.proofs.put.put_states.Goals as goal

pub loop-p-init : goal.loop-p-init
loop-p-init c = let A = c.args in
    let row = states_row A.has A.program.states A.program.initial in
    let m = A.program.shape.processes in
    let L : A.start + length (joined row (table_from (λ q. q) 0 m)) ≤ length A.out.now =
    subst (λ (g : ℕ → List ℕ). A.start + length (joined g (table_from (λ q. q) 0 m)) ≤ length A.out.now) (sym (states_rows c.requires.0 c.requires.1)) c.requires.2 in
    (omega arith, going_as (going_begin L) (sym (ap (joined row) (table_all (λ (q : ℕ). q) m))))

pub times-states-requires : goal.times-states-requires
times-states-requires c = let A = c.args in
    omega (arith, c.from.ensures, c.at_or.ensures, (found_read c.requires.0).states c.loop-p.p c.loop-p-test.true)

pub overflow_cast-states : goal.overflow_cast-states
overflow_cast-states c = omega (arith, c.times-states.ensures, states_most c.at_or-has_register.result c.from.result, c.from.ensures, c.at_or.ensures, (found_read c.requires.0).states c.loop-p.p c.loop-p-test.true)

pub pair-initial-requires : goal.pair-initial-requires
pair-initial-requires c = let R = found_read c.requires.0 in
    let p = c.loop-p.p in
    let l = c.loop-p-test.true in
    (omega (arith, c.at_or-in-loop-p.ensures, R.initial p l, R.states p l), omega arith)

pub put-at-requires : goal.put-at-requires
put-at-requires c = let A = c.args in
    let row = states_row A.has A.program.states A.program.initial in
    let m = A.program.shape.processes in
    let v = c.loop-p.invariant in
    let l = c.loop-p-test.true in
    let p = c.loop-p.p in
    let rest = joined row (table_from (λ q. q) (p + 1) (m - (p + 1))) in
    let eq : joined row (table_from (λ q. q) p (m - p)) ≡ row p ++ rest = ap (joined row) (table_next (λ (q : ℕ). q) p m l) in
    going_first (row p) rest v.1 eq

pub loop-p-preserved : goal.loop-p-preserved
loop-p-preserved c = let A = c.args in
    let row = states_row A.has A.program.states A.program.initial in
    let m = A.program.shape.processes in
    let v = c.loop-p.invariant in
    let l = c.loop-p-test.true in
    let p = c.loop-p.p in
    let rest = joined row (table_from (λ q. q) (p + 1) (m - (p + 1))) in
    let eq : joined row (table_from (λ q. q) p (m - p)) ≡ row p ++ rest = ap (joined row) (table_next (λ (q : ℕ). q) p m l) in
    (omega (arith, l), going_next (row p) rest v.1 eq (put_as c.put-at.ensures (rw (c.pair-initial.ensures, c.at_or-in-loop-p.ensures, c.times-states.ensures, c.from.ensures, c.at_or.ensures, c.at_or-has_register.ensures))))

pub returns : goal.returns
returns c = let A = c.args in
    let row = states_row A.has A.program.states A.program.initial in
    let m = A.program.shape.processes in
    put_as (going_end c.loop-p.invariant.1 (ap (joined row) (table_done (λ (q : ℕ). q) c.loop-p.p m c.loop-p-test.false)))
    (ap (λ (g : ℕ → List ℕ). joined g (table_from (λ q. q) 0 m)) (states_rows c.requires.0 c.requires.1))
