use Prim.Native.Nat.{ℕ, ◌+◌, ◌-◌, ◌*◌, ◌≤◌}
use mathlib.Core.Path.{◌≡◌, sym, ap, subst, ◌∙◌}
use mathlib.Core.Bool.{Bool, false}
use mathlib.Core.List.{List, ◌++◌}
use native.Mathlib.Omega.{arith}
use lib.ListN.{length, get_or}
use Rattle.file_records.specs.ProgramPart.{table_from}
use Rattle.drawing.proofs.PutLaws.{put_as}
use Rattle.register_machine.specs.Written.{joined, becomes}
use Rattle.register_program.specs.Form.{transition_record}
use Rattle.register_program.specs.Reading.{register_transition_at}
use Rattle.register_program.proofs.Joined.{table_next, table_all, table_done, going_begin, going_as, going_first, going_next, going_end}
use Rattle.register_program.proofs.Found.{found_read, found_named}
use Rattle.register_program.proofs.HasLaws.{transitions_at}
use Rattle.register_program.proofs.LoopLaws.{transition_rows, transition_rows_lem}
use Rattle.register_program.proofs.put.put_transitions.Goals as goal

pub loop-i-init : goal.loop-i-init
loop-i-init c = let A = c.args in
    let f = A.file.now in
    let k₀ = A.program.transitions.at in
    let m = A.program.transitions.count in
    let row = transition_rows A.has in
    let L : A.start + length (joined row (table_from (transitions_at f k₀) 0 m)) ≤ length A.out.now =
    subst (λ (x : List ℕ). A.start + length x ≤ length A.out.now) (sym (transition_rows_lem c.requires.0 c.requires.1)) c.requires.2 in
    (omega arith, going_as (going_begin L) (sym (ap (joined row) (table_all (transitions_at f k₀) m))))

pub put_becomes-at-requires : goal.put_becomes-at-requires
put_becomes-at-requires c = let A = c.args in
    let f = A.file.now in
    let k₀ = A.program.transitions.at in
    let m = A.program.transitions.count in
    let row = transition_rows A.has in
    let v = c.loop-i.invariant in
    let l = c.loop-i-test.true in
    let i = c.loop-i.i in
    let k = k₀ + 8 * i in
    let rest = joined row (table_from (transitions_at f k₀) (i + 1) (m - (i + 1))) in
    let eq : joined row (table_from (transitions_at f k₀) i (m - i)) ≡ row (transitions_at f k₀ i) ++ rest = ap (joined row) (table_next (transitions_at f k₀) i m l) in
    let w : joined transition_record (becomes c.at_or-has_register.result (register_transition_at f k)) ≡ row (transitions_at f k₀ i) =
    ap (λ (b : Bool). joined transition_record (becomes b (register_transition_at f k))) (c.at_or-has_register.ensures ∙ ap (λ (q : ℕ). get_or A.has q false) (c.from.ensures ∙ c.field.ensures)) in
    (found_named c.requires.0 i l, omega (arith, going_first (row (transitions_at f k₀ i)) rest v.1 eq, ap length w))

pub overflow_mul-k : goal.overflow_mul-k
overflow_mul-k c = let R = found_read c.requires.0 in omega (arith, R.transitions.1, c.loop-i-test.true)

pub overflow_add-k : goal.overflow_add-k
overflow_add-k c = let R = found_read c.requires.0 in
    omega (arith, R.transitions.0, R.transitions.1, c.loop-i-test.true)

pub loop-i-preserved : goal.loop-i-preserved
loop-i-preserved c = let A = c.args in
    let f = A.file.now in
    let k₀ = A.program.transitions.at in
    let m = A.program.transitions.count in
    let row = transition_rows A.has in
    let v = c.loop-i.invariant in
    let l = c.loop-i-test.true in
    let i = c.loop-i.i in
    let k = k₀ + 8 * i in
    let rest = joined row (table_from (transitions_at f k₀) (i + 1) (m - (i + 1))) in
    let eq : joined row (table_from (transitions_at f k₀) i (m - i)) ≡ row (transitions_at f k₀ i) ++ rest = ap (joined row) (table_next (transitions_at f k₀) i m l) in
    let w : joined transition_record (becomes c.at_or-has_register.result (register_transition_at f k)) ≡ row (transitions_at f k₀ i) =
    ap (λ (b : Bool). joined transition_record (becomes b (register_transition_at f k))) (c.at_or-has_register.ensures ∙ ap (λ (q : ℕ). get_or A.has q false) (c.from.ensures ∙ c.field.ensures)) in
    (omega (arith, l), going_next (row (transitions_at f k₀ i)) rest v.1 eq (put_as c.put_becomes-at.ensures w))

pub returns : goal.returns
returns c = let A = c.args in
    let f = A.file.now in
    let k₀ = A.program.transitions.at in
    let m = A.program.transitions.count in
    let row = transition_rows A.has in
    put_as (going_end c.loop-i.invariant.1 (ap (joined row) (table_done (transitions_at f k₀) c.loop-i.i m c.loop-i-test.false)))
    (transition_rows_lem c.requires.0 c.requires.1)
