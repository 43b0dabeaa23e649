use Prim.Native.Nat.{ℕ, ◌+◌, ◌-◌, ◌*◌, ◌<◌, ◌≤◌}
use mathlib.Core.Path.{◌≡◌, sym, ap, subst, ◌∙◌}
use mathlib.Core.List.{List, ◌++◌}
use native.Mathlib.Omega.{arith}
use lib.ListN.{length, get_or}
use Rattle.file_records.specs.ProgramPart.{table_from}
use Rattle.drawing.proofs.PutLaws.{put_as}
use Rattle.register_machine.specs.Written.{joined}
use Rattle.register_program.specs.Parts.{chosen}
use Rattle.register_program.proofs.Joined.{table_next, table_all, table_done, going_begin, going_as, going_first, going_next, going_end}
use Rattle.register_program.proofs.Found.{found_read}
use Rattle.register_program.proofs.LoopLaws.{four_at, target_rows, target_rows_lem, target_low, zeros, zeros_at, chosen_start}
use Rattle.register_program.proofs.put.put_targets.Goals as goal

pub loop-i-init : goal.loop-i-init
loop-i-init c = let A = c.args in
    let f = A.file.now in
    let k₀ = A.program.targets.at in
    let m = A.program.targets.count in
    let row = target_rows A.has f k₀ in
    let L : A.start + length (joined row (table_from (λ j. j) 0 m)) ≤ length A.out.now =
    subst (λ (x : List ℕ). A.start + length x ≤ length A.out.now) (sym (target_rows_lem c.requires.0 c.requires.1)) c.requires.2 in
    (omega arith, going_as (going_begin L) (sym (ap (joined row) (table_all (λ (j : ℕ). j) m))))

pub put_choices-at-requires : goal.put_choices-at-requires
put_choices-at-requires c = let A = c.args in
    let f = A.file.now in
    let k₀ = A.program.targets.at in
    let m = A.program.targets.count in
    let row = target_rows A.has f k₀ in
    let v = c.loop-i.invariant in
    let l = c.loop-i-test.true in
    let i = c.loop-i.i in
    let rest = joined row (table_from (λ j. j) (i + 1) (m - (i + 1))) in
    let eq : joined row (table_from (λ j. j) i (m - i)) ≡ row i ++ rest = ap (joined row) (table_next (λ (j : ℕ). j) i m l) in
    let four : c.four_at-target.result ≡ four_at f (k₀ + 5 * i) = c.four_at-target.ensures in
    let w : chosen A.has c.four_at-target.result 4 0 (λ q. get_or zeros q 0) ≡ row i =
    chosen_start A.has _ ∙ ap (λ (t : List ℕ). chosen A.has t 4 0 (λ q. 0)) four in
    ((λ q. subst (λ (t : List ℕ). get_or t q 0 < 32) (sym four) (target_low c.requires.0 c.requires.1 i l q)), (λ q. omega (arith, zeros_at q)), omega arith, omega (arith, going_first (row i) rest v.1 eq, ap length w))

pub overflow_mul-i : goal.overflow_mul-i
overflow_mul-i c = let R = found_read c.requires.0 in omega (arith, R.targets.2, c.loop-i-test.true)

pub overflow_add-program : goal.overflow_add-program
overflow_add-program c = let R = found_read c.requires.0 in
    omega (arith, R.targets.0, R.targets.2, c.loop-i-test.true)

pub loop-i-preserved : goal.loop-i-preserved
loop-i-preserved c = let A = c.args in
    let f = A.file.now in
    let k₀ = A.program.targets.at in
    let m = A.program.targets.count in
    let row = target_rows A.has f k₀ in
    let v = c.loop-i.invariant in
    let l = c.loop-i-test.true in
    let i = c.loop-i.i in
    let rest = joined row (table_from (λ j. j) (i + 1) (m - (i + 1))) in
    let eq : joined row (table_from (λ j. j) i (m - i)) ≡ row i ++ rest = ap (joined row) (table_next (λ (j : ℕ). j) i m l) in
    let four : c.four_at-target.result ≡ four_at f (k₀ + 5 * i) = c.four_at-target.ensures in
    let w : chosen A.has c.four_at-target.result 4 0 (λ q. get_or zeros q 0) ≡ row i =
    chosen_start A.has _ ∙ ap (λ (t : List ℕ). chosen A.has t 4 0 (λ q. 0)) four in
    (omega (arith, l), going_next (row i) rest v.1 eq (put_as c.put_choices-at.ensures w))

pub returns : goal.returns
returns c = let A = c.args in
    let f = A.file.now in
    let k₀ = A.program.targets.at in
    let m = A.program.targets.count in
    let row = target_rows A.has f k₀ in
    put_as (going_end c.loop-i.invariant.1 (ap (joined row) (table_done (λ (j : ℕ). j) c.loop-i.i m c.loop-i-test.false)))
    (target_rows_lem c.requires.0 c.requires.1)
