use Prim.Native.Nat.{ℕ, ◌-◌, ◌≤◌}
use Rattle.file_records.specs.ProgramPart.{table_from}
use Rattle.register_machine.specs.Written.{joined}
use Rattle.register_program.proofs.Joined.{Going}
use Rattle.register_program.proofs.LoopLaws.{states_row}
use Rattle.register_program.proofs.put.put_states.Given as goal

abbrev pub invariant-loop-p : goal.invariant-loop-p
invariant-loop-p l =
    let n = l.program.shape.processes in
    let row = states_row l.has l.program.states l.program.initial in
    (l.p ≤ n) × Going l.initial.out l.out l.start l.at (joined row (table_from (λ (q : ℕ). q) 0 n)) (joined row (table_from (λ (q : ℕ). q) l.p (n - l.p)))
