use Prim.Native.Nat.{ℕ, ◌-◌, ◌≤◌}
use Rattle.file_records.specs.ProgramPart.{table_from}
use Rattle.register_machine.specs.Written.{joined}
use Rattle.register_program.proofs.Joined.{Going}
use Rattle.register_program.proofs.LoopLaws.{target_rows}
use Rattle.register_program.proofs.put.put_targets.Given as goal

abbrev pub invariant-loop-i : goal.invariant-loop-i
invariant-loop-i l =
    let n = l.program.targets.count in
    let row = target_rows l.has l.file l.program.targets.at in
    (l.i ≤ n) × Going l.initial.out l.out l.start l.at (joined row (table_from (λ (j : ℕ). j) 0 n)) (joined row (table_from (λ (j : ℕ). j) l.i (n - l.i)))
