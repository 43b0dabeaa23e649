use Prim.Native.Nat.{◌-◌, ◌≤◌}
use Rattle.file_records.specs.ProgramPart.{table_from}
use Rattle.register_machine.specs.Written.{joined}
use Rattle.register_program.proofs.Joined.{Going}
use Rattle.register_program.proofs.HasLaws.{transitions_at}
use Rattle.register_program.proofs.LoopLaws.{transition_rows}
use Rattle.register_program.proofs.put.put_transitions.Given as goal

abbrev pub invariant-loop-i : goal.invariant-loop-i
invariant-loop-i l =
    let n = l.program.transitions.count in
    let t = transitions_at l.file l.program.transitions.at in
    (l.i ≤ n) × Going l.initial.out l.out l.start l.at (joined (transition_rows l.has) (table_from t 0 n)) (joined (transition_rows l.has) (table_from t l.i (n - l.i)))
