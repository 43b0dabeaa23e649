use Prim.Native.Nat.{◌-◌, ◌≤◌}
use mathlib.Core.Path.{◌≡◌}
use Rattle.file_records.specs.ProgramPart.{table_from}
use Rattle.register_machine.specs.Program.{some_uses}
use Rattle.register_program.proofs.HasLaws.{transitions_at}
use Rattle.register_program.proofs.has.has_register.Given as goal

abbrev pub invariant-loop-i : goal.invariant-loop-i
invariant-loop-i l =
    let n = l.program.transitions.count in
    let t = transitions_at l.file l.program.transitions.at in
    (l.i ≤ n) × (some_uses (table_from t l.i (n - l.i)) l.p ≡ some_uses (table_from t 0 n) l.p)
