use Prim.Native.Nat.{◌-◌, ◌≤◌}
use mathlib.Core.Path.{◌≡◌}
use Rattle.register_program.specs.Registers.{lowest_over}
use Rattle.register_program.proofs.CountLaws.{needed}
use Rattle.register_program.proofs.count.lowest_over.Given as goal

abbrev pub invariant-loop-p : goal.invariant-loop-p
invariant-loop-p l =
    let n = l.program.shape.processes in
    (l.p ≤ n) × (lowest_over (needed l.has l.program.states) l.p (n - l.p) ≡ lowest_over (needed l.has l.program.states) 0 n)
