use Prim.Native.Nat.{◌+◌, ◌≤◌}
use mathlib.Core.Path.{refl}
use mathlib.Core.List.{◌++◌}
use native.Mathlib.Omega.{arith}
use lib.ListN.{length, length-append}
use Rattle.file_records.specs.ProgramPart.{table_from, targets_of}
use Rattle.drawing.proofs.PutLaws.{then_put}
use Rattle.register_machine.specs.Written.{joined, written, written_targets}
use Rattle.register_program.specs.Form.{shape_record, states_record, transition_record, target_record, program_bytes}
use Rattle.register_program.specs.Reading.{register_program_of}
use Rattle.register_program.proofs.Joined.{room_next}
use Rattle.register_program.proofs.put.put_program.Goals as goal

pub put_shape-a-requires : goal.put_shape-a-requires
unfolding program_bytes
put_shape-a-requires c = let A = c.args in
    let F = c.requires.0 in
    let h = c.requires.1 in
    let R = register_program_of A.file.now A.program in
    let states = joined (states_record (written R)) (table_from (λ p. p) 0 A.program.shape.processes) in
    let moves = joined transition_record (written R).transitions in
    let aims = joined target_record (written_targets R (targets_of A.file.now A.program)) in
    (F, omega (arith, c.requires.2, length-append (shape_record R.shape) (states ++ (moves ++ aims))))

pub put_states-b-requires : goal.put_states-b-requires
unfolding program_bytes
put_states-b-requires c = let A = c.args in
    let F = c.requires.0 in
    let h = c.requires.1 in
    let R = register_program_of A.file.now A.program in
    let states = joined (states_record (written R)) (table_from (λ p. p) 0 A.program.shape.processes) in
    let moves = joined transition_record (written R).transitions in
    let aims = joined target_record (written_targets R (targets_of A.file.now A.program)) in
    let q₀ : 0 + length (program_bytes (written R) (written_targets R (targets_of A.file.now A.program))) ≤ length A.out.now = omega (arith, c.requires.2) in
    let q₁ = room_next (states ++ (moves ++ aims)) c.put_shape-a.ensures q₀ refl in
    (F, h, omega (arith, q₁, length-append states (moves ++ aims)))

pub put_transitions-c-requires : goal.put_transitions-c-requires
unfolding program_bytes
put_transitions-c-requires c = let A = c.args in
    let F = c.requires.0 in
    let h = c.requires.1 in
    let R = register_program_of A.file.now A.program in
    let states = joined (states_record (written R)) (table_from (λ p. p) 0 A.program.shape.processes) in
    let moves = joined transition_record (written R).transitions in
    let aims = joined target_record (written_targets R (targets_of A.file.now A.program)) in
    let q₀ : 0 + length (program_bytes (written R) (written_targets R (targets_of A.file.now A.program))) ≤ length A.out.now = omega (arith, c.requires.2) in
    let q₁ = room_next (states ++ (moves ++ aims)) c.put_shape-a.ensures q₀ refl in
    let q₂ = room_next (moves ++ aims) c.put_states-b.ensures q₁ refl in
    (F, h, omega (arith, q₂, length-append moves aims))

pub put_targets-requires : goal.put_targets-requires
unfolding program_bytes
put_targets-requires c = let A = c.args in
    let F = c.requires.0 in
    let h = c.requires.1 in
    let R = register_program_of A.file.now A.program in
    let states = joined (states_record (written R)) (table_from (λ p. p) 0 A.program.shape.processes) in
    let moves = joined transition_record (written R).transitions in
    let aims = joined target_record (written_targets R (targets_of A.file.now A.program)) in
    let q₀ : 0 + length (program_bytes (written R) (written_targets R (targets_of A.file.now A.program))) ≤ length A.out.now = omega (arith, c.requires.2) in
    let q₁ = room_next (states ++ (moves ++ aims)) c.put_shape-a.ensures q₀ refl in
    let q₂ = room_next (moves ++ aims) c.put_states-b.ensures q₁ refl in
    let q₃ = room_next aims c.put_transitions-c.ensures q₂ refl in
    (F, h, omega (arith, q₃))

pub returns : goal.returns
unfolding program_bytes
returns c = then_put c.put_shape-a.ensures (then_put c.put_states-b.ensures (then_put c.put_transitions-c.ensures c.put_targets.ensures))
