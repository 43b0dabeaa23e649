use Rattle.std.proofs.lemmas.Result.{err_from_is_err_and}
use Prim.Native.Nat.{ℕ, ◌+◌, ◌*◌}
use mathlib.Core.Path.{sym, ap, ◌∙◌}
use native.Mathlib.Omega.{arith}
use Rattle.file_records.specs.ProgramPart.{targets_of}
use Rattle.drawing.specs.Writing.{refused}
use Rattle.drawing.proofs.PutLaws.{put_first}
use Rattle.drawing.proofs.WriteLaws.{says_refused, says_short, says_written}
use Rattle.register_machine.specs.Written.{written, written_targets}
use Rattle.register_program.specs.Form.{program_bytes}
use Rattle.register_program.specs.Reading.{register_program_of}
use Rattle.register_program.specs.Registers.{made_of}
use Rattle.register_program.proofs.Found.{found_read}
use Rattle.register_program.proofs.Answers.{needed_bytes, made_over, made_many, made_written, product_most, targets_few}
use Rattle.register_program.proofs.write.Goals as goal

pub lowest_over-over-requires : goal.lowest_over-over-requires
lowest_over-over-requires c = (c.requires, c.registers_of-has.ensures)

pub returns-then-over-processes : goal.returns-then-over-processes
returns-then-over-processes c =
    let A = c.args in
    let M = made_of (register_program_of A.file.now A.program) (targets_of A.file.now A.program) in
    let o = c.lowest_over-over.ensures in
    let q = says_refused 29 A.out.now M 19 c.lowest_over-over.result (made_over c.requires c.registers_of-has.ensures (omega (arith, o, c.if-over-processes.true)) ∙ ap (refused 19) (sym o)) in
    record { value = q.0; out_after = q.1 }

pub transitions_of-requires : goal.transitions_of-requires
transitions_of-requires c = (c.requires, c.registers_of-has.ensures)

pub returns-in_err-transitions : goal.returns-in_err-transitions
returns-in_err-transitions c =
    let A = c.args in
    let M = made_of (register_program_of A.file.now A.program) (targets_of A.file.now A.program) in
    let r = c.in_err-transitions.field-0.0 in
    let p = err_from_is_err_and c.from_residual.result c.from_residual.ensures.1 in
    let q = says_refused 29 A.out.now M r.number r.place
    (made_many c.requires c.registers_of-has.ensures (omega (arith, c.lowest_over-over.ensures, c.if-over-processes.false)) r (sym c.transitions_of.ensures ∙ c.in_err-transitions.was)) in
    record { value = rw (p.1, p.2) q.0; out_after = q.1 }

pub overflow_mul-targets : goal.overflow_mul-targets
overflow_mul-targets c =
    let A = c.args in
    let R = found_read c.requires in
    let few = targets_few A.program.targets.count c.choices_of.result R.targets.2 (omega (arith, c.choices_of.ensures, product_most c.registers_of-has.result)) in
    omega (arith, few)

pub overflow_mul-needed : goal.overflow_mul-needed
overflow_mul-needed c =
    let A = c.args in
    let R = found_read c.requires in
    let few = targets_few A.program.targets.count c.choices_of.result R.targets.2 (omega (arith, c.choices_of.ensures, product_most c.registers_of-has.result)) in
    let W = made_written c.requires c.registers_of-has.ensures (omega (arith, c.lowest_over-over.ensures, c.if-over-processes.false)) c.in_ok-transitions.transitions (sym c.transitions_of.ensures ∙ c.in_ok-transitions.was) in
    omega (arith, few, W.2, R.shape.processes.1)

pub overflow_add-needed : goal.overflow_add-needed
overflow_add-needed c =
    let A = c.args in
    let R = found_read c.requires in
    let few = targets_few A.program.targets.count c.choices_of.result R.targets.2 (omega (arith, c.choices_of.ensures, product_most c.registers_of-has.result)) in
    let W = made_written c.requires c.registers_of-has.ensures (omega (arith, c.lowest_over-over.ensures, c.if-over-processes.false)) c.in_ok-transitions.transitions (sym c.transitions_of.ensures ∙ c.in_ok-transitions.was) in
    omega (arith, few, W.2, R.shape.processes.1)

pub overflow_mul-needed-2 : goal.overflow_mul-needed-2
overflow_mul-needed-2 c =
    let A = c.args in
    let R = found_read c.requires in
    let few = targets_few A.program.targets.count c.choices_of.result R.targets.2 (omega (arith, c.choices_of.ensures, product_most c.registers_of-has.result)) in
    let W = made_written c.requires c.registers_of-has.ensures (omega (arith, c.lowest_over-over.ensures, c.if-over-processes.false)) c.in_ok-transitions.transitions (sym c.transitions_of.ensures ∙ c.in_ok-transitions.was) in
    omega (arith, few, W.2, R.shape.processes.1)

pub overflow_add-needed-2 : goal.overflow_add-needed-2
overflow_add-needed-2 c =
    let A = c.args in
    let R = found_read c.requires in
    let few = targets_few A.program.targets.count c.choices_of.result R.targets.2 (omega (arith, c.choices_of.ensures, product_most c.registers_of-has.result)) in
    let W = made_written c.requires c.registers_of-has.ensures (omega (arith, c.lowest_over-over.ensures, c.if-over-processes.false)) c.in_ok-transitions.transitions (sym c.transitions_of.ensures ∙ c.in_ok-transitions.was) in
    omega (arith, few, W.2, R.shape.processes.1)

pub overflow_mul-needed-3 : goal.overflow_mul-needed-3
overflow_mul-needed-3 c =
    let A = c.args in
    let R = found_read c.requires in
    let few = targets_few A.program.targets.count c.choices_of.result R.targets.2 (omega (arith, c.choices_of.ensures, product_most c.registers_of-has.result)) in
    let W = made_written c.requires c.registers_of-has.ensures (omega (arith, c.lowest_over-over.ensures, c.if-over-processes.false)) c.in_ok-transitions.transitions (sym c.transitions_of.ensures ∙ c.in_ok-transitions.was) in
    omega (arith, few, W.2, R.shape.processes.1)

pub overflow_add-needed-3 : goal.overflow_add-needed-3
overflow_add-needed-3 c =
    let A = c.args in
    let R = found_read c.requires in
    let few = targets_few A.program.targets.count c.choices_of.result R.targets.2 (omega (arith, c.choices_of.ensures, product_most c.registers_of-has.result)) in
    let W = made_written c.requires c.registers_of-has.ensures (omega (arith, c.lowest_over-over.ensures, c.if-over-processes.false)) c.in_ok-transitions.transitions (sym c.transitions_of.ensures ∙ c.in_ok-transitions.was) in
    omega (arith, few, W.2, R.shape.processes.1)

pub returns-then-out-needed : goal.returns-then-out-needed
returns-then-out-needed c =
    let A = c.args in
    let W = made_written c.requires c.registers_of-has.ensures (omega (arith, c.lowest_over-over.ensures, c.if-over-processes.false)) c.in_ok-transitions.transitions (sym c.transitions_of.ensures ∙ c.in_ok-transitions.was) in
    let f = A.file.now in
    let p = A.program in
    let M = made_of (register_program_of f p) (targets_of f p) in
    let t = c.in_ok-transitions.transitions in
    let k = c.choices_of.result in
    let N = needed_bytes c.requires c.registers_of-has.ensures t (p.targets.count * k) W.1 (ap (λ (x : ℕ). p.targets.count * x) c.choices_of.ensures) in
    let bytes = program_bytes (written (register_program_of f p)) (written_targets (register_program_of f p) (targets_of f p)) in
    let q = says_short 29 A.out.now M bytes (7 + 3 * p.shape.processes + 8 * t + 5 * (p.targets.count * k)) W.0 N c.if-out-needed.true in
    record { value = q.0; out_after = q.1 }

pub put_program-requires : goal.put_program-requires
put_program-requires c =
    let A = c.args in
    let W = made_written c.requires c.registers_of-has.ensures (omega (arith, c.lowest_over-over.ensures, c.if-over-processes.false)) c.in_ok-transitions.transitions (sym c.transitions_of.ensures ∙ c.in_ok-transitions.was) in
    let f = A.file.now in
    let p = A.program in
    let M = made_of (register_program_of f p) (targets_of f p) in
    let t = c.in_ok-transitions.transitions in
    let k = c.choices_of.result in
    let N = needed_bytes c.requires c.registers_of-has.ensures t (p.targets.count * k) W.1 (ap (λ (x : ℕ). p.targets.count * x) c.choices_of.ensures) in
    let bytes = program_bytes (written (register_program_of f p)) (written_targets (register_program_of f p) (targets_of f p)) in
    (c.requires, c.registers_of-has.ensures, omega (arith, N, c.if-out-needed.false))

pub returns : goal.returns
returns c =
    let A = c.args in
    let W = made_written c.requires c.registers_of-has.ensures (omega (arith, c.lowest_over-over.ensures, c.if-over-processes.false)) c.in_ok-transitions.transitions (sym c.transitions_of.ensures ∙ c.in_ok-transitions.was) in
    let f = A.file.now in
    let p = A.program in
    let M = made_of (register_program_of f p) (targets_of f p) in
    let t = c.in_ok-transitions.transitions in
    let k = c.choices_of.result in
    let N = needed_bytes c.requires c.registers_of-has.ensures t (p.targets.count * k) W.1 (ap (λ (x : ℕ). p.targets.count * x) c.choices_of.ensures) in
    let bytes = program_bytes (written (register_program_of f p)) (written_targets (register_program_of f p) (targets_of f p)) in
    let q = says_written 29 A.out.now M bytes _ (7 + 3 * p.shape.processes + 8 * t + 5 * (p.targets.count * k)) W.0 N c.if-out-needed.false (put_first c.put_program.ensures) in
    record { value = q.0; out_after = q.1 }
