use Prim.Native.Nat.{ℕ, ◌+◌}
use mathlib.Core.Path.{◌≡◌, sym, ap, ap₂, ◌∙◌}
use mathlib.Core.List.{List}
use native.Mathlib.Omega.{arith}
use Rattle.std.specs.Prelude.{Result, Ok, Err, ⊤}
use Rattle.std.proofs.lemmas.Result.{err_from_is_err_and}
use Rattle.file_records.specs.declared.program.Refusal.{Refusal}
use Rattle.file_records.specs.Records.{checked, start_number, memory_at}
use Rattle.file_records.specs.ProgramPart.{unless_end}
use Rattle.file_contents.specs.declared.evidence.Part.TheVariants.{InEvidence}
use Rattle.file_contents.specs.EvidencePart.{steps_from}
use Rattle.file_contents.specs.Reading.{in_part, reading_with, count_reading, evidence_reading}
use Rattle.file_contents.proofs.ReadingLaws.{start_refused, run_steps, start_fits}
use Rattle.file_reading.proofs.evidence.read_run.Goals as goal

-- the 1F is fine, or its refusal
told : (f : List ℕ) (at : ℕ) {x y z w : Result ⊤ Refusal} → x ≡ y → z ≡ unless_end f at x → z ≡ w → unless_end f at y ≡ w
told f at e d h = sym (ap (unless_end f at) e) ∙ sym d ∙ h

pub returns-in_err-unless_end : goal.returns-in_err-unless_end
returns-in_err-unless_end c = λ k h. let a = c.args in
    let f = a.file.now in
    let p = err_from_is_err_and c.from_residual.result c.from_residual.ensures.1 in
    let u : unless_end f a.at (checked (start_number a.program.shape f a.at) a.at) ≡ Err p.0 = rw p.2 (told f a.at c.check_start.ensures c.unless_end.ensures c.in_err-unless_end.was) in
    ap (in_part InEvidence) p.1 ∙ sym (ap (evidence_reading k a.program) (start_refused f a.claim a.at a.program p.0 u))

pub overflow_add-first : goal.overflow_add-first
overflow_add-first c = omega (arith, start_fits c.args.file.now c.args.claim c.args.at c.args.program (told c.args.file.now c.args.at c.check_start.ensures c.unless_end.ensures c.in_ok-unless_end.was))

pub returns-in_err-count : goal.returns-in_err-count
returns-in_err-count c = λ k h. let a = c.args in
    let f = a.file.now in
    let p = err_from_is_err_and c.from_residual-in_err-count.result c.from_residual-in_err-count.ensures.1 in
    let d : steps_from a.program.shape a.program.transitions.count f (a.at + 5) ≡ Err p.0 = rw p.2 (sym c.steps_from.ensures ∙ c.in_err-count.was) in
    let e = run_steps f a.claim a.at a.program (told f a.at c.check_start.ensures c.unless_end.ensures c.in_ok-unless_end.was) in
    ap (in_part InEvidence) p.1 ∙ ap (count_reading a.program a.claim (memory_at f a.at) (k + 2 + 5)) (sym d) ∙ sym (ap (evidence_reading k a.program) e)

pub returns : goal.returns
returns c = λ k h. let a = c.args in
    let f = a.file.now in
    let n = c.in_ok-count.count in
    let d : steps_from a.program.shape a.program.transitions.count f (a.at + 5) ≡ Ok n = sym c.steps_from.ensures ∙ c.in_ok-count.was in
    let e = run_steps f a.claim a.at a.program (told f a.at c.check_start.ensures c.unless_end.ensures c.in_ok-unless_end.was) in
    ap₂ (λ (m : List ℕ) (i : ℕ). reading_with a.program a.claim m (i + 5) n) c.memory_at-memory.ensures h
    ∙ ap (count_reading a.program a.claim (memory_at f a.at) (k + 2 + 5)) (sym d)
    ∙ sym (ap (evidence_reading k a.program) e)
