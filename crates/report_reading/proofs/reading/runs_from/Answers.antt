use Prim.Native.Nat.{ℕ}
use mathlib.Core.Path.{◌≡◌, sym, ap, ◌∙◌}
use mathlib.Core.List.{List}
use native.Mathlib.Omega.{arith}
use lib.ListN.{length}
use Rattle.std.proofs.lemmas.Result.{err_from_is_err_and}
use Rattle.std.specs.Prelude.{Result, Err, ⊤}
use Rattle.file_records.specs.declared.program.Refusal.{Refusal}
use Rattle.report_reading.specs.Reading.{read_part}
use Rattle.report_reading.specs.Answers.{part_answer}
use Rattle.report_reading.proofs.RunLaws.{known_begin, known_over, known_more, known_due, known_ready, known_refused, known_kept, known_next}
use Rattle.report_reading.proofs.reading.runs_from.Goals as goal

said : (f : List ℕ) (k : ℕ) {work work₀ : List ℕ} {x y : Result ⊤ Refusal} → work ≡ work₀ → x ≡ part_answer f k (read_part f (length work) k) → x ≡ y → part_answer f k (read_part f (length work₀) k) ≡ y
said f k e a b = sym (a ∙ ap (λ (w : List ℕ). part_answer f k (read_part f (length w) k)) e) ∙ b

pub loop-init : goal.loop-init
loop-init c = known_begin c.args.file.now c.args.n c.args.at c.args.work.now c.requires.inside

pub returns-in_err-due_claim-clause-value : goal.returns-in_err-due_claim-clause-value
returns-in_err-due_claim-clause-value c = let p = err_from_is_err_and c.from_residual.result c.from_residual.ensures.1 in
    p.1 ∙ known_due c.loop.invariant c.loop-test.true p.0 (rw p.2 (sym c.due_claim.ensures ∙ c.in_err-due_claim.was))

pub read_part-requires : goal.read_part-requires
read_part-requires c = known_ready c.loop.invariant c.requires

pub returns-in_err-read_part-clause-value : goal.returns-in_err-read_part-clause-value
returns-in_err-read_part-clause-value c = let p = err_from_is_err_and c.from_residual-in_err-read_part.result c.from_residual-in_err-read_part.ensures.1 in
    let K = c.loop.invariant in
    p.1 ∙ known_refused K c.loop-test.true (sym c.due_claim.ensures ∙ c.in_ok-due_claim.was) p.0 (said c.args.file.now c.loop.k K.same c.read_part.ensures.value (rw p.2 c.in_err-read_part.was))

pub returns-in_err-read_part-clause-work_unchanged : goal.returns-in_err-read_part-clause-work_unchanged
returns-in_err-read_part-clause-work_unchanged c = known_kept c.loop.invariant c.loop-test.true (sym c.due_claim.ensures ∙ c.in_ok-due_claim.was) c.requires c.read_part.ensures.work_after

pub loop-preserved : goal.loop-preserved
loop-preserved c = let K = c.loop.invariant in
    known_next K c.loop-test.true (sym c.due_claim.ensures ∙ c.in_ok-due_claim.was) c.requires (said c.args.file.now c.loop.k K.same c.read_part.ensures.value c.in_ok-read_part.was) c.read_part.ensures.work_after c.evidence_end-k.ensures

pub returns-then-file-k-clause-value : goal.returns-then-file-k-clause-value
returns-then-file-k-clause-value c = let K = c.loop.invariant in known_over K (omega (arith, K.most, c.loop-test.false)) c.if-file-k.true

pub returns-clause-value : goal.returns-clause-value
returns-clause-value c = let K = c.loop.invariant in
    ap {A = ℕ} {B = Result ⊤ Refusal} (λ m. Err (record { number = m; place = c.loop.k })) c.over_number.ensures ∙ known_more K (omega (arith, K.most, c.loop-test.false)) c.if-file-k.false
