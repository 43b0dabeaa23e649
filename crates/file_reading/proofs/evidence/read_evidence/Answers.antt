use Prim.Native.Nat.{ℕ, ◌+◌, ◌≤◌}
use mathlib.Core.Path.{◌≡◌, sym, ap, ◌∙◌}
use mathlib.Core.List.{List}
use native.Mathlib.Omega.{arith}
use Rattle.std.specs.Prelude.{Result, Ok, Err}
use Rattle.std.proofs.lemmas.Result.{err_from_is_err_and}
use Rattle.file_contents.specs.declared.evidence.Part.TheVariants.{InEvidence}
use Rattle.file_contents.specs.EvidencePart.{entries_allowed}
use Rattle.file_contents.specs.Reading.{in_part, no_memory, reading_with, count_reading}
use Rattle.file_reading.proofs.EvidenceLaws.{claim_room, refused_returned, entries_returned, run_returned}
use Rattle.file_reading.proofs.evidence.read_evidence.Goals as goal

few : (n m : ℕ) → m ≡ entries_allowed n → m ≤ 524288
unfolding entries_allowed
few n m e = omega (arith, e)

pub returns-in_err-unless_end : goal.returns-in_err-unless_end
returns-in_err-unless_end c = let p = err_from_is_err_and c.from_residual.result c.from_residual.ensures.1 in
    let r = refused_returned c.args.file.now c.args.at c.args.program c.args.work.now _ _ c.check_claim.ensures c.unless_end.ensures p.0 (rw p.2 c.in_err-unless_end.was) _ p.1 in
    record { value = r.0; work_after = r.1 }

pub returns-then-claim-ne0 : goal.returns-then-claim-ne0
returns-then-claim-ne0 c = let r = run_returned c.args.file.now c.args.at c.args.program c.args.work.now _ _ c.check_claim.ensures c.unless_end.ensures c.in_ok-unless_end.was _ c.field-claim.ensures c.if-claim-ne0.true _ c.read_run.ensures in record { value = r.0; work_after = r.1 }

pub overflow_add-first : goal.overflow_add-first
overflow_add-first c = omega (arith, claim_room c.args.file.now c.args.at c.args.program c.args.work.now _ _ c.check_claim.ensures c.unless_end.ensures c.in_ok-unless_end.was)

pub entries_from-requires : goal.entries_from-requires
entries_from-requires c = (c.requires.1, c.requires.2, few _ _ c.entries_allowed-most.ensures)

pub returns-in_err-count : goal.returns-in_err-count
returns-in_err-count c = let p = err_from_is_err_and c.from_residual-in_err-count.result c.from_residual-in_err-count.ensures.1 in
    let d : c.entries_from.result ≡ Err p.0 = rw p.2 c.in_err-count.was in
    let r = entries_returned c.args.file.now c.args.at c.args.program c.args.work.now _ _ c.check_claim.ensures c.unless_end.ensures c.in_ok-unless_end.was _ c.field-claim.ensures c.if-claim-ne0.false c.requires.0 _ c.entries_allowed-most.ensures _ c.entries_from.ensures.value _ c.entries_from.ensures.list_after _ (ap (in_part InEvidence) p.1 ∙ ap (count_reading c.args.program 0 no_memory (c.args.at + 2)) (sym d)) in
    record { value = r.0; work_after = r.1 }

pub returns : goal.returns
returns c = let d = c.in_ok-count.was in
    let r = entries_returned c.args.file.now c.args.at c.args.program c.args.work.now _ _ c.check_claim.ensures c.unless_end.ensures c.in_ok-unless_end.was _ c.field-claim.ensures c.if-claim-ne0.false c.requires.0 _ c.entries_allowed-most.ensures _ c.entries_from.ensures.value _ c.entries_from.ensures.list_after (Ok (record { program = c.args.program; claim = c.field-claim.result; memory = no_memory; evidence = record { at = c.args.at + 2; count = c.in_ok-count.count } })) (ap (λ (k : ℕ). reading_with c.args.program k no_memory (c.args.at + 2) c.in_ok-count.count) c.if-claim-ne0.false ∙ ap (count_reading c.args.program 0 no_memory (c.args.at + 2)) (sym d)) in
    record { value = r.0; work_after = r.1 }
