use Prim.Native.Nat.{ℕ, ◌≤◌}
use mathlib.Core.Path.{◌≡◌, sym, ap, ◌∙◌}
use native.Mathlib.Omega.{arith}
use Rattle.std.specs.Prelude.{Result, Ok, Err}
use Rattle.std.proofs.lemmas.Result.{err_from_is_err_and}
use Rattle.file_contents.specs.declared.evidence.Part.TheVariants.{InEvidence}
use Rattle.file_contents.specs.EvidencePart.{entries_allowed}
use Rattle.file_contents.specs.Reading.{in_part}
use Rattle.pattern_pass.specs.Passing.{pass_counted}
use Rattle.pattern_pass.proofs.PassLaws.{claim_room, refused_returned, patterns_returned}
use Rattle.pattern_pass.proofs.reading.pass_evidence.Goals as goal

few : {r : ℕ} (n : ℕ) → r ≡ entries_allowed n → r ≤ 524288
unfolding entries_allowed
few n e = omega (arith, e)

pub returns-in_err-unless_end : goal.returns-in_err-unless_end
returns-in_err-unless_end c = let p = err_from_is_err_and c.from_residual.result c.from_residual.ensures.1 in
    let r = refused_returned c.args.file.now c.args.at c.args.program c.args.work.now _ _ c.check_claim.ensures c.unless_end.ensures p.0 (rw p.2 c.in_err-unless_end.was) _ p.1 in
    record { value = r.0; work_after = r.1 }

pub overflow_add-first : goal.overflow_add-first
overflow_add-first c = omega (arith, claim_room c.args.file.now c.args.at c.args.program c.args.work.now _ _ c.check_claim.ensures c.unless_end.ensures c.in_ok-unless_end.was)

pub patterns_from-requires : goal.patterns_from-requires
patterns_from-requires c = (c.requires.1, c.requires.2, few _ c.entries_allowed-most.ensures)

pub returns-in_err-count : goal.returns-in_err-count
returns-in_err-count c = let p = err_from_is_err_and c.from_residual-in_err-count.result c.from_residual-in_err-count.ensures.1 in
    let d : c.patterns_from.result ≡ Err p.0 = rw p.2 c.in_err-count.was in
    let r = patterns_returned c.args.file.now c.args.at c.args.program c.args.work.now _ _ c.check_claim.ensures c.unless_end.ensures c.in_ok-unless_end.was c.requires.0 _ c.entries_allowed-most.ensures _ c.patterns_from.ensures.value _ c.patterns_from.ensures.list_after _ (ap (in_part InEvidence) p.1 ∙ ap (pass_counted c.args.program) (sym d)) in
    record { value = r.0; work_after = r.1 }

pub returns : goal.returns
returns c = let d = c.in_ok-count.was in
    let r = patterns_returned c.args.file.now c.args.at c.args.program c.args.work.now _ _ c.check_claim.ensures c.unless_end.ensures c.in_ok-unless_end.was c.requires.0 _ c.entries_allowed-most.ensures _ c.patterns_from.ensures.value _ c.patterns_from.ensures.list_after (Ok (record { program = c.args.program; count = c.in_ok-count.count })) (ap (pass_counted c.args.program) (sym d)) in
    record { value = r.0; work_after = r.1 }
