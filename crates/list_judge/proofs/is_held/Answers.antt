use mathlib.Core.Path.{◌≡◌, refl, sym, subst, ◌∙◌}
use mathlib.Core.Bool.{true}
use lib.ListN.{length, get_or}
use Rattle.machine_pws.specs.Program as pws
use Rattle.list_theory.specs.Decision.{target_held}
use Rattle.file_records.specs.declared.program.Shape.{Shape}
use Rattle.file_records.specs.ProgramPart.{shape_of, program_of}
use Rattle.file_again.specs.Again.{entries_of}
use Rattle.list_targets.specs.Walk.{Searches}
use Rattle.list_judge.specs.Ready.{HoldsIn}
use Rattle.list_judge.proofs.ListLaws.{searches, held_by}
use Rattle.list_judge.proofs.ShutLaws.{known_has, known_put, held_alike}
use borrow.Author.Rules.{rules}
use Rattle.list_judge.proofs.is_held.Goals as goal

pub returns-then-has_states : goal.returns-then-has_states
returns-then-has_states c = record { held_len_unchanged = refl; holds = λ R K. (K, λ l. sym (known_has K (c.has_states.ensures c.if-has_states.true) c.args.k l c.target_of-states.ensures)) }

pub returns-then-not-target_held : goal.returns-then-not-target_held
returns-then-not-target_held c = record { held_len_unchanged = refl; holds = λ R K. (K, λ l. sym c.if-not-target_held.true ∙ held_by c.args.judged.now.code.now c.args.judged.now.listing.file.now c.args.judged.now.listing.offsets.now c.args.judged.now.listing.summary.now c.args.judged.now.listing.count c.args.judged.now.program R c.args.k l _ _ c.target_of-states.ensures (subst (λ (s : Shape). (Q : pws.Program) → Q.shape ≡ shape_of s → Searches c.args.judged.now.listing.file.now c.args.judged.now.listing.offsets.now c.args.judged.now.listing.summary.now c.args.judged.now.listing.count s → c.target_held.result ≡ target_held Q (entries_of c.args.judged.now.listing.file.now c.args.judged.now.listing.offsets.now c.args.judged.now.listing.count) (λ q. get_or c.target_of-states.result q 0)) c.args.judged.now.shaped c.target_held.ensures)) }

pub returns : goal.returns
returns c = let four : length c.target_of-states.result ≡ 4 = search rules in
    let held : c.target_held.result ≡ true = c.if-not-target_held.false in record {
      held_len_unchanged = search rules;
      holds = λ R K. (
        subst (HoldsIn c.args.judged.now.listing c.args.judged.now.code.now c.args.judged.now.program) (sym c.put_full.ensures) (known_put K four (λ k b e.
            held_alike c.args.judged.now.code.now c.args.judged.now.listing.file.now c.args.judged.now.listing.offsets.now c.args.judged.now.listing.summary.now c.args.judged.now.listing.count c.args.judged.now.program R k b e (sym ((subst (λ (s : Shape). (Q : pws.Program) → Q.shape ≡ shape_of s → Searches c.args.judged.now.listing.file.now c.args.judged.now.listing.offsets.now c.args.judged.now.listing.summary.now c.args.judged.now.listing.count s → c.target_held.result ≡ target_held Q (entries_of c.args.judged.now.listing.file.now c.args.judged.now.listing.offsets.now c.args.judged.now.listing.count) (λ q. get_or c.target_of-states.result q 0)) c.args.judged.now.shaped c.target_held.ensures) (program_of c.args.judged.now.code.now c.args.judged.now.program) refl (searches c.args.judged.now.code.now c.args.judged.now.listing.file.now c.args.judged.now.listing.offsets.now c.args.judged.now.listing.summary.now c.args.judged.now.listing.count c.args.judged.now.program R)) ∙ held))),
        λ l. sym held ∙ held_by c.args.judged.now.code.now c.args.judged.now.listing.file.now c.args.judged.now.listing.offsets.now c.args.judged.now.listing.summary.now c.args.judged.now.listing.count c.args.judged.now.program R c.args.k l _ _ c.target_of-states.ensures (subst (λ (s : Shape). (Q : pws.Program) → Q.shape ≡ shape_of s → Searches c.args.judged.now.listing.file.now c.args.judged.now.listing.offsets.now c.args.judged.now.listing.summary.now c.args.judged.now.listing.count s → c.target_held.result ≡ target_held Q (entries_of c.args.judged.now.listing.file.now c.args.judged.now.listing.offsets.now c.args.judged.now.listing.count) (λ q. get_or c.target_of-states.result q 0)) c.args.judged.now.shaped c.target_held.ensures),
      );
    }
