use mathlib.Core.Path.{◌≡◌, refl, sym, subst}
use mathlib.Core.Bool.{false≢true}
use lib.ListN.{length}
use Rattle.list_judge.specs.Ready.{ShutsIn}
use Rattle.list_judge.proofs.ShutLaws.{known_has, shuts_put, surrounded_closed}
use borrow.Author.Rules.{rules}
use Rattle.list_judge.proofs.is_shut.Goals as goal

pub returns-then-has_states : goal.returns-then-has_states
returns-then-has_states c = record { shut_len_unchanged = refl; by_index = λ R F S. (S, λ t l. known_has S (c.has_states.ensures c.if-has_states.true) c.args.k l c.states-states.ensures) }

pub returns-then-not-is_surrounded : goal.returns-then-not-is_surrounded
returns-then-not-is_surrounded c = record { shut_len_unchanged = refl; by_index = λ R F S. (S, λ t. absurd (false≢true t)) }

pub returns : goal.returns
returns c = let four : length c.states-states.result ≡ 4 = search rules in
    let around = c.is_surrounded.ensures c.if-not-is_surrounded.false in record {
      shut_len_unchanged = search rules;
      by_index = λ R F S. (
        subst (ShutsIn c.args.closing.now.listing c.args.closing.now.code.now c.args.closing.now.program) (sym c.put_full.ensures) (shuts_put c.args.closing.now.code.now c.args.closing.now.listing.file.now c.args.closing.now.listing.offsets.now c.args.closing.now.listing.summary.now c.args.closing.now.listing.count c.args.closing.now.program R c.args.closing.now.full.now F S around four),
        λ t l. surrounded_closed c.args.closing.now.code.now c.args.closing.now.listing.file.now c.args.closing.now.listing.offsets.now c.args.closing.now.listing.summary.now c.args.closing.now.listing.count c.args.closing.now.program R c.args.closing.now.full.now F around c.args.k l (sym c.states-states.ensures),
      );
    }
