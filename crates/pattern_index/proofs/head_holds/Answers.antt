use Rattle.std.proofs.Common.{◌∙◌}
use Rattle.pattern_index.proofs.IndexLaws.{head_not, head_rest}
use Rattle.pattern_index.proofs.head_holds.Goals as goal

pub returns-then-states_match : goal.returns-then-states_match
returns-then-states_match c =
    head_rest c.args.shape c.args.file.now c.args.list.now c.args.states c.args.newest c.args.k _ _ c.states_at.ensures c.states_match.ensures c.if-states_match.true _ _
    c.values_at.ensures c.values_hold.ensures

pub returns-else-states_match : goal.returns-else-states_match
returns-else-states_match c =
    c.if-states_match.false
    ∙ head_not c.args.shape c.args.file.now c.args.list.now c.args.states c.args.newest c.args.k _ _ c.states_at.ensures c.states_match.ensures c.if-states_match.false
