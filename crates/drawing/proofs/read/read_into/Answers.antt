use Rattle.std.proofs.lemmas.Result.{err_from_is_err_and}
use Rattle.drawing.specs.Runs.{records_of}
use Rattle.drawing.specs.Reading.{edges_at, records_in, steps_in}
use Rattle.drawing.proofs.ReadLaws.{nodes_few}
use Rattle.drawing.proofs.DotLaws.{no_nodes, no_edges, all_edges, needed_is, readable}
use Rattle.drawing.proofs.WriteLaws.{says_refused, says_short, says_written, placed_first}
use mathlib.Core.Path.{sym, ◌∙◌}
use Rattle.drawing.proofs.read.read_into.Goals as goal

pub returns-in_err-nodes : goal.returns-in_err-nodes
returns-in_err-nodes c =
    let t = c.args.text.now in
    let p = err_from_is_err_and c.from_residual.result c.from_residual.ensures.1 in
    let q = says_refused 26 c.args.out.now (records_in t) 27 c.in_err-nodes.field-0.0.place (no_nodes t _ (sym c.nodes_read.ensures ∙ c.in_err-nodes.was)) in
    record { value = rw (p.1, p.2) q.0; out_after = q.1 }

pub edges_size-requires : goal.edges_size-requires
edges_size-requires c = nodes_few c.args.text.now _ _ (sym c.nodes_read.ensures ∙ c.in_ok-nodes.was)

pub returns-in_err-needed : goal.returns-in_err-needed
returns-in_err-needed c =
    let t = c.args.text.now in
    let p = err_from_is_err_and c.from_residual-in_err-needed.result c.from_residual-in_err-needed.ensures.1 in
    let e = sym c.nodes_read.ensures ∙ c.in_ok-nodes.was in
    let q = says_refused 26 c.args.out.now (records_in t) 27 c.in_err-needed.field-0.0.place (no_edges t _ _ e _ (sym c.edges_size.ensures ∙ c.in_err-needed.was)) in
    record { value = rw (p.1, p.2) q.0; out_after = q.1 }

pub returns-then-out-needed : goal.returns-then-out-needed
returns-then-out-needed c =
    let t = c.args.text.now in
    let n = c.in_ok-nodes.nodes in
    let e = sym c.nodes_read.ensures ∙ c.in_ok-nodes.was in
    let d = sym c.edges_size.ensures ∙ c.in_ok-needed.was in
    let q = says_short 26 c.args.out.now (records_in t) (records_of (steps_in (edges_at n.edges t n.at 0))) _ (all_edges t _ _ e _ d) (needed_is t _ _ e _ d) c.if-out-needed.true in
    record { value = q.0; out_after = q.1 }

pub put_records-requires : goal.put_records-requires
put_records-requires c =
    readable c.args.text.now _ _ (sym c.nodes_read.ensures ∙ c.in_ok-nodes.was) _ (sym c.edges_size.ensures ∙ c.in_ok-needed.was) _ c.if-out-needed.false

pub returns : goal.returns
returns c =
    let t = c.args.text.now in
    let n = c.in_ok-nodes.nodes in
    let e = sym c.nodes_read.ensures ∙ c.in_ok-nodes.was in
    let d = sym c.edges_size.ensures ∙ c.in_ok-needed.was in
    let w = records_of (steps_in (edges_at n.edges t n.at 0)) in
    let q = says_written 26 c.args.out.now (records_in t) w _ _ (all_edges t _ _ e _ d) (needed_is t _ _ e _ d) c.if-out-needed.false (c.put_records.ensures ∙ placed_first c.args.out.now w) in
    record { value = q.0; out_after = q.1 }
