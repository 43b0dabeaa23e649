use Prim.Native.Nat.{ℕ, ◌<◌}
use mathlib.Core.Path.{ap, ap₂, subst, ◌∙◌}
use mathlib.Core.Option.{Option, none}
use native.Mathlib.Omega.{arith}
use Rattle.std.specs.Prelude.{Some, None}
use Rattle.machine_pws.specs.Machine.{put}
use Rattle.pattern_theory.specs.Predecessors.{Cut, in_front, with_clue, with_newest, with_path, with_paths}
use Rattle.pattern_reading.specs.Records.{asked}
use Rattle.pattern_step.specs.Meaning.{clue_of, path_of, MessageBy, place_of, not_own}
use Rattle.pattern_step.specs.Numbers.{message_numbered, serialised}
use Rattle.pattern_step.proofs.OperationLaws.{gives_none, gives_one, clue_here, clue_most, path_here, path_most, path_fine}
use Rattle.pattern_step.proofs.StoreLaws.{cut_of, own_cut_lem, no_given, given_one, finished}
use Rattle.pattern_step.proofs.stores.before_serialise.Goals as goal

pub returns-in_err-next : goal.returns-in_err-next
returns-in_err-next c e w b d =
    let ph = path_here w c.args.p b c.path_of-path.result c.path_of-path.ensures in
    let pm = path_most w c.args.p b c.path_of-path.result c.path_of-path.ensures in
    let oe = c.place_of-own.ensures.place ∙ ap (place_of c.args.x) ph in
    let re = c.not_own.ensures.0 ∙ ap₂ not_own oe ph in
    let v = c.with_path.ensures c.args.shape 8 16 16 e w b (omega arith) (omega (arith, c.not_own.ensures.1)) (c.not_own.ensures.2 (path_fine w c.args.p b c.path_of-path.result c.path_of-path.ensures)) in
    let m = c.in_err-next.ensures e (path_of c.not_own.result) (serialised e c.args.p c.args.x) v b in
    let m = subst (λ (k : Cut). MessageBy c.args.shape (with_path e c.args.p (path_of c.not_own.result)) (serialised e c.args.p c.args.x) None (message_numbered c.args.shape.processes e.newest e.path c.args.p c.args.x k (serialised e c.args.p c.args.x) c.args.j)) (ap₂ cut_of oe re ∙ own_cut_lem c.args.x (e.path c.args.p)) m in
    gives_none c.from_residual.ensures (no_given m)

pub returns : goal.returns
returns c e w b d =
    let ph = path_here w c.args.p b c.path_of-path.result c.path_of-path.ensures in
    let pm = path_most w c.args.p b c.path_of-path.result c.path_of-path.ensures in
    let oe = c.place_of-own.ensures.place ∙ ap (place_of c.args.x) ph in
    let re = c.not_own.ensures.0 ∙ ap₂ not_own oe ph in
    let v = c.with_path.ensures c.args.shape 8 16 16 e w b (omega arith) (omega (arith, c.not_own.ensures.1)) (c.not_own.ensures.2 (path_fine w c.args.p b c.path_of-path.result c.path_of-path.ensures)) in
    let m = c.in_ok-next.ensures e (path_of c.not_own.result) (serialised e c.args.p c.args.x) v b in
    let m = subst (λ (k : Cut). MessageBy c.args.shape (with_path e c.args.p (path_of c.not_own.result)) (serialised e c.args.p c.args.x) (Some c.in_ok-next.next) (message_numbered c.args.shape.processes e.newest e.path c.args.p c.args.x k (serialised e c.args.p c.args.x) c.args.j)) (ap₂ cut_of oe re ∙ own_cut_lem c.args.x (e.path c.args.p)) m in
    let g = given_one m in
    let dw : c.from-at.result < c.args.shape.variables = omega (arith, c.from-at.ensures) in
    let i = c.in_front-clue.ensures (clue_most w c.args.p b c.from-at.result dw c.clue_of.result c.clue_of.ensures) in
    let ke = i.clue ∙ ap₂ in_front (ap asked c.newest_of.ensures ∙ ap (λ (f : ℕ → Option ℕ). f c.args.x) g.2.newest) (clue_here w c.args.p b c.from-at.result dw c.clue_of.result c.clue_of.ensures ∙ ap (e.clue c.args.p) c.from-at.ensures) in
    let ne = c.newest_with-newest.ensures (omega (arith, w.variables)) ∙ ap (λ (f : ℕ → Option ℕ). put f c.args.x none) g.2.newest in
    let q = c.with_clue.ensures c.args.shape 8 16 9 (with_paths (with_newest (with_path e c.args.p (path_of c.not_own.result)) g.0) g.1) g.2 b dw (omega arith) i.most in
    let q = c.with_newest.ensures c.args.shape 9 16 (with_clue (with_paths (with_newest (with_path e c.args.p (path_of c.not_own.result)) g.0) g.1) c.args.p c.from-at.result (clue_of c.in_front-clue.result)) q in
    gives_one (finished e c.args.p (path_of c.not_own.result) g.0 g.1 q c.from-at.ensures ke ne) g.3
