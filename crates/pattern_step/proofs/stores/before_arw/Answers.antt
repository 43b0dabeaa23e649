use Prim.Native.Nat.{ℕ, ◌<◌}
use mathlib.Core.Path.{refl, sym, ap, ap₂, ◌∙◌}
use mathlib.Core.Option.{Option, some}
use mathlib.Core.List.{[], ◌∷◌}
use native.Mathlib.Omega.{arith}
use Rattle.machine_pws.specs.Machine.{put}
use Rattle.pattern_theory.specs.Patterns.{empty}
use Rattle.pattern_theory.specs.Predecessors.{can_empty, with_clue, with_newest, with_path, with_paths}
use Rattle.pattern_theory.specs.Within.{covers}
use Rattle.pattern_reading.specs.Records.{asked}
use Rattle.pattern_step.specs.Numbers.{message_numbered, swapped}
use Rattle.pattern_step.proofs.OperationLaws.{gives_none, gives_one, provided_no, provided_yes, clue_here}
use Rattle.pattern_step.proofs.ClueLaws.{asked_value}
use Rattle.pattern_step.proofs.StoreLaws.{no_given, given_one, same_path, agrees_is, finished}
use Rattle.pattern_step.proofs.stores.before_arw.Goals as goal

pub returns-then-not-can_empty : goal.returns-then-not-can_empty
returns-then-not-can_empty c e w b d u =
    let dw : c.from-at.result < c.args.shape.variables = omega (arith, c.from-at.ensures) in
    let k = clue_here w c.args.p b c.from-at.result dw c.clue_of.result c.clue_of.ensures ∙ ap (e.clue c.args.p) c.from-at.ensures in
    gives_none refl (provided_no (message_numbered c.args.shape.processes e.newest e.path c.args.p c.args.x (record { front = []; end = e.path c.args.p }) (swapped e c.args.p c.args.x c.args.old c.args.new) c.args.j) (ap can_empty (sym k) ∙ sym c.can_empty.ensures ∙ c.if-not-can_empty.true))

pub returns-in_err-next : goal.returns-in_err-next
returns-in_err-next c e w b d u =
    let dw : c.from-at.result < c.args.shape.variables = omega (arith, c.from-at.ensures) in
    let k = clue_here w c.args.p b c.from-at.result dw c.clue_of.result c.clue_of.ensures ∙ ap (e.clue c.args.p) c.from-at.ensures in
    gives_none c.from_residual.ensures (no_given (c.in_err-next.ensures e (e.path c.args.p) (swapped e c.args.p c.args.x c.args.old c.args.new) (same_path c.args.p w) b) ∙ provided_yes (message_numbered c.args.shape.processes e.newest e.path c.args.p c.args.x (record { front = []; end = e.path c.args.p }) (swapped e c.args.p c.args.x c.args.old c.args.new) c.args.j) (ap can_empty (sym k) ∙ sym c.can_empty.ensures ∙ c.if-not-can_empty.false))

pub returns-then-not-goes_to : goal.returns-then-not-goes_to
returns-then-not-goes_to c e w b d u =
    let dw : c.from-at.result < c.args.shape.variables = omega (arith, c.from-at.ensures) in
    let k = clue_here w c.args.p b c.from-at.result dw c.clue_of.result c.clue_of.ensures ∙ ap (e.clue c.args.p) c.from-at.ensures in
    let g = given_one (c.in_ok-next.ensures e (e.path c.args.p) (swapped e c.args.p c.args.x c.args.old c.args.new) (same_path c.args.p w) b) in
    let ag = sym (agrees_is (g.0 c.args.x) c.args.new) ∙ ap (λ (y : Option ℕ). covers y (some c.args.new)) (sym (ap asked c.newest_of.ensures ∙ ap (λ (f : ℕ → Option ℕ). f c.args.x) g.2.newest)) ∙ sym c.goes_to.ensures.1 in
    gives_none refl (provided_no (with_paths (with_newest (with_clue e c.args.p c.args.x empty) (put g.0 c.args.x (some c.args.old))) g.1 ∷ []) (ag ∙ c.if-not-goes_to.true) ∙ g.3 ∙ provided_yes (message_numbered c.args.shape.processes e.newest e.path c.args.p c.args.x (record { front = []; end = e.path c.args.p }) (swapped e c.args.p c.args.x c.args.old c.args.new) c.args.j) (ap can_empty (sym k) ∙ sym c.can_empty.ensures ∙ c.if-not-can_empty.false))

pub returns : goal.returns
returns c e w b d u =
    let dw : c.from-at.result < c.args.shape.variables = omega (arith, c.from-at.ensures) in
    let k = clue_here w c.args.p b c.from-at.result dw c.clue_of.result c.clue_of.ensures ∙ ap (e.clue c.args.p) c.from-at.ensures in
    let g = given_one (c.in_ok-next.ensures e (e.path c.args.p) (swapped e c.args.p c.args.x c.args.old c.args.new) (same_path c.args.p w) b) in
    let ag = sym (agrees_is (g.0 c.args.x) c.args.new) ∙ ap (λ (y : Option ℕ). covers y (some c.args.new)) (sym (ap asked c.newest_of.ensures ∙ ap (λ (f : ℕ → Option ℕ). f c.args.x) g.2.newest)) ∙ sym c.goes_to.ensures.1 in
    let ne = c.newest_with-newest.ensures (omega (arith, w.variables)) ∙ ap₂ (λ (f : ℕ → Option ℕ) (y : Option ℕ). put f c.args.x y) g.2.newest (asked_value {x = c.args.old} (λ h. omega arith)) in
    let q = c.with_clue.ensures c.args.shape 8 16 9 (with_paths (with_newest (with_path e c.args.p (e.path c.args.p)) g.0) g.1) g.2 b dw (omega arith) (omega arith) in
    let q = c.with_newest.ensures c.args.shape 9 16 (with_clue (with_paths (with_newest (with_path e c.args.p (e.path c.args.p)) g.0) g.1) c.args.p c.from-at.result empty) q in
    gives_one (finished e c.args.p (e.path c.args.p) g.0 g.1 q c.from-at.ensures refl ne)
    (provided_yes (with_paths (with_newest (with_clue e c.args.p c.args.x empty) (put g.0 c.args.x (some c.args.old))) g.1 ∷ []) (ag ∙ c.if-not-goes_to.false) ∙ g.3 ∙ provided_yes (message_numbered c.args.shape.processes e.newest e.path c.args.p c.args.x (record { front = []; end = e.path c.args.p }) (swapped e c.args.p c.args.x c.args.old c.args.new) c.args.j) (ap can_empty (sym k) ∙ sym c.can_empty.ensures ∙ c.if-not-can_empty.false))
