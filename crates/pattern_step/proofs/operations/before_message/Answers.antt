use Prim.Native.Nat.{ℕ, ◌<◌, ◌≤◌}
use mathlib.Core.Path.{◌≡◌, refl, sym, ap, subst, ◌∙◌}
use mathlib.Core.List.{List, [], map}
use native.Mathlib.Omega.{arith}
use lib.ListN.{length}
use Rattle.pattern_theory.specs.Patterns.{PathRead, empty}
use Rattle.pattern_theory.specs.Predecessors.{can_empty, first_own, with_clue, with_path}
use Rattle.pattern_step.specs.Meaning.{Stands, place_of}
use Rattle.pattern_step.specs.Numbers.{inserted_at, read_numbered}
use Rattle.pattern_step.proofs.OperationLaws.{gives_none, gives_one, provided_no, provided_yes, clue_here, path_here, path_most, path_fine, own_behind, own_other, own_same, free_past, free_in, place_most}
use Rattle.pattern_step.proofs.EditLaws.{wider}
use Rattle.pattern_step.proofs.PathLaws.{reads_most}
use Rattle.pattern_step.proofs.operations.before_message.Goals.{then-n-ne0-via-then-n-ne0, then-n-ne0-via-else-n-ne0+then-own-v}
use Rattle.pattern_step.proofs.operations.before_message.Goals as goal

pub returns-then-not-can_empty : goal.returns-then-not-can_empty
returns-then-not-can_empty c s e w b d u =
    let dw : c.from-at.result < s.variables = omega (arith, c.from-at.ensures) in
    let k = clue_here w c.args.p b c.from-at.result dw c.clue_of.result c.clue_of.ensures ∙ ap (e.clue c.args.p) c.from-at.ensures in
    gives_none refl (provided_no (map (with_path (with_clue e c.args.p c.args.x empty) c.args.p) (read_numbered c.args.x c.args.v (e.path c.args.p) c.args.n)) (ap can_empty (sym k) ∙ sym c.can_empty.ensures ∙ c.if-not-can_empty.true))

pub returns-then-n-ne0 : goal.returns-then-n-ne0
returns-then-n-ne0 c s e w b d u =
    let dw : c.from-at.result < s.variables = omega (arith, c.from-at.ensures) in
    let k = clue_here w c.args.p b c.from-at.result dw c.clue_of.result c.clue_of.ensures ∙ ap (e.clue c.args.p) c.from-at.ensures in
    let ph = path_here w c.args.p b c.path_of-path.result c.path_of-path.ensures in
    let o = c.in-Some.ensures ∙ ap (first_own c.args.x) ph in
    let none_read : [] ≡ read_numbered c.args.x c.args.v (e.path c.args.p) c.args.n = elim c.then-n-ne0.branch [
      | then-n-ne0-via-then-n-ne0 t ↦ own_behind c.args.x c.args.v (e.path c.args.p) c.args.n o t.if-n-ne0.true
      | then-n-ne0-via-else-n-ne0+then-own-v t ↦ own_other c.args.x c.args.v (e.path c.args.p) c.args.n o t.if-n-ne0.false t.if-own-v.true
    ] in
    gives_none refl (ap (map (with_path (with_clue e c.args.p c.args.x empty) c.args.p)) (none_read)
    ∙ provided_yes (map (with_path (with_clue e c.args.p c.args.x empty) c.args.p) (read_numbered c.args.x c.args.v (e.path c.args.p) c.args.n)) (ap can_empty (sym k) ∙ sym c.can_empty.ensures ∙ c.if-not-can_empty.false))

pub returns-in-Some : goal.returns-in-Some
returns-in-Some c s e w b d u =
    let dw : c.from-at.result < s.variables = omega (arith, c.from-at.ensures) in
    let k = clue_here w c.args.p b c.from-at.result dw c.clue_of.result c.clue_of.ensures ∙ ap (e.clue c.args.p) c.from-at.ensures in
    let ph = path_here w c.args.p b c.path_of-path.result c.path_of-path.ensures in
    let o = c.in-Some.ensures ∙ ap (first_own c.args.x) ph in
    let q = c.with_clue-next.ensures s 8 16 8 e w b dw (omega arith) (omega arith) in
    let q = subst (λ (y : ℕ). Stands s 8 16 c.with_clue-next.result (with_clue e c.args.p y empty)) c.from-at.ensures q in
    let f = path_fine w c.args.p b c.path_of-path.result c.path_of-path.ensures in
    let m = path_most w c.args.p b c.path_of-path.result c.path_of-path.ensures in
    let q = c.with_path.ensures s 8 16 16 (with_clue e c.args.p c.args.x empty) q b (omega arith) m f in
    let q = subst (λ (rs : List PathRead). Stands s 8 16 c.with_path.result (with_path (with_clue e c.args.p c.args.x empty) c.args.p rs)) ph q in
    gives_one (wider q (omega arith) (omega arith))
    (ap (map (with_path (with_clue e c.args.p c.args.x empty) c.args.p)) (own_same c.args.x c.args.v (e.path c.args.p) c.args.n o c.if-n-ne0.false c.if-own-v.false)
    ∙ provided_yes (map (with_path (with_clue e c.args.p c.args.x empty) c.args.p) (read_numbered c.args.x c.args.v (e.path c.args.p) c.args.n)) (ap can_empty (sym k) ∙ sym c.can_empty.ensures ∙ c.if-not-can_empty.false))

pub returns-then-place_of-n : goal.returns-then-place_of-n
returns-then-place_of-n c s e w b d u =
    let dw : c.from-at.result < s.variables = omega (arith, c.from-at.ensures) in
    let k = clue_here w c.args.p b c.from-at.result dw c.clue_of.result c.clue_of.ensures ∙ ap (e.clue c.args.p) c.from-at.ensures in
    let ph = path_here w c.args.p b c.path_of-path.result c.path_of-path.ensures in
    let o = c.in_default.ensures ∙ ap (first_own c.args.x) ph in
    gives_none refl (ap (map (with_path (with_clue e c.args.p c.args.x empty) c.args.p)) (free_past c.args.x c.args.v (e.path c.args.p) c.args.n o (omega (arith, c.place_of.ensures.place ∙ ap (place_of c.args.x) ph)))
    ∙ provided_yes (map (with_path (with_clue e c.args.p c.args.x empty) c.args.p) (read_numbered c.args.x c.args.v (e.path c.args.p) c.args.n)) (ap can_empty (sym k) ∙ sym c.can_empty.ensures ∙ c.if-not-can_empty.false))

pub returns : goal.returns
returns c s e w b d u =
    let dw : c.from-at.result < s.variables = omega (arith, c.from-at.ensures) in
    let k = clue_here w c.args.p b c.from-at.result dw c.clue_of.result c.clue_of.ensures ∙ ap (e.clue c.args.p) c.from-at.ensures in
    let ph = path_here w c.args.p b c.path_of-path.result c.path_of-path.ensures in
    let o = c.in_default.ensures ∙ ap (first_own c.args.x) ph in
    let q = c.with_clue-next.ensures s 8 16 8 e w b dw (omega arith) (omega arith) in
    let q = subst (λ (y : ℕ). Stands s 8 16 c.with_clue-next.result (with_clue e c.args.p y empty)) c.from-at.ensures q in
    let f = path_fine w c.args.p b c.path_of-path.result c.path_of-path.ensures in
    let m = path_most w c.args.p b c.path_of-path.result c.path_of-path.ensures in
    let at : c.args.n ≤ place_of c.args.x (e.path c.args.p) = omega (arith, c.place_of.ensures.place ∙ ap (place_of c.args.x) ph) in
    let room : c.args.n ≤ c.path_of-path.result.count = omega (arith, place_most c.args.x (e.path c.args.p), ap length ph, reads_most c.path_of-path.result.count c.path_of-path.result.reads) in
    let i = c.put_in.ensures m room in
    let q = c.with_path-2.ensures s 8 16 17 (with_clue e c.args.p c.args.x empty) q b (omega arith) (omega (arith, i.count)) (i.fine f (record { variable = omega (arith, w.variables); value = u })) in
    let q = subst (λ (rs : List PathRead). Stands s 8 17 c.with_path-2.result (with_path (with_clue e c.args.p c.args.x empty) c.args.p rs)) (i.reads ∙ ap (λ (rs : List PathRead). inserted_at c.args.x c.args.v rs c.args.n) ph) q in
    gives_one (wider q (omega arith) (omega arith))
    (ap (map (with_path (with_clue e c.args.p c.args.x empty) c.args.p)) (free_in c.args.x c.args.v (e.path c.args.p) c.args.n o at)
    ∙ provided_yes (map (with_path (with_clue e c.args.p c.args.x empty) c.args.p) (read_numbered c.args.x c.args.v (e.path c.args.p) c.args.n)) (ap can_empty (sym k) ∙ sym c.can_empty.ensures ∙ c.if-not-can_empty.false))
