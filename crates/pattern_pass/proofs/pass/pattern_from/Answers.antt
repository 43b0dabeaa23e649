use Prim.Native.Nat.{ℕ}
use mathlib.Core.Path.{◌≡◌, sym, ap, ◌∙◌}
use mathlib.Core.Bool.{true, false}
use mathlib.Core.List.{List}
use native.Mathlib.Omega.{arith}
use Rattle.std.specs.Prelude.{Result, Ok, Err, ⊤}
use Rattle.std.proofs.lemmas.Result.{err_from_is_err_and}
use Rattle.file_records.specs.declared.program.Refusal.{Refusal}
use Rattle.file_records.specs.declared.program.Shape.{Shape}
use Rattle.pattern_pass.specs.declared.seen.Seen.{Seen}
use Rattle.file_records.specs.Records.{checked}
use Rattle.pattern_pass.specs.Seen.{seen_number, seen_complete, end_of_pattern}
use Rattle.pattern_pass.proofs.SeenLaws.{sofar_begin, sofar_room, sofar_fits, sofar_next, sofar_stops, sofar_ends}
use Rattle.pattern_pass.proofs.pass.pattern_from.Goals as goal

-- the record's number was found fine, or its refusal
told : (s : Shape) (f : List ℕ) (t : Seen) (k : ℕ) {n : ℕ} {x y : Result ⊤ Refusal} → x ≡ checked n k → n ≡ seen_number s f k t → x ≡ y → checked (seen_number s f k t) k ≡ y
told s f t k e d h = sym (e ∙ ap (λ n. checked n k) d) ∙ h

pub loop-shape-init : goal.loop-shape-init
loop-shape-init c = sofar_begin c.args.shape c.args.file.now c.args.start c.requires.0

pub returns-in_err-checked : goal.returns-in_err-checked
returns-in_err-checked c = let a = c.args in
    let f = a.file.now in
    let k = c.loop-shape.k in
    let t = c.loop-shape.seen in
    let p = err_from_is_err_and c.from_residual.result c.from_residual.ensures.1 in
    let e : checked (seen_number a.shape f k t) k ≡ Err p.0 = told a.shape f t k c.checked.ensures c.seen_number.ensures (rw p.2 c.in_err-checked.was) in
    p.1 ∙ sym (ap end_of_pattern (sofar_stops a.shape c.requires.1 c.requires.2 f a.start t k c.loop-shape.invariant p.0 (sym c.at_boundary.ensures ∙ c.loop-shape-test.true) e))

pub seen_more-seen-requires : goal.seen_more-seen-requires
seen_more-seen-requires c = sofar_room c.args.shape c.requires.1 c.requires.2 c.args.file.now c.args.start c.loop-shape.seen c.loop-shape.k c.loop-shape.invariant (sym c.at_boundary.ensures ∙ c.loop-shape-test.true) (told c.args.shape c.args.file.now c.loop-shape.seen c.loop-shape.k c.checked.ensures c.seen_number.ensures c.in_ok-checked.was)

pub overflow_add-k-in-loop-shape : goal.overflow_add-k-in-loop-shape
overflow_add-k-in-loop-shape c = omega (arith, c.body_size-k.ensures, (sofar_fits c.args.shape c.requires.1 c.requires.2 c.args.file.now c.args.start c.loop-shape.seen c.loop-shape.k c.loop-shape.invariant (sym c.at_boundary.ensures ∙ c.loop-shape-test.true) (told c.args.shape c.args.file.now c.loop-shape.seen c.loop-shape.k c.checked.ensures c.seen_number.ensures c.in_ok-checked.was)).0)

pub loop-shape-smaller : goal.loop-shape-smaller
loop-shape-smaller c = let w = sofar_fits c.args.shape c.requires.1 c.requires.2 c.args.file.now c.args.start c.loop-shape.seen c.loop-shape.k c.loop-shape.invariant (sym c.at_boundary.ensures ∙ c.loop-shape-test.true) (told c.args.shape c.args.file.now c.loop-shape.seen c.loop-shape.k c.checked.ensures c.seen_number.ensures c.in_ok-checked.was) in
    omega (arith, c.body_size-k.ensures, w.0, w.1)

pub loop-shape-preserved : goal.loop-shape-preserved
loop-shape-preserved c = rw (c.seen_more-seen.ensures, c.body_size-k.ensures) (sofar_next c.args.shape c.requires.1 c.requires.2 c.args.file.now c.args.start c.loop-shape.seen c.loop-shape.k c.loop-shape.invariant (sym c.at_boundary.ensures ∙ c.loop-shape-test.true) (told c.args.shape c.args.file.now c.loop-shape.seen c.loop-shape.k c.checked.ensures c.seen_number.ensures c.in_ok-checked.was))

pub returns-then-is_complete : goal.returns-then-is_complete
returns-then-is_complete c = let a = c.args in
    let e : seen_complete a.shape c.loop-shape.seen ≡ true = sym c.is_complete.ensures ∙ c.if-is_complete.true in
    rw (sofar_ends a.shape c.requires.1 c.requires.2 a.file.now a.start c.loop-shape.seen c.loop-shape.k c.loop-shape.invariant (sym c.at_boundary.ensures ∙ c.loop-shape-test.false), e)

pub returns : goal.returns
returns c = let a = c.args in
    let e : seen_complete a.shape c.loop-shape.seen ≡ false = sym c.is_complete.ensures ∙ c.if-is_complete.false in
    rw (sofar_ends a.shape c.requires.1 c.requires.2 a.file.now a.start c.loop-shape.seen c.loop-shape.k c.loop-shape.invariant (sym c.at_boundary.ensures ∙ c.loop-shape-test.false), e)
