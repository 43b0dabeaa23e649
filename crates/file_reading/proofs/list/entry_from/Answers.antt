use Rattle.std.proofs.lemmas.Result.{err_from_is_err_and}
use Rattle.std.specs.Prelude.{Result, Err, ⊤}
use Rattle.file_records.specs.declared.program.Refusal.{Refusal}
use Prim.Native.Nat.{ℕ}
use mathlib.Core.Path.{◌≡◌, sym, ap, ◌∙◌}
use mathlib.Core.List.{List}
use mathlib.Core.Bool.{true, false}
use native.Mathlib.Omega.{arith}
use Rattle.file_records.specs.declared.program.Shape.{Shape}
use Rattle.file_reading.specs.declared.list.Tally.{Tally}
use Rattle.file_records.specs.Records.{checked, pointer_at}
use Rattle.file_contents.specs.EvidencePart.{complete}
use Rattle.file_reading.specs.Tally.{number_by, end_of}
use Rattle.file_reading.proofs.EntryLaws.{sofar_begin, sofar_room, sofar_fits, sofar_next, sofar_stops, sofar_ends}
use Rattle.file_reading.proofs.list.entry_from.Goals as goal

-- the record's number was found fine, or its refusal
told : (s : Shape) (f : List ℕ) (t : Tally) (k : ℕ) {n : ℕ} {x y : Result ⊤ Refusal} → x ≡ checked n k → n ≡ number_by s f k t → x ≡ y → checked (number_by s f k t) k ≡ y
told s f t k e d h = sym (e ∙ ap (λ n. checked n k) d) ∙ h

pub loop-shape-init : goal.loop-shape-init
loop-shape-init c = sofar_begin c.args.shape c.args.file.now c.args.start c.requires.0

pub returns-in_err-checked : goal.returns-in_err-checked
returns-in_err-checked c = let a = c.args in
    let f = a.file.now in
    let k = c.loop-shape.k in
    let t = c.loop-shape.tally in
    let p = err_from_is_err_and c.from_residual.result c.from_residual.ensures.1 in
    let e : checked (number_by a.shape f k t) k ≡ Err p.0 = told a.shape f t k c.checked.ensures c.body_number.ensures (rw p.2 c.in_err-checked.was) in
    p.1 ∙ sym (ap end_of (sofar_stops a.shape c.requires.1 c.requires.2 f a.start t k c.loop-shape.invariant p.0 (sym c.at_boundary.ensures ∙ c.loop-shape-test.true) e))

pub tallied-tally-requires : goal.tallied-tally-requires
tallied-tally-requires c = sofar_room c.args.shape c.requires.1 c.requires.2 c.args.file.now c.args.start c.loop-shape.tally c.loop-shape.k c.loop-shape.invariant (sym c.at_boundary.ensures ∙ c.loop-shape-test.true) (told c.args.shape c.args.file.now c.loop-shape.tally c.loop-shape.k c.checked.ensures c.body_number.ensures c.in_ok-checked.was)

pub overflow_add-k-in-loop-shape : goal.overflow_add-k-in-loop-shape
overflow_add-k-in-loop-shape c = omega (arith, c.body_size-k.ensures, (sofar_fits c.args.shape c.requires.1 c.requires.2 c.args.file.now c.args.start c.loop-shape.tally c.loop-shape.k c.loop-shape.invariant (sym c.at_boundary.ensures ∙ c.loop-shape-test.true) (told c.args.shape c.args.file.now c.loop-shape.tally c.loop-shape.k c.checked.ensures c.body_number.ensures c.in_ok-checked.was)).0)

pub loop-shape-smaller : goal.loop-shape-smaller
loop-shape-smaller c = let w = sofar_fits c.args.shape c.requires.1 c.requires.2 c.args.file.now c.args.start c.loop-shape.tally c.loop-shape.k c.loop-shape.invariant (sym c.at_boundary.ensures ∙ c.loop-shape-test.true) (told c.args.shape c.args.file.now c.loop-shape.tally c.loop-shape.k c.checked.ensures c.body_number.ensures c.in_ok-checked.was) in
    omega (arith, c.body_size-k.ensures, w.0, w.1)

pub loop-shape-preserved : goal.loop-shape-preserved
loop-shape-preserved c = rw (c.tallied-tally.ensures, c.body_size-k.ensures) (sofar_next c.args.shape c.requires.1 c.requires.2 c.args.file.now c.args.start c.loop-shape.tally c.loop-shape.k c.loop-shape.invariant (sym c.at_boundary.ensures ∙ c.loop-shape-test.true) (told c.args.shape c.args.file.now c.loop-shape.tally c.loop-shape.k c.checked.ensures c.body_number.ensures c.in_ok-checked.was))

pub returns-then-is_complete : goal.returns-then-is_complete
returns-then-is_complete c = let a = c.args in
    let e : complete a.shape c.loop-shape.tally.messages (pointer_at a.file.now a.start) ≡ true = sym c.is_complete.ensures ∙ c.if-is_complete.true in
    rw (sofar_ends a.shape c.requires.1 c.requires.2 a.file.now a.start c.loop-shape.tally c.loop-shape.k c.loop-shape.invariant (sym c.at_boundary.ensures ∙ c.loop-shape-test.false), e)

pub returns : goal.returns
returns c = let a = c.args in
    let e : complete a.shape c.loop-shape.tally.messages (pointer_at a.file.now a.start) ≡ false = sym c.is_complete.ensures ∙ c.if-is_complete.false in
    rw (sofar_ends a.shape c.requires.1 c.requires.2 a.file.now a.start c.loop-shape.tally c.loop-shape.k c.loop-shape.invariant (sym c.at_boundary.ensures ∙ c.loop-shape-test.false), e)
