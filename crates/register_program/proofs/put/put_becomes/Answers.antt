use Prim.Native.Nat.{ℕ, ◌+◌, ◌≤◌}
use mathlib.Core.Path.{◌≡◌, refl, sym, ap, subst, ◌∙◌}
use mathlib.Core.Bool.{Bool, true}
use mathlib.Core.List.{List, ◌++◌}
use native.Mathlib.Omega.{arith}
use lib.ListN.{length, length-append}
use Rattle.drawing.proofs.PutLaws.{then_put, put_as}
use Rattle.file_records.specs.declared.program.Format.TheVariants.{Registers}
use Rattle.file_records.specs.Records.{operation_names}
use Rattle.base.specs.Bytes.{byte}
use Rattle.register_machine.specs.Written.{joined, becomes}
use Rattle.register_program.specs.Form.{transition_record}
use Rattle.register_program.specs.Reading.{register_transition_at}
use Rattle.register_program.proofs.Joined.{room_next}
use Rattle.register_program.proofs.Operations.{test_low}
use Rattle.register_program.proofs.RecordLaws.{each, becomes_test, becomes_four, becomes_bare}
use Rattle.register_program.proofs.put.put_becomes.Goals as goal

pub put_reads-requires : goal.put_reads-requires
put_reads-requires c = let A = c.args in
    let f = A.file.now in
    let k = A.k in
    let h = c.if-has.true in
    let N = c.requires.0 in
    let e = sym c.field.ensures ∙ c.if-field-eq8.true in
    let x = test_low N.shape (byte f (k + 4)) (byte f (k + 5)) (byte f (k + 6)) (subst (λ (o : ℕ). operation_names Registers N.shape o (byte f (k + 4)) (byte f (k + 5)) (byte f (k + 6)) ≡ true) e N.operation) in
    let r = c.field-then-field-eq8.ensures in
    let q : A.at + length (each f k true (byte f (k + 5))) ≤ length A.out.now = subst (λ (w : List ℕ). A.at + length w ≤ length A.out.now) (becomes_test f k e) (subst (λ (b : Bool). A.at + length (joined transition_record (becomes b (register_transition_at f k))) ≤ length A.out.now) h c.requires.1) in
    (N, omega (arith, r, x), subst (λ (v : ℕ). A.at + length (each f k true v) ≤ length A.out.now) (sym r) q)

pub returns-then-field-eq8 : goal.returns-then-field-eq8
returns-then-field-eq8 c = let A = c.args in
    let f = A.file.now in
    let k = A.k in
    let h = c.if-has.true in
    let e = sym c.field.ensures ∙ c.if-field-eq8.true in
    put_as c.put_reads.ensures (ap (each f k true) c.field-then-field-eq8.ensures ∙ sym (becomes_test f k e) ∙ (ap (λ (b : Bool). joined transition_record (becomes b (register_transition_at f k))) (sym h)))

pub put_reads-a-requires : goal.put_reads-a-requires
put_reads-a-requires c = let A = c.args in
    let f = A.file.now in
    let k = A.k in
    let h = c.if-has.true in
    let E = becomes_four f k (λ d. c.if-field-eq8.false (c.field.ensures ∙ d)) in
    let q₀ = (subst (λ (b : Bool). A.at + length (joined transition_record (becomes b (register_transition_at f k))) ≤ length A.out.now) h c.requires.1) in
    (c.requires.0, omega arith, omega (arith, q₀, ap length E, length-append (each f k true 0) (each f k true 1 ++ (each f k true 2 ++ each f k true 3))))

pub put_reads-b-requires : goal.put_reads-b-requires
put_reads-b-requires c = let A = c.args in
    let f = A.file.now in
    let k = A.k in
    let h = c.if-has.true in
    let E = becomes_four f k (λ d. c.if-field-eq8.false (c.field.ensures ∙ d)) in
    let q₀ = (subst (λ (b : Bool). A.at + length (joined transition_record (becomes b (register_transition_at f k))) ≤ length A.out.now) h c.requires.1) in
    let q₁ = room_next (each f k true 1 ++ (each f k true 2 ++ each f k true 3)) c.put_reads-a.ensures q₀ E in
    (c.requires.0, omega arith, omega (arith, q₁, length-append (each f k true 1) (each f k true 2 ++ each f k true 3)))

pub put_reads-c-requires : goal.put_reads-c-requires
put_reads-c-requires c = let A = c.args in
    let f = A.file.now in
    let k = A.k in
    let h = c.if-has.true in
    let E = becomes_four f k (λ d. c.if-field-eq8.false (c.field.ensures ∙ d)) in
    let q₀ = (subst (λ (b : Bool). A.at + length (joined transition_record (becomes b (register_transition_at f k))) ≤ length A.out.now) h c.requires.1) in
    let q₁ = room_next (each f k true 1 ++ (each f k true 2 ++ each f k true 3)) c.put_reads-a.ensures q₀ E in
    let q₂ = room_next (each f k true 2 ++ each f k true 3) c.put_reads-b.ensures q₁ refl in
    (c.requires.0, omega arith, omega (arith, q₂, length-append (each f k true 2) (each f k true 3)))

pub put_reads-requires-then-has : goal.put_reads-requires-then-has
put_reads-requires-then-has c = let A = c.args in
    let f = A.file.now in
    let k = A.k in
    let h = c.if-has.true in
    let E = becomes_four f k (λ d. c.if-field-eq8.false (c.field.ensures ∙ d)) in
    let q₀ = (subst (λ (b : Bool). A.at + length (joined transition_record (becomes b (register_transition_at f k))) ≤ length A.out.now) h c.requires.1) in
    let q₁ = room_next (each f k true 1 ++ (each f k true 2 ++ each f k true 3)) c.put_reads-a.ensures q₀ E in
    let q₂ = room_next (each f k true 2 ++ each f k true 3) c.put_reads-b.ensures q₁ refl in
    let q₃ = room_next (each f k true 3) c.put_reads-c.ensures q₂ refl in
    (c.requires.0, omega arith, q₃)

pub returns-then-has : goal.returns-then-has
returns-then-has c = let A = c.args in
    let f = A.file.now in
    let k = A.k in
    let h = c.if-has.true in
    let E = becomes_four f k (λ d. c.if-field-eq8.false (c.field.ensures ∙ d)) in
    put_as (then_put c.put_reads-a.ensures (then_put c.put_reads-b.ensures (then_put c.put_reads-c.ensures c.put_reads-then-has.ensures))) (sym E ∙ (ap (λ (b : Bool). joined transition_record (becomes b (register_transition_at f k))) (sym h)))

pub put_reads-requires-2 : goal.put_reads-requires-2
put_reads-requires-2 c = let A = c.args in
    let f = A.file.now in
    let k = A.k in
    let h = c.if-has.false in
    (c.requires.0, omega arith, subst (λ (w : List ℕ). A.at + length w ≤ length A.out.now) (becomes_bare f k) (subst (λ (b : Bool). A.at + length (joined transition_record (becomes b (register_transition_at f k))) ≤ length A.out.now) h c.requires.1))

pub returns : goal.returns
returns c = let A = c.args in
    let f = A.file.now in
    let k = A.k in
    let h = c.if-has.false in
    put_as c.put_reads-2.ensures (sym (becomes_bare f k) ∙ (ap (λ (b : Bool). joined transition_record (becomes b (register_transition_at f k))) (sym h)))
