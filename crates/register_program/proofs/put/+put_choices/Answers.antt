use native.Mathlib.Omega.{arith}
use borrow.Author.Rules.{rules}
use mathlib.Core.Path.{◌≡◌, refl, sym, ap, ◌∙◌}
use mathlib.Core.List.{◌++◌}
use lib.ListN.{length, length-append}
use Rattle.drawing.proofs.PutLaws.{then_put, put_as}
use Rattle.register_program.proofs.Joined.{room_next}
use Rattle.register_program.proofs.TargetLaws.{low_set, next, next_set, chosen_last, chosen_four, chosen_only, chosen_least, chosen_five}
use Prim.Native.Nat.{◌<◌}
use Rattle.register_program.proofs.put.+put_choices.Goals as goal

pub put_target-requires : goal.put_target-requires
put_target-requires t c = let A = c.args in
    let P = c.requires in
    let e = chosen_last A.has A.target A.registers A.p c.if-p-ge4.true in
    (P.0, P.1, omega (arith, P.3, ap length e, chosen_five A.has A.target A.registers A.p))

pub returns-then-p-ge4 : goal.returns-then-p-ge4
returns-then-p-ge4 t c = let A = c.args in put_as c.put_target.ensures (sym (chosen_last A.has A.target A.registers A.p c.if-p-ge4.true))

pub overflow_add-p : goal.overflow_add-p
overflow_add-p t c = omega (arith, c.if-p-ge4.false)

pub put_choices-a-requires : goal.put_choices-a-requires
put_choices-a-requires t c = let A = c.args in
    let P = c.requires in
    let L : length A.registers ≡ 4 = search (rules) in
    let nx = next A.has A.target A.registers A.p in
    let l : A.p < 4 = omega (arith, c.if-p-ge4.false) in
    (omega (arith, l), (P.0, low_set A.registers A.p 0 (omega (arith, L, l)) (omega arith) P.1 c.with_at.result c.with_at.ensures, omega arith, omega (arith, P.3, chosen_least A.has A.target A.registers A.p l, ap length (next_set A.has A.target A.registers A.p 0 (omega (arith, L, l)) c.with_at.result c.with_at.ensures))))

pub overflow_add-p-then-at_or : goal.overflow_add-p-then-at_or
overflow_add-p-then-at_or t c = omega (arith, c.if-p-ge4.false)

pub put_choices-b-requires : goal.put_choices-b-requires
put_choices-b-requires t c = let A = c.args in
    let P = c.requires in
    let L : length A.registers ≡ 4 = search (rules) in
    let nx = next A.has A.target A.registers A.p in
    let l : A.p < 4 = omega (arith, c.if-p-ge4.false) in
    let E = chosen_four A.has A.target A.registers A.p l (sym c.at_or.ensures ∙ c.if-at_or.true) in
    let q₁ = room_next (nx 1 ++ (nx 2 ++ nx 3)) (put_as c.put_choices-a.ensures (next_set A.has A.target A.registers A.p 0 (omega (arith, L, l)) c.with_at.result c.with_at.ensures)) P.3 E in
    (omega (arith, l), (P.0, low_set A.registers A.p 1 (omega (arith, L, l)) (omega arith) P.1 c.with_at-then-at_or.result c.with_at-then-at_or.ensures, omega arith, omega (arith, q₁, length-append (nx 1) (nx 2 ++ nx 3), ap length (next_set A.has A.target A.registers A.p 1 (omega (arith, L, l)) c.with_at-then-at_or.result c.with_at-then-at_or.ensures))))

pub overflow_add-p-then-at_or-2 : goal.overflow_add-p-then-at_or-2
overflow_add-p-then-at_or-2 t c = omega (arith, c.if-p-ge4.false)

pub put_choices-c-requires : goal.put_choices-c-requires
put_choices-c-requires t c = let A = c.args in
    let P = c.requires in
    let L : length A.registers ≡ 4 = search (rules) in
    let nx = next A.has A.target A.registers A.p in
    let l : A.p < 4 = omega (arith, c.if-p-ge4.false) in
    let E = chosen_four A.has A.target A.registers A.p l (sym c.at_or.ensures ∙ c.if-at_or.true) in
    let q₁ = room_next (nx 1 ++ (nx 2 ++ nx 3)) (put_as c.put_choices-a.ensures (next_set A.has A.target A.registers A.p 0 (omega (arith, L, l)) c.with_at.result c.with_at.ensures)) P.3 E in
    let q₂ = room_next (nx 2 ++ nx 3) (put_as c.put_choices-b.ensures (next_set A.has A.target A.registers A.p 1 (omega (arith, L, l)) c.with_at-then-at_or.result c.with_at-then-at_or.ensures)) (q₁) refl in
    (omega (arith, l), (P.0, low_set A.registers A.p 2 (omega (arith, L, l)) (omega arith) P.1 c.with_at-then-at_or-2.result c.with_at-then-at_or-2.ensures, omega arith, omega (arith, q₂, length-append (nx 2) (nx 3), ap length (next_set A.has A.target A.registers A.p 2 (omega (arith, L, l)) c.with_at-then-at_or-2.result c.with_at-then-at_or-2.ensures))))

pub overflow_add-p-then-at_or-3 : goal.overflow_add-p-then-at_or-3
overflow_add-p-then-at_or-3 t c = omega (arith, c.if-p-ge4.false)

pub put_choices-requires : goal.put_choices-requires
put_choices-requires t c = let A = c.args in
    let P = c.requires in
    let L : length A.registers ≡ 4 = search (rules) in
    let nx = next A.has A.target A.registers A.p in
    let l : A.p < 4 = omega (arith, c.if-p-ge4.false) in
    let E = chosen_four A.has A.target A.registers A.p l (sym c.at_or.ensures ∙ c.if-at_or.true) in
    let q₁ = room_next (nx 1 ++ (nx 2 ++ nx 3)) (put_as c.put_choices-a.ensures (next_set A.has A.target A.registers A.p 0 (omega (arith, L, l)) c.with_at.result c.with_at.ensures)) P.3 E in
    let q₂ = room_next (nx 2 ++ nx 3) (put_as c.put_choices-b.ensures (next_set A.has A.target A.registers A.p 1 (omega (arith, L, l)) c.with_at-then-at_or.result c.with_at-then-at_or.ensures)) (q₁) refl in
    let q₃ = room_next (nx 3) (put_as c.put_choices-c.ensures (next_set A.has A.target A.registers A.p 2 (omega (arith, L, l)) c.with_at-then-at_or-2.result c.with_at-then-at_or-2.ensures)) (q₂) refl in
    (omega (arith, l), (P.0, low_set A.registers A.p 3 (omega (arith, L, l)) (omega arith) P.1 c.with_at-then-at_or-3.result c.with_at-then-at_or-3.ensures, omega arith, omega (arith, q₃, ap length (next_set A.has A.target A.registers A.p 3 (omega (arith, L, l)) c.with_at-then-at_or-3.result c.with_at-then-at_or-3.ensures))))

pub returns-then-at_or : goal.returns-then-at_or
returns-then-at_or t c = let A = c.args in
    let P = c.requires in
    let L : length A.registers ≡ 4 = search (rules) in
    let nx = next A.has A.target A.registers A.p in
    let l : A.p < 4 = omega (arith, c.if-p-ge4.false) in
    let E = chosen_four A.has A.target A.registers A.p l (sym c.at_or.ensures ∙ c.if-at_or.true) in
    put_as (then_put (put_as c.put_choices-a.ensures (next_set A.has A.target A.registers A.p 0 (omega (arith, L, l)) c.with_at.result c.with_at.ensures)) (then_put (put_as c.put_choices-b.ensures (next_set A.has A.target A.registers A.p 1 (omega (arith, L, l)) c.with_at-then-at_or.result c.with_at-then-at_or.ensures)) (then_put (put_as c.put_choices-c.ensures (next_set A.has A.target A.registers A.p 2 (omega (arith, L, l)) c.with_at-then-at_or-2.result c.with_at-then-at_or-2.ensures)) (put_as c.put_choices.ensures (next_set A.has A.target A.registers A.p 3 (omega (arith, L, l)) c.with_at-then-at_or-3.result c.with_at-then-at_or-3.ensures))))) (sym E)

pub returns : goal.returns
returns t c = let A = c.args in
    let P = c.requires in
    let L : length A.registers ≡ 4 = search (rules) in
    let nx = next A.has A.target A.registers A.p in
    let l : A.p < 4 = omega (arith, c.if-p-ge4.false) in
    put_as (put_as c.put_choices-a.ensures (next_set A.has A.target A.registers A.p 0 (omega (arith, L, l)) c.with_at.result c.with_at.ensures)) (sym (chosen_only A.has A.target A.registers A.p l (sym c.at_or.ensures ∙ c.if-at_or.false)))
