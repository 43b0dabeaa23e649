use mathlib.Core.Path.{sym, ◌∙◌}
use native.Mathlib.Omega.{arith}
use Rattle.drawing.proofs.PutLaws.{put_as}
use Rattle.register_program.proofs.RecordLaws.{one_load, one_store, one_test, one_plain}
use Rattle.register_program.proofs.put.put_one.Goals as goal

pub pair-from-requires : goal.pair-from-requires
pair-from-requires c = let N = c.requires.0 in (omega (arith, c.field.ensures, N.from), omega (arith, c.requires))

pub pair-requires : goal.pair-requires
pair-requires c = let N = c.requires.0 in (omega (arith, c.field-state.ensures, N.to), omega (arith, c.requires))

pub pair-requires-in-7 : goal.pair-requires-in-7
pair-requires-in-7 c = let N = c.requires.0 in (omega (arith, c.field-state.ensures, N.to), omega (arith, c.requires))

pub pair-requires-in-8 : goal.pair-requires-in-8
pair-requires-in-8 c = let N = c.requires.0 in (omega (arith, c.field-state.ensures, N.to), omega (arith, c.requires))

pub pair-requires-in_default : goal.pair-requires-in_default
pair-requires-in_default c = let N = c.requires.0 in (omega (arith, c.field-state.ensures, N.to), omega (arith, c.requires))

pub returns-in-6 : goal.returns-in-6
returns-in-6 c = let A = c.args in
    let f = A.file.now in
    let k = A.k in
    put_as c.put.ensures (rw (c.pair.ensures, c.field-state.ensures, c.field-variable.ensures, c.pair-from.ensures, c.field.ensures, c.field-process.ensures) (sym (one_load f k A.has A.r A.x (sym c.field-operation.ensures ∙ c.in-6.is))))

pub returns-in-7 : goal.returns-in-7
returns-in-7 c = let A = c.args in
    let f = A.file.now in
    let k = A.k in
    put_as c.put-in-7.ensures (rw (c.pair-in-7.ensures, c.field-state.ensures, c.field-variable.ensures, c.pair-from.ensures, c.field.ensures, c.field-process.ensures) (sym (one_store f k A.has A.r A.x (sym c.field-operation.ensures ∙ c.in-7.is))))

pub returns-in-8 : goal.returns-in-8
returns-in-8 c = let A = c.args in
    let f = A.file.now in
    let k = A.k in
    put_as c.put-in-8.ensures (rw (c.pair-in-8.ensures, c.field-state.ensures, c.pair-from.ensures, c.field.ensures, c.field-process.ensures) (sym (one_test f k A.has A.r A.x (sym c.field-operation.ensures ∙ c.in-8.is))))

pub returns-in_default : goal.returns-in_default
returns-in_default c = let A = c.args in
    let f = A.file.now in
    let k = A.k in
    put_as c.put-in_default.ensures (rw (c.pair-in_default.ensures, c.field-in_default-2.ensures, c.field-in_default.ensures, c.field-state.ensures, c.field-variable.ensures, c.field-operation.ensures, c.pair-from.ensures, c.field.ensures, c.field-process.ensures) (sym (one_plain f k A.has c.requires.0 A.r A.x (λ d. c.in_default.in_default-own.rest.0.0.1 (c.field-operation.ensures ∙ d)) (λ d. c.in_default.in_default-own.rest.0.1 (c.field-operation.ensures ∙ d)) (λ d. c.in_default.in_default-own.rest.1 (c.field-operation.ensures ∙ d)))))
