use mathlib.Core.Path.{sym, ◌∙◌}
use native.Mathlib.Omega.{arith}
use Rattle.drawing.proofs.PutLaws.{then_put, put_as}
use Rattle.register_machine.specs.Written.{plain_transition}
use Rattle.register_program.specs.Reading.{register_transition_at}
use Rattle.register_program.proofs.Joined.{put_same}
use Rattle.register_program.proofs.RecordLaws.{transition_eight, reads_six, reads_one, reads_least, reads_length}
use Rattle.register_program.proofs.put.put_reads.Goals as goal

pub put_one-a-requires : goal.put_one-a-requires
put_one-a-requires c = let A = c.args in
    let f = A.file.now in
    let k = A.k in
    (c.requires.0, c.requires.1, omega arith, omega (arith, c.requires.2, reads_least f k A.has A.r))

pub put_one-b-requires : goal.put_one-b-requires
put_one-b-requires c = let A = c.args in
    let f = A.file.now in
    let k = A.k in
    let e = sym c.field.ensures ∙ c.if-field-eq6.true in
    (c.requires.0, c.requires.1, omega arith, omega (arith, c.requires.2, reads_length f k A.has A.r e, c.put_one-a.ensures.after, transition_eight (plain_transition A.has (register_transition_at f k) A.r 0), put_same c.put_one-a.ensures))

pub put_one-c-requires : goal.put_one-c-requires
put_one-c-requires c = let A = c.args in
    let f = A.file.now in
    let k = A.k in
    let e = sym c.field.ensures ∙ c.if-field-eq6.true in
    (c.requires.0, c.requires.1, omega arith, omega (arith, c.requires.2, reads_length f k A.has A.r e, c.put_one-a.ensures.after, transition_eight (plain_transition A.has (register_transition_at f k) A.r 0), put_same c.put_one-a.ensures, c.put_one-b.ensures.after, transition_eight (plain_transition A.has (register_transition_at f k) A.r 1), put_same c.put_one-b.ensures))

pub put_one-requires : goal.put_one-requires
put_one-requires c = let A = c.args in
    let f = A.file.now in
    let k = A.k in
    let e = sym c.field.ensures ∙ c.if-field-eq6.true in
    (c.requires.0, c.requires.1, omega arith, omega (arith, c.requires.2, reads_length f k A.has A.r e, c.put_one-a.ensures.after, transition_eight (plain_transition A.has (register_transition_at f k) A.r 0), put_same c.put_one-a.ensures, c.put_one-b.ensures.after, transition_eight (plain_transition A.has (register_transition_at f k) A.r 1), put_same c.put_one-b.ensures, c.put_one-c.ensures.after, transition_eight (plain_transition A.has (register_transition_at f k) A.r 2), put_same c.put_one-c.ensures))

pub returns-then-field-eq6 : goal.returns-then-field-eq6
returns-then-field-eq6 c = let A = c.args in
    let f = A.file.now in
    let k = A.k in
    let e = sym c.field.ensures ∙ c.if-field-eq6.true in
    put_as (then_put c.put_one-a.ensures (then_put c.put_one-b.ensures (then_put c.put_one-c.ensures c.put_one.ensures))) (sym (reads_six f k A.has A.r e))

pub returns : goal.returns
returns c = let A = c.args in
    let f = A.file.now in
    let k = A.k in
    put_as c.put_one-a.ensures (sym (reads_one f k A.has A.r (λ d. c.if-field-eq6.false (c.field.ensures ∙ d))))
