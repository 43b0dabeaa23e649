use Prim.Native.Nat.{ℕ, ◌-◌}
use mathlib.Core.Path.{◌≡◌, sym, ap, ap₂, ◌∙◌}
use native.Mathlib.Omega.{arith}
use Rattle.register_machine.specs.Written.{states_of}
use Rattle.register_program.specs.Registers.{lowest_over}
use Rattle.register_program.proofs.CountLaws.{needed, needed_is, over_here, over_not, over_done}
use Rattle.register_program.proofs.count.lowest_over.Goals as goal

pub loop-p-init : goal.loop-p-init
loop-p-init c = let a = c.args in let z : a.program.shape.processes - 0 ≡ a.program.shape.processes = omega arith in (omega arith, ap (lowest_over (needed a.has a.program.states) 0) z)

pub returns-then-needed-gt32 : goal.returns-then-needed-gt32
returns-then-needed-gt32 c = let a = c.args in
    let v = c.loop-p.invariant in
    let l = c.loop-p-test.true in
    let p = c.loop-p.p in
    let e : c.times-needed.result ≡ needed a.has a.program.states p =
    c.times-needed.ensures ∙ ap₂ states_of c.at_or-in-loop-p.ensures (c.from-states.ensures ∙ c.at_or.ensures) in
    sym (over_here (needed a.has a.program.states) a.program.shape.processes p l (omega (arith, e, c.if-needed-gt32.true))) ∙ v.1
    ∙ ap (λ (S : ℕ → ℕ). lowest_over S 0 a.program.shape.processes) (needed_is c.requires.0 c.requires.1)

pub loop-p-preserved : goal.loop-p-preserved
loop-p-preserved c = let a = c.args in
    let v = c.loop-p.invariant in
    let l = c.loop-p-test.true in
    let p = c.loop-p.p in
    let e : c.times-needed.result ≡ needed a.has a.program.states p =
    c.times-needed.ensures ∙ ap₂ states_of c.at_or-in-loop-p.ensures (c.from-states.ensures ∙ c.at_or.ensures) in
    (omega (arith, l), sym (over_not (needed a.has a.program.states) a.program.shape.processes p l (omega (arith, e, c.if-needed-gt32.false))) ∙ v.1)

pub returns : goal.returns
returns c = let a = c.args in
    let v = c.loop-p.invariant in
    sym (over_done (needed a.has a.program.states) a.program.shape.processes c.loop-p.p c.loop-p-test.false v.0) ∙ v.1
    ∙ ap (λ (S : ℕ → ℕ). lowest_over S 0 a.program.shape.processes) (needed_is c.requires.0 c.requires.1)
