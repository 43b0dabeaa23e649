use Prim.Native.Nat.{ℕ, ◌+◌, ◌<◌, min}
use mathlib.Core.Path.{◌≡◌, ap, subst, ◌∙◌}
use mathlib.Core.Bool.{true}
use Rattle.std.specs.Prelude.{Some, None}
use Rattle.file_contents.specs.declared.entry.Cube.{Cube}
use Rattle.file_contents.specs.Cube.{configuration_of}
use Rattle.list_closing.specs.Closing.{program_in, entries_in, cube_in}
use Rattle.list_closing.specs.Walk.{step_held, walk_step, opening_at, FailsFirst, Searching}
use Rattle.list_closing.proofs.WalkLaws.{opening_is, shut_is}
use borrow.Author.Rules.{rules}
use Rattle.list_closing.proofs.open_step.Goals as goal

pub returns-in_err-j : goal.returns-in_err-j
returns-in_err-j c = λ E. let e : c.of-entry.result.cube ≡ cube_in c.args.closing.now c.args.k = c.of-entry.ensures ∙ c.entry.ensures in let none : c.from_residual.result ≡ None = search rules in none ∙ shut_is _ _ _ _ _ _ _ E.walkable (subst (λ (x : Cube). Searching c.args.closing.now x → (j : ℕ) → j < (min c.args.closing.now.program.transitions.count 256) + 20 → (step_held (program_in c.args.closing.now) (entries_in c.args.closing.now) (configuration_of x)) (walk_step (min c.args.closing.now.program.transitions.count 256) j) ≡ true) e c.in_err-j.ensures E)

pub returns : goal.returns
returns c = λ E.
    let m : ℕ = min c.args.closing.now.program.transitions.count 256 in
    let e : c.of-entry.result.cube ≡ cube_in c.args.closing.now c.args.k = c.of-entry.ensures ∙ c.entry.ensures in
    c.opening_at.ensures
    ∙ ap (λ (m : ℕ). opening_at m c.in_ok-j.j) c.min.ensures
    ∙ opening_is _ _ _ _ _ _ _ E.walkable (Some c.in_ok-j.j)
    (subst (λ (x : Cube). Searching c.args.closing.now x → FailsFirst (λ j.
    step_held (program_in c.args.closing.now) (entries_in c.args.closing.now) (configuration_of x) (walk_step m j))
    (m + 20) c.in_ok-j.j) e c.in_ok-j.ensures E)
