use mathlib.Core.Path.{sym, ◌∙◌}
use Rattle.list_theory.specs.Predecessors.{undone, on_top}
use Rattle.list_closing.proofs.SerialiseLaws.{serialise_searched, serialise_fails, top_there, serialise_top, serialise_insides}
use Rattle.list_closing.proofs.FamilyLaws.{serialise_family}
use Rattle.list_closing.proofs.serialise.label_held.Goals as goal

pub returns-then-in_full_family : goal.returns-then-in_full_family
returns-then-in_full_family c = λ E Z. serialise_family _ _ _ _ _ _ _ _ _ Z c.args.closing.now.families.now E.families c.before_serialise_on_top-top.result (c.in_full_family.ensures c.if-in_full_family.true) (c.before_serialise_on_top-top.ensures c.args.closing.now.program.shape Z.walkable.stepping.sound Z.process Z.variable)

pub returns-then-not-top_held : goal.returns-then-not-top_held
returns-then-not-top_held c = λ E Z. sym (serialise_fails _ _ _ _ _ _ _ _ _ Z (on_top c.args.v) (top_there _ _ _ _ _ _ _ _ _ Z) (sym (c.top_held.ensures Z (c.before_serialise_on_top-top.ensures c.args.closing.now.program.shape Z.walkable.stepping.sound Z.process Z.variable)) ∙ c.if-not-top_held.true))

pub returns-then-not-alike_before : goal.returns-then-not-alike_before
returns-then-not-alike_before c = λ E Z. sym (serialise_top _ _ _ _ _ _ _ _ _ Z (sym (c.top_held.ensures Z (c.before_serialise_on_top-top.ensures c.args.closing.now.program.shape Z.walkable.stepping.sound Z.process Z.variable)) ∙ c.if-not-top_held.false) (sym (rw c.from.ensures at (c.alike_before.ensures c.args.closing.now.program.shape Z.walkable.stepping.sound)) ∙ c.if-not-alike_before.true))

pub returns-else-found : goal.returns-else-found
returns-else-found c = λ E Z. let u = sym (rw c.from.ensures at (c.alike_before.ensures c.args.closing.now.program.shape Z.walkable.stepping.sound)) ∙ c.if-not-alike_before.false in c.if-found.false ∙ sym (serialise_fails _ _ _ _ _ _ _ _ _ Z undone u (sym (serialise_searched _ _ _ _ _ _ _ _ _ Z undone u (c.before_serialise.ensures c.args.closing.now.program.shape Z.walkable.stepping.sound Z.process Z.variable u) (c.found.ensures E.families)) ∙ c.if-found.false))

pub returns-then-found : goal.returns-then-found
returns-then-found c = λ E Z. let u = sym (rw c.from.ensures at (c.alike_before.ensures c.args.closing.now.program.shape Z.walkable.stepping.sound)) ∙ c.if-not-alike_before.false in serialise_insides _ _ _ _ _ _ _ _ _ Z (sym (c.top_held.ensures Z (c.before_serialise_on_top-top.ensures c.args.closing.now.program.shape Z.walkable.stepping.sound Z.process Z.variable)) ∙ c.if-not-top_held.false) (sym (serialise_searched _ _ _ _ _ _ _ _ _ Z undone u (c.before_serialise.ensures c.args.closing.now.program.shape Z.walkable.stepping.sound Z.process Z.variable u) (c.found.ensures E.families)) ∙ c.if-found.true) u (c.insides_held.ensures E Z u)
