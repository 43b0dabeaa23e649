use Prim.Native.Nat.{min}
use mathlib.Core.Path.{◌≡◌, sym, ◌∙◌}
use Rattle.std.specs.Prelude.{None}
use Rattle.file_contents.specs.Cube.{configuration_of}
use Rattle.list_closing.specs.Closing.{program_in, entries_in}
use Rattle.list_closing.specs.Walk.{step_held}
use Rattle.list_closing.proofs.WalkLaws.{walk_take, walk_serialise, walk_update, walk_all}
use Rattle.list_closing.proofs.FullLaws.{walk_full}
use Rattle.list_closing.proofs.FamilyLaws.{walk_family}
use borrow.Author.Rules.{rules}
use Rattle.list_closing.proofs.cube_open.Goals as goal

pub returns-in-Some : goal.returns-in-Some
returns-in-Some c = λ E. walk_take (step_held (program_in c.args.closing.now) (entries_in c.args.closing.now) (configuration_of c.args.entry.now.cube)) (min c.args.closing.now.program.transitions.count 256) (c.in-Some.ensures E)

pub returns-then-is_full : goal.returns-then-is_full
returns-then-is_full c = λ E. walk_full _ _ _ _ _ _ _ c.args.closing.now.full.now E.walkable E.full (sym c.is_full.ensures ∙ c.if-is_full.true) (min c.args.closing.now.program.transitions.count 256) (c.in_default.ensures E)

pub returns-in-Some-open_serialise : goal.returns-in-Some-open_serialise
returns-in-Some-open_serialise c = λ E. rw c.min-m.ensures (walk_serialise (step_held (program_in c.args.closing.now) (entries_in c.args.closing.now) (configuration_of c.args.entry.now.cube)) (min c.args.closing.now.program.transitions.count 256) (c.in_default.ensures E) (c.in-Some-open_serialise.ensures.lowest E))

pub returns-then-in_full_family : goal.returns-then-in_full_family
returns-then-in_full_family c = λ E. walk_family _ _ _ _ _ _ _ c.args.closing.now.families.now E.walkable E.families (c.in_full_family.ensures c.if-in_full_family.true) (min c.args.closing.now.program.transitions.count 256) (c.in_default.ensures E) (c.in_default-open_serialise.ensures.lowest E)

pub returns-in_err-p : goal.returns-in_err-p
returns-in_err-p c = λ E. let none : c.from_residual.result ≡ None = search rules in rw none (walk_all (step_held (program_in c.args.closing.now) (entries_in c.args.closing.now) (configuration_of c.args.entry.now.cube)) (min c.args.closing.now.program.transitions.count 256) (c.in_default.ensures E) (c.in_default-open_serialise.ensures.lowest E) (c.in_err-p.ensures.lowest E))

pub returns : goal.returns
returns c = λ E. rw c.min-m.ensures (walk_update (step_held (program_in c.args.closing.now) (entries_in c.args.closing.now) (configuration_of c.args.entry.now.cube)) (min c.args.closing.now.program.transitions.count 256) (c.in_default.ensures E) (c.in_default-open_serialise.ensures.lowest E) (c.in_ok-p.ensures.lowest E))
