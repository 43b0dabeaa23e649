use mathlib.Core.Path.{◌≡◌, sym, subst, ◌∙◌}
use mathlib.Core.Bool.{true}
use mathlib.Core.List.{List}
use Prim.Native.Nat.{ℕ}
use Rattle.list_known.specs.FullStates.{is_full}
use Rattle.list_closing.proofs.FullLaws.{take_full}
use Rattle.list_closing.proofs.take.before_held.Goals as goal

pub returns-then-is_full : goal.returns-then-is_full
returns-then-is_full c = λ E j l e a. c.if-is_full.true ∙ take_full _ _ _ _ _ _ _ c.args.closing.now.full.now E.walkable E.full j c.args.transition l e (subst (λ (b : List ℕ). is_full c.args.closing.now.full.now c.args.closing.now.program.shape b ≡ true) c.states_from-before.ensures (sym c.is_full.ensures ∙ c.if-is_full.true))
