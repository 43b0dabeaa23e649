use Rattle.machine_pws.specs.declared.Step.TheVariants.{Update}
use Rattle.drawing.specs.Reading.{edge_of, process_at}
use mathlib.Core.Path.{sym, ap, ◌∙◌}
use Prim.Native.Nat.{ℕ, ◌+◌}
use Rattle.drawing.proofs.label.process_at.Goals as goal

pub returns-then-is_small : goal.returns-then-is_small
unfolding process_at
returns-then-is_small c = rw (sym c.is_small.ensures ∙ c.if-is_small.true) (ap (λ (x : ℕ). edge_of (Update x) (c.args.at + 1)) c.value_at.ensures.0)

pub returns : goal.returns
unfolding process_at
returns c = rw (sym c.is_small.ensures ∙ c.if-is_small.false)
