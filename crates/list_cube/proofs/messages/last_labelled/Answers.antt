use mathlib.Core.Path.{sym, ap, ◌∙◌}
use mathlib.Core.Bool.{Bool, cond}
use Prim.Native.Nat.{◌+◌}
use Rattle.machine_pws.specs.Machine.{last_labelled}
use Rattle.file_contents.specs.Cube.{channel_of}
use Rattle.list_cube.proofs.MessageLaws.{last_next}
use Rattle.list_cube.proofs.messages.last_labelled.Goals as goal
use Rattle.list_cube.proofs.messages.last_labelled.Goals.{then-carries, else-carries}

pub loop-i-preserved : goal.loop-i-preserved
loop-i-preserved c =
    let next = last_next c.args.messages c.args.p c.args.v c.loop-i.i in
    elim c.if-carries.branch [
      | then-carries w ↦ w.last-is ∙ sym (next ∙ ap (λ (b : Bool). cond b (c.loop-i.i + 1) (last_labelled (channel_of c.args.messages c.loop-i.i) c.args.p c.args.v)) (sym c.carries.ensures ∙ w.if-carries.true))
      | else-carries w ↦ w.last-is ∙ c.loop-i.invariant ∙ sym (next ∙ ap (λ (b : Bool). cond b (c.loop-i.i + 1) (last_labelled (channel_of c.args.messages c.loop-i.i) c.args.p c.args.v)) (sym c.carries.ensures ∙ w.if-carries.false))
    ]
