-- At most one serialise leads above an entry: its newest message is matched with the one that the serialise appends (T3).
use mathlib.Core.Path.{sym, ap, ap₂, ◌∙◌}
use lib.ListN.{length}
use Rattle.machine_pws.specs.declared.Message.{Message}
use Rattle.machine_pws.specs.declared.Step.{Step}
use Rattle.machine_pws.specs.declared.Step.TheVariants.{Serialise}
use Rattle.machine_pws.specs.Machine.{Memory, append, message}
use Rattle.machine_pws.proofs.Facts.{message_new, proper}
use Rattle.machine_pws.proofs.Moves.{maps_newest}
use Rattle.machine_pws.proofs.Steps.{step_configuration}
use Rattle.list_theory.specs.Cubes.{memory_of}
use Rattle.list_theory.proofs.Fillings.{channel_at, channel_length}
use Rattle.list_exists.specs.Order.{SerialiseByLabel, OneSerialise}

pub serialise_by_label : SerialiseByLabel
serialise_by_label P R e c o p v t A =
    let S = P.shape in
    let F = A.filling.channel in
    let f : Memory = memory_of A.channel e.memory.pointer in
    let d = (step_configuration P R c o (Serialise p v) t).fits.memory in
    let top = maps_newest S f (append c.memory p v _) (proper A.filling.fits.memory) (proper d) A.below.h A.below.maps 0 R.shape.some_process
    ∙ message_new _ c.memory.channel in
    let k = channel_at F (length e.memory.channel) in
    let l = ap (message A.channel) (channel_length F) in (
      k.process ∙ ap (λ (m : Message). m.process) (l ∙ top),
      k.variable ∙ ap (λ (m : Message). m.variable) (l ∙ top),
    )

pub one_serialise : OneSerialise
one_serialise P R e c d oc od p v q w a b A B =
    let x = serialise_by_label P R e c oc p v a A in
    let y = serialise_by_label P R e d od q w b B in
    ap₂ {C = Step} Serialise (sym x.0 ∙ y.0) (sym x.1 ∙ y.1)
