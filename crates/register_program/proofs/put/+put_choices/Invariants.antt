use Prim.Native.Nat.{◌-◌}
use Rattle.register_program.proofs.put.+put_choices.Given as goal

abbrev pub decreases-put_choices : goal.decreases-put_choices
decreases-put_choices l = 4 - l.p
