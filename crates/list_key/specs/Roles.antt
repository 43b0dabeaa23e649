-- Roles as the code holds them, in twenty places: no statement rests on these definitions.
use Rattle.std.specs.Prelude.{ℕ, ◌+◌, ◌*◌, cond, ◌&&◌, ltb}
use Rattle.machine_pws.specs.declared.Message.{Message}

-- the LastWrite of process p and variable v stands at 5 p + 1 + v; a label that does not exist has a place past them
unfoldable pub label_place : Message → ℕ
label_place m = cond (ltb m.process 4 && ltb m.variable 4) (5 * m.process + 1 + m.variable) 20
