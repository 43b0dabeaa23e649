-- What tells the two formats of a program apart (document 02, N8): "It is read as a program file with records of kind 05 in place of 03, same body and
-- same count, with three more operations"; "Every present variable has four values"; "up to 16 targets"; "the judge allows 4,096 targets from then on".
use Rattle.std.specs.Prelude.{ℕ}
use Rattle.file_records.specs.declared.program.Format.{Format}
use Rattle.file_records.specs.declared.program.Format.TheVariants.{Plain, Registers}

-- the kind of a transition's record
abbrev pub transition_kind : Format → ℕ
transition_kind Plain = 3
transition_kind Registers = 5

-- the highest operation
abbrev pub last_operation : Format → ℕ
last_operation Plain = 5
last_operation Registers = 8

-- the least number of values of a variable; the most is 4 in both
abbrev pub least_values : Format → ℕ
least_values Plain = 1
least_values Registers = 4

abbrev pub most_targets : Format → ℕ
most_targets Plain = 4096
most_targets Registers = 16
