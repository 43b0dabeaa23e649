-- Each row of the table of worked runs holds: by computation.
use mathlib.Core.Path.{refl}
use Rattle.run_causes.specs.Causes.{first_cause}
use Rattle.pso_replay.specs.Cases.{Holds, Each, no_row, row, cases}

pub cases_hold : Each Holds cases
unfolding Holds first_cause
cases_hold = row refl (row refl (row refl (row refl (row refl (row refl (row refl (row refl (row refl (row refl (row refl (row refl (row refl (row refl (row refl (row refl (row refl (row refl (row refl (row refl no_row)))))))))))))))))))
