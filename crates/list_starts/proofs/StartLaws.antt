-- What the tests of a start say of an entry.
use Prim.Native.Nat.{ℕ, zero, suc, ◌<◌, min}
use mathlib.Core.Path.{◌≡◌, refl, sym, ap, ap₂, ◌∙◌}
use mathlib.Core.Bool.{Bool, true, false}
use mathlib.Core.List.{List, [], ◌∷◌}
use native.Mathlib.Omega.{arith}
use lib.ListN.{length, get_or, take}
use lib.Dec.{eqb}
use borrow.Author.Tests.{ne_eqb}
use Rattle.machine_pws.specs.Machine.{all_below, none_waiting}
use Rattle.base.proofs.Tests.{few_all}
use Rattle.machine_pws.specs.Configurations.{in_target}
use Rattle.file_records.specs.declared.program.Shape.{Shape}
use Rattle.file_contents.specs.declared.entry.Queue.{Queue}
use Rattle.file_contents.specs.declared.entry.Cube.{Cube}
use Rattle.file_records.specs.ProgramPart.{shape_of}
use Rattle.file_contents.specs.Cube.{waiting_of, queue_of, configuration_of}
use Rattle.file_contents.proofs.CubeParts.{channel_length}
use Rattle.list_theory.specs.Decision.{looks_started}
use Rattle.list_cube.specs.Sizes.{Small, starts_of}

-- the tests together
module _ (s : Shape) (initial : List ℕ) (c : Cube) (small : Small s) where
  abbrev states : Bool
  states = all_below (min s.processes 4) (λ p. eqb (get_or c.states p 0) (get_or initial p 0))

  abbrev empty : Bool
  empty = all_below s.processes (none_waiting (shape_of s) (configuration_of c))

  states_are : states ≡ in_target (shape_of s) (λ q. get_or initial q 0) (configuration_of c)
  states_are = few_all s.processes (λ p. eqb (get_or c.states p 0) (get_or initial p 0)) small.processes

  pub by_count : states ≡ true → empty ≡ true → eqb c.count 1 ≡ looks_started (starts_of s initial) (configuration_of c)
  by_count e f = sym (rw (sym states_are ∙ e) (rw f (ap (λ (k : ℕ). eqb k 1) (channel_length c.messages c.count))))
