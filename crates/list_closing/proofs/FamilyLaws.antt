-- Cubes in a full family are held, and the updates of an entry in one.
use Prim.Native.Nat.{ℕ, ◌+◌, ◌/◌, ◌%◌, ◌<◌}
use mathlib.Core.Path.{◌≡◌, refl, sym}
use mathlib.Core.List.{List}
use Rattle.machine_pws.specs.declared.Step.TheVariants.{Take, Serialise}
use Rattle.list_theory.specs.Decision.{held}
use Rattle.file_records.specs.declared.program.Shape.{Shape}
use Rattle.file_records.specs.declared.program.Program.{Program}
use Rattle.file_records.specs.ProgramPart.{shape_of, program_of}
use Rattle.file_contents.specs.declared.entry.Cube.{Cube}
use Rattle.file_contents.specs.Cube.{configuration_of}
use Rattle.file_again.specs.Again.{entries_of}
use Rattle.list_known.specs.FamilyTable.{Families, Recorded}
use Rattle.list_known.proofs.FamilyTable.{recorded_held, recorded_update, recorded_serialise}
use Rattle.list_theory.specs.Predecessors.{on_top}
use Rattle.list_cube.specs.Editing.{CubeFor}
use Rattle.list_before.specs.Before.{serialise_before}
use Rattle.list_cover.specs.Search.{Searchable}
use Rattle.list_closing.specs.Walk.{step_held, walk_step, Walkable, Serialising}
use Rattle.list_closing.proofs.WalkLaws.{walk_all}
use mathlib.Core.Bool.{true}

pub found_held : (s : Shape) (f list sum : List ℕ) (n : ℕ) (table : List ℕ) (c : Cube) → Recorded table f list n s c → Families (shape_of s) (entries_of f list n) table → Searchable f list sum n s c
    → true ≡ held (shape_of s) (entries_of f list n) (configuration_of c)
found_held s f list sum n table c r F Z = sym (recorded_held s Z.plain.shape f list n table F c r Z.plain.entries Z.plain.fits)

module _ (g f list sum : List ℕ) (n : ℕ) (p : Program) (c : Cube) (table : List ℕ) (W : Walkable g f list sum n p c)
    (Y : Families (shape_of p.shape) (entries_of f list n) table) (r : Recorded table f list n p.shape c) where
  -- no update leads in
  pub walk_family : (m : ℕ) → ((j : ℕ) → j < m → step_held (program_of g p) (entries_of f list n) (configuration_of c) (Take j) ≡ true)
      → ((i : ℕ) → i < 16 → step_held (program_of g p) (entries_of f list n) (configuration_of c) (Serialise (i / 4) (i % 4)) ≡ true)
      → (j : ℕ) → j < m + 20 → step_held (program_of g p) (entries_of f list n) (configuration_of c) (walk_step m j) ≡ true
  unfolding step_held
  walk_family m w u =
      walk_all (step_held (program_of g p) (entries_of f list n) (configuration_of c)) m w u
      (λ q b. recorded_update p.shape W.stepping.program.shape f list n table Y c r (program_of g p) W.stepping.program refl W.entries W.own q)

-- what a serialise leads from, if the cube with another newest message is in a full family
pub serialise_family : (g f list sum : List ℕ) (n : ℕ) (s : Program) (c : Cube) (p v : ℕ) → Serialising g f list sum n s c p v → (table : List ℕ) → Families (shape_of s.shape) (entries_of f list n) table
    → (top : Cube) → Recorded table f list n s.shape top → CubeFor top (serialise_before (shape_of s.shape) (configuration_of c) p v (on_top v))
    → true ≡ step_held (program_of g s) (entries_of f list n) (configuration_of c) (Serialise p v)
unfolding step_held
serialise_family g f list sum n s c p v Z table Y top r d =
    let W = Z.walkable in
    sym (recorded_serialise s.shape W.stepping.program.shape f list n table Y top r (program_of g s) W.stepping.program refl W.entries (configuration_of c) W.own p v d.configuration)
