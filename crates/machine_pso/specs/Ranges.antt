-- Values of the PSO machine in the ranges of their variables (document 02, N5, under claim 2), by the table of counts of the PWS machine's
-- (machine_pws/specs/Ranges).
use Rattle.std.specs.Prelude.{ℕ, ◌<◌, List, [], ◌∷◌, get_or, T}
use Rattle.machine_pws.specs.Program.{Shape, Program}
use Rattle.machine_pws.specs.Ranges.{Within}
use Rattle.machine_pso.specs.declared.PsoStep.{PsoStep}
use Rattle.machine_pso.specs.Machine.{Item, value, mark, PsoConfiguration, pso_may, pso_after}
use Rattle.machine_pso.specs.Runs.{PsoStart, PsoVisited}

-- each value of a buffer; a mark is none
abbrev pub AllValues : (ℕ → Type 0) → List Item → Type 0
AllValues Val [] = Unit {0}
AllValues Val (value x ∷ is) = Val x × AllValues Val is
AllValues Val (mark ∷ is) = AllValues Val is

-- memory and every buffer have their values in the ranges of the table
pub record PsoInRanges (S : Shape) (counts : List ℕ) (d : PsoConfiguration) : Type 0 where
  pub memory : (v : ℕ) → Within (get_or counts v 0) (get_or d.memory v 0)
  pub buffers : (p v : ℕ) → p < S.processes → v < S.variables → AllValues (λ x. x < get_or counts v 0) (d.buffer p v)

-- every step that the machine takes keeps them there, and so they are in every configuration that it comes to from a start
pub record PsoKeepsRanges (P : Program) (counts : List ℕ) : Type 0 where
  pub steps : (d : PsoConfiguration) (u : PsoStep) → PsoInRanges P.shape counts d → T (pso_may P d u) → PsoInRanges P.shape counts (pso_after P d u)
  pub visited : (memory : List ℕ) (d : PsoConfiguration) → PsoStart P memory d → (us : List PsoStep) (e : PsoConfiguration) → PsoVisited P d us e
      → PsoInRanges P.shape counts e
