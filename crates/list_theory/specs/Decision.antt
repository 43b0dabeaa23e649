-- A list judged by computation (theory, sections 3 to 6). It is slow: that it is right is `verdict_judged`.
use Rattle.std.specs.Prelude.{ℕ, Bool, true, false, ◌&&◌, not, List, [], ◌∷◌, length, eqb}
use Rattle.std.proofs.Math.Option.{none, some}
use Rattle.machine_pws.specs.declared.Step.{Step}
use Rattle.machine_pws.specs.declared.Step.TheVariants.{Update}
use Rattle.machine_pws.specs.Program.{Shape, Program}
use Rattle.machine_pws.specs.Machine.{Configuration, all_below, none_waiting}
use Rattle.machine_pws.specs.Configurations.{in_target}
use Rattle.machine_pws.specs.Entries.{FF, entry}
use Rattle.list_theory.specs.Verdict.{ListVerdict, safe, unheld, started, entered}
use Rattle.list_theory.specs.Lists.{every, any_of, lowest, first_failing}
use Rattle.list_theory.specs.Values.{fills, alike}
use Rattle.list_theory.specs.Matching.{matches}
use Rattle.list_theory.specs.Covering.{Place, variable_of, at, split, places}
use Rattle.list_theory.specs.Predecessors.{predecessors, steps}
use Rattle.list_theory.specs.Shapes.{shape_cubes}

-- Is every filling of c above the list? If an entry covers it, all are; if none may meet it, none is; else it is split at the first
-- of the places that has FF. Several entries may together cover what none covers alone. The place changes only the speed.
abbrev pub held_at : Shape → List Configuration → List Place → Configuration → Bool
held_at S es [] c = any_of (λ e. matches S fills e c) es
held_at S es (a ∷ rest) c = elim (any_of (λ e. matches S fills e c) es) [
  | true ↦ true
  | false ↦ elim (any_of (λ e. matches S alike e c) es) [
    | true ↦ elim (eqb (at c a) FF) [
      | true ↦ all_below (S.values (variable_of a)) (λ x. held_at S es rest (split c a x))
      | false ↦ held_at S es rest c
    ]
    | false ↦ false
  ]
]

abbrev pub held : Shape → List Configuration → Configuration → Bool
held S es c = held_at S es (places S c) c

-- number 9
abbrev pub target_held : Program → List Configuration → (ℕ → ℕ) → Bool
target_held P es t = every (held P.shape es) (shape_cubes P.shape t)

-- number 10: initial states, no waiting value and one message; a start has any values (theory, section 4)
abbrev pub looks_started : Program → Configuration → Bool
looks_started P e =
    (in_target P.shape P.initial e && all_below P.shape.processes (none_waiting P.shape e)) && eqb (length e.memory.channel) 1

-- number 11
abbrev pub closed : Program → List Configuration → Configuration → Bool
closed P es e = every (λ s. every (held P.shape es) (predecessors P e s)) (steps P)

-- the lowest step of which a predecessor is not held
abbrev pub open_step : Program → List Configuration → Configuration → Step
open_step P es e = first_failing (λ s. every (held P.shape es) (predecessors P e s)) (Update 0) (steps P)

abbrev pub verdict_of : Program → List (ℕ → ℕ) → List Configuration → ListVerdict
verdict_of P ts es = elim (lowest (target_held P es) ts) [
  | some k ↦ unheld k
  | none ↦ elim (lowest (λ e. not (looks_started P e)) es) [
    | some k ↦ started k
    | none ↦ elim (lowest (closed P es) es) [ some k ↦ entered k (open_step P es (entry es k)) | none ↦ safe (length es) ]
  ]
]
