-- An answer has one or more steps: where no step is permitted there is none, and answers are as many as the steps answered, or more.
use Prim.Native.Nat.{ℕ, suc, ◌+◌, ◌≤◌}
use mathlib.Core.List.{List, [], ◌∷◌}
use native.Mathlib.Omega.{arith}
use lib.ListN.{length}
use lib.Dec.{T}
use Rattle.machine_pws.specs.declared.Step.{Step}
use Rattle.machine_pws.specs.Program.{Program}
use Rattle.machine_pws.specs.Machine.{Configuration, may}
use Rattle.machine_pws.specs.Sequences.{Takes, done, step, Answer, Answers, none, each}

first_step : {P : Program} {d e : Configuration} {ss : List Step} → 1 ≤ length ss → Takes P d ss e → (s : Step) × T (may P d s)
first_step l done = absurd (omega arith)
first_step l (step s t r) = (s, t)

pub no_answer : {P : Program} {d : Configuration} → ((s : Step) → T (may P d s) → ⊥) → Answer P d → ⊥
no_answer f a = let r = first_step a.some a.takes in f r.0 r.1

abbrev pub answered : {P : Program} {c d : Configuration} {ss : List Step} → Answers P c d ss → ℕ
answered none = 0
answered (each s a b r) = length a.steps + answered r

pub answers_long : {P : Program} {c d : Configuration} {ss : List Step} → (r : Answers P c d ss) → length ss ≤ answered r
answers_long none = omega arith
answers_long (each s a b r) = omega (arith, a.some, answers_long r)
