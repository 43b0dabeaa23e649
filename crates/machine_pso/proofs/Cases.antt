-- Each row of the table of worked cases holds: by computation.
use Prim.Native.Nat.{ℕ, suc}
use mathlib.Core.Path.{◌≡◌, refl, sym, ap, subst}
use mathlib.Core.Bool.{Bool, true, false, ◌&&◌}
use mathlib.Core.List.{List, [], ◌∷◌}
use lib.ListN.{get_or}
use lib.Dec.{T, eqb, eqb→eq}
use mir.Facts.{and_yes}
use Rattle.machine_pws.specs.Program.{Shape, Program}
use Rattle.machine_pws.proofs.Cases.{all_yes}
use Rattle.machine_pso.specs.declared.PsoStep.{PsoStep}
use Rattle.machine_pso.specs.Machine.{PsoConfiguration, pso_may, pso_after}
use Rattle.machine_pso.specs.Runs.{pso_start_with, PsoTakes, done, step, PsoReplay, ended, stopped, pso_replay, PsoInTarget, pso_in_target}
use Rattle.machine_pso.specs.Cases.{Row, ends, stops, Holds, Each, no_row, row, cases}

-- ---- tests of a replay

abbrev ends_in : Shape → (ℕ → ℕ) → PsoReplay → Bool
ends_in S t (ended d) = pso_in_target S t d
ends_in S t (stopped k) = false

abbrev stops_at : ℕ → PsoReplay → Bool
stops_at k (ended d) = false
stops_at k (stopped i) = eqb i k

stops_is : (k : ℕ) (r : PsoReplay) → T (stops_at k r) → r ≡ stopped k
stops_is k (ended d) t = absurd t
stops_is k (stopped i) t = ap stopped (eqb→eq i k t)

target_is : (S : Shape) (t : ℕ → ℕ) (d : PsoConfiguration) → T (pso_in_target S t d) → PsoInTarget S t d
target_is S t d y p l = eqb→eq (d.state p) (t p) (all_yes S.processes (λ p. eqb (d.state p) (t p)) y p l)

takes_all : (P : Program) (us : List PsoStep) (k : ℕ) (d : PsoConfiguration) (t : ℕ → ℕ) → T (ends_in P.shape t (pso_replay P k d us))
    → (e : PsoConfiguration) × PsoTakes P d us e × PsoInTarget P.shape t e
takes_all P [] k d t y = (d, done, target_is P.shape t d y)
takes_all P (u ∷ us) k d t y = go (λ z. takes_all P us (suc k) (pso_after P d u) t z) (pso_may P d u) refl y
  where
    go : (T (ends_in P.shape t (pso_replay P (suc k) (pso_after P d u) us)) → (e : PsoConfiguration) × PsoTakes P (pso_after P d u) us e × PsoInTarget P.shape t e)
        → (b : Bool) → pso_may P d u ≡ b → T (ends_in P.shape t (elim b [ true ↦ pso_replay P (suc k) (pso_after P d u) us | false ↦ stopped k ]))
        → (e : PsoConfiguration) × PsoTakes P d (u ∷ us) e × PsoInTarget P.shape t e
    go f true m y = let r = f y in (r.0, step u (subst T (sym m) tt) r.1, r.2)
    go f false m y = absurd y

-- ---- rows

abbrev test : Row → Bool
test (ends P memory us states) = ends_in P.shape (λ p. get_or states p 0) (pso_replay P 0 (pso_start_with P memory) us)
test (stops P memory us k) = stops_at k (pso_replay P 0 (pso_start_with P memory) us)

holds : (r : Row) → T (test r) → Holds r
unfolding Holds
holds (ends P memory us states) t = takes_all P us 0 (pso_start_with P memory) (λ p. get_or states p 0) t
holds (stops P memory us k) t = stops_is k (pso_replay P 0 (pso_start_with P memory) us) t

abbrev test_all : List Row → Bool
test_all [] = true
test_all (r ∷ rs) = test r && test_all rs

each : (rs : List Row) → T (test_all rs) → Each Holds rs
each [] t = no_row
each (r ∷ rs) t = let y = and_yes (test r) (test_all rs) t in row (holds r y.0) (each rs y.1)

pub cases_hold : Each Holds cases
cases_hold = each cases tt
