-- Each row of the tables of worked cases holds: runs and fences by computation.
use Prim.Native.Nat.{ℕ, zero, suc, ◌<◌}
use mathlib.Core.Path.{◌≡◌, refl, sym, ap, subst}
use mathlib.Core.Logic.{◌≢◌}
use mathlib.Core.Bool.{Bool, true, false, ◌&&◌}
use mathlib.Core.List.{List, [], ◌∷◌}
use native.Mathlib.Omega.{arith}
use lib.ListN.{get_or}
use lib.Dec.{T, eqb, eqb→eq}
use mir.Facts.{and_yes}
use Rattle.machine_pws.specs.declared.Step.{Step}
use Rattle.machine_pws.specs.Program.{Shape, Program, transition}
use Rattle.machine_pws.specs.Machine.{Configuration, may, after}
use Rattle.machine_pws.specs.Configurations.{start_with, InTarget, in_target}
use Rattle.machine_pws.specs.Sequences.{Takes, done, step, Replay, ended, stopped, replay}
use Rattle.machine_pws.specs.Cases.{zeros}
use Rattle.machine_pws.proofs.Cases.{all_yes}
use Rattle.machine_pso.specs.Cases.{fenced}
use Rattle.report_theory.specs.Nops.{is_fence, FenceOf}
use Rattle.report_theory.specs.Report.{mark}
use Rattle.report_theory.specs.Cases.{Row, ends, stops, fence, right, wrong, Holds, Each, no_row, row, marks, cases, mark_cases}

-- ---- tests of a replay

abbrev ends_in : Shape → (ℕ → ℕ) → Replay → Bool
ends_in S t (ended d) = in_target S t d
ends_in S t (stopped k) = false

abbrev stops_at : ℕ → Replay → Bool
stops_at k (ended d) = false
stops_at k (stopped i) = eqb i k

stops_is : (k : ℕ) (r : Replay) → T (stops_at k r) → r ≡ stopped k
stops_is k (ended d) t = absurd t
stops_is k (stopped i) t = ap stopped (eqb→eq i k t)

target_is : (S : Shape) (t : ℕ → ℕ) (d : Configuration) → T (in_target S t d) → InTarget S t d
target_is S t d y p l = eqb→eq (d.state p) (t p) (all_yes S.processes (λ p. eqb (d.state p) (t p)) y p l)

takes_all : (P : Program) (ss : List Step) (k : ℕ) (c : Configuration) (t : ℕ → ℕ) → T (ends_in P.shape t (replay P k c ss))
    → (d : Configuration) × Takes P c ss d × InTarget P.shape t d
takes_all P [] k c t y = (c, done, target_is P.shape t c y)
takes_all P (s ∷ ss) k c t y = go (λ z. takes_all P ss (suc k) (after P c s) t z) (may P c s) refl y
  where
    go : (T (ends_in P.shape t (replay P (suc k) (after P c s) ss)) → (d : Configuration) × Takes P (after P c s) ss d × InTarget P.shape t d)
        → (b : Bool) → may P c s ≡ b → T (ends_in P.shape t (elim b [ true ↦ replay P (suc k) (after P c s) ss | false ↦ stopped k ]))
        → (d : Configuration) × Takes P c (s ∷ ss) d × InTarget P.shape t d
    go f true e y = let r = f y in (r.0, step s (subst T (sym e) tt) r.1, r.2)
    go f false e y = absurd y

-- ---- rows

abbrev same : Bool → Bool → Bool
same true b = b
same false true = false
same false false = true

same_is : (a b : Bool) → T (same a b) → a ≡ b
same_is true true t = refl
same_is true false t = absurd t
same_is false true t = absurd t
same_is false false t = refl

abbrev test : Row → Bool
test (ends P ss states) = ends_in P.shape (λ p. get_or states p 0) (replay P 0 (start_with P zeros 0 0) ss)
test (stops P ss k) = stops_at k (replay P 0 (start_with P zeros 0 0) ss)
test (fence P n b) = same (is_fence (transition P n).operation) b
test (right P ms) = false
test (wrong P ms) = false

holds : (r : Row) → T (test r) → Holds r
unfolding Holds
holds (ends P ss states) t = takes_all P ss 0 (start_with P zeros 0 0) (λ p. get_or states p 0) t
holds (stops P ss k) t = stops_is k (replay P 0 (start_with P zeros 0 0) ss) t
holds (fence P n b) t = same_is (is_fence (transition P n).operation) b t
holds (right P ms) t = absurd t
holds (wrong P ms) t = absurd t

abbrev test_all : List Row → Bool
test_all [] = true
test_all (r ∷ rs) = test r && test_all rs

each : (rs : List Row) → T (test_all rs) → Each Holds rs
each [] t = no_row
each (r ∷ rs) t = let y = and_yes (test r) (test_all rs) t in row (holds r y.0) (each rs y.1)

pub cases_hold : Each Holds cases
cases_hold = each cases tt

-- ---- marks

none_right : Holds (right fenced [])
unfolding Holds
none_right = record { fences = λ i l. absurd (omega arith); different = λ i j l h. absurd (omega arith) }

both_right : Holds (right fenced marks)
unfolding Holds
both_right = record { fences = fences; different = λ i j l h. different i j (omega arith) (omega arith) }
  where
    fences : (i : ℕ) → i < 2 → FenceOf fenced (mark marks i)
    fences zero l = record { exists = omega arith; fence = tt }
    fences (suc zero) l = record { exists = omega arith; fence = tt }
    fences (suc (suc i)) l = absurd (omega arith)

    different : (i j : ℕ) → i < j → j < 2 → mark marks i ≢ mark marks j
    different zero (suc zero) l h e = omega arith
    different i zero l h e = omega arith
    different (suc i) (suc zero) l h e = omega arith
    different i (suc (suc j)) l h e = omega arith

repeated_wrong : Holds (wrong fenced (1 ∷ 4 ∷ 1 ∷ []))
unfolding Holds
repeated_wrong d = d.different 0 2 (omega arith) (omega arith) refl

write_wrong : Holds (wrong fenced (1 ∷ 3 ∷ []))
unfolding Holds
write_wrong d = (d.fences 1 (omega arith)).fence

absent_wrong : Holds (wrong fenced (6 ∷ []))
unfolding Holds
absent_wrong d = (d.fences 0 (omega arith)).fence

pub marks_hold : Each Holds mark_cases
marks_hold = row none_right (row both_right (row repeated_wrong (row write_wrong (row absent_wrong no_row))))
