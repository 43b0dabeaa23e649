-- Each row of the table of worked cases holds: by computation.
use Prim.Native.Nat.{ℕ, suc, ◌<◌}
use mathlib.Core.Path.{◌≡◌, refl, sym, ap, subst}
use mathlib.Core.Bool.{Bool, true, false, ◌&&◌}
use mathlib.Core.List.{List, [], ◌∷◌, map}
use lib.ListN.{get_or}
use lib.Dec.{T, eqb, eqb→eq}
use mir.Facts.{and_yes}
use Rattle.machine_pws.specs.declared.Transition.{Transition}
use Rattle.machine_pws.specs.declared.Step.{Step}
use Rattle.machine_pws.specs.Machine.{all_below}
use Rattle.machine_pws.proofs.Cases.{all_yes}
use Rattle.register_machine.specs.Program.{RegisterProgram}
use Rattle.register_machine.specs.Machine.{RegisterConfiguration, register_may, register_after}
use Rattle.register_machine.specs.Runs.{register_start_with, done, step, RegisterReplay, ended, stopped, register_replay}
use Rattle.register_machine.specs.Written.{written, number_written, target_becomes}
use Rattle.register_machine.specs.Cases.{ends, stops, writes, numbers, targets, listed, Ends, Holds, Each, no_row, row, cases}

-- ---- tests of a replay

abbrev same_list : List ℕ → List ℕ → Bool
same_list [] [] = true
same_list [] (y ∷ ys) = false
same_list (x ∷ xs) [] = false
same_list (x ∷ xs) (y ∷ ys) = eqb x y && same_list xs ys

same_list_lem : (xs ys : List ℕ) → T (same_list xs ys) → xs ≡ ys
same_list_lem [] [] t = refl
same_list_lem [] (y ∷ ys) t = absurd t
same_list_lem (x ∷ xs) [] t = absurd t
same_list_lem (x ∷ xs) (y ∷ ys) t =
    let a = and_yes (eqb x y) (same_list xs ys) t in
    let e = eqb→eq x y a.0 in
    let f = same_list_lem xs ys a.1 in
    λ i. e i ∷ f i

abbrev ends_in : ℕ → List ℕ → List ℕ → RegisterReplay → Bool
ends_in n states registers (ended c) = same_list (listed n c.state) states && same_list (listed n c.register) registers
ends_in n states registers (stopped k) = false

abbrev stops_at : ℕ → RegisterReplay → Bool
stops_at k (ended c) = false
stops_at k (stopped i) = eqb i k

stops_is : (k : ℕ) (r : RegisterReplay) → T (stops_at k r) → r ≡ stopped k
stops_is k (ended c) t = absurd t
stops_is k (stopped i) t = ap stopped (eqb→eq i k t)

takes_all : (R : RegisterProgram) (ss : List Step) (k : ℕ) (c : RegisterConfiguration) (states registers : List ℕ)
    → T (ends_in R.shape.processes states registers (register_replay R k c ss)) → Ends R c ss states registers
takes_all R [] k c states registers y =
    let n = R.shape.processes in
    let a = and_yes (same_list (listed n c.state) states) (same_list (listed n c.register) registers) y in
    record { last = c; takes = done; in_states = same_list_lem (listed n c.state) states a.0; in_registers = same_list_lem (listed n c.register) registers a.1 }
takes_all R (s ∷ ss) k c states registers y = go (λ z. takes_all R ss (suc k) (register_after R c s) states registers z) (register_may R c s) refl y
  where
    go : (T (ends_in R.shape.processes states registers (register_replay R (suc k) (register_after R c s) ss)) → Ends R (register_after R c s) ss states registers)
        → (b : Bool) → register_may R c s ≡ b
        → T (ends_in R.shape.processes states registers (elim b [ true ↦ register_replay R (suc k) (register_after R c s) ss | false ↦ stopped k ]))
        → Ends R c (s ∷ ss) states registers
    go f true m y =
        let r = f y in
        record { last = r.last; takes = step s (subst T (sym m) tt) r.takes; in_states = r.in_states; in_registers = r.in_registers }
    go f false m y = absurd y

-- ---- rows

abbrev labels : RegisterProgram → List ℕ → (RegisterConfiguration → Bool) → Bool
labels R memory test = all_below R.shape.processes (λ p. all_below R.shape.variables (λ v. test (register_start_with R memory p v)))

each_label : (R : RegisterProgram) (memory : List ℕ) (test : RegisterConfiguration → Bool) → T (labels R memory test)
    → (p v : ℕ) → p < R.shape.processes → v < R.shape.variables → T (test (register_start_with R memory p v))
each_label R memory test t p v pe ve =
    all_yes R.shape.variables (λ v. test (register_start_with R memory p v))
    (all_yes R.shape.processes (λ p. all_below R.shape.variables (λ v. test (register_start_with R memory p v))) t p pe) v ve

run_ends : (R : RegisterProgram) (memory : List ℕ) (ss : List Step) (states registers : List ℕ)
    → T (labels R memory (λ c. ends_in R.shape.processes states registers (register_replay R 0 c ss))) → Holds (ends R memory ss states registers)
unfolding Holds
run_ends R memory ss states registers t = λ p v pe ve.
    takes_all R ss 0 (register_start_with R memory p v) states registers
    (each_label R memory (λ c. ends_in R.shape.processes states registers (register_replay R 0 c ss)) t p v pe ve)

run_stops : (R : RegisterProgram) (memory : List ℕ) (ss : List Step) (k : ℕ)
    → T (labels R memory (λ c. stops_at k (register_replay R 0 c ss))) → Holds (stops R memory ss k)
unfolding Holds
run_stops R memory ss k t = λ p v pe ve.
    stops_is k (register_replay R 0 (register_start_with R memory p v) ss) (each_label R memory (λ c. stops_at k (register_replay R 0 c ss)) t p v pe ve)

run_writes : (R : RegisterProgram) (states initial : List ℕ) (ts : List Transition) → listed R.shape.processes (written R).states ≡ states
    → listed R.shape.processes (written R).initial ≡ initial → (written R).transitions ≡ ts → Holds (writes R states initial ts)
unfolding Holds
run_writes R states initial ts a b c = (a, b, c)

run_numbers : (R : RegisterProgram) (n r x m : ℕ) → number_written R n r x ≡ m → Holds (numbers R n r x m)
unfolding Holds
run_numbers R n r x m e = e

run_targets : (R : RegisterProgram) (target : List ℕ) (ts : List (List ℕ))
    → map (listed R.shape.processes) (target_becomes R (λ p. get_or target p 0)) ≡ ts → Holds (targets R target ts)
unfolding Holds
run_targets R target ts e = e

pub cases_hold : Each Holds cases
cases_hold =
    row (run_ends _ _ _ _ _ tt)
    (row (run_ends _ _ _ _ _ tt)
    (row (run_stops _ _ _ _ tt)
    (row (run_ends _ _ _ _ _ tt)
    (row (run_stops _ _ _ _ tt)
    (row (run_stops _ _ _ _ tt)
    (row (run_ends _ _ _ _ _ tt)
    (row (run_stops _ _ _ _ tt)
    (row (run_ends _ _ _ _ _ tt)
    (row (run_ends _ _ _ _ _ tt)
    (row (run_stops _ _ _ _ tt)
    (row (run_ends _ _ _ _ _ tt)
    (row (run_ends _ _ _ _ _ tt)
    (row (run_ends _ _ _ _ _ tt)
    (row (run_ends _ _ _ _ _ tt)
    (row (run_ends _ _ _ _ _ tt)
    (row (run_ends _ _ _ _ _ tt)
    (row (run_stops _ _ _ _ tt)
    (row (run_stops _ _ _ _ tt)
    (row (run_writes _ _ _ _ refl refl refl)
    (row (run_numbers _ _ _ _ _ refl)
    (row (run_numbers _ _ _ _ _ refl)
    (row (run_numbers _ _ _ _ _ refl)
    (row (run_targets _ _ _ refl) no_row)))))))))))))))))))))))
