-- Each row of the table of worked cases holds.
use Prim.Native.Nat.{ℕ, zero, suc, ◌<◌, ◌≤◌}
use mathlib.Core.Path.{◌≡◌, refl, sym, ap, subst, ◌∙◌}
use mathlib.Core.Bool.{Bool, true, false, ◌&&◌}
use mathlib.Core.List.{List, [], ◌∷◌}
use native.Mathlib.Omega.{arith}
use native.Mathlib.Decide.{ℕ_discrete}
use lib.Dec.{T, eqb, eqb→eq}
use mir.Facts.{and_yes}
use Rattle.machine_pws.specs.declared.Step.{Step}
use Rattle.machine_pws.specs.Program.{Shape, Program}
use Rattle.machine_pws.specs.Machine.{Configuration, all_below, may, after}
use Rattle.machine_pws.specs.Configurations.{Start, starting_memory, start_with, InTarget, in_target}
use Rattle.machine_pws.specs.Order.{QueueBelow, Maps}
use Rattle.machine_pws.specs.Sequences.{Takes, done, step, Replay, ended, stopped, replay}
use Rattle.machine_pws.specs.Cases.{Row, ends, stops, below, not_below, not_mapped, Holds, program_h, messages, Each, no_row, row, cases}
use Rattle.machine_pws.proofs.Queues.{keep, skip, nothing, queue_of_lem}
use Rattle.machine_pws.proofs.Starts.{start_is}

pub all_yes : (n : ℕ) (f : ℕ → Bool) → T (all_below n f) → (i : ℕ) → i < n → T (f i)
all_yes zero f t i l = absurd (omega arith)
all_yes (suc n) f t i l =
    let r = and_yes (all_below n f) (f n) t in
    elim (ℕ_discrete i n) [ yes e ↦ rw e r.1 | no e ↦ all_yes n f r.0 i (omega arith) ]

-- what holds for each label holds for each start with this memory
each_start : (P : Program) (m : List ℕ) (test : Configuration → Bool) → T (all_below P.shape.processes (λ p. all_below P.shape.variables (λ v. test (start_with P m p v))))
    → (c : Configuration) → Start P c → starting_memory c ≡ m → T (test c)
each_start P m test t c s e =
    let r = start_is P m c s e in
    subst (λ (d : Configuration). T (test d)) (sym r.same)
    (all_yes P.shape.variables (λ v. test (start_with P m r.process v))
    (all_yes P.shape.processes (λ p. all_below P.shape.variables (λ v. test (start_with P m p v))) t r.process r.process_exists) r.variable r.variable_exists)

-- ---- tests of a replay

abbrev ends_in : Shape → (ℕ → ℕ) → Replay → Bool
ends_in S t (ended c) = in_target S t c
ends_in S t (stopped k) = false

abbrev stops_at : ℕ → Replay → Bool
stops_at k (ended c) = false
stops_at k (stopped i) = eqb i k

stops_is : (k : ℕ) (r : Replay) → T (stops_at k r) → r ≡ stopped k
stops_is k (ended c) t = absurd t
stops_is k (stopped i) t = ap stopped (eqb→eq i k t)

takes_all : (P : Program) (ss : List Step) (k : ℕ) (c : Configuration) (t : ℕ → ℕ) → T (ends_in P.shape t (replay P k c ss))
    → (d : Configuration) × Takes P c ss d × T (in_target P.shape t d)
takes_all P [] k c t y = (c, done, y)
takes_all P (s ∷ ss) k c t y = go (λ z. takes_all P ss (suc k) (after P c s) t z) (may P c s) refl y
  where
    go : (T (ends_in P.shape t (replay P (suc k) (after P c s) ss)) → (d : Configuration) × Takes P (after P c s) ss d × T (in_target P.shape t d))
        → (b : Bool) → may P c s ≡ b → T (ends_in P.shape t (elim b [ true ↦ replay P (suc k) (after P c s) ss | false ↦ stopped k ]))
        → (d : Configuration) × Takes P c (s ∷ ss) d × T (in_target P.shape t d)
    go f true e y = let r = f y in (r.0, step s (subst T (sym e) tt) r.1, r.2)
    go f false e y = absurd y

target_is : (S : Shape) (t : ℕ → ℕ) (c : Configuration) → T (in_target S t c) → InTarget S t c
target_is S t c y p l = eqb→eq (c.state p) (t p) (all_yes S.processes (λ p. eqb (c.state p) (t p)) y p l)

-- ---- rows

abbrev labels : Program → List ℕ → (Configuration → Bool) → Bool
labels P m test = all_below P.shape.processes (λ p. all_below P.shape.variables (λ v. test (start_with P m p v)))

test : Row → Bool
test (ends P m ss q) = labels P m (λ c. ends_in P.shape (λ p. q) (replay P 0 c ss))
test (stops P m ss k) = labels P m (λ c. stops_at k (replay P 0 c ss))
test (below xs ys) = false
test (not_below xs ys) = false
test (not_mapped S m n) = false

run : (r : Row) → T (test r) → Holds r
unfolding test Holds
run (ends P m ss q) t = λ c s e.
    let r = takes_all P ss 0 c (λ p. q) (each_start P m (λ c. ends_in P.shape (λ p. q) (replay P 0 c ss)) t c s e) in
    (r.0, r.1, target_is P.shape (λ p. q) r.0 r.2)
run (stops P m ss k) t = λ c s e. stops_is k (replay P 0 c ss) (each_start P m (λ c. stops_at k (replay P 0 c ss)) t c s e)
run (below xs ys) t = absurd t
run (not_below xs ys) t = absurd t
run (not_mapped S m n) t = absurd t

K_below : Holds (below (1 ∷ []) (0 ∷ 1 ∷ []))
unfolding Holds
K_below = queue_of_lem (skip (keep refl nothing))

K_not_below : Holds (not_below (1 ∷ []) (1 ∷ 0 ∷ []))
unfolding Holds
K_not_below q = let e = q.end in let z : ◌≡◌ {A = ℕ} 0 1 = cc in omega arith

unmatched : Holds (not_mapped program_h.shape (messages 1) (messages 2))
unfolding Holds
unmatched h M = omega (arith, M.pointers 0 (omega arith), M.last_writes 0 0 (omega arith) (omega arith))

pub cases_hold : Each Holds cases
unfolding test
cases_hold =
    row (run _ tt)
    (row (run _ tt)
    (row (run _ tt)
    (row (run _ tt)
    (row (run _ tt)
    (row (run _ tt)
    (row (run _ tt)
    (row (run _ tt)
    (row (run _ tt)
    (row K_below
    (row K_not_below
    (row unmatched no_row)))))))))))
