-- Programs with nops are programs.
use Prim.Native.Nat.{ℕ, zero, suc, ◌<◌, ◌+◌}
use mathlib.Core.Path.{◌≡◌, refl, sym, ap, subst, ◌∙◌}
use mathlib.Core.Bool.{Bool, true, false}
use mathlib.Core.List.{List, [], ◌∷◌}
use native.Mathlib.Omega.{arith}
use borrow.Author.Tests.{ne_eqb, eq-eqb}
use lib.ListN.{length, get_or, set}
use Rattle.machine_pws.specs.declared.Transition.{Transition}
use Rattle.machine_pws.specs.Program.{Program, transition, no_transition, TransitionOf}
use Rattle.report_theory.specs.Nops.{Choice, as_nop, nops_from, with_nops, only, all_kept}
use Rattle.report_theory.specs.Statements.{NopsWellFormed, NopsInRange, AllKeptIsProgram, OnlyIsSet}

nops_length : (choice : Choice) (k : ℕ) (ts : List Transition) → length (nops_from choice k ts) ≡ length ts
nops_length choice k [] = refl
nops_length choice k (t ∷ ts) = ap suc (nops_length choice (suc k) ts)

nops_at : (choice : Choice) (k : ℕ) (ts : List Transition) (n : ℕ) → n < length ts
    → get_or (nops_from choice k ts) n no_transition ≡ as_nop (choice (k + n)) (get_or ts n no_transition)
nops_at choice k [] n l = absurd (omega arith)
nops_at choice k (t ∷ ts) zero l = let e : k ≡ k + 0 = omega arith in ap (λ (i : ℕ). as_nop (choice i) t) e
nops_at choice k (t ∷ ts) (suc n) l =
    let e : suc k + n ≡ k + suc n = omega arith in
    nops_at choice (suc k) ts n (omega arith) ∙ ap (λ (i : ℕ). as_nop (choice i) (get_or ts n no_transition)) e

-- as many transitions, each with its number
pub same_length : (P : Program) (choice : Choice) → length (with_nops P choice).transitions ≡ length P.transitions
same_length P choice = nops_length choice 0 P.transitions

pub transition_at_lem : (P : Program) (choice : Choice) (n : ℕ) → n < length P.transitions
    → transition (with_nops P choice) n ≡ as_nop (choice n) (transition P n)
transition_at_lem P choice n l =
    let e : 0 + n ≡ n = omega arith in
    nops_at choice 0 P.transitions n l ∙ ap (λ (i : ℕ). as_nop (choice i) (transition P n)) e

-- ---- one alone

only_past : (m k : ℕ) (ts : List Transition) → m < k → nops_from (only m) k ts ≡ ts
only_past m k [] l = refl
only_past m k (t ∷ ts) l = rw (ne_eqb k m (λ e. omega arith), only_past m (suc k) ts (omega arith))

only_at : (m n k : ℕ) (ts : List Transition) → m ≡ k + n → n < length ts
    → nops_from (only m) k ts ≡ set ts n (as_nop true (get_or ts n no_transition))
only_at m n k [] e l = absurd (omega arith)
only_at m zero k (t ∷ ts) e l = rw (eq-eqb k m (omega arith), only_past m (suc k) ts (omega arith))
only_at m (suc n) k (t ∷ ts) e l = rw (ne_eqb k m (λ d. omega arith), only_at m n (suc k) ts (omega arith) (omega arith))

pub only_is_set : OnlyIsSet
only_is_set P n l = only_at n n 0 P.transitions (omega arith) l

-- ---- well formed, and in range

nop_of : (P : Program) (choice : Choice) (b : Bool) (t : Transition) → TransitionOf P t → TransitionOf (with_nops P choice) (as_nop b t)
nop_of P choice true t o = record { process = o.process; from = o.from; to = o.to; operation = tt }
nop_of P choice false t o = record { process = o.process; from = o.from; to = o.to; operation = o.operation }

pub nops_well_formed : NopsWellFormed
nops_well_formed P choice R =
    record {
      shape = R.shape;
      initial = R.initial;
      transitions = λ n l.
          let h : n < length P.transitions = rw (same_length P choice) at l in
          subst (TransitionOf (with_nops P choice)) (sym (transition_at_lem P choice n h)) (nop_of P choice (choice n) (transition P n) (R.transitions n h));
    }

pub nops_in_range : NopsInRange
nops_in_range P choice R = record { well_formed = nops_well_formed P choice R.well_formed; shape = R.shape }

-- ---- all kept

kept_same : (k : ℕ) (ts : List Transition) → nops_from all_kept k ts ≡ ts
kept_same k [] = refl
kept_same k (t ∷ ts) = ap (λ (us : List Transition). t ∷ us) (kept_same (suc k) ts)

pub all_kept_is_program : AllKeptIsProgram
all_kept_is_program P =
    ap (λ (ts : List Transition). record { shape = P.shape; states = P.states; initial = P.initial; transitions = ts }) (kept_same 0 P.transitions)
