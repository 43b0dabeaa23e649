-- What a report proves.
use Prim.Native.Nat.{ℕ, zero, suc, ◌<◌}
use mathlib.Core.Path.{◌≡◌, refl, sym, ap, subst}
use mathlib.Core.Logic.{inr, ⊎_elim}
use mathlib.Core.List.{List, [], ◌∷◌}
use native.Mathlib.Omega.{arith}
use lib.ListN.{length}
use lib.Dec.{T, eqb→eq, eqb_refl}
use Rattle.machine_pws.specs.Program.{Program, WellFormed}
use Rattle.machine_pws.specs.Machine.{Configuration}
use Rattle.machine_equal.specs.Equivalence.{PwsReachable}
use Rattle.machine_equal.proofs.Reachability.{same_reachability, start_of_lem, permitted_start, takes_visited}
use Rattle.list_theory.specs.Verdict.{target}
use Rattle.list_theory.proofs.Verdict.{list_safety}
use Rattle.report_theory.specs.Nops.{Choice, with_nops, only, FenceOf, MoreNops}
use Rattle.report_theory.specs.Report.{
  mark,
  DifferentFences,
  Marked,
  MarkedChoice,
  Run,
  run,
  RunReaches,
  run_choice,
  run_program,
  NeededReport,
  OneReaches,
  BothReach,
  NeitherReaches,
}
use Rattle.report_theory.specs.Statements.{ReportExists, WithoutMarks, OfFences, NeededEach, NeededKept, NeededAmongAll, AllMarked}
use Rattle.report_theory.proofs.Nops.{nops_well_formed}
use Rattle.report_theory.proofs.Runs.{targets_stay}

-- a marked transition is a fence
marked_fence : (P : Program) (marks : List ℕ) → DifferentFences P marks → (n : ℕ) → Marked marks n → FenceOf P n
marked_fence P marks D n m = subst (FenceOf P) m.2 (D.fences m.0 m.1)

-- a choice of fences that makes a mark a nop makes nops of all that the mark's run does
more_than_own : (P : Program) (marks : List ℕ) (choice : Choice) → OfFences P choice → (i : ℕ) → T (choice (mark marks i))
    → MoreNops P (run_choice marks i) choice
more_than_own P marks choice F i t =
    record {
      kept = λ k e. subst (λ (n : ℕ). T (choice n)) (sym (eqb→eq k (mark marks i) e)) t;
      fences = λ k l c. inr (F k l c);
    }

-- ---- a report

pub without_marks : WithoutMarks
without_marks P ts es = (
  λ r. r.list,
  λ s.
      record {
        fences = record { fences = λ i l. absurd (omega arith); different = λ i j l h. absurd (omega arith) };
        list = s;
        count = refl;
        reach = λ i l. absurd (omega arith);
      },
)

module _ (P : Program) (R : WellFormed P) (ts : List (ℕ → ℕ)) (marks : List ℕ) (es : List Configuration) (runs : List Run)
    (N : NeededReport P ts marks es runs) where
  -- no run of the program reaches a target: its list is safe
  no_run : (memory : List ℕ) (k : ℕ) → k < length ts → PwsReachable P memory (target ts k) → ⊥
  no_run memory k l r =
      (list_safety P R ts es N.list r.first (permitted_start P memory r.first r.starts) r.steps r.last (takes_visited r.takes)).0 k l
      r.reached

  neither : NeitherReaches P ts
  neither = record { pws = no_run; pso = λ memory k l q. no_run memory k l ((same_reachability P R memory (target ts k)).1 q) }

  -- the run of a mark is one of every choice of fences that makes that mark a nop
  run_of : (choice : Choice) → OfFences P choice → (i : ℕ) → i < length marks → T (choice (mark marks i)) → BothReach (with_nops P choice) ts
  run_of choice F i l t =
      let r = N.reach i l in
      let m = (run runs i).memory in
      let first : PwsReachable (run_program P marks i) m (target ts r.number) =
      record {
        first = r.start;
        starts = start_of_lem (run_program P marks i) m r.start r.permitted r.memory;
        steps = (run runs i).steps;
        last = r.end;
        takes = r.takes;
        reached = r.met;
      } in
      let more = (targets_stay P R (run_choice marks i) choice (more_than_own P marks choice F i t) m (target ts r.number)).0 first in
      record {
        memory = m;
        number = r.number;
        exists = r.exists;
        pws = more;
        pso = (same_reachability (with_nops P choice) (nops_well_formed P choice R) m (target ts r.number)).0 more;
      }

  among_all : (choice : Choice) → OfFences P choice → (n : ℕ) → Marked marks n → T (choice n) → BothReach (with_nops P choice) ts
  among_all choice F n m t = run_of choice F m.0 m.1 (subst (λ (i : ℕ). T (choice i)) (sym m.2) t)

pub needed_kept : NeededKept
needed_kept P R ts marks es runs N = neither P R ts marks es runs N

pub needed_among_all : NeededAmongAll
needed_among_all P R ts marks es runs N = among_all P R ts marks es runs N

pub needed_each : NeededEach
needed_each P R ts marks es runs N choice C =
    run_of P R ts marks es runs N choice (λ n l t. marked_fence P marks N.fences n (C.others n t)) C.some.0 C.some.1 C.some.2

pub all_marked : AllMarked
all_marked P R ts marks es runs N A =
    record {
      all = needed_kept P R ts marks es runs N;
      fewer = λ choice F n f t. needed_among_all P R ts marks es runs N choice F n (A n f) t;
      each = λ n f. needed_among_all P R ts marks es runs N (only n) (λ k l t. subst (FenceOf P) (sym (eqb→eq k n t)) f) n (A n f) (eqb_refl n);
    }

-- ---- a report where it would be true

list_of : (n : ℕ) (F : ℕ → Run → Type 0) → ((i : ℕ) → i < n → (r : Run) × F i r)
    → (rs : List Run) × (length rs ≡ n) × ((i : ℕ) → i < n → F i (run rs i))
list_of zero F f = ([], refl, λ i l. absurd (omega arith))
list_of (suc n) F f =
    let r = f 0 (omega arith) in
    let w = list_of n (λ i. F (suc i)) (λ i l. f (suc i) (omega arith)) in
    (r.0 ∷ w.0, ap suc w.1, go r w)
  where
    go : (r : (r : Run) × F 0 r) (w : (rs : List Run) × (length rs ≡ n) × ((i : ℕ) → i < n → F (suc i) (run rs i)))
        → (i : ℕ) → i < suc n → F i (run (r.0 ∷ w.0) i)
    go r w zero l = r.1
    go r w (suc i) l = w.2 i (omega arith)

-- a run of either machine is one of the PWS machine, with its memory and steps
run_is : (P : Program) → WellFormed P → (ts : List (ℕ → ℕ)) → OneReaches P ts → (r : Run) × RunReaches P ts r
run_is P R ts o =
    let m = o.memory in
    let w = ⊎_elim (λ a. a) (λ b. (same_reachability P R m (target ts o.number)).1 b) o.reachable in (
      record { memory = m; steps = w.steps },
      record {
        start = w.first;
        permitted = permitted_start P m w.first w.starts;
        memory = w.starts.starts;
        end = w.last;
        takes = w.takes;
        number = o.number;
        exists = o.exists;
        met = w.reached;
      },
    )

pub report_exists : ReportExists
report_exists P R ts marks es D s f =
    let w = list_of (length marks) (λ i r. RunReaches (run_program P marks i) ts r)
    (λ i l. run_is (run_program P marks i) (nops_well_formed P (run_choice marks i) R) ts (f i l)) in
    (w.0, record { fences = D; list = s; count = w.1; reach = w.2 })
