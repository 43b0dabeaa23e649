-- A report has exactly one verdict.
use Prim.Native.Nat.{ℕ, zero, suc, ◌<◌}
use mathlib.Core.Path.{◌≡◌, refl, sym, ap, subst}
use mathlib.Core.Logic.{◌⊎◌, inl, inr, ⊎_elim, ◌≢◌}
use mathlib.Core.Bool.{Bool, true, false}
use mathlib.Core.List.{List}
use native.Mathlib.Omega.{arith}
use native.Mathlib.Decide.{dec_lt, ℕ_discrete}
use lib.ListN.{length}
use lib.Dec.{T}
use Rattle.machine_pws.specs.Program.{Program, transition}
use Rattle.machine_pws.specs.Machine.{Configuration}
use Rattle.list_theory.specs.Verdict.{SafeList}
use Rattle.report_theory.specs.Nops.{is_fence, FenceOf}
use Rattle.report_theory.specs.Report.{mark, DifferentFences, Run, run, RunReaches, run_program, NeededReport}
use Rattle.report_theory.specs.Verdict.{
  Repeats,
  WrongMark,
  LowestWrong,
  LowestFailing,
  ReportVerdict,
  needed,
  wrong_mark,
  unsafe_list,
  failing_run,
  ReportJudged,
  VerdictUnique,
  VerdictFound,
}

-- ---- the lowest number that fails

pub record Lowest (n : ℕ) (F G : ℕ → Type 0) : Type 0 where
  pub number : ℕ
  pub exists : number < n
  pub fails : G number
  pub lower : (j : ℕ) → j < number → F j

-- F holds below n, or there is a lowest number of which G does
lowest : (n : ℕ) (F G : ℕ → Type 0) → ((i : ℕ) → i < n → F i ⊎ G i) → ((i : ℕ) → i < n → F i) ⊎ Lowest n F G
lowest zero F G d = inl (λ i l. absurd (omega arith))
lowest (suc n) F G d = ⊎_elim
    (λ all. ⊎_elim
    (λ f. inl (λ i l. elim (ℕ_discrete i n) [ yes e ↦ subst F (sym e) f | no e ↦ all i (omega arith) ]))
    (λ g. inr (record { number = n; exists = omega arith; fails = g; lower = all }))
    (d n (omega arith)))
    (λ w. inr (record { number = w.number; exists = omega (arith, w.exists); fails = w.fails; lower = w.lower }))
    (lowest n F G (λ i l. d i (omega arith)))

-- two lowest are equal
lowest_one : {F : ℕ → Type 0} (i j : ℕ) → (F i → ⊥) → (F j → ⊥) → ((k : ℕ) → k < i → F k) → ((k : ℕ) → k < j → F k) → i ≡ j
lowest_one i j a b low high = elim (dec_lt i j) [
  | yes l ↦ absurd (a (high i l))
  | no l ↦ elim (dec_lt j i) [ yes k ↦ absurd (b (low j k)) | no k ↦ omega arith ]
]

-- ---- marks

module _ (P : Program) (marks : List ℕ) where
  test_or : (b : Bool) → T b ⊎ (T b → ⊥)
  test_or true = inl tt
  test_or false = inr (λ t. t)

  fence_or : (n : ℕ) → FenceOf P n ⊎ (FenceOf P n → ⊥)
  fence_or n = elim (dec_lt n (length P.transitions)) [
    | yes l ↦ ⊎_elim (λ t. inl (record { exists = l; fence = t })) (λ f. inr (λ w. f w.fence)) (test_or (is_fence (transition P n).operation))
    | no l ↦ inr (λ w. l w.exists)
  ]

  repeats_or : (i : ℕ) → Repeats marks i ⊎ (Repeats marks i → ⊥)
  repeats_or i = ⊎_elim
      (λ all. inr (λ r. all r.0 r.1 r.2))
      (λ w. inl (w.number, w.exists, w.fails))
      (lowest i (λ j. mark marks j ≢ mark marks i) (λ j. mark marks j ≡ mark marks i)
      (λ j l. elim (ℕ_discrete (mark marks j) (mark marks i)) [ yes e ↦ inr e | no e ↦ inl e ]))

  wrong_or : (i : ℕ) → (WrongMark P marks i → ⊥) ⊎ WrongMark P marks i
  wrong_or i = ⊎_elim
      (λ r. inr (inl r))
      (λ n. ⊎_elim (λ f. inl (⊎_elim n (λ g. g f))) (λ g. inr (inr g)) (fence_or (mark marks i)))
      (repeats_or i)

  pub right_marks : ((i : ℕ) → i < length marks → WrongMark P marks i → ⊥) → DifferentFences P marks
  right_marks all =
      record {
        fences = λ i l. ⊎_elim (λ f. f) (λ g. absurd (all i l (inr g))) (fence_or (mark marks i));
        different = λ i j l h e. all j h (inl (i, l, e));
      }

  pub none_wrong : DifferentFences P marks → (i : ℕ) → i < length marks → WrongMark P marks i → ⊥
  none_wrong D i l = ⊎_elim (λ r. D.different r.0 i r.1 l r.2) (λ g. g (D.fences i l))

  not_wrong : {i : ℕ} → DifferentFences P marks → LowestWrong P marks i → ⊥
  not_wrong {i} D w = none_wrong D i w.exists w.wrong

-- ---- one verdict

module _ (P : Program) (ts : List (ℕ → ℕ)) (marks : List ℕ) (es : List Configuration) (runs : List Run) where
  abbrev Reaches : ℕ → Type 0
  Reaches i = RunReaches (run_program P marks i) ts (run runs i)

  no_fault : {i : ℕ} → NeededReport P ts marks es runs → LowestFailing P ts marks runs i → ⊥
  no_fault {i} N f = f.fails (N.reach i f.exists)

  unique : (v w : ReportVerdict) → ReportJudged P ts marks es runs v → ReportJudged P ts marks es runs w → v ≡ w
  unique (needed m n) (needed k l) a b = rw (a.0, a.1, b.0, b.1)
  unique (needed m n) (wrong_mark j) a b = absurd (not_wrong P marks a.2.fences b)
  unique (needed m n) unsafe_list a b = absurd (b.1 a.2.list)
  unique (needed m n) (failing_run j) a b = absurd (no_fault a.2 b.2)
  unique (wrong_mark i) (needed k l) a b = absurd (not_wrong P marks b.2.fences a)
  unique (wrong_mark i) (wrong_mark j) a b = ap wrong_mark
      (lowest_one {F = λ k. WrongMark P marks k → ⊥} i j (λ f. f a.wrong) (λ f. f b.wrong) a.lower b.lower)
  unique (wrong_mark i) unsafe_list a b = absurd (not_wrong P marks b.0 a)
  unique (wrong_mark i) (failing_run j) a b = absurd (not_wrong P marks b.0 a)
  unique unsafe_list (needed k l) a b = absurd (a.1 b.2.list)
  unique unsafe_list (wrong_mark j) a b = absurd (not_wrong P marks a.0 b)
  unique unsafe_list unsafe_list a b = refl
  unique unsafe_list (failing_run j) a b = absurd (a.1 b.1)
  unique (failing_run i) (needed k l) a b = absurd (no_fault b.2 a.2)
  unique (failing_run i) (wrong_mark j) a b = absurd (not_wrong P marks a.0 b)
  unique (failing_run i) unsafe_list a b = absurd (b.1 a.1)
  unique (failing_run i) (failing_run j) a b = ap failing_run
      (lowest_one {F = Reaches} i j a.2.fails b.2.fails a.2.lower b.2.lower)

  found : length runs ≡ length marks → Dec (SafeList P ts es) → ((i : ℕ) → i < length marks → Dec (Reaches i))
      → (v : ReportVerdict) × ReportJudged P ts marks es runs v
  found c s d = ⊎_elim
      (λ all. listed (right_marks P marks all) s)
      (λ w. (wrong_mark w.number, record { exists = w.exists; wrong = w.fails; lower = w.lower }))
      (lowest (length marks) (λ i. WrongMark P marks i → ⊥) (WrongMark P marks) (λ i l. wrong_or P marks i))
    where
      ran : DifferentFences P marks → SafeList P ts es → ((i : ℕ) → i < length marks → Reaches i) ⊎ Lowest (length marks) Reaches (λ i. Reaches i → ⊥)
          → (v : ReportVerdict) × ReportJudged P ts marks es runs v
      ran D y (inl all) = (needed (length marks) (length es), (refl, refl, record { fences = D; list = y; count = c; reach = all }))
      ran D y (inr w) = (failing_run w.number, (D, y, record { exists = w.exists; fails = w.fails; lower = w.lower }))

      listed : DifferentFences P marks → Dec (SafeList P ts es) → (v : ReportVerdict) × ReportJudged P ts marks es runs v
      listed D (yes y) = ran D y (lowest (length marks) Reaches (λ i. Reaches i → ⊥) (λ i l. elim (d i l) [ yes r ↦ inl r | no n ↦ inr n ]))
      listed D (no n) = (unsafe_list, (D, n))

pub verdict_unique : VerdictUnique
verdict_unique P ts marks es runs v w a b = unique P ts marks es runs v w a b

pub verdict_found : VerdictFound
verdict_found P ts marks es runs c s d = found P ts marks es runs c s d
