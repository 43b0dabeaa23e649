-- What the judge's answers to the parts of a report say.
use Prim.Native.Nat.{ℕ, suc}
use mathlib.Core.Path.{◌≡◌, refl, sym, ap, subst, ◌∙◌}
use mathlib.Core.Bool.{Bool, true, false}
use mathlib.Core.List.{List}
use native.Mathlib.Omega.{arith}
use lib.ListN.{length}
use lib.Dec.{eqb}
use borrow.Author.Tests.{eq-eqb}
use Rattle.machine_pws.specs.declared.Step.{Step}
use Rattle.machine_pws.specs.declared.Step.TheVariants.{Take, Serialise, Update}
use Rattle.machine_pws.specs.Program.{Program}
use Rattle.machine_pws.specs.Machine.{Configuration}
use Rattle.list_theory.specs.Verdict as lists
use Rattle.list_theory.specs.Decision as decision
use Rattle.file_contents.specs.Reading as reading
use Rattle.file_contents.specs.Reading.{Input, pair, read_file}
use Rattle.file_again.specs.Offending.{offending}
use Rattle.run_step.specs.declared.last_test.RunAnswer.{RunAnswer}
use Rattle.run_step.specs.declared.last_test.RunAnswer.TheVariants.{Reachable, Stopped, Missed}
use Rattle.run_replay.specs.Answers.{run_answer}
use Rattle.verdict.specs.Judge.{of_list, of_run, judged}
use Rattle.verdict.specs.Answers.{in_c, said_in_c}
use Rattle.verdict.proofs.Verdicts.{judged_as, file_list_judged}
use Rattle.report_theory.specs.Nops.{with_nops, only, FenceOf}
use Rattle.report_verdict.specs.Answers.{is_safe, reaches}

-- ---- the kind of a verdict

safe_kind : (v : lists.ListVerdict) → eqb (in_c (of_list v)).kind 0 ≡ is_safe v
safe_kind (lists.safe n) = refl
safe_kind (lists.unheld k) = refl
safe_kind (lists.started k) = refl
safe_kind (lists.entered k (Take n)) = refl
safe_kind (lists.entered k (Serialise p v)) = refl
safe_kind (lists.entered k (Update p)) = refl

reach_kind : (v : RunAnswer) → eqb (in_c (of_run v)).kind 1 ≡ reaches v
reach_kind (Reachable n k) = refl
reach_kind (Stopped k cause) = refl
reach_kind (Missed n) = refl

-- the entries of a safe list are as many as it says
safe_count : (P : Program) (ts : List (ℕ → ℕ)) (es : List Configuration) (v : lists.ListVerdict) → lists.ListJudged P ts es v → is_safe v ≡ true
    → (in_c (of_list v)).first ≡ length es
safe_count P ts es (lists.safe n) j e = j.0
safe_count P ts es (lists.unheld k) j e = let z : ◌≡◌ {A = ℕ} 0 1 = cc in absurd (omega arith)
safe_count P ts es (lists.started k) j e = let z : ◌≡◌ {A = ℕ} 0 1 = cc in absurd (omega arith)
safe_count P ts es (lists.entered k s) j e = let z : ◌≡◌ {A = ℕ} 0 1 = cc in absurd (omega arith)

module _ (x : Input) (area : ℕ) where
  module _ (P : Program) (ts : List (ℕ → ℕ)) (es : List Configuration) (q : read_file x area ≡ reading.list P ts es) where
    pub list_kind : eqb (said_in_c x area).kind 0 ≡ is_safe (decision.verdict_of P ts es)
    unfolding said_in_c
    list_kind = rw (judged_as x area _ q) (safe_kind (decision.verdict_of P ts es))

    pub list_count : (said_in_c x area).kind ≡ 0 → (said_in_c x area).first ≡ length es
    unfolding said_in_c
    list_count e =
        let d = decision.verdict_of P ts es in
        rw (judged_as x area _ q) (safe_count P ts es d (file_list_judged x area P ts es q) (sym list_kind ∙ eq-eqb (said_in_c x area).kind 0 e))

  module _ (P : Program) (ts : List (ℕ → ℕ)) (m : List ℕ) (ss : List Step) (q : read_file x area ≡ reading.run P ts m ss) where
    pub run_kind : eqb (said_in_c x area).kind 1 ≡ reaches (run_answer P ts m ss)
    unfolding said_in_c
    run_kind = rw (judged_as x area _ q) (reach_kind (run_answer P ts m ss))
