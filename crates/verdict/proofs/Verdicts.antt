-- What is said of a file that was read: one verdict, by computation, and how verdicts differ.
use Prim.Native.Nat.{ℕ, ◌<◌, ◌≤◌}
use mathlib.Core.Path.{◌≡◌, refl, sym, ap, subst, ◌∙◌}
use mathlib.Core.Bool.{Bool, true, false, cond, not, ◌&&◌}
use mathlib.Core.List.{List}
use native.Mathlib.Omega.{arith}
use lib.ListN.{length}
use lib.Dec.{T, eqb, leb, ltb, ltb→lt}
use borrow.Author.Tests.{leb-true}
use mir.Facts.{and_yes}
use Rattle.machine_pws.specs.declared.Step.{Step}
use Rattle.machine_pws.specs.declared.Step.TheVariants.{Take, Serialise, Update}
use Rattle.machine_pws.specs.Program.{Program, ProgramInRange, transition}
use Rattle.machine_pws.specs.Machine.{Configuration, may, may_take, is_empty}
use Rattle.machine_pws.proofs.Ranges.{format_no_ff}
use Rattle.list_theory.specs.Verdict as lists
use Rattle.list_theory.specs.Decision as decision
use Rattle.list_theory.proofs.Verdict.{verdict_unique, verdict_judged}
use Rattle.file_contents.specs.declared.evidence.Part.{Part}
use Rattle.file_contents.specs.declared.evidence.Part.TheVariants.{InProgram}
use Rattle.file_contents.specs.Reading as reading
use Rattle.file_contents.specs.Reading.{Input}
use Rattle.file_contents.proofs.ReadingLaws.{parts_short}
use Rattle.file_again.specs.Contents.{ListRead, StepOf}
use Rattle.file_again.specs.Offending.{offending_by, part_said_by}
use Rattle.file_again.proofs.OffendingLaws.{part_by}
use Rattle.file_again.proofs.Contents.{list_read}
use Rattle.run_causes.specs.declared.Cause.TheVariants.{State, Queue, Pointer, Value, Nothing}
use Rattle.run_step.specs.declared.last_test.RunAnswer.{RunAnswer}
use Rattle.run_step.specs.declared.last_test.RunAnswer.TheVariants.{Reachable, Stopped, Missed}
use Rattle.run_replay.specs.Answers.{run_answer}
use Rattle.pso_replay.specs.Answers.{pso_steps, pso_run_answer}
use Rattle.verdict.specs.declared.answer.Answer.{Answer}
use Rattle.verdict.specs.declared.answer.Answer.TheVariants.{Unread}
use Rattle.file_records.specs.declared.program.Refusal.{Refusal}
use Rattle.verdict.specs.declared.answer.Verdict as declared
use Rattle.verdict.specs.Judge.{Verdict, safe, reachable, pso, refused, entered, of_list, of_run, of_pso_run, FileJudged, Judged, of_file, judged}
use Rattle.verdict.specs.Answers.{verdict_in, in_c, offending_in, file_number, with_record, answer_in_c}

-- ---- verdicts that differ

abbrev pub kind : Verdict → ℕ
kind (safe n) = 0
kind (reachable n k) = 1
kind (refused n k) = 2
kind (pso n k) = 3
kind (entered k s) = 4

abbrev pub code : Verdict → ℕ
code (safe n) = 15
code (reachable n k) = 14
code (pso n k) = 14
code (refused n k) = n
code (entered k s) = 11

abbrev pub to_list : Verdict → lists.ListVerdict
to_list (safe n) = lists.safe n
to_list (reachable n k) = lists.safe n
to_list (pso n k) = lists.safe n
to_list (refused n k) = cond (eqb n 9) (lists.unheld k) (lists.started k)
to_list (entered k s) = lists.entered k s

pub list_back : (v : lists.ListVerdict) → to_list (of_list v) ≡ v
list_back (lists.safe n) = refl
list_back (lists.unheld k) = refl
list_back (lists.started k) = refl
list_back (lists.entered k s) = refl

-- safe and 9 to 11 are said of lists alone, reachable, pso and the numbers from 12 on of runs alone
abbrev pub is_run : Verdict → Bool
is_run (safe n) = false
is_run (reachable n k) = true
is_run (pso n k) = true
is_run (refused n k) = leb 12 n
is_run (entered k s) = false

list_not : (v : lists.ListVerdict) → is_run (of_list v) ≡ false
list_not (lists.safe n) = refl
list_not (lists.unheld k) = refl
list_not (lists.started k) = refl
list_not (lists.entered k s) = refl

pub run_is : (v : RunAnswer) → is_run (of_run v) ≡ true
run_is (Reachable n k) = refl
run_is (Stopped k State) = refl
run_is (Stopped k Queue) = refl
run_is (Stopped k Pointer) = refl
run_is (Stopped k Value) = refl
run_is (Stopped k Nothing) = refl
run_is (Missed n) = refl

pub pso_is : (v : RunAnswer) → is_run (of_pso_run v) ≡ true
pso_is (Reachable n k) = refl
pso_is (Stopped k State) = refl
pso_is (Stopped k Queue) = refl
pso_is (Stopped k Pointer) = refl
pso_is (Stopped k Value) = refl
pso_is (Stopped k Nothing) = refl
pso_is (Missed n) = refl

pub never_both : (v : lists.ListVerdict) (w : Verdict) → is_run w ≡ true → of_list v ≡ w → ⊥
never_both v w i e = subst T (sym (sym (list_not v) ∙ ap is_run e ∙ i)) tt

-- and none of them is a number of the reading
pub run_high : (w : Verdict) → is_run w ≡ true → 9 ≤ code w
run_high (safe n) i = absurd (subst T (sym i) tt)
run_high (reachable n k) i = omega arith
run_high (pso n k) i = omega arith
run_high (refused n k) i = omega (arith, leb-true 12 n i)
run_high (entered k s) i = omega arith

pub list_code : (v : lists.ListVerdict) → 9 ≤ code (of_list v)
list_code (lists.safe n) = omega arith
list_code (lists.unheld k) = omega arith
list_code (lists.started k) = omega arith
list_code (lists.entered k s) = omega arith

-- ---- what was read

-- 8 in an area that is too short, whatever is judged
pub short_file : (x : Input) (area : ℕ) → area < 65536 → reading.read_file x area ≡ reading.refused InProgram (record { number = 8; place = 0 })
unfolding reading.read_file
short_file x area l = ap (reading.parts_read x) (parts_short x area l)

module _ (u : reading.Input) (area : ℕ) where
  abbrev Reads : reading.FileRead → Type 0
  Reads r = reading.read_file u area ≡ r

  pub judged_as : (r : reading.FileRead) → Reads r → judged u area ≡ of_file r
  unfolding judged
  judged_as r q = ap of_file q

  module _ (P : Program) (ts : List (ℕ → ℕ)) (es : List Configuration) (q : Reads (reading.list P ts es)) where
    read : ListRead P ts es area
    read = list_read u area q

    pub list_range : ProgramInRange P
    list_range = read.part.program

    pub file_list_judged : lists.ListJudged P ts es (decision.verdict_of P ts es)
    file_list_judged =
        verdict_judged P list_range.well_formed es (λ k l. (read.entries k l).of) ts (λ k l. read.part.targets k l) (λ k l. (read.entries k l).first) (format_no_ff list_range.shape)

  file_judged : (r : reading.FileRead) → Reads r → FileJudged r (of_file r) × ((v : Verdict) → FileJudged r v → v ≡ of_file r)
  file_judged (reading.refused w₀ r) q = (refl, λ v e. e)
  file_judged (reading.list P ts es) q =
      let j = file_list_judged P ts es q in
      ((decision.verdict_of P ts es, j, refl), λ v x. x.2 ∙ ap of_list (verdict_unique P ts es x.0 (decision.verdict_of P ts es) x.1 j))
  file_judged (reading.run P ts m ss) q = (refl, λ v e. e)
  file_judged (reading.pso_run P ts m ss) q = (refl, λ v e. e)

-- the verdict is one, and no other
pub judged_one : (u : reading.Input) (area : ℕ) → Judged u area (judged u area) × ((v : Verdict) → Judged u area v → v ≡ judged u area)
unfolding Judged judged
judged_one u area = file_judged u area (reading.read_file u area) refl

-- the step of 11 is one of the file's program
step_of : (P : Program) (c : Configuration) (s : Step) → T (may P c s) → StepOf P s
step_of P c (Take n) t = ltb→lt n (length P.transitions) (and_yes (ltb n (length P.transitions)) (may_take P.shape c (transition P n)) t).0
step_of P c (Serialise p v) t =
    let w = and_yes (ltb p P.shape.processes) (ltb v P.shape.variables) (and_yes (ltb p P.shape.processes && ltb v P.shape.variables) (not (is_empty (c.queue p v))) t).0 in
    (ltb→lt p P.shape.processes w.0, ltb→lt v P.shape.variables w.1)
step_of P c (Update p) t =
    ltb→lt p P.shape.processes (and_yes (ltb p P.shape.processes) (ltb (c.memory.pointer p) (length c.memory.channel)) t).0

pub entered_step : (u : reading.Input) (area k : ℕ) (s : Step) → judged u area ≡ entered k s
    → (P : Program) × ProgramInRange P × (length P.transitions ≤ 256) × StepOf P s
entered_step u area k s e = go (reading.read_file u area) refl
  where
    go : (r : reading.FileRead) → reading.read_file u area ≡ r → (P : Program) × ProgramInRange P × (length P.transitions ≤ 256) × StepOf P s
    go (reading.refused w₀ r) q = absurd (let z : ◌≡◌ {A = ℕ} 2 4 = ap kind (sym (judged_as u area _ q) ∙ e) in omega arith)
    go (reading.list P ts es) q =
        let z = sym (list_back (decision.verdict_of P ts es)) ∙ ap to_list (sym (judged_as u area _ q) ∙ e) in
        let w = (subst (lists.ListJudged P ts es) z (file_list_judged u area P ts es q)).way.way in
        let R = list_read u area q in
        (P, R.part.program, R.part.transitions, step_of P w.configuration s w.permitted)
    go (reading.run P ts m ss) q = absurd (never_both (lists.entered k s) _ (run_is (run_answer P ts m ss)) (sym e ∙ judged_as u area _ q))
    go (reading.pso_run P ts m ss) q = absurd (never_both (lists.entered k s) _ (pso_is (pso_run_answer P m ts (pso_steps ss))) (sym e ∙ judged_as u area _ q))

-- ---- the verdict in C's form

-- put together as C has it
pub shown_is : (x : Input) (a : Answer) (w : Part) (r : Refusal) (v : declared.Verdict) (own : Part) (file at : ℕ) (bytes : List ℕ) → a ≡ Unread w r → v ≡ in_c (verdict_in a)
    → own ≡ part_said_by w r.number → file ≡ file_number x.alone own
    → at ≡ (offending_by x.code x.file w r.number r.place).at → bytes ≡ (offending_by x.code x.file w r.number r.place).bytes
    → with_record v file at (length bytes) ≡ answer_in_c x (verdict_in a) (offending_in x a)
shown_is x a w r v own file at bytes q e o n k c = rw (e, q, n, o ∙ sym (part_by x.code x.file w r.number r.place), k, c)
