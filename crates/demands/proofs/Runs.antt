-- What the answer to a run says of the machine, and that it says it exactly then.
use Prim.Native.Nat.{ℕ, zero, suc, ◌+◌, ◌<◌}
use mathlib.Core.Path.{◌≡◌, refl, sym, ap, subst, ◌∙◌}
use mathlib.Core.Bool.{Bool, true, false, cond}
use mathlib.Core.Option.{Option, none, some}
use mathlib.Core.List.{List, [], ◌∷◌}
use native.Mathlib.Omega.{arith}
use native.Mathlib.Decide.{dec_lt}
use lib.ListN.{length, get_or, take}
use lib.Dec.{T}
use Rattle.machine_pws.specs.declared.Step.{Step}
use Rattle.machine_pws.specs.declared.Step.TheVariants.{Update}
use Rattle.machine_pws.specs.Program.{Shape, Program, WellFormed}
use Rattle.machine_pws.specs.Machine.{Configuration, may, after}
use Rattle.machine_pws.specs.Configurations.{StartingMemory, starting_memory, Start, start_with, InTarget, in_target}
use Rattle.machine_pws.specs.Sequences.{Takes, done, step}
use Rattle.machine_pws.proofs.Starts.{start_exists}
use Rattle.list_theory.specs.Verdict.{target}
use Rattle.std.specs.Prelude.{Ok, Err}
use Rattle.run_causes.specs.declared.Cause.{Cause}
use Rattle.run_causes.specs.declared.Cause.TheVariants.{State}
use Rattle.run_step.specs.declared.last_test.RunAnswer.{RunAnswer}
use Rattle.run_step.specs.declared.last_test.RunAnswer.TheVariants.{Reachable, Stopped, Missed}
use Rattle.run_replay.specs.Replay.{lowest_met}
use Rattle.run_causes.specs.Causes.{Answer, step_answer, is_permitted}
use Rattle.run_replay.specs.Answers.{last_answer, answer_then, answer_from, run_answer}
use Rattle.run_causes.proofs.CauseLaws.{answer_may}
use Rattle.run_replay.proofs.Accepted.{answer_free, target_yes, target_is}
use Rattle.demands.specs.Demands.{Reaches, Stops, Misses, Cannot}
use Rattle.demands.proofs.StepCauses.{ReasonOf, cause_reason, reason_cause}

abbrev pub RunJudged : Program → List (ℕ → ℕ) → List ℕ → List Step → RunAnswer → Type 0
RunJudged P ts m ss (Reachable n k) = Reaches P ts m ss n k
RunJudged P ts m ss (Stopped k cause) = Stops (ReasonOf cause) P m ss k
RunJudged P ts m ss (Missed n) = Misses P ts m ss n

-- ---- answers that differ

abbrev is_stopped : RunAnswer → Bool
is_stopped (Reachable n k) = false
is_stopped (Stopped k cause) = true
is_stopped (Missed n) = false

abbrev step_of : RunAnswer → ℕ
step_of (Reachable n k) = 0
step_of (Stopped k cause) = k
step_of (Missed n) = 0

abbrev cause_in : RunAnswer → Cause
cause_in (Reachable n k) = State
cause_in (Stopped k cause) = cause
cause_in (Missed n) = State

last_stays : (n : ℕ) (o : Option ℕ) → is_stopped (last_answer n o) ≡ false
last_stays n none = refl
last_stays n (some k) = refl

true_false : {A : Type 0} → true ≡ false → A
true_false e = absurd (subst T e tt)

permitted_is : (x : Answer) → T (is_permitted x) → x ≡ Ok tt
permitted_is (Ok _) t = refl
permitted_is (Err cause) t = absurd t

take_first : {P : Program} {c d : Configuration} {s : Step} {ss : List Step} → Takes P c (s ∷ ss) d → T (may P c s) × Takes P (after P c s) ss d
take_first (step s t r) = (t, r)

take_none : {P : Program} {c d : Configuration} → Takes P c [] d → c ≡ d
take_none done = refl

-- ---- the answer, and what the machine takes

module _ (P : Program) (ts : List (ℕ → ℕ)) (n : ℕ) where
  last : Configuration → RunAnswer
  last d = last_answer n (lowest_met P.shape 0 ts d)

  taken : (c : Configuration) (s : Step) → T (may P c s) → step_answer P c s ≡ Ok tt
  taken c s t = permitted_is (step_answer P c s) (subst T (sym (answer_may P c s)) t)

  may_take : (c : Configuration) (s : Step) → step_answer P c s ≡ Ok tt → T (may P c s)
  may_take c s e = subst T (answer_may P c s) (subst (λ (x : Answer). T (is_permitted x)) (sym e) tt)

  answer_takes : (k : ℕ) (c : Configuration) (s : Step) (ss : List Step) → T (may P c s) → answer_from P ts n k c (s ∷ ss) ≡ answer_from P ts n (suc k) (after P c s) ss
  answer_takes k c s ss t = ap (λ (x : Answer). answer_then x k (λ _. answer_from P ts n (suc k) (after P c s) ss)) (taken c s t)

  takes_all : (k : ℕ) (c : Configuration) (ss : List Step) (x : RunAnswer) → answer_from P ts n k c ss ≡ x → is_stopped x ≡ false
      → (d : Configuration) × Takes P c ss d × (x ≡ last d)
  unfolding last
  takes_all k c [] x e i = (c, done, sym e)
  takes_all k c (s ∷ ss) x e i = go (takes_all (suc k) (after P c s) ss x) (step_answer P c s) refl e
    where
      go : (answer_from P ts n (suc k) (after P c s) ss ≡ x → is_stopped x ≡ false → (d : Configuration) × Takes P (after P c s) ss d × (x ≡ last d))
          → (a : Answer) → step_answer P c s ≡ a → answer_then a k (λ _. answer_from P ts n (suc k) (after P c s) ss) ≡ x
          → (d : Configuration) × Takes P c (s ∷ ss) d × (x ≡ last d)
      go f (Ok _) m e = let r = f e i in (r.0, step s (may_take c s m) r.1, r.2)
      go f (Err cause) m e = true_false (ap is_stopped e ∙ i)

  answer_ends : (k : ℕ) (c d : Configuration) (ss : List Step) → Takes P c ss d → answer_from P ts n k c ss ≡ last d
  unfolding last
  answer_ends k c d [] t = ap (λ (x : Configuration). last_answer n (lowest_met P.shape 0 ts x)) (take_none t)
  answer_ends k c d (s ∷ ss) t = let r = take_first t in answer_takes k c s ss r.0 ∙ answer_ends (suc k) (after P c s) d ss r.1

  -- the machine takes the steps before number i from c, and that one gets the answer a
  record AnsweredAt (a : Answer) (c : Configuration) (ss : List Step) (i : ℕ) : Type 0 where
    exists : i < length ss
    before : Configuration
    takes : Takes P c (take i ss) before
    answer : step_answer P before (get_or ss i (Update 0)) ≡ a

  stops_from : (k j : ℕ) (cause : Cause) (c : Configuration) (ss : List Step) → answer_from P ts n k c ss ≡ Stopped j cause
      → (i : ℕ) × (j ≡ k + i) × AnsweredAt (Err cause) c ss i
  stops_from k j cause c [] e = true_false (sym (ap is_stopped e) ∙ last_stays n (lowest_met P.shape 0 ts c))
  stops_from k j cause c (s ∷ ss) e = go (stops_from (suc k) j cause (after P c s) ss) (step_answer P c s) refl e
    where
      go : (answer_from P ts n (suc k) (after P c s) ss ≡ Stopped j cause → (i : ℕ) × (j ≡ suc k + i) × AnsweredAt (Err cause) (after P c s) ss i)
          → (a : Answer) → step_answer P c s ≡ a → answer_then a k (λ _. answer_from P ts n (suc k) (after P c s) ss) ≡ Stopped j cause
          → (i : ℕ) × (j ≡ k + i) × AnsweredAt (Err cause) c (s ∷ ss) i
      go f (Ok _) m e =
          let r = f e in
          let w = r.2 in (
            suc r.0,
            omega (arith, r.1),
            record { exists = omega (arith, w.exists); before = w.before; takes = step s (may_take c s m) w.takes; answer = w.answer },
          )
      go f (Err x) m e =
          let z : k ≡ j = ap step_of e in
          (0, omega arith, record { exists = omega arith; before = c; takes = done; answer = m ∙ ap Err (ap cause_in e) })

  from_stops : (k : ℕ) (c b : Configuration) (ss : List Step) (i : ℕ) (cause : Cause) → i < length ss → Takes P c (take i ss) b
      → step_answer P b (get_or ss i (Update 0)) ≡ Err cause → answer_from P ts n k c ss ≡ Stopped (k + i) cause
  from_stops k c b [] i cause l t m = absurd (omega arith)
  from_stops k c b (s ∷ ss) zero cause l t m =
      ap (λ (x : Answer). answer_then x k (λ _. answer_from P ts n (suc k) (after P c s) ss)) (ap (λ (x : Configuration). step_answer P x s) (take_none t) ∙ m)
      ∙ ap (λ (j : ℕ). Stopped j cause) (omega arith)
  from_stops k c b (s ∷ ss) (suc i) cause l t m =
      let r = take_first t in
      answer_takes k c s ss r.0
      ∙ from_stops (suc k) (after P c s) b ss i cause (omega arith) r.1 m
      ∙ ap (λ (j : ℕ). Stopped j cause) (omega arith)

-- ---- the lowest target that is met

module _ (S : Shape) (c : Configuration) where
  target_not : (t : ℕ → ℕ) → in_target S t c ≡ false → InTarget S t c → ⊥
  target_not t e i = subst T e (target_yes S.processes c.state t i)

  -- what the search says, counted from k on
  abbrev Lowest : ℕ → List (ℕ → ℕ) → Option ℕ → Type 0
  Lowest k ts none = (m : ℕ) → m < length ts → InTarget S (target ts m) c → ⊥
  Lowest k ts (some j) =
      (i : ℕ) × (j ≡ k + i) × (i < length ts) × InTarget S (target ts i) c × ((m : ℕ) → m < i → InTarget S (target ts m) c → ⊥)

  one_more : (k : ℕ) (t : ℕ → ℕ) (ts : List (ℕ → ℕ)) → (InTarget S t c → ⊥) → (o : Option ℕ) → Lowest (suc k) ts o → Lowest k (t ∷ ts) o
  one_more k t ts n none h = elim [ zero ↦ λ l. n | suc m ↦ λ l. h m (omega arith) ]
  one_more k t ts n (some j) h =
      (suc h.0, omega (arith, h.1), omega (arith, h.2), h.3, elim [ zero ↦ λ l. n | suc m ↦ λ l. h.4 m (omega arith) ])

  lowest_is : (k : ℕ) (ts : List (ℕ → ℕ)) → Lowest k ts (lowest_met S k ts c)
  lowest_is k [] = λ m l. absurd (omega arith)
  lowest_is k (t ∷ ts) = go (lowest_is (suc k) ts) (in_target S t c) refl
    where
      go : Lowest (suc k) ts (lowest_met S (suc k) ts c) → (b : Bool) → in_target S t c ≡ b → Lowest k (t ∷ ts) (cond b (some k) (lowest_met S (suc k) ts c))
      go h true e = (0, omega arith, omega arith, target_is S t c (subst T (sym e) tt), λ m l. absurd (omega arith))
      go h false e = one_more k t ts (target_not t e) (lowest_met S (suc k) ts c) h

-- ---- verdicts

module _ (P : Program) (R : WellFormed P) (ts : List (ℕ → ℕ)) (m : List ℕ) (M : StartingMemory P.shape m) (ss : List Step) where
  abbrev S : Shape
  S = P.shape

  abbrev origin : Configuration
  origin = start_with P m 0 0

  permitted : Start P origin
  permitted = start_exists P R m M 0 0 R.shape.some_process R.shape.some_variable

  last_judged : (d : Configuration) → Takes P origin ss d → (o : Option ℕ) → Lowest S d 0 ts o → RunJudged P ts m ss (last_answer (length ss) o)
  last_judged d t none h = record { count = refl; start = origin; permitted = permitted; memory = refl; end = d; takes = t; none = h }
  last_judged d t (some j) h =
      let z : h.0 ≡ j = omega (arith, h.1) in
      record {
        count = refl;
        start = origin;
        permitted = permitted;
        memory = refl;
        end = d;
        takes = t;
        exists = omega (arith, h.2);
        met = subst (λ (i : ℕ). InTarget S (target ts i) d) z h.3;
        lower = λ j l. h.4 j (omega arith);
      }

  end_judged : (x : RunAnswer) → run_answer P ts m ss ≡ x → is_stopped x ≡ false → RunJudged P ts m ss x
  unfolding last
  end_judged x e i =
      let r = takes_all P ts (length ss) 0 origin ss x e i in
      subst (RunJudged P ts m ss) (sym r.2) (last_judged r.0 r.1 (lowest_met S 0 ts r.0) (lowest_is S r.0 0 ts))

  stop_judged : (k : ℕ) (cause : Cause) → run_answer P ts m ss ≡ Stopped k cause → Stops (ReasonOf cause) P m ss k
  stop_judged k cause e =
      let r = stops_from P ts (length ss) 0 k cause origin ss e in
      let w = r.2 in
      let z : r.0 ≡ k = omega (arith, r.1) in
      subst (Stops (ReasonOf cause) P m ss) z
      (record {
        exists = w.exists;
        start = origin;
        permitted = permitted;
        memory = refl;
        before = w.before;
        takes = w.takes;
        reason = cause_reason P w.before (get_or ss r.0 (Update 0)) cause w.answer;
      })

  -- the answer says what the machine does
  pub run_judged : RunJudged P ts m ss (run_answer P ts m ss)
  run_judged = go (run_answer P ts m ss) refl
    where
      go : (x : RunAnswer) → run_answer P ts m ss ≡ x → RunJudged P ts m ss x
      go (Reachable n k) e = end_judged (Reachable n k) e refl
      go (Stopped k cause) e = stop_judged k cause e
      go (Missed n) e = end_judged (Missed n) e refl

  ended_answer : (c d : Configuration) → Start P c → starting_memory c ≡ m → Takes P c ss d → run_answer P ts m ss ≡ last_answer (length ss) (lowest_met S 0 ts d)
  unfolding last
  ended_answer c d s w t = sym (answer_free P R ts m ss c s w) ∙ answer_ends P ts (length ss) 0 c d ss t

  stopped_answer : (k : ℕ) (cause : Cause) → Stops (λ P c s. step_answer P c s ≡ Err cause) P m ss k → run_answer P ts m ss ≡ Stopped k cause
  stopped_answer k cause x =
      sym (answer_free P R ts m ss x.start x.permitted x.memory)
      ∙ from_stops P ts (length ss) 0 x.start x.before ss k cause x.exists x.takes x.reason
      ∙ ap (λ (j : ℕ). Stopped j cause) (omega arith)

  -- and nothing else that is said so is true of it
  pub run_only : (v : RunAnswer) → RunJudged P ts m ss v → run_answer P ts m ss ≡ v
  run_only (Reachable n k) x = ended_answer x.start x.end x.permitted x.memory x.takes ∙ go (lowest_met S 0 ts x.end) (lowest_is S x.end 0 ts)
    where
      go : (o : Option ℕ) → Lowest S x.end 0 ts o → last_answer (length ss) o ≡ Reachable n k
      go none h = absurd (h k x.exists x.met)
      go (some j) h = elim (dec_lt h.0 k) [
        | yes l ↦ absurd (x.lower h.0 l h.3)
        | no l ↦ elim (dec_lt k h.0) [
          | yes g ↦ absurd (h.4 k g x.met)
          | no g ↦ let z : j ≡ k = omega (arith, h.1) in ap (λ (i : ℕ). Reachable (length ss) i) z ∙ ap (λ (i : ℕ). Reachable i k) (sym x.count)
        ]
      ]
  run_only (Stopped k cause) x =
      stopped_answer k cause (record {
        exists = x.exists;
        start = x.start;
        permitted = x.permitted;
        memory = x.memory;
        before = x.before;
        takes = x.takes;
        reason = reason_cause P x.before (get_or ss k (Update 0)) cause x.reason;
      })
  run_only (Missed n) x = ended_answer x.start x.end x.permitted x.memory x.takes ∙ go (lowest_met S 0 ts x.end) (lowest_is S x.end 0 ts)
    where
      go : (o : Option ℕ) → Lowest S x.end 0 ts o → last_answer (length ss) o ≡ Missed n
      go none h = ap Missed (sym x.count)
      go (some j) h = absurd (x.none h.0 h.2 h.3)

  -- ---- a step that the machine cannot take

  -- a refused step is one that it cannot take, whatever the cause
  pub stopped_cannot : (k : ℕ) (cause : Cause) → Stops (ReasonOf cause) P m ss k → Stops Cannot P m ss k
  stopped_cannot k cause x =
      record {
        exists = x.exists;
        start = x.start;
        permitted = x.permitted;
        memory = x.memory;
        before = x.before;
        takes = x.takes;
        reason = let s = get_or ss k (Update 0) in sym (answer_may P x.before s) ∙ ap is_permitted (reason_cause P x.before s cause x.reason);
      }

  pub cannot_stopped : (k : ℕ) → Stops Cannot P m ss k → (cause : Cause) × (run_answer P ts m ss ≡ Stopped k cause)
  cannot_stopped k x = go (step_answer P x.before (get_or ss k (Update 0))) refl
    where
      go : (a : Answer) → step_answer P x.before (get_or ss k (Update 0)) ≡ a → (cause : Cause) × (run_answer P ts m ss ≡ Stopped k cause)
      go (Ok _) e = true_false (sym (ap is_permitted e) ∙ answer_may P x.before (get_or ss k (Update 0)) ∙ x.reason)
      go (Err cause) e = (
        cause,
        stopped_answer k cause (record { exists = x.exists; start = x.start; permitted = x.permitted; memory = x.memory; before = x.before; takes = x.takes; reason = e }),
      )
