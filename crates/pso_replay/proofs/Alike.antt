-- What the shape does not have makes no difference: configurations that agree in the rest get the same answers. So every start with a memory does.
use Prim.Native.Nat.{ℕ, zero, suc, ◌<◌}
use mathlib.Core.Path.{◌≡◌, refl, sym, ap, ap₂, subst, ◌∙◌}
use mathlib.Core.Bool.{Bool, true, false, cond, ◌&&◌}
use mathlib.Core.Option.{Option, some}
use mathlib.Core.List.{List, [], ◌∷◌, ◌++◌}
use native.Mathlib.Omega.{arith}
use native.Mathlib.Decide.{dec_lt, ℕ_discrete}
use lib.ListN.{length, set}
use lib.Dec.{T, eqb, ltb, ltb→lt}
use borrow.Author.Tests.{eq-eqb, ne_eqb, lt-ltb, le-ltb}
use mir.Facts.{and_yes}
use Rattle.machine_pws.specs.declared.Operation.{Operation}
use Rattle.machine_pws.specs.declared.Operation.TheVariants.{Nop, Read, Write, Mfence, Sfence, Arw}
use Rattle.machine_pws.specs.Program.{Shape, Program, transition, OperationOf, WellFormed}
use Rattle.machine_pws.specs.Machine.{all_below}
use Rattle.machine_pso.specs.declared.PsoStep.{PsoStep}
use Rattle.machine_pso.specs.declared.PsoStep.TheVariants.{Operate, UpdateVariable, RemoveMark}
use Rattle.machine_pso.specs.Machine.{Item, value, mark, PsoConfiguration, no_item, value_first, mark_first, oldest_value, without_first, put_buffer, each_buffer, buffer_after, pso_memory_after, may_operate_by, pso_may, pso_after}
use Rattle.run_causes.specs.declared.Cause.TheVariants.{State}
use Rattle.std.specs.Prelude.{Ok, Err}
use Rattle.run_replay.specs.Answers.{last_answer, answer_then}
use Rattle.run_causes.specs.Causes.{Answer, first_cause}
use Rattle.pso_step.specs.Causes.{pso_queue_fits, pso_value_fits, pso_step_answer}
use Rattle.pso_replay.specs.Answers.{pso_lowest_met, pso_answer_from}
use Rattle.pso_step.proofs.CauseLaws.{Answers, answers}

pub record Alike (S : Shape) (d e : PsoConfiguration) : Type 0 where
  pub states : (p : ℕ) → p < S.processes → d.state p ≡ e.state p
  pub buffers : (p v : ℕ) → p < S.processes → v < S.variables → d.buffer p v ≡ e.buffer p v
  pub memory : d.memory ≡ e.memory

all_same : (n : ℕ) (f g : ℕ → Bool) → ((i : ℕ) → i < n → f i ≡ g i) → all_below n f ≡ all_below n g
all_same zero f g h = refl
all_same (suc n) f g h = ap₂ (λ (a b : Bool). a && b) (all_same n f g (λ i l. h i (omega arith))) (h n (omega arith))

-- ---- buffers changed in the same way

module _ (B C : ℕ → ℕ → List Item) (p : ℕ) where
  put_alike : (v : ℕ) (is js : List Item) → is ≡ js → (q u : ℕ) → B q u ≡ C q u → put_buffer B p v is q u ≡ put_buffer C p v js q u
  put_alike v is js i q u h = elim (ℕ_discrete q p) [
    | yes e ↦
        let here : B p u ≡ C p u = subst (λ (r : ℕ). B r u ≡ C r u) e h in
        rw (eq-eqb q p e) (go (eqb u v) here)
    | no e ↦ rw (ne_eqb q p e) h
  ]
    where
      go : (b : Bool) → B p u ≡ C p u → cond b is (B p u) ≡ cond b js (C p u)
      go true w = i
      go false w = w

  each_alike : (S : Shape) (f : List Item → List Item) (q u : ℕ) → B q u ≡ C q u → each_buffer S f B p q u ≡ each_buffer S f C p q u
  each_alike S f q u h = elim (ℕ_discrete q p) [
    | yes e ↦
        let here : B p u ≡ C p u = subst (λ (r : ℕ). B r u ≡ C r u) e h in
        rw (eq-eqb q p e) (ap (λ (is : List Item). cond (ltb u S.variables) (f is) is) here)
    | no e ↦ rw (ne_eqb q p e) h
  ]

module _ (P : Program) (R : WellFormed P) (d e : PsoConfiguration) (A : Alike P.shape d e) where
  abbrev S : Shape
  S = P.shape

  -- ---- the answer to a step

  queue_alike : (p : ℕ) (o : Operation) → p < S.processes → OperationOf S o → pso_queue_fits S d p o ≡ pso_queue_fits S e p o
  queue_alike p Nop pe oe = refl
  queue_alike p (Read v x) pe oe = refl
  queue_alike p (Write v x) pe oe = refl
  queue_alike p Mfence pe oe = all_same S.variables (λ v. no_item (d.buffer p v)) (λ v. no_item (e.buffer p v)) (λ v ve. ap no_item (A.buffers p v pe ve))
  queue_alike p Sfence pe oe = refl
  queue_alike p (Arw v x y) pe oe = ap no_item (A.buffers p v pe oe.0)

  value_alike : (p : ℕ) (o : Operation) → p < S.processes → OperationOf S o → pso_value_fits d p o ≡ pso_value_fits e p o
  value_alike p Nop pe oe = refl
  value_alike p (Read v x) pe oe = rw (A.buffers p v pe oe.0, A.memory)
  value_alike p (Write v x) pe oe = refl
  value_alike p Mfence pe oe = refl
  value_alike p Sfence pe oe = refl
  value_alike p (Arw v x y) pe oe = rw A.memory

  answer_alike : (u : PsoStep) → pso_step_answer P d u ≡ pso_step_answer P e u
  answer_alike (Operate n) = elim (dec_lt n (length P.transitions)) [
    | yes l ↦
        let w = transition P n in
        let o = R.transitions n l in
        ap (λ (x : Answer). cond (ltb n (length P.transitions)) x (Err State))
        (rw (A.states w.process o.process, queue_alike w.process w.operation o.process o.operation, value_alike w.process w.operation o.process o.operation))
    | no l ↦ rw (le-ltb n (length P.transitions) (omega arith))
  ]
  answer_alike (UpdateVariable p v) =
      ap (first_cause true true true true) (elim (dec_lt p S.processes) [
        | yes a ↦ elim (dec_lt v S.variables) [
          | yes b ↦ ap (λ (is : List Item). (ltb p S.processes && ltb v S.variables) && value_first is) (A.buffers p v a b)
          | no b ↦ rw (lt-ltb p S.processes a, le-ltb v S.variables (omega arith))
        ]
        | no a ↦ rw (le-ltb p S.processes (omega arith))
      ])
  answer_alike (RemoveMark p) =
      ap (first_cause true true true true) (elim (dec_lt p S.processes) [
        | yes a ↦
            ap (λ (b : Bool). ltb p S.processes && b)
            (all_same S.variables (λ v. mark_first (d.buffer p v)) (λ v. mark_first (e.buffer p v)) (λ v ve. ap mark_first (A.buffers p v a ve)))
        | no a ↦ rw (le-ltb p S.processes (omega arith))
      ])

  -- ---- what a permitted step gives

  buffers_alike : (p : ℕ) (o : Operation) → p < S.processes → OperationOf S o → (q u : ℕ) → q < S.processes → u < S.variables
      → buffer_after S d p o q u ≡ buffer_after S e p o q u
  buffers_alike p Nop pe oe q u qe ue = A.buffers q u qe ue
  buffers_alike p (Read v x) pe oe q u qe ue = A.buffers q u qe ue
  buffers_alike p (Write v x) pe oe q u qe ue =
      put_alike d.buffer e.buffer p v _ _ (ap (λ (is : List Item). is ++ (value x ∷ [])) (A.buffers p v pe oe.0)) q u (A.buffers q u qe ue)
  buffers_alike p Mfence pe oe q u qe ue = A.buffers q u qe ue
  buffers_alike p Sfence pe oe q u qe ue = each_alike d.buffer e.buffer p S (λ is. is ++ (mark ∷ [])) q u (A.buffers q u qe ue)
  buffers_alike p (Arw v x y) pe oe q u qe ue = A.buffers q u qe ue

  after_alike : (u : PsoStep) → T (pso_may P d u) → Alike S (pso_after P d u) (pso_after P e u)
  after_alike (Operate n) t =
      let w = transition P n in
      let o = R.transitions n (ltb→lt n (length P.transitions) (and_yes (ltb n (length P.transitions)) (may_operate_by S d w) t).0) in
      record {
        states = λ q qe. ap (λ (x : ℕ). cond (eqb q w.process) w.to x) (A.states q qe);
        buffers = buffers_alike w.process w.operation o.process o.operation;
        memory = ap (λ (m : List ℕ). pso_memory_after m w.operation) A.memory;
      }
  after_alike (UpdateVariable p v) t =
      let y = and_yes (ltb p S.processes && ltb v S.variables) (value_first (d.buffer p v)) t in
      let z = and_yes (ltb p S.processes) (ltb v S.variables) y.0 in
      let same = A.buffers p v (ltb→lt p S.processes z.0) (ltb→lt v S.variables z.1) in
      record {
        states = A.states;
        buffers = λ q u qe ue. put_alike d.buffer e.buffer p v _ _ (ap without_first same) q u (A.buffers q u qe ue);
        memory = ap₂ (λ (m : List ℕ) (is : List Item). set m v (oldest_value is)) A.memory same;
      }
  after_alike (RemoveMark p) t =
      record {
        states = A.states;
        buffers = λ q u qe ue. each_alike d.buffer e.buffer p S without_first q u (A.buffers q u qe ue);
        memory = A.memory;
      }

-- ---- and all steps

lowest_alike : (S : Shape) (k : ℕ) (ts : List (ℕ → ℕ)) (d e : PsoConfiguration) → ((p : ℕ) → p < S.processes → d.state p ≡ e.state p)
    → pso_lowest_met S k ts d ≡ pso_lowest_met S k ts e
lowest_alike S k [] d e h = refl
lowest_alike S k (t ∷ ts) d e h =
    ap₂ (λ (b : Bool) (o : Option ℕ). cond b (some k) o)
    (all_same S.processes (λ p. eqb (d.state p) (t p)) (λ p. eqb (e.state p) (t p)) (λ p l. ap (λ (x : ℕ). eqb x (t p)) (h p l)))
    (lowest_alike S (suc k) ts d e h)

pub answers_alike : (P : Program) → WellFormed P → (ts : List (ℕ → ℕ)) (n k : ℕ) (us : List PsoStep) (d e : PsoConfiguration) → Alike P.shape d e
    → pso_answer_from P ts n k d us ≡ pso_answer_from P ts n k e us
answers_alike P R ts n k [] d e A = ap (last_answer n) (lowest_alike P.shape 0 ts d e A.states)
answers_alike P R ts n k (u ∷ us) d e A =
    go (pso_step_answer P d u) refl (λ t. answers_alike P R ts n (suc k) us (pso_after P d u) (pso_after P e u) (after_alike P R d e A u t))
    ∙ ap (λ (x : Answer). answer_then x k (λ _. pso_answer_from P ts n (suc k) (pso_after P e u) us)) (answer_alike P R d e A u)
  where
    go : (x : Answer) → pso_step_answer P d u ≡ x → (T (pso_may P d u) → pso_answer_from P ts n (suc k) (pso_after P d u) us ≡ pso_answer_from P ts n (suc k) (pso_after P e u) us)
        → answer_then (pso_step_answer P d u) k (λ _. pso_answer_from P ts n (suc k) (pso_after P d u) us)
        ≡ answer_then (pso_step_answer P d u) k (λ _. pso_answer_from P ts n (suc k) (pso_after P e u) us)
    go (Ok _) z h =
        let s : T (pso_may P d u) = subst (Answers P d u) z (answers P d u) in
        ap (λ (x : Answer). answer_then x k (λ _. pso_answer_from P ts n (suc k) (pso_after P d u) us)) z ∙ h s
        ∙ ap (λ (x : Answer). answer_then x k (λ _. pso_answer_from P ts n (suc k) (pso_after P e u) us)) (sym z)
    go (Err cause) z h =
        ap (λ (x : Answer). answer_then x k (λ _. pso_answer_from P ts n (suc k) (pso_after P d u) us)) z
        ∙ ap (λ (x : Answer). answer_then x k (λ _. pso_answer_from P ts n (suc k) (pso_after P e u) us)) (sym z)
