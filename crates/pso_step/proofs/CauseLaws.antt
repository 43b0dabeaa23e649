-- A step is permitted exactly if the machine may take it, and refused for a cause exactly if that is the first that applies.
use Prim.Native.Nat.{ℕ, zero, suc, ◌<◌}
use mathlib.Core.Path.{◌≡◌, refl, sym, subst}
use mathlib.Core.Logic.{◌≢◌}
use mathlib.Core.Bool.{Bool, true, false, cond, ◌&&◌}
use mathlib.Core.List.{List, [], ◌∷◌}
use native.Mathlib.Omega.{arith}
use lib.ListN.{length, get_or}
use lib.Dec.{T, eqb, ltb, eqb→eq, ltb→lt, lt→ltb}
use mir.Facts.{and_yes, yes_and}
use Rattle.machine_pws.specs.declared.Operation.{Operation}
use Rattle.machine_pws.specs.declared.Operation.TheVariants.{Nop, Read, Write, Mfence, Sfence, Arw}
use Rattle.machine_pws.specs.Program.{Shape, Program, transition}
use Rattle.machine_pws.specs.Machine.{all_below}
use Rattle.machine_pws.proofs.Facts.{T_eq}
use Rattle.machine_pws.proofs.Cases.{all_yes}
use Rattle.machine_pso.specs.declared.PsoStep.{PsoStep}
use Rattle.machine_pso.specs.declared.PsoStep.TheVariants.{Operate, UpdateVariable, RemoveMark}
use Rattle.machine_pso.specs.Machine.{Item, PsoConfiguration, no_item, pso_sees, pso_may_operate, may_operate_by, pso_may}
use Rattle.run_causes.specs.declared.Cause.TheVariants.{State, Queue, Pointer, Value, Nothing}
use Rattle.std.specs.Prelude.{Ok, Err}
use Rattle.run_causes.specs.Causes.{Answer, first_cause}
use Rattle.pso_step.specs.Causes.{PsoInState, NotEmpty, PsoOtherValue, MemoryCause, Because, pso_queue_fits, pso_value_fits, pso_step_answer}

-- what an answer says of a step
abbrev pub Answers : Program → PsoConfiguration → PsoStep → Answer → Type 0
Answers P d u (Ok _) = T (pso_may P d u)
Answers P d u (Err cause) = Because P d u cause

-- ---- tests

not_T : (b : Bool) → b ≡ false → T b → ⊥
not_T b e t = subst T e t

T_is : (b : Bool) → b ≡ true → T b
T_is b e = subst T (sym e) tt

eqb_not : (x y : ℕ) → eqb x y ≡ false → x ≢ y
eqb_not x y e z = not_T (eqb x y) e (T_eq x y z)

no_item_lem : (is : List Item) → T (no_item is) → is ≡ []
no_item_lem [] t = refl
no_item_lem (i ∷ is) t = absurd t

some_item : (is : List Item) → no_item is ≡ false → is ≢ []
some_item [] e z = T_is false (sym e)
some_item (i ∷ is) e z = not_T (no_item (i ∷ is)) e (subst (λ (js : List Item). T (no_item js)) (sym z) tt)

some_below : (n : ℕ) (g : ℕ → Bool) → all_below n g ≡ false → (v : ℕ) × (v < n) × (g v ≡ false)
some_below zero g e = absurd (T_is false (sym e))
some_below (suc n) g e = go (λ a. some_below n g a) (all_below n g) refl (g n) refl e
  where
    go : (all_below n g ≡ false → (v : ℕ) × (v < n) × (g v ≡ false)) → (x : Bool) → all_below n g ≡ x → (y : Bool) → g n ≡ y → (x && y) ≡ false
        → (v : ℕ) × (v < suc n) × (g v ≡ false)
    go f false a y b z = let r = f a in (r.0, omega (arith, r.1), r.2)
    go f true a false b z = (n, omega arith, b)
    go f true a true b z = absurd (T_is false (sym z))

-- ---- an operation

queue_refused : (S : Shape) (d : PsoConfiguration) (p : ℕ) (o : Operation) → pso_queue_fits S d p o ≡ false → NotEmpty S d p o
queue_refused S d p Nop e = T_is false (sym e)
queue_refused S d p (Read v x) e = T_is false (sym e)
queue_refused S d p (Write v x) e = T_is false (sym e)
queue_refused S d p Mfence e = let r = some_below S.variables (λ v. no_item (d.buffer p v)) e in (r.0, r.1, some_item (d.buffer p r.0) r.2)
queue_refused S d p Sfence e = T_is false (sym e)
queue_refused S d p (Arw v x y) e = some_item (d.buffer p v) e

queue_fits : (S : Shape) (d : PsoConfiguration) (p : ℕ) (o : Operation) → T (pso_queue_fits S d p o) → NotEmpty S d p o → ⊥
queue_fits S d p Nop t n = n
queue_fits S d p (Read v x) t n = n
queue_fits S d p (Write v x) t n = n
queue_fits S d p Mfence t n = n.2 (no_item_lem (d.buffer p n.0) (all_yes S.variables (λ v. no_item (d.buffer p v)) t n.0 n.1))
queue_fits S d p Sfence t n = n
queue_fits S d p (Arw v x y) t n = n (no_item_lem (d.buffer p v) t)

value_refused : (d : PsoConfiguration) (p : ℕ) (o : Operation) → pso_value_fits d p o ≡ false → PsoOtherValue d p o
value_refused d p Nop e = T_is false (sym e)
value_refused d p (Read v x) e = eqb_not (pso_sees d p v) x e
value_refused d p (Write v x) e = T_is false (sym e)
value_refused d p Mfence e = T_is false (sym e)
value_refused d p Sfence e = T_is false (sym e)
value_refused d p (Arw v x y) e = eqb_not (get_or d.memory v 0) x e

value_fits : (d : PsoConfiguration) (p : ℕ) (o : Operation) → T (pso_value_fits d p o) → PsoOtherValue d p o → ⊥
value_fits d p Nop t n = n
value_fits d p (Read v x) t n = n (eqb→eq (pso_sees d p v) x t)
value_fits d p (Write v x) t n = n
value_fits d p Mfence t n = n
value_fits d p Sfence t n = n
value_fits d p (Arw v x y) t n = n (eqb→eq (get_or d.memory v 0) x t)

operate_fits : (S : Shape) (d : PsoConfiguration) (p : ℕ) (o : Operation) → (pso_queue_fits S d p o && pso_value_fits d p o) ≡ pso_may_operate S d p o
operate_fits S d p Nop = refl
operate_fits S d p (Read v x) = refl
operate_fits S d p (Write v x) = refl
operate_fits S d p Mfence = and_true (all_below S.variables (λ v. no_item (d.buffer p v)))
  where
    and_true : (b : Bool) → (b && true) ≡ b
    and_true true = refl
    and_true false = refl
operate_fits S d p Sfence = refl
operate_fits S d p (Arw v x y) = refl

-- ---- the answer to a step

module _ (P : Program) (d : PsoConfiguration) where
  in_state : (n : ℕ) → T (ltb n (length P.transitions)) → T (eqb (d.state (transition P n).process) (transition P n).from) → PsoInState P d n
  in_state n e s = (ltb→lt n (length P.transitions) e, eqb→eq (d.state (transition P n).process) (transition P n).from s)

  operate_answers : (n : ℕ) (e s q v : Bool) → ltb n (length P.transitions) ≡ e → eqb (d.state (transition P n).process) (transition P n).from ≡ s
      → pso_queue_fits P.shape d (transition P n).process (transition P n).operation ≡ q → pso_value_fits d (transition P n).process (transition P n).operation ≡ v
      → Answers P d (Operate n) (cond e (first_cause s q true v true) (Err State))
  unfolding first_cause
  operate_answers n false s q v ee se qe ve = λ i. not_T (ltb n (length P.transitions)) ee (lt→ltb n (length P.transitions) i.0)
  operate_answers n true false q v ee se qe ve = λ i. eqb_not (d.state (transition P n).process) (transition P n).from se i.1
  operate_answers n true true false v ee se qe ve =
      (in_state n (T_is _ ee) (T_is _ se), queue_refused P.shape d (transition P n).process (transition P n).operation qe)
  operate_answers n true true true false ee se qe ve = (
    in_state n (T_is _ ee) (T_is _ se),
    queue_fits P.shape d (transition P n).process (transition P n).operation (T_is _ qe),
    value_refused d (transition P n).process (transition P n).operation ve,
  )
  operate_answers n true true true true ee se qe ve =
      let w = transition P n in
      yes_and (ltb n (length P.transitions)) (may_operate_by P.shape d w) (T_is _ ee)
      (yes_and (eqb (d.state w.process) w.from) (pso_may_operate P.shape d w.process w.operation) (T_is _ se)
      (subst T (operate_fits P.shape d w.process w.operation)
      (yes_and (pso_queue_fits P.shape d w.process w.operation) (pso_value_fits d w.process w.operation) (T_is _ qe) (T_is _ ve))))

  update_answers : (p v : ℕ) (b : Bool) → pso_may P d (UpdateVariable p v) ≡ b → Answers P d (UpdateVariable p v) (first_cause true true true true b)
  unfolding first_cause
  update_answers p v true e = T_is _ e
  update_answers p v false e = e

  remove_answers : (p : ℕ) (b : Bool) → pso_may P d (RemoveMark p) ≡ b → Answers P d (RemoveMark p) (first_cause true true true true b)
  unfolding first_cause
  remove_answers p true e = T_is _ e
  remove_answers p false e = e

  -- the computed answer is one
  pub answers : (u : PsoStep) → Answers P d u (pso_step_answer P d u)
  answers (Operate n) = operate_answers n _ _ _ _ refl refl refl refl
  answers (UpdateVariable p v) = update_answers p v (pso_may P d (UpdateVariable p v)) refl
  answers (RemoveMark p) = remove_answers p (pso_may P d (RemoveMark p)) refl

  -- what a permitted transition finds
  record Finds (n : ℕ) : Type 0 where
    state : PsoInState P d n
    queue : NotEmpty P.shape d (transition P n).process (transition P n).operation → ⊥
    value : PsoOtherValue d (transition P n).process (transition P n).operation → ⊥

  finds : (n : ℕ) → T (pso_may P d (Operate n)) → Finds n
  finds n t =
      let w = transition P n in
      let a = and_yes (ltb n (length P.transitions)) (may_operate_by P.shape d w) t in
      let b = and_yes (eqb (d.state w.process) w.from) (pso_may_operate P.shape d w.process w.operation) a.1 in
      let c = and_yes (pso_queue_fits P.shape d w.process w.operation) (pso_value_fits d w.process w.operation)
      (subst T (sym (operate_fits P.shape d w.process w.operation)) b.1) in
      record {
        state = in_state n a.0 b.0;
        queue = queue_fits P.shape d w.process w.operation c.0;
        value = value_fits d w.process w.operation c.1;
      }

  -- and there is no other
  one_operate : (n : ℕ) (x y : Answer) → Answers P d (Operate n) x → Answers P d (Operate n) y → x ≡ y
  one_operate n (Ok _) (Ok _) s t = refl
  one_operate n (Ok _) (Err State) s t = absurd (t (finds n s).state)
  one_operate n (Ok _) (Err Queue) s t = absurd ((finds n s).queue t.1)
  one_operate n (Ok _) (Err Pointer) s t = absurd t
  one_operate n (Ok _) (Err Value) s t = absurd ((finds n s).value t.2)
  one_operate n (Ok _) (Err Nothing) s t = absurd t
  one_operate n (Err State) (Ok _) s t = absurd (s (finds n t).state)
  one_operate n (Err State) (Err State) s t = refl
  one_operate n (Err State) (Err Queue) s t = absurd (s t.0)
  one_operate n (Err State) (Err Pointer) s t = absurd t
  one_operate n (Err State) (Err Value) s t = absurd (s t.0)
  one_operate n (Err State) (Err Nothing) s t = absurd t
  one_operate n (Err Queue) (Ok _) s t = absurd ((finds n t).queue s.1)
  one_operate n (Err Queue) (Err State) s t = absurd (t s.0)
  one_operate n (Err Queue) (Err Queue) s t = refl
  one_operate n (Err Queue) (Err Pointer) s t = absurd t
  one_operate n (Err Queue) (Err Value) s t = absurd (t.1 s.1)
  one_operate n (Err Queue) (Err Nothing) s t = absurd t
  one_operate n (Err Pointer) y s t = absurd s
  one_operate n (Err Value) (Ok _) s t = absurd ((finds n t).value s.2)
  one_operate n (Err Value) (Err State) s t = absurd (t s.0)
  one_operate n (Err Value) (Err Queue) s t = absurd (s.1 t.1)
  one_operate n (Err Value) (Err Pointer) s t = absurd t
  one_operate n (Err Value) (Err Value) s t = refl
  one_operate n (Err Value) (Err Nothing) s t = absurd t
  one_operate n (Err Nothing) y s t = absurd s

  -- of the memory's own steps
  abbrev MemoryAnswers : PsoStep → Answer → Type 0
  MemoryAnswers u (Ok _) = T (pso_may P d u)
  MemoryAnswers u (Err cause) = MemoryCause P d u cause

  one_memory : (u : PsoStep) (x y : Answer) → MemoryAnswers u x → MemoryAnswers u y → x ≡ y
  one_memory u (Ok _) (Ok _) s t = refl
  one_memory u (Ok _) (Err State) s t = absurd t
  one_memory u (Ok _) (Err Queue) s t = absurd t
  one_memory u (Ok _) (Err Pointer) s t = absurd t
  one_memory u (Ok _) (Err Value) s t = absurd t
  one_memory u (Ok _) (Err Nothing) s t = absurd (not_T (pso_may P d u) t s)
  one_memory u (Err State) y s t = absurd s
  one_memory u (Err Queue) y s t = absurd s
  one_memory u (Err Pointer) y s t = absurd s
  one_memory u (Err Value) y s t = absurd s
  one_memory u (Err Nothing) (Ok _) s t = absurd (not_T (pso_may P d u) s t)
  one_memory u (Err Nothing) (Err State) s t = absurd t
  one_memory u (Err Nothing) (Err Queue) s t = absurd t
  one_memory u (Err Nothing) (Err Pointer) s t = absurd t
  one_memory u (Err Nothing) (Err Value) s t = absurd t
  one_memory u (Err Nothing) (Err Nothing) s t = refl

  update_memory : (p v : ℕ) (x : Answer) → Answers P d (UpdateVariable p v) x → MemoryAnswers (UpdateVariable p v) x
  update_memory p v (Ok _) s = s
  update_memory p v (Err cause) s = s

  remove_memory : (p : ℕ) (x : Answer) → Answers P d (RemoveMark p) x → MemoryAnswers (RemoveMark p) x
  remove_memory p (Ok _) s = s
  remove_memory p (Err cause) s = s

  pub because_only : (u : PsoStep) (x : Answer) → Answers P d u x → x ≡ pso_step_answer P d u
  because_only (Operate n) x s = one_operate n x (pso_step_answer P d (Operate n)) s (answers (Operate n))
  because_only (UpdateVariable p v) x s =
      let u = UpdateVariable p v in
      one_memory u x (pso_step_answer P d u) (update_memory p v x s) (update_memory p v (pso_step_answer P d u) (answers u))
  because_only (RemoveMark p) x s =
      let u = RemoveMark p in
      one_memory u x (pso_step_answer P d u) (remove_memory p x s) (remove_memory p (pso_step_answer P d u) (answers u))
