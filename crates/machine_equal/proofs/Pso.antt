-- Laws of the PSO machine: what permits a step, and that a step of a process looks at, and changes, that process's part and memory alone.
use Prim.Native.Nat.{ℕ, zero, suc, ◌<◌}
use mathlib.Core.Path.{◌≡◌, refl, sym, ap, ap₂, ◌∙◌}
use mathlib.Core.Logic.{◌≢◌}
use mathlib.Core.Bool.{Bool, true, false, cond, ◌&&◌}
use mathlib.Core.List.{List, [], ◌∷◌, ◌++◌}
use native.Mathlib.Omega.{arith}
use lib.ListN.{length, set}
use lib.Dec.{T, eqb, ltb, lt→ltb}
use mir.Facts.{yes_and}
use Rattle.machine_pws.specs.declared.Operation.{Operation}
use Rattle.machine_pws.specs.declared.Operation.TheVariants.{Nop, Read, Write, Mfence, Sfence, Arw}
use Rattle.machine_pws.specs.Program.{Shape, Program, transition}
use Rattle.machine_pws.specs.Machine.{put, all_below}
use Rattle.machine_pws.proofs.Facts.{put_same, put_other}
use Rattle.machine_pso.specs.declared.PsoStep.{PsoStep}
use Rattle.machine_pso.specs.declared.PsoStep.TheVariants.{Operate, UpdateVariable, RemoveMark}
use Rattle.machine_pso.specs.Machine.{Item, value, mark, PsoConfiguration, no_item, value_first, mark_first, oldest_value, without_first, put_buffer, each_buffer, pso_may_operate, buffer_after, pso_memory_after, may_operate_by, pso_may, pso_after}
use Rattle.machine_pso.specs.Runs.{PsoTakes, done, step}

-- ---- tests of all numbers below one

pub yes_all : (n : ℕ) (f : ℕ → Bool) → ((i : ℕ) → i < n → T (f i)) → T (all_below n f)
yes_all zero f h = tt
yes_all (suc n) f h = yes_and (all_below n f) (f n) (yes_all n f (λ i l. h i (omega arith))) (h n (omega arith))

-- ---- what permits a step

module _ (P : Program) (d : PsoConfiguration) where
  pub yes_operate : (n : ℕ) → n < length P.transitions → T (may_operate_by P.shape d (transition P n)) → T (pso_may P d (Operate n))
  yes_operate n l t = yes_and (ltb n (length P.transitions)) (may_operate_by P.shape d (transition P n)) (lt→ltb n (length P.transitions) l) t

  pub yes_update_variable : (p v : ℕ) → p < P.shape.processes → v < P.shape.variables → T (value_first (d.buffer p v)) → T (pso_may P d (UpdateVariable p v))
  yes_update_variable p v pe ve t =
      yes_and (ltb p P.shape.processes && ltb v P.shape.variables) (value_first (d.buffer p v))
      (yes_and (ltb p P.shape.processes) (ltb v P.shape.variables) (lt→ltb p P.shape.processes pe) (lt→ltb v P.shape.variables ve)) t

  pub yes_remove : (p : ℕ) → p < P.shape.processes → ((v : ℕ) → v < P.shape.variables → T (mark_first (d.buffer p v))) → T (pso_may P d (RemoveMark p))
  yes_remove p pe h =
      yes_and (ltb p P.shape.processes) (all_below P.shape.variables (λ v. mark_first (d.buffer p v)))
      (lt→ltb p P.shape.processes pe) (yes_all P.shape.variables (λ v. mark_first (d.buffer p v)) h)

-- ---- the buffers changed in p alone

module _ (B : ℕ → ℕ → List Item) (p : ℕ) where
  pub put_buffer_same : (v : ℕ) (is : List Item) → put_buffer B p v is p ≡ put (B p) v is
  put_buffer_same v is = put_same B p (put (B p) v is)

  pub put_buffer_other : (v : ℕ) (is : List Item) (q : ℕ) → q ≢ p → put_buffer B p v is q ≡ B q
  put_buffer_other v is q n = put_other B p (put (B p) v is) q n

  pub each_buffer_same : (S : Shape) (f : List Item → List Item) → each_buffer S f B p p ≡ (λ v. cond (ltb v S.variables) (f (B p v)) (B p v))
  each_buffer_same S f = put_same B p (λ v. cond (ltb v S.variables) (f (B p v)) (B p v))

  pub each_buffer_other : (S : Shape) (f : List Item → List Item) (q : ℕ) → q ≢ p → each_buffer S f B p q ≡ B q
  each_buffer_other S f q n = put_other B p (λ v. cond (ltb v S.variables) (f (B p v)) (B p v)) q n

  -- what f makes of the buffer of a variable that exists
  pub each_buffer_at : (S : Shape) (f : List Item → List Item) (v : ℕ) → v < S.variables → each_buffer S f B p p v ≡ f (B p v)
  each_buffer_at S f v l = ap (λ (b : ℕ → List Item). b v) (each_buffer_same S f) ∙ go (ltb v S.variables) (lt→ltb v S.variables l)
    where
      go : (t : Bool) → T t → cond t (f (B p v)) (B p v) ≡ f (B p v)
      go true h = refl
      go false h = absurd h

-- ---- a step looks at its process's part and at memory, and changes these alone

-- the process of a step
abbrev pub step_process : Program → PsoStep → ℕ
step_process P (Operate n) = (transition P n).process
step_process P (UpdateVariable p v) = p
step_process P (RemoveMark p) = p

-- d and e agree in the local state and the buffers of p, and in memory
pub record Agree (p : ℕ) (d e : PsoConfiguration) : Type 0 where
  pub state : d.state p ≡ e.state p
  pub buffer : d.buffer p ≡ e.buffer p
  pub memory : d.memory ≡ e.memory

pub agree_same : (p : ℕ) (d e : PsoConfiguration) → d ≡ e → Agree p d e
agree_same p d e s =
    record {
      state = ap (λ (x : PsoConfiguration). x.state p) s;
      buffer = ap (λ (x : PsoConfiguration). x.buffer p) s;
      memory = ap (λ (x : PsoConfiguration). x.memory) s;
    }

pub agree_then : {p : ℕ} {d e f : PsoConfiguration} → Agree p d e → Agree p e f → Agree p d f
agree_then a b = record { state = a.state ∙ b.state; buffer = a.buffer ∙ b.buffer; memory = a.memory ∙ b.memory }

may_operation : (S : Shape) (d e : PsoConfiguration) (p : ℕ) (x : Operation) → Agree p d e → pso_may_operate S d p x ≡ pso_may_operate S e p x
may_operation S d e p Nop a = refl
may_operation S d e p (Read v x) a = rw (a.buffer, a.memory)
may_operation S d e p (Write v x) a = refl
may_operation S d e p Mfence a = ap (λ (b : ℕ → List Item). all_below S.variables (λ v. no_item (b v))) a.buffer
may_operation S d e p Sfence a = refl
may_operation S d e p (Arw v old new) a = rw (a.buffer, a.memory)

pub agree_may : (P : Program) (d e : PsoConfiguration) (u : PsoStep) → Agree (step_process P u) d e → pso_may P d u ≡ pso_may P e u
agree_may P d e (Operate n) a =
    let t = transition P n in
    ap₂ (λ (x : ℕ) (y : Bool). ltb n (length P.transitions) && (eqb x t.from && y)) a.state
    (may_operation P.shape d e t.process t.operation a)
agree_may P d e (UpdateVariable p v) a = ap (λ (b : ℕ → List Item). (ltb p P.shape.processes && ltb v P.shape.variables) && value_first (b v)) a.buffer
agree_may P d e (RemoveMark p) a = ap (λ (b : ℕ → List Item). ltb p P.shape.processes && all_below P.shape.variables (λ v. mark_first (b v))) a.buffer

module _ (S : Shape) (d e : PsoConfiguration) (p : ℕ) (a : Agree p d e) where
  put_agree : (v : ℕ) (f : List Item → List Item) → put_buffer d.buffer p v (f (d.buffer p v)) p ≡ put_buffer e.buffer p v (f (e.buffer p v)) p
  put_agree v f =
      put_buffer_same d.buffer p v (f (d.buffer p v)) ∙ ap (λ (b : ℕ → List Item). put b v (f (b v))) a.buffer
      ∙ sym (put_buffer_same e.buffer p v (f (e.buffer p v)))

  each_agree : (f : List Item → List Item) → each_buffer S f d.buffer p p ≡ each_buffer S f e.buffer p p
  each_agree f =
      each_buffer_same d.buffer p S f ∙ ap {B = ℕ → List Item} (λ (b : ℕ → List Item) v. cond (ltb v S.variables) (f (b v)) (b v)) a.buffer
      ∙ sym (each_buffer_same e.buffer p S f)

  buffer_agree : (x : Operation) → buffer_after S d p x p ≡ buffer_after S e p x p
  buffer_agree Nop = a.buffer
  buffer_agree (Read v x) = a.buffer
  buffer_agree (Write v x) = put_agree v (λ is. is ++ (value x ∷ []))
  buffer_agree Mfence = a.buffer
  buffer_agree Sfence = each_agree (λ is. is ++ (mark ∷ []))
  buffer_agree (Arw v old new) = a.buffer

-- agreeing configurations take a step of p to agreeing configurations
pub agree_after : (P : Program) (d e : PsoConfiguration) (u : PsoStep) → Agree (step_process P u) d e → Agree (step_process P u) (pso_after P d u) (pso_after P e u)
agree_after P d e (Operate n) a =
    let t = transition P n in
    record {
      state = put_same d.state t.process t.to ∙ sym (put_same e.state t.process t.to);
      buffer = buffer_agree P.shape d e t.process a t.operation;
      memory = ap (λ (m : List ℕ). pso_memory_after m t.operation) a.memory;
    }
agree_after P d e (UpdateVariable p v) a =
    record {
      state = a.state;
      buffer = put_agree P.shape d e p a v without_first;
      memory = ap₂ (λ (m : List ℕ) (b : ℕ → List Item). set m v (oldest_value (b v))) a.memory a.buffer;
    }
agree_after P d e (RemoveMark p) a = record { state = a.state; buffer = each_agree P.shape d e p a without_first; memory = a.memory }

-- and leave the other processes' parts
pub other_state : (P : Program) (d : PsoConfiguration) (u : PsoStep) (q : ℕ) → q ≢ step_process P u → (pso_after P d u).state q ≡ d.state q
other_state P d (Operate n) q l = put_other d.state (transition P n).process (transition P n).to q l
other_state P d (UpdateVariable p v) q l = refl
other_state P d (RemoveMark p) q l = refl

pub buffer_other : (S : Shape) (d : PsoConfiguration) (p : ℕ) (x : Operation) (q : ℕ) → q ≢ p → buffer_after S d p x q ≡ d.buffer q
buffer_other S d p Nop q l = refl
buffer_other S d p (Read v x) q l = refl
buffer_other S d p (Write v x) q l = put_buffer_other d.buffer p v (d.buffer p v ++ (value x ∷ [])) q l
buffer_other S d p Mfence q l = refl
buffer_other S d p Sfence q l = each_buffer_other d.buffer p S (λ is. is ++ (mark ∷ [])) q l
buffer_other S d p (Arw v old new) q l = refl

pub other_buffer : (P : Program) (d : PsoConfiguration) (u : PsoStep) (q : ℕ) → q ≢ step_process P u → (pso_after P d u).buffer q ≡ d.buffer q
other_buffer P d (Operate n) q l = buffer_other P.shape d (transition P n).process (transition P n).operation q l
other_buffer P d (UpdateVariable p v) q l = put_buffer_other d.buffer p v (without_first (d.buffer p v)) q l
other_buffer P d (RemoveMark p) q l = each_buffer_other d.buffer p P.shape without_first q l

-- ---- one more step at the end

pub pso_snoc : {P : Program} {d e : PsoConfiguration} {us : List PsoStep} (u : PsoStep) → PsoTakes P d us e → T (pso_may P e u)
    → PsoTakes P d (us ++ (u ∷ [])) (pso_after P e u)
pso_snoc u done t = step u t done
pso_snoc u (step w s r) t = step w s (pso_snoc u r t)
