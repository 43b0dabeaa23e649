-- One step of the PSO machines: that of a program with registers may take it exactly when that of the written program may take the one that is
-- written for it, and then their configurations are a pair again.
use Prim.Native.Nat.{ℕ, zero, suc, ◌+◌, ◌<◌}
use mathlib.Core.Path.{◌≡◌, refl, sym, ap, subst, ◌∙◌}
use mathlib.Core.Logic.{◌≢◌}
use mathlib.Core.Bool.{Bool, true, false, cond, ◌&&◌, not}
use mathlib.Core.List.{List, [], ◌∷◌, ◌++◌}
use native.Mathlib.Omega.{arith}
use lib.ListN.{length, get_or, set}
use lib.Dec.{T, eqb, ltb, eqb→eq, ltb→lt, lt→ltb}
use borrow.Author.Tests.{lt-ltb}
use mir.Facts.{and_yes, yes_and}
use Rattle.machine_pws.specs.Program.{Shape, Program, transition}
use Rattle.machine_pws.specs.Machine.{put, newest_or, all_below}
use Rattle.machine_pws.proofs.Facts.{T_eq, put_same, put_other, put_each}
use Rattle.machine_pso.specs.declared.PsoStep.{PsoStep}
use Rattle.machine_pso.specs.declared.PsoStep.TheVariants.{Operate, UpdateVariable, RemoveMark}
use Rattle.machine_pso.specs.Machine.{
  Item,
  value,
  mark,
  PsoConfiguration,
  value_first,
  mark_first,
  oldest_value,
  without_first,
  newest_value,
  put_buffer,
  each_buffer,
  pso_sees,
  pso_may_operate,
  buffer_after,
  pso_memory_after,
  may_operate_by,
  after_operate,
  pso_may,
  pso_after,
}
use Rattle.machine_equal.proofs.Pso.{yes_operate}
use Rattle.register_machine.specs.declared.RegisterOperation.{RegisterOperation}
use Rattle.register_machine.specs.declared.RegisterOperation.TheVariants.{
  Nop,
  Read,
  Write,
  Mfence,
  Sfence,
  Arw,
  LoadRegister,
  StoreRegister,
  TestRegister,
}
use Rattle.register_machine.specs.Program.{
  RegisterProgram,
  RegisterWellFormed,
  RegisterOperationOf,
  register_transition,
  uses_register,
}
use Rattle.register_machine.specs.PsoMachine.{
  RegisterPsoConfiguration,
  pso_plain,
  register_pso_may_operate,
  pso_registers_after,
  register_buffer_after,
  register_pso_memory_after,
  register_may_operate_by,
  register_pso_may,
  register_pso_after,
}
use Rattle.register_machine.specs.Written.{pair_of, plain_operation, held, written, place, first_written, number_written}
use Rattle.register_machine.specs.PsoCorrespondence.{pso_paired, pso_seen_by, pso_step_written}
use Rattle.register_machine.proofs.Numbers.{uses_none, Can, register_of, number_below, number_is, number_of}
use Rattle.register_machine.proofs.Stepping.{pair_eq, pair_put, can_low}

-- ---- values in buffers and memory

-- each value in the buffer is below 4
abbrev pub Low : List Item → Type 0
Low [] = Unit {0}
Low (value x ∷ is) = (x < 4) × Low is
Low (mark ∷ is) = Low is

low_append : (is js : List Item) → Low is → Low js → Low (is ++ js)
low_append [] js a b = b
low_append (value x ∷ is) js a b = (a.0, low_append is js a.1 b)
low_append (mark ∷ is) js a b = low_append is js a b

low_rest : (is : List Item) → Low is → Low (without_first is)
low_rest [] a = tt
low_rest (value x ∷ is) a = a.1
low_rest (mark ∷ is) a = a

low_oldest : (is : List Item) → T (value_first is) → Low is → oldest_value is < 4
low_oldest [] t a = absurd t
low_oldest (value x ∷ is) t a = a.0
low_oldest (mark ∷ is) t a = absurd t

low_newest : (is : List Item) (x : ℕ) → Low is → x < 4 → newest_or (newest_value is) x < 4
low_newest [] x a l = l
low_newest (value y ∷ is) x a l = low_newest is y a.1 a.0
low_newest (mark ∷ is) x a l = low_newest is x a l

set_low : (m : List ℕ) (v x u : ℕ) → x < 4 → get_or m u 0 < 4 → get_or (set m v x) u 0 < 4
set_low [] v x u l h = h
set_low (y ∷ ys) zero x zero l h = l
set_low (y ∷ ys) zero x (suc u) l h = h
set_low (y ∷ ys) (suc v) x zero l h = h
set_low (y ∷ ys) (suc v) x (suc u) l h = set_low ys v x u l h

-- ---- one operation

module _ (R : RegisterProgram) (d : RegisterPsoConfiguration) (p : ℕ) where
  abbrev S : Shape
  S = R.shape

  abbrev seen : RegisterOperation → ℕ
  seen o = pso_seen_by d p o

  may_there : (o : RegisterOperation) → T (register_pso_may_operate S d p o) → T (pso_may_operate S (pso_paired R d) p (plain_operation o (d.register p) (seen o)))
  may_there Nop t = t
  may_there (Read v y) t = t
  may_there (Write v y) t = t
  may_there Mfence t = t
  may_there Sfence t = t
  may_there (Arw v old new) t = t
  may_there (LoadRegister v) t = T_eq (pso_sees (pso_plain d) p v) (pso_sees (pso_plain d) p v) refl
  may_there (StoreRegister v) t = t
  may_there (TestRegister y) t = tt

  may_back : (b : Bool) (o : RegisterOperation) (r x : ℕ) → Can b o r x → (b ≡ true → d.register p ≡ r)
      → T (pso_may_operate S (pso_paired R d) p (plain_operation o r x)) → T (register_pso_may_operate S d p o)
  may_back b Nop r x can e t = t
  may_back b (Read v y) r x can e t = t
  may_back b (Write v y) r x can e t = t
  may_back b Mfence r x can e t = t
  may_back b Sfence r x can e t = t
  may_back b (Arw v old new) r x can e t = t
  may_back b (LoadRegister v) r x can e t = tt
  may_back b (StoreRegister v) r x can e t = tt
  may_back true (TestRegister y) r x can e t = T_eq (d.register p) y (e refl ∙ can.1)
  may_back false (TestRegister y) r x can e t = absurd can

  -- the one that is taken stands where the register and what is seen say
  place_back : (b : Bool) (o : RegisterOperation) (r x : ℕ) → (b ≡ true → d.register p ≡ r) → T (pso_may_operate S (pso_paired R d) p (plain_operation o r x))
      → place b o r x ≡ place b o (d.register p) (seen o)
  place_back false o r x e t = refl
  place_back true Nop r x e t = sym (e refl)
  place_back true (Read v y) r x e t = sym (e refl)
  place_back true (Write v y) r x e t = sym (e refl)
  place_back true Mfence r x e t = sym (e refl)
  place_back true Sfence r x e t = sym (e refl)
  place_back true (Arw v old new) r x e t = sym (e refl)
  place_back true (LoadRegister v) r x e t = let a = e refl in let b = eqb→eq (pso_sees (pso_plain d) p v) x t in omega arith
  place_back true (StoreRegister v) r x e t = sym (e refl)
  place_back true (TestRegister y) r x e t = refl

  buffer_same : (o : RegisterOperation) → buffer_after S (pso_paired R d) p (plain_operation o (d.register p) (seen o)) ≡ register_buffer_after S d p o
  buffer_same Nop = refl
  buffer_same (Read v y) = refl
  buffer_same (Write v y) = refl
  buffer_same Mfence = refl
  buffer_same Sfence = refl
  buffer_same (Arw v old new) = refl
  buffer_same (LoadRegister v) = refl
  buffer_same (StoreRegister v) = refl
  buffer_same (TestRegister y) = refl

  memory_same : (o : RegisterOperation) → pso_memory_after d.memory (plain_operation o (d.register p) (seen o)) ≡ register_pso_memory_after d.memory o
  memory_same Nop = refl
  memory_same (Read v y) = refl
  memory_same (Write v y) = refl
  memory_same Mfence = refl
  memory_same Sfence = refl
  memory_same (Arw v old new) = refl
  memory_same (LoadRegister v) = refl
  memory_same (StoreRegister v) = refl
  memory_same (TestRegister y) = refl

  held_is : (o : RegisterOperation) → pso_registers_after d p o p ≡ held o (d.register p) (seen o)
  held_is Nop = refl
  held_is (Read v y) = refl
  held_is (Write v y) = refl
  held_is Mfence = refl
  held_is Sfence = refl
  held_is (Arw v old new) = refl
  held_is (LoadRegister v) = put_same d.register p (pso_sees (pso_plain d) p v)
  held_is (StoreRegister v) = refl
  held_is (TestRegister y) = refl

  kept : (o : RegisterOperation) (q : ℕ) → q ≢ p → pso_registers_after d p o q ≡ d.register q
  kept Nop q n = refl
  kept (Read v y) q n = refl
  kept (Write v y) q n = refl
  kept Mfence q n = refl
  kept Sfence q n = refl
  kept (Arw v old new) q n = refl
  kept (LoadRegister v) q n = put_other d.register p (pso_sees (pso_plain d) p v) q n
  kept (StoreRegister v) q n = refl
  kept (TestRegister y) q n = refl

pub configuration_eq : {s s' : ℕ → ℕ} {b b' : ℕ → ℕ → List Item} {m m' : List ℕ} → s ≡ s' → b ≡ b' → m ≡ m'
    → ◌≡◌ {A = PsoConfiguration} (record { state = s; buffer = b; memory = m }) (record { state = s'; buffer = b'; memory = m' })
configuration_eq e f g = λ i. record { state = e i; buffer = f i; memory = g i }

-- ---- one step

-- what holds of the configurations on the way of a run
pub record PsoRanged (R : RegisterProgram) (d : RegisterPsoConfiguration) : Type 0 where
  pub registers : (p : ℕ) → d.register p < 4
  pub buffers : (p : ℕ) → p < R.shape.processes → (v : ℕ) → v < R.shape.variables → Low (d.buffer p v)
  pub memory : (v : ℕ) → v < R.shape.variables → get_or d.memory v 0 < 4

module _ (R : RegisterProgram) (I : RegisterWellFormed R) (d : RegisterPsoConfiguration) (g : PsoRanged R d) where
  abbrev W : Program
  W = written R

  abbrev e : PsoConfiguration
  e = pso_paired R d

  sees_low : (p v : ℕ) → p < R.shape.processes → v < R.shape.variables → pso_sees (pso_plain d) p v < 4
  sees_low p v pe ve = low_newest (d.buffer p v) (get_or d.memory v 0) (g.buffers p pe v ve) (g.memory v ve)

  can_here : (p : ℕ) → p < R.shape.processes → (b : Bool) (o : RegisterOperation) → RegisterOperationOf R.shape o
      → (b ≡ false → T (not (uses_register o))) → T (register_pso_may_operate R.shape d p o) → Can b o (d.register p) (pso_seen_by d p o)
  can_here p pe false o w u t = u refl
  can_here p pe true Nop w u t = (g.registers p, tt)
  can_here p pe true (Read v y) w u t = (g.registers p, tt)
  can_here p pe true (Write v y) w u t = (g.registers p, tt)
  can_here p pe true Mfence w u t = (g.registers p, tt)
  can_here p pe true Sfence w u t = (g.registers p, tt)
  can_here p pe true (Arw v old new) w u t = (g.registers p, tt)
  can_here p pe true (LoadRegister v) w u t = (g.registers p, sees_low p v pe w)
  can_here p pe true (StoreRegister v) w u t = (g.registers p, tt)
  can_here p pe true (TestRegister y) w u t = (g.registers p, eqb→eq (d.register p) y t)

  operate_parts : (n : ℕ) → T (register_pso_may R d (Operate n))
      → (n < length R.transitions) × (d.state (register_transition R n).process ≡ (register_transition R n).from)
      × T (register_pso_may_operate R.shape d (register_transition R n).process (register_transition R n).operation)
  operate_parts n t =
      let q = register_transition R n in
      let a = and_yes (ltb n (length R.transitions)) (register_may_operate_by R.shape d q) t in
      let b = and_yes (eqb (d.state q.process) q.from) (register_pso_may_operate R.shape d q.process q.operation) a.1 in
      (ltb→lt n (length R.transitions) a.0, eqb→eq (d.state q.process) q.from b.0, b.1)

  pub step_there : (u : PsoStep) → T (register_pso_may R d u)
      → T (pso_may W e (pso_step_written R d u)) × (pso_after W e (pso_step_written R d u) ≡ pso_paired R (register_pso_after R d u))
  step_there (Operate n) t =
      let q = register_transition R n in
      let p = q.process in
      let o = q.operation in
      let a = operate_parts n t in
      let i = I.transitions n a.0 in
      let r = d.register p in
      let x = pso_seen_by d p o in
      let can = can_here p i.process (register_of R n) o i.operation (uses_none R n a.0) a.2 in
      let m = number_written R n r x in
      let same = number_is R n r x a.0 can in (
        yes_operate W e m (number_below R n r x a.0 can)
            (subst (λ w. T (may_operate_by R.shape e w)) (sym same)
            (yes_and (eqb (e.state p) (pair_of (register_of R n) q.from r)) (pso_may_operate R.shape e p (plain_operation o r x))
            (T_eq (e.state p) (pair_of (register_of R n) q.from r) (ap (λ k. pair_of (register_of R n) k r) a.1))
            (may_there R d p o a.2))),
        ap (after_operate R.shape e) same
            ∙ configuration_eq (pair_put R d.state d.register (pso_registers_after d p o) p q.to (held o r x) (held_is R d p o) (kept R d p o))
            (buffer_same R d p o) (memory_same R d p o),
      )
  step_there (UpdateVariable p v) t = (t, refl)
  step_there (RemoveMark p) t = (t, refl)

  pub step_back : (w : PsoStep) → T (pso_may W e w) → (u : PsoStep) × (w ≡ pso_step_written R d u) × T (register_pso_may R d u)
  step_back (Operate m) t =
      let a = and_yes (ltb m (length W.transitions)) (may_operate_by R.shape e (transition W m)) t in
      let w = number_of R I m (ltb→lt m (length W.transitions) a.0) in
      let n = w.number in
      let q = register_transition R n in
      let p = q.process in
      let o = q.operation in
      let b = register_of R n in
      let r = w.register in
      let x = w.value in
      let same = ap (transition W) w.same ∙ number_is R n r x w.exists w.can in
      let y = and_yes (eqb (e.state p) (pair_of b q.from r)) (pso_may_operate R.shape e p (plain_operation o r x))
      (subst (λ w. T (may_operate_by R.shape e w)) same a.1) in
      let z = pair_eq b (d.state p) (d.register p) q.from r (λ i. g.registers p) (can_low b o r x w.can)
      (eqb→eq (e.state p) (pair_of b q.from r) y.0) in (
        Operate n,
        ap Operate (w.same ∙ ap (λ k. first_written R n + k) (place_back R d p b o r x z.1 y.1)),
        yes_and (ltb n (length R.transitions)) (register_may_operate_by R.shape d q) (lt→ltb n (length R.transitions) w.exists)
            (yes_and (eqb (d.state p) q.from) (register_pso_may_operate R.shape d p o) (T_eq (d.state p) q.from z.0)
            (may_back R d p b o r x w.can z.1 y.1)),
      )
  step_back (UpdateVariable p v) t = (UpdateVariable p v, refl, t)
  step_back (RemoveMark p) t = (RemoveMark p, refl, t)

  -- ---- values stay in range

  low_put : (p v : ℕ) (is : List Item) → p < R.shape.processes → Low is
      → (q : ℕ) → q < R.shape.processes → (u : ℕ) → u < R.shape.variables → Low (put_buffer d.buffer p v is q u)
  low_put p v is pe l q qe =
      put_each (λ q (b : ℕ → List Item). (u : ℕ) → u < R.shape.variables → Low (b u)) d.buffer p (put (d.buffer p) v is) q
      (λ u ue. put_each (λ u is. Low is) (d.buffer p) v is u l (λ n. g.buffers p pe u ue)) (λ n. g.buffers q qe)

  low_each : (f : List Item → List Item) → ((is : List Item) → Low is → Low (f is)) → (p : ℕ) → p < R.shape.processes
      → (q : ℕ) → q < R.shape.processes → (u : ℕ) → u < R.shape.variables → Low (each_buffer R.shape f d.buffer p q u)
  low_each f h p pe q qe =
      put_each (λ q (b : ℕ → List Item). (u : ℕ) → u < R.shape.variables → Low (b u)) d.buffer p
      (λ v. cond (ltb v R.shape.variables) (f (d.buffer p v)) (d.buffer p v)) q
      (λ u ue. rw (lt-ltb u R.shape.variables ue) (h (d.buffer p u) (g.buffers p pe u ue))) (λ n. g.buffers q qe)

  value_low : (v x : ℕ) → v < R.shape.variables → x < R.shape.values v → x < 4
  value_low v x ve l = omega (arith, I.four v ve)

  buffers_after : (p : ℕ) → p < R.shape.processes → (o : RegisterOperation) → RegisterOperationOf R.shape o
      → (q : ℕ) → q < R.shape.processes → (u : ℕ) → u < R.shape.variables → Low (register_buffer_after R.shape d p o q u)
  buffers_after p pe Nop w = g.buffers
  buffers_after p pe (Read v y) w = g.buffers
  buffers_after p pe (Write v y) w =
      low_put p v (d.buffer p v ++ (value y ∷ [])) pe
      (low_append (d.buffer p v) (value y ∷ []) (g.buffers p pe v w.0) (value_low v y w.0 w.1, tt))
  buffers_after p pe Mfence w = g.buffers
  buffers_after p pe Sfence w = low_each (λ is. is ++ (mark ∷ [])) (λ is l. low_append is (mark ∷ []) l tt) p pe
  buffers_after p pe (Arw v old new) w = g.buffers
  buffers_after p pe (LoadRegister v) w = g.buffers
  buffers_after p pe (StoreRegister v) w =
      low_put p v (d.buffer p v ++ (value (d.register p) ∷ [])) pe
      (low_append (d.buffer p v) (value (d.register p) ∷ []) (g.buffers p pe v w) (g.registers p, tt))
  buffers_after p pe (TestRegister y) w = g.buffers

  memory_after : (o : RegisterOperation) → RegisterOperationOf R.shape o
      → (u : ℕ) → u < R.shape.variables → get_or (register_pso_memory_after d.memory o) u 0 < 4
  memory_after Nop w = g.memory
  memory_after (Read v y) w = g.memory
  memory_after (Write v y) w = g.memory
  memory_after Mfence w = g.memory
  memory_after Sfence w = g.memory
  memory_after (Arw v old new) w = λ u ue. set_low d.memory v new u (value_low v new w.0 w.2) (g.memory u ue)
  memory_after (LoadRegister v) w = g.memory
  memory_after (StoreRegister v) w = g.memory
  memory_after (TestRegister y) w = g.memory

  registers_after_lem : (p : ℕ) → p < R.shape.processes → (o : RegisterOperation) → RegisterOperationOf R.shape o → (q : ℕ) → pso_registers_after d p o q < 4
  registers_after_lem p pe Nop w q = g.registers q
  registers_after_lem p pe (Read v y) w q = g.registers q
  registers_after_lem p pe (Write v y) w q = g.registers q
  registers_after_lem p pe Mfence w q = g.registers q
  registers_after_lem p pe Sfence w q = g.registers q
  registers_after_lem p pe (Arw v old new) w q = g.registers q
  registers_after_lem p pe (LoadRegister v) w q =
      put_each (λ q x. x < 4) d.register p (pso_sees (pso_plain d) p v) q (sees_low p v pe w) (λ n. g.registers q)
  registers_after_lem p pe (StoreRegister v) w q = g.registers q
  registers_after_lem p pe (TestRegister y) w q = g.registers q

  pub step_ranged : (u : PsoStep) → T (register_pso_may R d u) → PsoRanged R (register_pso_after R d u)
  step_ranged (Operate n) t =
      let q = register_transition R n in
      let i = I.transitions n (operate_parts n t).0 in
      record {
        registers = registers_after_lem q.process i.process q.operation i.operation;
        buffers = buffers_after q.process i.process q.operation i.operation;
        memory = memory_after q.operation i.operation;
      }
  step_ranged (UpdateVariable p v) t =
      let a = and_yes (ltb p R.shape.processes && ltb v R.shape.variables) (value_first (d.buffer p v)) t in
      let b = and_yes (ltb p R.shape.processes) (ltb v R.shape.variables) a.0 in
      let pe = ltb→lt p R.shape.processes b.0 in
      let l = g.buffers p pe v (ltb→lt v R.shape.variables b.1) in
      record {
        registers = g.registers;
        buffers = low_put p v (without_first (d.buffer p v)) pe (low_rest (d.buffer p v) l);
        memory = λ u ue. set_low d.memory v (oldest_value (d.buffer p v)) u (low_oldest (d.buffer p v) a.1 l) (g.memory u ue);
      }
  step_ranged (RemoveMark p) t =
      let a = and_yes (ltb p R.shape.processes) (all_below R.shape.variables (λ v. mark_first (d.buffer p v))) t in
      record { registers = g.registers; buffers = low_each without_first low_rest p (ltb→lt p R.shape.processes a.0); memory = g.memory }
