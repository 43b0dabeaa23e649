-- One step: the machine with registers may take it exactly when the machine of the written program may take the one that is written for it, and
-- then their configurations are a pair again.
use Prim.Native.Nat.{ℕ, ◌+◌, ◌<◌}
use mathlib.Core.Path.{◌≡◌, refl, sym, ap, subst, ◌∙◌, fun_ext}
use mathlib.Core.Logic.{◌≢◌}
use mathlib.Core.Bool.{Bool, true, false, not}
use mathlib.Core.List.{List, [], ◌∷◌}
use native.Mathlib.Omega.{arith}
use native.Mathlib.Decide.{ℕ_discrete}
use lib.ListN.{length, get_or}
use lib.Dec.{T, eqb, ltb, eqb→eq, ltb→lt, lt→ltb}
use mir.Facts.{and_yes, yes_and}
use Rattle.machine_pws.specs.declared.Step.{Step}
use Rattle.machine_pws.specs.declared.Step.TheVariants.{Take, Serialise, Update}
use Rattle.machine_pws.specs.Program.{Shape, Program, TransitionOf, OperationOf, transition}
use Rattle.machine_pws.specs.Machine.{
  Memory,
  Configuration,
  put,
  message,
  last_write,
  newest_waiting,
  newest_or,
  sees,
  queue_after,
  memory_after,
  may_operate,
  may_take,
  after_take,
  may,
  after,
}
use Rattle.machine_pws.specs.Configurations.{All, Fits, ValueOf, ConfigurationOf}
use Rattle.machine_pws.proofs.Facts.{T_eq, put_same, put_other, put_each, proper, is_last}
use Rattle.machine_pws.proofs.Steps.{take_yes, yes_take, step_configuration}
use Rattle.register_machine.specs.declared.RegisterOperation.{RegisterOperation}
use Rattle.register_machine.specs.declared.RegisterOperation.TheVariants.{
  Nop,
  Read,
  Write,
  Mfence,
  Sfence,
  Arw,
  LoadRegister,
  StoreRegister,
  TestRegister,
}
use Rattle.register_machine.specs.Program.{
  RegisterProgram,
  RegisterWellFormed,
  RegisterOperationOf,
  register_transition,
  has_register,
  uses_register,
}
use Rattle.register_machine.specs.Machine.{
  RegisterConfiguration,
  plain,
  register_may_operate,
  registers_after,
  register_queue_after,
  register_memory_after,
  register_may_take,
  register_may,
  register_after,
}
use Rattle.register_machine.specs.Written.{pair_of, states_of, plain_operation, held, written, place, first_written, number_written}
use Rattle.register_machine.specs.Correspondence.{paired, seen_by, step_written, WrittenWellFormed, WrittenInRange}
use Rattle.register_machine.proofs.Numbers.{uses_none, Can, register_of, number_below, number_is, number_of}

-- ---- what is seen is a value

pub newest_is : (F : ℕ → Type 0) (xs : List ℕ) (x : ℕ) → All F xs → F x → F (newest_or (newest_waiting xs) x)
newest_is F [] x a h = h
newest_is F (y ∷ []) x a h = a.0
newest_is F (y ∷ z ∷ zs) x a h = newest_is F (z ∷ zs) x a.1 h

pub sees_value : (S : Shape) (c : Configuration) → Fits (ValueOf S) S c → (p v : ℕ) → p < S.processes → v < S.variables → sees c p v < S.values v
sees_value S c o p v pe ve =
    let m = c.memory in
    let last = is_last S m (proper o.memory) p v pe in
    newest_is (λ x. x < S.values v) (c.queue p v) (get_or (message m.channel (last_write m p v)).snapshot v 0)
    (o.queues.values p v pe ve)
    ((o.memory.messages (last_write m p v) (omega (arith, last.low, o.memory.low p pe)) last.high).values v ve)

-- ---- pairs

-- equal pairs are equal states, and equal register values where there is a register
pub pair_eq : (b : Bool) (q r s x : ℕ) → (b ≡ true → r < 4) → (b ≡ true → x < 4) → pair_of b q r ≡ pair_of b s x → (q ≡ s) × (b ≡ true → r ≡ x)
pair_eq true q r s x l h e =
    let a = l refl in
    let c = h refl in
    (omega arith, λ d. omega arith)
pair_eq false q r s x l h e = (e, λ d. absurd (subst T (sym d) tt))

pub pair_below : (b : Bool) (q r n : ℕ) → q < n → (b ≡ true → r < 4) → pair_of b q r < states_of b n
pair_below true q r n l h = let a = h refl in omega arith
pair_below false q r n l h = l

-- one state and one register changed, or the pair of them
pub pair_put : (R : RegisterProgram) (state register after : ℕ → ℕ) (p s r : ℕ) → after p ≡ r → ((q : ℕ) → q ≢ p → after q ≡ register q)
    → put (λ q. pair_of (has_register R q) (state q) (register q)) p (pair_of (has_register R p) s r) ≡ (λ q. pair_of (has_register R q) (put state p s q) (after q))
pair_put R state register after p s r here other =
    let pairs : ℕ → ℕ = λ q. pair_of (has_register R q) (state q) (register q) in
    fun_ext (λ q. elim (ℕ_discrete q p) [
      | yes e ↦
          subst (λ q. put pairs p (pair_of (has_register R p) s r) q ≡ pair_of (has_register R q) (put state p s q) (after q)) (sym e)
          (rw (put_same pairs p (pair_of (has_register R p) s r), put_same state p s, here))
      | no e ↦ rw (put_other pairs p (pair_of (has_register R p) s r) q e, put_other state p s q e, other q e)
    ])

pub can_low : (b : Bool) (o : RegisterOperation) (r x : ℕ) → Can b o r x → b ≡ true → r < 4
can_low true o r x can e = can.0
can_low false o r x can e = absurd (subst T (sym e) tt)

-- ---- the written program names what exists

module _ (S : Shape) (four : (v : ℕ) → v < S.variables → S.values v ≡ 4) where
  operation_of : (b : Bool) (o : RegisterOperation) (r x : ℕ) → RegisterOperationOf S o → Can b o r x → OperationOf S (plain_operation o r x)
  operation_of b Nop r x w can = w
  operation_of b (Read v y) r x w can = w
  operation_of b (Write v y) r x w can = w
  operation_of b Mfence r x w can = w
  operation_of b Sfence r x w can = w
  operation_of b (Arw v old new) r x w can = w
  operation_of true (LoadRegister v) r x w can = (w, omega (arith, four v w, can.1))
  operation_of false (LoadRegister v) r x w can = absurd can
  operation_of true (StoreRegister v) r x w can = (w, omega (arith, four v w, can.0))
  operation_of false (StoreRegister v) r x w can = absurd can
  operation_of b (TestRegister y) r x w can = tt

held_low : (b : Bool) (o : RegisterOperation) (r x : ℕ) → Can b o r x → b ≡ true → held o r x < 4
held_low b Nop r x can e = can_low b Nop r x can e
held_low b (Read v y) r x can e = can_low b (Read v y) r x can e
held_low b (Write v y) r x can e = can_low b (Write v y) r x can e
held_low b Mfence r x can e = can_low b Mfence r x can e
held_low b Sfence r x can e = can_low b Sfence r x can e
held_low b (Arw v old new) r x can e = can_low b (Arw v old new) r x can e
held_low true (LoadRegister v) r x can e = can.1
held_low false (LoadRegister v) r x can e = absurd can
held_low b (StoreRegister v) r x can e = can_low b (StoreRegister v) r x can e
held_low b (TestRegister y) r x can e = can_low b (TestRegister y) r x can e

pub written_well_formed : WrittenWellFormed
written_well_formed R I =
    record {
      shape = I.shape;
      initial = λ p l. pair_below (has_register R p) (R.initial p) 0 (R.states p) (I.initial p l) (λ e. omega arith);
      transitions = λ m l.
          let w = number_of R I m l in
          let n = w.number in
          let t = register_transition R n in
          let o = I.transitions n w.exists in
          let b = register_of R n in
          let r = w.register in
          let x = w.value in
          let e = ap (transition (written R)) w.same ∙ number_is R n r x w.exists w.can in
          subst (TransitionOf (written R)) (sym e)
          (record {
            process = o.process;
            from = pair_below b t.from r (R.states t.process) o.from (can_low b t.operation r x w.can);
            to = pair_below b t.to (held t.operation r x) (R.states t.process) o.to (held_low b t.operation r x w.can);
            operation = operation_of R.shape I.four b t.operation r x o.operation w.can;
          });
    }

pub written_in_range : WrittenInRange
written_in_range R I s = record { well_formed = written_well_formed R I; shape = s }

-- ---- one operation

module _ (R : RegisterProgram) (c : RegisterConfiguration) (p : ℕ) where
  abbrev S : Shape
  S = R.shape

  abbrev seen : RegisterOperation → ℕ
  seen o = seen_by c p o

  may_there : (o : RegisterOperation) → T (register_may_operate S c p o) → T (may_operate S (paired R c) p (plain_operation o (c.register p) (seen o)))
  may_there Nop t = t
  may_there (Read v y) t = t
  may_there (Write v y) t = t
  may_there Mfence t = t
  may_there Sfence t = t
  may_there (Arw v old new) t = t
  may_there (LoadRegister v) t = T_eq (sees (plain c) p v) (sees (plain c) p v) refl
  may_there (StoreRegister v) t = t
  may_there (TestRegister y) t = tt

  may_back : (b : Bool) (o : RegisterOperation) (r x : ℕ) → Can b o r x → (b ≡ true → c.register p ≡ r) → T (may_operate S (paired R c) p (plain_operation o r x))
      → T (register_may_operate S c p o)
  may_back b Nop r x can e t = t
  may_back b (Read v y) r x can e t = t
  may_back b (Write v y) r x can e t = t
  may_back b Mfence r x can e t = t
  may_back b Sfence r x can e t = t
  may_back b (Arw v old new) r x can e t = t
  may_back b (LoadRegister v) r x can e t = tt
  may_back b (StoreRegister v) r x can e t = tt
  may_back true (TestRegister y) r x can e t = T_eq (c.register p) y (e refl ∙ can.1)
  may_back false (TestRegister y) r x can e t = absurd can

  -- the one that is taken stands where the register and what is seen say
  place_back : (b : Bool) (o : RegisterOperation) (r x : ℕ) → (b ≡ true → c.register p ≡ r) → T (may_operate S (paired R c) p (plain_operation o r x))
      → place b o r x ≡ place b o (c.register p) (seen o)
  place_back false o r x e t = refl
  place_back true Nop r x e t = sym (e refl)
  place_back true (Read v y) r x e t = sym (e refl)
  place_back true (Write v y) r x e t = sym (e refl)
  place_back true Mfence r x e t = sym (e refl)
  place_back true Sfence r x e t = sym (e refl)
  place_back true (Arw v old new) r x e t = sym (e refl)
  place_back true (LoadRegister v) r x e t = let a = e refl in let b = eqb→eq (sees (plain c) p v) x t in omega arith
  place_back true (StoreRegister v) r x e t = sym (e refl)
  place_back true (TestRegister y) r x e t = refl

  queue_same : (o : RegisterOperation) → queue_after (paired R c) p (plain_operation o (c.register p) (seen o)) ≡ register_queue_after c p o
  queue_same Nop = refl
  queue_same (Read v y) = refl
  queue_same (Write v y) = refl
  queue_same Mfence = refl
  queue_same Sfence = refl
  queue_same (Arw v old new) = refl
  queue_same (LoadRegister v) = refl
  queue_same (StoreRegister v) = refl
  queue_same (TestRegister y) = refl

  memory_same : (o : RegisterOperation) → memory_after c.memory p (plain_operation o (c.register p) (seen o)) ≡ register_memory_after c.memory p o
  memory_same Nop = refl
  memory_same (Read v y) = refl
  memory_same (Write v y) = refl
  memory_same Mfence = refl
  memory_same Sfence = refl
  memory_same (Arw v old new) = refl
  memory_same (LoadRegister v) = refl
  memory_same (StoreRegister v) = refl
  memory_same (TestRegister y) = refl

  held_is : (o : RegisterOperation) → registers_after c p o p ≡ held o (c.register p) (seen o)
  held_is Nop = refl
  held_is (Read v y) = refl
  held_is (Write v y) = refl
  held_is Mfence = refl
  held_is Sfence = refl
  held_is (Arw v old new) = refl
  held_is (LoadRegister v) = put_same c.register p (sees (plain c) p v)
  held_is (StoreRegister v) = refl
  held_is (TestRegister y) = refl

  kept : (o : RegisterOperation) (q : ℕ) → q ≢ p → registers_after c p o q ≡ c.register q
  kept Nop q n = refl
  kept (Read v y) q n = refl
  kept (Write v y) q n = refl
  kept Mfence q n = refl
  kept Sfence q n = refl
  kept (Arw v old new) q n = refl
  kept (LoadRegister v) q n = put_other c.register p (sees (plain c) p v) q n
  kept (StoreRegister v) q n = refl
  kept (TestRegister y) q n = refl

pub configuration_eq : {s s' : ℕ → ℕ} {q q' : ℕ → ℕ → List ℕ} {m m' : Memory} → s ≡ s' → q ≡ q' → m ≡ m'
    → ◌≡◌ {A = Configuration} (record { state = s; queue = q; memory = m }) (record { state = s'; queue = q'; memory = m' })
configuration_eq e f g = λ i. record { state = e i; queue = f i; memory = g i }

-- ---- one step

-- what holds of the configurations on the way of a run: their pairs are configurations of the written program, and registers hold values
pub record Ranged (R : RegisterProgram) (c : RegisterConfiguration) : Type 0 where
  pub configuration : ConfigurationOf (written R) (paired R c)
  pub registers : (p : ℕ) → c.register p < 4

module _ (R : RegisterProgram) (I : RegisterWellFormed R) (c : RegisterConfiguration) (g : Ranged R c) where
  abbrev W : Program
  W = written R

  abbrev d : Configuration
  d = paired R c

  sees_low : (p v : ℕ) → p < R.shape.processes → v < R.shape.variables → sees (plain c) p v < 4
  sees_low p v pe ve = omega (arith, sees_value R.shape d g.configuration.fits p v pe ve, I.four v ve)

  can_here : (p : ℕ) → p < R.shape.processes → (b : Bool) (o : RegisterOperation) → RegisterOperationOf R.shape o
      → (b ≡ false → T (not (uses_register o))) → T (register_may_operate R.shape c p o) → Can b o (c.register p) (seen_by c p o)
  can_here p pe false o w u t = u refl
  can_here p pe true Nop w u t = (g.registers p, tt)
  can_here p pe true (Read v y) w u t = (g.registers p, tt)
  can_here p pe true (Write v y) w u t = (g.registers p, tt)
  can_here p pe true Mfence w u t = (g.registers p, tt)
  can_here p pe true Sfence w u t = (g.registers p, tt)
  can_here p pe true (Arw v old new) w u t = (g.registers p, tt)
  can_here p pe true (LoadRegister v) w u t = (g.registers p, sees_low p v pe w)
  can_here p pe true (StoreRegister v) w u t = (g.registers p, tt)
  can_here p pe true (TestRegister y) w u t = (g.registers p, eqb→eq (c.register p) y t)

  take_parts : (n : ℕ) → T (register_may R c (Take n))
      → (n < length R.transitions) × (c.state (register_transition R n).process ≡ (register_transition R n).from)
      × T (register_may_operate R.shape c (register_transition R n).process (register_transition R n).operation)
  take_parts n t =
      let q = register_transition R n in
      let a = and_yes (ltb n (length R.transitions)) (register_may_take R.shape c q) t in
      let b = and_yes (eqb (c.state q.process) q.from) (register_may_operate R.shape c q.process q.operation) a.1 in
      (ltb→lt n (length R.transitions) a.0, eqb→eq (c.state q.process) q.from b.0, b.1)

  pub step_there : (s : Step) → T (register_may R c s) → T (may W d (step_written R c s)) × (after W d (step_written R c s) ≡ paired R (register_after R c s))
  step_there (Take n) t =
      let q = register_transition R n in
      let p = q.process in
      let o = q.operation in
      let a = take_parts n t in
      let i = I.transitions n a.0 in
      let r = c.register p in
      let x = seen_by c p o in
      let can = can_here p i.process (register_of R n) o i.operation (uses_none R n a.0) a.2 in
      let m = number_written R n r x in
      let e = number_is R n r x a.0 can in (
        yes_take W d m (number_below R n r x a.0 can)
            (subst (λ w. T (may_take R.shape d w)) (sym e)
            (yes_and (eqb (d.state p) (pair_of (register_of R n) q.from r)) (may_operate R.shape d p (plain_operation o r x))
            (T_eq (d.state p) (pair_of (register_of R n) q.from r) (ap (λ k. pair_of (register_of R n) k r) a.1))
            (may_there R c p o a.2))),
        ap (after_take d) e
            ∙ configuration_eq (pair_put R c.state c.register (registers_after c p o) p q.to (held o r x) (held_is R c p o) (kept R c p o))
            (queue_same R c p o) (memory_same R c p o),
      )
  step_there (Serialise p v) t = (t, refl)
  step_there (Update p) t = (t, refl)

  pub step_back : (u : Step) → T (may W d u) → (s : Step) × (u ≡ step_written R c s) × T (register_may R c s)
  step_back (Take m) t =
      let a = take_yes W d m t in
      let w = number_of R I m a.0 in
      let n = w.number in
      let q = register_transition R n in
      let p = q.process in
      let o = q.operation in
      let b = register_of R n in
      let r = w.register in
      let x = w.value in
      let e = ap (transition W) w.same ∙ number_is R n r x w.exists w.can in
      let y = and_yes (eqb (d.state p) (pair_of b q.from r)) (may_operate R.shape d p (plain_operation o r x))
      (subst (λ w. T (may_take R.shape d w)) e a.1) in
      let z = pair_eq b (c.state p) (c.register p) q.from r (λ e. g.registers p) (can_low b o r x w.can)
      (eqb→eq (d.state p) (pair_of b q.from r) y.0) in (
        Take n,
        ap Take (w.same ∙ ap (λ k. first_written R n + k) (place_back R c p b o r x z.1 y.1)),
        yes_and (ltb n (length R.transitions)) (register_may_take R.shape c q) (lt→ltb n (length R.transitions) w.exists)
            (yes_and (eqb (c.state p) q.from) (register_may_operate R.shape c p o) (T_eq (c.state p) q.from z.0)
            (may_back R c p b o r x w.can z.1 y.1)),
      )
  step_back (Serialise p v) t = (Serialise p v, refl, t)
  step_back (Update p) t = (Update p, refl, t)

  low_after : (p : ℕ) → p < R.shape.processes → (o : RegisterOperation) → RegisterOperationOf R.shape o → (q : ℕ) → registers_after c p o q < 4
  low_after p pe Nop w q = g.registers q
  low_after p pe (Read v y) w q = g.registers q
  low_after p pe (Write v y) w q = g.registers q
  low_after p pe Mfence w q = g.registers q
  low_after p pe Sfence w q = g.registers q
  low_after p pe (Arw v old new) w q = g.registers q
  low_after p pe (LoadRegister v) w q = put_each (λ q x. x < 4) c.register p (sees (plain c) p v) q (sees_low p v pe w) (λ n. g.registers q)
  low_after p pe (StoreRegister v) w q = g.registers q
  low_after p pe (TestRegister y) w q = g.registers q

  registers_after_lem : (s : Step) → T (register_may R c s) → (p : ℕ) → (register_after R c s).register p < 4
  registers_after_lem (Take n) t p =
      let i = I.transitions n (take_parts n t).0 in
      low_after (register_transition R n).process i.process (register_transition R n).operation i.operation p
  registers_after_lem (Serialise q v) t p = g.registers p
  registers_after_lem (Update q) t p = g.registers p

  pub step_ranged : (s : Step) → T (register_may R c s) → Ranged R (register_after R c s)
  step_ranged s t =
      let r = step_there s t in
      record {
        configuration = subst (ConfigurationOf W) r.1 (step_configuration W (written_well_formed R I) d g.configuration (step_written R c s) r.0);
        registers = registers_after_lem s t;
      }
