-- Which written transition stands at which number.
use Prim.Native.Nat.{ℕ, zero, suc, ◌+◌, ◌*◌, ◌<◌}
use mathlib.Core.Path.{◌≡◌, refl, sym, ap, subst, ◌∙◌}
use mathlib.Core.Bool.{Bool, true, false, not, ◌&&◌}
use mathlib.Core.List.{List, [], ◌∷◌, map}
use mathlib.Core.Logic.{◌⊎◌, ⊎_elim}
use native.Mathlib.Omega.{arith}
use lib.ListN.{length, get_or, take}
use lib.Dec.{T, eqb, eqb_refl}
use mir.Facts.{yes_and}
use Rattle.machine_pws.specs.declared.Transition.{Transition}
use Rattle.machine_pws.specs.Program.{Shape, no_transition, transition}
use Rattle.machine_pws.proofs.Facts.{or_left, or_right, T_or_not}
use Rattle.register_machine.specs.declared.RegisterOperation.{RegisterOperation}
use Rattle.register_machine.specs.declared.RegisterOperation.TheVariants.{
  Nop,
  Read,
  Write,
  Mfence,
  Sfence,
  Arw,
  LoadRegister,
  StoreRegister,
  TestRegister,
}
use Rattle.register_machine.specs.declared.RegisterTransition.{RegisterTransition}
use Rattle.register_machine.specs.Program.{
  RegisterProgram,
  RegisterWellFormed,
  RegisterOperationOf,
  no_register_transition,
  register_transition,
  uses_register,
  some_uses,
  has_register,
}
use Rattle.register_machine.specs.Written.{
  joined,
  four_values,
  plain_transition,
  becomes,
  becomes_in,
  written,
  first_written,
  place,
  number_written,
}
use Rattle.register_machine.proofs.Lists.{joined_at, joined_below, found}

-- ---- who has a register

uses_some : (ts : List RegisterTransition) (n : ℕ) → n < length ts → T (uses_register (get_or ts n no_register_transition).operation)
    → T (some_uses ts (get_or ts n no_register_transition).process)
uses_some [] n l u = absurd (omega arith)
uses_some (t ∷ ts) zero l u =
    or_left (eqb t.process t.process && uses_register t.operation) (some_uses ts t.process)
    (yes_and (eqb t.process t.process) (uses_register t.operation) (eqb_refl t.process) u)
uses_some (t ∷ ts) (suc n) l u =
    let p = (get_or ts n no_register_transition).process in
    or_right (eqb t.process p && uses_register t.operation) (some_uses ts p) (uses_some ts n (omega arith) u)

-- a transition of a process without a register uses none
pub uses_none : (R : RegisterProgram) (n : ℕ) → n < length R.transitions → has_register R (register_transition R n).process ≡ false
    → T (not (uses_register (register_transition R n).operation))
uses_none R n l e = ⊎_elim (λ u. absurd (subst T e (uses_some R.transitions n l u))) (λ u. u) (T_or_not (uses_register (register_transition R n).operation))

-- ---- one of those that a transition becomes

abbrev CanDo : RegisterOperation → ℕ → ℕ → Type 0
CanDo Nop r x = Unit {0}
CanDo (Read v y) r x = Unit {0}
CanDo (Write v y) r x = Unit {0}
CanDo Mfence r x = Unit {0}
CanDo Sfence r x = Unit {0}
CanDo (Arw v old new) r x = Unit {0}
CanDo (LoadRegister v) r x = x < 4
CanDo (StoreRegister v) r x = Unit {0}
CanDo (TestRegister y) r x = r ≡ y

-- it can start from r and read x
abbrev pub Can : Bool → RegisterOperation → ℕ → ℕ → Type 0
Can true o r x = (r < 4) × CanDo o r x
Can false o r x = T (not (uses_register o))

four_at : (g : ℕ → Transition) (r : ℕ) → r < 4 → get_or (g 0 ∷ g 1 ∷ g 2 ∷ g 3 ∷ []) r no_transition ≡ g r
four_at g zero l = refl
four_at g (suc zero) l = refl
four_at g (suc (suc zero)) l = refl
four_at g (suc (suc (suc zero))) l = refl
four_at g (suc (suc (suc (suc r)))) l = absurd (omega arith)

pub value_at : (r : ℕ) → r < 4 → get_or four_values r 0 ≡ r
value_at zero l = refl
value_at (suc zero) l = refl
value_at (suc (suc zero)) l = refl
value_at (suc (suc (suc zero))) l = refl
value_at (suc (suc (suc (suc r)))) l = absurd (omega arith)

sixteen_before : (g : ℕ → ℕ → Transition) (r : ℕ) → r < 4 → length (joined (λ r. map (g r) four_values) (take r four_values)) ≡ 4 * r
sixteen_before g zero l = refl
sixteen_before g (suc zero) l = refl
sixteen_before g (suc (suc zero)) l = refl
sixteen_before g (suc (suc (suc zero))) l = refl
sixteen_before g (suc (suc (suc (suc r)))) l = absurd (omega arith)

sixteen_at : (g : ℕ → ℕ → Transition) (r x : ℕ) → r < 4 → x < 4 → get_or (joined (λ r. map (g r) four_values) four_values) (4 * r + x) no_transition ≡ g r x
sixteen_at g r x l h =
    ap (λ n. get_or (joined (λ r. map (g r) four_values) four_values) (n + x) no_transition) (sym (sixteen_before g r l))
    ∙ joined_at (λ r. map (g r) four_values) 0 no_transition four_values r x l h
    ∙ ap (λ n. get_or (map (g n) four_values) x no_transition) (value_at r l) ∙ four_at (g r) x h

-- the one that starts from r and reads x
pub record At (b : Bool) (t : RegisterTransition) (r x : ℕ) : Type 0 where
  pub within : place b t.operation r x < length (becomes b t)
  pub same : get_or (becomes b t) (place b t.operation r x) no_transition ≡ plain_transition b t r x

abbrev transition_of : ℕ → ℕ → RegisterOperation → ℕ → RegisterTransition
transition_of p q o s = record { process = p; from = q; operation = o; to = s }

module _ (p q s r x : ℕ) where
  at : (b : Bool) (o : RegisterOperation) → Can b o r x → At b (transition_of p q o s) r x
  at true Nop can = record { within = can.0; same = four_at (λ r. plain_transition true (transition_of p q Nop s) r 0) r can.0 }
  at true (Read v y) can = record { within = can.0; same = four_at (λ r. plain_transition true (transition_of p q (Read v y) s) r 0) r can.0 }
  at true (Write v y) can = record { within = can.0; same = four_at (λ r. plain_transition true (transition_of p q (Write v y) s) r 0) r can.0 }
  at true Mfence can = record { within = can.0; same = four_at (λ r. plain_transition true (transition_of p q Mfence s) r 0) r can.0 }
  at true Sfence can = record { within = can.0; same = four_at (λ r. plain_transition true (transition_of p q Sfence s) r 0) r can.0 }
  at true (Arw v old new) can =
      record { within = can.0; same = four_at (λ r. plain_transition true (transition_of p q (Arw v old new) s) r 0) r can.0 }
  at true (LoadRegister v) can =
      record { within = omega (arith, can.0, can.1); same = sixteen_at (plain_transition true (transition_of p q (LoadRegister v) s)) r x can.0 can.1 }
  at true (StoreRegister v) can =
      record { within = can.0; same = four_at (λ r. plain_transition true (transition_of p q (StoreRegister v) s) r 0) r can.0 }
  at true (TestRegister y) can =
      record { within = omega arith; same = ap (λ r. plain_transition true (transition_of p q (TestRegister y) s) r 0) (sym can.1) }
  at false Nop can = record { within = omega arith; same = refl }
  at false (Read v y) can = record { within = omega arith; same = refl }
  at false (Write v y) can = record { within = omega arith; same = refl }
  at false Mfence can = record { within = omega arith; same = refl }
  at false Sfence can = record { within = omega arith; same = refl }
  at false (Arw v old new) can = record { within = omega arith; same = refl }
  at false (LoadRegister v) can = absurd can
  at false (StoreRegister v) can = absurd can
  at false (TestRegister y) can = absurd can

-- each of them is one of those
pub record From (b : Bool) (t : RegisterTransition) (k : ℕ) : Type 0 where
  pub register : ℕ
  pub value : ℕ
  pub can : Can b t.operation register value
  pub number : k ≡ place b t.operation register value

module _ (p q s k : ℕ) where
  from : (S : Shape) (b : Bool) (o : RegisterOperation) → RegisterOperationOf S o → (b ≡ false → T (not (uses_register o)))
      → k < length (becomes b (transition_of p q o s)) → From b (transition_of p q o s) k
  from S true Nop w u l = record { register = k; value = 0; can = (l, tt); number = refl }
  from S true (Read v y) w u l = record { register = k; value = 0; can = (l, tt); number = refl }
  from S true (Write v y) w u l = record { register = k; value = 0; can = (l, tt); number = refl }
  from S true Mfence w u l = record { register = k; value = 0; can = (l, tt); number = refl }
  from S true Sfence w u l = record { register = k; value = 0; can = (l, tt); number = refl }
  from S true (Arw v old new) w u l = record { register = k; value = 0; can = (l, tt); number = refl }
  from S true (LoadRegister v) w u l =
      let g = plain_transition true (transition_of p q (LoadRegister v) s) in
      let f = found (λ r. map (g r) four_values) 0 no_transition four_values k l in
      record {
        register = f.number;
        value = f.place;
        can = (f.exists, f.within);
        number = f.sum ∙ ap (λ n. n + f.place) (sixteen_before g f.number f.exists);
      }
  from S true (StoreRegister v) w u l = record { register = k; value = 0; can = (l, tt); number = refl }
  from S true (TestRegister y) w u l = record { register = y; value = 0; can = (w, refl); number = omega arith }
  from S false Nop w u l = record { register = 0; value = 0; can = u refl; number = omega arith }
  from S false (Read v y) w u l = record { register = 0; value = 0; can = u refl; number = omega arith }
  from S false (Write v y) w u l = record { register = 0; value = 0; can = u refl; number = omega arith }
  from S false Mfence w u l = record { register = 0; value = 0; can = u refl; number = omega arith }
  from S false Sfence w u l = record { register = 0; value = 0; can = u refl; number = omega arith }
  from S false (Arw v old new) w u l = record { register = 0; value = 0; can = u refl; number = omega arith }
  from S false (LoadRegister v) w u l = absurd (u refl)
  from S false (StoreRegister v) w u l = absurd (u refl)
  from S false (TestRegister y) w u l = absurd (u refl)

-- ---- the written transitions

module _ (R : RegisterProgram) where
  abbrev pub register_of : ℕ → Bool
  register_of n = has_register R (register_transition R n).process

  pub number_below : (n r x : ℕ) → n < length R.transitions → Can (register_of n) (register_transition R n).operation r x
      → number_written R n r x < length (written R).transitions
  number_below n r x l can =
      let t = register_transition R n in
      let a = at t.process t.from t.to r x (register_of n) t.operation can in
      joined_below (becomes_in R) no_register_transition no_transition R.transitions n (place (register_of n) t.operation r x) l a.within

  pub number_is : (n r x : ℕ) → n < length R.transitions → Can (register_of n) (register_transition R n).operation r x
      → transition (written R) (number_written R n r x) ≡ plain_transition (register_of n) (register_transition R n) r x
  number_is n r x l can =
      let t = register_transition R n in
      let a = at t.process t.from t.to r x (register_of n) t.operation can in
      joined_at (becomes_in R) no_register_transition no_transition R.transitions n (place (register_of n) t.operation r x) l a.within ∙ a.same

  -- each written transition is one of those
  pub record Written (m : ℕ) : Type 0 where
    pub number : ℕ
    pub exists : number < length R.transitions
    pub register : ℕ
    pub value : ℕ
    pub can : Can (register_of number) (register_transition R number).operation register value
    pub same : m ≡ number_written R number register value

  pub number_of : RegisterWellFormed R → (m : ℕ) → m < length (written R).transitions → Written m
  number_of I m l =
      let f = found (becomes_in R) no_register_transition no_transition R.transitions m l in
      let n = f.number in
      let t = register_transition R n in
      let w = from t.process t.from t.to f.place R.shape (register_of n) t.operation (I.transitions n f.exists).operation
      (uses_none R n f.exists) f.within in
      record {
        number = n;
        exists = f.exists;
        register = w.register;
        value = w.value;
        can = w.can;
        same = f.sum ∙ ap (λ k. first_written R n + k) w.number;
      }
