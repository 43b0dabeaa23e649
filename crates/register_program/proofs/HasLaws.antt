-- Which processes have a register, as the code goes through the 05s.
use Prim.Native.Nat.{ℕ, zero, suc, ◌+◌, ◌-◌, ◌*◌, ◌<◌, ◌≤◌}
use mathlib.Core.Path.{◌≡◌, refl, sym, ap, ◌∙◌}
use mathlib.Core.Bool.{Bool, true, false, ◌&&◌, ◌||◌}
use mathlib.Core.List.{List}
use native.Mathlib.Omega.{arith}
use native.Mathlib.Decide.{dec_lt}
use lib.ListN.{length, get_or, get_or-eq_default}
use lib.Dec.{eqb, leb}
use borrow.Author.Tests.{eq-eqb, ne_eqb}
use Rattle.machine_pws.specs.declared.Transition.{Transition}
use Rattle.base.specs.Bytes.{byte}
use Rattle.file_records.specs.declared.program.Program.{Program}
use Rattle.file_records.specs.ProgramPart.{table_from}
use Rattle.file_again.proofs.Tables.{of_four}
use Rattle.register_machine.specs.declared.RegisterTransition.{RegisterTransition}
use Rattle.register_machine.specs.Program.{some_uses, has_register}
use Rattle.register_machine.specs.Written.{becomes, becomes_in}
use Rattle.register_program.specs.Reading.{register_transition_at, register_program_of}
use Rattle.register_program.specs.Parts.{Found, registers_in}
use Rattle.register_program.proofs.Joined.{table_next, table_done}
use Rattle.register_program.proofs.Operations.{uses_is}
use Rattle.register_program.proofs.Found.{found_read}

-- the 05s from k₀ on
abbrev pub transitions_at : List ℕ → ℕ → ℕ → RegisterTransition
transitions_at f k₀ j = register_transition_at f (k₀ + 8 * j)

module _ (f : List ℕ) (k₀ n i p : ℕ) (l : i < n) where
  abbrev k : ℕ
  k = k₀ + 8 * i

  abbrev Test : Bool
  Test = eqb (byte f (k + 1)) p && (leb 6 (byte f (k + 3)) && leb (byte f (k + 3)) 8)

  more : some_uses (table_from (transitions_at f k₀) i (n - i)) p ≡ Test || some_uses (table_from (transitions_at f k₀) (i + 1) (n - (i + 1))) p
  more =
      ap (λ (ts : List RegisterTransition). some_uses ts p) (table_next (transitions_at f k₀) i n l)
      ∙ rw (uses_is (byte f (k + 4)) (byte f (k + 5)) (byte f (k + 6)) (byte f (k + 3)))

  pub test_own : {b : Bool} → byte f (k + 1) ≡ p → leb 6 (byte f (k + 3)) && leb (byte f (k + 3)) 8 ≡ b → Test ≡ b
  test_own e d = rw (eq-eqb (byte f (k + 1)) p e) d

  pub test_other : (byte f (k + 1) ≡ p → ⊥) → Test ≡ false
  test_other h = rw (ne_eqb (byte f (k + 1)) p h)

  pub uses_here : Test ≡ true → some_uses (table_from (transitions_at f k₀) i (n - i)) p ≡ true
  uses_here t = more ∙ rw t

  pub uses_not : Test ≡ false → some_uses (table_from (transitions_at f k₀) i (n - i)) p ≡ some_uses (table_from (transitions_at f k₀) (i + 1) (n - (i + 1))) p
  uses_not t = more ∙ rw t

pub uses_done : (f : List ℕ) (k₀ n i p : ℕ) → n ≤ i → some_uses (table_from (transitions_at f k₀) i (n - i)) p ≡ false
uses_done f k₀ n i p l = ap (λ (ts : List RegisterTransition). some_uses ts p) (table_done (transitions_at f k₀) i n l)

-- ---- every process

none_uses : (g : ℕ → RegisterTransition) (q n i : ℕ) → ((j : ℕ) → i ≤ j → j < i + n → (g j).process < q) → some_uses (table_from g i n) q ≡ false
none_uses g q zero i h = refl
none_uses g q (suc n) i h =
    let a = h i (omega arith) (omega arith) in
    rw (ne_eqb (g i).process q (λ e. omega (arith, a))) (none_uses g q n (suc i) (λ j l m. h j (omega arith) (omega arith)))

-- a process that the shape does not have has none
pub no_register : {f : List ℕ} {p : Program} → Found f p → (q : ℕ) → p.shape.processes ≤ q → has_register (register_program_of f p) q ≡ false
no_register {f} {p} F q l =
    let R = found_read F in
    none_uses (transitions_at f p.transitions.at) q p.transitions.count 0 (λ j a b. omega (arith, (R.parts j (omega arith)).process))

module _ {f : List ℕ} {p : Program} (F : Found f p) {has : List Bool} (e : has ≡ registers_in f p) where
  pub has_all : (q : ℕ) → get_or has q false ≡ has_register (register_program_of f p) q
  has_all q = elim (dec_lt q 4) [
    | yes l ↦
        ap (λ (bs : List Bool). get_or bs q false) e
        ∙ of_four (λ (q : ℕ). get_or (registers_in f p) q false ≡ has_register (register_program_of f p) q) refl refl refl refl q l
    | no l ↦
        let past : length (registers_in f p) ≤ q = omega arith in
        let R = found_read F in
        ap (λ (bs : List Bool). get_or bs q false) e ∙ get_or-eq_default (registers_in f p) false past
        ∙ sym (no_register F q (omega (arith, R.shape.processes.1)))
  ]

  pub has_function : (λ (q : ℕ). get_or has q false) ≡ has_register (register_program_of f p)
  has_function = λ i q. has_all q i

-- those that one becomes, by the table of registers
abbrev pub expand : List Bool → RegisterTransition → List Transition
expand has t = becomes (get_or has t.process false) t

pub expand_is : {f : List ℕ} {p : Program} → Found f p → {has : List Bool} → has ≡ registers_in f p → expand has ≡ becomes_in (register_program_of f p)
expand_is F e = ap {A = ℕ → Bool} (λ h (t : RegisterTransition). becomes (h t.process) t) (has_function F e)
