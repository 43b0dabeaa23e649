-- What a record that is fine names.
use Rattle.std.specs.Prelude.{Ok}
use Prim.Native.Nat.{ℕ, ◌+◌, ◌<◌, ◌≤◌}
use mathlib.Core.Path.{◌≡◌, refl, sym, subst}
use mathlib.Core.Logic.{◌⊎◌, inl, inr}
use mathlib.Core.Bool.{Bool, true, false, ◌||◌, not}
use mathlib.Core.List.{List, [], ◌∷◌}
use native.Mathlib.Omega.{arith}
use native.Mathlib.Decide.{ℕ_discrete, dec_lt}
use lib.ListN.{get_or, get_or-eq_default}
use lib.Dec.{eqb, leb, ltb}
use borrow.Author.Tests.{ltb-true, leb-true, eqb-true, eqb-false, not-true, not-false, lt-ltb, le-ltb, ne_eqb}
use Rattle.machine_pws.specs.declared.Transition.{Transition}
use Rattle.machine_pws.specs.Program as pws
use Rattle.machine_pws.specs.Configurations.{MessageIn, StatesOf, StartingMemory}
use Rattle.machine_pws.specs.Entries.{ValueOrFF}
use Rattle.file_records.specs.declared.program.Format.{Format}
use Rattle.file_records.specs.declared.program.Format.TheVariants.{Plain}
use Rattle.file_records.specs.declared.program.Shape.{Shape}
use Rattle.base.specs.Bytes.{byte}
use Rattle.file_records.specs.Records.{in_range, value_exists, names_of, operation_names, operation_of, transition_at, transition_names, state_name, state_names, state_at, exists, pointer_name, pointer_names, pointer_at, value_name, value_names, message_names, message_at, waiting_names, value_count, checked, start_name, start_names, start_number, memory_at}
use Rattle.file_records.specs.ProgramPart.{shape_of}
use Rattle.file_records.proofs.RecordLaws.{good}
use Rattle.file_records.proofs.ProgramLaws.{and_true}
use Rattle.file_again.proofs.Tables.{of_four}

pub no_true : ◌≡◌ {A = Bool} false true → ⊥
no_true e = let z : ◌≡◌ {A = ℕ} 0 1 = cc in omega arith

pub range_true : (x most : ℕ) → in_range x most ≡ true → (1 ≤ x) × (x ≤ most)
unfolding in_range
range_true x most e =
    let r = and_true (not (eqb x 0)) (leb x most) e in
    let n = eqb-false x 0 (not-true (eqb x 0) r.0) in
    (elim (ℕ_discrete x 0) [ yes z ↦ absurd (n z) | no z ↦ omega arith ], leb-true x most r.1)

pub or_cases : (a b : Bool) → (a || b) ≡ true → (a ≡ true) ⊎ (b ≡ true)
or_cases true b e = inl refl
or_cases false b e = inr e

pub both_exist : (s : Shape) (p v : ℕ) → exists s p v ≡ true → (p < s.processes) × (v < s.variables)
both_exist s p v e =
    let r = and_true (ltb p s.processes) (ltb v s.variables) e in
    (ltb-true p s.processes r.0, ltb-true v s.variables r.1)

-- ---- transitions

module _ (s : Shape) (v x y : ℕ) where
  pub value_exists_lem : (z : ℕ) → value_exists s v z ≡ true → (v < s.variables) × (z < value_count s v)
  unfolding value_exists
  value_exists_lem z e = let r = and_true (ltb v s.variables) (ltb z (value_count s v)) e in (ltb-true v s.variables r.0, ltb-true z (value_count s v) r.1)

  abbrev Named : ℕ → Type 0
  Named n = operation_names Plain s n v x y ≡ true → pws.OperationOf (shape_of s) (operation_of n v x y)

  named_nop : Named 0
  unfolding operation_of
  named_nop e = tt

  named_read : Named 1
  unfolding names_of operation_names operation_of
  named_read e = value_exists_lem x (and_true (value_exists s v x) (eqb y 0) e).0

  named_write : Named 2
  unfolding names_of operation_names operation_of
  named_write e = value_exists_lem x (and_true (value_exists s v x) (eqb y 0) e).0

  named_mfence : Named 3
  unfolding operation_of
  named_mfence e = tt

  named_sfence : Named 4
  unfolding operation_of
  named_sfence e = tt

  named_arw : Named 5
  unfolding names_of operation_names operation_of
  named_arw e =
      let r = and_true (value_exists s v x) (value_exists s v y) e in
      let a = value_exists_lem x r.0 in
      (a.0, a.1, (value_exists_lem y r.1).1)

  named_other : (n : ℕ) → 5 < n → Named n
  unfolding operation_names
  named_other n l e = absurd (omega (arith, leb-true n 5 (and_true (leb n 5) (names_of s n v x y) e).0))

  pub operation_named : (n : ℕ) → Named n
  operation_named n = elim (dec_lt n 4) [
    | yes l ↦ of_four Named named_nop named_read named_write named_mfence n l
    | no l ↦ elim (ℕ_discrete n 4) [
      | yes e ↦ subst Named (sym e) named_sfence
      | no d ↦ elim (ℕ_discrete n 5) [ yes e ↦ subst Named (sym e) named_arw | no d' ↦ named_other n (omega arith) ]
    ]
  ]

-- what a transition's record names, in either format
pub record PartsNamed (k : Format) (s : Shape) (states f : List ℕ) (at : ℕ) : Type 0 where
  pub process : byte f (at + 1) < s.processes
  pub from : byte f (at + 2) < get_or states (byte f (at + 1)) 0
  pub to : byte f (at + 7) < get_or states (byte f (at + 1)) 0
  pub operation : operation_names k s (byte f (at + 3)) (byte f (at + 4)) (byte f (at + 5)) (byte f (at + 6)) ≡ true

pub parts_named : (k : Format) (s : Shape) (states f : List ℕ) (at : ℕ) → transition_names k s states f at ≡ true → PartsNamed k s states f at
unfolding transition_names
parts_named k s states f at e =
    let a = and_true (ltb (byte f (at + 1)) s.processes) _ e in
    let b = and_true (ltb (byte f (at + 2)) (get_or states (byte f (at + 1)) 0)) _ a.1 in
    let c = and_true (ltb (byte f (at + 7)) (get_or states (byte f (at + 1)) 0)) _ b.1 in
    record {
      process = ltb-true (byte f (at + 1)) s.processes a.0;
      from = ltb-true (byte f (at + 2)) (get_or states (byte f (at + 1)) 0) b.0;
      to = ltb-true (byte f (at + 7)) (get_or states (byte f (at + 1)) 0) c.0;
      operation = c.1;
    }

module _ (s : Shape) (states : List ℕ) (initial : ℕ → ℕ) (ts : List Transition) (f : List ℕ) (at : ℕ) where
  abbrev P : pws.Program
  P = record { shape = shape_of s; states = λ q. get_or states q 0; initial = initial; transitions = ts }

  pub transition_of : transition_names Plain s states f at ≡ true → pws.TransitionOf P (transition_at f at)
  transition_of e =
      let n = parts_named Plain s states f at e in
      record {
        process = n.process;
        from = n.from;
        to = n.to;
        operation = operation_named s (byte f (at + 4)) (byte f (at + 5)) (byte f (at + 6)) (byte f (at + 3)) n.operation;
      }

  -- ---- states

  named_state : state_names s states f at ≡ true → (p : ℕ) → p < 4 → state_name s states p (byte f (at + (1 + p))) ≡ true
  unfolding state_names
  named_state e =
      let a = and_true (state_name s states 0 (byte f (at + 1))) _ e in
      let b = and_true (state_name s states 1 (byte f (at + 2))) _ a.1 in
      let c = and_true (state_name s states 2 (byte f (at + 3))) _ b.1 in
      of_four (λ (p : ℕ). state_name s states p (byte f (at + (1 + p))) ≡ true) a.0 b.0 c.0 c.1

  state_inside : (p x : ℕ) → p < s.processes → state_name s states p x ≡ true → x < get_or states p 0
  unfolding state_name
  state_inside p x l e = ltb-true x (get_or states p 0) (rw (lt-ltb p s.processes l) at e)

  state_absent : (p x : ℕ) → s.processes ≤ p → state_name s states p x ≡ true → x ≡ 0
  unfolding state_name
  state_absent p x l e = eqb-true x 0 (rw (le-ltb p s.processes l) at e)

  pub states_of_lem : s.processes ≤ 4 → state_names s states f at ≡ true → StatesOf P (state_at f at)
  states_of_lem few e =
      record {
        exist = λ p l. rw (lt-ltb p 4 (omega arith)) (state_inside p (byte f (at + (1 + p))) l (named_state e p (omega arith)));
        absent = λ p l. elim (dec_lt p 4) [
          | yes i ↦ rw (lt-ltb p 4 i) (state_absent p (byte f (at + (1 + p))) l (named_state e p i))
          | no i ↦ rw (le-ltb p 4 (omega arith))
        ];
      }

-- ---- pointers, messages and waiting values of an entry

module _ (s : Shape) (f : List ℕ) (at : ℕ) where
  named_pointer : pointer_names s f at ≡ true → (p : ℕ) → p < 4 → pointer_name s p (byte f (at + (5 + p))) ≡ true
  unfolding pointer_names
  named_pointer e =
      let a = and_true (pointer_name s 0 (byte f (at + 5))) _ e in
      let b = and_true (pointer_name s 1 (byte f (at + 6))) _ a.1 in
      let c = and_true (pointer_name s 2 (byte f (at + 7))) _ b.1 in
      of_four (λ (p : ℕ). pointer_name s p (byte f (at + (5 + p))) ≡ true) a.0 b.0 c.0 c.1

  pointer_none : (p z : ℕ) → s.processes ≤ p → pointer_name s p z ≡ true → z ≡ 0
  unfolding pointer_name
  pointer_none p z l e = eqb-true z 0 (rw (le-ltb p s.processes l) at e)

  pub pointer_absent : pointer_names s f at ≡ true → (p : ℕ) → s.processes ≤ p → pointer_at f at p ≡ 0
  pointer_absent e p l = elim (dec_lt p 4) [
    | yes i ↦ rw (lt-ltb p 4 i) (pointer_none p (byte f (at + (5 + p))) l (named_pointer e p i))
    | no i ↦ rw (le-ltb p 4 (omega arith))
  ]

pub value_inside : (s : Shape) (v x : ℕ) → v < s.variables → value_name s v x ≡ true → ValueOrFF (shape_of s) v x
unfolding value_name
value_inside s v x l e = go (or_cases (eqb x 255) (ltb x (value_count s v)) (rw (lt-ltb v s.variables l) at e))
  where
    go : (eqb x 255 ≡ true) ⊎ (ltb x (value_count s v) ≡ true) → ValueOrFF (shape_of s) v x
    go (inl a) = inl (eqb-true x 255 a)
    go (inr a) = inr (ltb-true x (value_count s v) a)

value_none : (s : Shape) (v x : ℕ) → s.variables ≤ v → value_name s v x ≡ true → x ≡ 0
unfolding value_name
value_none s v x l e = eqb-true x 0 (rw (le-ltb v s.variables l) at e)

module _ (s : Shape) (f : List ℕ) (at : ℕ) where
  abbrev four : List ℕ
  four = byte f (at + 3) ∷ byte f (at + 4) ∷ byte f (at + 5) ∷ byte f (at + 6) ∷ []

  named_value : value_names s f at ≡ true → (v : ℕ) → v < 4 → value_name s v (get_or four v 0) ≡ true
  unfolding value_names
  named_value e =
      let a = and_true (value_name s 0 (byte f (at + 3))) _ e in
      let b = and_true (value_name s 1 (byte f (at + 4))) _ a.1 in
      let c = and_true (value_name s 2 (byte f (at + 5))) _ b.1 in
      of_four (λ (v : ℕ). value_name s v (get_or four v 0) ≡ true) a.0 b.0 c.0 c.1

  four_past : (v : ℕ) → 4 ≤ v → get_or four v 0 ≡ 0
  four_past v l = get_or-eq_default four 0 l

  pub message_in : s.variables ≤ 4 → message_names s f at ≡ true → MessageIn (ValueOrFF (shape_of s)) (shape_of s) (message_at f at)
  unfolding message_names
  message_in small e =
      let a = and_true (exists s (byte f (at + 1)) (byte f (at + 2))) (value_names s f at) e in
      let b = both_exist s (byte f (at + 1)) (byte f (at + 2)) a.0 in
      record {
        process = b.0;
        variable = b.1;
        room = refl;
        values = λ v l. value_inside s v (get_or four v 0) l (named_value a.1 v (omega arith));
        absent = λ v l. elim (dec_lt v 4) [
          | yes i ↦ value_none s v (get_or four v 0) l (named_value a.1 v i)
          | no i ↦ four_past v (omega arith)
        ];
      }

  pub waiting_in : waiting_names s f at ≡ true
      → (byte f (at + 1) < s.processes) × (byte f (at + 2) < s.variables) × ValueOrFF (shape_of s) (byte f (at + 2)) (byte f (at + 3))
  unfolding waiting_names
  waiting_in e =
      let a = and_true (exists s (byte f (at + 1)) (byte f (at + 2))) (value_name s (byte f (at + 2)) (byte f (at + 3))) e in
      let b = both_exist s (byte f (at + 1)) (byte f (at + 2)) a.0 in
      (b.0, b.1, value_inside s (byte f (at + 2)) (byte f (at + 3)) b.1 a.1)

-- ---- the memory that a run starts from

pub start_named : (s : Shape) (f : List ℕ) (at : ℕ) → checked (start_number s f at) at ≡ Ok tt → start_names s f at ≡ true
unfolding start_number
start_named s f at e = not-false _ (good at e).names

start_inside : (s : Shape) (v x : ℕ) → v < s.variables → start_name s v x ≡ true → x < value_count s v
unfolding start_name
start_inside s v x l e = ltb-true x (value_count s v) (rw (lt-ltb v s.variables l) at e)

start_none : (s : Shape) (v x : ℕ) → s.variables ≤ v → start_name s v x ≡ true → x ≡ 0
unfolding start_name
start_none s v x l e = eqb-true x 0 (rw (le-ltb v s.variables l) at e)

module _ (s : Shape) (f : List ℕ) (at : ℕ) (e : start_names s f at ≡ true) where
  named_start : (v : ℕ) → v < 4 → start_name s v (get_or (memory_at f at) v 0) ≡ true
  unfolding start_names
  named_start =
      let a = and_true (start_name s 0 (byte f (at + 1))) _ e in
      let b = and_true (start_name s 1 (byte f (at + 2))) _ a.1 in
      let c = and_true (start_name s 2 (byte f (at + 3))) (start_name s 3 (byte f (at + 4))) b.1 in
      of_four (λ (v : ℕ). start_name s v (get_or (memory_at f at) v 0) ≡ true) a.0 b.0 c.0 c.1

  memory_past : (v : ℕ) → 4 ≤ v → get_or (memory_at f at) v 0 ≡ 0
  memory_past v l = get_or-eq_default (memory_at f at) 0 l

  pub memory_named : s.variables ≤ 4 → StartingMemory (shape_of s) (memory_at f at)
  memory_named few =
      record {
        room = refl;
        values = λ v l. start_inside s v (get_or (memory_at f at) v 0) l (named_start v (omega arith));
        absent = λ v l. elim (dec_lt v 4) [
          | yes i ↦ start_none s v (get_or (memory_at f at) v 0) l (named_start v i)
          | no i ↦ memory_past v (omega arith)
        ];
      }
