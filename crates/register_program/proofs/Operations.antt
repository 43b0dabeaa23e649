-- Operations by their number.
use Prim.Native.Nat.{ℕ, ◌+◌, ◌-◌, ◌<◌}
use mathlib.Core.Path.{◌≡◌, refl, sym, subst, ◌∙◌}
use mathlib.Core.Bool.{Bool, true, false, cond, ◌&&◌, not}
use mathlib.Core.List.{[], ◌∷◌}
use native.Mathlib.Omega.{arith}
use native.Mathlib.Decide.{ℕ_discrete, dec_lt}
use lib.ListN.{length}
use lib.Dec.{eqb, leb, ltb}
use borrow.Author.Tests.{eqb-true, ltb-true, ne_eqb, lt-leb, le-leb}
use Rattle.file_records.specs.declared.program.Format.TheVariants.{Registers}
use Rattle.file_records.specs.declared.program.Shape.{Shape}
use Rattle.file_records.specs.Records.{all_zero, value_exists, names_of, operation_names}
use Rattle.file_records.specs.ProgramPart.{shape_of}
use Rattle.file_records.proofs.ProgramLaws.{and_true}
use Rattle.file_again.proofs.Tables.{of_four}
use Rattle.file_again.proofs.Names.{value_exists_lem}
use Rattle.register_machine.specs.declared.RegisterOperation.{RegisterOperation}
use Rattle.register_machine.specs.declared.RegisterOperation.TheVariants.{Nop}
use Rattle.register_machine.specs.Program.{uses_register, RegisterOperationOf}
use Rattle.register_machine.specs.Written.{four_values, starting_values, read_values, plain_operation, held, states_of, becomes}
use Rattle.register_program.specs.Form.{operation_bytes}
use Rattle.register_program.specs.Reading.{register_operation_of}

of_nine {ℓ} : (F : ℕ → Type ℓ) → F 0 → F 1 → F 2 → F 3 → F 4 → F 5 → F 6 → F 7 → F 8 → ((o : ℕ) → 8 < o → F o) → (o : ℕ) → F o
of_nine F a₀ a₁ a₂ a₃ a₄ a₅ a₆ a₇ a₈ other o = elim (dec_lt o 4) [
  | yes l ↦ of_four F a₀ a₁ a₂ a₃ o l
  | no l ↦ elim (dec_lt o 8) [
    | yes m ↦ let e : 4 + (o - 4) ≡ o = omega arith in subst F e (of_four (λ (k : ℕ). F (4 + k)) a₄ a₅ a₆ a₇ (o - 4) (omega arith))
    | no m ↦ elim (ℕ_discrete o 8) [ yes e ↦ subst F (sym e) a₈ | no d ↦ other o (omega arith) ]
  ]
]

module _ (v x y : ℕ) where
  abbrev op : ℕ → RegisterOperation
  op o = register_operation_of o v x y

  other_nop : (o : ℕ) → 8 < o → op o ≡ Nop
  unfolding register_operation_of
  other_nop o l =
      rw (ne_eqb o 1 (λ d. omega arith), ne_eqb o 2 (λ d. omega arith), ne_eqb o 3 (λ d. omega arith), ne_eqb o 4 (λ d. omega arith), ne_eqb o 5 (λ d. omega arith), ne_eqb o 6 (λ d. omega arith), ne_eqb o 7 (λ d. omega arith), ne_eqb o 8 (λ d. omega arith))

  pub uses_is : (o : ℕ) → uses_register (op o) ≡ (leb 6 o && leb o 8)
  unfolding register_operation_of
  uses_is =
      of_nine (λ (o : ℕ). uses_register (op o) ≡ (leb 6 o && leb o 8)) refl refl refl refl refl refl refl refl refl
      (λ o l. rw (other_nop o l, lt-leb o 8 l, le-leb 6 o (omega arith)))

  -- 6 reads four values, another one
  pub read_values_lem : (o : ℕ) → read_values (op o) ≡ cond (eqb o 6) four_values (0 ∷ [])
  unfolding register_operation_of
  read_values_lem =
      of_nine (λ (o : ℕ). read_values (op o) ≡ cond (eqb o 6) four_values (0 ∷ [])) refl refl refl refl refl refl refl refl refl
      (λ o l. rw (other_nop o l, ne_eqb o 6 (λ d. omega arith)))

  -- 8 starts from one value, another from four
  pub starting_values_lem : (o : ℕ) → starting_values (op o) ≡ cond (eqb o 8) (x ∷ []) four_values
  unfolding register_operation_of
  starting_values_lem =
      of_nine (λ (o : ℕ). starting_values (op o) ≡ cond (eqb o 8) (x ∷ []) four_values) refl refl refl refl refl refl refl refl refl
      (λ o l. rw (other_nop o l, ne_eqb o 8 (λ d. omega arith)))

  -- how many one becomes
  abbrev Expands : Bool → ℕ → ℕ → ℕ → ℕ → Type 0
  Expands b p from to o =
      length (becomes b (record { process = p; from = from; operation = op o; to = to })) ≡ states_of (b && not (eqb o 8)) (states_of (eqb o 6) 1)

  pub expands : (b : Bool) (p from to o : ℕ) → Expands b p from to o
  unfolding register_operation_of
  expands true p from to =
      of_nine (Expands true p from to) refl refl refl refl refl refl refl refl refl
      (λ o l. rw (other_nop o l, ne_eqb o 6 (λ d. omega arith), ne_eqb o 8 (λ d. omega arith)))
  expands false p from to =
      of_nine (Expands false p from to) refl refl refl refl refl refl refl refl refl
      (λ o l. rw (other_nop o l, ne_eqb o 6 (λ d. omega arith)))

module _ (s : Shape) (v x y : ℕ) where
  named_of : (o : ℕ) → operation_names Registers s o v x y ≡ true → names_of s o v x y ≡ true
  unfolding operation_names
  named_of o e = (and_true (leb o 8) (names_of s o v x y) e).1

  all_zero_lem : all_zero v x y ≡ true → (v ≡ 0) × (x ≡ 0) × (y ≡ 0)
  unfolding all_zero
  all_zero_lem e =
      let a = and_true (eqb v 0) (eqb x 0 && eqb y 0) e in
      let b = and_true (eqb x 0) (eqb y 0) a.1 in
      (eqb-true v 0 a.0, eqb-true x 0 b.0, eqb-true y 0 b.1)

  -- An operation that has nothing to do with the register is written as it stands.
  abbrev Same : ℕ → ℕ → ℕ → Type 0
  Same r z o =
      operation_names Registers s o v x y ≡ true → (o ≡ 6 → ⊥) → (o ≡ 7 → ⊥) → (o ≡ 8 → ⊥)
      → (operation_bytes (plain_operation (register_operation_of o v x y) r z) ≡ o ∷ v ∷ x ∷ y ∷ []) × (held (register_operation_of o v x y) r z ≡ r)

  bare : (o r z : ℕ) → all_zero v x y ≡ true → (o ∷ 0 ∷ 0 ∷ 0 ∷ []) ≡ (o ∷ v ∷ x ∷ y ∷ [])
  bare o r z e = let a = all_zero_lem e in rw (a.0, a.1, a.2)

  no_new : (o : ℕ) → (value_exists s v x && eqb y 0) ≡ true → (o ∷ v ∷ x ∷ 0 ∷ []) ≡ (o ∷ v ∷ x ∷ y ∷ [])
  no_new o e = rw (eqb-true y 0 (and_true (value_exists s v x) (eqb y 0) e).1)

  none_beyond : (o : ℕ) → 8 < o → operation_names Registers s o v x y ≡ true → ⊥
  unfolding operation_names
  none_beyond o l e =
      let z : ◌≡◌ {A = Bool} false true = sym (lt-leb o 8 l) ∙ (and_true (leb o 8) (names_of s o v x y) e).0 in
      let w : ◌≡◌ {A = ℕ} 0 1 = cc in
      omega arith

  pub same_bytes : (r z o : ℕ) → Same r z o
  unfolding register_operation_of names_of
  same_bytes r z =
      of_nine (Same r z) (λ e a b c. (bare 0 r z (named_of 0 e), refl)) (λ e a b c. (no_new 1 (named_of 1 e), refl)) (λ e a b c. (no_new 2 (named_of 2 e), refl))
      (λ e a b c. (bare 3 r z (named_of 3 e), refl)) (λ e a b c. (bare 4 r z (named_of 4 e), refl)) (λ e a b c. (refl, refl)) (λ e a b c. absurd (a refl))
      (λ e a b c. absurd (b refl)) (λ e a b c. absurd (c refl)) (λ o l e a b c. absurd (none_beyond o l e))

  -- the value of an 8 is one of a register's
  pub test_low : operation_names Registers s 8 v x y ≡ true → x < 4
  unfolding names_of
  test_low e = ltb-true x 4 (and_true (ltb x 4) (eqb y 0) (and_true (eqb v 0) (ltb x 4 && eqb y 0) (named_of 8 e)).1).0

  -- what an operation names exists
  variable_only : (ltb v s.variables && (eqb x 0 && eqb y 0)) ≡ true → v < s.variables
  variable_only e = ltb-true v s.variables (and_true (ltb v s.variables) (eqb x 0 && eqb y 0) e).0

  abbrev Names : ℕ → Type 0
  Names o = operation_names Registers s o v x y ≡ true → RegisterOperationOf (shape_of s) (register_operation_of o v x y)

  pub named_operation : (o : ℕ) → Names o
  unfolding register_operation_of names_of
  named_operation =
      of_nine Names (λ e. tt) (λ e. value_exists_lem s v x y x (and_true (value_exists s v x) (eqb y 0) (named_of 1 e)).0)
      (λ e. value_exists_lem s v x y x (and_true (value_exists s v x) (eqb y 0) (named_of 2 e)).0) (λ e. tt) (λ e. tt)
      (λ e.
      let r = and_true (value_exists s v x) (value_exists s v y) (named_of 5 e) in
      let a = value_exists_lem s v x y x r.0 in
      (a.0, a.1, (value_exists_lem s v x y y r.1).1)) (λ e. variable_only (named_of 6 e)) (λ e. variable_only (named_of 7 e)) test_low (λ o l e. absurd (none_beyond o l e))
