-- The patterns before a transition, by its operation.
use Prim.Native.Nat.{ℕ}
use mathlib.Core.Path.{◌≡◌, refl, sym, subst}
use mathlib.Core.List.{List, [], ◌∷◌, map}
use native.Mathlib.Omega.{arith}
use Rattle.std.specs.Prelude.{Some, None}
use Rattle.machine_pws.specs.declared.Operation.{Operation}
use Rattle.machine_pws.specs.declared.Operation.TheVariants.{Nop}
use Rattle.file_records.specs.declared.program.Shape.{Shape}
use Rattle.file_records.specs.ProgramPart.{shape_of}
use Rattle.pattern_theory.specs.Patterns as patterns
use Rattle.pattern_step.specs.declared.patterns.Pattern.{Pattern}
use Rattle.pattern_step.specs.Meaning.{Stands, GivenBy, absent, present}
use Rattle.pattern_step.specs.Numbers.{operation_count, operation_numbered}
use Rattle.pattern_step.proofs.EditLaws.{wider}

-- ---- how many

module _ (s : Shape) (e : patterns.Pattern) (p : ℕ) {o : Operation} where
  pub count_is : {i : Operation} {r : ℕ} → o ≡ i → r ≡ operation_count (shape_of s) e p i → r ≡ operation_count (shape_of s) e p o
  count_is {i} {r} h g = subst (λ (u : Operation). r ≡ operation_count (shape_of s) e p u) (sym h) g

-- ---- no operation, and the local state

module _ {s : Shape} where
  pub nop_arm : {a : Pattern} {e : patterns.Pattern} (p j : ℕ) {o : Operation} → o ≡ Nop → Stands s 8 16 a e → GivenBy s (Some a) (operation_numbered (shape_of s) e p o j)
  nop_arm {a} {e} p j h w =
      subst (λ (i : Operation). GivenBy s (Some a) (operation_numbered (shape_of s) e p i j)) (sym h) (present (wider w (omega arith) (omega arith)))

  pub taken_none : {xs : List patterns.Pattern} (h : patterns.Pattern → patterns.Pattern) → GivenBy s None xs → [] ≡ map h xs
  taken_none h absent = refl

  pub taken_one : {a : Pattern} {xs : List patterns.Pattern} → GivenBy s (Some a) xs → (b : patterns.Pattern) × Stands s 9 17 a b × (b ∷ [] ≡ xs)
  taken_one (present {b = b} w) = (b, w, refl)
