-- The place of 28 is the number of the 05 that the 257th transition comes from.
use Prim.Native.Nat.{ℕ, suc, ◌-◌, ◌<◌, ◌≤◌}
use mathlib.Core.Path.{◌≡◌, refl}
use mathlib.Core.Bool.{Bool, true, false, cond}
use mathlib.Core.List.{List, [], ◌∷◌}
use native.Mathlib.Omega.{arith}
use lib.ListN.{length, take, length-append}
use lib.Dec.{ltb}
use borrow.Author.Tests.{ltb-true, ltb-false}
use Rattle.register_machine.specs.Program.{RegisterProgram}
use Rattle.register_machine.specs.Written.{joined, becomes_in, written, ComesFrom}
use Rattle.register_program.specs.Registers.{source_of}

module _ {A B : Type 0} (g : A → List B) where
  abbrev Source : List A → ℕ → ℕ → Type 0
  Source xs m n = (n < length xs) × (length (joined g (take n xs)) ≤ m) × (m < length (joined g (take (suc n) xs)))

  source_found : (xs : List A) (m : ℕ) → m < length (joined g xs) → Source xs m (source_of g xs m)
  source_found [] m l = absurd (omega arith)
  source_found (x ∷ xs) m l = go (λ h. source_found xs (m - length (g x)) h) (ltb m (length (g x))) refl
    where
      go : (m - length (g x) < length (joined g xs) → Source xs (m - length (g x)) (source_of g xs (m - length (g x)))) → (b : Bool) → ltb m (length (g x)) ≡ b
          → Source (x ∷ xs) m (cond b 0 (suc (source_of g xs (m - length (g x)))))
      go ih true e = (omega arith, omega arith, omega (arith, ltb-true m (length (g x)) e, length-append (g x) []))
      go ih false e =
          let k = ltb-false m (length (g x)) e in
          let h = ih (omega (arith, k, length-append (g x) (joined g xs))) in
          let n = source_of g xs (m - length (g x)) in
          (omega (arith, h.0), omega (arith, k, h.1, length-append (g x) (joined g (take n xs))), omega (arith, k, h.2, length-append (g x) (joined g (take (suc n) xs))))

pub source_comes : (R : RegisterProgram) → 256 < length (written R).transitions → ComesFrom R 256 (source_of (becomes_in R) R.transitions 256)
source_comes R l = let s = source_found (becomes_in R) R.transitions 256 l in record { exists = s.0; low = s.1; high = s.2 }
