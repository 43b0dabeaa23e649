-- A step's transition, read by its number, is the program's.
use Prim.Native.Nat.{ℕ, zero, suc, ◌+◌, ◌*◌, ◌<◌, ◌≤◌}
use mathlib.Core.Path.{◌≡◌, refl, sym, ap, ◌∙◌}
use mathlib.Core.Bool.{true, false}
use mathlib.Core.List.{List}
use native.Mathlib.Omega.{arith}
use lib.ListN.{length, get_or}
use lib.Dec.{ltb}
use borrow.Author.Tests.{le-leb, lt-leb, lt-ltb, le-ltb}
use Rattle.machine_pws.specs.declared.Step.TheVariants as step
use Rattle.machine_pws.specs.declared.Transition.{Transition}
use Rattle.machine_pws.specs.Program as pws
use Rattle.std.specs.Prelude.{Some, None}
use Rattle.file_records.specs.declared.program.Program.{Program}
use Rattle.file_records.specs.Records.{transition_at}
use Rattle.file_records.specs.ProgramPart.{table_from, program_of}
use Rattle.run_layout.specs.declared.moves.Move.TheVariants.{Take}
use Rattle.run_layout.specs.Layout.{move_of}

table_length {ℓ} : {A : Type ℓ} (g : ℕ → A) (i n : ℕ) → length (table_from g i n) ≡ n
table_length g i zero = refl
table_length g i (suc n) = ap suc (table_length g (suc i) n)

table_at {ℓ} : {A : Type ℓ} (g : ℕ → A) (i n k : ℕ) (d : A) → k < n → get_or (table_from g i n) k d ≡ g (i + k)
table_at g i zero k d l = absurd (omega arith)
table_at g i (suc n) zero d l = ap g (omega arith)
table_at g i (suc n) (suc k) d l = table_at g (suc i) n k d (omega arith) ∙ ap g (omega arith)

module _ (f : List ℕ) (p : Program) where
  pub transition_count : length (program_of f p).transitions ≡ p.transitions.count
  transition_count = table_length (λ i. transition_at f (p.transitions.at + 8 * i)) 0 p.transitions.count

  pub transition_is : (n : ℕ) → n < p.transitions.count → pws.transition (program_of f p) n ≡ transition_at f (p.transitions.at + 8 * n)
  transition_is n l =
      table_at (λ i. transition_at f (p.transitions.at + 8 * i)) 0 p.transitions.count n pws.no_transition l
      ∙ ap (λ (i : ℕ). transition_at f (p.transitions.at + 8 * i)) (omega arith)

  pub move_take : (n : ℕ) → n < p.transitions.count → move_of f p.transitions (step.Take n) ≡ Some (Take (pws.transition (program_of f p) n))
  move_take n l = rw (lt-leb p.transitions.count n l) (ap (λ (t : Transition). Some (Take t)) (sym (transition_is n l)))

  pub move_absent : (n : ℕ) → p.transitions.count ≤ n → move_of f p.transitions (step.Take n) ≡ None
  move_absent n l = rw (le-leb p.transitions.count n l)

  pub exists_is : (n : ℕ) → n < p.transitions.count → ltb n (length (program_of f p).transitions) ≡ true
  exists_is n l = lt-ltb n (length (program_of f p).transitions) (omega (arith, transition_count))

  pub exists_not : (n : ℕ) → p.transitions.count ≤ n → ltb n (length (program_of f p).transitions) ≡ false
  exists_not n l = le-ltb n (length (program_of f p).transitions) (omega (arith, transition_count))
