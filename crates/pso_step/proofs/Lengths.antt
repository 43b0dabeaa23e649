-- A step keeps the length of the lower part.
use Prim.Native.Nat.{ℕ, zero, suc}
use mathlib.Core.Path.{◌≡◌, refl, ◌∙◌}
use mathlib.Core.List.{List}
use lib.ListN.{length, length-set}
use Rattle.machine_pws.specs.declared.Operation.{Operation}
use Rattle.machine_pws.specs.declared.Operation.TheVariants.{Nop, Read, Write, Mfence, Sfence, Arw}
use Rattle.file_records.specs.declared.program.Shape.{Shape}
use Rattle.pso_layout.specs.declared.moves.PsoMove.{PsoMove}
use Rattle.pso_layout.specs.declared.moves.PsoMove.TheVariants.{Operate, UpdateVariable, RemoveMark}
use Rattle.pso_step.specs.After.{marked_below, area_operated, lower_after_move}

pub marked_length : (a tails : List ℕ) (p n : ℕ) → length (marked_below a tails p n) ≡ length a
unfolding marked_below
marked_length a tails p zero = refl
marked_length a tails p (suc v) = length-set (marked_below a tails p v) _ _ ∙ marked_length a tails p v

operated_length : (a tails : List ℕ) (s : Shape) (p : ℕ) (o : Operation) → length (area_operated a tails s p o) ≡ length a
operated_length a tails s p Nop = refl
operated_length a tails s p (Read v x) = refl
operated_length a tails s p (Write v x) = length-set a _ _
operated_length a tails s p Mfence = refl
operated_length a tails s p Sfence = marked_length a tails p s.variables
operated_length a tails s p (Arw v old new) = refl

pub area_length : (a tails : List ℕ) (s : Shape) (m : PsoMove) → length (lower_after_move a tails s m) ≡ length a
area_length a tails s (Operate t) = operated_length a tails s t.process t.operation
area_length a tails s (UpdateVariable p v) = refl
area_length a tails s (RemoveMark p) = refl
