-- A step keeps the length of the bytes.
use Prim.Native.Nat.{ℕ}
use mathlib.Core.Path.{◌≡◌, refl}
use mathlib.Core.List.{List}
use lib.ListN.{length, length-set}
use Rattle.machine_pws.specs.declared.Operation.{Operation}
use Rattle.machine_pws.specs.declared.Operation.TheVariants.{Nop, Read, Write, Mfence, Sfence, Arw}
use Rattle.run_layout.specs.declared.moves.Move.{Move}
use Rattle.run_layout.specs.declared.moves.Move.TheVariants.{Take, Serialise, Update}
use Rattle.run_layout.specs.declared.arrays.Run.{Run}
use Rattle.run_layout.proofs.AreaLaws.{snapshot_length}
use Rattle.run_step.specs.Stored.{appended, lower_taken, lower_after}

appended_length : (a : List ℕ) (messages v x : ℕ) → length (appended a messages v x) ≡ length a
unfolding appended
appended_length a messages v x = snapshot_length a _ _

taken_length : (a : List ℕ) (run : Run) (p : ℕ) (o : Operation) → length (lower_taken a run p o) ≡ length a
taken_length a run p Nop = refl
taken_length a run p (Read v x) = refl
taken_length a run p (Write v x) = length-set a _ _
taken_length a run p Mfence = refl
taken_length a run p Sfence = refl
taken_length a run p (Arw v old new) = appended_length a _ _ _

pub area_length : (a : List ℕ) (run : Run) (m : Move) → length (lower_after a run m) ≡ length a
area_length a run (Take t) = taken_length a run t.process t.operation
area_length a run (Serialise p v) = appended_length a _ _ _
area_length a run (Update p) = refl
