-- Laws of the reading of the program part.
use Rattle.std.specs.Prelude.{Result, Ok, Err}
use Prim.Native.Nat.{ℕ, ◌+◌, ◌*◌, ◌<◌, ◌≤◌}
use mathlib.Core.Path.{◌≡◌, refl, sym, ap, ◌∙◌}
use mathlib.Core.Bool.{Bool, true, false, ◌&&◌, not}
use mathlib.Core.List.{List}
use native.Mathlib.Omega.{arith}
use lib.ListN.{length}
use lib.Dec.{eqb, leb}
use borrow.Author.Tests.{leb-true, not-false}
use Rattle.file_records.specs.declared.program.Format.{Format}
use Rattle.file_records.specs.declared.program.Format.TheVariants.{Plain, Registers}
use Rattle.file_records.specs.declared.program.Program.{Program}
use Rattle.file_records.specs.declared.program.Refusal.{Refusal}
use Rattle.file_records.specs.declared.program.Shape.{Shape}
use Rattle.base.specs.Bytes.{byte, cut}
use Rattle.file_records.specs.Format.{most_targets}
use Rattle.file_records.specs.Records.{checked, in_range, counts_in_range, shape_at, shape_number}
use Rattle.file_records.specs.ProgramPart.{whether, program_read, unless_end, transitions_from, targets_from}
use Rattle.file_records.proofs.RecordLaws.{fine_refused, refused_same, Good, good, unless_fine, row_most}
use Rattle.base.proofs.ByteLaws.{cut_fits}

-- ---- what was read, and why not

pub refused_read : (x : Result Program Refusal) (r : Refusal) → whether x ≡ Err r → x ≡ Err r
refused_read (Ok p) r e = absurd (fine_refused e)
refused_read (Err q) r e = ap (λ (s : Refusal). Err s) (refused_same e)

pub fine_read : (x : Result Program Refusal) → whether x ≡ Ok tt → x ≡ Ok (program_read x)
fine_read (Ok p) e = refl
fine_read (Err r) e = absurd (fine_refused (sym e))

pub and_true : (a b : Bool) → (a && b) ≡ true → (a ≡ true) × (b ≡ true)
and_true true true e = (refl, refl)
and_true true false e = let z : ◌≡◌ {A = ℕ} 0 1 = cc in absurd (omega arith)
and_true false b e = let z : ◌≡◌ {A = ℕ} 0 1 = cc in absurd (omega arith)

range_most : (x most : ℕ) → in_range x most ≡ true → x ≤ most
unfolding in_range
range_most x most e = leb-true x most (and_true (not (eqb x 0)) (leb x most) e).1

-- a 01 that is fine
pub shape_fine : (k : Format) (f : List ℕ) (at : ℕ) → unless_end f at (checked (shape_number k f at) at) ≡ Ok tt
    → (at + 6 < length f) × ((shape_at f at).processes ≤ 4) × ((shape_at f at).variables ≤ 4)
unfolding shape_number
shape_fine k f at e =
    let g = good at (unless_fine f at _ e).1 in
    let a = and_true (in_range (byte f (at + 1)) 4) (in_range (byte f (at + 2)) 4 && counts_in_range k (shape_at f at)) (not-false _ g.range) in
    let b = and_true (in_range (byte f (at + 2)) 4) (counts_in_range k (shape_at f at)) a.1 in
    (cut_fits f at 6 g.whole, range_most (byte f (at + 1)) 4 a.0, range_most (byte f (at + 2)) 4 b.0)

pub few_targets : (k : Format) → most_targets k ≤ 4096
few_targets Plain = omega arith
few_targets Registers = omega arith

pub some_target_lem : (k : Format) → 1 ≤ most_targets k
some_target_lem Plain = omega arith
some_target_lem Registers = omega arith

module _ (k : Format) (s : Shape) (states : List ℕ) (f : List ℕ) (at : ℕ) where
  pub transitions_most : (n : ℕ) → transitions_from k s states f at ≡ Ok n → n ≤ 256
  unfolding transitions_from
  transitions_most n e = omega (arith, row_most _ _ _ 256 at 0 n e)

  pub targets_most : (alone : Bool) (m : ℕ) → targets_from k alone s states f at ≡ Ok m → m ≤ most_targets k
  unfolding targets_from
  targets_most alone m e = omega (arith, row_most _ _ _ (most_targets k) at 0 m e)
