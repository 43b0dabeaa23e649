use Prim.Native.Nat.{ℕ, ◌+◌, ◌≤◌}
use mathlib.Core.List.{List}
use lib.ListN.{length}
use mathlib.Core.Path.{◌≡◌, refl, sym, ap, ◌∙◌}
use mathlib.Core.Bool.{Bool, true, false}
use native.Mathlib.Omega.{arith}
use Rattle.base.specs.Bytes.{cut}
use Rattle.file_records.specs.Records.{first_number, checked, entry_number}
use Rattle.base.proofs.ByteLaws.{cut_fits}
use Rattle.file_reading.proofs.list.check_entry.Goals as goal

cut_first : (a full n m : Bool) → first_number a true full false n ≡ first_number a true full false m
unfolding first_number
cut_first true full n m = refl
cut_first false full n m = refl

fits : (f : List ℕ) (at : ℕ) → cut f at 8 ≡ false → at + 9 ≤ length f
fits f at e = omega (arith, cut_fits f at 8 e)

pub returns-then-cut : goal.returns-then-cut
unfolding entry_number
returns-then-cut c = rw (c.checked.ensures, c.first_number.ensures, c.is_kind-other.ensures, sym c.cut.ensures ∙ c.if-cut.true) (ap (λ (k : ℕ). checked k c.args.at) (cut_first _ _ _ _))

pub states_inside-requires : goal.states_inside-requires
unfolding entry_number
states_inside-requires c = fits c.args.file.now c.args.at (sym c.cut.ensures ∙ c.if-cut.false)

pub pointers_inside-requires : goal.pointers_inside-requires
unfolding entry_number
pointers_inside-requires c = fits c.args.file.now c.args.at (sym c.cut.ensures ∙ c.if-cut.false)

pub returns : goal.returns
unfolding entry_number
returns c = rw (c.checked-2.ensures, c.first_number-2.ensures, c.both-names.ensures, c.pointers_inside.ensures, c.states_inside.ensures, c.is_kind-other.ensures, sym c.cut.ensures ∙ c.if-cut.false)
