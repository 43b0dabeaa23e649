use native.Mathlib.Numerals.{add-one}
use Rattle.drawing.proofs.NumberLaws.{decimal_short}
use Rattle.drawing.specs.Text.{decimal}
use Rattle.drawing.proofs.LineLaws.{edge_length, letters_short}
use lib.ListN.{length}
use mathlib.Core.Path.{ap}
use Prim.Native.Nat.{ℕ, ◌+◌}
use native.Mathlib.Omega.{arith}
use Rattle.drawing.proofs.write.edge_length.Goals as goal

pub overflow_add-result : goal.overflow_add-result
overflow_add-result c = omega (arith, c.number_length.ensures, decimal_short c.args.k (omega (arith, c.requires.0)))

pub overflow_add-result-2 : goal.overflow_add-result-2
overflow_add-result-2 c = omega (arith, c.number_length.ensures, c.number_length-2.ensures, decimal_short c.args.k (omega (arith, c.requires.0)), decimal_short (c.args.k + 1) (omega (arith, c.requires.0)))

pub overflow_add-result-3 : goal.overflow_add-result-3
overflow_add-result-3 c = omega (arith, c.number_length.ensures, c.number_length-2.ensures, c.letters_length.ensures, letters_short c.args.step c.requires.1, decimal_short c.args.k (omega (arith, c.requires.0)), decimal_short (c.args.k + 1) (omega (arith, c.requires.0)))

pub returns : goal.returns
returns c = omega (arith, c.number_length.ensures, c.number_length-2.ensures, c.letters_length.ensures, edge_length c.args.k c.args.step, ap (λ (m : ℕ). length (decimal m)) (add-one c.args.k))
