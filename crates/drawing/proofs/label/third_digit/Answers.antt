use borrow.Author.Tests.{le-leb, lt-leb}
use Rattle.drawing.specs.Reading.{value_at, third_digit}
use mathlib.Core.Path.{◌≡◌, ap}
use Prim.Native.Nat.{ℕ, ◌+◌, ◌*◌}
use native.Mathlib.Omega.{arith}
use Rattle.drawing.proofs.label.third_digit.Goals as goal
use Rattle.drawing.proofs.label.third_digit.Goals.{else-is_digit-via-then-is_digit+else-c-le255, else-is_digit-via-else-is_digit}

pub returns-then-c-le255 : goal.returns-then-c-le255
unfolding third_digit
returns-then-c-le255 c =
    let t = c.args.text.now in
    let v : 10 * c.args.b + c.value_at.result ≡ 10 * c.args.b + value_at t c.args.at = ap (λ (x : ℕ). 10 * c.args.b + x) c.value_at.ensures.0 in
    rw (← v, ← c.is_digit.ensures, c.if-is_digit.true, le-leb (10 * c.args.b + c.value_at.result) 255 c.if-c-le255.true)

pub returns-else-is_digit : goal.returns-else-is_digit
unfolding third_digit
returns-else-is_digit c =
    let t = c.args.text.now in
    let v : 10 * c.args.b + c.value_at.result ≡ 10 * c.args.b + value_at t c.args.at = ap (λ (x : ℕ). 10 * c.args.b + x) c.value_at.ensures.0 in
    elim c.else-is_digit.branch [
      | else-is_digit-via-then-is_digit+else-c-le255 w ↦ rw (← v, ← c.is_digit.ensures, w.if-is_digit.true, lt-leb (10 * c.args.b + c.value_at.result) 255 (omega (arith, w.if-c-le255.false)))
      | else-is_digit-via-else-is_digit w ↦ rw (← c.is_digit.ensures, w.if-is_digit.false)
    ]
