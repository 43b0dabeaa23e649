use Prim.Native.Nat.{min}
use mathlib.Core.Path.{ap, ◌∙◌}
use Rattle.list_key.specs.Signature.{bit_at}
use Rattle.list_key.proofs.SignatureLaws.{message_role, message_none}
use native.Mathlib.Omega.{arith}
use Rattle.list_key.proofs.signature.message_bits.Goals as goal

pub returns-then-role : goal.returns-then-role
returns-then-role c = message_role (min c.args.variables 4) c.args.r c.args.role c.args.message c.if-role.true c.value_bits.ensures

pub returns : goal.returns
returns c = message_none (min c.args.variables 4) c.args.r c.args.role c.args.message c.if-role.false c.value_bits-2.ensures (c.bit_at.ensures ∙ ap bit_at (omega (arith, c.from-2.ensures, c.from.ensures)))
