use mathlib.Core.Path.{sym}
use native.Mathlib.Omega.{arith}
use Rattle.list_key.proofs.RoleLaws.{place_own, place_past}
use Rattle.list_key.proofs.tags.label_place.Goals as goal

pub returns-then-v-lt4 : goal.returns-then-v-lt4
returns-then-v-lt4 c = (omega (arith, place_own c.args.message (omega arith) (omega arith)), omega arith)

pub returns-else-p-lt4 : goal.returns-else-p-lt4
returns-else-p-lt4 c = (sym (place_past c.args.message (λ u. omega (arith, c.else-p-lt4.either))), omega arith)
