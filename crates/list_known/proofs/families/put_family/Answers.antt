use mathlib.Core.Path.{sym, subst}
use native.Mathlib.Omega.{arith}
use Rattle.machine_pws.specs.Entries.{entry}
use Rattle.list_theory.specs.Family.{Clue, FamilyHeld}
use Rattle.list_known.proofs.FamilyTable.{put_family_is}
use Rattle.list_known.proofs.families.put_family.Goals as goal

pub returns : goal.returns
returns c =
    let n = c.in-Some.ensures in
    let put = put_family_is c.args.table.now c.in-Some-free_word.at c.args.k c.in-Some.number _ c.in-Some-free_word.ensures (omega (arith, c.if-table-lt12288.false)) (omega (arith, n.0))
    (omega (arith, c.if-k-ge524288.false)) (omega (arith, c.if-k-ge524288.false)) c.put_word.ensures c.put_word-2.ensures in
    (put.0, λ S es H F. put.1 S es (subst (λ (q : Clue). FamilyHeld S es q (entry es c.args.k)) (sym n.1) H) F)
