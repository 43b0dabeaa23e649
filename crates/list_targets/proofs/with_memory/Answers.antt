use mathlib.Core.Path.{◌≡◌, refl, ◌∙◌}
use native.Mathlib.Omega.{arith}
use lib.ListN.{length}
use borrow.Author.Rules.{rules}
use Rattle.list_key.proofs.ValueLaws.{length_mapped}
use Rattle.list_cube.proofs.NewestLaws.{values_newest}
use Rattle.list_targets.proofs.EntryLaws.{topped_is, with_memory_is}
use Rattle.list_targets.proofs.with_memory.Goals as goal

pub returns : goal.returns
returns c a b l m =
    let room : length c.args.shape.messages ≡ 20 = search (rules, length_mapped) in (
      with_memory_is c.args.entry c.args.shape c.newest_values.result _ (c.newest_values.ensures ∙ values_newest c.args.entry a b)
          (topped_is c.args.shape.messages c.args.shape.count c.newest_values.result l (omega (arith, room))),
      (refl, refl),
    )
