use mathlib.Core.Path.{◌≡◌, refl, sym, ap, subst, ◌∙◌}
use mathlib.Core.List.{[]}
use native.Mathlib.Omega.{arith}
use Rattle.file_contents.specs.declared.entry.Cube.{Cube}
use Rattle.list_known.specs.FullStates.{is_full, with_states}
use Rattle.list_cube.specs.Sizes.{starts_of}
use Rattle.list_known.specs.Groups.{group_held}
use Rattle.list_known.proofs.GroupLaws.{group_small, group_known, group_other, group_put}
use Rattle.list_known.proofs.groups.put_group.Goals as goal

pub returns-then-count_at-least : goal.returns-then-count_at-least
returns-then-count_at-least c = λ S. group_small c.args.listing.now c.args.least c.args.table.now c.args.k (omega (arith, c.if-count_at-least.true, c.count_at.ensures.value))

pub returns-then-is_full : goal.returns-then-is_full
returns-then-is_full c = λ S. group_known c.args.listing.now c.args.least c.args.table.now c.args.k (omega (arith, c.if-count_at-least.false, c.count_at.ensures.value)) (sym (subst (λ (d : Cube). c.is_full.result ≡ is_full c.args.table.now c.args.listing.now.shape d.states) c.entry-cube.ensures c.is_full.ensures) ∙ c.if-is_full.true)

pub returns-then-not-target_held : goal.returns-then-not-target_held
returns-then-not-target_held c = λ S. group_other c.args.listing.now c.args.least c.args.table.now c.args.k (omega (arith, c.if-count_at-least.false, c.count_at.ensures.value)) (sym (subst (λ (d : Cube). c.is_full.result ≡ is_full c.args.table.now c.args.listing.now.shape d.states) c.entry-cube.ensures c.is_full.ensures) ∙ c.if-is_full.false) (sym (subst (λ (d : Cube). c.target_held.result ≡ group_held c.args.listing.now c.args.least d.states) c.entry-cube.ensures (c.target_held.ensures (starts_of c.args.listing.now.shape []) refl S)) ∙ c.if-not-target_held.true)

pub returns : goal.returns
returns c = λ S. c.put_full.ensures ∙ ap (λ (d : Cube). with_states c.args.table.now d.states) c.entry-cube.ensures ∙ group_put c.args.listing.now c.args.least c.args.table.now c.args.k (omega (arith, c.if-count_at-least.false, c.count_at.ensures.value)) (sym (subst (λ (d : Cube). c.is_full.result ≡ is_full c.args.table.now c.args.listing.now.shape d.states) c.entry-cube.ensures c.is_full.ensures) ∙ c.if-is_full.false) (sym (subst (λ (d : Cube). c.target_held.result ≡ group_held c.args.listing.now c.args.least d.states) c.entry-cube.ensures (c.target_held.ensures (starts_of c.args.listing.now.shape []) refl S)) ∙ c.if-not-target_held.false)
