use Prim.Native.Nat.{ℕ, ◌+◌, ◌*◌}
use mathlib.Core.Path.{◌≡◌, ap, ◌∙◌}
use native.Mathlib.Omega.{arith}
use Rattle.std.proofs.Common.{rules}
use lib.ListN.{length, take, drop}
use Rattle.pattern_step.specs.declared.clues.Clue.TheVariants.{Empty}
use lib.ListN.{replicate, length-take, length-drop}
use Prim.Native.Nat.{◌-◌}
use Rattle.pattern_step.proofs.EditLaws.{none_stands}
use Rattle.pattern_step.proofs.patterns.Pattern.with_none_waiting.Goals as goal

pub returns-then-p-lt4 : goal.returns-then-p-lt4
returns-then-p-lt4 c s k l e w b =
    let f : length c.args.self.clues ≡ 16 = search rules in
    let n : length (take (4 * c.args.p + 4 - 4 * c.args.p) (drop (4 * c.args.p) c.args.self.clues)) ≡ 4 =
    omega (arith, length-take (4 * c.args.p + 4 - 4 * c.args.p) (drop (4 * c.args.p) c.args.self.clues), length-drop (4 * c.args.p) c.args.self.clues) in
    none_stands w c.args.p c.fill.new.self f b (c.fill.ensures.after (λ y h. h) ∙ ap (λ (i : ℕ). replicate i Empty) n)
