use Rattle.std.proofs.Common.{◌≡◌, ℕ, suc, ◌+◌, ◌-◌, length, get_or, ap, ◌∙◌, rules, arith}
use Rattle.pattern_step.proofs.ClueLaws.{front_word}
use Rattle.pattern_step.proofs.clues.Word.with_front.Goals as goal

pub returns : goal.returns
returns c l =
    let f : length c.args.self.values ≡ 9 = search rules in
    let moved = c.copy_within.ensures.by_index.0 in (
      front_word c.args.self.count c.args.u c.args.self.values c.copy_within.new.self (omega arith) (omega (arith, c.copy_within.ensures.len))
          (λ j k. moved (suc j) 0 (omega arith) (omega arith) ∙ ap (λ (i : ℕ). get_or c.args.self.values i 0) (let z : 0 + (suc j - 1) ≡ j = omega arith in z)),
      omega arith,
    )
