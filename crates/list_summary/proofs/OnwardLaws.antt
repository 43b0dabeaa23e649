-- The walk over what may match: nothing that is still to come is left out.
use Prim.Native.Nat.{ℕ, ◌+◌, ◌-◌, ◌/◌, ◌^◌, ◌<◌, ◌≤◌}
use mathlib.Core.Path.{◌≡◌, refl, sym, ap, subst, subst₂, ◌∙◌}
use mathlib.Core.Logic.{inl, inr}
use mathlib.Core.Bool.{Bool, true, false}
use mathlib.Core.List.{List}
use native.Mathlib.Omega.{arith}
use native.Mathlib.Decide.{dec_le}
use lib.Dec.{ltb}
use lib.Count.{count_leading_zeros, leading_top}
use lib.Pow.{shr-shr, pow_mono}
use borrow.Author.Tests.{lt-ltb}
use Rattle.file_records.specs.declared.program.Shape.{Shape}
use Rattle.base.specs.Bytes.{choose}
use Rattle.file_again.specs.Again.{cube_at}
use Rattle.list_key.specs.Signature.{Contained}
use Rattle.list_key.specs.Number.{signature_in, Agrees, number_of}
use Rattle.list_summary.specs.Slots.{head_link, home_of, Met}
use Rattle.list_summary.specs.Groups.{same_states, states_at, leads}
use Rattle.list_summary.specs.Summary.{Summed}
use Rattle.list_summary.specs.Walks.{Left}
use Rattle.list_summary.proofs.GroupLaws.{true_false}
use Rattle.list_summary.proofs.LeaderLaws.{leader_is}

module _ (f list sum : List ℕ) (n : ℕ) (s : Shape) (states : List ℕ) (number below link : ℕ) (led : Bool) where
  -- so far only entries with other marks were passed
  pub record Passing (under at : ℕ) : Type 0 where
    pub few : below ≤ n
    pub most : under ≤ below
    pub kept : (k : ℕ) → Left f list sum n s states number below link led k → Left f list sum n s states number under at led k

-- ---- what was not met does not match

-- numbers that differ in their signatures alone have one home
pub home_agrees : (x y n : ℕ) → n ≤ 524288 → x / 1048576 ≡ y / 1048576 → home_of x n ≡ home_of y n
unfolding home_of
home_agrees x y n few e = elim (dec_le 2 n) [
  | no d ↦ rw (lt-ltb n 2 (omega arith))
  | yes d ↦ ap (λ (z : ℕ). choose (ltb n 2) (λ _. 0) (λ _. choose (ltb z n) (λ _. z) (λ _. choose (ltb (z - n) n) (λ _. z - n) (λ _. 0)))) (shifted d)
]
  where
    shifted : 2 ≤ n → x / 2 ^ count_leading_zeros 64 (n - 1) ≡ y / 2 ^ count_leading_zeros 64 (n - 1)
    shifted d =
        let r = leading_top 64 (n - 1) (omega arith) (omega arith) in
        let few_bits : r.0 < 20 = low r.0 r.2 in
        let z : count_leading_zeros 64 (n - 1) ≡ 20 + (count_leading_zeros 64 (n - 1) - 20) = omega (arith, r.1) in
        let k = count_leading_zeros 64 (n - 1) - 20 in
        ap (λ (i : ℕ). x / 2 ^ i) z ∙ sym (shr-shr x 20 k) ∙ ap (λ (v : ℕ). v / 2 ^ k) e ∙ shr-shr y 20 k ∙ sym (ap (λ (i : ℕ). y / 2 ^ i) z)
      where
        low : (j : ℕ) → 2 ^ j ≤ n - 1 → j < 20
        low j b = elim (dec_le 20 j) [ yes g ↦ absurd (omega (arith, b, pow_mono {i = 20} {j = j} g)) | no g ↦ omega arith ]

-- a test that only entries pass whose number differs from this one in the signature alone, which has no bit that this one has not, and with these
-- local states
module _ {f list sum : List ℕ} {n : ℕ} {s : Shape} (Z : Summed f list sum n s) (states : List ℕ) (number : ℕ) (test : ℕ → Bool)
    (agrees : (k : ℕ) → k < n → test k ≡ true → Agrees (number_of s (cube_at f list k)) number)
    (contained : (k : ℕ) → k < n → test k ≡ true → Contained (signature_in (number_of s (cube_at f list k))) (signature_in number))
    (same : (k : ℕ) → k < n → test k ≡ true → same_states s (states_at f list s k) states ≡ true) where
  pub all_walked : ((k : ℕ) → Left f list sum n s states number n (head_link sum (home_of number n)) false k → test k ≡ false) → (k : ℕ) → k < n → test k ≡ false
  all_walked g k l = go (test k) refl (leads f list s k) refl
    where
      go : (b : Bool) → test k ≡ b → (x : Bool) → leads f list s k ≡ x → b ≡ false
      go false e x q = refl
      go true e true q = absurd (true_false (sym e ∙ g k (inr (refl, leader_is Z.grouped states k l q (same k l e)))))
      go true e false q =
          let r = agrees k l e in
          absurd (true_false (sym e ∙ g k (inl (
            subst₂ (λ (h m : ℕ). Met sum n (head_link sum h) k m) (home_agrees (number_of s (cube_at f list k)) number n Z.count r.upper) r.lowest (Z.grouped.others k l q),
            subst (λ (b : ℕ). Contained b (signature_in number)) (sym (Z.grouped.signed k l q)) (contained k l e),
          ))))
