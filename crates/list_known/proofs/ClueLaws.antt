-- A look through the messages of a cube, newest first: what was not found is before the LastWrite.
use Prim.Native.Nat.{ℕ, suc, ◌+◌, ◌-◌, ◌*◌, ◌/◌, ◌%◌, ◌<◌, ◌≤◌, max}
use mathlib.Core.Path.{◌≡◌, refl, sym, ap, subst, ◌∙◌}
use mathlib.Core.Logic.{⊎_elim}
use mathlib.Core.Bool.{false}
use mathlib.Core.List.{List}
use native.Mathlib.Omega.{arith}
use native.Mathlib.Decide.{dec_le}
use lib.ListN.{get_or}
use lib.Dec.{T}
use borrow.Author.Tests.{ne_eqb}
use Rattle.machine_pws.specs.declared.Message.{Message}
use Rattle.machine_pws.specs.Program.{Shape}
use Rattle.machine_pws.specs.Machine.{no_message, message, labelled, last_labelled}
use Rattle.machine_pws.proofs.Facts.{last_is}
use Rattle.file_contents.specs.declared.entry.Cube.{Cube}
use Rattle.file_contents.specs.Cube.{channel_of, configuration_of}
use Rattle.file_contents.proofs.CubeParts.{channel_length, channel_message}
use Rattle.list_theory.specs.Seen.{Sees}
use Rattle.list_theory.specs.Family.{newest, sees}
use Rattle.list_known.specs.FamilyTable.{clue_of}

-- LastWrite, where the pointer is z
abbrev pub last_of : List Message → ℕ → ℕ → ℕ → ℕ → ℕ
last_of ms n z p v = max z (last_labelled (channel_of ms n) p v)

module _ (ms : List Message) (n z p v : ℕ) (b : z ≤ n) where
  pub last_low : last_of ms n z p v ≤ n
  last_low = omega (arith, (last_is (channel_of ms n) z p v (omega (arith, channel_length ms n))).high, channel_length ms n)

  -- not this message, if it is not pointed at and has another label
  pub last_older : (k : ℕ) → k < n → last_of ms n z p v ≤ suc k → z ≤ k → labelled (get_or ms k no_message) p v ≡ false → last_of ms n z p v ≤ k
  last_older k l a c f =
      let w = last_is (channel_of ms n) z p v (omega (arith, channel_length ms n)) in
      elim (dec_le (last_of ms n z p v) k) [
        | yes d ↦ d
        | no d ↦ absurd (⊎_elim (λ e. omega arith)
            (λ t. subst T (ap (λ (i : ℕ). labelled (message (channel_of ms n) i) p v) {x = last_of ms n z p v} {y = suc k} (omega arith)
            ∙ ap (λ (m : Message). labelled m p v) (channel_message ms n k l) ∙ f) t) w.hit)
      ]

-- a message that has it, at the LastWrite or past it
pub sees_at : (c : Cube) (p v : ℕ) {z : ℕ} → z ≡ get_or c.pointers p 0 → (k : ℕ) → k < c.count → last_of c.messages c.count z p v ≤ suc k
    → {x : ℕ} → get_or (get_or c.messages k no_message).snapshot v 0 ≡ x → (S : Shape) → p < S.processes → v < S.variables → x < 4 → Sees S p v x (configuration_of c).memory
sees_at c p v e k l a d S r t x =
    record {
      process = r;
      variable = t;
      small = x;
      at = suc k;
      from = omega (arith, a, e);
      upto = omega (arith, l, channel_length c.messages c.count);
      is = ap (λ (m : Message). get_or m.snapshot v 0) (channel_message c.messages c.count k l) ∙ d;
    }

-- ---- what a number asks

pub clue_none : newest ≡ clue_of 0
unfolding clue_of
clue_none = refl

pub clue_some : (number : ℕ) → (number ≡ 0 → ⊥) → sees ((number - 1) / 16 % 4) ((number - 1) / 4 % 4) ((number - 1) % 4) ≡ clue_of number
unfolding clue_of
clue_some number n = rw (ne_eqb number 0 n) refl

pub clue_stored : (p v x : ℕ) → p < 4 → v < 4 → x < 4 → clue_of (1 + x + 4 * (v + 4 * p)) ≡ sees p v x
clue_stored p v x a b c =
    let n = 1 + x + 4 * (v + 4 * p) in
    sym (clue_some n (λ e. omega arith))
    ∙ ap (λ (q : ℕ). sees q ((n - 1) / 4 % 4) ((n - 1) % 4)) {x = (n - 1) / 16 % 4} {y = p} (omega arith)
    ∙ ap (λ (u : ℕ). sees p u ((n - 1) % 4)) {x = (n - 1) / 4 % 4} {y = v} (omega arith)
    ∙ ap (λ (y : ℕ). sees p v y) {x = (n - 1) % 4} {y = x} (omega arith)
