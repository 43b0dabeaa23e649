-- The newest message of a cube, taken away or replaced.
use Prim.Native.Nat.{ℕ, zero, suc, ◌-◌, ◌<◌, ◌≤◌}
use mathlib.Core.Path.{◌≡◌, refl, sym, ap, ap₂, ◌∙◌}
use mathlib.Core.Bool.{true}
use mathlib.Core.List.{List, [], ◌∷◌}
use native.Mathlib.Omega.{arith}
use native.Mathlib.Decide.{dec_le}
use native.Mathlib.Numerals.{unary_clauses}
use lib.ListN.{length, get_or, set, replicate}
use lib.Seq.{get_or-set_same, get_or-set_other}
use borrow.Author.Tests.{le-leb, lt-leb}
use Rattle.machine_pws.specs.declared.Message.{Message}
use Rattle.machine_pws.specs.Machine.{no_message}
use Rattle.list_theory.specs.Values.{meet_all}
use Rattle.list_theory.specs.Cubes.{with_values, topmost, older, alike_newest, meet_newest}
use Rattle.file_contents.specs.declared.entry.Cube.{Cube}
use Rattle.file_contents.specs.Cube.{channel_of, configuration_of}
use Rattle.file_contents.proofs.CubeParts.{channel_length, channel_equal}
use Rattle.list_cube.specs.Editing.{newest_values}
use Rattle.list_cube.proofs.QueueLaws.{no_both}

pub newest_channel : (ms : List Message) (n : ℕ) → 1 ≤ n → get_or ms (n - 1) no_message ≡ topmost (channel_of ms n)
newest_channel ms zero l = absurd (omega arith)
newest_channel ms (suc n) l = simp unary_clauses refl

pub older_channel : (ms : List Message) (n : ℕ) → older (channel_of ms n) ≡ channel_of ms (n - 1)
older_channel ms zero = refl
older_channel ms (suc n) = simp unary_clauses refl

pub older_length : (ms : List Message) (n : ℕ) → length (older (channel_of ms n)) ≡ n - 1
older_length ms n = ap length (older_channel ms n) ∙ channel_length ms (n - 1)

pub channel_top : (ms : List Message) (n : ℕ) (μ : Message) → n < length ms → channel_of (set ms n μ) (suc n) ≡ μ ∷ channel_of ms n
channel_top ms n μ l = ap₂ {A = Message} {B = List Message} (λ m ns. m ∷ ns) (get_or-set_same ms n μ no_message l)
    (channel_equal (set ms n μ) ms n (λ j k. get_or-set_other ms n j μ no_message (λ e. omega arith)))

-- ---- four values met

four_equal : (a b c d e f g h : ℕ) → a ≡ e → b ≡ f → c ≡ g → d ≡ h → a ∷ b ∷ c ∷ d ∷ [] ≡ e ∷ f ∷ g ∷ h ∷ []
four_equal a b c d e f g h i j k l = cc

-- ---- messages without the newest one, or with another

pub met_channel : (ms : List Message) (xs : List ℕ) (k n : ℕ) (μ : Message) → n ≡ suc (suc k) → n ≤ 20 → length ms ≡ 20
    → μ ≡ with_values (get_or ms k no_message) (meet_all (get_or ms k no_message).snapshot xs) → channel_of (set ms k μ) (n - 1) ≡ meet_newest (older (channel_of ms n)) xs
met_channel ms xs k n μ e l r f =
    let z : n - 1 ≡ suc k = omega arith in
    ap (channel_of (set ms k μ)) z ∙ channel_top ms k μ (omega arith) ∙ ap (λ (m : Message). m ∷ channel_of ms k) f
    ∙ ap (λ (n : ℕ). meet_newest (channel_of ms n) xs) (sym z) ∙ sym (ap (λ (ms : List Message). meet_newest ms xs) (older_channel ms n))

pub newest_put : (ms : List Message) (k n : ℕ) (μ : Message) → n ≡ suc k → n ≤ 20 → length ms ≡ 20 → channel_of (set ms k μ) n ≡ μ ∷ older (channel_of ms n)
newest_put ms k n μ e l r =
    let z : k ≡ n - 1 = omega arith in
    ap (channel_of (set ms k μ)) e ∙ channel_top ms k μ (omega arith) ∙ ap (λ (n : ℕ). μ ∷ channel_of ms n) z ∙ sym (ap (λ (ns : List Message). μ ∷ ns) (older_channel ms n))

-- there is one before the newest
pub older_some : (ms : List Message) (n : ℕ) (xs : List ℕ) → alike_newest (older (channel_of ms n)) xs ≡ true → 2 ≤ n
older_some ms zero xs e = absurd (no_both (sym e))
older_some ms (suc zero) xs e = absurd (no_both (sym e))
older_some ms (suc (suc n)) xs e = omega arith

-- the values of the newest message, as the code finds them
module _ (c : Cube) where
  pub values_none : ((1 ≤ c.count) × (c.count ≤ 20) → ⊥) → replicate 4 0 ≡ newest_values c
  unfolding newest_values
  values_none f = elim (dec_le 1 c.count) [
    | yes d ↦ elim (dec_le c.count 20) [
      | yes e ↦ absurd (f (d, e))
      | no e ↦ sym (rw (le-leb 1 c.count d, lt-leb c.count 20 (omega arith)) refl)
    ]
    | no d ↦ sym (rw (lt-leb 1 c.count (omega arith)) refl)
  ]

  pub values_some : 1 ≤ c.count → c.count ≤ 20 → (get_or c.messages (c.count - 1) no_message).snapshot ≡ newest_values c
  unfolding newest_values
  values_some a b = sym (rw (le-leb 1 c.count a, le-leb c.count 20 b) refl)

  pub values_newest : 1 ≤ c.count → c.count ≤ 20 → newest_values c ≡ (topmost (configuration_of c).memory.channel).snapshot
  values_newest a b = sym (values_some a b) ∙ ap (λ (m : Message). m.snapshot) (newest_channel c.messages c.count a)
