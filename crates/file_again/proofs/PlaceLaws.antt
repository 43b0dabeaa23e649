-- Laws of places past the file's end.
use Prim.Native.Nat.{ℕ, ◌+◌, ◌-◌, ◌≤◌}
use mathlib.Core.Path.{◌≡◌, sym, ap, ap₂, ◌∙◌}
use mathlib.Core.Bool.{Bool}
use mathlib.Core.List.{List, [], ◌∷◌}
use native.Mathlib.Omega.{arith}
use native.Mathlib.Decide.{dec_le}
use lib.ListN.{length, get_or}
use lib.Dec.{eqb}
use Rattle.base.specs.Bytes.{byte}
use Rattle.file_records.specs.Records.{transition_at}
use Rattle.base.proofs.ByteLaws.{byte_past}
use Rattle.file_again.specs.Again.{place_in}

pub place_past : (f : List ℕ) (x : ℕ) → length f ≤ x → length f ≡ place_in f x
place_past f x l = omega arith

pub place_inside : (f : List ℕ) (x : ℕ) → x ≤ length f → x ≡ place_in f x
place_inside f x l = omega arith

-- the bytes from there on are the same
pub place_byte : (f : List ℕ) (x k : ℕ) → byte f (place_in f x + k) ≡ byte f (x + k)
place_byte f x k = elim (dec_le x (length f)) [
  | yes l ↦ ap (λ (n : ℕ). byte f (n + k)) (sym (place_inside f x l))
  | no l ↦ byte_past f (place_in f x + k) (omega arith) ∙ sym (byte_past f (x + k) (omega arith))
]

pub place_transition : (f : List ℕ) (x : ℕ) → transition_at f (place_in f x) ≡ transition_at f x
place_transition f x = rw (place_byte f x 1, place_byte f x 2, place_byte f x 3, place_byte f x 4, place_byte f x 5, place_byte f x 6, place_byte f x 7)

pub place_target : (f : List ℕ) (x : ℕ) {at a b c d : ℕ} → at ≡ place_in f x → a ≡ byte f (at + 1) → b ≡ byte f (at + 2) → c ≡ byte f (at + 3) → d ≡ byte f (at + 4)
    → ◌≡◌ {A = List ℕ} (a ∷ b ∷ c ∷ d ∷ []) (byte f (x + 1) ∷ byte f (x + 2) ∷ byte f (x + 3) ∷ byte f (x + 4) ∷ [])
place_target f x e i j k l = rw (i, j, k, l, e, place_byte f x 1, place_byte f x 2, place_byte f x 3, place_byte f x 4)

-- a transition against local states, by its process and where it leads
pub place_leads : (f : List ℕ) (x : ℕ) (states : List ℕ) {at p t a : ℕ} {r : Bool} → at ≡ place_in f x → p ≡ byte f (at + 1) → t ≡ byte f (at + 7) → a ≡ get_or states p 0 → r ≡ eqb a t
    → r ≡ eqb (get_or states (transition_at f x).process 0) (transition_at f x).to
place_leads f x states {at} {p} {t} {a} {r} d e g h k =
    k ∙ ap₂ eqb (h ∙ ap (λ (i : ℕ). get_or states i 0) (e ∙ ap (λ (n : ℕ). byte f (n + 1)) d ∙ place_byte f x 1)) (g ∙ ap (λ (n : ℕ). byte f (n + 7)) d ∙ place_byte f x 7)
