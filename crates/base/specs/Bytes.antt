-- Bytes and numbers of a list of bytes: 0 past its end.
use Rattle.std.specs.Prelude.{ℕ, suc, ◌+◌, ◌*◌, ◌-◌, ◌/◌, ◌%◌, Bool, true, false, ◌||◌, cond, List, [], ◌∷◌, length, get_or, set, leb}

-- a test, and what is said in each case (only that one is computed)
abbrev pub choose {ℓ} : {A : Type ℓ} → Bool → (Unit {0} → A) → (Unit {0} → A) → A
choose true x y = x tt
choose false x y = y tt

abbrev pub byte : List ℕ → ℕ → ℕ
byte f at = get_or f at 0

-- the list ends inside the record at `at`, whose body has this length
unfoldable pub cut : List ℕ → ℕ → ℕ → Bool
cut f at body = leb (length f - at) body

-- four bytes as a number, least significant first
unfoldable pub le32 : List ℕ → ℕ → ℕ
le32 f at = byte f at + 256 * byte f (at + 1) + 65536 * byte f (at + 2) + 16777216 * byte f (at + 3)

-- a number as four bytes at `at`, least significant first, where they fit
unfoldable pub put32 : List ℕ → ℕ → ℕ → List ℕ
put32 f at x =
    choose (leb (at + 4) (length f))
    (λ _. set (set (set (set f at (x % 256)) (at + 1) (x / 256 % 256)) (at + 2) (x / 65536 % 256)) (at + 3) (x / 16777216 % 256))
    (λ _. f)
