-- The entries that may match a cube, one after another: those of the chain of its key's number with no bit in their signatures that the number has not,
-- and then the first entry of the group of its states.
use Rattle.std.specs.Prelude.{ℕ, suc, ◌+◌, ◌<◌, ◌≤◌, ◌≡◌, ◌⊎◌, Bool, true, false, cond, List, Option, Some, None}
use Rattle.file_records.specs.declared.program.Shape.{Shape}
use Rattle.list_summary.specs.declared.walking.Walk.{Walk}
use Rattle.list_key.specs.Signature.{Contained}
use Rattle.list_key.specs.Number.{signature_in}
use Rattle.list_summary.specs.Slots.{head_link, signature_at, home_of, mark_in, entry_in, Met}
use Rattle.list_summary.specs.Groups.{leader_of}

module _ (f list sum : List ℕ) (n : ℕ) (s : Shape) (states : List ℕ) where
  -- entry k is still to come
  abbrev pub Left : ℕ → ℕ → ℕ → Bool → ℕ → Type 0
  Left number below link led k = (Met sum below link k (mark_in number) × Contained (signature_at sum k) (signature_in number)) ⊎ ((led ≡ false) × (leader_of f list s sum n states ≡ suc k))

  -- how far a walk can still go
  abbrev pub ahead : ℕ → Bool → ℕ
  ahead below led = below + cond led 0 1

  -- what comes after the chain
  pub record Led (led : Bool) (next : Option ℕ) (w : Walk) : Type 0 where
    pub bounded : w.below ≡ 0
    pub stops : w.link ≡ 0
    pub passed : w.led ≡ true
    pub exists : (i : ℕ) → next ≡ Some i → i < n
    pub met : led ≡ true → next ≡ None
    pub first : led ≡ false → next ≡ entry_in (leader_of f list s sum n states)

  -- the next entry, and in w what is still to come after it; or there is none
  pub record Onward (number below link : ℕ) (led : Bool) (next : Option ℕ) (w : Walk) : Type 0 where
    pub bounded : w.below ≤ n
    pub none : next ≡ None → (k : ℕ) → Left number below link led k → ⊥
    pub exists : (i : ℕ) → next ≡ Some i → i < n
    pub shorter : (i : ℕ) → next ≡ Some i → ahead w.below w.led < ahead below led
    pub rest : (i : ℕ) → next ≡ Some i → (k : ℕ) → Left number below link led k → (i ≡ k) ⊎ Left number w.below w.link w.led k

-- where the walk begins: at the chain of the number
abbrev pub walk_from : List ℕ → ℕ → List ℕ → ℕ → Walk
walk_from sum n states number = record { states = states; number = number; below = n; link = head_link sum (home_of number n); led = false }
