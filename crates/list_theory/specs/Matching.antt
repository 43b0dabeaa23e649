-- Matching an entry with a configuration or a cube, by a relation between values (theory, section 1, T1, and section 6): with `fills`
-- the entry covers the cube, with `alike` it may meet it.
use Rattle.std.specs.Prelude.{ℕ, ◌<◌, ◌≡◌, Bool, true, false, ◌&&◌, not, List, [], ◌∷◌, T, eqb}
use Rattle.std.proofs.Math.Option.{Option, none, some}
use Rattle.machine_pws.specs.declared.Message.{Message}
use Rattle.machine_pws.specs.Program.{Shape}
use Rattle.machine_pws.specs.Machine.{Configuration, newest_waiting, all_below}
use Rattle.machine_pws.specs.Tagged.{Tagged, tagged}
use Rattle.list_theory.specs.Values.{pairwise}

-- ---- subsequences

pub data Subsequence {A : Type 0} (R : A → A → Bool) : List A → List A → Type 0 where
  nothing : Subsequence R [] []
  skip : {y : A} {xs ys : List A} → Subsequence R xs ys → Subsequence R xs (y ∷ ys)
  keep : {x y : A} {xs ys : List A} → T (R x y) → Subsequence R xs ys → Subsequence R (x ∷ xs) (y ∷ ys)

-- the same by leftmost matching
abbrev pub subsequence : {A : Type 0} → (A → A → Bool) → List A → List A → Bool
subsequence R [] ys = true
subsequence R (x ∷ xs) [] = false
subsequence R (x ∷ xs) (y ∷ ys) = elim (R x y) [ true ↦ subsequence R xs ys | false ↦ subsequence R (x ∷ xs) ys ]

-- ---- queues

-- both are empty, or both end, in values that are related
abbrev pub ends : (ℕ → ℕ → Bool) → Option ℕ → Option ℕ → Bool
ends r none none = true
ends r none (some b) = false
ends r (some a) none = false
ends r (some a) (some b) = r a b

pub record QueueMatch (r : ℕ → ℕ → Bool) (xs ys : List ℕ) : Type 0 where
  pub subsequence : Subsequence r xs ys
  pub end : T (ends r (newest_waiting xs) (newest_waiting ys))

abbrev pub queue_matches : (ℕ → ℕ → Bool) → List ℕ → List ℕ → Bool
queue_matches r xs ys = subsequence r xs ys && ends r (newest_waiting xs) (newest_waiting ys)

-- ---- messages with their roles

abbrev pub same : Bool → Bool → Bool
same true b = b
same false b = not b

abbrev pub message_matches : (ℕ → ℕ → Bool) → Message → Message → Bool
message_matches r e m = (eqb e.process m.process && eqb e.variable m.variable) && pairwise r e.snapshot m.snapshot

-- each role occurs once, so a message with a role is never skipped
abbrev pub tag_matches : (ℕ → ℕ → Bool) → Tagged → Tagged → Bool
tag_matches r x y = pairwise (pairwise same) x.roles y.roles && message_matches r x.message y.message

-- ---- configurations

pub record Match (S : Shape) (r : ℕ → ℕ → Bool) (e d : Configuration) : Type 0 where
  pub states : (p : ℕ) → p < S.processes → e.state p ≡ d.state p
  pub queues : (p v : ℕ) → p < S.processes → v < S.variables → QueueMatch r (e.queue p v) (d.queue p v)
  pub channel : Subsequence (tag_matches r) (tagged S e.memory) (tagged S d.memory)

abbrev pub matches : Shape → (ℕ → ℕ → Bool) → Configuration → Configuration → Bool
matches S r e d =
    (all_below S.processes (λ p. eqb (e.state p) (d.state p))
    && all_below S.processes (λ p. all_below S.variables (λ v. queue_matches r (e.queue p v) (d.queue p v))))
    && subsequence (tag_matches r) (tagged S e.memory) (tagged S d.memory)
