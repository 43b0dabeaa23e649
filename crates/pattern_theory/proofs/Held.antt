-- A pattern is within itself; and so is its predecessor under a serialise if nothing is known of the value that left the queue, and the queue's clue is not
-- *empty* (docs/PATTERNS.md, "Predecessors"). Neither need be looked for in a list.
use Prim.Native.Nat.{ℕ, ◌<◌}
use mathlib.Core.Path.{◌≡◌, refl, sym, subst}
use mathlib.Core.Option.{Option, none, some}
use mathlib.Core.List.{List, [], ◌∷◌, append-nil}
use native.Mathlib.Omega.{arith}
use Rattle.machine_pws.specs.Program.{Shape}
use Rattle.machine_pws.specs.Machine.{put}
use Rattle.machine_pws.proofs.Facts.{put_each}
use Rattle.pattern_theory.specs.Patterns.{Clue, empty, ends, contains, PathRead, Pattern}
use Rattle.pattern_theory.specs.Fitting.{Subsequence, nothing, keep, skip}
use Rattle.pattern_theory.specs.Within.{Covers, ClueWithin, both_empty, both_contain, both_end, PathWithin, Within}
use Rattle.pattern_theory.specs.Predecessors.{with_clue, with_newest, with_paths, in_front}

sub_refl : {A : Type 0} {R : A → A → Type 0} → ((x : A) → R x x) → (xs : List A) → Subsequence R xs xs
sub_refl r [] = nothing
sub_refl r (x ∷ xs) = keep (r x) (sub_refl r xs)

covers_refl : (x : Option ℕ) → Covers x x
covers_refl none = tt
covers_refl (some x) = refl

clue_refl : (k : Clue) → ClueWithin k k
clue_refl empty = both_empty
clue_refl (ends w v) = both_end refl (sub_refl covers_refl w)
clue_refl (contains w) = both_contain (sub_refl covers_refl w)

path_refl : (newest : ℕ → Option ℕ) (rs : List PathRead) → PathWithin newest rs rs
path_refl newest rs =
    record {
      front = rs;
      rest = [];
      cut = sym (append-nil rs);
      read = sub_refl (λ r. record { variable = refl; value = refl; own = λ t. t }) rs;
      asked = tt;
    }

pub within_refl : (S : Shape) (a : Pattern) → Within S a a
within_refl S a =
    record {
      states = λ p l. refl;
      newest = λ v l x e. e;
      clues = λ p v l h. clue_refl (a.clue p v);
      paths = λ p l. path_refl a.newest (a.path p);
    }

-- any value in front of a word
clue_front : (k : Clue) → (k ≡ empty → ⊥) → ClueWithin (in_front none k) k
clue_front empty n = absurd (n refl)
clue_front (ends w v) n = both_end refl (skip (sub_refl covers_refl w))
clue_front (contains w) n = both_contain (skip (sub_refl covers_refl w))

-- no end stands at the new message, and nothing is asked of x there
pub unknown_within : (S : Shape) (a : Pattern) (p x : ℕ) (fronts : ℕ → List PathRead) → a.newest x ≡ none → (a.clue p x ≡ empty → ⊥)
    → ((q : ℕ) → q < S.processes → fronts q ≡ a.path q)
    → Within S (with_paths (with_newest (with_clue a p x (in_front none (a.clue p x))) (put a.newest x none)) fronts) a
unknown_within S a p x fronts free some-wait same =
    record {
      states = λ q l. refl;
      newest = λ v l y e. put_each (λ v (o : Option ℕ). a.newest v ≡ some y → o ≡ some y) a.newest x none v
          (λ d. let z : ◌≡◌ {A = ℕ} 0 1 = cc in absurd (omega arith)) (λ n d. d) e;
      clues = λ q v l h.
          put_each (λ q (f : ℕ → Clue). ClueWithin (f v) (a.clue q v)) a.clue p (put (a.clue p) x (in_front none (a.clue p x))) q
          (put_each (λ v (k : Clue). ClueWithin k (a.clue p v)) (a.clue p) x (in_front none (a.clue p x)) v (clue_front (a.clue p x) some-wait)
          (λ n. clue_refl (a.clue p v)))
          (λ n. clue_refl (a.clue q v));
      paths = λ q l. subst (λ (rs : List PathRead). PathWithin (put a.newest x none) rs (a.path q)) (sym (same q l)) (path_refl (put a.newest x none) (a.path q));
    }
