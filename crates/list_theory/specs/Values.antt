-- Values of which some are FF (theory, sections 5 and 6).
use Rattle.std.specs.Prelude.{ℕ, Bool, true, false, cond, ◌&&◌, ◌||◌, List, [], ◌∷◌, eqb}
use Rattle.machine_pws.specs.Entries.{FF}

-- b may stand where the entry has a: `Fill` as a test
abbrev pub fills : ℕ → ℕ → Bool
fills a b = eqb a FF || eqb a b

-- a ~ b: equal, or one of them is FF
abbrev pub alike : ℕ → ℕ → Bool
alike a b = eqb a FF || (eqb b FF || eqb a b)

-- the one of two that is not FF
abbrev pub meet : ℕ → ℕ → ℕ
meet a b = cond (eqb a FF) b a

-- lists, one for one
abbrev pub pairwise : {A : Type 0} → (A → A → Bool) → List A → List A → Bool
pairwise r [] [] = true
pairwise r [] (b ∷ ys) = false
pairwise r (a ∷ xs) [] = false
pairwise r (a ∷ xs) (b ∷ ys) = r a b && pairwise r xs ys

abbrev pub meet_all : List ℕ → List ℕ → List ℕ
meet_all [] ys = []
meet_all (a ∷ xs) [] = []
meet_all (a ∷ xs) (b ∷ ys) = meet a b ∷ meet_all xs ys
