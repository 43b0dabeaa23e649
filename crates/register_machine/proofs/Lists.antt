-- Lists that are joined: what stands at which number.
use Prim.Native.Nat.{ℕ, zero, suc, ◌+◌, ◌-◌, ◌<◌, ◌≤◌}
use mathlib.Core.Path.{◌≡◌, refl, ap, ◌∙◌}
use mathlib.Core.List.{List, [], ◌∷◌, ◌++◌, map}
use native.Mathlib.Omega.{arith}
use native.Mathlib.Decide.{dec_lt}
use lib.ListN.{length, get_or, take, length-append, get_or-append}
use lib.Seq.{get_or-append-add}
use Rattle.register_machine.specs.Written.{joined}

module _ {A B : Type 0} (f : A → List B) (a : A) (b : B) where
  -- k of the list that number n gives
  pub joined_at : (xs : List A) (n k : ℕ) → n < length xs → k < length (f (get_or xs n a))
      → get_or (joined f xs) (length (joined f (take n xs)) + k) b ≡ get_or (f (get_or xs n a)) k b
  joined_at [] n k l h = absurd (omega arith)
  joined_at (x ∷ xs) zero k l h = ap (λ i. get_or (f x ++ joined f xs) i b) (omega arith) ∙ get_or-append (f x) (joined f xs) b k h
  joined_at (x ∷ xs) (suc n) k l h =
      ap (λ i. get_or (f x ++ joined f xs) i b) (omega (arith, length-append (f x) (joined f (take n xs))))
      ∙ get_or-append-add (f x) (joined f xs) (length (joined f (take n xs)) + k) b
      ∙ joined_at xs n k (omega arith) h

  -- it is one of the joined list
  pub joined_below : (xs : List A) (n k : ℕ) → n < length xs → k < length (f (get_or xs n a)) → length (joined f (take n xs)) + k < length (joined f xs)
  joined_below [] n k l h = absurd (omega arith)
  joined_below (x ∷ xs) zero k l h = omega (arith, length-append (f x) (joined f xs))
  joined_below (x ∷ xs) (suc n) k l h =
      omega (arith, length-append (f x) (joined f xs), length-append (f x) (joined f (take n xs)), joined_below xs n k (omega arith) h)

  -- each of the joined list is one of those
  pub record Found (xs : List A) (m : ℕ) : Type 0 where
    pub number : ℕ
    pub exists : number < length xs
    pub place : ℕ
    pub within : place < length (f (get_or xs number a))
    pub sum : m ≡ length (joined f (take number xs)) + place

  pub found : (xs : List A) (m : ℕ) → m < length (joined f xs) → Found xs m
  found [] m l = absurd (omega arith)
  found (x ∷ xs) m l = elim (dec_lt m (length (f x))) [
    | yes h ↦ record { number = 0; exists = omega arith; place = m; within = h; sum = omega arith }
    | no h ↦
        let r = found xs (m - length (f x)) (omega (arith, length-append (f x) (joined f xs))) in
        record {
          number = suc r.number;
          exists = omega (arith, r.exists);
          place = r.place;
          within = r.within;
          sum = omega (arith, r.sum, length-append (f x) (joined f (take r.number xs)));
        }
  ]

-- what a map gives
pub map_at {ℓ} : {A B : Type ℓ} (f : A → B) (xs : List A) (k : ℕ) (a : A) (b : B) → k < length xs → get_or (map f xs) k b ≡ f (get_or xs k a)
map_at f [] k a b l = absurd (omega arith)
map_at f (x ∷ xs) zero a b l = refl
map_at f (x ∷ xs) (suc k) a b l = map_at f xs k a b (omega arith)

module _ {A B : Type 0} (f : A → List B) where
  -- the lists before grow with the number
  pub joined_grows : (xs : List A) (n k : ℕ) → n ≤ k → length (joined f (take n xs)) ≤ length (joined f (take k xs))
  joined_grows xs zero k l = omega arith
  joined_grows [] (suc n) k l = omega arith
  joined_grows (x ∷ xs) (suc n) zero l = absurd (omega arith)
  joined_grows (x ∷ xs) (suc n) (suc k) l =
      omega (arith, length-append (f x) (joined f (take n xs)), length-append (f x) (joined f (take k xs)), joined_grows xs n k (omega arith))

  pub joined_suc : (a : A) (xs : List A) (n : ℕ) → n < length xs
      → length (joined f (take (suc n) xs)) ≡ length (joined f (take n xs)) + length (f (get_or xs n a))
  joined_suc a [] n l = absurd (omega arith)
  joined_suc a (x ∷ xs) zero l = omega (arith, length-append (f x) [])
  joined_suc a (x ∷ xs) (suc n) l =
      omega (arith, length-append (f x) (joined f (take n xs)), length-append (f x) (joined f (take (suc n) xs)), joined_suc a xs n (omega arith))
