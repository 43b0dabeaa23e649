-- The predecessors of a pattern are those of its numbers, in this order.
use Prim.Native.Nat.{ℕ, zero, suc, ◌+◌, ◌*◌, ◌/◌, ◌%◌}
use mathlib.Core.Path.{◌≡◌, refl, sym, ap, ap₂, ◌∙◌, fun_ext}
use mathlib.Core.Logic.{◌⊎◌, inl, inr}
use mathlib.Core.Bool.{Bool, true, false, cond, ◌&&◌, not}
use mathlib.Core.Option.{Option, none, some}
use mathlib.Core.List.{List, [], ◌∷◌, ◌++◌, map, append_assoc}
use native.Mathlib.Omega.{arith}
use native.Mathlib.Nat.{suc-mul, mul-add-div_right, mul-add-mod_self_right, div-eq_of_lt, mod-eq_of_lt}
use lib.ListN.{length, take, drop}
use lib.Dec.{eqb, leb}
use borrow.Author.Tests.{ne_eqb, le-leb}
use Rattle.machine_pws.specs.declared.Operation.{Operation}
use Rattle.machine_pws.specs.declared.Operation.TheVariants.{Nop, Read, Write, Mfence, Sfence, Arw}
use Rattle.machine_pws.specs.declared.Step.TheVariants.{Take, Serialise, Update}
use Rattle.machine_pws.specs.Program.{Shape, transition}
use Rattle.machine_pws.specs.Machine.{put, all_below}
use Rattle.list_theory.specs.Lists.{for_below, for_each, every}
use Rattle.pattern_theory.specs.Patterns.{PathRead, Pattern, empty}
use Rattle.pattern_theory.specs.Predecessors.{provided, from_option, can_empty, waiting, first_own, put_behind, before_read, Cut, behind, cuts, own_cut, choices, joined, new_message, with_state, with_clue, with_path, before_operation}
use Rattle.pattern_step.specs.Meaning.{place_of, starts_at}
use Rattle.pattern_step.specs.Numbers.{inserted_at, read_numbered, places_more, many, cuts_at, picked, message_numbered, serialised, swapped, operation_count, read_before, operation_numbered, step_count, step_numbered, BeforeNumbered, EveryBefore}
use Rattle.pattern_step.proofs.PatternLaws.{for_equal}

-- ---- lists made by number

no_more : {A : Type 0} (xs : List A) → xs ++ [] ≡ xs
no_more [] = refl
no_more (x ∷ xs) = ap (λ (ys : List _). x ∷ ys) (no_more xs)

module _ {A : Type 0} where
  pub for_first : (n : ℕ) (F : ℕ → List A) → for_below (suc n) F ≡ F 0 ++ for_below n (λ i. F (suc i))
  for_first zero F = sym (no_more (F 0))
  for_first (suc n) F = ap (λ (xs : List A). xs ++ F (suc n)) (for_first n F) ∙ append_assoc (F 0) (for_below n (λ i. F (suc i))) (F (suc n))

  for_none : (n : ℕ) → for_below {A = A} n (λ i. []) ≡ []
  for_none zero = refl
  for_none (suc n) = ap (λ (xs : List A). xs ++ []) (for_none n)

  for_add : (a b : ℕ) (F : ℕ → List A) → for_below (a + b) F ≡ for_below a F ++ for_below b (λ d. F (a + d))
  for_add a zero F = ap (λ (n : ℕ). for_below n F) (let z : a + 0 ≡ a = omega arith in z) ∙ sym (no_more (for_below a F))
  for_add a (suc b) F =
      ap (λ (n : ℕ). for_below n F) (let z : a + suc b ≡ suc (a + b) = omega arith in z) ∙ ap (λ (xs : List A). xs ++ F (a + b)) (for_add a b F)
      ∙ append_assoc (for_below a F) (for_below b (λ d. F (a + d))) (F (a + b))

  for_product : (a b : ℕ) (F : ℕ → List A) → for_below (a * b) F ≡ for_below a (λ i. for_below b (λ d. F (i * b + d)))
  for_product zero b F = ap (λ (n : ℕ). for_below n F) (let z : 0 * b ≡ 0 = omega arith in z)
  for_product (suc a) b F =
      ap (λ (n : ℕ). for_below n F) (step a b) ∙ for_add (a * b) b F ∙ ap (λ (xs : List A). xs ++ for_below b (λ d. F (a * b + d))) (for_product a b F)
    where
      step : (a b : ℕ) → suc a * b ≡ a * b + b
      step a b = suc-mul a b

  each_append : {B : Type 0} (xs ys : List B) (f : B → List A) → for_each (xs ++ ys) f ≡ for_each xs f ++ for_each ys f
  each_append [] ys f = refl
  each_append (x ∷ xs) ys f = ap (λ (zs : List A). f x ++ zs) (each_append xs ys f) ∙ sym (append_assoc (f x) (for_each xs f) (for_each ys f))

  each_each : {B C : Type 0} (xs : List C) (k : C → List B) (f : B → List A) → for_each (for_each xs k) f ≡ for_each xs (λ x. for_each (k x) f)
  each_each [] k f = refl
  each_each (x ∷ xs) k f = each_append (k x) (for_each xs k) f ∙ ap (λ (zs : List A). for_each (k x) f ++ zs) (each_each xs k f)

  each_map : {B C : Type 0} (h : C → B) (xs : List C) (f : B → List A) → for_each (map h xs) f ≡ for_each xs (λ x. f (h x))
  each_map h [] f = refl
  each_map h (x ∷ xs) f = ap (λ (zs : List A). f (h x) ++ zs) (each_map h xs f)

  each_below : {B : Type 0} (n : ℕ) (F : ℕ → List B) (f : B → List A) → for_each (for_below n F) f ≡ for_below n (λ i. for_each (F i) f)
  each_below zero F f = refl
  each_below (suc n) F f = each_append (for_below n F) (F n) f ∙ ap (λ (zs : List A). zs ++ for_each (F n) f) (each_below n F f)

  map_append : {B : Type 0} (h : B → A) (xs ys : List B) → map h (xs ++ ys) ≡ map h xs ++ map h ys
  map_append h [] ys = refl
  map_append h (x ∷ xs) ys = ap (λ (zs : List A). h x ∷ zs) (map_append h xs ys)

  map_below : {B : Type 0} (h : B → A) (n : ℕ) (F : ℕ → List B) → map h (for_below n F) ≡ for_below n (λ i. map h (F i))
  map_below h zero F = refl
  map_below h (suc n) F = map_append h (for_below n F) (F n) ∙ ap (λ (zs : List A). zs ++ map h (F n)) (map_below h n F)

provided_below : (b : Bool) (n : ℕ) (F : ℕ → List Pattern) → for_below n (λ i. provided b (F i)) ≡ provided b (for_below n F)
provided_below true n F = refl
provided_below false n F = for_none n

-- ---- reading a message

abbrev own_in : ℕ → ℕ → List PathRead → ℕ → List (List PathRead)
own_in x v path i = (take (suc i) path ++ (record { variable = x; value = v; own = true } ∷ drop (suc i) path)) ∷ []

behind_numbered : (x v : ℕ) (path : List PathRead) → for_below (place_of x path) (own_in x v path) ≡ put_behind x v path
behind_numbered x v [] = refl
behind_numbered x v (r ∷ rs) = go (eqb r.variable x) (behind_numbered x v rs)
  where
    go : (b : Bool) → for_below (place_of x rs) (own_in x v rs) ≡ put_behind x v rs
        → for_below (cond b 0 (suc (place_of x rs))) (own_in x v (r ∷ rs))
        ≡ elim b [ true ↦ [] | false ↦ map (λ path. r ∷ path) ((record { variable = x; value = v; own = true } ∷ rs) ∷ put_behind x v rs) ]
    go true h = refl
    go false h =
        for_first (place_of x rs) (own_in x v (r ∷ rs))
        ∙ ap (λ (ps : List (List PathRead)). own_in x v (r ∷ rs) 0 ++ ps) (sym (map_below (λ path. r ∷ path) (place_of x rs) (own_in x v rs)) ∙ ap (map (λ path. r ∷ path)) h)

read_numbered_lem : (x v : ℕ) (path : List PathRead) → for_below (suc (place_of x path)) (read_numbered x v path) ≡ before_read x v path
read_numbered_lem x v path = for_first (place_of x path) (read_numbered x v path) ∙ go (first_own x path)
  where
    one : Option ℕ → ℕ → List (List PathRead)
    one o n = elim o [ some u ↦ cond (eqb n 0 && eqb u v) (path ∷ []) [] | none ↦ cond (leb n (place_of x path)) (inserted_at x v path n ∷ []) [] ]

    go : (o : Option ℕ) → one o 0 ++ for_below (place_of x path) (λ i. one o (suc i))
        ≡ elim o [ some u ↦ cond (eqb u v) (path ∷ []) [] | none ↦ (record { variable = x; value = v; own = false } ∷ path) ∷ put_behind x v path ]
    go (some u) =
        ap (λ (ps : List (List PathRead)). cond (eqb u v) (path ∷ []) [] ++ ps)
        (for_equal (place_of x path) (λ i. one (some u) (suc i)) (λ i. []) (λ i l. ap (λ (b : Bool). cond (b && eqb u v) (path ∷ []) []) (ne_eqb (suc i) 0 (λ e. omega arith))) ∙ for_none (place_of x path))
        ∙ no_more (cond (eqb u v) (path ∷ []) [])
    go none =
        ap₂ ◌++◌ (ap (λ (b : Bool). cond b ((record { variable = x; value = v; own = false } ∷ path) ∷ []) []) (le-leb 0 (place_of x path) (omega arith)))
        (for_equal (place_of x path) (λ i. one none (suc i)) (own_in x v path)
        (λ i l. ap₂ (λ (b c : Bool). cond b ((take (suc i) path ++ (record { variable = x; value = v; own = not c } ∷ drop (suc i) path)) ∷ []) []) (le-leb (suc i) (place_of x path) l) (ne_eqb (suc i) 0 (λ e. omega arith)))
        ∙ behind_numbered x v path)

-- ---- a new message

cut_numbered : (x : ℕ) (path : List PathRead)
    → for_below (suc (length path)) (λ c. cond (starts_at x path c) (record { front = take c path; end = drop c path } ∷ []) []) ≡ cuts x path
cut_numbered x [] = refl
cut_numbered x (r ∷ rs) =
    for_first (suc (length rs)) (λ c. cond (starts_at x (r ∷ rs) c) (record { front = take c (r ∷ rs); end = drop c (r ∷ rs) } ∷ []) [])
    ∙ ap (λ (ks : List Cut). cond (eqb r.variable x) (record { front = []; end = r ∷ rs } ∷ []) [] ++ ks)
    (for_equal (suc (length rs)) (λ c. cond (starts_at x rs c) (record { front = r ∷ take c rs; end = drop c rs } ∷ []) []) (λ c. map (behind r) (cond (starts_at x rs c) (record { front = take c rs; end = drop c rs } ∷ []) []))
    (λ c l. each (starts_at x rs c) c)
    ∙ sym (map_below (behind r) (suc (length rs)) (λ c. cond (starts_at x rs c) (record { front = take c rs; end = drop c rs } ∷ []) [])) ∙ ap (map (behind r)) (cut_numbered x rs))
  where
    each : (b : Bool) (c : ℕ) → cond b (record { front = r ∷ take c rs; end = drop c rs } ∷ []) [] ≡ map (behind r) (cond b (record { front = take c rs; end = drop c rs } ∷ []) [])
    each true c = refl
    each false c = refl

-- a list of at most one
pub data AtMostOne : List Cut → Type 0 where
  not_any : AtMostOne []
  just_one : {c : Cut} → AtMostOne (c ∷ [])

module _ (more : ℕ → ℕ) (cut : ℕ → ℕ → List Cut) (few : (q d : ℕ) → AtMostOne (cut q d)) where
  -- a number gives nothing whatever is made of it, or one choice
  abbrev Single : ℕ → ℕ → Type 0
  Single n j = ((to : (ℕ → Cut) → List Pattern) → picked more cut n j to ≡ []) ⊎ ((g : ℕ → Cut) × ((to : (ℕ → Cut) → List Pattern) → picked more cut n j to ≡ to g))

  single : (n j : ℕ) → Single n j
  single zero j = inr (λ q. record { front = []; end = [] }, λ to. refl)
  single (suc n) j = go (cut n (j % suc (more n))) (few n (j % suc (more n))) refl (single n (j / suc (more n)))
    where
      go : (cs : List Cut) → AtMostOne cs → cut n (j % suc (more n)) ≡ cs → Single n (j / suc (more n)) → Single (suc n) j
      go cs a e (inl h) = inl (λ to. h (λ g. for_each (cut n (j % suc (more n))) (λ c. to (put g n c))))
      go cs not_any e (inr (g, h)) = inl (λ to. h (λ g. for_each (cut n (j % suc (more n))) (λ c. to (put g n c))) ∙ ap (λ (ks : List Cut). for_each ks (λ c. to (put g n c))) e)
      go cs (just_one {c = c}) e (inr (g, h)) =
          inr (put g n c, λ to. h (λ g. for_each (cut n (j % suc (more n))) (λ c. to (put g n c))) ∙ ap (λ (ks : List Cut). for_each ks (λ c. to (put g n c))) e ∙ no_more (to (put g n c)))

  picked_below : (n j m : ℕ) (F : ℕ → (ℕ → Cut) → List Pattern) → picked more cut n j (λ g. for_below m (λ d. F d g)) ≡ for_below m (λ d. picked more cut n j (F d))
  picked_below n j m F = go (single n j)
    where
      go : Single n j → picked more cut n j (λ g. for_below m (λ d. F d g)) ≡ for_below m (λ d. picked more cut n j (F d))
      go (inl h) = h (λ g. for_below m (λ d. F d g)) ∙ sym (for_equal m (λ d. picked more cut n j (F d)) (λ d. []) (λ d l. h (F d)) ∙ for_none m)
      go (inr (g, h)) = h (λ g. for_below m (λ d. F d g)) ∙ sym (for_equal m (λ d. picked more cut n j (F d)) (λ d. F d g) (λ d l. h (F d)))

  choices_numbered : (f : ℕ → List Cut) → ((q : ℕ) → for_below (suc (more q)) (cut q) ≡ f q) → (n : ℕ) (to : (ℕ → Cut) → List Pattern)
      → for_below (many more n) (λ j. picked more cut n j to) ≡ for_each (choices n f) to
  choices_numbered f h zero to = sym (no_more (to (λ q. record { front = []; end = [] })))
  choices_numbered f h (suc n) to =
      for_product (many more n) (suc (more n)) (λ j. picked more cut (suc n) j to)
      ∙ for_equal (many more n) (λ i. for_below (suc (more n)) (λ d. picked more cut (suc n) (i * suc (more n) + d) to)) (λ i. picked more cut n i further) (λ i l. turn i)
      ∙ choices_numbered f h n further
      ∙ sym (each_each (choices n f) (λ g. map (put g n) (f n)) to ∙ ap (for_each (choices n f)) (fun_ext (λ g. each_map (put g n) (f n) to)))
    where
      further : (ℕ → Cut) → List Pattern
      further g = for_each (f n) (λ c. to (put g n c))

      turn : (i : ℕ) → for_below (suc (more n)) (λ d. picked more cut (suc n) (i * suc (more n) + d) to) ≡ picked more cut n i further
      turn i =
          for_equal (suc (more n)) (λ d. picked more cut (suc n) (i * suc (more n) + d) to) (λ d. picked more cut n i (λ g. for_each (cut n d) (λ c. to (put g n c))))
          (λ d l. ap₂ (λ (k o : ℕ). picked more cut n k (λ g. for_each (cut n o) (λ c. to (put g n c))))
          (mul-add-div_right {m = suc (more n)} (omega arith) i d ∙ (let z = div-eq_of_lt {n = d} {m = suc (more n)} l in let y : i + d / suc (more n) ≡ i = omega arith in y))
          (mul-add-mod_self_right i (suc (more n)) d ∙ mod-eq_of_lt l))
          ∙ sym (picked_below n i (suc (more n)) (λ d g. for_each (cut n d) (λ c. to (put g n c))))
          ∙ ap (picked more cut n i) (fun_ext (λ g. sym (each_below (suc (more n)) (cut n) (λ c. to (put g n c))) ∙ ap (λ (ks : List Cut). for_each ks (λ c. to (put g n c))) (h n)))

module _ (x : ℕ) (path : ℕ → List PathRead) (p : ℕ) (k : Cut) where
  few_cuts : (q d : ℕ) → AtMostOne (cuts_at x path p k q d)
  few_cuts q d = go (eqb q p) (starts_at x (path q) d)
    where
      go : (a b : Bool) → AtMostOne (cond a (k ∷ []) (cond b (record { front = take d (path q); end = drop d (path q) } ∷ []) []))
      go true b = just_one
      go false true = just_one
      go false false = not_any

  all_cuts : (q : ℕ) → for_below (suc (places_more path p q)) (cuts_at x path p k q) ≡ elim (eqb q p) [ true ↦ k ∷ [] | false ↦ cuts x (path q) ]
  all_cuts q = go (eqb q p)
    where
      go : (a : Bool) → for_below (suc (cond a 0 (length (path q)))) (λ c. cond a (k ∷ []) (cond (starts_at x (path q) c) (record { front = take c (path q); end = drop c (path q) } ∷ []) []))
          ≡ elim a [ true ↦ k ∷ [] | false ↦ cuts x (path q) ]
      go true = refl
      go false = cut_numbered x (path q)

pub message_numbered_lem : (S : Shape) (a : Pattern) (p x : ℕ) (k : Cut) (to : (ℕ → Option ℕ) → (ℕ → List PathRead) → List Pattern)
    → for_below (many (places_more a.path p) S.processes) (message_numbered S.processes a.newest a.path p x k to) ≡ new_message S a p x k to
message_numbered_lem S a p x k to =
    choices_numbered (places_more a.path p) (cuts_at x a.path p k) (few_cuts x a.path p k) (λ q. elim (eqb q p) [ true ↦ k ∷ [] | false ↦ cuts x (a.path q) ])
    (all_cuts x a.path p k) S.processes
    (λ g. elim (joined a.newest (for_below S.processes (λ q. (g q).end))) [ none ↦ [] | some newest ↦ to newest (λ q. (g q).front) ])

-- ---- each step

operation_numbered_lem : (S : Shape) (a : Pattern) (p : ℕ) (o : Operation) → for_below (operation_count S a p o) (operation_numbered S a p o) ≡ before_operation S a p o
operation_numbered_lem S a p Nop = refl
operation_numbered_lem S a p (Read x v) =
    for_first (suc (place_of x (a.path p))) (read_before a p x v)
    ∙ ap (λ (ps : List Pattern). from_option (waiting v (a.clue p x)) (with_clue a p x) ++ ps)
    (provided_below (can_empty (a.clue p x)) (suc (place_of x (a.path p))) (λ i. map (with_path (with_clue a p x empty) p) (read_numbered x v (a.path p) i))
    ∙ ap (provided (can_empty (a.clue p x)))
    (sym (map_below (with_path (with_clue a p x empty) p) (suc (place_of x (a.path p))) (read_numbered x v (a.path p))) ∙ ap (map (with_path (with_clue a p x empty) p)) (read_numbered_lem x v (a.path p))))
operation_numbered_lem S a p (Write x v) = refl
operation_numbered_lem S a p Mfence = refl
operation_numbered_lem S a p Sfence = refl
operation_numbered_lem S a p (Arw x old new) =
    provided_below (can_empty (a.clue p x)) (many (places_more a.path p) S.processes) (message_numbered S.processes a.newest a.path p x (record { front = []; end = a.path p }) (swapped a p x old new))
    ∙ ap (provided (can_empty (a.clue p x))) (message_numbered_lem S a p x (record { front = []; end = a.path p }) (swapped a p x old new))

pub before_numbered : BeforeNumbered
before_numbered P a (Take n) =
    let t = transition P n in
    let S = P.shape in
    provided_below (eqb (a.state t.process) t.to) (operation_count S a t.process t.operation) (λ j. map (λ b. with_state b t.process t.from) (operation_numbered S a t.process t.operation j))
    ∙ ap (provided (eqb (a.state t.process) t.to))
    (sym (map_below (λ b. with_state b t.process t.from) (operation_count S a t.process t.operation) (operation_numbered S a t.process t.operation))
    ∙ ap (map (λ b. with_state b t.process t.from)) (operation_numbered_lem S a t.process t.operation))
before_numbered P a (Serialise p x) = message_numbered_lem P.shape a p x (own_cut x (a.path p)) (serialised a p x)
before_numbered P a (Update p) = refl

-- ---- a test of all predecessors is a loop over their numbers

every_append : {A : Type 0} (f : A → Bool) (xs ys : List A) → every f (xs ++ ys) ≡ (every f xs && every f ys)
every_append f [] ys = refl
every_append f (x ∷ xs) ys = go (f x) (every_append f xs ys)
  where
    go : (b : Bool) → every f (xs ++ ys) ≡ (every f xs && every f ys)
        → elim b [ true ↦ every f (xs ++ ys) | false ↦ false ] ≡ (elim b [ true ↦ every f xs | false ↦ false ] && every f ys)
    go true h = h
    go false h = refl

pub every_below : {A : Type 0} (f : A → Bool) (n : ℕ) (F : ℕ → List A) → every f (for_below n F) ≡ all_below n (λ j. every f (F j))
every_below f zero F = refl
every_below f (suc n) F = every_append f (for_below n F) (F n) ∙ ap (λ (b : Bool). b && every f (F n)) (every_below f n F)

pub every_before : EveryBefore
every_before f P a s = ap (every f) (sym (before_numbered P a s)) ∙ every_below f (step_count P a s) (step_numbered P a s)
