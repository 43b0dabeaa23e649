-- The order on configurations is almost full: local states are finitely many, queues and the tagged channel are words over finite alphabets.
use Prim.Native.Nat.{ℕ, zero, suc, ◌<◌, ◌≤◌}
use mathlib.Core.Path.{◌≡◌, refl, sym, ap, subst, ◌∙◌}
use mathlib.Core.Logic.{◌⊎◌, inl, inr, ⊎_elim}
use mathlib.Core.Bool.{Bool, true, false, cond}
use mathlib.Core.Option.{Option, none, some}
use mathlib.Core.List.{List, [], ◌∷◌, Sublistᴰ}
use native.Mathlib.Omega.{arith}
use native.Mathlib.Decide.{dec_lt, ℕ_discrete}
use lib.ListN.{length, get_or}
use lib.Dec.{eqb}
use Rattle.machine_pws.specs.declared.Message.{Message}
use Rattle.machine_pws.specs.Program.{Shape, Program}
use Rattle.machine_pws.specs.Machine.{Memory, message, last_write, newest_waiting}
use Rattle.machine_pws.specs.Configurations.{All, ValueOf, MessageIn}
use Rattle.machine_pws.specs.Order.{QueueBelow, Below}
use Rattle.machine_pws.specs.Tagged.{table, roles, is_live_at, Tagged, tagged_from, tagged}
use Rattle.machine_pws.proofs.Facts.{message_old, message_new, proper}
use Rattle.machine_pws.proofs.Preorder.{below_refl, below_trans}
use Rattle.machine_pws.proofs.Tagged.{below_tagged}
use Rattle.list_exists.specs.AlmostFull.{AlmostFull}
use Rattle.list_exists.specs.Order.{Of, BelowOf, BelowAlmostFull, BelowDecided, LeastConfigurations}
use Rattle.list_exists.proofs.AlmostFull.{of_image, bigger, ramsey, all_below, equal_numbers}
use Rattle.list_exists.proofs.Higman.{Embedding, nothing, skip, keep, higman_numbers}
use Rattle.list_exists.proofs.Numbering.{Numbering, clip, clip_below, clip_same, observed, observed_same, two, two_same, many, many_same, same_list_lem, Each, embedded}
use Rattle.list_exists.proofs.Search.{not_without_basis}

-- ---- queues

-- the number of a last value, or of none
abbrev last_number : ℕ → Option ℕ → ℕ
last_number n none = 0
last_number n (some x) = suc (clip n x)

last_below : (n : ℕ) (o : Option ℕ) → last_number n o < suc (suc n)
last_below n none = omega arith
last_below n (some x) = omega (arith, clip_below n x)

abbrev Least : ℕ → Option ℕ → Type 0
Least n none = Unit {0}
Least n (some x) = x < n

last_same : (n : ℕ) (a b : Option ℕ) → Least n a → Least n b → last_number n a ≡ last_number n b → a ≡ b
last_same n none none l m e = refl
last_same n none (some y) l m e = absurd (omega (arith, e))
last_same n (some x) none l m e = absurd (omega (arith, e))
last_same n (some x) (some y) l m e = ap some (clip_same n x y l m (omega (arith, e)))

last_least : (n : ℕ) (xs : List ℕ) → All (λ x. x < n) xs → Least n (newest_waiting xs)
last_least n [] o = tt
last_least n (x ∷ []) o = o.0
last_least n (x ∷ y ∷ ys) o = last_least n (y ∷ ys) o.1

each_of : (F : ℕ → Type 0) (xs : List ℕ) → All F xs → Each F xs
each_of F [] o = tt
each_of F (x ∷ xs) o = (o.0, each_of F xs o.1)

-- up to numbers of the values
abbrev QueueNumbers : ℕ → List ℕ → List ℕ → Type 0
QueueNumbers n xs ys = Embedding (clip n) xs ys × (last_number n (newest_waiting xs) ≡ last_number n (newest_waiting ys))

queue_numbers : (n : ℕ) → AlmostFull (QueueNumbers n)
queue_numbers n =
    ramsey (List ℕ) (Embedding (clip n)) (λ xs ys. last_number n (newest_waiting xs) ≡ last_number n (newest_waiting ys))
    (higman_numbers (suc n) (clip n) (clip_below n))
    (equal_numbers (suc (suc n)) (λ xs. last_number n (newest_waiting xs)) (λ xs. last_below n (newest_waiting xs)))

queue_below : (n : ℕ) (xs ys : List ℕ) → All (λ x. x < n) xs → All (λ x. x < n) ys → QueueNumbers n xs ys → QueueBelow xs ys
queue_below n xs ys o p e =
    record {
      subsequence = embedded (clip n) (λ x. x < n) (clip_same n) (each_of (λ x. x < n) xs o) (each_of (λ x. x < n) ys p) e.0;
      end = last_same n (newest_waiting xs) (newest_waiting ys) (last_least n xs o) (last_least n ys p) e.1;
    }

-- ---- tagged messages

abbrev bit : Bool → ℕ
bit true = 1
bit false = 0

bit_below : (b : Bool) → bit b < 2
bit_below true = omega arith
bit_below false = omega arith

bit_same : (a b : Bool) → bit a ≡ bit b → a ≡ b
bit_same true true e = refl
bit_same true false e = absurd (omega (arith, e))
bit_same false true e = absurd (omega (arith, e))
bit_same false false e = refl

pub table_length : {A : Type 0} (n : ℕ) (f : ℕ → A) → length (table n f) ≡ n
table_length zero f = refl
table_length (suc n) f = ap suc (table_length n f)

-- each of a table's entries is one of the function's
table_each : {A : Type 0} (F : A → Type 0) (n : ℕ) (f : ℕ → A) (d : A) → ((i : ℕ) → F (f i)) → (i : ℕ) → i < n → F (get_or (table n f) i d)
table_each F zero f d h i l = absurd (omega arith)
table_each F (suc n) f d h zero l = h n
table_each F (suc n) f d h (suc i) l = table_each F n f d h i (omega arith)

module _ (S : Shape) where
  -- the form of a tagged message
  record Letter (t : Tagged) : Type 0 where
    message : MessageIn (ValueOf S) S t.message
    rows : length t.roles ≡ S.processes
    row : (p : ℕ) → p < S.processes → length (get_or t.roles p []) ≡ suc S.variables

  of_process : Numbering Tagged
  of_process = observed S.processes (λ t. t.message.process)

  of_variable : Numbering Tagged
  of_variable = observed S.variables (λ t. t.message.variable)

  of_values : Numbering Tagged
  of_values = many S.variables (λ v. observed (S.values v) (λ t. get_or t.message.snapshot v 0))

  of_roles : Numbering Tagged
  of_roles = many S.processes (λ p. many (suc S.variables) (λ v. observed 2 (λ t. bit (get_or (get_or t.roles p []) v false))))

  letter : Numbering Tagged
  letter = two (two of_process of_variable) (two of_values of_roles)

  letter_same : (t u : Tagged) → Letter t → Letter u → letter.code t ≡ letter.code u → t ≡ u
  unfolding letter of_process of_variable of_values of_roles
  letter_same t u a b e = λ i. record { message = record { process = process i; variable = variable i; snapshot = snapshot i }; roles = rows i }
    where
      labels : (of_process.code t ≡ of_process.code u) × (of_variable.code t ≡ of_variable.code u)
      labels = two_same of_process of_variable t u (two_same (two of_process of_variable) (two of_values of_roles) t u e).0

      rest : (of_values.code t ≡ of_values.code u) × (of_roles.code t ≡ of_roles.code u)
      rest = two_same of_values of_roles t u (two_same (two of_process of_variable) (two of_values of_roles) t u e).1

      process : t.message.process ≡ u.message.process
      process = observed_same S.processes (λ t. t.message.process) t u labels.0 a.message.process b.message.process

      variable : t.message.variable ≡ u.message.variable
      variable = observed_same S.variables (λ t. t.message.variable) t u labels.1 a.message.variable b.message.variable

      value : (v : ℕ) → get_or t.message.snapshot v 0 ≡ get_or u.message.snapshot v 0
      value v = elim (dec_lt v S.variables) [
        | yes l ↦ observed_same (S.values v) (λ t. get_or t.message.snapshot v 0) t u
            (many_same S.variables (λ v. observed (S.values v) (λ t. get_or t.message.snapshot v 0)) t u rest.0 v l)
            (a.message.values v l) (b.message.values v l)
        | no l ↦ a.message.absent v (omega arith) ∙ sym (b.message.absent v (omega arith))
      ]

      snapshot : t.message.snapshot ≡ u.message.snapshot
      snapshot = same_list_lem 0 t.message.snapshot u.message.snapshot (a.message.room ∙ sym b.message.room) (λ v l. value v)

      role : (p v : ℕ) → p < S.processes → v < suc S.variables → get_or (get_or t.roles p []) v false ≡ get_or (get_or u.roles p []) v false
      role p v l m =
          bit_same (get_or (get_or t.roles p []) v false) (get_or (get_or u.roles p []) v false)
          (observed_same 2 (λ t. bit (get_or (get_or t.roles p []) v false)) t u
          (many_same (suc S.variables) (λ v. observed 2 (λ t. bit (get_or (get_or t.roles p []) v false))) t u
          (many_same S.processes (λ p. many (suc S.variables) (λ v. observed 2 (λ t. bit (get_or (get_or t.roles p []) v false)))) t u rest.1 p l) v m)
          (bit_below (get_or (get_or t.roles p []) v false)) (bit_below (get_or (get_or u.roles p []) v false)))

      rows : t.roles ≡ u.roles
      rows = same_list_lem [] t.roles u.roles (a.rows ∙ sym b.rows) (λ p l.
          let k : p < S.processes = omega (arith, a.rows) in
          same_list_lem false (get_or t.roles p []) (get_or u.roles p []) (a.row p k ∙ sym (b.row p k)) (λ v m. role p v k (omega (arith, a.row p k))))

  tag_letter : (m : Memory) (x : Message) (i : ℕ) → MessageIn (ValueOf S) S x → Letter (record { message = x; roles = roles S m i })
  tag_letter m x i o =
      let bits : ℕ → List Bool = λ p. eqb (m.pointer p) i ∷ table S.variables (λ v. eqb (last_write m p v) i) in
      record {
        message = o;
        rows = table_length S.processes bits;
        row = table_each (λ r. length r ≡ suc S.variables) S.processes bits [] (λ p. ap suc (table_length S.variables (λ v. eqb (last_write m p v) i)));
      }

  tagged_letters : (m : Memory) (xs : List Message) → ((i : ℕ) → 1 ≤ i → i ≤ length xs → MessageIn (ValueOf S) S (message xs i)) → Each Letter (tagged_from S m xs)
  tagged_letters m [] o = tt
  tagged_letters m (x ∷ xs) o =
      go (is_live_at S m (suc (length xs))) (tagged_from S m xs)
      (tag_letter m x (suc (length xs)) (subst (MessageIn (ValueOf S) S) (message_new x xs) (o (suc (length xs)) (omega arith) (omega arith))))
      (tagged_letters m xs (λ i a b. subst (MessageIn (ValueOf S) S) (message_old x xs i b) (o i a (omega arith))))
    where
      go : (b : Bool) {t : Tagged} (ts : List Tagged) → Letter t → Each Letter ts → Each Letter (cond b (t ∷ ts) [])
      go true ts l r = (l, r)
      go false ts l r = tt

-- ---- configurations

module _ (P : Program) where
  abbrev S : Shape
  S = P.shape

  -- up to numbers
  record Numbers (c d : Of P) : Type 0 where
    states : (p : ℕ) → p < S.processes → clip (P.states p) (c.0.state p) ≡ clip (P.states p) (d.0.state p)
    queues : (p : ℕ) → p < S.processes → (v : ℕ) → v < S.variables → QueueNumbers (S.values v) (c.0.queue p v) (d.0.queue p v)
    channel : Embedding (letter S).code (tagged S c.0.memory) (tagged S d.0.memory)

  numbers_below : (c d : Of P) → Numbers c d → Below S c.0 d.0
  numbers_below c d n =
      (below_tagged S c.0 d.0 (proper c.1.fits.memory) (proper d.1.fits.memory)).1
      (record {
        states = λ p l. clip_same (P.states p) (c.0.state p) (d.0.state p) (c.1.states.exist p l) (d.1.states.exist p l) (n.states p l);
        queues = λ p v l m. queue_below (S.values v) (c.0.queue p v) (d.0.queue p v) (c.1.fits.queues.values p v l m) (d.1.fits.queues.values p v l m) (n.queues p l v m);
        channel = embedded (letter S).code (Letter S) (letter_same S)
            (tagged_letters S c.0.memory c.0.memory.channel c.1.fits.memory.messages)
            (tagged_letters S d.0.memory d.0.memory.channel d.1.fits.memory.messages) n.channel;
      })

  states_numbers : AlmostFull {A = Of P} (λ c d. (p : ℕ) → p < S.processes → clip (P.states p) (c.0.state p) ≡ clip (P.states p) (d.0.state p))
  states_numbers =
      all_below S.processes (λ p c d. clip (P.states p) (c.0.state p) ≡ clip (P.states p) (d.0.state p))
      (λ p l. equal_numbers (suc (P.states p)) (λ c. clip (P.states p) (c.0.state p)) (λ c. clip_below (P.states p) (c.0.state p)))

  queues_numbers : AlmostFull {A = Of P} (λ c d. (p : ℕ) → p < S.processes → (v : ℕ) → v < S.variables → QueueNumbers (S.values v) (c.0.queue p v) (d.0.queue p v))
  queues_numbers =
      all_below S.processes (λ p c d. (v : ℕ) → v < S.variables → QueueNumbers (S.values v) (c.0.queue p v) (d.0.queue p v))
      (λ p l. all_below S.variables (λ v c d. QueueNumbers (S.values v) (c.0.queue p v) (d.0.queue p v))
      (λ v m. of_image (λ c. c.0.queue p v) (λ c d. QueueNumbers (S.values v) (c.0.queue p v) (d.0.queue p v)) (λ c d e. e) (queue_numbers (S.values v))))

  channel_numbers : AlmostFull {A = Of P} (λ c d. Embedding (letter S).code (tagged S c.0.memory) (tagged S d.0.memory))
  channel_numbers =
      of_image (λ c. tagged S c.0.memory) (λ c d. Embedding (letter S).code (tagged S c.0.memory) (tagged S d.0.memory)) (λ c d e. e)
      (higman_numbers (letter S).size (letter S).code (letter S).below)

  all_numbers : AlmostFull {A = Of P} (λ c d. Below S c.0 d.0)
  all_numbers =
      bigger (λ c d. Below S c.0 d.0) (λ c d r. numbers_below c d (record { states = r.0; queues = r.1.0; channel = r.1.1 }))
      (ramsey (Of P) (λ c d. (p : ℕ) → p < S.processes → clip (P.states p) (c.0.state p) ≡ clip (P.states p) (d.0.state p))
      (λ c d.
      ((p : ℕ) → p < S.processes → (v : ℕ) → v < S.variables → QueueNumbers (S.values v) (c.0.queue p v) (d.0.queue p v))
      × Embedding (letter S).code (tagged S c.0.memory) (tagged S d.0.memory))
      states_numbers
      (ramsey (Of P) (λ c d. (p : ℕ) → p < S.processes → (v : ℕ) → v < S.variables → QueueNumbers (S.values v) (c.0.queue p v) (d.0.queue p v))
      (λ c d. Embedding (letter S).code (tagged S c.0.memory) (tagged S d.0.memory)) queues_numbers channel_numbers))

pub below_almost_full : BelowAlmostFull
below_almost_full P = all_numbers P

-- ---- and it is decided

pub decided_as : {A B : Type 0} → (A → B) → (B → A) → Dec A → Dec B
decided_as f g (yes a) = yes (f a)
decided_as f g (no n) = no (λ b. n (g b))

pub both_decided : {A B : Type 0} → Dec A → Dec B → Dec (A × B)
both_decided (yes a) (yes b) = yes (a, b)
both_decided (yes a) (no n) = no (λ r. n r.1)
both_decided (no n) d = no (λ r. n r.0)

either_decided : {A B : Type 0} → Dec A → Dec B → Dec (A ⊎ B)
either_decided (yes a) d = yes (inl a)
either_decided (no n) (yes b) = yes (inr b)
either_decided (no n) (no m) = no (⊎_elim n m)

pub all_decided : (n : ℕ) (F : ℕ → Type 0) → ((i : ℕ) → i < n → Dec (F i)) → Dec ((i : ℕ) → i < n → F i)
all_decided zero F d = yes (λ i l. absurd (omega arith))
all_decided (suc n) F d =
    decided_as {B = (i : ℕ) → i < suc n → F i} (λ r i l. elim (ℕ_discrete i n) [ yes e ↦ rw e r.0 | no e ↦ r.1 i (omega arith) ]) (λ f. (f n (omega arith), λ i l. f i (omega arith)))
    (both_decided (d n (omega arith)) (all_decided n F (λ i l. d i (omega arith))))

module _ {A : Type 0} (f : A → ℕ) where
  no_embedding : {x : A} {xs : List A} → Embedding f (x ∷ xs) [] → ⊥
  no_embedding e = elim e [ ]

  empty_embedding : (ys : List A) → Embedding f [] ys
  empty_embedding [] = nothing
  empty_embedding (y ∷ ys) = skip (empty_embedding ys)

  embedding_cases : {x y : A} {xs ys : List A} → Embedding f (x ∷ xs) (y ∷ ys) → Embedding f (x ∷ xs) ys ⊎ ((f x ≡ f y) × Embedding f xs ys)
  embedding_cases (skip e) = inl e
  embedding_cases (keep q e) = inr (q, e)

  embedding_decided : (ys xs : List A) → Dec (Embedding f xs ys)
  embedding_decided ys [] = yes (empty_embedding ys)
  embedding_decided [] (x ∷ xs) = no no_embedding
  embedding_decided (y ∷ ys) (x ∷ xs) =
      decided_as (⊎_elim skip (λ r. keep r.0 r.1)) embedding_cases
      (either_decided (embedding_decided ys (x ∷ xs)) (both_decided (ℕ_discrete (f x) (f y)) (embedding_decided ys xs)))

  sublist_embedding : {xs ys : List A} → Sublistᴰ xs ys → Embedding f xs ys
  sublist_embedding Sublistᴰ.slnil = nothing
  sublist_embedding (Sublistᴰ.cons s) = skip (sublist_embedding s)
  sublist_embedding (Sublistᴰ.cons-cons e s) = keep (ap f e) (sublist_embedding s)

module _ (P : Program) where
  below_numbers : (c d : Of P) → Below P.shape c.0 d.0 → Numbers P c d
  below_numbers c d B =
      let S = P.shape in
      let t = (below_tagged S c.0 d.0 (proper c.1.fits.memory) (proper d.1.fits.memory)).0 B in
      record {
        states = λ p l. ap (clip (P.states p)) (t.states p l);
        queues = λ p l v m. (sublist_embedding (clip (S.values v)) (t.queues p v l m).subsequence, ap (last_number (S.values v)) (t.queues p v l m).end);
        channel = sublist_embedding (letter S).code t.channel;
      }

  numbers_decided : (c d : Of P) → Dec (Numbers P c d)
  numbers_decided c d =
      let S = P.shape in
      decided_as (λ r. record { states = r.0; queues = r.1.0; channel = r.1.1 }) (λ n. (n.states, (n.queues, n.channel)))
      (both_decided
      (all_decided S.processes (λ p. clip (P.states p) (c.0.state p) ≡ clip (P.states p) (d.0.state p)) (λ p l. ℕ_discrete (clip (P.states p) (c.0.state p)) (clip (P.states p) (d.0.state p))))
      (both_decided
      (all_decided S.processes (λ p. (v : ℕ) → v < S.variables → QueueNumbers (S.values v) (c.0.queue p v) (d.0.queue p v))
      (λ p l. all_decided S.variables (λ v. QueueNumbers (S.values v) (c.0.queue p v) (d.0.queue p v))
      (λ v m. both_decided (embedding_decided (clip (S.values v)) (d.0.queue p v) (c.0.queue p v))
      (ℕ_discrete (last_number (S.values v) (newest_waiting (c.0.queue p v))) (last_number (S.values v) (newest_waiting (d.0.queue p v)))))))
      (embedding_decided (letter S).code (tagged S d.0.memory) (tagged S c.0.memory))))

pub below_decided : BelowDecided
below_decided P =
    record {
      reflexive = λ c. below_refl P.shape c.0;
      transitive = λ b c d. below_trans;
      decided = λ c d. decided_as (numbers_below P c d) (below_numbers P c d) (numbers_decided P c d);
    }

pub least_configurations : LeastConfigurations
least_configurations P U = not_without_basis (Of P) (BelowOf P) (below_almost_full P) (below_decided P) U
