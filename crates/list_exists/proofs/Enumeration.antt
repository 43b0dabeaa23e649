-- Finitely many configurations of a program have no more than so many messages and waiting values.
use Prim.Native.Nat.{ℕ, zero, suc, ◌<◌, ◌≤◌}
use mathlib.Core.Path.{◌≡◌, refl, sym, ap, subst, ◌∙◌, fun_ext}
use mathlib.Core.Logic.{inl, inr, ⊎_elim}
use mathlib.Core.List.Memᴰ
use mathlib.Core.List.{List, [], ◌∷◌, Memᴰ}
use native.Mathlib.Omega.{arith}
use native.Mathlib.Decide.{dec_lt, ℕ_discrete}
use lib.ListN.{length, get_or, get_or-eq_default}
use Rattle.machine_pws.specs.declared.Message.{Message}
use Rattle.machine_pws.specs.Program.{Shape, WellFormedShape, Program}
use Rattle.machine_pws.specs.Machine.{Memory, Configuration, put, message}
use Rattle.machine_pws.specs.Configurations.{All, ValueOf, MessageIn, MemoryIn, QueuesIn, StatesOf, ConfigurationOf}
use Rattle.machine_pws.proofs.Facts.{put_same, put_other, message_old, message_new, message_each}
use Rattle.list_theory.specs.Lists.{for_each}
use Rattle.list_theory.proofs.Lists.{in_each, each_in}
use Rattle.list_exists.proofs.Numbering.{Each}

-- the elements with Q, as a list
pub record Listed {A : Type 0} (Q : A → Type 0) : Type 0 where
  pub list : List A
  pub sound : (a : A) → Memᴰ a list → Q a
  pub complete : (a : A) → Q a → Memᴰ a list

pub one : {A : Type 0} (Q : A → Type 0) (d : A) → Q d → ((a : A) → Q a → a ≡ d) → Listed Q
one Q d q e =
    record {
      list = d ∷ [];
      sound = λ a m. ⊎_elim (λ p. subst Q (sym p) q) (λ t. absurd (Memᴰ.not-nil t)) (Memᴰ.cases_cons m);
      complete = λ a o. Memᴰ.head (e a o);
    }

-- made of two, of which the second may depend on the first
pub made : {A B C : Type 0} {Q : A → Type 0} {R : A → B → Type 0} (F : C → Type 0) (g : A → B → C) → ((a : A) (b : B) → Q a → R a b → F (g a b))
    → ((c : C) → F c → (a : A) × (b : B) × Q a × R a b × (c ≡ g a b)) → Listed Q → ((a : A) → Listed (R a)) → Listed F
made {B = B} {C = C} F g f h L M =
    record {
      list = for_each L.list (λ a. for_each (M a).list (λ b. g a b ∷ []));
      sound = λ c m.
          let r = each_in L.list (λ a. for_each (M a).list (λ b. g a b ∷ [])) m in
          let s = each_in (M r.0).list (λ b. g r.0 b ∷ []) r.2 in
          ⊎_elim (λ e. subst F (sym e) (f r.0 s.0 (L.sound r.0 r.1) ((M r.0).sound s.0 s.1))) (λ t. absurd (Memᴰ.not-nil t)) (Memᴰ.cases_cons s.2);
      complete = λ c o.
          let r = h c o in
          in_each L.list (λ a. for_each (M a).list (λ b. g a b ∷ [])) (L.complete r.0 r.2)
          (in_each (M r.0).list (λ b. g r.0 b ∷ []) ((M r.0).complete r.1 r.3) (Memᴰ.head r.4));
    }

pub numbers : (n : ℕ) → Listed (λ x. x < n)
numbers zero = record { list = []; sound = λ a m. absurd (Memᴰ.not-nil m); complete = λ a l. absurd (omega arith) }
numbers (suc n) =
    let L = numbers n in
    record {
      list = n ∷ L.list;
      sound = λ a m. ⊎_elim (λ e. omega arith) (λ t. omega (arith, L.sound a t)) (Memᴰ.cases_cons m);
      complete = λ a l. elim (ℕ_discrete a n) [ yes e ↦ Memᴰ.head e | no e ↦ Memᴰ.tail (L.complete a (omega arith)) ];
    }

-- ---- functions of the numbers below n, and lists

abbrev Function : {A : Type 0} → ℕ → (ℕ → A → Type 0) → A → (ℕ → A) → Type 0
Function n Q d f = ((i : ℕ) → i < n → Q i (f i)) × ((i : ℕ) → n ≤ i → f i ≡ d)

pub functions : {A : Type 0} (n : ℕ) (Q : ℕ → A → Type 0) (d : A) → ((i : ℕ) → Listed (Q i)) → Listed (Function n Q d)
functions zero Q d L = one (Function zero Q d) (λ i. d) (λ i l. absurd (omega arith), λ i l. refl) (λ f o. fun_ext (λ i. o.1 i (omega arith)))
functions {A} (suc n) Q d L = made {Q = Function n Q d} {R = λ f. Q n} (Function (suc n) Q d) (λ f a. put f n a)
    (λ f a o q. (
      λ i l. elim (ℕ_discrete i n) [
        | yes e ↦ rw e (subst (Q n) (sym (put_same f n a)) q)
        | no e ↦ subst (Q i) (sym (put_other f n a i e)) (o.0 i (omega arith))
      ],
      λ i l. put_other f n a i (omega arith) ∙ o.1 i (omega arith),
    ))
    (λ f o. (
      put f n d,
      f n,
      (
        λ i l. subst (Q i) (sym (put_other f n d i (omega arith))) (o.0 i (omega arith)),
        λ i l. elim (ℕ_discrete i n) [ yes e ↦ rw e (put_same f n d) | no e ↦ put_other f n d i e ∙ o.1 i (omega arith) ],
      ),
      o.0 n (omega arith),
      fun_ext (λ i. elim (ℕ_discrete i n) [
        | yes e ↦ rw e (sym (put_same (put f n d) n (f n)))
        | no e ↦ sym (put_other (put f n d) n (f n) i e ∙ put_other f n d i e)
      ]),
    ))
    (functions n Q d L) (λ f. L n)

abbrev UpTo : {A : Type 0} → ℕ → (A → Type 0) → List A → Type 0
UpTo n Q xs = (length xs ≤ n) × Each Q xs

abbrev Longer : {A : Type 0} → ℕ → (A → Type 0) → List A → Type 0
Longer n Q xs = (1 ≤ length xs) × UpTo (suc n) Q xs

pub lists : {A : Type 0} (n : ℕ) (Q : A → Type 0) → Listed Q → Listed (UpTo n Q)
lists {A} zero Q L = one (UpTo zero Q) [] (omega arith, tt) go
  where
    go : (xs : List A) → UpTo zero Q xs → xs ≡ []
    go [] o = refl
    go (x ∷ xs) o = absurd (omega (arith, o.0))
lists {A} (suc n) Q L =
    let M = more (lists n Q L) in
    record {
      list = [] ∷ M.list;
      sound = λ xs m. ⊎_elim (λ e. subst (UpTo (suc n) Q) (sym e) (omega arith, tt)) (λ t. (M.sound xs t).1) (Memᴰ.cases_cons m);
      complete = go M;
    }
  where
    split : (xs : List A) → Longer n Q xs → (a : A) × (ys : List A) × Q a × UpTo n Q ys × (xs ≡ a ∷ ys)
    split [] o = absurd (omega (arith, o.0))
    split (x ∷ xs) o = (x, xs, o.1.1.0, (omega (arith, o.1.0), o.1.1.1), refl)

    more : Listed (UpTo n Q) → Listed (Longer n Q)
    more M = made (Longer n Q) (λ x xs. x ∷ xs) (λ x xs q o. (omega arith, (omega (arith, o.0), (q, o.1)))) split L (λ x. M)

    go : (M : Listed (Longer n Q)) (xs : List A) → UpTo (suc n) Q xs → Memᴰ xs ([] ∷ M.list)
    go M [] o = Memᴰ.head refl
    go M (x ∷ xs) o = Memᴰ.tail (M.complete (x ∷ xs) (omega arith, o))

-- a list of n places, with Q i at place i
abbrev Row : ℕ → (ℕ → ℕ → Type 0) → List ℕ → Type 0
Row n Q xs = (length xs ≡ n) × ((i : ℕ) → i < n → Q i (get_or xs i 0))

pub rows : (n : ℕ) (Q : ℕ → ℕ → Type 0) → ((i : ℕ) → Listed (Q i)) → Listed (Row n Q)
rows zero Q L = one (Row zero Q) [] (refl, λ i l. absurd (omega arith)) go
  where
    go : (xs : List ℕ) → Row zero Q xs → xs ≡ []
    go [] o = refl
    go (x ∷ xs) o = absurd (omega (arith, o.0))
rows (suc n) Q L = made (Row (suc n) Q) (λ x xs. x ∷ xs) (λ x xs q o. (ap suc o.0, place x xs q o.1)) split (L 0) (λ x. rows n (λ i. Q (suc i)) (λ i. L (suc i)))
  where
    place : (x : ℕ) (xs : List ℕ) → Q 0 x → ((i : ℕ) → i < n → Q (suc i) (get_or xs i 0)) → (i : ℕ) → i < suc n → Q i (get_or (x ∷ xs) i 0)
    place x xs q o zero l = q
    place x xs q o (suc i) l = o i (omega arith)

    split : (xs : List ℕ) → Row (suc n) Q xs → (a : ℕ) × (ys : List ℕ) × Q 0 a × Row n (λ i. Q (suc i)) ys × (xs ≡ a ∷ ys)
    split [] o = absurd (omega (arith, o.0))
    split (x ∷ xs) o = (x, xs, o.1 0 (omega arith), (omega (arith, o.0), λ i l. o.1 (suc i) (omega arith)), refl)

-- ---- configurations

each_all : (F : ℕ → Type 0) (xs : List ℕ) → Each F xs → All F xs
each_all F [] o = tt
each_all F (x ∷ xs) o = (o.0, each_all F xs o.1)

all_each : (F : ℕ → Type 0) (xs : List ℕ) → All F xs → Each F xs
all_each F [] o = tt
all_each F (x ∷ xs) o = (o.0, all_each F xs o.1)

each_message : (F : Message → Type 0) (ms : List Message) → Each F ms → (i : ℕ) → 1 ≤ i → i ≤ length ms → F (message ms i)
each_message F [] o i a b = absurd (omega arith)
each_message F (m ∷ ms) o i a b = message_each F m ms i b o.0 (each_message F ms o.1 i a)

message_all : (F : Message → Type 0) (ms : List Message) → ((i : ℕ) → 1 ≤ i → i ≤ length ms → F (message ms i)) → Each F ms
message_all F [] o = tt
message_all F (m ∷ ms) o = (
  subst F (message_new m ms) (o (suc (length ms)) (omega arith) (omega arith)),
  message_all F ms (λ i a b. subst F (message_old m ms i b) (o i a (omega arith))),
)

module _ (S : Shape) (R : WellFormedShape S) where
  -- a value of the place v of a snapshot
  abbrev PlaceValue : ℕ → ℕ → Type 0
  PlaceValue v x = (v < S.variables → x < S.values v) × (S.variables ≤ v → x ≡ 0)

  place_values : (v : ℕ) → Listed (PlaceValue v)
  place_values v = elim (dec_lt v S.variables) [
    | yes l ↦ let L = numbers (S.values v) in record { list = L.list; sound = λ x m. (λ l. L.sound x m, λ k. absurd (omega arith)); complete = λ x o. L.complete x (o.0 l) }
    | no l ↦ one (PlaceValue v) 0 (λ k. absurd (l k), λ k. refl) (λ x o. o.1 (omega arith))
  ]

  abbrev Label : ℕ × ℕ → Type 0
  Label l = (l.0 < S.processes) × (l.1 < S.variables)

  labels : Listed Label
  labels = made Label (λ p v. (p, v)) (λ p v a b. (a, b)) (λ l o. (l.0, l.1, o.0, o.1, refl)) (numbers S.processes) (λ p. numbers S.variables)

  pub messages : Listed (MessageIn (ValueOf S) S)
  messages = made (MessageIn (ValueOf S) S) (λ l xs. record { process = l.0; variable = l.1; snapshot = xs })
      (λ l xs a b. record {
        process = a.0;
        variable = a.1;
        room = b.0;
        values = λ v k. (b.1 v (omega (arith, R.variables))).0 k;
        absent = λ v k. elim (dec_lt v S.room) [ yes i ↦ (b.1 v i).1 k | no i ↦ get_or-eq_default xs 0 (omega (arith, b.0)) ];
      })
      (λ m o. ((m.process, m.variable), m.snapshot, (o.process, o.variable), (o.room, λ v l. (o.values v, o.absent v)), refl))
      labels (λ l. rows S.room PlaceValue place_values)

  abbrev Channel : ℕ → List Message → Type 0
  Channel n ms = (1 ≤ length ms) × UpTo n (MessageIn (ValueOf S) S) ms

  -- the numbers of messages
  places : (n : ℕ) → Listed (λ i. (1 ≤ i) × (i ≤ n))
  places n = made (λ i. (1 ≤ i) × (i ≤ n)) (λ i u. suc i) (λ i u l t. (omega arith, omega arith)) go (numbers n) (λ i. one (λ u. Unit {0}) tt tt (λ u t. refl))
    where
      go : (i : ℕ) → (1 ≤ i) × (i ≤ n) → (j : ℕ) × (u : Unit {0}) × (j < n) × Unit {0} × (i ≡ suc j)
      go zero l = absurd (omega (arith, l.0))
      go (suc j) l = (j, tt, omega (arith, l.1), tt, refl)

  abbrev SmallMemory : ℕ → Memory → Type 0
  SmallMemory n m = (length m.channel ≤ n) × MemoryIn (ValueOf S) S m

  some_messages : (n : ℕ) → Listed (Channel n)
  some_messages n = made (Channel n) (λ m ms. m ∷ ms) (λ m ms a b. (omega arith, (b.0, (a, b.1)))) split messages (λ m. go m)
    where
      go : (m : Message) → Listed (λ ms. (suc (length ms) ≤ n) × Each (MessageIn (ValueOf S) S) ms)
      go m = shorter n (λ k. lists k (MessageIn (ValueOf S) S) messages)
        where
          shorter : (n : ℕ) → ((k : ℕ) → Listed (UpTo k (MessageIn (ValueOf S) S))) → Listed (λ ms. (suc (length ms) ≤ n) × Each (MessageIn (ValueOf S) S) ms)
          shorter zero L = record { list = []; sound = λ a m. absurd (Memᴰ.not-nil m); complete = λ a o. absurd (omega (arith, o.0)) }
          shorter (suc k) L =
              record { list = (L k).list; sound = λ a m. let r = (L k).sound a m in (omega (arith, r.0), r.1); complete = λ a o. (L k).complete a (omega (arith, o.0), o.1) }

      split : (ms : List Message) → Channel n ms → (m : Message) × (ns : List Message) × MessageIn (ValueOf S) S m × ((suc (length ns) ≤ n) × Each (MessageIn (ValueOf S) S) ns) × (ms ≡ m ∷ ns)
      split [] o = absurd (omega (arith, o.0))
      split (m ∷ ns) o = (m, ns, o.1.1.0, (o.1.0, o.1.1.1), refl)

  pub memories : (n : ℕ) → Listed (SmallMemory n)
  memories n = made (SmallMemory n) (λ ms z. record { channel = ms; pointer = z })
      (λ ms z a b. (
        a.1.0,
        record {
          some = a.0;
          low = λ p l. (b.0 p l).0;
          high = λ p l. (b.0 p l).1;
          messages = each_message (MessageIn (ValueOf S) S) ms a.1.1;
          absent = b.1;
        },
      ))
      (λ m o. (
        m.channel,
        m.pointer,
        (o.1.some, (o.0, message_all (MessageIn (ValueOf S) S) m.channel o.1.messages)),
        (λ p l. (o.1.low p l, o.1.high p l), o.1.absent),
        refl,
      ))
      (some_messages n) (λ ms. functions S.processes (λ p i. (1 ≤ i) × (i ≤ length ms)) 0 (λ p. places (length ms)))

  -- no more than n values wait in a queue
  abbrev Short : ℕ → (ℕ → ℕ → List ℕ) → Type 0
  Short n Q = (p v : ℕ) → p < S.processes → v < S.variables → length (Q p v) ≤ n

  abbrev SmallQueues : ℕ → (ℕ → ℕ → List ℕ) → Type 0
  SmallQueues n Q = Short n Q × QueuesIn (ValueOf S) S Q

  abbrev QueueRow : ℕ → (ℕ → List ℕ) → Type 0
  QueueRow n q = Function S.variables (λ v. UpTo n (ValueOf S v)) [] q

  pub waiting : (n : ℕ) → Listed (SmallQueues n)
  waiting n =
      let L = functions S.processes (λ p. QueueRow n) (λ v. []) (λ p. functions S.variables (λ v. UpTo n (ValueOf S v)) [] (λ v. lists n (ValueOf S v) (numbers (S.values v)))) in
      record {
        list = L.list;
        sound = λ Q m.
            let o = L.sound Q m in (
              λ p v a b. ((o.0 p a).0 v b).0,
              record {
                values = λ p v a b. each_all (ValueOf S v) (Q p v) ((o.0 p a).0 v b).1;
                absent = λ p v. ⊎_elim (λ l. ap (λ (q : ℕ → List ℕ). q v) (o.1 p l)) (λ l. elim (dec_lt p S.processes) [
                  | yes a ↦ (o.0 p a).1 v l
                  | no a ↦ ap (λ (q : ℕ → List ℕ). q v) (o.1 p (omega arith))
                ]);
              },
            );
        complete = λ Q o. L.complete Q (
          λ p a. (λ v b. (o.0 p v a b, all_each (ValueOf S v) (Q p v) (o.1.values p v a b)), λ v l. o.1.absent p v (inr l)),
          λ p l. fun_ext (λ v. o.1.absent p v (inl l)),
        );
      }

-- no more than n messages, and no more than k values in a queue
pub record Small (P : Program) (n k : ℕ) (c : Configuration) : Type 0 where
  pub channel : length c.memory.channel ≤ n
  pub queues : (p v : ℕ) → p < P.shape.processes → v < P.shape.variables → length (c.queue p v) ≤ k

abbrev pub SmallOf : Program → ℕ → ℕ → Configuration → Type 0
SmallOf P n k c = Small P n k c × ConfigurationOf P c

module _ (P : Program) (R : WellFormedShape P.shape) where
  states : Listed (StatesOf P)
  states =
      let L = functions P.shape.processes (λ p x. x < P.states p) 0 (λ p. numbers (P.states p)) in
      record {
        list = L.list;
        sound = λ f m. let o = L.sound f m in record { exist = o.0; absent = o.1 };
        complete = λ f o. L.complete f (o.exist, o.absent);
      }

  abbrev SmallRest : ℕ → ℕ → (ℕ → ℕ → List ℕ) × Memory → Type 0
  SmallRest n k r = SmallQueues P.shape R k r.0 × SmallMemory P.shape R n r.1

  rests : (n k : ℕ) → Listed (SmallRest n k)
  rests n k = made (SmallRest n k) (λ Q m. (Q, m)) (λ Q m a b. (a, b)) (λ r o. (r.0, r.1, o.0, o.1, refl)) (waiting P.shape R k) (λ Q. memories P.shape R n)

  pub configurations : (n k : ℕ) → Listed (SmallOf P n k)
  configurations n k = made (SmallOf P n k) (λ f r. record { state = f; queue = r.0; memory = r.1 })
      (λ f r a b. (record { channel = b.1.0; queues = b.0.0 }, record { states = a; fits = record { memory = b.1.1; queues = b.0.1 } }))
      (λ c o. (c.state, (c.queue, c.memory), o.1.states, ((o.0.queues, o.1.fits.queues), (o.0.channel, o.1.fits.memory)), refl))
      states (λ f. rests n k)
