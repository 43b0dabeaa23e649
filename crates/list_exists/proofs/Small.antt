-- Small configurations are enough: what is one step before those above e is above one of no more messages and waiting values than e and
-- the shape bound, that the same step leads above e; and every configuration of a target is above one that the shape bounds.
use Prim.Native.Nat.{ℕ, zero, suc, ◌+◌, ◌<◌, ◌≤◌}
use mathlib.Core.Path.{◌≡◌, refl, sym, ap, ap₂, subst, ◌∙◌}
use mathlib.Core.Logic.{◌⊎◌, inl, inr, ⊎_elim, ◌≢◌}
use mathlib.Core.Bool.{not}
use mathlib.Core.List.Memᴰ
use mathlib.Core.List.{List, [], ◌∷◌, ◌++◌, Memᴰ}
use native.Mathlib.Omega.{arith}
use native.Mathlib.Decide.{ℕ_discrete}
use lib.ListN.{length, length-append}
use lib.Dec.{T}
use Rattle.machine_pws.specs.declared.Operation.{Operation}
use Rattle.machine_pws.specs.declared.Operation.TheVariants.{Nop, Read, Write, Mfence, Sfence, Arw}
use Rattle.machine_pws.specs.declared.Step.{Step}
use Rattle.machine_pws.specs.declared.Step.TheVariants.{Take, Serialise, Update}
use Rattle.machine_pws.specs.Program.{Shape, Program, WellFormed, transition}
use Rattle.machine_pws.specs.Machine.{Memory, Configuration, last_write, memory_after, may, after}
use Rattle.machine_pws.specs.Configurations.{ConfigurationOf}
use Rattle.machine_pws.specs.Order.{Live, Below}
use Rattle.machine_pws.specs.Tagged.{table, has_role}
use Rattle.machine_pws.proofs.Facts.{T_or_not, proper}
use Rattle.machine_pws.proofs.Preorder.{below_refl, below_trans}
use Rattle.machine_pws.proofs.Steps.{step_configuration}
use Rattle.machine_pws.proofs.Tagged.{role_is}
use Rattle.machine_pws.proofs.Dropping.{left_length, Irreducible}
use Rattle.list_exists.proofs.Order.{table_length}
use Rattle.list_exists.proofs.Leaving.{leave, maps_left_out, leave_of, leave_below, leave_may, leave_after}

-- ---- a list that has 1 to n is at least n long

without_one : (x : ℕ) (xs : List ℕ) → Memᴰ x xs → (ys : List ℕ) × (length xs ≡ suc (length ys)) × ((y : ℕ) → Memᴰ y xs → y ≢ x → Memᴰ y ys)
without_one x [] m = absurd (Memᴰ.not-nil m)
without_one x (z ∷ xs) m = ⊎_elim
    (λ e. (xs, refl, λ y k n. ⊎_elim (λ d. absurd (n (d ∙ sym e))) (λ t. t) (Memᴰ.cases_cons k)))
    (λ t.
    let r = without_one x xs t in
    (z ∷ r.0, ap suc r.1, λ y k n. ⊎_elim (λ d. Memᴰ.head d) (λ u. Memᴰ.tail (r.2 y u n)) (Memᴰ.cases_cons k)))
    (Memᴰ.cases_cons m)

covered_length : (n : ℕ) (xs : List ℕ) → ((k : ℕ) → 1 ≤ k → k ≤ n → Memᴰ k xs) → n ≤ length xs
covered_length zero xs f = omega arith
covered_length (suc n) xs f =
    let r = without_one (suc n) xs (f (suc n) (omega arith) (omega arith)) in
    omega (arith, r.1, covered_length n r.0 (λ k a b. r.2 k (f k a (omega arith)) (omega arith)))

-- ---- messages with a role

roles_of : Shape → Memory → ℕ → List ℕ
roles_of S m zero = []
roles_of S m (suc p) = m.pointer p ∷ table S.variables (λ v. last_write m p v) ++ roles_of S m p

-- the number of roles
pub roles_count : Shape → ℕ → ℕ
roles_count S zero = 0
roles_count S (suc p) = suc (S.variables + roles_count S p)

roles_length : (S : Shape) (m : Memory) (n : ℕ) → length (roles_of S m n) ≡ roles_count S n
unfolding roles_of roles_count
roles_length S m zero = refl
roles_length S m (suc p) =
    ap suc (length-append (table S.variables (λ v. last_write m p v)) (roles_of S m p) ∙ ap₂ (λ a b. a + b) (table_length S.variables (λ v. last_write m p v)) (roles_length S m p))

table_in : (n : ℕ) (f : ℕ → ℕ) (i : ℕ) → i < n → Memᴰ (f i) (table n f)
table_in zero f i l = absurd (omega arith)
table_in (suc n) f i l = elim (ℕ_discrete i n) [ yes e ↦ Memᴰ.head (ap f e) | no e ↦ Memᴰ.tail (table_in n f i (omega arith)) ]

pointer_in : (S : Shape) (m : Memory) (n p : ℕ) → p < n → Memᴰ (m.pointer p) (roles_of S m n)
unfolding roles_of
pointer_in S m zero p l = absurd (omega arith)
pointer_in S m (suc n) p l = elim (ℕ_discrete p n) [
  | yes e ↦ Memᴰ.head (ap m.pointer e)
  | no e ↦ Memᴰ.tail (Memᴰ.append_right (table S.variables (λ v. last_write m n v)) (pointer_in S m n p (omega arith)))
]

last_in : (S : Shape) (m : Memory) (n p v : ℕ) → p < n → v < S.variables → Memᴰ (last_write m p v) (roles_of S m n)
unfolding roles_of
last_in S m zero p v l k = absurd (omega arith)
last_in S m (suc n) p v l k = elim (ℕ_discrete p n) [
  | yes e ↦ rw e (Memᴰ.tail (Memᴰ.append_left (roles_of S m n) (table_in S.variables (λ v. last_write m n v) v k)))
  | no e ↦ Memᴰ.tail (Memᴰ.append_right (table S.variables (λ v. last_write m n v)) (last_in S m n p v (omega arith) k))
]

role_in : (S : Shape) (m : Memory) (k : ℕ) → T (has_role S m k) → Memᴰ k (roles_of S m S.processes)
role_in S m k t =
    let r = role_is S m k t in
    ⊎_elim
    (λ e. subst (λ (i : ℕ). Memᴰ i (roles_of S m S.processes)) e (pointer_in S m S.processes r.0 r.1))
    (λ w. subst (λ (i : ℕ). Memᴰ i (roles_of S m S.processes)) w.2 (last_in S m S.processes r.0 w.0 r.1 w.1))
    r.2

abbrev pub roles_bound : Shape → ℕ
roles_bound S = roles_count S S.processes

pub irreducible_length : (S : Shape) (m : Memory) → Irreducible S m → length m.channel ≤ roles_bound S
irreducible_length S m f =
    omega (arith, covered_length (length m.channel) (roles_of S m S.processes) (λ k a b. role_in S m k (f k a b)), roles_length S m S.processes)

-- ---- before a step

memory_longer : (m : Memory) (p : ℕ) (o : Operation) → length m.channel ≤ length (memory_after m p o).channel
memory_longer m p Nop = omega arith
memory_longer m p (Read v x) = omega arith
memory_longer m p (Write v x) = omega arith
memory_longer m p Mfence = omega arith
memory_longer m p Sfence = omega arith
memory_longer m p (Arw v old new) = omega arith

step_longer : (P : Program) (c : Configuration) (s : Step) → length c.memory.channel ≤ length (after P c s).memory.channel
step_longer P c (Take n) = memory_longer c.memory (transition P n).process (transition P n).operation
step_longer P c (Serialise p v) = omega arith
step_longer P c (Update p) = omega arith

module _ (P : Program) (R : WellFormed P) (e : Configuration) (oe : ConfigurationOf P e) (s : Step) where
  abbrev S : Shape
  S = P.shape

  -- a configuration that the step leads above e
  pub record Before (c : Configuration) : Type 0 where
    pub of : ConfigurationOf P c
    pub permitted : T (may P c s)
    pub above : Below S e (after P c s)

  module _ (c : Configuration) (b : Before c) where
    abbrev d : Configuration
    d = after P c s

    abbrev h : ℕ → ℕ
    h = b.above.h

    abbrev images : List ℕ
    images = table (length e.memory.channel) (λ i. h (suc i))

    -- why the message k is kept
    abbrev Kept : ℕ → Type 0
    Kept k = T (has_role S c.memory k) ⊎ (T (has_role S d.memory k) ⊎ ((k ≡ length c.memory.channel) ⊎ Memᴰ k images))

    record Left (k : ℕ) : Type 0 where
      before : T (not (has_role S c.memory k))
      after : T (not (has_role S d.memory k))
      older : k ≢ length c.memory.channel
      unhit : Memᴰ k images → ⊥

    member : (k : ℕ) (xs : List ℕ) → Memᴰ k xs ⊎ (Memᴰ k xs → ⊥)
    member k [] = inr Memᴰ.not-nil
    member k (x ∷ xs) = elim (ℕ_discrete k x) [
      | yes q ↦ inl (Memᴰ.head q)
      | no q ↦ ⊎_elim (λ t. inl (Memᴰ.tail t)) (λ n. inr (λ t. ⊎_elim q n (Memᴰ.cases_cons t))) (member k xs)
    ]

    kept_or_left : (k : ℕ) → Kept k ⊎ Left k
    kept_or_left k = ⊎_elim
        (λ t. inl (inl t))
        (λ t. ⊎_elim
        (λ u. inl (inr (inl u)))
        (λ u. elim (ℕ_discrete k (length c.memory.channel)) [
          | yes q ↦ inl (inr (inr (inl q)))
          | no q ↦ ⊎_elim (λ w. inl (inr (inr (inr w)))) (λ w. inr (record { before = t; after = u; older = q; unhit = w })) (member k images)
        ])
        (T_or_not (has_role S d.memory k)))
        (T_or_not (has_role S c.memory k))

    seek : (n : ℕ) → ((k : ℕ) × (1 ≤ k) × (k ≤ n) × Left k) ⊎ ((k : ℕ) → 1 ≤ k → k ≤ n → Kept k)
    seek zero = inr (λ k a l. absurd (omega arith))
    seek (suc n) = ⊎_elim
        (λ t. ⊎_elim {A = (k : ℕ) × (1 ≤ k) × (k ≤ n) × Left k} {B = (k : ℕ) → 1 ≤ k → k ≤ n → Kept k} (λ r. inl (r.0, r.1, omega (arith, r.2), r.3))
        (λ f. inr (λ k a l. elim (ℕ_discrete k (suc n)) [ yes q ↦ rw q t | no q ↦ f k a (omega arith) ])) (seek n))
        (λ t. inl (suc n, omega arith, omega arith, t))
        (kept_or_left (suc n))

    abbrev reasons : List ℕ
    reasons = roles_of S c.memory S.processes ++ roles_of S d.memory S.processes ++ (length c.memory.channel ∷ images)

    kept_in : (k : ℕ) → Kept k → Memᴰ k reasons
    kept_in k r =
        let cs = roles_of S c.memory S.processes in
        let ds = roles_of S d.memory S.processes in
        let rest = length c.memory.channel ∷ images in
        ⊎_elim
        (λ t. Memᴰ.append_left rest (Memᴰ.append_left ds (role_in S c.memory k t)))
        (⊎_elim
        (λ t. Memᴰ.append_left rest (Memᴰ.append_right cs (role_in S d.memory k t)))
        (λ t. Memᴰ.append_right (cs ++ ds) (⊎_elim Memᴰ.head Memᴰ.tail t))) r

    reasons_length : length reasons ≡ (roles_bound S + roles_bound S) + suc (length e.memory.channel)
    reasons_length =
        let cs = roles_of S c.memory S.processes in
        let ds = roles_of S d.memory S.processes in
        length-append (cs ++ ds) (length c.memory.channel ∷ images)
        ∙ ap₂ (λ a b. a + b) (length-append cs ds ∙ ap₂ (λ a b. a + b) (roles_length S c.memory S.processes) (roles_length S d.memory S.processes))
        (ap suc (table_length (length e.memory.channel) (λ i. h (suc i))))

    kept_length : ((k : ℕ) → 1 ≤ k → k ≤ length c.memory.channel → Kept k)
        → length c.memory.channel ≤ (roles_bound S + roles_bound S) + suc (length e.memory.channel)
    kept_length f = omega (arith, covered_length (length c.memory.channel) reasons (λ k a l. kept_in k (f k a l)), reasons_length)

    -- one message less
    leave_before : (k : ℕ) → 1 ≤ k → k ≤ length c.memory.channel → Left k → Before (leave c k)
    leave_before k a l r =
        let older : k < length c.memory.channel = omega (arith, r.older) in
        let od = step_configuration P R c b.of s b.permitted in
        let B = b.above in
        record {
          of = leave_of P R c b.of k a older r.before;
          permitted = leave_may P R c b.of k a older r.before s b.permitted;
          above = subst (Below S e) (sym (leave_after P R c b.of k a older r.before s b.permitted))
              (record {
                states = B.states;
                queues = B.queues;
                h = λ i. _;
                maps = maps_left_out S e.memory d.memory od.fits.memory h B.maps k a (omega (arith, longer)) r.after 0 R.shape.some_process
                    (λ i v q. r.unhit (subst (λ (j : ℕ). Memᴰ j images) q (image_in i v)));
              });
        }
      where
        longer : length c.memory.channel ≤ length d.memory.channel
        longer = step_longer P c s

        image_in : (i : ℕ) → Live S e.memory i → Memᴰ (h i) images
        image_in zero v = absurd (omega (arith, (proper oe.fits.memory).low v.who v.exists, v.from))
        image_in (suc i) v = table_in (length e.memory.channel) (λ i. h (suc i)) i (omega (arith, v.upto))

  -- no more messages than these
  abbrev pub channel_bound : ℕ
  channel_bound = (roles_bound S + roles_bound S) + suc (length e.memory.channel)

  pub record Fewer (c : Configuration) : Type 0 where
    pub configuration : Configuration
    pub before : Before configuration
    pub below : Below S configuration c
    pub small : length configuration.memory.channel ≤ channel_bound

  pub fewer : (n : ℕ) (c : Configuration) → Before c → length c.memory.channel ≤ n → Fewer c
  fewer zero c b l = absurd (omega (arith, b.of.fits.memory.some))
  fewer (suc n) c b l = ⊎_elim
      (λ r.
      let f = fewer n (leave c r.0) (leave_before c b r.0 r.1 r.2 r.3) (omega (arith, left_length c.memory.channel r.0 r.1 r.2)) in
      record {
        configuration = f.configuration;
        before = f.before;
        below = below_trans f.below (leave_below P R c b.of r.0 r.1 (omega (arith, r.2, r.3.older)) r.3.before);
        small = f.small;
      })
      (λ f. record { configuration = c; before = b; below = below_refl S c; small = kept_length c b f })
      (seek c b (length c.memory.channel))
