-- T4: what has no role may be left out. Messages without a role, those older than the lowest pointer among them, and waiting values
-- other than the last of a queue; and so every configuration is above an irreducible one of the same local states.
use Prim.Native.Nat.{ℕ, zero, suc, ◌-◌, ◌<◌, ◌≤◌}
use mathlib.Core.Path.{◌≡◌, refl, sym, ap, subst, ◌∙◌}
use mathlib.Core.Logic.{◌⊎◌, inl, inr, ⊎_elim, ◌≢◌}
use mathlib.Core.Bool.{not}
use mathlib.Core.List.{List, [], ◌∷◌}
use native.Mathlib.Omega.{arith}
use native.Mathlib.Decide.{dec_le, dec_lt, ℕ_discrete}
use lib.ListN.{length}
use lib.Dec.{T, T_not, not_T}
use borrow.Author.Tests.{eq-eqb, ne_eqb, le-leb, lt-leb}
use Rattle.machine_pws.specs.declared.Message.{Message}
use Rattle.machine_pws.specs.Program.{Shape}
use Rattle.machine_pws.specs.Machine.{Memory, Configuration, message, last_write}
use Rattle.machine_pws.specs.Configurations.{MessageIn, MemoryIn, QueuesIn, Fits}
use Rattle.machine_pws.specs.Order.{Live, Maps, QueueBelow, Below}
use Rattle.machine_pws.specs.Tagged.{has_role}
use Rattle.machine_pws.specs.Insertion.{put_message, up, insert_into, leave_out, down, without}
use Rattle.machine_pws.proofs.Facts.{T_or_not, Proper, proper}
use Rattle.machine_pws.proofs.Queues.{Queued, nothing, keep, skip, queue_to, queue_of_lem, all_below}
use Rattle.machine_pws.proofs.Preorder.{maps_refl, maps_trans, queue_refl}
use Rattle.machine_pws.proofs.Tagged.{role_pointer, role_last, role_live}
use Rattle.machine_pws.proofs.Insertion.{Ins, ins, up_low, up_high, insert_top, proper_insert, maps_insert, maps_right}

-- ---- a message left out and put in again

pub left_length : (ms : List Message) (k : ℕ) → 1 ≤ k → k ≤ length ms → suc (length (leave_out ms k)) ≡ length ms
left_length [] k a b = absurd (omega arith)
left_length (x ∷ xs) k a b = elim (ℕ_discrete k (suc (length xs))) [
  | yes e ↦ rw (eq-eqb k (suc (length xs)) e)
  | no e ↦ rw (ne_eqb k (suc (length xs)) e) (ap suc (left_length xs k a (omega arith)))
]

left_insert : (ms : List Message) (k : ℕ) → 1 ≤ k → k ≤ length ms → put_message (leave_out ms k) k (message ms k) ≡ ms
left_insert [] k a b = absurd (omega arith)
left_insert (x ∷ xs) k a b = elim (ℕ_discrete k (suc (length xs))) [
  | yes e ↦ rw (eq-eqb k (suc (length xs)) e) (insert_top xs k x e)
  | no e ↦ rw (ne_eqb k (suc (length xs)) e, le-leb k (suc (length (leave_out xs k))) (omega (arith, left_length xs k a (omega arith))))
      (ap (λ (w : List Message). x ∷ w) (left_insert xs k a (omega arith)))
]

-- where i goes: it stays up to k, or goes down by one
down_cases : (k i : ℕ) → ((i ≤ k) × (down k i ≡ i)) ⊎ ((k < i) × (down k i ≡ i - 1))
down_cases k i = elim (dec_le i k) [ yes l ↦ inl (l, rw (le-leb i k l)) | no l ↦ inr (omega arith, rw (lt-leb i k (omega arith))) ]

up_down : (k i : ℕ) → i ≢ k → up k (down k i) ≡ i
up_down k i n = ⊎_elim
    (λ r. ap (up k) r.1 ∙ up_low k i (omega arith))
    (λ r. ap (up k) r.1 ∙ up_high k (i - 1) (omega arith) ∙ omega arith)
    (down_cases k i)

-- a message older than the lowest pointer has no role
pub older_role : (S : Shape) (m : Memory) → Proper S m → (k : ℕ) → (Live S m k → ⊥) → T (not (has_role S m k))
older_role S m g k f = not_T (has_role S m k) (λ t. f (role_live S m g k t))

module _ {Val : ℕ → ℕ → Type 0} (S : Shape) (m : Memory) (o : MemoryIn Val S m) (k : ℕ) (lo : 1 ≤ k) (hi : k ≤ length m.channel) (norole : T (not (has_role S m k))) where
  abbrev less : Memory
  less = without m k

  abbrev μ : Message
  μ = message m.channel k

  len : suc (length (leave_out m.channel k)) ≡ length m.channel
  len = left_length m.channel k lo hi

  is : put_message (leave_out m.channel k) k μ ≡ m.channel
  is = left_insert m.channel k lo hi

  not_pointer : (q : ℕ) → q < S.processes → m.pointer q ≢ k
  not_pointer q e d = T_not (has_role S m k) norole (role_pointer S m k q e d)

  -- a message that is kept stands at its old number, or at one more
  old : (i : ℕ) → 1 ≤ i → i ≤ length (leave_out m.channel k) → MessageIn Val S (message (leave_out m.channel k) i)
  old i a b =
      let J = ins (leave_out m.channel k) k μ lo (omega (arith, len)) in
      elim (dec_lt i k) [
        | yes l ↦ rw (sym (J.lo i l) ∙ ap (λ (w : List Message). message w i) is) (o.messages i a (omega (arith, len)))
        | no l ↦ rw (sym (J.hi i (omega arith) b) ∙ ap (λ (w : List Message). message w (suc i)) is) (o.messages (suc i) (omega arith) (omega (arith, len)))
      ]

  -- it fits the shape, if the channel keeps a message
  pub without_fits : (p : ℕ) → p < S.processes → MemoryIn Val S less
  without_fits p pe =
      record {
        some = ⊎_elim (λ r. omega (arith, not_pointer p pe, o.low p pe, len)) (λ r. omega (arith, o.high p pe, len)) (down_cases k (m.pointer p));
        low = λ q e. ⊎_elim (λ r. omega (arith, o.low q e, r.1)) (λ r. omega (arith, r.1)) (down_cases k (m.pointer q));
        high = λ q e. ⊎_elim (λ r. omega (arith, not_pointer q e, len, r.1)) (λ r. omega (arith, o.high q e, len, r.1)) (down_cases k (m.pointer q));
        messages = old;
        absent = λ q l. ⊎_elim (λ r. r.1 ∙ o.absent q l) (λ r. absurd (omega (arith, o.absent q l))) (down_cases k (m.pointer q));
      }

  -- a message without a role may be left out
  pub without_maps : (p : ℕ) → p < S.processes → Maps S less m (up k)
  without_maps p pe =
      let g = proper o in
      let g⁻ = proper (without_fits p pe) in
      let g⁺ = proper_insert S less g⁻ k lo (omega (arith, len)) μ (g.process k lo hi) (g.variable k lo hi) in
      let same : (q : ℕ) → q < S.processes → up k (down k (m.pointer q)) ≡ m.pointer q = λ q e. up_down k (m.pointer q) (not_pointer q e) in
      let last_same : (q v : ℕ) → q < S.processes → last_write (insert_into less k μ) q v ≡ last_write m q v = λ q v e. rw (is, same q e) in
      maps_right S (record { channel = m.channel; pointer = λ q. up k (down k (m.pointer q)) }) m.pointer same
      (subst (λ (w : List Message). Maps S less (record { channel = w; pointer = λ q. up k (down k (m.pointer q)) }) (up k)) is
      (maps_insert S less g⁻ k lo (omega (arith, len)) μ g⁺
      (λ q v e f d. T_not (has_role S m k) norole (role_last S m k q v e f (sym (last_same q v e) ∙ d)))))

-- T4 for a message, and for waiting values
pub drop_message : {Val : ℕ → ℕ → Type 0} (S : Shape) (c : Configuration) → MemoryIn Val S c.memory → (p : ℕ) → p < S.processes
    → (k : ℕ) → 1 ≤ k → k ≤ length c.memory.channel → T (not (has_role S c.memory k))
    → Below S (record { state = c.state; queue = c.queue; memory = without c.memory k }) c
drop_message S c o p pe k lo hi t =
    record {
      states = λ q e. refl;
      queues = λ q v e f. queue_refl (c.queue q v);
      h = up k;
      maps = without_maps S c.memory o k lo hi t p pe;
    }

pub drop_values : (S : Shape) (c : Configuration) (queue : ℕ → ℕ → List ℕ)
    → ((p v : ℕ) → p < S.processes → v < S.variables → QueueBelow (queue p v) (c.queue p v))
    → Below S (record { state = c.state; queue = queue; memory = c.memory }) c
drop_values S c queue f = record { states = λ p e. refl; queues = f; h = λ i. i; maps = maps_refl S c.memory }

-- ---- all left out

abbrev pub Irreducible : Shape → Memory → Type 0
Irreducible S m = (i : ℕ) → 1 ≤ i → i ≤ length m.channel → T (has_role S m i)

record Reduced (Val : ℕ → ℕ → Type 0) (S : Shape) (m : Memory) : Type 0 where
  to : Memory
  fits : MemoryIn Val S to
  irreducible : Irreducible S to
  h : ℕ → ℕ
  maps : Maps S to m h

-- a message without a role, or all have one
seek : (S : Shape) (m : Memory) (n : ℕ) → ((k : ℕ) × (1 ≤ k) × (k ≤ n) × T (not (has_role S m k))) ⊎ ((i : ℕ) → 1 ≤ i → i ≤ n → T (has_role S m i))
seek S m zero = inr (λ i a b. absurd (omega arith))
seek S m (suc n) = ⊎_elim
    (λ t. ⊎_elim {A = (k : ℕ) × (1 ≤ k) × (k ≤ n) × T (not (has_role S m k))} {B = (i : ℕ) → 1 ≤ i → i ≤ n → T (has_role S m i)} (λ r. inl (r.0, r.1, omega (arith, r.2), r.3))
    (λ f. inr (λ i a b. elim (ℕ_discrete i (suc n)) [ yes e ↦ rw e t | no e ↦ f i a (omega arith) ])) (seek S m n))
    (λ t. inl (suc n, omega arith, omega arith, t))
    (T_or_not (has_role S m (suc n)))

reduce : {Val : ℕ → ℕ → Type 0} (S : Shape) (p : ℕ) → p < S.processes → (n : ℕ) (m : Memory) → MemoryIn Val S m → length m.channel ≤ n → Reduced Val S m
reduce S p pe zero m o b = absurd (omega (arith, o.some))
reduce S p pe (suc n) m o b = ⊎_elim
    (λ r.
    let s = reduce S p pe n (without m r.0) (without_fits S m o r.0 r.1 r.2 r.3 p pe) (omega (arith, len S m o r.0 r.1 r.2 r.3)) in
    record {
      to = s.to;
      fits = s.fits;
      irreducible = s.irreducible;
      h = λ i. up r.0 (s.h i);
      maps = maps_trans s.maps (without_maps S m o r.0 r.1 r.2 r.3 p pe);
    })
    (λ f. record { to = m; fits = o; irreducible = f; h = λ i. i; maps = maps_refl S m })
    (seek S m (length m.channel))

-- the last value of a queue alone
abbrev pub last_only : List ℕ → List ℕ
last_only [] = []
last_only (x ∷ []) = x ∷ []
last_only (x ∷ y ∷ ys) = last_only (y ∷ ys)

last_skip : (x y : ℕ) (ys : List ℕ) → Queued (last_only (y ∷ ys)) (y ∷ ys) → Queued (last_only (y ∷ ys)) (x ∷ y ∷ ys)
last_skip x y [] q = skip q
last_skip x y (z ∷ zs) q = go (last_only (z ∷ zs)) q
  where
    go : (us : List ℕ) → Queued us (y ∷ z ∷ zs) → Queued us (x ∷ y ∷ z ∷ zs)
    go us (keep e r) = skip (keep e r)
    go us (skip r) = skip (skip r)

last_below : (xs : List ℕ) → Queued (last_only xs) xs
last_below [] = nothing
last_below (x ∷ []) = keep refl nothing
last_below (x ∷ y ∷ ys) = last_skip x y ys (last_below (y ∷ ys))

pub record Smaller (Val : ℕ → ℕ → Type 0) (S : Shape) (c : Configuration) : Type 0 where
  pub memory : Memory
  pub irreducible : Irreducible S memory
  pub fits : Fits Val S (record { state = c.state; queue = λ p v. last_only (c.queue p v); memory = memory })
  pub below : Below S (record { state = c.state; queue = λ p v. last_only (c.queue p v); memory = memory }) c

-- every configuration is above an irreducible one of the same local states
pub smaller : {Val : ℕ → ℕ → Type 0} (S : Shape) (p : ℕ) → p < S.processes → (c : Configuration) → Fits Val S c → Smaller Val S c
smaller {Val} S p pe c o =
    let r = reduce S p pe (length c.memory.channel) c.memory o.memory (omega arith) in
    record {
      memory = r.to;
      irreducible = r.irreducible;
      fits =
          record {
            memory = r.fits;
            queues =
                record {
                  values = λ q v e f. all_below (Val v) (last_below (c.queue q v)) (o.queues.values q v e f);
                  absent = λ q v l. ap last_only (o.queues.absent q v l);
                };
          };
      below =
          record {
            states = λ q e. refl;
            queues = λ q v e f. queue_of_lem (last_below (c.queue q v));
            h = r.h;
            maps = r.maps;
          };
    }
