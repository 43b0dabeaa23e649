-- Messages older than the lowest pointer may be left out: what is left is both above and below.
use Prim.Native.Nat.{ℕ, zero, suc, ◌-◌, ◌<◌, ◌≤◌}
use mathlib.Core.Path.{◌≡◌, refl, sym, ap, ◌∙◌}
use mathlib.Core.Logic.{◌⊎◌, inl, inr, ⊎_elim, ◌≢◌}
use mathlib.Core.Bool.{not}
use native.Mathlib.Omega.{arith}
use native.Mathlib.Decide.{ℕ_discrete}
use lib.ListN.{length}
use lib.Dec.{T}
use borrow.Author.Tests.{le-leb, lt-leb}
use Rattle.machine_pws.specs.Program.{Shape, Program}
use Rattle.machine_pws.specs.Machine.{Memory, Configuration, message, last_write}
use Rattle.machine_pws.specs.Configurations.{MemoryIn, ConfigurationOf}
use Rattle.machine_pws.specs.Order.{Live, Maps, Below}
use Rattle.machine_pws.specs.Tagged.{has_role}
use Rattle.machine_pws.specs.Insertion.{up, down, without}
use Rattle.machine_pws.proofs.Facts.{proper, live_last}
use Rattle.machine_pws.proofs.Preorder.{maps_refl, maps_trans, queue_refl}
use Rattle.machine_pws.proofs.Dropping.{left_length, older_role, without_fits, without_maps}

up_one : (i : ℕ) → 1 ≤ i → up 1 i ≡ suc i
up_one i l = rw (le-leb 1 i l)

down_one : (i : ℕ) → 2 ≤ i → down 1 i ≡ i - 1
down_one i l = rw (lt-leb i 1 (omega arith))

-- the first message left out, where no pointer stands at it
module _ {Val : ℕ → ℕ → Type 0} (S : Shape) (m : Memory) (o : MemoryIn Val S m) (p : ℕ) (pe : p < S.processes)
    (none : (q : ℕ) → q < S.processes → m.pointer q ≢ 1) where
  abbrev less : Memory
  less = without m 1

  past : (q : ℕ) → q < S.processes → 2 ≤ m.pointer q
  past q e = omega (arith, o.low q e, none q e)

  dead : Live S m 1 → ⊥
  dead l = omega (arith, l.from, past l.who l.exists)

  role : T (not (has_role S m 1))
  role = older_role S m (proper o) 1 dead

  fits : MemoryIn Val S less
  fits = without_fits S m o 1 (omega arith) o.some role p pe

  to : Maps S less m (up 1)
  to = without_maps S m o 1 (omega arith) o.some role p pe

  live_two : (i : ℕ) → Live S m i → 2 ≤ i
  live_two i l = omega (arith, l.from, past l.who l.exists)

  lands : (i : ℕ) → Live S m i → Live S less (i - 1)
  lands i l =
      record {
        who = l.who;
        exists = l.exists;
        from = omega (arith, down_one (m.pointer l.who) (past l.who l.exists), l.from);
        upto = omega (arith, left_length m.channel 1 (omega arith) o.some, l.upto);
      }

  back : Maps S m less (λ i. i - 1)
  back =
      record {
        lands = lands;
        rises = λ i j a b l. omega (arith, live_two i a, live_two j b);
        equal = λ i l.
            let e : suc (i - 1) ≡ i = omega (arith, live_two i l) in
            sym (to.equal (i - 1) (lands i l) ∙ ap (message m.channel) (up_one (i - 1) (omega (arith, live_two i l)) ∙ e));
        pointers = λ q e. down_one (m.pointer q) (past q e);
        last_writes = λ q v e f.
            let b = live_last S less (proper fits) q v e in
            let k = live_last S m (proper o) q v e in
            let low : 1 ≤ last_write less q v = omega (arith, fits.low b.who b.exists, b.from) in
            omega (arith, to.last_writes q v e f, up_one (last_write less q v) low);
      }

-- ---- all of them

record Trimmed (Val : ℕ → ℕ → Type 0) (S : Shape) (m : Memory) : Type 0 where
  memory : Memory
  fits : MemoryIn Val S memory
  first : (q : ℕ) × (q < S.processes) × (memory.pointer q ≡ 1)
  h : ℕ → ℕ
  to : Maps S memory m h
  k : ℕ → ℕ
  back : Maps S m memory k

-- a pointer at 1, or none
seek : (n : ℕ) (z : ℕ → ℕ) → ((q : ℕ) × (q < n) × (z q ≡ 1)) ⊎ ((q : ℕ) → q < n → z q ≢ 1)
seek zero z = inr (λ q l. absurd (omega arith))
seek (suc n) z = elim (ℕ_discrete (z n) 1) [
  | yes e ↦ inl (n, omega arith, e)
  | no e ↦ ⊎_elim (λ r. inl (r.0, omega (arith, r.1), r.2)) (λ f. inr (λ q l. elim (ℕ_discrete q n) [ yes d ↦ rw d e | no d ↦ f q (omega arith) ])) (seek n z)
]

trim : {Val : ℕ → ℕ → Type 0} (S : Shape) (p : ℕ) → p < S.processes → (n : ℕ) (m : Memory) → MemoryIn Val S m → length m.channel ≤ n → Trimmed Val S m
trim S p pe zero m o b = absurd (omega (arith, o.some))
trim S p pe (suc n) m o b = ⊎_elim
    (λ r. record { memory = m; fits = o; first = r; h = λ i. i; to = maps_refl S m; k = λ i. i; back = maps_refl S m })
    (λ f.
    let t = trim S p pe n (without m 1) (fits S m o p pe f) (omega (arith, left_length m.channel 1 (omega arith) o.some)) in
    record {
      memory = t.memory;
      fits = t.fits;
      first = t.first;
      h = λ i. up 1 (t.h i);
      to = maps_trans t.to (to S m o p pe f);
      k = λ i. t.k (i - 1);
      back = maps_trans (back S m o p pe f) t.back;
    })
    (seek S.processes m.pointer)

-- a configuration that is both above and below, and has a pointer at its first message
pub record First (P : Program) (c : Configuration) : Type 0 where
  pub configuration : Configuration
  pub of : ConfigurationOf P configuration
  pub first : (q : ℕ) × (q < P.shape.processes) × (configuration.memory.pointer q ≡ 1)
  pub below : Below P.shape configuration c
  pub above : Below P.shape c configuration

pub trimmed : (P : Program) → 1 ≤ P.shape.processes → (c : Configuration) → ConfigurationOf P c → First P c
trimmed P l c o =
    let S = P.shape in
    let t = trim S 0 l (length c.memory.channel) c.memory o.fits.memory (omega arith) in
    record {
      configuration = record { state = c.state; queue = c.queue; memory = t.memory };
      of = record { states = o.states; fits = record { memory = t.fits; queues = o.fits.queues } };
      first = t.first;
      below = record { states = λ p e. refl; queues = λ p v e f. queue_refl (c.queue p v); h = t.h; maps = t.to };
      above = record { states = λ p e. refl; queues = λ p v e f. queue_refl (c.queue p v); h = t.k; maps = t.back };
    }
