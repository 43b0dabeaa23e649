-- Doing what is put off: the first operation of a process, and at the end all of them.
use Prim.Native.Nat.{ℕ, zero, suc, ◌+◌, ◌-◌, ◌<◌, ◌≤◌}
use mathlib.Core.Path.{◌≡◌, refl, ap, subst, ◌∙◌}
use mathlib.Core.Logic.{◌≢◌}
use mathlib.Core.List.{List, [], ◌∷◌}
use native.Mathlib.Omega.{arith}
use native.Mathlib.Decide.{ℕ_discrete}
use lib.Dec.{T}
use Rattle.machine_pws.specs.declared.Operation.TheVariants.{Sfence}
use Rattle.machine_pws.specs.declared.Step.TheVariants.{Take, Serialise, Update}
use Rattle.machine_pws.specs.Program.{Shape, Program, transition, WellFormed}
use Rattle.machine_pws.specs.Machine.{Configuration, put, is_empty, without_oldest, none_waiting, after_serialise, after_update}
use Rattle.machine_pws.proofs.Facts.{put_same, put_other, put_queue_same, put_queue_other}
use Rattle.machine_equal.proofs.Pso.{yes_all}
use Rattle.machine_equal.proofs.BackwardPending.{Deferred, operation_of, UpTo}
use Rattle.machine_equal.proofs.BackwardDelayed.{Leads, stay, go, onward, weaken, Late, Delayed, Did, delayed_update, delayed_serialise, delayed_take}

pub none_waiting_lem : (S : Shape) (c : Configuration) (p : ℕ) → ((v : ℕ) → v < S.variables → c.queue p v ≡ []) → T (none_waiting S c p)
none_waiting_lem S c p h = yes_all S.variables (λ v. is_empty (c.queue p v)) (λ v l. rw (h v l) tt)

-- ---- the first that p put off

module _ (P : Program) (R : WellFormed P) (s : ℕ → ℕ) (os : ℕ → List Deferred) where
  -- p points at its place
  do_here : (c : Configuration) → Delayed P s os c → (p : ℕ) → p < P.shape.processes → (o : Deferred) (rest : List Deferred)
      → (transition P o.number).process ≡ p → os p ≡ o ∷ rest → c.memory.pointer p ≡ o.place
      → (operation_of P o ≡ Sfence → T (none_waiting P.shape c p))
      → Leads P (Did P s os p rest (operation_of P o) c.queue c.memory.channel) c
  do_here c D p pe o rest i e z f =
      subst (λ (p : ℕ). p < P.shape.processes → os p ≡ o ∷ rest → c.memory.pointer p ≡ o.place
      → (operation_of P o ≡ Sfence → T (none_waiting P.shape c p))
      → Leads P (Did P s os p rest (operation_of P o) c.queue c.memory.channel) c) i
      (λ pe e z f.
      let r = delayed_take P R s os c D o.number o.place rest pe e z f in
      go P _ (Take o.number) r.0 (stay P _ r.1)) pe e z f

  -- p points g messages before it
  do_after : (g : ℕ) (c : Configuration) → Delayed P s os c → (p : ℕ) → p < P.shape.processes → (o : Deferred) (rest : List Deferred)
      → os p ≡ o ∷ rest → c.memory.pointer p + g ≡ o.place → (operation_of P o ≡ Sfence → T (none_waiting P.shape c p))
      → Leads P (Did P s os p rest (operation_of P o) c.queue c.memory.channel) c
  do_after zero c D p pe o rest e z f =
      let L : Late P c p (o ∷ rest) (s p) = rw e at (D.late p pe) in
      do_here c D p pe o rest L.0.process e (omega arith) f
  do_after (suc g) c D p pe o rest e z f =
      let L : Late P c p (o ∷ rest) (s p) = rw e at (D.late p pe) in
      let u : UpTo (os p) (suc (c.memory.pointer p)) = rw e (omega arith) in
      let r = delayed_update P R s os c D p pe (omega (arith, L.0.high)) u in
      go P _ (Update p) r.0
      (do_after g (after_update c p) r.1 p pe o rest e (rw (put_same c.memory.pointer p (suc (c.memory.pointer p))) (omega arith)) f)

  pub do_first : (c : Configuration) → Delayed P s os c → (p : ℕ) → p < P.shape.processes → (o : Deferred) (rest : List Deferred)
      → os p ≡ o ∷ rest → (operation_of P o ≡ Sfence → T (none_waiting P.shape c p))
      → Leads P (Did P s os p rest (operation_of P o) c.queue c.memory.channel) c
  do_first c D p pe o rest e f =
      let L : Late P c p (o ∷ rest) (s p) = rw e at (D.late p pe) in
      do_after (o.place - c.memory.pointer p) c D p pe o rest e (omega (arith, L.0.low)) f

-- ---- all that p has waiting is serialised

record Emptied (P : Program) (s : ℕ → ℕ) (os : ℕ → List Deferred) (p v : ℕ) (queue : ℕ → List ℕ) (e : Configuration) : Type 0 where
  delayed : Delayed P s os e
  here : e.queue p v ≡ []
  other : (u : ℕ) → u ≢ v → e.queue p u ≡ queue u

-- for the variables below n
record EmptyBelow (P : Program) (s : ℕ → ℕ) (os : ℕ → List Deferred) (p n : ℕ) (e : Configuration) : Type 0 where
  delayed : Delayed P s os e
  none : (u : ℕ) → u < n → e.queue p u ≡ []

module _ (P : Program) (R : WellFormed P) (s : ℕ → ℕ) (os : ℕ → List Deferred) (p : ℕ) (pe : p < P.shape.processes) where
  empty_one : (xs : List ℕ) (c : Configuration) → Delayed P s os c → (v : ℕ) → v < P.shape.variables → c.queue p v ≡ xs
      → Leads P (Emptied P s os p v (c.queue p)) c
  empty_one [] c D v ve e = stay P _ (record { delayed = D; here = e; other = λ u n. refl })
  empty_one (x ∷ xs) c D v ve e =
      let r = delayed_serialise P R s os c D p v pe ve (rw e tt) in
      let ys = without_oldest (c.queue p v) in
      let here : (after_serialise c p v).queue p v ≡ xs = put_queue_same c.queue p v ys ∙ ap without_oldest e in
      go P _ (Serialise p v) r.0
      (weaken P (Emptied P s os p v ((after_serialise c p v).queue p)) (Emptied P s os p v (c.queue p))
      (empty_one xs (after_serialise c p v) r.1 v ve here)
      (λ e h.
      record {
        delayed = h.delayed;
        here = h.here;
        other = λ u n. h.other u n ∙ put_queue_other c.queue p v ys p u (λ i. n i.1);
      }))

  empty_below : (n : ℕ) → n ≤ P.shape.variables → (c : Configuration) → Delayed P s os c → Leads P (EmptyBelow P s os p n) c
  empty_below zero l c D = stay P _ (record { delayed = D; none = λ u i. absurd (omega arith) })
  empty_below (suc n) l c D =
      onward P (EmptyBelow P s os p n) (EmptyBelow P s os p (suc n)) (empty_below n (omega arith) c D)
      (λ e h.
      weaken P (Emptied P s os p n (e.queue p)) (EmptyBelow P s os p (suc n)) (empty_one (e.queue p n) e h.delayed n l refl)
      (λ a k.
      record {
        delayed = k.delayed;
        none = λ u i. elim (ℕ_discrete u n) [ yes y ↦ rw y k.here | no y ↦ k.other u y ∙ h.none u (omega arith) ];
      }))

-- ---- all that is put off

-- of the processes below n
pub record Finished (P : Program) (s : ℕ → ℕ) (n : ℕ) (e : Configuration) : Type 0 where
  pub deferred : ℕ → List Deferred
  pub delayed : Delayed P s deferred e
  pub none : (p : ℕ) → p < n → deferred p ≡ []

module _ (P : Program) (R : WellFormed P) (s : ℕ → ℕ) where
  finish_one : (l : List Deferred) (os : ℕ → List Deferred) (c : Configuration) → Delayed P s os c → (p : ℕ) → p < P.shape.processes
      → os p ≡ l → ((q : ℕ) → q < p → os q ≡ []) → Leads P (Finished P s (suc p)) c
  finish_one [] os c D p pe e h =
      stay P _
      (record { deferred = os; delayed = D; none = λ q l. elim (ℕ_discrete q p) [ yes y ↦ rw y e | no y ↦ h q (omega arith) ] })
  finish_one (o ∷ rest) os c D p pe e h =
      onward P (EmptyBelow P s os p P.shape.variables) (Finished P s (suc p)) (empty_below P R s os p pe P.shape.variables (omega arith) c D)
      (λ a k.
      onward P (Did P s os p rest (operation_of P o) a.queue a.memory.channel) (Finished P s (suc p))
      (do_first P R s os a k.delayed p pe o rest e (λ f. none_waiting_lem P.shape a p k.none))
      (λ b d.
      finish_one rest (put os p rest) b d.delayed p pe (put_same os p rest)
      (λ q l. put_other os p rest q (omega arith) ∙ h q l)))

  pub finish : (n : ℕ) → n ≤ P.shape.processes → (os : ℕ → List Deferred) (c : Configuration) → Delayed P s os c → Leads P (Finished P s n) c
  finish zero l os c D = stay P _ (record { deferred = os; delayed = D; none = λ p i. absurd (omega arith) })
  finish (suc n) l os c D =
      onward P (Finished P s n) (Finished P s (suc n)) (finish n (omega arith) os c D)
      (λ e h. finish_one (h.deferred n) h.deferred e h.delayed n l refl h.none)
