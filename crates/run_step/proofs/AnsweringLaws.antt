-- The step's answer from the bytes and arrays is the answer of the configuration that they represent.
use Prim.Native.Nat.{ℕ, suc, ◌+◌, ◌*◌, ◌-◌, ◌<◌, ◌≤◌}
use mathlib.Core.Path.{◌≡◌, refl, sym, ap, ap₂, subst, ◌∙◌}
use mathlib.Core.Bool.{Bool, true, false, cond, ◌&&◌, not}
use mathlib.Core.Option.{Option}
use mathlib.Core.List.{List}
use native.Mathlib.Omega.{arith}
use native.Mathlib.Decide.{dec_le}
use lib.ListN.{length, get_or}
use lib.Dec.{eqb, ltb}
use borrow.Author.Tests.{le-leb, lt-leb, ltb-true}
use Rattle.machine_pws.specs.declared.Operation.{Operation}
use Rattle.machine_pws.specs.declared.Operation.TheVariants.{Nop, Read, Write, Mfence, Sfence, Arw}
use Rattle.machine_pws.specs.declared.Transition.{Transition}
use Rattle.machine_pws.specs.Program as pws
use Rattle.machine_pws.specs.Machine.{Configuration, message, newest, last_write, is_empty, newest_waiting, newest_or, none_waiting, at_newest, sees}
use Rattle.machine_pws.proofs.Facts.{last_is}
use Rattle.base.proofs.Tests.{all_equal, few_all}
use Rattle.file_records.specs.declared.program.Shape.{Shape}
use Rattle.file_records.specs.ProgramPart.{table_from, shape_of}
use Rattle.run_causes.specs.Causes.{queue_fits, pointer_fits, value_fits, take_answer}
use Rattle.run_layout.specs.declared.arrays.Run.{Run}
use Rattle.run_layout.specs.Layout.{queue_number, snapshot_at, waiting_at, pointer_of, last_write_of}
use Rattle.run_layout.specs.Represents.{waiting_in, Represents}
use Rattle.run_layout.proofs.Kept.{Kept, table_empty, table_newest, queue_is, pointer_is, last_write_is}
use Rattle.run_step.specs.Answering.{
  empty_in,
  none_waiting_in,
  at_newest_in,
  sees_in,
  queue_fits_in,
  pointer_fits_in,
  newest_has_in,
  value_fits_in,
  take_answer_in,
  may_serialise_in,
  may_update_in,
}

module _ (s : Shape) (pl : s.processes ≤ 4) (vl : s.variables ≤ 4) (k : ℕ) (run : Run) (a : List ℕ) (c : Configuration)
    (K : Kept (shape_of s) k run a c) where
  R : Represents (shape_of s) run a c
  R = K.represents

  pub empty_is : (p v : ℕ) → p < s.processes → v < s.variables → empty_in run p v ≡ is_empty (c.queue p v)
  unfolding empty_in
  empty_is p v pe ve =
      rw (queue_is p v (omega arith) (omega arith))
      (table_empty (waiting_at a (4 * p + v)) (get_or run.heads (4 * p + v) 0) (get_or run.tails (4 * p + v) 0) ∙ ap is_empty (R.queues p v pe ve))

  pub none_waiting_is : (p : ℕ) → p < s.processes → none_waiting_in run s p ≡ none_waiting (shape_of s) c p
  unfolding none_waiting_in
  none_waiting_is p pe = few_all s.variables (empty_in run p) vl ∙ all_equal s.variables (empty_in run p) (λ v. is_empty (c.queue p v)) (λ v ve. empty_is p v pe ve)

  pub at_newest_is : (p : ℕ) → p < s.processes → at_newest_in run p ≡ at_newest c.memory p
  unfolding at_newest_in
  at_newest_is p pe = ap₂ eqb (pointer_is run.rows p (omega arith) ∙ R.pointers p pe) R.messages

  -- LastWrite names a message
  pub last_in : (p v : ℕ) → p < s.processes → (1 ≤ last_write c.memory p v) × (last_write c.memory p v ≤ length c.memory.channel)
  last_in p v pe =
      let r = last_is c.memory.channel (c.memory.pointer p) p v (K.high p pe) in
      (omega (arith, r.low, K.low p pe), r.high)

  at_last : (p v : ℕ) → p < s.processes → v < s.variables
      → get_or (snapshot_at a (last_write_of run.rows p v)) v 0 ≡ get_or (message c.memory.channel (last_write c.memory p v)).snapshot v 0
  at_last p v pe ve =
      let l = last_in p v pe in
      ap (λ (i : ℕ). get_or (snapshot_at a i) v 0) (last_write_is run.rows p v (omega arith) (omega arith) ∙ R.last_writes p v pe ve)
      ∙ ap (λ (x : List ℕ). get_or x v 0) (R.snapshots (last_write c.memory p v) l.0 l.1)

  abbrev old : ℕ → ℕ → ℕ
  old p v = get_or (message c.memory.channel (last_write c.memory p v)).snapshot v 0

  sees_when : (p v q : ℕ) (e : queue_number p v ≡ q) → get_or (snapshot_at a (last_write_of run.rows p v)) v 0 ≡ old p v → waiting_in run a q ≡ c.queue p v
      → sees_in run a p v ≡ sees c p v
  unfolding sees_in empty_in
  sees_when p v q e l w =
      let h = get_or run.heads q 0 in
      let t = get_or run.tails q 0 in
      rw e (elim (dec_le t h) [
        | yes b ↦
            let z : t - h ≡ 0 = omega arith in
            rw (le-leb t h b) (l ∙ ap (λ (x : List ℕ). newest_or (newest_waiting x) (old p v)) (ap (table_from (waiting_at a q) h) (sym z) ∙ w))
        | no b ↦
            let z : t - h ≡ suc (t - suc h) = omega arith in
            let y : h + (t - suc h) ≡ t - 1 = omega arith in
            rw (lt-leb t h (omega arith))
            (ap (waiting_at a q) (sym y)
            ∙ ap (λ (x : Option ℕ). newest_or x (old p v)) (sym (table_newest (waiting_at a q) h (t - suc h)))
            ∙ ap (λ (x : List ℕ). newest_or (newest_waiting x) (old p v)) (ap (table_from (waiting_at a q) h) (sym z) ∙ w))
      ])

  pub sees_is : (p v : ℕ) → p < s.processes → v < s.variables → sees_in run a p v ≡ sees c p v
  sees_is p v pe ve = sees_when p v (4 * p + v) (queue_is p v (omega arith) (omega arith)) (at_last p v pe ve) (R.queues p v pe ve)

  pub newest_is : snapshot_at a run.messages ≡ (newest c.memory.channel).snapshot
  newest_is = ap (snapshot_at a) R.messages ∙ R.snapshots (length c.memory.channel) (omega (arith, K.some, R.messages)) (omega arith)

  -- ---- the operations

  queue_fits_is : (p : ℕ) (o : Operation) → p < s.processes → pws.OperationOf (shape_of s) o → queue_fits_in run s p o ≡ queue_fits (shape_of s) c p o
  queue_fits_is p Nop pe oe = refl
  queue_fits_is p (Read v x) pe oe = refl
  queue_fits_is p (Write v x) pe oe = refl
  queue_fits_is p Mfence pe oe = none_waiting_is p pe
  queue_fits_is p Sfence pe oe = none_waiting_is p pe
  queue_fits_is p (Arw v x y) pe oe = empty_is p v pe oe.0

  pointer_fits_is : (p : ℕ) (o : Operation) → p < s.processes → pointer_fits_in run p o ≡ pointer_fits c p o
  pointer_fits_is p Nop pe = refl
  pointer_fits_is p (Read v x) pe = refl
  pointer_fits_is p (Write v x) pe = refl
  pointer_fits_is p Mfence pe = at_newest_is p pe
  pointer_fits_is p Sfence pe = refl
  pointer_fits_is p (Arw v x y) pe = at_newest_is p pe

  value_fits_is : (p : ℕ) (o : Operation) → p < s.processes → pws.OperationOf (shape_of s) o → value_fits_in run a p o ≡ value_fits c p o
  unfolding newest_has_in
  value_fits_is p Nop pe oe = refl
  value_fits_is p (Read v x) pe oe = ap (λ (y : ℕ). eqb y x) (sees_is p v pe oe.0)
  value_fits_is p (Write v x) pe oe = refl
  value_fits_is p Mfence pe oe = refl
  value_fits_is p Sfence pe oe = refl
  value_fits_is p (Arw v x y) pe oe = ap (λ (w : List ℕ). eqb (get_or w v 0) x) newest_is

  pub take_is : (t : Transition) → t.process < s.processes → pws.OperationOf (shape_of s) t.operation → take_answer_in run a s t ≡ take_answer (shape_of s) c t
  unfolding take_answer_in
  take_is t pe oe =
      rw (
        R.states t.process pe,
        queue_fits_is t.process t.operation pe oe,
        pointer_fits_is t.process t.operation pe,
        value_fits_is t.process t.operation pe oe,
      )

  -- ---- the memory's own steps

  exists_then : (x : Bool) (y z : Bool) → (x ≡ true → y ≡ z) → (x && y) ≡ (x && z)
  exists_then true y z h = h refl
  exists_then false y z h = refl

  pub serialise_is : (p v : ℕ) → may_serialise_in run s p v ≡ ((ltb p s.processes && ltb v s.variables) && not (is_empty (c.queue p v)))
  unfolding may_serialise_in
  serialise_is p v = exists_then (ltb p s.processes && ltb v s.variables) (not (empty_in run p v)) (not (is_empty (c.queue p v))) (λ e.
      let b = both_true (ltb p s.processes) (ltb v s.variables) e in
      ap not (empty_is p v (ltb-true p s.processes b.0) (ltb-true v s.variables b.1)))
    where
      both_true : (x y : Bool) → (x && y) ≡ true → (x ≡ true) × (y ≡ true)
      both_true true y e = (refl, e)
      both_true false y e = absurd (subst (λ (b : Bool). cond b ⊥ (Unit {0})) e tt)

  pub update_is : (p : ℕ) → may_update_in run s p ≡ (ltb p s.processes && ltb (c.memory.pointer p) (length c.memory.channel))
  unfolding may_update_in
  update_is p = exists_then (ltb p s.processes) (ltb (pointer_of run.rows p) run.messages) (ltb (c.memory.pointer p) (length c.memory.channel)) (λ e.
      let pe = ltb-true p s.processes e in
      ap₂ ltb (pointer_is run.rows p (omega arith) ∙ R.pointers p pe) R.messages)
