-- The step's answer from the bytes and arrays is the answer of the configuration that they represent.
use Prim.Native.Nat.{ℕ, ◌<◌, ◌≤◌}
use mathlib.Core.Path.{◌≡◌, refl, ap, subst}
use mathlib.Core.Bool.{Bool, true, false, cond, ◌&&◌}
use mathlib.Core.List.{List}
use lib.ListN.{get_or}
use lib.Dec.{eqb, ltb}
use borrow.Author.Tests.{ltb-true}
use Rattle.machine_pws.specs.declared.Operation.{Operation}
use Rattle.machine_pws.specs.declared.Operation.TheVariants.{Nop, Read, Write, Mfence, Sfence, Arw}
use Rattle.machine_pws.specs.declared.Transition.{Transition}
use Rattle.machine_pws.specs.Program as pws
use Rattle.machine_pws.specs.Machine.{all_below}
use Rattle.machine_pso.specs.Machine.{PsoConfiguration, value_first, mark_first}
use Rattle.file_records.specs.declared.program.Shape.{Shape}
use Rattle.file_records.specs.ProgramPart.{shape_of}
use Rattle.pso_layout.specs.declared.buffers.PsoRun.{PsoRun}
use Rattle.pso_layout.specs.Layout.{value_first_in, all_marked_in}
use Rattle.pso_layout.proofs.Kept.{Kept, empty_is, value_first_is, no_items_is, all_marked_is, sees_is}
use Rattle.pso_step.specs.Causes.{pso_queue_fits, pso_value_fits, pso_operate_answer}
use Rattle.pso_step.specs.Answering.{queue_fits_in, value_fits_in, operate_answer_in, may_update_in, may_remove_in}

exists_then : (x : Bool) (y z : Bool) → (x ≡ true → y ≡ z) → (x && y) ≡ (x && z)
exists_then true y z h = h refl
exists_then false y z h = refl

both_true : (x y : Bool) → (x && y) ≡ true → (x ≡ true) × (y ≡ true)
both_true true y e = (refl, e)
both_true false y e = absurd (subst (λ (b : Bool). cond b ⊥ (Unit {0})) e tt)

module _ (s : Shape) (pl : s.processes ≤ 4) (vl : s.variables ≤ 4) (k : ℕ) (run : PsoRun) (a : List ℕ) (d : PsoConfiguration) (K : Kept (shape_of s) k run a d) where
  queue_fits_is : (p : ℕ) (o : Operation) → p < s.processes → pws.OperationOf (shape_of s) o → queue_fits_in run s p o ≡ pso_queue_fits (shape_of s) d p o
  queue_fits_is p Nop pe oe = refl
  queue_fits_is p (Read v x) pe oe = refl
  queue_fits_is p (Write v x) pe oe = refl
  queue_fits_is p Mfence pe oe = no_items_is s pl vl k run a d K p pe
  queue_fits_is p Sfence pe oe = refl
  queue_fits_is p (Arw v x y) pe oe = empty_is s pl vl k run a d K p v pe oe.0

  value_fits_is : (p : ℕ) (o : Operation) → p < s.processes → pws.OperationOf (shape_of s) o → value_fits_in run a p o ≡ pso_value_fits d p o
  value_fits_is p Nop pe oe = refl
  value_fits_is p (Read v x) pe oe = ap (λ (y : ℕ). eqb y x) (sees_is s pl vl k run a d K p v pe oe.0)
  value_fits_is p (Write v x) pe oe = refl
  value_fits_is p Mfence pe oe = refl
  value_fits_is p Sfence pe oe = refl
  value_fits_is p (Arw v x y) pe oe = ap (λ (m : List ℕ). eqb (get_or m v 0) x) K.memory

  pub operate_is : (t : Transition) → t.process < s.processes → pws.OperationOf (shape_of s) t.operation
      → operate_answer_in run a s t ≡ pso_operate_answer (shape_of s) d t
  unfolding operate_answer_in
  operate_is t pe oe =
      rw (K.states t.process pe, queue_fits_is t.process t.operation pe oe, value_fits_is t.process t.operation pe oe)

  pub update_is : (p v : ℕ) → may_update_in run a s p v ≡ ((ltb p s.processes && ltb v s.variables) && value_first (d.buffer p v))
  unfolding may_update_in
  update_is p v = exists_then (ltb p s.processes && ltb v s.variables) (value_first_in run a p v) (value_first (d.buffer p v)) (λ e.
      let b = both_true (ltb p s.processes) (ltb v s.variables) e in
      value_first_is s pl vl k run a d K p v (ltb-true p s.processes b.0) (ltb-true v s.variables b.1))

  pub remove_is : (p : ℕ) → may_remove_in run a s p ≡ (ltb p s.processes && all_below s.variables (λ v. mark_first (d.buffer p v)))
  unfolding may_remove_in
  remove_is p = exists_then (ltb p s.processes) (all_marked_in run a s p) (all_below s.variables (λ v. mark_first (d.buffer p v))) (λ e.
      all_marked_is s pl vl k run a d K p (ltb-true p s.processes e))
