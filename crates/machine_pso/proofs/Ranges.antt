-- Values stay in the ranges of their variables: in every step, and so in every configuration that is visited from a start.
use Prim.Native.Nat.{ℕ, ◌<◌}
use mathlib.Core.Path.{sym, subst}
use mathlib.Core.Logic.{inl, inr}
use mathlib.Core.Bool.{Bool, true, false, cond, ◌&&◌}
use mathlib.Core.List.{List, [], ◌∷◌, ◌++◌}
use native.Mathlib.Omega.{arith}
use native.Mathlib.Decide.{dec_lt}
use lib.ListN.{length, get_or}
use lib.Dec.{T, ltb, ltb→lt}
use mir.Facts.{and_yes}
use Rattle.machine_pws.specs.declared.Operation.{Operation}
use Rattle.machine_pws.specs.declared.Operation.TheVariants.{Nop, Read, Write, Mfence, Sfence, Arw}
use Rattle.machine_pws.specs.Program.{Shape, Program, transition, OperationOf, WellFormed}
use Rattle.machine_pws.specs.Machine.{put}
use Rattle.machine_pws.specs.Ranges.{Within, CountsOf}
use Rattle.machine_pws.proofs.Facts.{put_each}
use Rattle.machine_pws.proofs.Ranges.{within_set}
use Rattle.machine_pso.specs.declared.PsoStep.{PsoStep}
use Rattle.machine_pso.specs.declared.PsoStep.TheVariants.{Operate, UpdateVariable, RemoveMark}
use Rattle.machine_pso.specs.Machine.{
  Item,
  value,
  mark,
  PsoConfiguration,
  value_first,
  oldest_value,
  without_first,
  put_buffer,
  each_buffer,
  buffer_after,
  pso_memory_after,
  may_operate_by,
  pso_may,
  pso_after,
}
use Rattle.machine_pso.specs.Runs.{PsoStart, PsoVisited, start, later}
use Rattle.machine_pso.specs.Ranges.{AllValues, PsoInRanges, PsoKeepsRanges}

-- ---- buffers

module _ (Val : ℕ → Type 0) where
  values_more : (is : List Item) (x : ℕ) → AllValues Val is → Val x → AllValues Val (is ++ (value x ∷ []))
  values_more [] x a l = (l, tt)
  values_more (value y ∷ is) x a l = (a.0, values_more is x a.1 l)
  values_more (mark ∷ is) x a l = values_more is x a l

  values_marked : (is : List Item) → AllValues Val is → AllValues Val (is ++ (mark ∷ []))
  values_marked [] a = tt
  values_marked (value y ∷ is) a = (a.0, values_marked is a.1)
  values_marked (mark ∷ is) a = values_marked is a

  values_rest : (is : List Item) → AllValues Val is → AllValues Val (without_first is)
  values_rest [] a = tt
  values_rest (value y ∷ is) a = a.1
  values_rest (mark ∷ is) a = a

  values_oldest : (is : List Item) → T (value_first is) → AllValues Val is → Val (oldest_value is)
  values_oldest [] t a = absurd t
  values_oldest (value y ∷ is) t a = a.0
  values_oldest (mark ∷ is) t a = absurd t

module _ (P : Program) (R : WellFormed P) (counts : List ℕ) (C : CountsOf P.shape counts) where
  abbrev S : Shape
  S = P.shape

  abbrev Holds : ℕ → List Item → Type 0
  Holds v is = AllValues (λ x. x < get_or counts v 0) is

  abbrev Buffers : (ℕ → ℕ → List Item) → Type 0
  Buffers B = (p v : ℕ) → p < S.processes → v < S.variables → Holds v (B p v)

  -- a value that an operation names
  named : (v x : ℕ) → v < S.variables → x < S.values v → x < get_or counts v 0
  named v x ve l = omega (arith, C.present v ve)

  buffers_put : (B : ℕ → ℕ → List Item) (p v : ℕ) (is : List Item) → Buffers B → Holds v is → Buffers (put_buffer B p v is)
  buffers_put B p v is o a q u qe ue =
      put_each (λ q (b : ℕ → List Item). q < S.processes → Holds u (b u)) B p (put (B p) v is) q
      (λ pe. put_each (λ u is. u < S.variables → Holds u is) (B p) v is u (λ ve. a) (λ n ue. o p u pe ue) ue) (λ n qe. o q u qe ue) qe

  buffers_each : (B : ℕ → ℕ → List Item) (p : ℕ) (f : List Item → List Item) → ((u : ℕ) (is : List Item) → Holds u is → Holds u (f is)) → Buffers B
      → Buffers (each_buffer S f B p)
  buffers_each B p f h o q u qe ue =
      put_each (λ q (b : ℕ → List Item). q < S.processes → Holds u (b u)) B p (λ v. cond (ltb v S.variables) (f (B p v)) (B p v)) q
      (λ pe. go (ltb u S.variables) (o p u pe ue)) (λ n qe. o q u qe ue) qe
    where
      go : (b : Bool) → Holds u (B p u) → Holds u (cond b (f (B p u)) (B p u))
      go true a = h u (B p u) a
      go false a = a

  module _ (d : PsoConfiguration) (o : PsoInRanges S counts d) where
    memory_operation : (x : Operation) → OperationOf S x → (v : ℕ) → Within (get_or counts v 0) (get_or (pso_memory_after d.memory x) v 0)
    memory_operation Nop w = o.memory
    memory_operation (Read v x) w = o.memory
    memory_operation (Write v x) w = o.memory
    memory_operation Mfence w = o.memory
    memory_operation Sfence w = o.memory
    memory_operation (Arw v old new) w = within_set counts d.memory v new (named v new w.0 w.2) o.memory

    buffers_operation : (p : ℕ) (x : Operation) → p < S.processes → OperationOf S x → Buffers (buffer_after S d p x)
    buffers_operation p Nop pe w = o.buffers
    buffers_operation p (Read v x) pe w = o.buffers
    buffers_operation p (Write v x) pe w =
        buffers_put d.buffer p v (d.buffer p v ++ (value x ∷ [])) o.buffers
        (values_more (λ y. y < get_or counts v 0) (d.buffer p v) x (o.buffers p v pe w.0) (named v x w.0 w.1))
    buffers_operation p Mfence pe w = o.buffers
    buffers_operation p Sfence pe w =
        buffers_each d.buffer p (λ is. is ++ (mark ∷ [])) (λ u is a. values_marked (λ y. y < get_or counts u 0) is a) o.buffers
    buffers_operation p (Arw v old new) pe w = o.buffers

    pub step_in_ranges : (u : PsoStep) → T (pso_may P d u) → PsoInRanges S counts (pso_after P d u)
    step_in_ranges (Operate n) t =
        let q = transition P n in
        let w = R.transitions n (ltb→lt n (length P.transitions) (and_yes (ltb n (length P.transitions)) (may_operate_by S d q) t).0) in
        record {
          memory = memory_operation q.operation w.operation;
          buffers = buffers_operation q.process q.operation w.process w.operation;
        }
    step_in_ranges (UpdateVariable p v) t =
        let r = and_yes (ltb p S.processes && ltb v S.variables) (value_first (d.buffer p v)) t in
        let l = and_yes (ltb p S.processes) (ltb v S.variables) r.0 in
        let a = o.buffers p v (ltb→lt p S.processes l.0) (ltb→lt v S.variables l.1) in
        record {
          memory = within_set counts d.memory v (oldest_value (d.buffer p v)) (values_oldest (λ y. y < get_or counts v 0) (d.buffer p v) r.1 a) o.memory;
          buffers = buffers_put d.buffer p v (without_first (d.buffer p v)) o.buffers (values_rest (λ y. y < get_or counts v 0) (d.buffer p v) a);
        }
    step_in_ranges (RemoveMark p) t =
        record {
          memory = o.memory;
          buffers = buffers_each d.buffer p without_first (λ u is a. values_rest (λ y. y < get_or counts u 0) is a) o.buffers;
        }

  start_in_ranges : (memory : List ℕ) (d : PsoConfiguration) → PsoStart P memory d → PsoInRanges S counts d
  start_in_ranges memory d s =
      record {
        memory = subst (λ (m : List ℕ). (v : ℕ) → Within (get_or counts v 0) (get_or m v 0)) (sym s.starts) (λ v. elim (dec_lt v S.variables) [
          | yes l ↦ inl (named v _ l (s.permitted.values v l))
          | no l ↦ inr (C.absent v (omega arith), s.permitted.absent v (omega arith))
        ]);
        buffers = λ p v pe ve. subst (Holds v) (sym (s.buffers p v pe ve)) tt;
      }

  visited_in_ranges : {d e : PsoConfiguration} {us : List PsoStep} → PsoInRanges S counts d → PsoVisited P d us e → PsoInRanges S counts e
  visited_in_ranges o start = o
  visited_in_ranges {d} o (later u t r) = visited_in_ranges (step_in_ranges d o u t) r

  pub pso_keeps_ranges : PsoKeepsRanges P counts
  pso_keeps_ranges =
      record {
        steps = λ d u o t. step_in_ranges d o u t;
        visited = λ memory d s us e v. visited_in_ranges (start_in_ranges memory d s) v;
      }
