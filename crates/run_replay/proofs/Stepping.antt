-- One step: if the bytes and arrays represent a configuration, then the answer is the machine's, and a permitted step leaves them
-- representing the configuration after it.
use Prim.Native.Nat.{ℕ, suc, ◌+◌, ◌*◌, ◌-◌, ◌<◌, ◌≤◌}
use mathlib.Core.Path.{◌≡◌, refl, sym, ap, subst, ◌∙◌}
use mathlib.Core.Bool.{Bool, true, false, cond, ◌&&◌, not}
use mathlib.Core.List.{List}
use native.Mathlib.Omega.{arith}
use native.Mathlib.Decide.{dec_lt, ℕ_discrete}
use lib.ListN.{length, length-set, get_or, set}
use lib.Seq.{get_or-set_same, get_or-set_other}
use lib.Dec.{T, ltb}
use borrow.Author.Tests.{leb-false, ltb-true}
use mir.Facts.{and_yes}
use Rattle.machine_pws.specs.declared.Operation.{Operation}
use Rattle.machine_pws.specs.declared.Operation.TheVariants.{Nop, Read, Write, Mfence, Sfence, Arw}
use Rattle.machine_pws.specs.declared.Transition.{Transition}
use Rattle.machine_pws.specs.declared.Step as steps
use Rattle.machine_pws.specs.declared.Step.TheVariants as step
use Rattle.machine_pws.specs.Program as pws
use Rattle.machine_pws.specs.Machine.{Configuration, put, is_empty, queue_after, memory_after, after_take, after_serialise, after_update, may_take, may, after}
use Rattle.machine_pws.proofs.Facts.{put_same, put_other}
use Rattle.file_records.specs.declared.program.Shape.{Shape}
use Rattle.file_records.specs.declared.program.Program.{Program}
use Rattle.file_records.specs.ProgramPart.{table_from, shape_of, program_of}
use Rattle.std.specs.Prelude.{Option, Some, None, Err}
use Rattle.run_causes.specs.declared.Cause.TheVariants.{State}
use Rattle.run_layout.specs.declared.moves.Move.{Move}
use Rattle.run_layout.specs.declared.moves.Move.TheVariants.{Take, Serialise, Update}
use Rattle.run_layout.specs.declared.arrays.Run.{Run}
use Rattle.run_causes.specs.Causes.{Answer, first_cause, take_answer, step_answer, is_permitted}
use Rattle.run_layout.specs.Layout.{queue_number, snapshot_at, waiting_at, move_of}
use Rattle.run_step.specs.Stored.{appended, lower_taken, lower_after}
use Rattle.run_step.specs.Answering.{answer_in}
use Rattle.run_step.specs.After.{run_after, messages_taken, tails_taken}
use Rattle.run_step.specs.Rows.{rows_taken}
use Rattle.run_layout.specs.Represents.{Represents}
use Rattle.run_step.proofs.Lengths.{area_length}
use Rattle.run_layout.proofs.ByteLaws.{next_is, waiting_past, snapshot_below}
use Rattle.run_causes.proofs.CauseLaws.{answer_may}
use Rattle.run_layout.proofs.MoveLaws.{transition_count, move_take, move_absent, exists_is, exists_not}
use Rattle.run_layout.proofs.Kept.{Kept, table_empty, queue_is}
use Rattle.run_step.proofs.AnsweringLaws.{take_is, serialise_is, update_is}
use Rattle.run_replay.proofs.Holding.{MemoryHeld, memory_area, memory_append, memory_update, memory_arw, QueuesHeld, queues_area, queues_push, queues_pop}

-- ---- the parts of what is kept

module _ {S : pws.Shape} {k : ℕ} {run : Run} {a : List ℕ} {c : Configuration} (K : Kept S k run a c) where
  memory_of : MemoryHeld S run.messages run.rows a c.memory
  memory_of =
      record {
        count = K.represents.messages;
        some = K.some;
        snapshots = K.represents.snapshots;
        pointers = K.represents.pointers;
        last_writes = K.represents.last_writes;
        row_count = K.row_count;
        row_length = K.row_length;
        low = K.low;
        high = K.high;
      }

  queues_of : QueuesHeld S run.heads run.tails a k c.queue
  queues_of =
      record { values = K.represents.queues; head_count = K.heads; tail_count = K.tails; order = K.order; most = K.most }

pub kept_of : {S : pws.Shape} {k : ℕ} {run : Run} {a : List ℕ} {c : Configuration}
    → ((p : ℕ) → p < S.processes → get_or run.states p 0 ≡ c.state p) → length run.states ≡ 4 → MemoryHeld S run.messages run.rows a c.memory
    → QueuesHeld S run.heads run.tails a k c.queue → length a ≡ 16384 → run.messages ≤ k + 1 → Kept S k run a c
kept_of states four M H room few =
    record {
      represents =
          record { states = states; queues = H.values; messages = M.count; snapshots = M.snapshots; pointers = M.pointers; last_writes = M.last_writes };
      area = room;
      states = four;
      heads = H.head_count;
      tails = H.tail_count;
      row_count = M.row_count;
      row_length = M.row_length;
      order = H.order;
      most = H.most;
      some = M.some;
      channel = few;
      low = M.low;
      high = M.high;
    }

-- ---- a transition

waiting_appended : (a : List ℕ) (n v x : ℕ) → n ≤ 1024 → length a ≡ 16384 → (q j : ℕ) → waiting_at (appended a n v x) q j ≡ waiting_at a q j
unfolding appended
waiting_appended a n v x l e q j =
    rw (next_is n (omega arith)) (waiting_past a (suc n) (set (snapshot_at a n) v x) q j (omega arith) (omega arith))

module _ (s : Shape) (pl : s.processes ≤ 4) (vl : s.variables ≤ 4) (xl : (v : ℕ) → v < s.variables → (shape_of s).values v ≤ 4) (k : ℕ) (run : Run) (a : List ℕ)
    (c : Configuration) (K : Kept (shape_of s) k run a c) (few : k < 1024) where
  most_messages : run.messages ≤ 1024
  most_messages = omega (arith, K.channel)

  memory_taken : (p : ℕ) (o : Operation) → p < s.processes → pws.OperationOf (shape_of s) o
      → MemoryHeld (shape_of s) (messages_taken run.messages o) (rows_taken run.rows run.messages p o) (lower_taken a run p o) (memory_after c.memory p o)
  memory_taken p Nop pe oe = memory_of K
  memory_taken p (Read v x) pe oe = memory_of K
  memory_taken p (Write v x) pe oe =
      let q : queue_number p v < 16 = omega (arith, queue_is p v (omega arith) (omega (arith, oe.0))) in
      memory_area (memory_of K) (λ i l.
      snapshot_below a (queue_number p v) (get_or run.tails (queue_number p v) 0) x q (omega (arith, K.most (queue_number p v))) K.area i (omega (arith, most_messages)))
  memory_taken p Mfence pe oe = memory_of K
  memory_taken p Sfence pe oe = memory_of K
  memory_taken p (Arw v x y) pe oe =
      memory_arw (shape_of s) pl vl run.messages run.rows a c.memory (memory_of K) K.area most_messages p v y pe oe.0

  queues_taken : (p : ℕ) (o : Operation) → p < s.processes → pws.OperationOf (shape_of s) o
      → QueuesHeld (shape_of s) run.heads (tails_taken run.tails p o) (lower_taken a run p o) (suc k) (queue_after c p o)
  queues_taken p Nop pe oe = queues_area (queues_of K) (λ q j. refl)
  queues_taken p (Read v x) pe oe = queues_area (queues_of K) (λ q j. refl)
  queues_taken p (Write v x) pe oe =
      queues_push (shape_of s) pl vl run.heads run.tails a k c.queue (queues_of K) few p v pe oe.0 x (omega (arith, oe.1, xl v oe.0)) K.area
  queues_taken p Mfence pe oe = queues_area (queues_of K) (λ q j. refl)
  queues_taken p Sfence pe oe = queues_area (queues_of K) (λ q j. refl)
  queues_taken p (Arw v x y) pe oe = queues_area (queues_of K) (waiting_appended a run.messages v y most_messages K.area)

  messages_taken_lem : (o : Operation) → messages_taken run.messages o ≤ suc k + 1
  messages_taken_lem Nop = omega (arith, K.channel)
  messages_taken_lem (Read v x) = omega (arith, K.channel)
  messages_taken_lem (Write v x) = omega (arith, K.channel)
  messages_taken_lem Mfence = omega (arith, K.channel)
  messages_taken_lem Sfence = omega (arith, K.channel)
  messages_taken_lem (Arw v x y) = omega (arith, K.channel, next_is run.messages (omega (arith, most_messages)))

  states_taken : (p x : ℕ) → p < s.processes → (q : ℕ) → q < s.processes → get_or (set run.states p x) q 0 ≡ put c.state p x q
  states_taken p x pe q qe = elim (ℕ_discrete q p) [
    | yes e ↦ rw e (get_or-set_same run.states p x 0 (omega (arith, K.states)) ∙ sym (put_same c.state p x))
    | no e ↦ get_or-set_other run.states p q x 0 e ∙ K.represents.states q qe ∙ sym (put_other c.state p x q e)
  ]

  kept_taken : (t : Transition) → t.process < s.processes → pws.OperationOf (shape_of s) t.operation
      → Kept (shape_of s) (suc k) (run_after run (Take t)) (lower_after a run (Take t)) (after_take c t)
  kept_taken t pe oe =
      kept_of (states_taken t.process t.to pe) (length-set run.states t.process t.to ∙ K.states) (memory_taken t.process t.operation pe oe)
      (queues_taken t.process t.operation pe oe) (area_length a run (Take t) ∙ K.area) (messages_taken_lem t.operation)

  -- ---- the memory's own steps

  oldest_is : (p v : ℕ) → p < s.processes → v < s.variables → get_or run.heads (4 * p + v) 0 < get_or run.tails (4 * p + v) 0
      → waiting_at a (queue_number p v) (get_or run.heads (queue_number p v) 0) ≡ get_or (c.queue p v) 0 0
  oldest_is p v pe ve l =
      let h = get_or run.heads (4 * p + v) 0 in
      let t = get_or run.tails (4 * p + v) 0 in
      let e : t - h ≡ suc (t - suc h) = omega arith in
      rw (queue_is p v (omega arith) (omega arith))
      (ap (λ (n : ℕ). get_or (table_from (waiting_at a (4 * p + v)) h n) 0 0) (sym e) ∙ ap (λ (xs : List ℕ). get_or xs 0 0) (K.represents.queues p v pe ve))

  kept_serialised : (p v : ℕ) → p < s.processes → v < s.variables → get_or run.heads (4 * p + v) 0 < get_or run.tails (4 * p + v) 0
      → Kept (shape_of s) (suc k) (run_after run (Serialise p v)) (lower_after a run (Serialise p v)) (after_serialise c p v)
  kept_serialised p v pe ve l =
      rw (oldest_is p v pe ve l)
      (kept_of K.represents.states K.states
      (memory_append (shape_of s) pl vl run.messages run.rows a c.memory (memory_of K) K.area most_messages p v x pe ve)
      (queues_pop (shape_of s) pl vl run.heads run.tails a k c.queue (queues_of K) few p v pe ve (appended a run.messages v x) (waiting_appended a run.messages v x most_messages K.area) l)
      (appended_length ∙ K.area)
      (omega (arith, K.channel, next_is run.messages (omega (arith, most_messages)))))
    where
      x : ℕ
      x = get_or (c.queue p v) 0 0

      appended_length : length (appended a run.messages v x) ≡ length a
      appended_length = ap (λ (y : ℕ). length (appended a run.messages v y)) (sym (oldest_is p v pe ve l)) ∙ area_length a run (Serialise p v)

  kept_updated : (p : ℕ) → p < s.processes → c.memory.pointer p < length c.memory.channel
      → Kept (shape_of s) (suc k) (run_after run (Update p)) (lower_after a run (Update p)) (after_update c p)
  kept_updated p pe l =
      kept_of K.represents.states K.states
      (memory_update (shape_of s) pl vl run.messages run.rows a c.memory (memory_of K) K.area most_messages p pe l)
      (queues_area (queues_of K) (λ q j. refl)) K.area (omega (arith, K.channel))

-- ---- the steps of a program

-- the move, if there is one
abbrev pub move_in : Option Move → Move
move_in None = Update 0
move_in (Some m) = m

abbrev pub answer_of : Run → List ℕ → Shape → Option Move → Answer
answer_of run a s None = Err State
answer_of run a s (Some m) = answer_in run a s m

module _ (f : List ℕ) (p : Program) (R : pws.ProgramInRange (program_of f p)) (k : ℕ) (run : Run) (a : List ℕ) (c : Configuration)
    (K : Kept (shape_of p.shape) k run a c) where
  -- the step's answer is the machine's
  pub answer_is : (s : steps.Step) → answer_of run a p.shape (move_of f p.transitions s) ≡ step_answer (program_of f p) c s
  answer_is (step.Take n) = elim (dec_lt n p.transitions.count) [
    | yes l ↦
        let t = R.well_formed.transitions n (omega (arith, transition_count f p)) in
        ap (answer_of run a p.shape) (move_take f p n l)
        ∙ take_is p.shape R.shape.processes R.shape.variables k run a c K (pws.transition (program_of f p) n) t.process t.operation
        ∙ ap (λ (b : Bool). cond b (take_answer (shape_of p.shape) c (pws.transition (program_of f p) n)) (Err State)) (sym (exists_is f p n l))
    | no l ↦
        ap (answer_of run a p.shape) (move_absent f p n (omega arith))
        ∙ ap (λ (b : Bool). cond b (take_answer (shape_of p.shape) c (pws.transition (program_of f p) n)) (Err State)) (sym (exists_not f p n (omega arith)))
  ]
  answer_is (step.Serialise q v) = ap (first_cause true true true true) (serialise_is p.shape R.shape.processes R.shape.variables k run a c K q v)
  answer_is (step.Update q) = ap (first_cause true true true true) (update_is p.shape R.shape.processes R.shape.variables k run a c K q)

  some_waits : (q v : ℕ) → q < p.shape.processes → v < p.shape.variables → T (not (is_empty (c.queue q v)))
      → get_or run.heads (4 * q + v) 0 < get_or run.tails (4 * q + v) 0
  some_waits q v qe ve t =
      let h = get_or run.heads (4 * q + v) 0 in
      let z = get_or run.tails (4 * q + v) 0 in
      leb-false z h (table_empty (waiting_at a (4 * q + v)) h z ∙ ap is_empty (K.represents.queues q v qe ve) ∙ not_T (is_empty (c.queue q v)) t)
    where
      not_T : (b : Bool) → T (not b) → b ≡ false
      not_T true t = absurd t
      not_T false t = refl

  T_true : (b : Bool) → T b → b ≡ true
  T_true true t = refl
  T_true false t = absurd t

  -- a permitted step leaves a representation of the configuration after it
  pub step_kept : k < 1024 → (s : steps.Step) → T (may (program_of f p) c s)
      → Kept (shape_of p.shape) (suc k) (run_after run (move_in (move_of f p.transitions s)))
      (lower_after a run (move_in (move_of f p.transitions s))) (after (program_of f p) c s)
  step_kept few (step.Take n) t =
      let y = and_yes (ltb n (length (program_of f p).transitions)) (may_take (shape_of p.shape) c (pws.transition (program_of f p) n)) t in
      let l : n < length (program_of f p).transitions = ltb-true n (length (program_of f p).transitions) (T_true (ltb n (length (program_of f p).transitions)) y.0) in
      let o = R.well_formed.transitions n l in
      let w = pws.transition (program_of f p) n in
      subst (λ (o : Option Move). Kept (shape_of p.shape) (suc k) (run_after run (move_in o)) (lower_after a run (move_in o)) (after_take c w))
      (sym (move_take f p n (omega (arith, transition_count f p))))
      (kept_taken p.shape R.shape.processes R.shape.variables R.shape.values k run a c K few w o.process o.operation)
  step_kept few (step.Serialise q v) t =
      let y = and_yes (ltb q p.shape.processes && ltb v p.shape.variables) (not (is_empty (c.queue q v))) t in
      let z = and_yes (ltb q p.shape.processes) (ltb v p.shape.variables) y.0 in
      let qe = ltb-true q p.shape.processes (T_true (ltb q p.shape.processes) z.0) in
      let ve = ltb-true v p.shape.variables (T_true (ltb v p.shape.variables) z.1) in
      kept_serialised p.shape R.shape.processes R.shape.variables R.shape.values k run a c K few q v qe ve (some_waits q v qe ve y.1)
  step_kept few (step.Update q) t =
      let y = and_yes (ltb q p.shape.processes) (ltb (c.memory.pointer q) (length c.memory.channel)) t in
      let qe = ltb-true q p.shape.processes (T_true (ltb q p.shape.processes) y.0) in
      let l = ltb-true (c.memory.pointer q) (length c.memory.channel) (T_true (ltb (c.memory.pointer q) (length c.memory.channel)) y.1) in
      kept_updated p.shape R.shape.processes R.shape.variables R.shape.values k run a c K few q qe l

  -- both: the step is permitted exactly if the machine may take it, and then what is left represents the configuration after it
  pub step_right : k < 1024 → (s : steps.Step)
      → (is_permitted (answer_of run a p.shape (move_of f p.transitions s)) ≡ may (program_of f p) c s)
      × (T (may (program_of f p) c s)
      → Represents (shape_of p.shape) (run_after run (move_in (move_of f p.transitions s)))
      (lower_after a run (move_in (move_of f p.transitions s))) (after (program_of f p) c s))
  step_right few s = (ap is_permitted (answer_is s) ∙ answer_may (program_of f p) c s, (λ t. (step_kept few s t).represents))
