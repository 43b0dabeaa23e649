-- A permitted step leaves bytes and arrays that represent the configuration after it.
use Prim.Native.Nat.{ℕ, suc, ◌+◌, ◌*◌, ◌<◌, ◌≤◌}
use mathlib.Core.Path.{◌≡◌, refl, sym, ap, ap₂, subst, ◌∙◌}
use mathlib.Core.Logic.{◌≢◌}
use mathlib.Core.Bool.{Bool, true, cond, ◌&&◌}
use mathlib.Core.List.{List, [], ◌∷◌, ◌++◌}
use native.Mathlib.Omega.{arith}
use native.Mathlib.Decide.{dec_lt, ℕ_discrete}
use lib.ListN.{length, length-set, get_or, set}
use lib.Seq.{get_or-set_same, get_or-set_other}
use lib.Dec.{T, ltb, ltb→lt}
use borrow.Author.Tests.{lt-leb, le-leb}
use mir.Facts.{and_yes}
use Rattle.machine_pws.specs.declared.Operation.{Operation}
use Rattle.machine_pws.specs.declared.Operation.TheVariants.{Nop, Read, Write, Mfence, Sfence, Arw}
use Rattle.machine_pws.specs.declared.Transition.{Transition}
use Rattle.machine_pws.specs.declared.Step.TheVariants as steps
use Rattle.machine_pws.specs.declared.Step.{Step}
use Rattle.machine_pws.specs.Program as pws
use Rattle.machine_pws.specs.Machine.{put, all_below}
use Rattle.machine_pws.proofs.Facts.{put_same, put_other}
use Rattle.machine_pws.proofs.Cases.{all_yes}
use Rattle.machine_pso.specs.Machine.{Item, value, mark, PsoConfiguration, value_first, mark_first, without_first, buffer_after, pso_memory_after, may_operate_by, after_operate, after_update_variable, after_remove_mark, pso_may, pso_after}
use Rattle.file_records.specs.declared.program.Shape.{Shape}
use Rattle.file_records.specs.declared.program.Program.{Program}
use Rattle.file_records.specs.ProgramPart.{shape_of, program_of}
use Rattle.run_causes.specs.declared.Cause.TheVariants.{State}
use Rattle.std.specs.Prelude.{Option, Some, None, Err}
use Rattle.run_causes.specs.Causes.{Answer, first_cause}
use Rattle.run_layout.specs.Layout.{next_number, advanced}
use Rattle.run_layout.proofs.ByteLaws.{next_is}
use Rattle.run_layout.proofs.Kept.{queue_is}
use Rattle.run_layout.proofs.MoveLaws.{transition_count, transition_is, exists_is, exists_not}
use Rattle.pso_layout.specs.declared.moves.PsoMove.{PsoMove}
use Rattle.pso_layout.specs.declared.moves.PsoMove.TheVariants.{Operate, UpdateVariable, RemoveMark}
use Rattle.pso_layout.specs.declared.buffers.PsoRun.{PsoRun}
use Rattle.pso_step.specs.Causes.{pso_operate_answer, pso_step_answer}
use Rattle.pso_replay.specs.Answers.{pso_step}
use Rattle.pso_layout.specs.Layout.{item_at, pso_move_of, head_item}
use Rattle.pso_step.specs.Answering.{answer_in}
use Rattle.pso_step.specs.After.{advanced_below, memory_operated, tails_operated, lasts_operated, run_after, marked_below, area_operated, lower_after_move}
use Rattle.pso_step.proofs.Lengths.{area_length}
use Rattle.pso_layout.proofs.Items.{BufferHeld, held_keep, held_value, held_mark, held_pop, oldest_held, marked_held}
use Rattle.pso_step.proofs.Holding.{put_buffer_each, each_buffer_each, advanced_length, advanced_same, advanced_other, below_length, below_out, below_in, item_same, item_other, marked_out, marked_in}
use Rattle.pso_layout.proofs.Kept.{Kept}
use Rattle.pso_step.proofs.AnsweringLaws.{operate_is, update_is, remove_is}

module _ (s : Shape) (pl : s.processes ≤ 4) (vl : s.variables ≤ 4) (xl : (v : ℕ) → v < s.variables → (shape_of s).values v ≤ 4) (k : ℕ) (run : PsoRun) (a : List ℕ)
    (d : PsoConfiguration) (K : Kept (shape_of s) k run a d) (few : k < 1024) where
  abbrev Held : List ℕ → List ℕ → List ℕ → List ℕ → ℕ → ℕ → List Item → Type 0
  Held b heads tails lasts q u is = BufferHeld b (4 * q + u) (get_or heads (4 * q + u) 0) (get_or tails (4 * q + u) 0) (get_or lasts (4 * q + u) 0) (suc k) is

  same_held : (q u : ℕ) → q < s.processes → u < s.variables → Held a run.heads run.tails run.lasts q u (d.buffer q u)
  same_held q u qe ue = held_keep (K.buffers q u qe ue) (λ j l. refl)

  tail_few : (q u : ℕ) → q < s.processes → u < s.variables → get_or run.tails (4 * q + u) 0 < 1024
  tail_few q u qe ue = omega (arith, (K.buffers q u qe ue).most)

  -- ---- a value written

  module _ (p v x : ℕ) (pe : p < s.processes) (ve : v < s.variables) (xe : x < 255) where
    abbrev t : ℕ
    t = get_or run.tails (4 * p + v) 0

    lasts_is : lasts_operated run.lasts run.tails p (Write v x) ≡ set run.lasts (4 * p + v) (suc t)
    lasts_is =
        ap (λ (q : ℕ). set run.lasts q (next_number (get_or run.tails q 0))) (queue_is p v (omega arith) (omega arith))
        ∙ ap (set run.lasts (4 * p + v)) (next_is t (omega (arith, tail_few p v pe ve)))

    area_is : area_operated a run.tails s p (Write v x) ≡ set a (1024 * (4 * p + v) + t) x
    area_is = ap (λ (q : ℕ). set a (1024 * q + get_or run.tails q 0) x) (queue_is p v (omega arith) (omega arith))

    write_held : (q u : ℕ) → q < s.processes → u < s.variables
        → Held (area_operated a run.tails s p (Write v x)) run.heads (advanced run.tails p v) (lasts_operated run.lasts run.tails p (Write v x)) q u
        (buffer_after (shape_of s) d p (Write v x) q u)
    write_held q u qe ue =
        rw (lasts_is, area_is)
        (put_buffer_each (λ q u is. q < s.processes → u < s.variables
        → Held (set a (1024 * (4 * p + v) + t) x) run.heads (advanced run.tails p v) (set run.lasts (4 * p + v) (suc t)) q u is)
        d.buffer p v (d.buffer p v ++ (value x ∷ [])) q u
        (λ _ _.
        rw (
          advanced_same run.tails p v (omega arith) (omega arith) K.tail_count (omega (arith, tail_few p v pe ve)),
          get_or-set_same run.lasts (4 * p + v) (suc t) 0 (omega (arith, K.last_count)),
        ) (held_value (K.buffers p v pe ve) x xe (λ j l. item_other a (4 * p + v) t x (4 * p + v) j (λ e. omega arith))
        (item_same a (4 * p + v) t x (omega (arith, K.area, tail_few p v pe ve)))))
        (λ n qe ue.
        let other : 4 * q + u ≢ 4 * p + v = λ e. n (omega arith, omega arith) in
        rw (
          advanced_other run.tails p v (omega arith) (omega arith) (4 * q + u) other,
          get_or-set_other run.lasts (4 * p + v) (4 * q + u) (suc t) 0 other,
        ) (held_keep (K.buffers q u qe ue) (λ j l.
        item_other a (4 * p + v) t x (4 * q + u) j (λ e. other (omega (arith, tail_few q u qe ue, tail_few p v pe ve))))))
        qe ue)

  -- ---- a mark in each buffer of p

  mark_held : (p : ℕ) → p < s.processes → (q u : ℕ) → q < s.processes → u < s.variables
      → Held (marked_below a run.tails p s.variables) run.heads (advanced_below run.tails p s.variables) run.lasts q u
      (buffer_after (shape_of s) d p Sfence q u)
  mark_held p pe q u qe ue =
      let small : (v : ℕ) → v < s.variables → get_or run.tails (4 * p + v) 0 < 1024 = λ v ve. tail_few p v pe ve in
      let n = s.variables in
      each_buffer_each (λ q u is. q < s.processes → Held (marked_below a run.tails p n) run.heads (advanced_below run.tails p n) run.lasts q u is)
      (shape_of s) (λ is. is ++ (mark ∷ [])) d.buffer p q u ue
      (λ _.
      rw (below_in run.tails p n (omega arith) vl K.tail_count (λ v ve. omega (arith, small v ve)) u ue)
      (held_mark (K.buffers p u pe ue)
      (λ j l. marked_out a run.tails p (omega arith) n vl small (4 * p + u) j (omega (arith, small u ue)) (λ v h e z.
      let w : u ≡ v = omega arith in
      let y : get_or run.tails (4 * p + u) 0 ≡ get_or run.tails (4 * p + v) 0 = ap (λ (i : ℕ). get_or run.tails (4 * p + i) 0) w in
      omega arith))
      (marked_in a run.tails p (omega arith) n vl K.area small u ue)))
      (λ m qe.
      rw (below_out run.tails p n (omega arith) vl (4 * q + u) (λ v h e. m (omega arith)))
      (held_keep (K.buffers q u qe ue) (λ j l.
      marked_out a run.tails p (omega arith) n vl small (4 * q + u) j (omega (arith, tail_few q u qe ue)) (λ v h e z. m (omega arith)))))
      qe

  -- ---- an operation

  buffers_operated : (p : ℕ) (o : Operation) → p < s.processes → pws.OperationOf (shape_of s) o → (q u : ℕ) → q < s.processes → u < s.variables
      → Held (area_operated a run.tails s p o) run.heads (tails_operated run.tails s p o) (lasts_operated run.lasts run.tails p o) q u
      (buffer_after (shape_of s) d p o q u)
  buffers_operated p Nop pe oe = same_held
  buffers_operated p (Read v x) pe oe = same_held
  buffers_operated p (Write v x) pe oe = write_held p v x pe oe.0 (omega (arith, oe.1, xl v oe.0))
  buffers_operated p Mfence pe oe = same_held
  buffers_operated p Sfence pe oe = mark_held p pe
  buffers_operated p (Arw v x y) pe oe = same_held

  memory_operated_lem : (o : Operation) → memory_operated run.memory o ≡ pso_memory_after d.memory o
  memory_operated_lem Nop = K.memory
  memory_operated_lem (Read v x) = K.memory
  memory_operated_lem (Write v x) = K.memory
  memory_operated_lem Mfence = K.memory
  memory_operated_lem Sfence = K.memory
  memory_operated_lem (Arw v x y) = ap (λ (m : List ℕ). set m v y) K.memory

  tail_count_lem : (p : ℕ) (o : Operation) → length (tails_operated run.tails s p o) ≡ 16
  tail_count_lem p Nop = K.tail_count
  tail_count_lem p (Read v x) = K.tail_count
  tail_count_lem p (Write v x) = advanced_length run.tails p v ∙ K.tail_count
  tail_count_lem p Mfence = K.tail_count
  tail_count_lem p Sfence = below_length run.tails p s.variables ∙ K.tail_count
  tail_count_lem p (Arw v x y) = K.tail_count

  last_count_lem : (p : ℕ) (o : Operation) → length (lasts_operated run.lasts run.tails p o) ≡ 16
  last_count_lem p Nop = K.last_count
  last_count_lem p (Read v x) = K.last_count
  last_count_lem p (Write v x) = length-set run.lasts _ _ ∙ K.last_count
  last_count_lem p Mfence = K.last_count
  last_count_lem p Sfence = K.last_count
  last_count_lem p (Arw v x y) = K.last_count

  states_operated : (p x : ℕ) → p < s.processes → (q : ℕ) → q < s.processes → get_or (set run.states p x) q 0 ≡ put d.state p x q
  states_operated p x pe q qe = elim (ℕ_discrete q p) [
    | yes e ↦ rw e (get_or-set_same run.states p x 0 (omega (arith, K.state_count)) ∙ sym (put_same d.state p x))
    | no e ↦ get_or-set_other run.states p q x 0 e ∙ K.states q qe ∙ sym (put_other d.state p x q e)
  ]

  pub kept_operated : (w : Transition) → w.process < s.processes → pws.OperationOf (shape_of s) w.operation
      → Kept (shape_of s) (suc k) (run_after run a s (Operate w)) (lower_after_move a run.tails s (Operate w)) (after_operate (shape_of s) d w)
  kept_operated w pe oe =
      record {
        states = states_operated w.process w.to pe;
        memory = memory_operated_lem w.operation;
        state_count = length-set run.states w.process w.to ∙ K.state_count;
        head_count = K.head_count;
        tail_count = tail_count_lem w.process w.operation;
        last_count = last_count_lem w.process w.operation;
        area = area_length a run.tails s (Operate w) ∙ K.area;
        buffers = buffers_operated w.process w.operation pe oe;
      }

  -- ---- the memory's own steps

  head_few : (q u : ℕ) → q < s.processes → u < s.variables → get_or run.heads (4 * q + u) 0 < 65535
  head_few q u qe ue = omega (arith, (K.buffers q u qe ue).order, tail_few q u qe ue)

  pub kept_updated : (p v : ℕ) → p < s.processes → v < s.variables → T (value_first (d.buffer p v))
      → Kept (shape_of s) (suc k) (run_after run a s (UpdateVariable p v)) (lower_after_move a run.tails s (UpdateVariable p v)) (after_update_variable d p v)
  unfolding head_item
  kept_updated p v pe ve y =
      let o = oldest_held (K.buffers p v pe ve) y in
      record {
        states = K.states;
        memory =
            ap (λ (q : ℕ). set run.memory v (item_at a q (get_or run.heads q 0))) (queue_is p v (omega arith) (omega arith))
            ∙ ap₂ (λ (m : List ℕ) (x : ℕ). set m v x) K.memory o.1;
        state_count = K.state_count;
        head_count = advanced_length run.heads p v ∙ K.head_count;
        tail_count = K.tail_count;
        last_count = K.last_count;
        area = K.area;
        buffers = λ q u qe ue.
            put_buffer_each (λ q u is. q < s.processes → u < s.variables → Held a (advanced run.heads p v) run.tails run.lasts q u is) d.buffer p v
            (without_first (d.buffer p v)) q u
            (λ _ _. rw (advanced_same run.heads p v (omega arith) (omega arith) K.head_count (head_few p v pe ve)) (held_pop (K.buffers p v pe ve) o.0))
            (λ n qe ue. rw (advanced_other run.heads p v (omega arith) (omega arith) (4 * q + u) (λ e. n (omega arith, omega arith))) (same_held q u qe ue)) qe ue;
      }

  pub kept_removed : (p : ℕ) → p < s.processes → ((v : ℕ) → v < s.variables → T (mark_first (d.buffer p v)))
      → Kept (shape_of s) (suc k) (run_after run a s (RemoveMark p)) (lower_after_move a run.tails s (RemoveMark p)) (after_remove_mark (shape_of s) d p)
  kept_removed p pe y =
      let n = s.variables in
      record {
        states = K.states;
        memory = K.memory;
        state_count = K.state_count;
        head_count = below_length run.heads p n ∙ K.head_count;
        tail_count = K.tail_count;
        last_count = K.last_count;
        area = K.area;
        buffers = λ q u qe ue.
            each_buffer_each (λ q u is. q < s.processes → Held a (advanced_below run.heads p n) run.tails run.lasts q u is) (shape_of s) without_first d.buffer p q u ue
            (λ _. rw (below_in run.heads p n (omega arith) vl K.head_count (λ v ve. head_few p v pe ve) u ue)
            (held_pop (K.buffers p u pe ue) (marked_held (K.buffers p u pe ue) (y u ue))))
            (λ m qe. rw (below_out run.heads p n (omega arith) vl (4 * q + u) (λ v h e. m (omega arith))) (same_held q u qe ue)) qe;
      }

-- ---- the steps of a program

-- the move, if there is one
abbrev pub move_in : Option PsoMove → PsoMove
move_in None = RemoveMark 0
move_in (Some m) = m

abbrev pub answer_of : PsoRun → List ℕ → Shape → Option PsoMove → Answer
answer_of run a s None = Err State
answer_of run a s (Some m) = answer_in run a s m

module _ (f : List ℕ) (p : Program) where
  move_operate : (n : ℕ) → n < p.transitions.count → pso_move_of f p.transitions (steps.Take n) ≡ Some (Operate (pws.transition (program_of f p) n))
  move_operate n l = rw (lt-leb p.transitions.count n l) (ap (λ (t : Transition). Some (Operate t)) (sym (transition_is f p n l)))

  move_absent : (n : ℕ) → p.transitions.count ≤ n → pso_move_of f p.transitions (steps.Take n) ≡ None
  move_absent n l = rw (le-leb p.transitions.count n l)

  module _ (R : pws.ProgramInRange (program_of f p)) (k : ℕ) (run : PsoRun) (a : List ℕ) (d : PsoConfiguration) (K : Kept (shape_of p.shape) k run a d) where
    -- the step's answer is the machine's
    pub answer_is : (u : Step) → answer_of run a p.shape (pso_move_of f p.transitions u) ≡ pso_step_answer (program_of f p) d (pso_step u)
    answer_is (steps.Take n) = elim (dec_lt n p.transitions.count) [
      | yes l ↦
          let t = R.well_formed.transitions n (omega (arith, transition_count f p)) in
          ap (answer_of run a p.shape) (move_operate n l)
          ∙ operate_is p.shape R.shape.processes R.shape.variables k run a d K (pws.transition (program_of f p) n) t.process t.operation
          ∙ ap (λ (b : Bool). cond b (pso_operate_answer (shape_of p.shape) d (pws.transition (program_of f p) n)) (Err State)) (sym (exists_is f p n l))
      | no l ↦
          ap (answer_of run a p.shape) (move_absent n (omega arith))
          ∙ ap (λ (b : Bool). cond b (pso_operate_answer (shape_of p.shape) d (pws.transition (program_of f p) n)) (Err State)) (sym (exists_not f p n (omega arith)))
    ]
    answer_is (steps.Serialise q v) = ap (first_cause true true true true) (update_is p.shape R.shape.processes R.shape.variables k run a d K q v)
    answer_is (steps.Update q) = ap (first_cause true true true true) (remove_is p.shape R.shape.processes R.shape.variables k run a d K q)

    -- a permitted step leaves a representation of the configuration after it
    pub step_kept : k < 1024 → (u : Step) → T (pso_may (program_of f p) d (pso_step u))
        → Kept (shape_of p.shape) (suc k) (run_after run a p.shape (move_in (pso_move_of f p.transitions u))) (lower_after_move a run.tails p.shape (move_in (pso_move_of f p.transitions u)))
        (pso_after (program_of f p) d (pso_step u))
    step_kept few (steps.Take n) t =
        let y = and_yes (ltb n (length (program_of f p).transitions)) (may_operate_by (shape_of p.shape) d (pws.transition (program_of f p) n)) t in
        let l = ltb→lt n (length (program_of f p).transitions) y.0 in
        let o = R.well_formed.transitions n l in
        let w = pws.transition (program_of f p) n in
        subst (λ (o : Option PsoMove). Kept (shape_of p.shape) (suc k) (run_after run a p.shape (move_in o)) (lower_after_move a run.tails p.shape (move_in o)) (after_operate (shape_of p.shape) d w))
        (sym (move_operate n (omega (arith, transition_count f p))))
        (kept_operated p.shape R.shape.processes R.shape.variables R.shape.values k run a d K few w o.process o.operation)
    step_kept few (steps.Serialise q v) t =
        let y = and_yes (ltb q p.shape.processes && ltb v p.shape.variables) (value_first (d.buffer q v)) t in
        let z = and_yes (ltb q p.shape.processes) (ltb v p.shape.variables) y.0 in
        kept_updated p.shape R.shape.processes R.shape.variables R.shape.values k run a d K few q v
        (ltb→lt q p.shape.processes z.0) (ltb→lt v p.shape.variables z.1) y.1
    step_kept few (steps.Update q) t =
        let y = and_yes (ltb q p.shape.processes) (all_below p.shape.variables (λ v. mark_first (d.buffer q v))) t in
        kept_removed p.shape R.shape.processes R.shape.variables R.shape.values k run a d K few q (ltb→lt q p.shape.processes y.0)
        (all_yes p.shape.variables (λ v. mark_first (d.buffer q v)) y.1)
