-- Steps from local states that are known to be full: they are held, and nothing is searched for.
use Prim.Native.Nat.{ℕ, ◌+◌, ◌/◌, ◌%◌, ◌<◌, ◌≤◌, min}
use mathlib.Core.Path.{◌≡◌, refl, sym, subst, ◌∙◌}
use mathlib.Core.Bool.{true}
use mathlib.Core.List.{List}
use native.Mathlib.Omega.{arith}
use native.Mathlib.Decide.{ℕ_discrete}
use lib.ListN.{get_or}
use Rattle.machine_pws.specs.declared.Step.TheVariants.{Take}
use Rattle.machine_pws.specs.declared.Transition.{Transition}
use Rattle.file_records.specs.declared.program.Program.{Program}
use Rattle.file_contents.specs.declared.entry.Cube.{Cube}
use Rattle.file_records.specs.ProgramPart.{program_of}
use Rattle.file_contents.specs.Cube.{configuration_of}
use Rattle.file_again.specs.Again.{transition_of, entries_of}
use Rattle.file_again.proofs.Again.{transition_again}
use Rattle.list_known.specs.FullStates.{Full, is_full, states_from}
use Rattle.list_known.proofs.FullTable.{full_take, full_serialise, full_update}
use Rattle.std.specs.Prelude.{None}
use Rattle.list_closing.specs.Walk.{step_held, walk_step, opening_of, Walkable, Surrounded}
use Rattle.list_closing.proofs.WalkLaws.{walk_all, shut_is}
use Rattle.list_closing.proofs.TakeLaws.{state_differs}

module _ (g f list sum : List ℕ) (n : ℕ) (p : Program) (c : Cube) (full : List ℕ) (W : Walkable g f list sum n p c) (F : Full (program_of g p) (entries_of f list n) full) where
  -- a transition from there
  pub take_full : (j : ℕ) (t : Transition) → j < p.transitions.count → t ≡ transition_of g p j → is_full full p.shape (states_from c.states t.process t.from) ≡ true
      → true ≡ step_held (program_of g p) (entries_of f list n) (configuration_of c) (Take j)
  unfolding step_held
  take_full j t l e i =
      sym (full_take (program_of g p) W.stepping.program (entries_of f list n) full c.states p.shape refl F (configuration_of c) W.own refl j
      (subst (λ (u : Transition). is_full full p.shape (states_from c.states u.process u.from) ≡ true) (e ∙ sym (transition_again g p j l)) i))

  -- every other step, if the entry itself is there
  pub walk_full : is_full full p.shape c.states ≡ true → (m : ℕ)
      → ((j : ℕ) → j < m → step_held (program_of g p) (entries_of f list n) (configuration_of c) (Take j) ≡ true)
      → (j : ℕ) → j < m + 20 → step_held (program_of g p) (entries_of f list n) (configuration_of c) (walk_step m j) ≡ true
  unfolding step_held
  walk_full i m w =
      walk_all (step_held (program_of g p) (entries_of f list n) (configuration_of c)) m w
      (λ k b. full_serialise (program_of g p) W.stepping.program (entries_of f list n) full c.states p.shape refl F (configuration_of c) W.own refl i (k / 4) (k % 4))
      (λ q b. full_update (program_of g p) W.stepping.program (entries_of f list n) full c.states p.shape refl F (configuration_of c) W.own refl i q)

  -- and nothing leads in, if the entry's local states are full and all those from which a transition leads there
  pub surrounded_shut : Surrounded full g p c.states → None ≡ opening_of (program_of g p) (entries_of f list n) (configuration_of c)
  surrounded_shut s =
      shut_is g f list sum n p c W
      (walk_full s.own (min p.transitions.count 256)
      (λ j l. held_so j (omega arith) (ℕ_discrete (get_or c.states (transition_of g p j).process 0) (transition_of g p j).to) (s.before j l)))
    where
      held_so : (j : ℕ) → j < p.transitions.count → Dec (get_or c.states (transition_of g p j).process 0 ≡ (transition_of g p j).to)
          → (get_or c.states (transition_of g p j).process 0 ≡ (transition_of g p j).to → is_full full p.shape (states_from c.states (transition_of g p j).process (transition_of g p j).from) ≡ true)
          → step_held (program_of g p) (entries_of f list n) (configuration_of c) (Take j) ≡ true
      held_so j l (yes d) h = sym (take_full j (transition_of g p j) l refl (h d))
      held_so j l (no d) h = sym (state_differs g f list n p c j (transition_of g p j) refl l d)

-- ---- the transitions in turn

pub record Around (full g : List ℕ) (p : Program) (states : List ℕ) (m j : ℕ) : Type 0 where
  pub most : j ≤ m
  pub own : is_full full p.shape states ≡ true
  pub before : (i : ℕ) → i < j → get_or states (transition_of g p i).process 0 ≡ (transition_of g p i).to
      → is_full full p.shape (states_from states (transition_of g p i).process (transition_of g p i).from) ≡ true

module _ (full g : List ℕ) (p : Program) (states : List ℕ) (m : ℕ) where
  pub around_begin : is_full full p.shape states ≡ true → Around full g p states m 0
  around_begin e = record { most = omega arith; own = e; before = λ i l. absurd (omega arith) }

  pub around_next : {j : ℕ} → Around full g p states m j → j < m → (t : Transition) → t ≡ transition_of g p j
      → (get_or states t.process 0 ≡ t.to → is_full full p.shape (states_from states t.process t.from) ≡ true) → Around full g p states m (j + 1)
  around_next {j} w l t e h =
      record {
        most = omega arith;
        own = w.own;
        before = λ i k. elim (ℕ_discrete i j) [
          | yes d ↦ subst (λ (i : ℕ). get_or states (transition_of g p i).process 0 ≡ (transition_of g p i).to
              → is_full full p.shape (states_from states (transition_of g p i).process (transition_of g p i).from) ≡ true) (sym d)
              (subst (λ (t : Transition). get_or states t.process 0 ≡ t.to → is_full full p.shape (states_from states t.process t.from) ≡ true) e h)
          | no d ↦ w.before i (omega arith)
        ];
      }

  pub around_end : {j : ℕ} → Around full g p states m j → m ≤ j → m ≡ min p.transitions.count 256 → Surrounded full g p states
  around_end w l e = record { own = w.own; before = λ i k. w.before i (omega arith) }
