-- Tables of local states of which something is known: that targets with them are held, and that nothing leads in to entries with them.
use Prim.Native.Nat.{ℕ, ◌+◌, ◌*◌, ◌<◌}
use mathlib.Core.Path.{◌≡◌, refl, sym, ap, subst, ◌∙◌}
use mathlib.Core.Bool.{Bool, true}
use mathlib.Core.Logic.{⊎_elim}
use mathlib.Core.List.{List}
use native.Mathlib.Omega.{arith}
use lib.ListN.{length, get_or, replicate, length-replicate, get_or-replicate}
use Rattle.machine_pws.specs.Entries.{EntryOf}
use Rattle.file_records.specs.declared.program.Program.{Program}
use Rattle.file_records.specs.Records.{state_at}
use Rattle.file_records.specs.ProgramPart.{program_of, targets_of}
use Rattle.file_contents.specs.Cube.{configuration_of}
use Rattle.file_again.specs.Again.{cube_at, entries_of, target_of}
use Rattle.file_again.proofs.Again.{target_again}
use Rattle.file_again.proofs.Tables.{table_length}
use Rattle.list_theory.specs.Decision.{target_held}
use Rattle.list_known.specs.FullStates.{Full, Among, with_states}
use Rattle.list_known.proofs.FullTable.{four_is, among_put}
use Rattle.std.specs.Prelude.{None}
use Rattle.list_closing.specs.Walk.{Surrounded}
use Rattle.list_closing.proofs.FullLaws.{surrounded_shut}
use Rattle.list_judge.specs.Ready.{Ready, Known, Holds, Shuts, held_test, closed_test}
use Rattle.list_judge.proofs.ListLaws.{entry_is, closed_here}

module _ {states : ℕ → List ℕ} {test : ℕ → Bool} {n : ℕ} {table : List ℕ} (K : Known states test n table) where
  pub known_has : {xs : List ℕ} → Among table xs → (k : ℕ) → k < n → xs ≡ states k → test k ≡ true
  known_has a k l e = K.groups a.0 a.1 k l (sym e ∙ sym a.2)

  pub known_put : {xs : List ℕ} → length xs ≡ 4 → ((k : ℕ) → k < n → states k ≡ xs → test k ≡ true) → Known states test n (with_states table xs)
  known_put {xs} four h =
      record { groups = λ i l k b e. ⊎_elim (λ d. h k b (e ∙ d)) (λ d. K.groups i d.0 k b (e ∙ d.1)) (among_put table xs i four l) }

-- no local state is 255
module _ (states : ℕ → List ℕ) (test : ℕ → Bool) (n m : ℕ) where
  pub known_none : ((k : ℕ) → k < n → get_or (states k) 0 0 < 255) → Known states test n (replicate m 255)
  known_none h =
      record {
        groups = λ i l k b e.
            let a : get_or (states k) 0 0 ≡ 255 =
            ap (λ (xs : List ℕ). get_or xs 0 0) e ∙ four_is (replicate m 255) (4 * i) 0 (omega arith) ∙ get_or-replicate m (4 * i + 0) 255 0 (omega (arith, length-replicate {A = ℕ} m 255)) in
            absurd (omega (arith, a, h k b));
      }

module _ (g f list sum : List ℕ) (n : ℕ) (p : Program) (R : Ready g f list sum n p) where
  pub shuts_none : (m : ℕ) → Shuts g f list n p (replicate m 255)
  shuts_none m =
      known_none (λ k. (cube_at f list k).states) (closed_test g f list n p) n m (λ k b.
      let o : EntryOf (program_of g p) (configuration_of (cube_at f list k)) = subst (EntryOf (program_of g p)) (entry_is g f list sum n p k b) (R.entries k b).of in
      omega (arith, o.states.exist 0 R.sizes.processes.0, R.part.states 0 R.sizes.processes.0))

  pub holds_none : (m : ℕ) → Holds g f list n p (replicate m 255)
  holds_none m =
      known_none (target_of g p) (held_test g f list n p) p.targets.count m (λ k b.
      let o = (R.part.targets k (omega (arith, b, table_length (λ i. state_at g (p.targets.at + 5 * i)) 0 p.targets.count))).exist 0 R.sizes.processes.0 in
      let e : get_or (targets_of g p) k (λ q. 0) 0 ≡ get_or (target_of g p k) 0 0 = ap (λ (t : ℕ → ℕ). t 0) (target_again g p k b) in
      omega (arith, o, e, R.part.states 0 R.sizes.processes.0))

  -- a target whose local states were put is held
  pub held_alike : (k : ℕ) → k < p.targets.count → {states : List ℕ} → target_of g p k ≡ states
      → target_held (program_of g p) (entries_of f list n) (λ q. get_or states q 0) ≡ true → held_test g f list n p k ≡ true
  held_alike k b e h =
      ap (target_held (program_of g p) (entries_of f list n)) (target_again g p k b)
      ∙ ap (λ (xs : List ℕ). target_held (program_of g p) (entries_of f list n) (λ q. get_or xs q 0)) e
      ∙ h

  module _ (full : List ℕ) (F : Full (program_of g p) (entries_of f list n) full) where
    pub surrounded_closed : {states : List ℕ} → Surrounded full g p states → (k : ℕ) → k < n → (cube_at f list k).states ≡ states → closed_test g f list n p k ≡ true
    surrounded_closed S k l e =
        closed_here g f list sum n p R k l None (λ W. surrounded_shut g f list sum n p (cube_at f list k) full W F (subst (Surrounded full g p) (sym e) S)) refl

    pub shuts_put : {table states : List ℕ} → Shuts g f list n p table → Surrounded full g p states → length states ≡ 4 → Shuts g f list n p (with_states table states)
    shuts_put {table} {states} T S four =
        known_put T four (λ k b e. surrounded_closed S k b e)
