-- The table of full local states, as number 11 uses it: the targets first, and the groups that were found full.
use Prim.Native.Nat.{ℕ, zero, suc, ◌+◌, ◌*◌, ◌<◌, ◌≤◌}
use mathlib.Core.Path.{◌≡◌, refl, sym, ap, subst, ◌∙◌}
use mathlib.Core.List.{List}
use native.Mathlib.Omega.{arith}
use native.Mathlib.Numerals.{add-one}
use lib.ListN.{length, replicate, length-replicate, get_or-replicate}
use lib.Dec.{T}
use Rattle.machine_pws.specs.Program as pws
use Rattle.machine_pws.specs.Machine.{Configuration}
use Rattle.machine_pws.specs.Entries.{EntryOf, entry}
use Rattle.list_theory.specs.Verdict.{TargetHeld, target}
use Rattle.list_theory.proofs.Verdict.{target_yes}
use Rattle.file_records.specs.declared.program.Shape.{Shape}
use Rattle.file_records.specs.declared.program.Program.{Program}
use Rattle.file_records.specs.Records.{state_at}
use Rattle.file_records.specs.ProgramPart.{shape_of, program_of, targets_of}
use Rattle.file_contents.specs.Cube.{configuration_of}
use Rattle.file_again.specs.Again.{cube_at, entries_of, target_of}
use Rattle.file_again.proofs.Tables.{table_length}
use Rattle.file_again.proofs.Again.{target_again}
use Rattle.list_known.specs.FullStates.{Full, with_states}
use Rattle.list_known.proofs.FullTable.{four_is, full_put}
use Rattle.list_known.specs.FamilyTable.{Families}
use Rattle.list_known.proofs.FamilyTable.{families_none}
use Rattle.list_judge.specs.Ready.{Ready, TargetsHeld, Shuts, closed_test, with_targets}
use Rattle.list_judge.proofs.LowestLaws.{SoFar, so_far_begin}
use Rattle.list_targets.specs.Walk.{Searches}
use Rattle.list_judge.proofs.ListLaws.{searches}
use Rattle.list_judge.proofs.ShutLaws.{shuts_none}

-- ---- the targets in turn

pub record Targeted (g : List ℕ) (p : Program) (table now : List ℕ) (k : ℕ) : Type 0 where
  pub most : k ≤ p.targets.count
  pub same : length now ≡ length table
  pub is : now ≡ with_targets g p table k

module _ (g : List ℕ) (p : Program) (table : List ℕ) where
  pub targeted_begin : Targeted g p table table 0
  unfolding with_targets
  targeted_begin = record { most = omega arith; same = refl; is = refl }

  pub targeted_next : {now new : List ℕ} {k : ℕ} → Targeted g p table now k → k < p.targets.count → length new ≡ length now
      → (states : List ℕ) → states ≡ target_of g p k → new ≡ with_states now states → Targeted g p table new (k + 1)
  unfolding with_targets
  targeted_next {now} {new} {k} w l d states e i =
      record {
        most = omega arith;
        same = d ∙ w.same;
        is = rw add-one (i ∙ ap (with_states now) e ∙ ap (λ (t : List ℕ). with_states t (target_of g p k)) w.is);
      }

  pub targeted_end : {now : List ℕ} {k : ℕ} → Targeted g p table now k → p.targets.count ≤ k → now ≡ with_targets g p table p.targets.count
  targeted_end {now} {k} w l = let e : k ≡ p.targets.count = omega (arith, w.most) in w.is ∙ ap (with_targets g p table) e

-- ---- what is in the table is full

module _ (g f list sum : List ℕ) (n : ℕ) (p : Program) (R : Ready g f list sum n p) where
  abbrev P : pws.Program
  P = program_of g p

  abbrev es : List Configuration
  es = entries_of f list n

  oes : (k : ℕ) → k < length es → EntryOf P (entry es k)
  oes k l = (R.entries k (omega (arith, table_length (λ i. configuration_of (cube_at f list i)) 0 n))).of

  -- no configuration has a local state 255
  pub full_none : (m : ℕ) → Full P es (replicate m 255)
  full_none m =
      record {
        entries = oes;
        groups = λ i l c o t.
            let a : c.state 0 ≡ 255 = t 0 R.sizes.processes.0 ∙ four_is (replicate m 255) (4 * i) 0 (omega arith) ∙ get_or-replicate m (4 * i + 0) 255 0 (omega (arith, length-replicate {A = ℕ} m 255)) in
            absurd (omega (arith, o.states.exist 0 R.sizes.processes.0, R.part.states 0 R.sizes.processes.0));
      }

  targets_length : length (targets_of g p) ≡ p.targets.count
  targets_length = table_length (λ i. state_at g (p.targets.at + 5 * i)) 0 p.targets.count

  pub full_targets : TargetsHeld g f list n p → (table : List ℕ) → Full P es table → (m : ℕ) → m ≤ p.targets.count → Full P es (with_targets g p table m)
  unfolding with_targets
  full_targets H table F zero l = F
  full_targets H table F (suc m) l =
      full_put P R.part.program es (with_targets g p table m) (target_of g p m) p.shape refl (full_targets H table F m (omega arith))
      (subst (TargetHeld P es) (target_again g p m (omega arith))
      (target_yes P R.part.program.well_formed es oes (target (targets_of g p) m) (R.part.targets m (omega (arith, targets_length))) (subst T (sym (H m (omega arith))) tt)))

-- ---- the entries in turn, with the table beside

pub record Going (g f list : List ℕ) (n : ℕ) (p : Program) (table shut rows : List ℕ) (k : ℕ) : Type 0 where
  pub room : length table ≡ 4096
  pub space : length shut ≡ 4096
  pub size : length rows ≡ 12288
  pub passed : SoFar (closed_test g f list n p) n k
  pub full : Full (program_of g p) (entries_of f list n) table
  pub shuts : Shuts g f list n p shut
  pub families : Families (shape_of p.shape) (entries_of f list n) rows

module _ (g f list sum : List ℕ) (n : ℕ) (p : Program) (R : Ready g f list sum n p) where
  pub going_begin : TargetsHeld g f list n p → (m : ℕ) (table new : List ℕ) → table ≡ replicate m 255 → new ≡ with_targets g p table p.targets.count → length new ≡ 4096 → (s : ℕ) (shut : List ℕ) → shut ≡ replicate s 255 → length shut ≡ 4096
      → (q : ℕ) (families : List ℕ) → families ≡ replicate q 0 → length families ≡ 12288 → Going g f list n p new shut families 0
  going_begin H m table new e d l s shut x v q families z y =
      record {
        room = l;
        space = v;
        size = y;
        passed = so_far_begin (closed_test g f list n p) n;
        full = subst (Full (program_of g p) (entries_of f list n)) (sym d)
            (full_targets g f list sum n p R H table (subst (Full (program_of g p) (entries_of f list n)) (sym e) (full_none g f list sum n p R m)) p.targets.count (omega arith));
        shuts = subst (Shuts g f list n p) (sym x) (shuts_none g f list sum n p R s);
        families = subst (Families (shape_of p.shape) (entries_of f list n)) (sym z) (families_none (shape_of p.shape) (entries_of f list n) q);
      }

-- the tables after what was put in them for a list with the shape of the program
module _ (g f list sum : List ℕ) (n : ℕ) (p : Program) (R : Ready g f list sum n p) {a : Shape} (same : a ≡ p.shape) where
  pub full_after : {old new : List ℕ}
      → ((P : pws.Program) → P.shape ≡ shape_of a → pws.ProgramInRange P → Searches f list sum n a → Full P (entries_of f list n) old → Full P (entries_of f list n) new)
      → Full (program_of g p) (entries_of f list n) old → Full (program_of g p) (entries_of f list n) new
  full_after h = h (program_of g p) (ap shape_of (sym same)) R.part.program (subst (Searches f list sum n) (sym same) (searches g f list sum n p R))

  pub families_after : {k : ℕ} (old new : List ℕ) → k < n
      → (k < n → Searches f list sum n a → Families (shape_of a) (entries_of f list n) old → Families (shape_of a) (entries_of f list n) new)
      → Families (shape_of p.shape) (entries_of f list n) old → Families (shape_of p.shape) (entries_of f list n) new
  families_after {k} old new l h =
      subst (λ (s : Shape). Searches f list sum n s → Families (shape_of s) (entries_of f list n) old → Families (shape_of s) (entries_of f list n) new) same (h l) (searches g f list sum n p R)
