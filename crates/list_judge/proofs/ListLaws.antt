-- The tests of a list by number, and the verdict that they give.
use Prim.Native.Nat.{ℕ, ◌+◌, ◌*◌, ◌<◌, ◌≤◌}
use mathlib.Core.Path.{◌≡◌, refl, sym, ap, ap₂, subst, ◌∙◌}
use mathlib.Core.Bool.{Bool, true, not}
use mathlib.Core.Option.{Option, none, some}
use mathlib.Core.List.{List}
use lib.ListN.{length, get_or}
use Rattle.machine_pws.specs.declared.Step.{Step}
use Rattle.machine_pws.specs.Program as pws
use Rattle.machine_pws.specs.Machine.{Configuration}
use Rattle.machine_pws.specs.Configurations.{Fits}
use Rattle.machine_pws.specs.Entries.{ValueOrFF, EntryOf, no_entry, entry}
use Rattle.list_theory.specs.Lists.{lowest}
use Rattle.list_theory.specs.Verdict as lists
use Rattle.list_theory.specs.Verdict.{no_target}
use Rattle.list_theory.specs.Decision.{target_held, looks_started, closed, open_step}
use Rattle.file_records.specs.declared.program.Program.{Program}
use Rattle.file_records.specs.Records.{state_at}
use Rattle.file_records.specs.ProgramPart.{shape_of, program_of, targets_of}
use Rattle.file_contents.specs.Cube.{configuration_of}
use Rattle.file_again.specs.Again.{cube_at, entries_of, target_of}
use Rattle.file_again.proofs.Tables.{table_length, table_number}
use Rattle.file_again.proofs.Again.{target_again}
use Rattle.list_cube.specs.Sizes.{Small, starts_of}
use Rattle.list_targets.specs.Walk.{Searches}
use Rattle.std.specs.Prelude.{Some, None}
use Rattle.std.specs.Prelude as prelude
use Rattle.list_closing.specs.Walk.{FailsFirst, Walkable, opening_of}
use Rattle.list_closing.proofs.StepLaws.{walkable}
use Rattle.list_closing.proofs.WalkLaws.{opening_through, opening_shut}
use Rattle.verdict.specs.Judge.{Verdict, refused, safe, entered, of_list}
use Rattle.list_judge.specs.Ready.{Ready, TargetsHeld, held_test, start_test, closed_test, entered_said, list_said}
use Rattle.list_judge.proofs.LowestLaws.{SoFar, so_far_fails, so_far_all, lowest_some, lowest_none}

-- the verdict by the lowest target and the lowest started entry, and what is said if there is neither
abbrev said : Option ℕ → Option ℕ → lists.ListVerdict → Verdict
said x y v = of_list (elim x [ some k ↦ lists.unheld k | none ↦ elim y [ some k ↦ lists.started k | none ↦ v ] ])

by_held : (x y : Option ℕ) (v : lists.ListVerdict) (k : ℕ) → x ≡ some k → said x y v ≡ refused 9 k
by_held x y v k e = ap (λ (o : Option ℕ). said o y v) e

by_start : (x y : Option ℕ) (v : lists.ListVerdict) (k : ℕ) → x ≡ none → y ≡ some k → said x y v ≡ refused 10 k
by_start x y v k e d = ap₂ (λ (o u : Option ℕ). said o u v) e d

by_neither : (x y : Option ℕ) (v : lists.ListVerdict) → x ≡ none → y ≡ none → said x y v ≡ of_list v
by_neither x y v e d = ap₂ (λ (o u : Option ℕ). said o u v) e d

module _ (g f list sum : List ℕ) (n : ℕ) (p : Program) where
  abbrev P : pws.Program
  P = program_of g p

  abbrev es : List Configuration
  es = entries_of f list n

  abbrev ts : List (ℕ → ℕ)
  ts = targets_of g p

  targets_length : length ts ≡ p.targets.count
  targets_length = table_length (λ i. state_at g (p.targets.at + 5 * i)) 0 p.targets.count

  entries_length : length es ≡ n
  entries_length = table_length (λ i. configuration_of (cube_at f list i)) 0 n

  pub entry_is : (k : ℕ) → k < n → entry es k ≡ configuration_of (cube_at f list k)
  entry_is k l = table_number (λ i. configuration_of (cube_at f list i)) n k no_entry l

  -- ---- what the units ask for

  module _ (R : Ready g f list sum n p) where
    pub searches : Searches f list sum n p.shape
    searches =
        record {
          count = R.count;
          shape = R.part.program.shape;
          entries = λ k l. subst (Fits (ValueOrFF (shape_of p.shape)) (shape_of p.shape)) (entry_is k l) (R.entries k l).of.fits;
          summed = R.summed;
        }

    pub small : Small p.shape
    small = record { processes = R.sizes.processes.1; variables = R.sizes.variables.1 }

  -- ---- what they say

  pub held_by : Ready g f list sum n p → (k : ℕ) → k < p.targets.count → (states : List ℕ) (r : Bool) → states ≡ target_of g p k
      → ((Q : pws.Program) → Q.shape ≡ shape_of p.shape → Searches f list sum n p.shape → r ≡ target_held Q es (λ q. get_or states q 0))
      → r ≡ held_test g f list n p k
  held_by R k l states r e h =
      h P refl (searches R)
      ∙ ap (λ (s : List ℕ). target_held P es (λ q. get_or s q 0)) e
      ∙ ap (target_held P es) (sym (target_again g p k l))

  pub start_by : Ready g f list sum n p → (k : ℕ) → k < n → (r : Bool)
      → (Small p.shape → r ≡ looks_started (starts_of p.shape p.initial) (configuration_of (cube_at f list k)))
      → not r ≡ start_test g f list n p k
  start_by R k l r h = ap not (h (small R) ∙ ap (looks_started P) (sym (entry_is k l)))

  opening_by : Ready g f list sum n p → (k : ℕ) → k < n → (r : prelude.Option Step)
      → (Walkable g f list sum n p (cube_at f list k) → r ≡ opening_of P es (configuration_of (cube_at f list k)))
      → opening_of P es (entry es k) ≡ r
  opening_by R k l r h =
      ap (opening_of P es) (entry_is k l)
      ∙ sym (h (walkable g f list sum n p (cube_at f list k) k l refl R.count R.sizes.transitions R.part.program (searches R).entries
      (subst (EntryOf P) (entry_is k l) (R.entries k l).of) (R.cubes k l) R.summed))

  -- ---- the verdict

  abbrev x : Option ℕ
  x = lowest (target_held P es) ts

  abbrev y : Option ℕ
  y = lowest (λ e. not (looks_started P e)) es

  abbrev z : Option ℕ
  z = lowest (closed P es) es

  abbrev way : ℕ → Step
  way k = open_step P es (entry es k)

  abbrev last : lists.ListVerdict
  last = elim z [ some k ↦ lists.entered k (way k) | none ↦ lists.safe (length es) ]

  last_said : entered_said g f list n p ≡ of_list last
  last_said = go z
    where
      go : (o : Option ℕ) → elim o [ some k ↦ entered k (way k) | none ↦ safe n ] ≡ of_list (elim o [ some k ↦ lists.entered k (way k) | none ↦ lists.safe (length es) ])
      go (some k) = refl
      go none = ap safe (sym entries_length)

  -- ---- the entries in turn

  -- entry k is closed
  pub closed_here : Ready g f list sum n p → (k : ℕ) → k < n → (r : prelude.Option Step)
      → (Walkable g f list sum n p (cube_at f list k) → r ≡ opening_of P es (configuration_of (cube_at f list k)))
      → r ≡ None → closed_test g f list n p k ≡ true
  closed_here R k l r h e = opening_shut P es (entry es k) (opening_by R k l r h ∙ e)

  -- it is the first that is not, and s is its lowest step
  pub entered_here : Ready g f list sum n p → (k : ℕ) → k < n → (r : prelude.Option Step)
      → (Walkable g f list sum n p (cube_at f list k) → r ≡ opening_of P es (configuration_of (cube_at f list k)))
      → (s : Step) → r ≡ Some s → SoFar (closed_test g f list n p) n k → entered k s ≡ entered_said g f list n p
  entered_here R k l r h s e w =
      let o = opening_through P es (entry es k) s (opening_by R k l r h ∙ e) in
      sym (ap (λ (z : Option ℕ). elim z [ some k ↦ entered k (way k) | none ↦ safe n ])
      (lowest_some (closed P es) no_entry es n entries_length (so_far_fails w l o.0)) ∙ ap (entered k) o.1)

  -- all are
  pub safe_here : (k : ℕ) → SoFar (closed_test g f list n p) n k → n ≤ k → safe n ≡ entered_said g f list n p
  safe_here k w l =
      sym (ap (λ (z : Option ℕ). elim z [ some k ↦ entered k (way k) | none ↦ safe n ])
      (lowest_none (closed P es) no_entry es n entries_length (so_far_all w l)))

  pub said_unheld : {a : ℕ} → FailsFirst (held_test g f list n p) p.targets.count a → refused 9 a ≡ list_said g f list n p
  said_unheld {a} A = sym (by_held x y last a (lowest_some (target_held P es) no_target ts p.targets.count targets_length A))

  module _ (H : TargetsHeld g f list n p) where
    all_held : x ≡ none
    all_held = lowest_none (target_held P es) no_target ts p.targets.count targets_length H

    pub said_started : {b : ℕ} → FailsFirst (start_test g f list n p) n b → refused 10 b ≡ list_said g f list n p
    said_started {b} B = sym (by_start x y last b all_held (lowest_some (λ e. not (looks_started P e)) no_entry es n entries_length B))

    pub said_last : ((k : ℕ) → k < n → start_test g f list n p k ≡ true) → entered_said g f list n p ≡ list_said g f list n p
    said_last B = last_said ∙ sym (by_neither x y last all_held (lowest_none (λ e. not (looks_started P e)) no_entry es n entries_length B))
