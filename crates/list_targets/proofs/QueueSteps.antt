-- The steps of the walk over queues.
use Prim.Native.Nat.{ℕ, ◌+◌, ◌<◌, ◌≤◌}
use mathlib.Core.Path.{◌≡◌, sym, subst, ◌∙◌}
use mathlib.Core.Bool.{Bool, true, false, ◌&&◌}
use mathlib.Core.List.{List}
use native.Mathlib.Omega.{arith}
use lib.Dec.{leb}
use borrow.Author.Tests.{leb-true}
use Rattle.file_records.proofs.ProgramLaws.{and_true}
use Rattle.machine_pws.specs.declared.Message.{Message}
use Rattle.file_records.specs.declared.program.Shape.{Shape}
use Rattle.file_contents.specs.declared.entry.Cube.{Cube}
use Rattle.file_contents.specs.Cube.{configuration_of}
use Rattle.list_targets.specs.ShapeCube.{outline_of, ShapeCube, with_waiting}
use Rattle.list_summary.specs.declared.listing.Listing.{Listing}
use Rattle.list_targets.specs.Walk.{Judges, queue_cubes, target_leaf}
use Rattle.list_targets.specs.Depth.{SmallShape, AtQueue}
use Rattle.list_targets.proofs.JudgeLaws.{Answers, judges_same, judges_one, judges_both, judges_first}
use Rattle.list_targets.proofs.QueueWalk.{cubes_branch, cubes_row, cubes_end, cubes_all, roomy_waiting}

-- no queue comes after this one
pub last_queue : (s : Shape) (p v : ℕ) {r : Bool} → r ≡ (leb s.variables (v + 1) && leb s.processes (p + 1)) → r ≡ true
    → (s.variables ≤ v + 1) × (s.processes ≤ p + 1)
last_queue s p v e f =
    let w = and_true (leb s.variables (v + 1)) (leb s.processes (p + 1)) (sym e ∙ f) in
    (leb-true s.variables (v + 1) w.0, leb-true s.processes (p + 1) w.1)

module _ {s : Shape} {c : Cube} {p v : ℕ} (w : AtQueue s c p v) where
  pub next_queue : v < s.variables → AtQueue s c p (v + 1)
  next_queue l = record { small = w.small; process = w.process; variable = omega arith; roomy = w.roomy }

  pub next_row : p + 1 < s.processes → AtQueue s c (p + 1) 0
  next_row l = record { small = w.small; process = l; variable = omega arith; roomy = w.roomy }

  module _ (l : v < s.variables) where
    low : p < 4
    low = omega (arith, w.process, w.small.processes)

    narrow : v < 4
    narrow = omega (arith, w.small.variables)

    pub next_waiting : {full : Cube} → full ≡ with_waiting c p v → AtQueue s full p (v + 1)
    next_waiting g = subst (λ (x : Cube). AtQueue s x p (v + 1)) (sym g) (record { small = w.small; process = w.process; variable = omega arith; roomy = roomy_waiting c p v low narrow w.roomy })

    module _ {L : Listing} where
      pub empty_not : Judges L (queue_cubes s (configuration_of c) p (v + 1)) false → Judges L (queue_cubes s (configuration_of c) p v) false
      empty_not x = judges_same (cubes_branch s c p v low narrow w.roomy.queues l) (judges_first (queue_cubes s (configuration_of (with_waiting c p v)) p (v + 1)) x)

      pub waiting_too : {b : Bool} {full : Cube} → Judges L (queue_cubes s (configuration_of c) p (v + 1)) true → full ≡ with_waiting c p v
          → Judges L (queue_cubes s (configuration_of full) p (v + 1)) b → Judges L (queue_cubes s (configuration_of c) p v) b
      waiting_too {b} empty g x =
          judges_same (cubes_branch s c p v low narrow w.roomy.queues l)
          (judges_both empty (subst (λ (y : Cube). Judges L (queue_cubes s (configuration_of y) p (v + 1)) b) g x))

  pub row_done : {L : Listing} {a : Bool} → s.variables ≤ v → p + 1 < s.processes → Judges L (queue_cubes s (configuration_of c) (p + 1) 0) a
      → Judges L (queue_cubes s (configuration_of c) p v) a
  row_done l m x = judges_same (cubes_row s (configuration_of c) p v l m) x

  pub queues_done : {L : Listing} {a : Bool} → s.variables ≤ v → s.processes ≤ p + 1
      → Answers L c a → Judges L (queue_cubes s (configuration_of c) p v) a
  queues_done {a = a} l m x = judges_same (cubes_end s c p v l m) (judges_one c a w.roomy x)

-- ---- the shapes of a channel begin at the first queue

pub first_queue : {s : Shape} {states : List ℕ} {ms : List Message} {d : ℕ} {places : List ℕ} {c : Cube} → SmallShape s → ShapeCube s states ms d places c → AtQueue s c 0 0
first_queue w x = record { small = w; process = w.some; variable = omega arith; roomy = x.roomy }

pub channel_judged : {s : Shape} {states : List ℕ} {ms : List Message} {d : ℕ} {places : List ℕ} {c : Cube} {L : Listing} {a : Bool} → SmallShape s
    → ShapeCube s states ms d places c → Judges L (queue_cubes s (configuration_of c) 0 0) a
    → Judges L (target_leaf s states (outline_of ms d places)) a
channel_judged {s} {states} {ms} {d} {places} {c} w x j = judges_same (cubes_all s states (outline_of ms d places) (configuration_of c) w.some x.stands) j
