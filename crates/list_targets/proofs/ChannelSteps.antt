-- The steps of the walk over channels.
use Prim.Native.Nat.{ℕ, ◌+◌, ◌<◌, ◌≤◌}
use mathlib.Core.Path.{◌≡◌, subst}
use mathlib.Core.Logic.{◌≢◌}
use mathlib.Core.Bool.{Bool, true, false, not}
use mathlib.Core.List.{List}
use native.Mathlib.Omega.{arith}
use native.Mathlib.Decide.{ℕ_discrete}
use lib.ListN.{length, get_or, set}
use lib.Dec.{eqb}
use Rattle.machine_pws.specs.declared.Message.{Message}
use Rattle.machine_pws.specs.Machine.{Configuration, all_below}
use Rattle.file_records.specs.declared.program.Shape.{Shape}
use Rattle.list_summary.specs.declared.listing.Listing.{Listing}
use Rattle.file_records.specs.ProgramPart.{shape_of}
use Rattle.file_contents.specs.Cube.{channel_of}
use Rattle.list_theory.specs.Lists.{for_below}
use Rattle.list_theory.specs.Cubes.{any_message}
use Rattle.list_theory.specs.Shapes.{allowed, longest}
use Rattle.list_targets.specs.ShapeCube.{outline_of}
use Rattle.list_targets.specs.Walk.{Judges, Leaf, outline_cubes, choice_cubes}
use Rattle.list_targets.specs.Depth.{AtMessage, AtPlace}
use Rattle.list_targets.proofs.JudgeLaws.{judges_same, judges_none, judges_both, judges_first, below_false, EachHeld, held_all}
use Rattle.list_targets.proofs.ChannelWalk.{choice_branch, choice_skip, choice_refused, choice_allowed, outline_done, outline_over, outline_labels}

-- the shapes whose next message has the label (p, v), and all whose label has the process p
abbrev pub labelled_by : Shape → Leaf → List Message → ℕ → List ℕ → ℕ → ℕ → List Configuration
labelled_by s leaf ms d places p v = choice_cubes s leaf ms d places p v places 0

abbrev pub written_by : Shape → Leaf → List Message → ℕ → List ℕ → ℕ → List Configuration
written_by s leaf ms d places p = for_below s.variables (labelled_by s leaf ms d places p)

module _ {s : Shape} {most d : ℕ} (w : AtMessage s most d) where
  abbrev short : d ≤ longest (shape_of s)
  short = subst (λ (k : ℕ). d ≤ k) w.longest w.depth

  pub first_place : (p v : ℕ) → d < most → p < s.processes → v < s.variables → AtPlace s most d p v 0
  first_place p v l a b = record { message = w; more = l; process = a; variable = b; place = omega arith }

  module _ (leaf : Leaf) (ms : List Message) (places : List ℕ) where
    abbrev placed : Bool
    placed = all_below s.processes (λ q. not (eqb (get_or places q 0) 0))

    module _ {L : Listing} where
      pub all_there : {a : Bool} → placed ≡ true → Judges L (leaf (outline_of ms d places)) a
          → Judges L (outline_cubes s leaf ms d places) a
      all_there e x = judges_same (outline_done s leaf ms d places short e) x

      pub too_long : placed ≡ false → most ≤ d → Judges L (outline_cubes s leaf ms d places) true
      too_long e l = judges_same (outline_over s leaf ms d places short e (subst (λ (n : ℕ). n ≤ d) w.longest l)) judges_none

      pub label_not : (p v : ℕ) → placed ≡ false → p < s.processes → v < s.variables → Judges L (labelled_by s leaf ms d places p v) false → Judges L (outline_cubes s leaf ms d places) false
      label_not p v e l m x =
          judges_same (outline_labels s leaf ms d places short e)
          (below_false s.processes (written_by s leaf ms d places) p l (below_false s.variables (labelled_by s leaf ms d places p) v m x))

      pub labels_held : {i : ℕ} → placed ≡ false → EachHeld L (written_by s leaf ms d places) s.processes i → s.processes ≤ i
          → Judges L (outline_cubes s leaf ms d places) true
      labels_held e x l = judges_same (outline_labels s leaf ms d places short e) (held_all x l)

module _ {s : Shape} {most d p v q : ℕ} (w : AtPlace s most d p v q) where
  pub next_place : q < s.processes → AtPlace s most d p v (q + 1)
  next_place l = record { message = w.message; more = w.more; process = w.process; variable = w.variable; place = omega arith }

  pub next_message : AtMessage s most (d + 1)
  next_message =
      record {
        small = w.message.small;
        longest = w.message.longest;
        room = w.message.room;
        depth = omega (arith, w.more);
      }

  module _ (leaf : Leaf) (ms : List Message) (places new : List ℕ) where
    abbrev cubes : List ℕ → ℕ → List Configuration
    cubes = choice_cubes s leaf ms d places p v

    abbrev allows : Bool
    allows = allowed (shape_of s) (channel_of ms d) (λ q. get_or places q 0) (λ q. get_or new q 0) p v

    module _ {L : Listing} where
      pub refused : s.processes ≤ q → allows ≡ false → Judges L (cubes new q) true
      refused l e = judges_same (choice_refused s leaf ms d places p v new q l e) judges_none

      pub allowed_one : {m : Message} {a : Bool} → s.processes ≤ q → allows ≡ true → d < length ms → m ≡ any_message (shape_of s) p v
          → Judges L (outline_cubes s leaf (set ms d m) (d + 1) new) a → Judges L (cubes new q) a
      allowed_one {a = a} l e u g x =
          judges_same (choice_allowed s leaf ms d places p v new q l e u)
          (subst (λ (y : Message). Judges L (outline_cubes s leaf (set ms d y) (d + 1) new) a) g x)

      module _ (l : q < s.processes) where
        pub unplaced_not : q < length new → Judges L (cubes new (q + 1)) false → Judges L (cubes new q) false
        unplaced_not u x = elim (ℕ_discrete (get_or places q 0) 0) [
          | yes z ↦ judges_same (choice_branch s leaf ms d places p v new q l u z) (judges_first (cubes (set new q (d + 1)) (q + 1)) x)
          | no z ↦ judges_same (choice_skip s leaf ms d places p v new q l z) x
        ]

        pub was_placed : {a : Bool} → get_or places q 0 ≢ 0 → Judges L (cubes new (q + 1)) a → Judges L (cubes new q) a
        was_placed z x = judges_same (choice_skip s leaf ms d places p v new q l z) x

        pub placed_too : {b : Bool} → q < length new → get_or places q 0 ≡ 0 → Judges L (cubes new (q + 1)) true → Judges L (cubes (set new q (d + 1)) (q + 1)) b → Judges L (cubes new q) b
        placed_too u z x y = judges_same (choice_branch s leaf ms d places p v new q l u z) (judges_both x y)
