-- How the irreducible shapes are walked: the list `shape_cubes`, cut where the walk branches. No statement rests on these definitions.
use Rattle.std.specs.Prelude.{ℕ, zero, suc, ◌-◌, ◌<◌, ◌≤◌, ◌≡◌, Bool, true, false, get_or, take, eqb}
use mathlib.Core.List.{List, [], ◌∷◌, ◌++◌, map, Memᴰ}
use Rattle.machine_pws.specs.declared.Message.{Message}
use Rattle.machine_pws.specs.Program.{ShapeInRange}
use Rattle.machine_pws.specs.Machine.{Configuration, put, put_queue}
use Rattle.machine_pws.specs.Configurations.{Fits}
use Rattle.machine_pws.specs.Entries.{FF, ValueOrFF}
use Rattle.file_records.specs.declared.program.Shape.{Shape}
use Rattle.file_records.specs.ProgramPart.{shape_of}
use Rattle.file_contents.specs.Cube.{channel_of, configuration_of}
use Rattle.list_theory.specs.Lists.{for_each, every}
use Rattle.list_theory.specs.Cubes.{any_message}
use Rattle.list_theory.specs.Shapes.{Outline, allowed, outlines, longest, outline_memory, queue_shapes}
use Rattle.list_theory.specs.Decision.{held}
use Rattle.file_contents.specs.declared.entry.Cube.{Cube}
use Rattle.file_again.specs.Again.{cube_at, entries_of}
use Rattle.list_theory.specs.Family.{family_cube}
use Rattle.list_theory.specs.Seen.{with_memory}
use Rattle.list_summary.specs.Summary.{Summed}
use Rattle.list_summary.specs.declared.listing.Listing.{Listing}
use Rattle.list_targets.specs.declared.seen.Sight.{Sight}
use Rattle.list_targets.specs.declared.Aim.{Aim}
use Rattle.list_targets.specs.declared.Aim.TheVariants.{Target, Family, Sees}
use Rattle.list_targets.specs.declared.Sketch.{Sketch}
use Rattle.list_targets.specs.declared.Next.{Next}
use Rattle.list_targets.specs.ShapeCube.{empty_shape}
use Rattle.list_targets.specs.Seeing.{seen_at}

-- ---- what a walk over some shapes says

-- a list that can be searched: its entries fit the shape
pub record Searches (f list sum : List ℕ) (n : ℕ) (s : Shape) : Type 0 where
  pub count : n ≤ 524288
  pub shape : ShapeInRange (shape_of s)
  pub entries : (k : ℕ) → k < n → Fits (ValueOrFF (shape_of s)) (shape_of s) (configuration_of (cube_at f list k))
  pub summed : Summed f list sum n s

-- the same of a list that is one value; its entry k, and all of its entries
abbrev pub Searched : Listing → Type 0
Searched L = Searches L.file.now L.offsets.now L.summary.now L.count L.shape

abbrev pub entry_of : Listing → ℕ → Cube
entry_of L k = cube_at L.file.now L.offsets.now k

abbrev pub listed : Listing → List Configuration
listed L = entries_of L.file.now L.offsets.now L.count

-- r says whether all of cs are held, if they fit the shape
pub record Judges (L : Listing) (cs : List Configuration) (r : Bool) : Type 0 where
  pub judged : Searched L → ((c : Configuration) → Memᴰ c cs → Fits (ValueOrFF (shape_of L.shape)) (shape_of L.shape) c) → r ≡ every (held (shape_of L.shape) (listed L)) cs

-- ---- queues

-- `left` queues of p, from that of v on, are to be empty or not
abbrev pub row_from : ℕ → ℕ → ℕ → (ℕ → ℕ → List ℕ) → List (ℕ → ℕ → List ℕ)
row_from zero p v q = q ∷ []
row_from (suc left) p v q = row_from left p (suc v) q ++ row_from left p (suc v) (put_queue q p v (FF ∷ []))

-- and those of `rows` processes, from p on
abbrev pub rows_from : ℕ → ℕ → ℕ → (ℕ → ℕ → List ℕ) → List (ℕ → ℕ → List ℕ)
rows_from variables zero p q = q ∷ []
rows_from variables (suc rows) p q = for_each (row_from variables p 0 q) (rows_from variables rows (suc p))

-- the queues of p from v on, and those of the processes after p
unfoldable pub queues_from : Shape → ℕ → ℕ → (ℕ → ℕ → List ℕ) → List (ℕ → ℕ → List ℕ)
queues_from s p v q = for_each (row_from (s.variables - v) p v q) (rows_from s.variables (s.processes - suc p) (suc p))

abbrev pub with_queues : Configuration → (ℕ → ℕ → List ℕ) → Configuration
with_queues c q = record { state = c.state; queue = q; memory = c.memory }

-- c, and the shapes that differ from it in these queues
unfoldable pub queue_cubes : Shape → Configuration → ℕ → ℕ → List Configuration
queue_cubes s c p v = map (with_queues c) (queues_from s p v c.queue)

-- ---- channels

-- each way to place at d some of the `left` processes from q on
abbrev pub choices_from : (ℕ → ℕ) → ℕ → ℕ → ℕ → (ℕ → ℕ) → List (ℕ → ℕ)
choices_from place d zero q new = new ∷ []
choices_from place d (suc left) q new = elim (eqb (place q) 0) [
  | true ↦ choices_from place d left (suc q) new ++ choices_from place d left (suc q) (put new q d)
  | false ↦ choices_from place d left (suc q) new
]

-- what is to be held of an outline that is complete
abbrev pub Leaf : Type 0
Leaf = Outline → List Configuration

-- of a target: the shapes with these local states, with every choice of empty queues
abbrev pub target_leaf : Shape → List ℕ → Leaf
target_leaf s states o = map (with_queues (empty_shape s states o)) (queue_shapes s.processes s.variables)

-- of a family: the one cube with its local states, queues and newest values
abbrev pub family_leaf : Shape → Cube → Leaf
family_leaf s e o = family_cube (configuration_of e) (outline_memory (shape_of s) o) ∷ []

-- of an entry: the cubes with its local states and queues, in which a process can come to see a value
abbrev pub seen_leaf : Shape → Sight → Cube → Leaf
seen_leaf s sight e o = seen_at (shape_of s) sight (with_memory (configuration_of e) (outline_memory (shape_of s) o))

-- of what is looked for
abbrev pub leaf_of : Listing → Aim → Leaf
leaf_of L (Target states) = target_leaf L.shape states
leaf_of L (Family k) = family_leaf L.shape (entry_of L k)
leaf_of L (Sees k sight) = seen_leaf L.shape sight (entry_of L k)

-- that of these messages, newest first, before those of an outline
abbrev pub cubes_after : Leaf → List Message → Outline → List Configuration
cubes_after leaf front o = leaf (record { channel = front ++ o.channel; place = o.place })

-- the shapes whose newest d messages are these, with these places
unfoldable pub outline_cubes : Shape → Leaf → List Message → ℕ → List ℕ → List Configuration
outline_cubes s leaf ms d places =
    for_each (outlines (shape_of s) (suc (longest (shape_of s)) - d) d (channel_of ms d) (λ q. get_or places q 0)) (cubes_after leaf (take d ms))

-- all of them
abbrev pub all_cubes : Shape → Leaf → List Configuration
all_cubes s leaf = for_each (outlines (shape_of s) (suc (longest (shape_of s))) 0 [] (λ q. 0)) leaf

-- those whose next message has the label (p, v), and the places new
abbrev pub label_cubes : Shape → Leaf → List Message → ℕ → List ℕ → ℕ → ℕ → (ℕ → ℕ) → List Configuration
label_cubes s leaf ms d places p v new = elim (allowed (shape_of s) (channel_of ms d) (λ q. get_or places q 0) new p v) [
  | true ↦ for_each (outlines (shape_of s) (longest (shape_of s) - d) (suc d) (any_message (shape_of s) p v ∷ channel_of ms d) new)
      (cubes_after leaf (take d ms ++ (any_message (shape_of s) p v ∷ [])))
  | false ↦ []
]

-- and those whose places are these up to q
unfoldable pub choice_cubes : Shape → Leaf → List Message → ℕ → List ℕ → ℕ → ℕ → List ℕ → ℕ → List Configuration
choice_cubes s leaf ms d places p v new q =
    for_each (choices_from (λ k. get_or places k 0) (suc d) (s.processes - q) q (λ k. get_or new k 0)) (label_cubes s leaf ms d places p v)

-- what is looked for in all shapes, in those that begin as a sketch does, and in those of them whose next message is this one
abbrev pub aimed_cubes : Listing → Aim → List Configuration
aimed_cubes L aim = all_cubes L.shape (leaf_of L aim)

abbrev pub sketch_cubes : Listing → Aim → Sketch → List Configuration
sketch_cubes L aim k = outline_cubes L.shape (leaf_of L aim) k.messages k.count k.places

abbrev pub next_cubes : Listing → Aim → Sketch → Next → ℕ → List Configuration
next_cubes L aim k m q = choice_cubes L.shape (leaf_of L aim) k.messages k.count k.places m.process m.variable m.places q
