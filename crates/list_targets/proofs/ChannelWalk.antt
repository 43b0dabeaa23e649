-- The walk over the channels of the irreducible shapes, from the newest message backwards.
use Prim.Native.Nat.{ℕ, zero, suc, ◌+◌, ◌-◌, ◌<◌, ◌≤◌}
use mathlib.Core.Path.{fun_ext, ◌≡◌, refl, sym, ap, ap₂, subst, ◌∙◌}
use mathlib.Core.Logic.{◌≢◌}
use mathlib.Core.Bool.{Bool, true, false, not}
use mathlib.Core.List.Memᴰ
use mathlib.Core.List.{List, [], ◌∷◌, ◌++◌, map, append-nil, Memᴰ}
use native.Mathlib.Omega.{arith}
use native.Mathlib.Numerals.{add-one}
use lib.ListN.{length, get_or, set, take}
use lib.Seq.{get_or-set_same, get_or-set_other, take-suc-set, append_snoc}
use lib.Dec.{eqb}
use borrow.Author.Tests.{eq-eqb, ne_eqb}
use Rattle.machine_pws.specs.declared.Message.{Message}
use Rattle.machine_pws.specs.Program as pws
use Rattle.machine_pws.specs.Machine.{Configuration, put, no_message, all_below}
use Rattle.machine_pws.specs.Configurations.{Fits}
use Rattle.machine_pws.specs.Entries.{ValueOrFF}
use Rattle.file_records.specs.declared.program.Shape.{Shape}
use Rattle.file_records.specs.ProgramPart.{shape_of}
use Rattle.file_contents.specs.Cube.{channel_of, configuration_of}
use Rattle.file_contents.proofs.CubeParts.{channel_equal, four_put}
use Rattle.list_theory.specs.Lists.{for_below, for_each}
use Rattle.list_theory.specs.Cubes.{any_message}
use Rattle.list_theory.specs.Shapes.{Outline, choices, allowed, outlines, longest, outline_memory, memory_shapes, queue_shapes, shape_cubes}
use Rattle.list_theory.proofs.Lists.{each_in}
use Rattle.list_theory.proofs.Shapes.{memory_shape, queues_shape}
use Rattle.list_targets.specs.ShapeCube.{outline_of}
use Rattle.file_contents.specs.declared.entry.Cube.{Cube}
use Rattle.list_theory.specs.Family.{family_cube, family_cubes}
use Rattle.list_targets.specs.Walk.{choices_from, Leaf, target_leaf, family_leaf, cubes_after, outline_cubes, all_cubes, label_cubes, choice_cubes}
use Rattle.list_targets.proofs.ListLaws.{each_append, each_one, each_below, each_each, each_map, each_none, below_none, each_itself}

-- ---- places

abbrev choice_at : (ℕ → ℕ) → ℕ → ℕ → (ℕ → ℕ) → List (ℕ → ℕ)
choice_at place d q new = elim (eqb (place q) 0) [ true ↦ new ∷ put new q d ∷ [] | false ↦ new ∷ [] ]

choices_split : (left q w d : ℕ) (place : ℕ → ℕ) → q + left ≡ w → choices w place d ≡ for_each (choices q place d) (choices_from place d left q)
choices_split zero q w d place e = ap (λ (k : ℕ). choices k place d) {x = w} {y = q} (omega arith) ∙ sym (each_itself (choices q place d))
choices_split (suc left) q w d place e =
    choices_split left (suc q) w d place (omega arith)
    ∙ each_each (choices q place d) (choice_at place d q) (choices_from place d left (suc q))
    ∙ ap (for_each (choices q place d)) (fun_ext (λ new. at new (eqb (place q) 0)))
  where
    at : (new : ℕ → ℕ) (b : Bool) → for_each (elim b [ true ↦ new ∷ put new q d ∷ [] | false ↦ new ∷ [] ]) (choices_from place d left (suc q)) ≡ elim b [
      | true ↦ choices_from place d left (suc q) new ++ choices_from place d left (suc q) (put new q d)
      | false ↦ choices_from place d left (suc q) new
    ]
    at new true = ap (◌++◌ (choices_from place d left (suc q) new)) (append-nil (choices_from place d left (suc q) (put new q d)))
    at new false = append-nil (choices_from place d left (suc q) new)

choices_all : (n d : ℕ) (place : ℕ → ℕ) → choices n place d ≡ choices_from place d n 0 place
choices_all n d place = choices_split n 0 n d place (omega arith) ∙ each_one place (choices_from place d n 0)

module _ (s : Shape) (leaf : Leaf) where
  abbrev S : pws.Shape
  S = shape_of s

  -- ---- one process after another is placed, or not

  module _ (ms : List Message) (d : ℕ) (places : List ℕ) (p v : ℕ) where
    abbrev place : ℕ → ℕ
    place k = get_or places k 0

    abbrev more : (ℕ → ℕ) → List Configuration
    more = label_cubes s leaf ms d places p v

    abbrev from : List ℕ → ℕ → List Configuration
    from new q = choice_cubes s leaf ms d places p v new q

    pub choice_branch : (new : List ℕ) (q : ℕ) → q < s.processes → q < length new → get_or places q 0 ≡ 0 → from new q ≡ from new (q + 1) ++ from (set new q (d + 1)) (q + 1)
    unfolding choice_cubes
    choice_branch new q l m e =
        ap (λ (k : ℕ). for_each (choices_from place (suc d) k q (λ k. get_or new k 0)) more) {x = s.processes - q} {y = suc (s.processes - suc q)} (omega arith)
        ∙ at (eqb (place q) 0) (eq-eqb (place q) 0 e)
        ∙ each_append (choices_from place (suc d) (s.processes - suc q) (suc q) (λ k. get_or new k 0)) (choices_from place (suc d) (s.processes - suc q) (suc q) (put (λ k. get_or new k 0) q (suc d))) more
        ∙ ap (λ (w : ℕ → ℕ). for_each (choices_from place (suc d) (s.processes - suc q) (suc q) (λ k. get_or new k 0)) more ++ for_each (choices_from place (suc d) (s.processes - suc q) (suc q) w) more)
        (sym (four_put new q (suc d) m) ∙ ap {A = ℕ} {B = ℕ → ℕ} (λ x k. get_or (set new q x) k 0) (sym (add-one d)))
        ∙ ap (λ (k : ℕ). for_each (choices_from place (suc d) (s.processes - k) k (λ k. get_or new k 0)) more ++ for_each (choices_from place (suc d) (s.processes - k) k (λ k. get_or (set new q (d + 1)) k 0)) more) (sym (add-one q))
      where
        at : (b : Bool) → b ≡ true → for_each (elim b [
          | true ↦ choices_from place (suc d) (s.processes - suc q) (suc q) (λ k. get_or new k 0) ++ choices_from place (suc d) (s.processes - suc q) (suc q) (put (λ k. get_or new k 0) q (suc d))
          | false ↦ choices_from place (suc d) (s.processes - suc q) (suc q) (λ k. get_or new k 0)
        ]) more ≡ for_each (choices_from place (suc d) (s.processes - suc q) (suc q) (λ k. get_or new k 0) ++ choices_from place (suc d) (s.processes - suc q) (suc q) (put (λ k. get_or new k 0) q (suc d))) more
        at b f = rw f refl

    pub choice_skip : (new : List ℕ) (q : ℕ) → q < s.processes → get_or places q 0 ≢ 0 → from new q ≡ from new (q + 1)
    unfolding choice_cubes
    choice_skip new q l e =
        ap (λ (k : ℕ). for_each (choices_from place (suc d) k q (λ k. get_or new k 0)) more) {x = s.processes - q} {y = suc (s.processes - suc q)} (omega arith)
        ∙ at (eqb (place q) 0) (ne_eqb (place q) 0 e)
        ∙ ap (λ (k : ℕ). for_each (choices_from place (suc d) (s.processes - k) k (λ k. get_or new k 0)) more) (sym (add-one q))
      where
        at : (b : Bool) → b ≡ false → for_each (elim b [
          | true ↦ choices_from place (suc d) (s.processes - suc q) (suc q) (λ k. get_or new k 0) ++ choices_from place (suc d) (s.processes - suc q) (suc q) (put (λ k. get_or new k 0) q (suc d))
          | false ↦ choices_from place (suc d) (s.processes - suc q) (suc q) (λ k. get_or new k 0)
        ]) more ≡ for_each (choices_from place (suc d) (s.processes - suc q) (suc q) (λ k. get_or new k 0)) more
        at b f = rw f refl

    choice_end : (new : List ℕ) (q : ℕ) → s.processes ≤ q → from new q ≡ more (λ k. get_or new k 0)
    unfolding choice_cubes
    choice_end new q l =
        ap (λ (k : ℕ). for_each (choices_from place (suc d) k q (λ k. get_or new k 0)) more) {x = s.processes - q} {y = 0} (omega arith)
        ∙ each_one (λ k. get_or new k 0) more

    abbrev next : Message
    next = any_message S p v

    abbrev allows : List ℕ → Bool
    allows new = allowed S (channel_of ms d) place (λ k. get_or new k 0) p v

    abbrev after : (ℕ → ℕ) → List Configuration
    after new = for_each (outlines S (longest S - d) (suc d) (next ∷ channel_of ms d) new) (cubes_after leaf (take d ms ++ (next ∷ [])))

    picked : (new : ℕ → ℕ) (b c : Bool) → b ≡ c → ◌≡◌ {A = List Configuration} (elim b [ true ↦ after new | false ↦ [] ]) (elim c [ true ↦ after new | false ↦ [] ])
    picked new b c e = rw e refl

    pub choice_refused : (new : List ℕ) (q : ℕ) → s.processes ≤ q → allows new ≡ false → from new q ≡ []
    choice_refused new q l e = choice_end new q l ∙ picked (λ k. get_or new k 0) (allows new) false e

    pub choice_allowed : (new : List ℕ) (q : ℕ) → s.processes ≤ q → allows new ≡ true → d < length ms → from new q ≡ outline_cubes s leaf (set ms d next) (d + 1) new
    unfolding outline_cubes
    choice_allowed new q l e m =
        choice_end new q l ∙ picked (λ k. get_or new k 0) (allows new) true e
        ∙ ap (λ (seen : List Message). for_each (outlines S (longest S - d) (suc d) seen (λ k. get_or new k 0)) (cubes_after leaf (take d ms ++ (next ∷ []))))
        (ap₂ {A = Message} {B = List Message} (λ x xs. x ∷ xs) (sym (get_or-set_same ms d next no_message m))
        (channel_equal ms (set ms d next) d (λ i j. sym (get_or-set_other ms d i next no_message (λ n. omega arith)))))
        ∙ ap (λ (front : List Message). for_each (outlines S (longest S - d) (suc d) (channel_of (set ms d next) (suc d)) (λ k. get_or new k 0)) (cubes_after leaf front)) (sym (take-suc-set ms d next m))
        ∙ ap (λ (fuel : ℕ). for_each (outlines S fuel (suc d) (channel_of (set ms d next) (suc d)) (λ k. get_or new k 0)) (cubes_after leaf (take (suc d) (set ms d next)))) {x = longest S - d} {y = suc (longest S) - suc d} (omega arith)
        ∙ ap (λ (k : ℕ). for_each (outlines S (suc (longest S) - k) k (channel_of (set ms d next) k) (λ k. get_or new k 0)) (cubes_after leaf (take k (set ms d next)))) (sym (add-one d))

  -- ---- one message more

  module _ (ms : List Message) (d : ℕ) (places : List ℕ) where
    abbrev at_place : ℕ → ℕ
    at_place k = get_or places k 0

    abbrev placed : Bool
    placed = all_below s.processes (λ q. not (eqb (at_place q) 0))

    abbrev group : Outline → List Configuration
    group = cubes_after leaf (take d ms)

    abbrev longer : ℕ → ℕ → Outline → Outline
    longer p v o = record { channel = any_message S p v ∷ o.channel; place = o.place }

    abbrev body : ℕ → ℕ → ℕ → (ℕ → ℕ) → List Outline
    body fuel p v new = elim (allowed S (channel_of ms d) at_place new p v) [
      | true ↦ map (longer p v) (outlines S fuel (suc d) (any_message S p v ∷ channel_of ms d) new)
      | false ↦ []
    ]

    abbrev labels : ℕ → List Outline
    labels fuel = for_below s.processes (λ p. for_below s.variables (λ v. for_each (choices s.processes at_place (suc d)) (body fuel p v)))

    -- what there is when all are placed, and when not
    opened : (fuel : ℕ) (b c : Bool) → b ≡ c → ◌≡◌ {A = List Outline} (elim b [ true ↦ record { channel = []; place = at_place } ∷ [] | false ↦ labels fuel ]) (elim c [ true ↦ record { channel = []; place = at_place } ∷ [] | false ↦ labels fuel ])
    opened fuel b c e = rw e refl

    fuel_left : d ≤ longest S → outline_cubes s leaf ms d places ≡ for_each (elim placed [ true ↦ record { channel = []; place = at_place } ∷ [] | false ↦ labels (longest S - d) ]) group
    unfolding outline_cubes
    fuel_left l = ap (λ (fuel : ℕ). for_each (outlines S fuel d (channel_of ms d) at_place) group) {x = suc (longest S) - d} {y = suc (longest S - d)} (omega arith)

    pub outline_done : d ≤ longest S → placed ≡ true → outline_cubes s leaf ms d places ≡ leaf (outline_of ms d places)
    outline_done l e =
        fuel_left l ∙ ap (λ (os : List Outline). for_each os group) (opened (longest S - d) placed true e)
        ∙ each_one (record { channel = []; place = at_place }) group
        ∙ ap (λ (xs : List Message). leaf (record { channel = xs; place = at_place })) (append-nil (take d ms))

    open_labels : d ≤ longest S → placed ≡ false → outline_cubes s leaf ms d places ≡ for_each (labels (longest S - d)) group
    open_labels l e = fuel_left l ∙ ap (λ (os : List Outline). for_each os group) (opened (longest S - d) placed false e)

    no_body : (p v : ℕ) (new : ℕ → ℕ) (b : Bool) → ◌≡◌ {A = List Outline} (elim b [ true ↦ map (longer p v) (outlines S 0 (suc d) (any_message S p v ∷ channel_of ms d) new) | false ↦ [] ]) []
    no_body p v new true = refl
    no_body p v new false = refl

    -- no channel is as long
    pub outline_over : d ≤ longest S → placed ≡ false → longest S ≤ d → outline_cubes s leaf ms d places ≡ []
    outline_over l e m =
        open_labels l e
        ∙ ap (λ (fuel : ℕ). for_each (labels fuel) group) {x = longest S - d} {y = 0} (omega arith)
        ∙ ap (λ (os : List Outline). for_each os group) (below_none s.processes _ (λ p. below_none s.variables _ (λ v. each_none (choices s.processes at_place (suc d)) (body 0 p v)
        (λ new. no_body p v new (allowed S (channel_of ms d) at_place new p v)))))

    -- a message before those of an outline
    one_longer : (p v : ℕ) (o : Outline) → group (longer p v o) ≡ cubes_after leaf (take d ms ++ (any_message S p v ∷ [])) o
    one_longer p v o = ap (λ (xs : List Message). leaf (record { channel = xs; place = o.place }))
        (sym (append_snoc (take d ms) (any_message S p v) o.channel))

    body_is : (p v : ℕ) (new : ℕ → ℕ) → for_each (body (longest S - d) p v new) group ≡ label_cubes s leaf ms d places p v new
    body_is p v new = at (allowed S (channel_of ms d) at_place new p v)
      where
        at : (b : Bool) → for_each (elim b [ true ↦ map (longer p v) (outlines S (longest S - d) (suc d) (any_message S p v ∷ channel_of ms d) new) | false ↦ [] ]) group
            ≡ (elim b [ true ↦ for_each (outlines S (longest S - d) (suc d) (any_message S p v ∷ channel_of ms d) new) (cubes_after leaf (take d ms ++ (any_message S p v ∷ []))) | false ↦ [] ])
        at true =
            each_map (longer p v) (outlines S (longest S - d) (suc d) (any_message S p v ∷ channel_of ms d) new) group
            ∙ ap (for_each (outlines S (longest S - d) (suc d) (any_message S p v ∷ channel_of ms d) new)) (fun_ext (one_longer p v))
        at false = refl

    choices_are : (p v : ℕ) → for_each (for_each (choices s.processes at_place (suc d)) (body (longest S - d) p v)) group ≡ choice_cubes s leaf ms d places p v places 0
    unfolding choice_cubes
    choices_are p v =
        each_each (choices s.processes at_place (suc d)) (body (longest S - d) p v) group
        ∙ ap (for_each (choices s.processes at_place (suc d))) (fun_ext (body_is p v))
        ∙ ap (λ (ns : List (ℕ → ℕ)). for_each ns (label_cubes s leaf ms d places p v)) (choices_all s.processes (suc d) at_place)
        ∙ ap (λ (k : ℕ). for_each (choices_from at_place (suc d) k 0 at_place) (label_cubes s leaf ms d places p v)) {x = s.processes} {y = s.processes - 0} (omega arith)

    pub outline_labels : d ≤ longest S → placed ≡ false
        → outline_cubes s leaf ms d places ≡ for_below s.processes (λ p. for_below s.variables (λ v. choice_cubes s leaf ms d places p v places 0))
    outline_labels l e =
        open_labels l e
        ∙ each_below s.processes (λ p. for_below s.variables (λ v. for_each (choices s.processes at_place (suc d)) (body (longest S - d) p v))) group
        ∙ ap (for_below s.processes) (fun_ext (λ p.
        each_below s.variables (λ v. for_each (choices s.processes at_place (suc d)) (body (longest S - d) p v)) group
        ∙ ap (for_below s.variables) (fun_ext (choices_are p))))

  -- ---- all of them

  nobody : (q : ℕ) → ◌≡◌ {A = ℕ} 0 (get_or (0 ∷ 0 ∷ 0 ∷ 0 ∷ []) q 0)
  nobody zero = refl
  nobody (suc zero) = refl
  nobody (suc (suc zero)) = refl
  nobody (suc (suc (suc zero))) = refl
  nobody (suc (suc (suc (suc q)))) = refl

  pub walk_all : (ms : List Message) → all_cubes s leaf ≡ outline_cubes s leaf ms 0 (0 ∷ 0 ∷ 0 ∷ 0 ∷ [])
  unfolding outline_cubes
  walk_all ms =
      ap (λ (z : ℕ → ℕ). for_each (outlines S (suc (longest S)) 0 [] z) (cubes_after leaf [])) (fun_ext nobody)
      ∙ ap (λ (fuel : ℕ). for_each (outlines S fuel 0 [] (λ q. get_or (0 ∷ 0 ∷ 0 ∷ 0 ∷ []) q 0)) (cubes_after leaf [])) {x = suc (longest S)} {y = suc (longest S) - 0} (omega arith)

-- of a target, and of a family
pub target_cubes : (s : Shape) (states : List ℕ) → shape_cubes (shape_of s) (λ q. get_or states q 0) ≡ all_cubes s (target_leaf s states)
target_cubes s states =
    each_map (outline_memory (shape_of s)) (outlines (shape_of s) (suc (longest (shape_of s))) 0 [] (λ q. 0))
    (λ m. map (λ q. record { state = λ (k : ℕ). get_or states k 0; queue = q; memory = m }) (queue_shapes s.processes s.variables))

pub family_cubes_lem : (s : Shape) (e : Cube) → family_cubes (shape_of s) (configuration_of e) ≡ all_cubes s (family_leaf s e)
family_cubes_lem s e =
    sym (each_itself (map (family_cube (configuration_of e)) (memory_shapes (shape_of s))))
    ∙ each_map (family_cube (configuration_of e)) (memory_shapes (shape_of s)) (λ c. c ∷ [])
    ∙ each_map (outline_memory (shape_of s)) (outlines (shape_of s) (suc (longest (shape_of s))) 0 [] (λ q. 0)) (λ m. family_cube (configuration_of e) m ∷ [])

-- each fits the shape
pub shapes_fit : (S : pws.Shape) → pws.ShapeInRange S → (t : ℕ → ℕ) (c : Configuration) → Memᴰ c (shape_cubes S t) → Fits (ValueOrFF S) S c
shapes_fit S R t c i =
    let r = each_in (memory_shapes S) (λ m. map (λ q. record { state = t; queue = q; memory = m }) (queue_shapes S.processes S.variables)) i in
    let q = Memᴰ.of_map (λ (q : ℕ → ℕ → List ℕ). record { state = t; queue = q; memory = r.0 }) (queue_shapes S.processes S.variables) r.2 in
    subst (Fits (ValueOrFF S) S) q.2 (record { memory = memory_shape S R.well_formed r.0 r.1; queues = queues_shape S S.processes q.0 (omega arith) q.1 })
