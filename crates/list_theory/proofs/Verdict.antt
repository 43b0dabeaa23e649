-- The verdict of a list: one is judged, exactly one, and it is what `verdict_of` computes. What a safe list says of every run.
use Prim.Native.Nat.{ℕ, ◌<◌}
use mathlib.Core.Path.{◌≡◌, refl, sym, ap, ap₂, subst, ◌∙◌}
use mathlib.Core.Logic.{◌↔◌, ⊎_elim}
use mathlib.Core.Bool.{Bool, not}
use mathlib.Core.Option.{Option, none, some}
use mathlib.Core.List.{List, Memᴰ}
use native.Mathlib.Omega.{arith}
use native.Mathlib.Decide.{dec_lt, ℕ_discrete}
use lib.ListN.{length}
use lib.Dec.{T, T_not}
use mir.Facts.{T_not-not}
use Rattle.machine_pws.specs.declared.Step.{Step}
use Rattle.machine_pws.specs.declared.Step.TheVariants.{Update}
use Rattle.machine_pws.specs.Program.{Shape, Program, WellFormed}
use Rattle.machine_pws.specs.Machine.{Configuration}
use Rattle.machine_pws.specs.Configurations.{StatesOf, ConfigurationOf}
use Rattle.machine_pws.specs.Entries.{NoValueIsFF, EntryOf, AboveList, filled, no_entry, entry}
use Rattle.machine_pws.specs.Sequences.{Visited, start, later}
use Rattle.machine_pws.proofs.Steps.{step_configuration}
use Rattle.list_theory.specs.Lists.{every, lowest}
use Rattle.list_theory.specs.Verdict.{TargetHeld, TargetMissed, NoStartAbove, StartAbove, Closed, WayIn, LowestWayIn, no_target, target, SafeList, ListSafety, ListVerdict, safe, unheld, started, entered, Unheld, Started, Entered, ListJudged}
use Rattle.list_theory.specs.Covering.{Outside}
use Rattle.list_theory.specs.Predecessors.{predecessors, steps, cube}
use Rattle.list_theory.specs.Shapes.{shape_cubes}
use Rattle.list_theory.specs.Decision.{held, target_held, looks_started, closed, open_step, verdict_of}
use Rattle.list_theory.proofs.Lists.{every_yes, every_no, Lowest, fails, passes, lowest_is}
use Rattle.list_theory.proofs.Cubes.{entry_cube}
use Rattle.list_theory.proofs.NoneMissing.{none_missing}
use Rattle.list_theory.proofs.NoneExtra.{none_extra, filling_configuration}
use Rattle.list_theory.proofs.Closed.{step_in, predecessor_of, cubes_step, cubes_closed}
use Rattle.list_theory.proofs.StepOrder.{before_or, steps_order, first_fails, first_lower}
use Rattle.list_theory.proofs.Targets.{shape_entry, shape_target, shapes_target}
use Rattle.list_theory.proofs.Starts.{start_above, no_start_above}
use Rattle.list_theory.proofs.Splitting.{Decided, held_decided, decided_yes, decided_no}

-- ---- a safe list, by number

module _ (P : Program) (ts : List (ℕ → ℕ)) (es : List Configuration) where
  abbrev pub TargetsHeld : Type 0
  TargetsHeld = (k : ℕ) → k < length ts → TargetHeld P es (target ts k)

  abbrev pub NoneStarted : Type 0
  NoneStarted = (k : ℕ) → k < length es → NoStartAbove P (entry es k)

  abbrev pub AllClosed : Type 0
  AllClosed = (k : ℕ) → k < length es → Closed P es (entry es k)

  pub safe_by_number : SafeList P ts es ↔ (TargetsHeld × NoneStarted × AllClosed)
  safe_by_number = (
    λ s. (
      λ k l c o i. s.targets c o k l i,
      λ k l c i A. s.starts c i (record { number = k; exists = l; above = A }),
      λ k l c o step t A. s.before c o step t (record { number = k; exists = l; above = A }),
    ),
    λ r. record {
      targets = λ c o k l i. r.0 k l c o i;
      starts = λ c i A. r.1 A.number A.exists c i A.above;
      before = λ c o step t A. r.2 A.number A.exists c o step t A.above;
    },
  )

-- ---- exactly one verdict

held_missed : {P : Program} {es : List Configuration} {t : ℕ → ℕ} → TargetHeld P es t → TargetMissed P es t → ⊥
held_missed H m = m.outside (H m.configuration m.of m.in_target)

none_start : {P : Program} {e : Configuration} → NoStartAbove P e → StartAbove P e → ⊥
none_start N s = N s.configuration s.start s.above

closed_way : {P : Program} {es : List Configuration} {e : Configuration} → Closed P es e → (s : Step) × WayIn P es e s → ⊥
closed_way C (s, w) = w.outside (C w.configuration w.of s w.permitted w.above)

way_same : {P : Program} {es : List Configuration} {e : Configuration} (s t : Step) → LowestWayIn P es e s → LowestWayIn P es e t → s ≡ t
way_same s t a b = ⊎_elim (λ e. e) (⊎_elim (λ l. absurd (b.lower s l a.way)) (λ l. absurd (a.lower t l b.way))) (before_or s t)

-- two lowest numbers are equal
lowest_same : {F G : ℕ → Type 0} → ((k : ℕ) → F k → G k → ⊥) → (i j : ℕ) → ((k : ℕ) → k < i → F k) → G i → ((k : ℕ) → k < j → F k) → G j → i ≡ j
lowest_same n i j fi gi fj gj = elim (ℕ_discrete i j) [
  | yes e ↦ e
  | no e ↦ elim (dec_lt i j) [ yes l ↦ absurd (n i (fj i l) gi) | no l ↦ absurd (n j (fi j (omega arith)) gj) ]
]

module _ (P : Program) (ts : List (ℕ → ℕ)) (es : List Configuration) where
  unheld_clash : {k : ℕ} → Unheld P ts es k → TargetsHeld P ts es → ⊥
  unheld_clash {k} u H = held_missed (H k u.exists) u.missed

  started_clash : {k : ℕ} → Started P ts es k → NoneStarted P ts es → ⊥
  started_clash {k} s N = none_start (N k s.exists) s.start

  entered_clash : {k : ℕ} {s : Step} → Entered P ts es k s → AllClosed P ts es → ⊥
  entered_clash {k} {s} w C = closed_way (C k w.exists) (s, w.way.way)

  entered_same : (k j : ℕ) (s t : Step) → Entered P ts es k s → Entered P ts es j t → entered k s ≡ entered j t
  entered_same k j s t x y =
      let e = lowest_same (λ i. closed_way) k j x.lower (s, x.way.way) y.lower (t, y.way.way) in
      ap₂ entered e (way_same s t x.way (subst (λ (i : ℕ). LowestWayIn P es (entry es i) t) (sym e) y.way))

  safe_parts : SafeList P ts es → TargetsHeld P ts es × NoneStarted P ts es × AllClosed P ts es
  safe_parts s = (safe_by_number P ts es).0 s

  pub verdict_unique : (a b : ListVerdict) → ListJudged P ts es a → ListJudged P ts es b → a ≡ b
  verdict_unique (safe m) (safe n) x y = ap safe (x.0 ∙ sym y.0)
  verdict_unique (safe m) (unheld k) x y = absurd (unheld_clash y (safe_parts x.1).0)
  verdict_unique (safe m) (started k) x y = absurd (started_clash y (safe_parts x.1).1)
  verdict_unique (safe m) (entered k s) x y = absurd (entered_clash y (safe_parts x.1).2)
  verdict_unique (unheld k) (safe n) x y = absurd (unheld_clash x (safe_parts y.1).0)
  verdict_unique (unheld k) (unheld j) x y = ap unheld (lowest_same (λ i. held_missed) k j x.lower x.missed y.lower y.missed)
  verdict_unique (unheld k) (started j) x y = absurd (unheld_clash x y.held)
  verdict_unique (unheld k) (entered j t) x y = absurd (unheld_clash x y.held)
  verdict_unique (started k) (safe n) x y = absurd (started_clash x (safe_parts y.1).1)
  verdict_unique (started k) (unheld j) x y = absurd (unheld_clash y x.held)
  verdict_unique (started k) (started j) x y = ap started (lowest_same (λ i. none_start) k j x.lower x.start y.lower y.start)
  verdict_unique (started k) (entered j t) x y = absurd (started_clash x y.unstarted)
  verdict_unique (entered k s) (safe n) x y = absurd (entered_clash x (safe_parts y.1).2)
  verdict_unique (entered k s) (unheld j) x y = absurd (unheld_clash y x.held)
  verdict_unique (entered k s) (started j) x y = absurd (started_clash y x.unstarted)
  verdict_unique (entered k s) (entered j t) x y = entered_same k j s t x y

-- ---- the verdict that is computed

module _ (P : Program) (R : WellFormed P) (es : List Configuration) (oes : (k : ℕ) → k < length es → EntryOf P (entry es k)) where
  abbrev S : Shape
  S = P.shape

  decided : (c : Configuration) → EntryOf P c → Decided S es c (held S es c)
  decided c o = held_decided S R.shape es (λ k l. (oes k l).fits) c o.fits

  -- number 9
  pub target_yes : (t : ℕ → ℕ) → StatesOf P t → T (target_held P es t) → TargetHeld P es t
  target_yes t o y = shapes_target P R t es (λ d i. decided_yes (decided d (shape_entry P R t o d i)) (every_yes (held S es) (shape_cubes S t) y d i))

  pub target_no : (t : ℕ → ℕ) → StatesOf P t → T (not (target_held P es t)) → TargetMissed P es t
  target_no t o y =
      let r = every_no (held S es) (shape_cubes S t) y in
      let w = shape_entry P R t o r.0 r.1 in
      let x = decided_no (decided r.0 w) r.2 in
      record {
        configuration = filled r.0 x.queues x.channel;
        of = record { states = w.states; fits = x.filling.fits };
        in_target = shape_target P R t r.0 r.1 x.queues x.channel;
        outside = x.outside;
      }

  -- number 11
  predecessor_entry : (e : Configuration) → EntryOf P e → (s : Step) (d : Configuration) → Memᴰ d (predecessors P e s) → EntryOf P d
  predecessor_entry e o s d i = let r = predecessor_of P e s d i in subst (EntryOf P) (sym r.2) (entry_cube P R e o s r.0 r.1)

  pub closed_yes : (e : Configuration) → EntryOf P e → T (closed P es e) → Closed P es e
  closed_yes e o y = cubes_closed P R es e o (λ s j d i.
      decided_yes (decided d (predecessor_entry e o s d i)) (every_yes (held S es) (predecessors P e s) (every_yes (λ s. every (held S es) (predecessors P e s)) (steps P) y s j) d i))

  pub step_yes : (e : Configuration) → EntryOf P e → (s : Step) → T (every (held S es) (predecessors P e s)) → WayIn P es e s → ⊥
  step_yes e o s y w =
      w.outside
      (cubes_step P R es e o s (λ d i. decided_yes (decided d (predecessor_entry e o s d i)) (every_yes (held S es) (predecessors P e s) y d i))
      w.configuration w.of w.permitted w.above)

  pub step_no : NoValueIsFF S → (e : Configuration) → EntryOf P e → (s : Step) → T (not (every (held S es) (predecessors P e s))) → WayIn P es e s
  step_no N e o s y =
      let q = every_no (held S es) (predecessors P e s) y in
      let p = predecessor_of P e s q.0 q.1 in
      let x = subst (Outside S es) p.2 (decided_no (decided q.0 (predecessor_entry e o s q.0 q.1)) q.2) in
      let a = none_extra P R e o N s p.0 p.1 x.queues x.channel x.filling in
      record {
        configuration = filled (cube P e s p.0) x.queues x.channel;
        of = filling_configuration P R e o s p.0 p.1 x.queues x.channel x.filling;
        permitted = a.may;
        above = a.above;
        outside = x.outside;
      }

  -- what leads above an entry is a step of the program
  way_step : (e : Configuration) → EntryOf P e → (s : Step) → WayIn P es e s → Memᴰ s (steps P)
  way_step e o s w = let b = none_missing P R e w.configuration o w.of s w.permitted w.above in step_in P e s b.kind b.has

  pub closed_no : NoValueIsFF S → (e : Configuration) → EntryOf P e → T (not (closed P es e)) → LowestWayIn P es e (open_step P es e)
  closed_no N e o y =
      let test : Step → Bool = λ s. every (held S es) (predecessors P e s) in
      record {
        way = step_no N e o (open_step P es e) (first_fails test (Update 0) (steps P) y);
        lower = λ t l w. step_yes e o t (first_lower test (Update 0) (steps P) (steps_order P) y t (way_step e o t w) l) w;
      }

  module _ (ts : List (ℕ → ℕ)) (ots : (k : ℕ) → k < length ts → StatesOf P (target ts k))
      (ones : (k : ℕ) → k < length es → (q : ℕ) × (q < P.shape.processes) × ((entry es k).memory.pointer q ≡ 1)) where
    unstarted : (k : ℕ) → k < length es → T (not (looks_started P (entry es k))) → NoStartAbove P (entry es k)
    unstarted k l t = let q = ones k l in (no_start_above P R (entry es k) (oes k l) q.0 q.1 q.2).0 (T_not (looks_started P (entry es k)) t)

    third : NoValueIsFF S → TargetsHeld P ts es → NoneStarted P ts es → {o : Option ℕ} → Lowest (closed P es) no_entry es o → ListJudged P ts es (elim o [ some k ↦ entered k (open_step P es (entry es k)) | none ↦ safe (length es) ])
    third ff H N (fails k l t a) =
        record { held = H; unstarted = N; exists = l; lower = λ j i. closed_yes (entry es j) (oes j (omega arith)) (a j i); way = closed_no ff (entry es k) (oes k l) t }
    third ff H N (passes a) = (refl, (safe_by_number P ts es).1 (H, N, λ k l. closed_yes (entry es k) (oes k l) (a k l)))

    second : NoValueIsFF S → TargetsHeld P ts es → {o : Option ℕ} → Lowest (λ e. not (looks_started P e)) no_entry es o
        → ListJudged P ts es (elim o [ some k ↦ started k | none ↦ elim (lowest (closed P es) es) [ some k ↦ entered k (open_step P es (entry es k)) | none ↦ safe (length es) ] ])
    second ff H (fails k l t a) =
        let q = ones k l in
        record {
          held = H;
          exists = l;
          lower = λ j i. unstarted j (omega arith) (a j i);
          start = (start_above P R (entry es k) (oes k l) q.0 q.1 q.2).0 (T_not-not (looks_started P (entry es k)) t);
        }
    second ff H (passes a) = third ff H (λ k l. unstarted k l (a k l)) (lowest_is (closed P es) no_entry es)

    first : NoValueIsFF S → {o : Option ℕ} → Lowest (target_held P es) no_target ts o
        → ListJudged P ts es (elim o [
          | some k ↦ unheld k
          | none ↦ elim (lowest (λ e. not (looks_started P e)) es) [ some k ↦ started k | none ↦ elim (lowest (closed P es) es) [ some k ↦ entered k (open_step P es (entry es k)) | none ↦ safe (length es) ] ]
        ])
    first ff (fails k l t a) =
        record { exists = l; lower = λ j i. target_yes (target ts j) (ots j (omega arith)) (a j i); missed = target_no (target ts k) (ots k l) t }
    first ff (passes a) = second ff (λ k l. target_yes (target ts k) (ots k l) (a k l)) (lowest_is (λ e. not (looks_started P e)) no_entry es)

    pub verdict_judged : NoValueIsFF S → ListJudged P ts es (verdict_of P ts es)
    verdict_judged ff = first ff (lowest_is (target_held P es) no_target ts)

    -- ---- what is computed to be safe is safe, whatever the values are

    safe_closed : TargetsHeld P ts es → NoneStarted P ts es → {o : Option ℕ} → Lowest (closed P es) no_entry es o → (n : ℕ)
        → elim o [ some k ↦ entered k (open_step P es (entry es k)) | none ↦ safe (length es) ] ≡ safe n → SafeList P ts es
    safe_closed H N (fails k l t a) n e = absurd (let z : ◌≡◌ {A = ℕ} 0 1 = cc in omega arith)
    safe_closed H N (passes a) n e = (safe_by_number P ts es).1 (H, N, λ k l. closed_yes (entry es k) (oes k l) (a k l))

    safe_unstarted : TargetsHeld P ts es → {o : Option ℕ} → Lowest (λ e. not (looks_started P e)) no_entry es o → (n : ℕ)
        → elim o [ some k ↦ started k | none ↦ elim (lowest (closed P es) es) [ some k ↦ entered k (open_step P es (entry es k)) | none ↦ safe (length es) ] ] ≡ safe n
        → SafeList P ts es
    safe_unstarted H (fails k l t a) n e = absurd (let z : ◌≡◌ {A = ℕ} 0 1 = cc in omega arith)
    safe_unstarted H (passes a) n e = safe_closed H (λ k l. unstarted k l (a k l)) (lowest_is (closed P es) no_entry es) n e

    safe_held : {o : Option ℕ} → Lowest (target_held P es) no_target ts o → (n : ℕ)
        → elim o [
          | some k ↦ unheld k
          | none ↦ elim (lowest (λ e. not (looks_started P e)) es) [ some k ↦ started k | none ↦ elim (lowest (closed P es) es) [ some k ↦ entered k (open_step P es (entry es k)) | none ↦ safe (length es) ] ]
        ] ≡ safe n
        → SafeList P ts es
    safe_held (fails k l t a) n e = absurd (let z : ◌≡◌ {A = ℕ} 0 1 = cc in omega arith)
    safe_held (passes a) n e = safe_unstarted (λ k l. target_yes (target ts k) (ots k l) (a k l)) (lowest_is (λ e. not (looks_started P e)) no_entry es) n e

    pub computed_safe : (n : ℕ) → verdict_of P ts es ≡ safe n → SafeList P ts es
    computed_safe n e = safe_held (lowest_is (target_held P es) no_target ts) n e

-- ---- demand 3, first sentence

stays_outside : {P : Program} → WellFormed P → {ts : List (ℕ → ℕ)} {es : List Configuration} → SafeList P ts es → {c d : Configuration} {ss : List Step}
    → ConfigurationOf P c → (AboveList P.shape es c → ⊥) → Visited P c ss d → ConfigurationOf P d × (AboveList P.shape es d → ⊥)
stays_outside R s o n start = (o, n)
stays_outside {P} R s o n (later {b = c} step t r) = stays_outside R s (step_configuration P R c o step t) (λ A. n (s.before c o step t A)) r

pub list_safety : ListSafety
list_safety P R ts es s c i ss d v =
    let r = stays_outside R s i.configuration (s.starts c i) v in
    (λ k l t. r.1 (s.targets d r.0 k l t), r.1)
