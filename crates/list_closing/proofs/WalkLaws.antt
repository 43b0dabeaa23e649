-- The walk over the steps by number reaches every one, in the order of steps.
use Prim.Native.Nat.{ℕ, ◌+◌, ◌*◌, ◌-◌, ◌/◌, ◌%◌, ◌<◌, ◌≤◌, min}
use mathlib.Core.Path.{◌≡◌, refl, sym, ap, subst, ◌∙◌}
use mathlib.Core.Logic.{inl, inr, ⊎_elim}
use mathlib.Core.Bool.{Bool, true, false, ◌&&◌, cond, not}
use mathlib.Core.List.{List}
use native.Mathlib.Omega.{arith}
use native.Mathlib.Decide.{dec_lt, ℕ_discrete}
use lib.ListN.{length}
use lib.Dec.{T, ltb}
use borrow.Author.Tests.{lt-ltb, le-ltb, ltb-true}
use mir.Facts.{and_yes}
use Rattle.machine_pws.specs.declared.Step.{Step}
use Rattle.machine_pws.specs.declared.Step.TheVariants.{Take, Serialise, Update}
use Rattle.machine_pws.specs.Program as pws
use Rattle.machine_pws.specs.Machine.{Configuration}
use Rattle.list_theory.specs.Lists.{every}
use Rattle.list_theory.specs.Verdict.{StepBefore}
use Rattle.list_theory.specs.Predecessors as lists
use Rattle.list_theory.specs.Predecessors.{has, cube, predecessors, steps, serialised, serialise_kind, update_kind}
use Rattle.list_theory.specs.Decision.{held, closed, open_step}
use Rattle.list_theory.proofs.Lists.{T_false, every_yes, every_no}
use Rattle.list_theory.proofs.Cubes.{take_has, label_exists}
use Rattle.list_theory.proofs.Closed.{step_in, predecessor_of}
use Rattle.list_theory.proofs.StepOrder.{before_once, before_or, steps_order, first_fails, first_lower}
use Rattle.file_records.specs.declared.program.Program.{Program}
use Rattle.file_records.specs.ProgramPart.{program_of}
use Rattle.file_contents.specs.declared.entry.Cube.{Cube}
use Rattle.file_contents.specs.Cube.{configuration_of}
use Rattle.file_again.specs.Again.{entries_of}
use Rattle.file_records.specs.Records.{transition_at}
use Rattle.file_again.proofs.Tables.{table_length}
use Rattle.std.specs.Prelude.{Option, Some, None, is_some, unwrap_or}
use Rattle.list_closing.specs.Walk.{step_held, walk_step, opening_at, opening_of, FailsFirst, LowestFailing, Walkable}
use Rattle.list_closing.proofs.StepLaws.{same_truth, truth, is_yes, not_both, yes_every, held_kind, step_true}

pub count_is : (g : List ℕ) (p : Program) → length (program_of g p).transitions ≡ p.transitions.count
count_is g p = table_length (λ i. transition_at g (p.transitions.at + 8 * i)) 0 p.transitions.count

-- ---- the lowest that fails

lowest_first : {g : ℕ → Bool} {m n r : ℕ} → FailsFirst g m r → m ≤ n → FailsFirst g n r
lowest_first w k = record { exists = omega (arith, w.exists); each = w.each; fails = w.fails }

lowest_then : {g : ℕ → Bool} {m n b : ℕ} → ((j : ℕ) → j < m → g j ≡ true) → FailsFirst (λ i. g (m + i)) n b → FailsFirst g (m + n) (m + b)
lowest_then {g} {m} {n} {b} a v =
    record {
      exists = omega (arith, v.exists);
      each = λ j k. elim (dec_lt j m) [
        | yes d ↦ a j d
        | no d ↦ let e : m + (j - m) ≡ j = omega arith in ap g (sym e) ∙ v.each (j - m) (omega arith)
      ];
      fails = v.fails;
    }

all_then : {g : ℕ → Bool} {m n : ℕ} → ((j : ℕ) → j < m → g j ≡ true) → ((i : ℕ) → i < n → g (m + i) ≡ true) → (j : ℕ) → j < m + n → g j ≡ true
all_then {g} {m} {n} a b j l = elim (dec_lt j m) [
  | yes d ↦ a j d
  | no d ↦ let e : m + (j - m) ≡ j = omega arith in ap g (sym e) ∙ b (j - m) (omega arith)
]

lowest_same : {g h : ℕ → Bool} {n r : ℕ} → ((j : ℕ) → j < n → g j ≡ h j) → FailsFirst g n r → FailsFirst h n r
lowest_same {g} {h} {n} {r} s w =
    record { exists = w.exists; each = λ j l. sym (s j (omega (arith, w.exists))) ∙ w.each j l; fails = sym (s r w.exists) ∙ w.fails }

-- a test of the first numbers of a greater bound
pub lowest_least : {g : ℕ → Bool} {m n : ℕ} → m ≤ n → ((j : ℕ) → m ≤ j → j < n → g j ≡ true) → (o : Option ℕ) → LowestFailing g m o → LowestFailing g n o
lowest_least {g} {m} {n} l a o = go o
  where
    go : (o : Option ℕ) → LowestFailing g m o → LowestFailing g n o
    go (Some r) w = lowest_first w l
    go None w = λ j k. elim (dec_lt j m) [ yes d ↦ w j d | no d ↦ a j (omega arith) k ]

-- ---- steps by number

step_take : (m j : ℕ) → j < m → walk_step m j ≡ Take j
unfolding walk_step
step_take m j l = rw (lt-ltb j m l) refl

step_serialise : (m i : ℕ) → i < 16 → walk_step m (m + i) ≡ Serialise (i / 4) (i % 4)
unfolding walk_step
step_serialise m i l =
    let x : m + i - m ≡ i = omega arith in
    rw (le-ltb (m + i) m (omega arith)) (rw x (rw (lt-ltb i 16 l) refl))

step_update : (m p : ℕ) → walk_step m (m + (16 + p)) ≡ Update p
unfolding walk_step
step_update m p =
    let x : m + (16 + p) - m ≡ 16 + p = omega arith in
    let y : 16 + p - 16 ≡ p = omega arith in
    rw (le-ltb (m + (16 + p)) m (omega arith)) (rw x (rw (le-ltb (16 + p) 16 (omega arith)) (rw y refl)))

at_serialise : (m j : ℕ) → m ≤ j → j < m + 16 → walk_step m j ≡ Serialise ((j - m) / 4) ((j - m) % 4)
at_serialise m j a b = let e : m + (j - m) ≡ j = omega arith in ap (walk_step m) (sym e) ∙ step_serialise m (j - m) (omega arith)

at_update : (m j : ℕ) → m + 16 ≤ j → walk_step m j ≡ Update (j - m - 16)
at_update m j a = let e : m + (16 + (j - m - 16)) ≡ j = omega arith in ap (walk_step m) (sym e) ∙ step_update m (j - m - 16)

-- the walk has the order of steps
pub walk_order : (m i j : ℕ) → i < j → StepBefore (walk_step m i) (walk_step m j)
walk_order m i j l = elim (dec_lt i m) [
  | yes a ↦ elim (dec_lt j m) [
    | yes b ↦ both (step_take m i a) (step_take m j b) l
    | no b ↦ elim (dec_lt j (m + 16)) [
      | yes c ↦ both (step_take m i a) (at_serialise m j (omega arith) c) tt
      | no c ↦ both (step_take m i a) (at_update m j (omega arith)) tt
    ]
  ]
  | no a ↦ elim (dec_lt j (m + 16)) [
    | yes b ↦ both (at_serialise m i (omega arith) (omega arith)) (at_serialise m j (omega arith) b)
        (elim (dec_lt ((i - m) / 4) ((j - m) / 4)) [ yes c ↦ inl c | no c ↦ inr (omega arith, omega arith) ])
    | no b ↦ elim (dec_lt i (m + 16)) [
      | yes c ↦ both (at_serialise m i (omega arith) c) (at_update m j (omega arith)) tt
      | no c ↦ both (at_update m i (omega arith)) (at_update m j (omega arith)) (omega arith)
    ]
  ]
]
  where
    both : {s t x y : Step} → s ≡ x → t ≡ y → StepBefore x y → StepBefore s t
    both {s} {t} {x} {y} p q b = subst (λ (z : Step). StepBefore z t) (sym p) (subst (StepBefore x) (sym q) b)

-- the step of a number
pub opening_take : (m j : ℕ) → j < m → Some (Take j) ≡ opening_at m j
unfolding opening_at
opening_take m j l = sym (ap (λ (b : Bool). cond b (Some (walk_step m j)) None) (lt-ltb j (m + 20) (omega arith)) ∙ ap Some (step_take m j l))

pub opening_serialise : (m j : ℕ) → m ≤ j → j < m + 16 → Some (Serialise ((j - m) / 4) ((j - m) % 4)) ≡ opening_at m j
unfolding opening_at
opening_serialise m j a b = sym (ap (λ (b : Bool). cond b (Some (walk_step m j)) None) (lt-ltb j (m + 20) (omega arith)) ∙ ap Some (at_serialise m j a b))

pub opening_update : (m j : ℕ) → m + 16 ≤ j → j < m + 20 → Some (Update (j - m - 16)) ≡ opening_at m j
unfolding opening_at
opening_update m j a b = sym (ap (λ (b : Bool). cond b (Some (walk_step m j)) None) (lt-ltb j (m + 20) b) ∙ ap Some (at_update m j a))

pub opening_none : (m j : ℕ) → m + 20 ≤ j → None ≡ opening_at m j
unfolding opening_at
opening_none m j a = sym (ap (λ (b : Bool). cond b (Some (walk_step m j)) None) (le-ltb j (m + 20) a))

-- transitions, serialises and updates together
module _ (H : Step → Bool) (m : ℕ) where
  -- no transition fails
  abbrev TakesAll : Type 0
  TakesAll = (j : ℕ) → j < m → H (Take j) ≡ true

  takes : TakesAll → (j : ℕ) → j < m → H (walk_step m j) ≡ true
  takes a j l = ap H (step_take m j l) ∙ a j l

  -- no serialise
  abbrev SerialisesAll : Type 0
  SerialisesAll = (i : ℕ) → i < 16 → H (Serialise (i / 4) (i % 4)) ≡ true

  serialises : SerialisesAll → (i : ℕ) → i < 16 → H (walk_step m (m + i)) ≡ true
  serialises a i l = ap H (step_serialise m i l) ∙ a i l

  pub walk_take : {t : ℕ} → FailsFirst (λ j. H (Take j)) m t → FailsFirst (λ j. H (walk_step m j)) (m + 20) t
  walk_take w = lowest_first (lowest_same (λ j l. ap H (sym (step_take m j l))) w) (omega arith)

  pub walk_serialise : TakesAll → {s : ℕ} → FailsFirst (λ i. H (Serialise (i / 4) (i % 4))) 16 s → FailsFirst (λ j. H (walk_step m j)) (m + 20) (m + s)
  walk_serialise w v = lowest_then (takes w) (lowest_first (lowest_same (λ i l. ap H (sym (step_serialise m i l))) v) (omega arith))

  pub walk_update : TakesAll → SerialisesAll → {u : ℕ} → FailsFirst (λ p. H (Update p)) 4 u → FailsFirst (λ j. H (walk_step m j)) (m + 20) (m + 16 + u)
  walk_update w v {u} x =
      let e : m + (16 + u) ≡ m + 16 + u = omega arith in
      subst (λ (r : ℕ). FailsFirst (λ j. H (walk_step m j)) (m + 20) r) e
      (lowest_then (takes w) (lowest_then (serialises v) (lowest_same (λ p i. ap H (sym (step_update m p))) x)))

  pub walk_all : TakesAll → SerialisesAll → ((p : ℕ) → p < 4 → H (Update p) ≡ true) → (j : ℕ) → j < m + 20 → H (walk_step m j) ≡ true
  walk_all w v x = all_then (takes w) (all_then {n = 4} (serialises v) (λ p l. ap H (step_update m p) ∙ x p l))

module _ (P : pws.Program) (R : pws.ShapeInRange P.shape) (es : List Configuration) (e : Configuration) where
  abbrev m : ℕ
  m = length P.transitions

  step_number_lem : (s : Step) (k : lists.Kind) → has P e s k ≡ true → (j : ℕ) × (j < m + 20) × (walk_step m j ≡ s)
  step_number_lem (Take j) k t = let x = (take_has P e j k (is_yes t)).exists in (j, omega arith, step_take m j x)
  step_number_lem (Serialise p v) k t =
      let x = label_exists P.shape p v (serialised P.shape e.memory p v && serialise_kind e.memory p v k) (is_yes t) in
      let a : p < 4 = omega (arith, x.0, R.processes) in
      let b : v < 4 = omega (arith, x.1, R.variables) in
      let y : (4 * p + v) / 4 ≡ p = omega arith in
      let z : (4 * p + v) % 4 ≡ v = omega arith in
      (m + (4 * p + v), omega arith, step_serialise m (4 * p + v) (omega arith) ∙ rw (y, z) refl)
  step_number_lem (Update p) k t =
      let x = ltb-true p P.shape.processes (truth (and_yes (ltb p P.shape.processes) (update_kind P.shape e.memory p k) (is_yes t)).0) in
      (m + (16 + p), omega (arith, R.processes), step_update m p)

  each_closed : ((j : ℕ) → j < m + 20 → step_held P es e (walk_step m j) ≡ true) → T (closed P es e)
  unfolding step_held
  each_closed g =
      yes_every (λ s. every (held P.shape es) (predecessors P e s)) (steps P) (λ s i. is_yes (step_true P es e s (λ k h.
      let j = step_number_lem s k h in held_kind P es e s (subst (λ (s : Step). step_held P es e s ≡ true) j.2 (g j.0 j.1)) k h)))

  closed_each : T (closed P es e) → (s : Step) → step_held P es e s ≡ true
  unfolding step_held
  closed_each t s = step_true P es e s (λ k h. held_kind P es e s (truth (every_yes (λ s. every (held P.shape es) (predecessors P e s)) (steps P) t s (step_in P e s k (is_yes h)))) k h)

  -- an entry is closed exactly when no step is open
  all_closed : ((j : ℕ) → j < m + 20 → step_held P es e (walk_step m j) ≡ true) → closed P es e ≡ true
  all_closed a = truth (each_closed a)

  fails_closed : {r : ℕ} → FailsFirst (λ j. step_held P es e (walk_step m j)) (m + 20) r → closed P es e ≡ false
  fails_closed {r} w = same_truth (closed P es e) false (λ t. not_both (closed_each t (walk_step m r)) w.fails) (λ t. absurd t)

  -- a step with a predecessor that is not held is a step of the program
  failing_kind : (s : Step) → step_held P es e s ≡ false → (k : lists.Kind) × (has P e s k ≡ true)
  unfolding step_held
  failing_kind s f =
      let q = every_no (held P.shape es) (predecessors P e s) (subst (λ (b : Bool). T (not b)) (sym f) tt) in
      let p = predecessor_of P e s q.0 q.1 in
      (p.0, truth p.1)

  open_fails : T (not (closed P es e)) → step_held P es e (open_step P es e) ≡ false
  unfolding step_held
  open_fails y = T_false _ (first_fails (λ s. every (held P.shape es) (predecessors P e s)) (Update 0) (steps P) y)

  open_lower : T (not (closed P es e)) → (t : Step) → step_held P es e t ≡ false → StepBefore t (open_step P es e) → ⊥
  unfolding step_held
  open_lower y t f b =
      let k = failing_kind t f in
      not_both (truth (first_lower (λ s. every (held P.shape es) (predecessors P e s)) (Update 0) (steps P) (steps_order P) y t (step_in P e t k.0 (is_yes k.1)) b)) f

  walked_lower : {r : ℕ} → FailsFirst (λ j. step_held P es e (walk_step m j)) (m + 20) r → (s : Step) → step_held P es e s ≡ false → StepBefore s (walk_step m r) → ⊥
  walked_lower {r} w s f b =
      let k = failing_kind s f in
      let j = step_number_lem s k.0 k.1 in
      elim (dec_lt j.0 r) [
        | yes l ↦ not_both (w.each j.0 l) (subst (λ (z : Step). step_held P es e z ≡ false) (sym j.2) f)
        | no l ↦ elim (ℕ_discrete j.0 r) [
          | yes d ↦ let x : StepBefore s s = subst (StepBefore s) (ap (walk_step m) (sym d) ∙ j.2) b in before_once s s x x
          | no d ↦ before_once s (walk_step m r) b (subst (StepBefore (walk_step m r)) j.2 (walk_order m r j.0 (omega arith)))
        ]
      ]

  -- the lowest of the walk is the lowest of all steps
  lowest_step : {r : ℕ} → FailsFirst (λ j. step_held P es e (walk_step m j)) (m + 20) r → T (not (closed P es e)) → walk_step m r ≡ open_step P es e
  lowest_step {r} w y = ⊎_elim (λ d. d)
      (⊎_elim (λ b. absurd (open_lower y (walk_step m r) w.fails b)) (λ b. absurd (walked_lower w (open_step P es e) (open_fails y) b)))
      (before_or (walk_step m r) (open_step P es e))

  lowest_opening : {r : ℕ} → FailsFirst (λ j. step_held P es e (walk_step m j)) (m + 20) r → opening_at m r ≡ opening_of P es e
  unfolding opening_at opening_of
  lowest_opening {r} w =
      let c : closed P es e ≡ false = fails_closed w in
      ap (λ (b : Bool). cond b (Some (walk_step m r)) None) (lt-ltb r (m + 20) w.exists)
      ∙ ap Some (lowest_step w (subst (λ (b : Bool). T (not b)) (sym c) tt))
      ∙ sym (ap (λ (b : Bool). cond b None (Some (open_step P es e))) c)

  no_opening : ((j : ℕ) → j < m + 20 → step_held P es e (walk_step m j) ≡ true) → None ≡ opening_of P es e
  unfolding opening_of
  no_opening a = sym (ap (λ (b : Bool). cond b None (Some (open_step P es e))) (all_closed a))

module _ (g f list sum : List ℕ) (n : ℕ) (p : Program) (c : Cube) (W : Walkable g f list sum n p c) where
  -- the test of the walk
  abbrev walked : ℕ → ℕ → Bool
  walked m j = step_held (program_of g p) (entries_of f list n) (configuration_of c) (walk_step m j)

  count_least : min p.transitions.count 256 ≡ length (program_of g p).transitions
  count_least = omega (arith, count_is g p, W.transitions)

  pub opens_is : {r : ℕ} → FailsFirst (walked (min p.transitions.count 256)) (min p.transitions.count 256 + 20) r
      → opening_at (min p.transitions.count 256) r ≡ opening_of (program_of g p) (entries_of f list n) (configuration_of c)
  opens_is {r} w =
      ap (λ (m : ℕ). opening_at m r) count_least
      ∙ lowest_opening (program_of g p) W.stepping.program.shape (entries_of f list n) (configuration_of c)
      (subst (λ (m : ℕ). FailsFirst (walked m) (m + 20) r) count_least w)

  pub shut_is : ((j : ℕ) → j < min p.transitions.count 256 + 20 → walked (min p.transitions.count 256) j ≡ true)
      → None ≡ opening_of (program_of g p) (entries_of f list n) (configuration_of c)
  shut_is a =
      no_opening (program_of g p) W.stepping.program.shape (entries_of f list n) (configuration_of c)
      (subst (λ (m : ℕ). (j : ℕ) → j < m + 20 → walked m j ≡ true) count_least a)

  -- the lowest that fails, or the end of the walk if none does
  pub opening_is : (o : Option ℕ)
      → LowestFailing (walked (min p.transitions.count 256)) (min p.transitions.count 256 + 20) o
      → opening_at (min p.transitions.count 256) (unwrap_or o (min p.transitions.count 256 + 20))
      ≡ opening_of (program_of g p) (entries_of f list n) (configuration_of c)
  opening_is (Some r) w = opens_is w
  opening_is None w =
      let m : ℕ = min p.transitions.count 256 in
      sym (opening_none m (m + 20) (omega arith)) ∙ shut_is w

-- what an opening says

through : (b : Bool) (s t : Step) → cond b None (Some t) ≡ Some s → (b ≡ false) × (t ≡ s)
through true s t e = absurd (subst T (sym (ap is_some e)) tt)
through false s t e = (refl, ap (λ (x : Option Step). unwrap_or x t) e)

shut : (b : Bool) (t : Step) → cond b None (Some t) ≡ None → b ≡ true
shut true t e = refl
shut false t e = absurd (subst T (ap is_some e) tt)

pub opening_through : (P : pws.Program) (es : List Configuration) (e : Configuration) (s : Step) → opening_of P es e ≡ Some s
    → (closed P es e ≡ false) × (open_step P es e ≡ s)
unfolding opening_of
opening_through P es e s h = through (closed P es e) s (open_step P es e) h

pub opening_shut : (P : pws.Program) (es : List Configuration) (e : Configuration) → opening_of P es e ≡ None → closed P es e ≡ true
unfolding opening_of
opening_shut P es e h = shut (closed P es e) (open_step P es e) h
