-- Starts, runs and targets correspond, and what that says of what is reached.
use Prim.Native.Nat.{ℕ, zero, suc, ◌+◌, ◌<◌, ◌≤◌}
use mathlib.Core.Path.{◌≡◌, refl, sym, ap, subst, ◌∙◌, fun_ext}
use mathlib.Core.Bool.{Bool, true, false, cond}
use mathlib.Core.List.{List, [], ◌∷◌, map}
use native.Mathlib.Omega.{arith}
use native.Mathlib.Decide.{dec_lt, ℕ_discrete}
use lib.ListN.{length, get_or, take, length-map}
use lib.Dec.{T, ltb}
use borrow.Author.Tests.{lt-ltb, le-ltb}
use Rattle.machine_pws.specs.declared.Message.{Message}
use Rattle.machine_pws.specs.declared.Step.{Step}
use Rattle.machine_pws.specs.Program.{no_transition}
use Rattle.machine_pws.specs.Machine.{Configuration, message, put, may, after}
use Rattle.machine_pws.specs.Configurations.{MessageIn, ValueOf, InTarget}
use Rattle.machine_pws.specs.Sequences.{Takes}
use Rattle.machine_pws.specs.Sequences as plainRuns
use Rattle.machine_pws.proofs.Facts.{put_same, put_other, put_each}
use Rattle.machine_equal.specs.Equivalence.{PwsStart, PwsReachable}
use Rattle.machine_equal.proofs.Reachability.{permitted_start, takes_visited}
use Rattle.register_machine.specs.Program.{RegisterProgram, RegisterWellFormed, has_register, no_register_transition}
use Rattle.register_machine.specs.Machine.{RegisterConfiguration, register_after}
use Rattle.register_machine.specs.Runs.{RegisterStart, RegisterTakes, RegisterVisited, RegisterInTarget, RegisterReachable}
use Rattle.register_machine.specs.Runs as runs
use Rattle.register_machine.specs.Written.{joined, four_values, pair_of, becomes_in, written, choices, target_becomes, written_targets}
use Rattle.register_machine.specs.Correspondence.{
  paired,
  step_written,
  StepForStep,
  done,
  step,
  StartsExist,
  InWritten,
  Correspondence,
  SafeIfWritten,
  ReachedWritten,
  ReachedAsWritten,
  ReachedTarget,
  Origins,
}
use Rattle.register_machine.proofs.Lists.{joined_at, joined_below, found, map_at, joined_grows, joined_suc}
use Rattle.register_machine.proofs.Numbers.{value_at}
use Rattle.register_machine.proofs.Stepping.{pair_eq, pair_below, configuration_eq, Ranged, step_there, step_back, step_ranged}

-- ---- starts

pair_zero : (b : Bool) → pair_of b 0 0 ≡ 0
pair_zero true = refl
pair_zero false = refl

pub starts_exist : StartsExist
starts_exist R memory o p v pe ve =
    let n = R.shape.processes in
    let first : Message = record { process = p; variable = v; snapshot = memory } in
    record {
      fits =
          record {
            memory =
                record {
                  some = omega arith;
                  low = λ q e. rw (lt-ltb q n e) (omega arith);
                  high = λ q e. rw (lt-ltb q n e) (omega arith);
                  messages = λ i a b.
                      let e : i ≡ 1 = omega arith in
                      subst (λ i. MessageIn (ValueOf R.shape) R.shape (message (first ∷ []) i)) (sym e)
                      (record { process = pe; variable = ve; room = o.room; values = o.values; absent = o.absent });
                  absent = λ q l. rw (le-ltb q n l);
                };
            queues = record { values = λ q u e f. tt; absent = λ q u l. refl };
          };
      states = λ q e. rw (lt-ltb q n e);
      absent = λ q l. rw (le-ltb q n l);
      registers = λ q. refl;
      queues = λ q u e f. refl;
      one = refl;
      starts = refl;
      pointers = λ q e. rw (lt-ltb q n e);
    }

module _ (R : RegisterProgram) (I : RegisterWellFormed R) where
  abbrev n : ℕ
  n = R.shape.processes

  pub start_there : (memory : List ℕ) (c : RegisterConfiguration) → RegisterStart R memory c → PwsStart (written R) memory (paired R c)
  start_there memory c s =
      let state : (p : ℕ) → p < n → (paired R c).state p ≡ pair_of (has_register R p) (R.initial p) 0 = λ p l. rw (s.states p l, s.registers p) in
      record {
        configuration =
            record {
              states =
                  record {
                    exist = λ p l. rw (state p l) (pair_below (has_register R p) (R.initial p) 0 (R.states p) (I.initial p l) (λ e. omega arith));
                    absent = λ p l. rw (s.absent p l, s.registers p) (pair_zero (has_register R p));
                  };
              fits = record { memory = s.fits.memory; queues = s.fits.queues };
            };
        states = state;
        queues = s.queues;
        one = s.one;
        starts = s.starts;
        pointers = s.pointers;
      }

  -- initial local states and registers 0, with the queues, channel and pointers of d
  abbrev back_start : Configuration → RegisterConfiguration
  back_start d = record { state = λ p. cond (ltb p n) (R.initial p) 0; register = λ p. 0; queue = d.queue; memory = d.memory }

  start_back : (memory : List ℕ) (d : Configuration) → PwsStart (written R) memory d
      → (c : RegisterConfiguration) × RegisterStart R memory c × (d ≡ paired R c)
  start_back memory d s = (
    back_start d,
    record {
      fits = record { memory = s.configuration.fits.memory; queues = s.configuration.fits.queues };
      states = λ p l. rw (lt-ltb p n l);
      absent = λ p l. rw (le-ltb p n l);
      registers = λ p. refl;
      queues = s.queues;
      one = s.one;
      starts = s.starts;
      pointers = s.pointers;
    },
    configuration_eq
        (fun_ext (λ p. elim (dec_lt p n) [
          | yes l ↦ rw (lt-ltb p n l) (s.states p l)
          | no l ↦ rw (le-ltb p n (omega arith)) (s.configuration.states.absent p (omega arith) ∙ sym (pair_zero (has_register R p)))
        ])) refl refl,
  )

  pub start_ranged : (memory : List ℕ) (c : RegisterConfiguration) → RegisterStart R memory c → Ranged R c
  start_ranged memory c s =
      record { configuration = (start_there memory c s).configuration; registers = λ p. omega (arith, s.registers p) }

  -- ---- runs

  runs_there : {c e : RegisterConfiguration} {ss : List Step} → Ranged R c → RegisterTakes R c ss e
      → (us : List Step) × StepForStep R c ss (paired R c) us × Takes (written R) (paired R c) us (paired R e)
  runs_there g runs.done = ([], done refl, plainRuns.done)
  runs_there {ss = ss} g (runs.step {c = c} {d = e} {ss = rest} s t r) =
      let a = step_there R I c g s t in
      let w = runs_there (step_ranged R I c g s t) r in
      let u = step_written R c s in (
        u ∷ w.0,
        step s u refl refl t a.0 (subst (λ d. StepForStep R (register_after R c s) rest d w.0) (sym a.1) w.1),
        plainRuns.step u a.0 (subst (λ d. Takes (written R) d w.0 (paired R e)) (sym a.1) w.2),
      )

  runs_back : {b d : Configuration} {us : List Step} (c : RegisterConfiguration) → Ranged R c → b ≡ paired R c → Takes (written R) b us d
      → (ss : List Step) × StepForStep R c ss b us × ((e : RegisterConfiguration) × RegisterTakes R c ss e × (d ≡ paired R e))
  runs_back c g e plainRuns.done = ([], done e, (c, runs.done, e))
  runs_back c g e (plainRuns.step {c = b} u t r) =
      let a = step_back R I c g u (subst (λ b. T (may (written R) b u)) e t) in
      let s = a.0 in
      let f = step_there R I c g s a.2 in
      let h : after (written R) b u ≡ paired R (register_after R c s) = ap (λ b. after (written R) b u) e ∙ ap (after (written R) (paired R c)) a.1 ∙ f.1 in
      let w = runs_back (register_after R c s) (step_ranged R I c g s a.2) h r in
      (s ∷ w.0, step s u e a.1 a.2 t w.1, (w.2.0, runs.step s a.2 w.2.1, w.2.2))

  visited_takes : {c e : RegisterConfiguration} {ss : List Step} → RegisterVisited R c ss e → (ws : List Step) × RegisterTakes R c ws e
  visited_takes runs.start = ([], runs.done)
  visited_takes (runs.later s t r) = let w = visited_takes r in (s ∷ w.0, runs.step s t w.1)

  takes_ranged : {c e : RegisterConfiguration} {ss : List Step} → Ranged R c → RegisterTakes R c ss e → Ranged R e
  takes_ranged g runs.done = g
  takes_ranged g (runs.step {c = c} s t r) = takes_ranged (step_ranged R I c g s t) r

-- ---- targets

module _ (R : RegisterProgram) where
  -- the values that the register of p may have
  abbrev values_of : ℕ → List ℕ
  values_of p = cond (has_register R p) four_values (0 ∷ [])

  abbrev none : ℕ → ℕ
  none p = 0

  values_low : (b : Bool) (k : ℕ) → k < length (cond b four_values (0 ∷ [])) → get_or (cond b four_values (0 ∷ [])) k 0 < 4
  values_low true k l = rw (value_at k l) l
  values_low false zero l = omega arith
  values_low false (suc k) l = absurd (omega arith)

  -- the value r stands somewhere among them
  value_of : (b : Bool) (r : ℕ) → r < 4 → (k : ℕ) × (k < length (cond b four_values (0 ∷ []))) × (b ≡ true → get_or (cond b four_values (0 ∷ [])) k 0 ≡ r)
  value_of true r l = (r, l, λ e. value_at r l)
  value_of false r l = (0, omega arith, λ e. absurd (subst T (sym e) tt))

  abbrev choices_with : ℕ → ℕ → ℕ → List (ℕ → ℕ)
  choices_with p m r = map (λ registers. put registers p r) (choices R (suc p) m)

  choice_low : (m p k : ℕ) → k < length (choices R p m) → (q : ℕ) → get_or (choices R p m) k none q < 4
  choice_low zero p zero l q = omega arith
  choice_low zero p (suc k) l q = absurd (omega arith)
  choice_low (suc m) p k l q =
      let f = found (choices_with p m) 0 none (values_of p) k l in
      let r = get_or (values_of p) f.number 0 in
      let j = f.place in
      let below : j < length (choices R (suc p) m) = omega (arith, f.within, length-map (choices R (suc p) m) (λ registers. put registers p r)) in
      let e = ap (λ k. get_or (choices R p (suc m)) k none) f.sum
      ∙ joined_at (choices_with p m) 0 none (values_of p) f.number j f.exists f.within
      ∙ map_at (λ registers. put registers p r) (choices R (suc p) m) j none none below in
      subst (λ (registers : ℕ → ℕ). registers q < 4) (sym e)
      (put_each (λ q x. x < 4) (get_or (choices R (suc p) m) j none) p r q (values_low (has_register R p) f.number f.exists)
      (λ n. choice_low m (suc p) j below q))

  -- every choice is there
  record Chosen (register : ℕ → ℕ) (p m : ℕ) : Type 0 where
    number : ℕ
    exists : number < length (choices R p m)
    same : (q : ℕ) → p ≤ q → q < p + m → has_register R q ≡ true → get_or (choices R p m) number none q ≡ register q

  chosen : (register : ℕ → ℕ) → ((q : ℕ) → register q < 4) → (m p : ℕ) → Chosen register p m
  chosen register low zero p = record { number = 0; exists = omega arith; same = λ q a b e. absurd (omega arith) }
  chosen register low (suc m) p =
      let w = chosen register low m (suc p) in
      let v = value_of (has_register R p) (register p) (low p) in
      let r = get_or (values_of p) v.0 0 in
      let j = w.number in
      let below : j < length (choices_with p m r) = omega (arith, w.exists, length-map (choices R (suc p) m) (λ registers. put registers p r)) in
      let e = joined_at (choices_with p m) 0 none (values_of p) v.0 j v.1 below
      ∙ map_at (λ registers. put registers p r) (choices R (suc p) m) j none none w.exists in
      record {
        number = length (joined (choices_with p m) (take v.0 (values_of p))) + j;
        exists = joined_below (choices_with p m) 0 none (values_of p) v.0 j v.1 below;
        same = λ q a b h.
            ap (λ (registers : ℕ → ℕ). registers q) e
            ∙ elim (ℕ_discrete q p) [
              | yes i ↦
                  let here : put (get_or (choices R (suc p) m) j none) p r q ≡ r = ap (put (get_or (choices R (suc p) m) j none) p r) i
                  ∙ put_same (get_or (choices R (suc p) m) j none) p r in
                  here ∙ v.2 (sym (ap (has_register R) i) ∙ h) ∙ sym (ap register i)
              | no i ↦ put_other (get_or (choices R (suc p) m) j none) p r q i ∙ w.same q (omega arith) (omega arith) h
            ];
      }

  pair_ap : (b : Bool) (q r s x : ℕ) → q ≡ s → (b ≡ true → r ≡ x) → pair_of b q r ≡ pair_of b s x
  pair_ap true q r s x e f = let g = f refl in omega arith
  pair_ap false q r s x e f = e

  abbrev with_choice : (ℕ → ℕ) → (ℕ → ℕ) → ℕ → ℕ
  with_choice target registers p = pair_of (has_register R p) (target p) (registers p)

  module _ (target state register : ℕ → ℕ) (low : (q : ℕ) → register q < 4) where
    abbrev pairs : ℕ → ℕ
    pairs p = pair_of (has_register R p) (state p) (register p)

    pub target_there : ((p : ℕ) → p < R.shape.processes → state p ≡ target p) → InWritten R target pairs
    target_there h =
        let cs = choices R 0 R.shape.processes in
        let w = chosen register low R.shape.processes 0 in
        let e = map_at (with_choice target) cs w.number none none w.exists in
        record {
          number = w.number;
          exists = omega (arith, w.exists, length-map cs (with_choice target));
          met = λ p l.
              pair_ap (has_register R p) (state p) (register p) (target p) (get_or cs w.number none p) (h p l)
              (λ i. sym (w.same p (omega arith) (omega arith) i))
              ∙ ap (λ (t : ℕ → ℕ). t p) (sym e);
        }

    pub target_back : InWritten R target pairs → (p : ℕ) → p < R.shape.processes → state p ≡ target p
    target_back w p l =
        let cs = choices R 0 R.shape.processes in
        let k = w.number in
        let below : k < length cs = omega (arith, w.exists, length-map cs (with_choice target)) in
        let e = w.met p l ∙ ap (λ (t : ℕ → ℕ). t p) (map_at (with_choice target) cs k none none below) in
        (pair_eq (has_register R p) (state p) (register p) (target p) (get_or cs k none p) (λ i. low p)
        (λ i. choice_low R.shape.processes 0 k below p) e).0

-- ---- the theorems

pub correspondence : Correspondence
correspondence R I = (
  record { there = start_there R I; back = start_back R I },
  record {
    there = λ memory c₀ s ss c t. runs_there R I (start_ranged R I memory c₀ s) t;
    back = λ memory c₀ s us d t. runs_back R I c₀ (start_ranged R I memory c₀ s) refl t;
  },
  λ target memory c₀ c ss s v.
      let g = takes_ranged R I (start_ranged R I memory c₀ s) (visited_takes R I v).1 in
      (target_there R target c.state c.register g.registers, target_back R target c.state c.register g.registers),
)

module _ (R : RegisterProgram) (I : RegisterWellFormed R) where
  -- what visits a target, reaches one that it became
  visits : (target : ℕ → ℕ) (memory : List ℕ) (c e : RegisterConfiguration) (ss : List Step) → RegisterStart R memory c → RegisterVisited R c ss e
      → RegisterInTarget R.shape target e → ReachedWritten R memory target
  visits target memory c e ss s v h =
      let t = visited_takes R I v in
      let g = start_ranged R I memory c s in
      let r = runs_there R I g t.1 in
      let w = target_there R target e.state e.register (takes_ranged R I g t.1).registers h in
      record {
        number = w.number;
        exists = w.exists;
        reached = record { first = paired R c; starts = start_there R I memory c s; steps = r.0; last = paired R e; takes = r.2; reached = w.met };
      }

  takes_visits : {c e : RegisterConfiguration} {ss : List Step} → RegisterTakes R c ss e → RegisterVisited R c ss e
  takes_visits runs.done = runs.start
  takes_visits (runs.step s t r) = runs.later s t (takes_visits r)

  reaches : (target : ℕ → ℕ) (memory : List ℕ) → ReachedWritten R memory target → RegisterReachable R memory target
  reaches target memory w =
      let h = w.reached in
      let s = start_back R I memory h.first h.starts in
      let g = start_ranged R I memory s.0 s.1 in
      let r = runs_back R I s.0 g s.2 h.takes in
      record {
        first = s.0;
        starts = s.1;
        steps = r.0;
        last = r.2.0;
        takes = r.2.1;
        reached = target_back R target r.2.0.state r.2.0.register (takes_ranged R I g r.2.1).registers
            (record {
              number = w.number;
              exists = w.exists;
              met = subst (InTarget R.shape (get_or (target_becomes R target) w.number (λ p. 0))) r.2.2 h.reached;
            });
      }

pub reached_as_written : ReachedAsWritten
reached_as_written R I memory target = (
  λ w. visits R I target memory w.first w.last w.steps w.starts (takes_visits R I w.takes) w.reached,
  reaches R I target memory,
)

pub safe_if_written : SafeIfWritten
safe_if_written R I targets safe memory c s ss e v k l h =
    let t = get_or targets k (λ p. 0) in
    let w = visits R I t memory c e ss s v h in
    let r = w.reached in
    let none : ℕ → ℕ = λ p. 0 in
    safe r.first (permitted_start (written R) memory r.first r.starts) r.steps r.last (takes_visited r.takes)
    (length (joined (target_becomes R) (take k targets)) + w.number)
    (joined_below (target_becomes R) none none targets k w.number l w.exists)
    (subst (λ t. InTarget R.shape t r.last) (sym (joined_at (target_becomes R) none none targets k w.number l w.exists)) r.reached)

pub reached_target : ReachedTarget
reached_target R I targets memory k l w =
    let none : ℕ → ℕ = λ p. 0 in
    let f = found (target_becomes R) none none targets k l in
    let n = f.number in
    let e = ap (λ k. get_or (written_targets R targets) k none) f.sum ∙ joined_at (target_becomes R) none none targets n f.place f.exists f.within in (
      n,
      f.exists,
      reaches R I (get_or targets n none) memory (record { number = f.place; exists = f.within; reached = subst (PwsReachable (written R) memory) e w }),
    )

pub origins : Origins
origins R m l =
    let f = found (becomes_in R) no_register_transition no_transition R.transitions m l in
    let n = f.number in
    let e = joined_suc (becomes_in R) no_register_transition R.transitions n f.exists in (
      n,
      record { exists = f.exists; low = omega (arith, f.sum); high = omega (arith, f.sum, f.within, e) },
      λ k w. elim (dec_lt k n) [
        | yes a ↦ absurd (omega (arith, w.high, f.sum, joined_grows (becomes_in R) R.transitions (suc k) n (omega arith)))
        | no a ↦ elim (dec_lt n k) [
          | yes b ↦ absurd (omega (arith, w.low, f.sum, f.within, e, joined_grows (becomes_in R) R.transitions (suc n) k (omega arith)))
          | no b ↦ omega arith
        ]
      ],
    )
