-- Places: their bounds, and every place that a cube can have by number.
use Prim.Native.Nat.{ℕ, ◌+◌, ◌*◌, ◌-◌, ◌/◌, ◌%◌, ◌<◌, ◌≤◌, min}
use mathlib.Core.Path.{◌≡◌, refl, sym, ap, ◌∙◌}
use mathlib.Core.Bool.{Bool, true, false, cond, ◌&&◌}
use native.Mathlib.Omega.{arith}
use lib.ListN.{length, get_or}
use lib.Dec.{ltb}
use borrow.Author.Tests.{ltb-true, eqb-true, lt-ltb, le-ltb}
use Rattle.machine_pws.specs.Machine.{no_message}
use Rattle.file_records.specs.declared.program.Shape.{Shape}
use Rattle.file_contents.specs.declared.entry.Cube.{Cube}
use Rattle.file_contents.specs.Cube.{no_queue, waiting_of}
use Rattle.file_records.proofs.ProgramLaws.{and_true}
use Rattle.list_cover.specs.declared.place.Place.{Place}
use Rattle.list_cover.specs.declared.place.Place.TheVariants.{Waiting, Sent}
use Rattle.list_cover.specs.Places.{value_free, waits_free, sent_free, is_free, place_at, NoneFree, fillings}

pub two_below : (a b m n : ℕ) → ltb a m && ltb b n ≡ true → (a < m) × (b < n)
two_below a b m n e = let w = and_true (ltb a m) (ltb b n) e in (ltb-true a m w.0, ltb-true b n w.1)

pub true_not_false : true ≡ false → ⊥
true_not_false e = let z : ◌≡◌ {A = ℕ} 1 0 = ap (λ (b : Bool). cond b 1 0) e in omega arith

-- ---- what is known of a place that is free

pub record WaitsFree (s : Shape) (c : Cube) (p v j : ℕ) : Type 0 where
  pub process : p < s.processes
  pub few : p < 4
  pub variable : v < s.variables
  pub narrow : v < 4
  pub waits : j < length (waiting_of (get_or c.queues (4 * p + v) no_queue))
  pub number : j < 9
  pub free : get_or (get_or c.queues (4 * p + v) no_queue).values j 0 ≡ 255

pub waits_free_lem : (s : Shape) (c : Cube) (p v j : ℕ) → waits_free s c p v j ≡ true → WaitsFree s c p v j
unfolding waits_free value_free
waits_free_lem s c p v j e =
    let w = and_true (ltb p (min s.processes 4) && ltb v (min s.variables 4)) _ e in
    let x = two_below p v (min s.processes 4) (min s.variables 4) w.0 in
    let y = and_true (ltb j (length (waiting_of (get_or c.queues (4 * p + v) no_queue)))) _ w.1 in
    let z = and_true (ltb j 9) _ y.1 in
    record {
      process = omega (arith, x.0);
      few = omega (arith, x.0);
      variable = omega (arith, x.1);
      narrow = omega (arith, x.1);
      waits = ltb-true j _ y.0;
      number = ltb-true j 9 z.0;
      free = eqb-true _ 255 z.1;
    }

pub record SentFree (s : Shape) (c : Cube) (i v : ℕ) : Type 0 where
  pub message : i < c.count
  pub few : i < 20
  pub variable : v < s.variables
  pub narrow : v < 4
  pub free : get_or (get_or c.messages i no_message).snapshot v 0 ≡ 255

pub sent_free_lem : (s : Shape) (c : Cube) (i v : ℕ) → sent_free s c i v ≡ true → SentFree s c i v
unfolding sent_free
sent_free_lem s c i v e =
    let w = and_true (ltb i (min c.count 20) && ltb v (min s.variables 4)) _ e in
    let x = two_below i v (min c.count 20) (min s.variables 4) w.0 in
    record { message = omega (arith, x.0); few = omega (arith, x.0); variable = omega (arith, x.1); narrow = omega (arith, x.1); free = eqb-true _ 255 w.1 }

-- ---- every place has a number

pub place_waiting : (p v j : ℕ) → p < 4 → v < 4 → j < 9 → place_at (36 * p + 9 * v + j) ≡ Waiting p v j
unfolding place_at
place_waiting p v j a b c =
    let x : (36 * p + 9 * v + j) / 36 ≡ p = omega arith in
    let y : (36 * p + 9 * v + j) / 9 % 4 ≡ v = omega arith in
    let z : (36 * p + 9 * v + j) % 9 ≡ j = omega arith in
    rw (lt-ltb (36 * p + 9 * v + j) 144 (omega arith)) (rw (x, y, z) refl)

pub place_sent : (i v : ℕ) → i < 20 → v < 4 → place_at (144 + 4 * i + v) ≡ Sent i v
unfolding place_at
place_sent i v a b =
    let x : (144 + 4 * i + v - 144) / 4 ≡ i = omega arith in
    let y : (144 + 4 * i + v - 144) % 4 ≡ v = omega arith in
    rw (le-ltb (144 + 4 * i + v) 144 (omega arith)) (rw (x, y) refl)

module _ (s : Shape) (c : Cube) (h : (k : ℕ) → k < 224 → is_free s c (place_at k) ≡ false) where
  none_waits : (p v j : ℕ) (b : Bool) → waits_free s c p v j ≡ b → b ≡ false
  none_waits p v j true e =
      let w = waits_free_lem s c p v j e in
      sym e ∙ ap (is_free s c) (sym (place_waiting p v j w.few w.narrow w.number))
      ∙ h (36 * p + 9 * v + j) (let x = w.few in let y = w.narrow in let z = w.number in omega arith)
  none_waits p v j false e = refl

  none_sent : (i v : ℕ) (b : Bool) → sent_free s c i v ≡ b → b ≡ false
  none_sent i v true e =
      let w = sent_free_lem s c i v e in
      sym e ∙ ap (is_free s c) (sym (place_sent i v w.few w.narrow)) ∙ h (144 + 4 * i + v) (let x = w.few in let y = w.narrow in omega arith)
  none_sent i v false e = refl

  pub none_free : NoneFree s c
  none_free (Waiting p v j) = none_waits p v j (waits_free s c p v j) refl
  none_free (Sent i v) = none_sent i v (sent_free s c i v) refl

pub fillings_few : (s : Shape) (a : Place) → fillings s a ≤ 4
fillings_few s (Waiting p v j) = omega arith
fillings_few s (Sent i v) = omega arith
