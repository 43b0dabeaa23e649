-- A match has equal keys, whatever the relation between values: each role stands at one message from the lowest pointer on, so both channels
-- have equally many, and a message that is passed over has none.
use Prim.Native.Nat.{ℕ, zero, suc, ◌+◌, ◌<◌, ◌≤◌}
use mathlib.Core.Path.{◌≡◌, refl, sym, ap, ap₂, subst, ◌∙◌}
use mathlib.Core.Bool.{Bool, true, false, cond, ◌||◌, false≢true}
use mathlib.Core.Option.{Option, none, some}
use mathlib.Core.List.{List, [], ◌∷◌}
use native.Mathlib.Omega.{arith}
use native.Mathlib.Decide.{dec_le, ℕ_discrete}
use lib.ListN.{length}
use lib.Dec.{T, eqb, leb}
use borrow.Author.Tests.{le-leb, lt-leb, leb-false, eq-eqb, ne_eqb}
use Rattle.machine_pws.specs.declared.Message.{Message}
use Rattle.machine_pws.specs.Program.{Shape}
use Rattle.machine_pws.specs.Machine.{Memory, Configuration, last_write, is_empty, newest_waiting}
use Rattle.machine_pws.specs.Tagged.{Tagged, table, any_below, roles, is_live_at, tagged_from, tagged}
use Rattle.machine_pws.proofs.Facts.{Proper, is_last}
use Rattle.machine_pws.proofs.Tagged.{table_ext}
use Rattle.list_theory.specs.Matching.{Subsequence, nothing, skip, keep, ends, QueueMatch, tag_matches, Match}
use Rattle.list_theory.proofs.Matching.{sub_empty, tag_match}
use Rattle.list_key.specs.Tags.{sum_below}
use Rattle.list_key.specs.Key.{some_true, some_role, marks_of, key}
use Rattle.list_key.proofs.SumLaws.{sum_equal, sum_zero, sum_add}

-- ---- how many roles

abbrev bit : Bool → ℕ
bit b = cond b 1 0

count_true : List Bool → ℕ
count_true [] = 0
count_true (b ∷ bs) = bit b + count_true bs

count_roles : List (List Bool) → ℕ
count_roles [] = 0
count_roles (row ∷ rows) = count_true row + count_roles rows

pub total : List Tagged → ℕ
total [] = 0
total (x ∷ xs) = count_roles x.roles + total xs

row_count : (n : ℕ) (f : ℕ → Bool) → count_true (table n f) ≡ sum_below n (λ k. bit (f k))
unfolding count_true
row_count zero f = refl
row_count (suc n) f = omega (arith, row_count n f)

table_count : (n : ℕ) (f : ℕ → List Bool) → count_roles (table n f) ≡ sum_below n (λ k. count_true (f k))
unfolding count_roles
table_count zero f = refl
table_count (suc n) f = omega (arith, table_count n f)

none_true : (bs : List Bool) → count_true bs ≡ 0 → some_true bs ≡ false
unfolding count_true
none_true [] e = refl
none_true (true ∷ bs) e = absurd (omega arith)
none_true (false ∷ bs) e = none_true bs (omega arith)

none_role : (rows : List (List Bool)) → count_roles rows ≡ 0 → some_role rows ≡ false
unfolding count_roles
none_role [] e = refl
none_role (row ∷ rows) e = ap₂ ◌||◌ (none_true row (omega arith)) (none_role rows (omega arith))

-- ---- each role once

module _ (S : Shape) (m : Memory) where
  -- the roles of which a number passes a test
  tally : (ℕ → Bool) → ℕ
  tally f = sum_below S.processes (λ p. bit (f (m.pointer p)) + sum_below S.variables (λ v. bit (f (last_write m p v))))

  here_count : (i : ℕ) → count_roles (roles S m i) ≡ tally (λ z. eqb z i)
  unfolding tally count_true
  here_count i = table_count S.processes (λ p. eqb (m.pointer p) i ∷ table S.variables (λ v. eqb (last_write m p v) i))
      ∙ sum_equal S.processes (λ p. bit (eqb (m.pointer p) i) + count_true (table S.variables (λ v. eqb (last_write m p v) i)))
      (λ p. bit (eqb (m.pointer p) i) + sum_below S.variables (λ v. bit (eqb (last_write m p v) i)))
      (λ p l. ap (◌+◌ (bit (eqb (m.pointer p) i))) (row_count S.variables (λ v. eqb (last_write m p v) i)))

  up_to : (z n : ℕ) → bit (leb z (suc n)) ≡ bit (eqb z (suc n)) + bit (leb z n)
  up_to z n = elim (dec_le z n) [
    | yes d ↦ rw (le-leb z (suc n) (omega arith), ne_eqb z (suc n) (λ e. omega arith), le-leb z n d) refl
    | no d ↦ elim (ℕ_discrete z (suc n)) [
      | yes e ↦ rw (le-leb z (suc n) (omega arith), eq-eqb z (suc n) e, lt-leb z n (omega arith)) refl
      | no e ↦ rw (lt-leb z (suc n) (omega arith), ne_eqb z (suc n) e, lt-leb z n (omega arith)) refl
    ]
  ]

  more : (n : ℕ) → tally (λ z. leb z (suc n)) ≡ tally (λ z. eqb z (suc n)) + tally (λ z. leb z n)
  unfolding tally
  more n =
      sum_equal S.processes (λ p. bit (leb (m.pointer p) (suc n)) + sum_below S.variables (λ v. bit (leb (last_write m p v) (suc n))))
      (λ p. (bit (eqb (m.pointer p) (suc n)) + sum_below S.variables (λ v. bit (eqb (last_write m p v) (suc n)))) + (bit (leb (m.pointer p) n) + sum_below S.variables (λ v. bit (leb (last_write m p v) n))))
      (λ p l. omega (arith, up_to (m.pointer p) n, row p))
      ∙ sum_add S.processes (λ p. bit (eqb (m.pointer p) (suc n)) + sum_below S.variables (λ v. bit (eqb (last_write m p v) (suc n))))
      (λ p. bit (leb (m.pointer p) n) + sum_below S.variables (λ v. bit (leb (last_write m p v) n)))
    where
      row : (p : ℕ) → sum_below S.variables (λ v. bit (leb (last_write m p v) (suc n))) ≡ sum_below S.variables (λ v. bit (eqb (last_write m p v) (suc n))) + sum_below S.variables (λ v. bit (leb (last_write m p v) n))
      row p =
          sum_equal S.variables (λ v. bit (leb (last_write m p v) (suc n))) (λ v. bit (eqb (last_write m p v) (suc n)) + bit (leb (last_write m p v) n)) (λ v l. up_to (last_write m p v) n)
          ∙ sum_add S.variables (λ v. bit (eqb (last_write m p v) (suc n))) (λ v. bit (leb (last_write m p v) n))

  -- no pointer, so no LastWrite, is so low
  too_low : (n : ℕ) → ((p : ℕ) → p < S.processes → n < m.pointer p) → tally (λ z. leb z n) ≡ 0
  unfolding tally
  too_low n f = sum_zero S.processes (λ p. bit (leb (m.pointer p) n) + sum_below S.variables (λ v. bit (leb (last_write m p v) n)))
      (λ p l. omega (
        arith,
        ap bit (lt-leb (m.pointer p) n (f p l)),
        sum_zero S.variables (λ v. bit (leb (last_write m p v) n)) (λ v k. ap bit (lt-leb (last_write m p v) n (omega (arith, f p l)))),
      ))

  no_live : (n i : ℕ) → any_below n (λ p. leb (m.pointer p) i) ≡ false → (p : ℕ) → p < n → i < m.pointer p
  no_live zero i e p l = absurd (omega arith)
  no_live (suc n) i e p l = at (no_live n i) (leb (m.pointer n) i) refl e
    where
      at : (any_below n (λ p. leb (m.pointer p) i) ≡ false → (p : ℕ) → p < n → i < m.pointer p) → (b : Bool) → leb (m.pointer n) i ≡ b → (b || any_below n (λ p. leb (m.pointer p) i)) ≡ false → i < m.pointer p
      at rec true f e = absurd (false≢true (sym e))
      at rec false f e = elim (ℕ_discrete p n) [
        | yes d ↦ omega (arith, leb-false (m.pointer n) i f, ap m.pointer d)
        | no d ↦ rec e p (omega arith)
      ]

  module _ (g : Proper S m) where
    -- those up to a number stand at the messages up to it
    total_to : (xs : List Message) → total (tagged_from S m xs) ≡ tally (λ z. leb z (length xs))
    unfolding total
    total_to [] = sym (too_low 0 (λ p l. omega (arith, g.low p l)))
    total_to (x ∷ xs) = at (total_to xs) (is_live_at S m (suc (length xs))) refl
      where
        at : total (tagged_from S m xs) ≡ tally (λ z. leb z (length xs)) → (b : Bool) → is_live_at S m (suc (length xs)) ≡ b
            → total (cond b (record { message = x; roles = roles S m (suc (length xs)) } ∷ tagged_from S m xs) []) ≡ tally (λ z. leb z (suc (length xs)))
        at rec true e = omega (arith, here_count (suc (length xs)), more (length xs))
        at rec false e = sym (too_low (suc (length xs)) (no_live S.processes (suc (length xs)) e))

    total_all : total (tagged S m) ≡ sum_below S.processes (λ p. 1 + sum_below S.variables (λ v. 1))
    unfolding tally
    total_all = total_to m.channel ∙ sum_equal S.processes
        (λ p. bit (leb (m.pointer p) (length m.channel)) + sum_below S.variables (λ v. bit (leb (last_write m p v) (length m.channel))))
        (λ p. 1 + sum_below S.variables (λ v. 1))
        (λ p l. ap₂ ◌+◌ (ap bit (le-leb (m.pointer p) (length m.channel) (g.high p l)))
        (sum_equal S.variables (λ v. bit (leb (last_write m p v) (length m.channel))) (λ v. 1)
        (λ v k. ap bit (le-leb (last_write m p v) (length m.channel) (is_last S m g p v l).high))))

-- ---- what is passed over has no role

module _ (r : ℕ → ℕ → Bool) where
  sub_total : {xs ys : List Tagged} → Subsequence (tag_matches r) xs ys → total xs ≤ total ys
  unfolding total
  sub_total nothing = omega arith
  sub_total (skip s) = omega (arith, sub_total s)
  sub_total (keep {x = x} {y = y} t s) = omega (arith, sub_total s, ap count_roles ((tag_match r x y).0 t).roles)

  sub_marks : {xs ys : List Tagged} → Subsequence (tag_matches r) xs ys → total xs ≡ total ys → marks_of xs ≡ marks_of ys
  unfolding total
  sub_marks nothing e = refl
  sub_marks (skip {y = y} s) e = rw (none_role y.roles (omega (arith, sub_total s))) (sub_marks s (omega (arith, sub_total s)))
  sub_marks (keep {x = x} {y = y} t s) e =
      let w = (tag_match r x y).0 t in
      let u = sub_marks s (omega (arith, ap count_roles w.roles)) in
      λ i. cond (some_role (w.roles i)) (record { process = w.process i; variable = w.variable i; roles = w.roles i } ∷ u i) (u i)

  -- so of a message that is passed over the roles are none, and what is left still has as many
  pub passed_over : (y : Tagged) (xs ys : List Tagged) → Subsequence (tag_matches r) xs ys → total xs ≡ total (y ∷ ys) → (some_role y.roles ≡ false) × (total xs ≡ total ys)
  unfolding total
  passed_over y xs ys s e = (none_role y.roles (omega (arith, sub_total s)), omega (arith, sub_total s))

  pub kept_on : (x y : Tagged) (xs ys : List Tagged) → T (tag_matches r x y) → total (x ∷ xs) ≡ total (y ∷ ys) → total xs ≡ total ys
  unfolding total
  kept_on x y xs ys t e = omega (arith, ap count_roles ((tag_match r x y).0 t).roles)

-- ---- configurations

pub same_total : (S : Shape) (e d : Configuration) → Proper S e.memory → Proper S d.memory → total (tagged S e.memory) ≡ total (tagged S d.memory)
same_total S e d g h = total_all S e.memory g ∙ sym (total_all S d.memory h)

waits_newest : (x : ℕ) (xs : List ℕ) → (y : ℕ) × (newest_waiting (x ∷ xs) ≡ some y)
waits_newest x [] = (x, refl)
waits_newest x (y ∷ xs) = waits_newest y xs

both_empty : (r : ℕ → ℕ → Bool) (xs ys : List ℕ) → QueueMatch r xs ys → is_empty xs ≡ is_empty ys
both_empty r [] [] q = refl
both_empty r [] (y ∷ ys) q = absurd (subst (λ (o : Option ℕ). T (ends r none o)) (waits_newest y ys).1 q.end)
both_empty r (x ∷ xs) [] q = absurd (sub_empty r q.subsequence)
both_empty r (x ∷ xs) (y ∷ ys) q = refl

-- a match has equal keys
pub match_key : (S : Shape) (r : ℕ → ℕ → Bool) (e d : Configuration) → Proper S e.memory → Proper S d.memory → Match S r e d → key S e ≡ key S d
match_key S r e d g h M =
    λ i. record {
      states = table_ext S.processes e.state d.state M.states i;
      empty = table_ext S.processes (λ p. table S.variables (λ v. is_empty (e.queue p v))) (λ p. table S.variables (λ v. is_empty (d.queue p v)))
          (λ p a. table_ext S.variables (λ v. is_empty (e.queue p v)) (λ v. is_empty (d.queue p v)) (λ v b. both_empty r (e.queue p v) (d.queue p v) (M.queues p v a b))) i;
      marks = sub_marks r M.channel (same_total S e d g h) i;
    }
