-- An entry that covers a cube has no bit in its signature that the cube has not: each of its messages stands for one of the cube's, past as many
-- with a role, and its waiting values for some of the cube's, the newest for the newest.
use Prim.Native.Nat.{ℕ, zero, suc, ◌+◌, ◌-◌, ◌*◌, ◌/◌, ◌%◌, ◌^◌, ◌<◌, ◌≤◌, min, max}
use mathlib.Core.Path.{◌≡◌, refl, sym, ap, ap₂, subst, ◌∙◌}
use mathlib.Core.Bool.{Bool, true, false, cond, ◌||◌}
use mathlib.Core.Option.{Option, none, some}
use mathlib.Core.List.{List, [], ◌∷◌}
use native.Mathlib.Omega.{arith}
use native.Mathlib.Decide.{dec_le}
use native.Mathlib.Numerals.{unary_clauses}
use native.Mathlib.Nat.{one-mul, mod-eq_of_lt}
use lib.Arith.{bin_ind}
use lib.Bits.{bit_or, or_step, or_self, or_comm, or_lt, or_add_and, and_mask}
use lib.Pow.{pow-lt, shl_exact}
use lib.ListN.{length, get_or}
use lib.Dec.{T, eqb, ltb, leb, eqb→eq}
use borrow.Author.Tests.{eq-eqb, le-ltb, ltb-false, le-leb, lt-leb}
use Rattle.machine_pws.specs.declared.Message.{Message}
use Rattle.machine_pws.specs.Machine.{no_message, newest_waiting}
use Rattle.machine_pws.specs.Tagged.{Tagged}
use Rattle.file_records.specs.declared.program.Shape.{Shape}
use Rattle.file_contents.specs.declared.entry.Queue.{Queue}
use Rattle.file_contents.specs.declared.entry.Cube.{Cube}
use Rattle.file_contents.specs.Cube.{no_queue, waiting_of}
use Rattle.list_theory.specs.Values.{fills}
use Rattle.list_theory.specs.Matching.{Subsequence, nothing, skip, keep, ends, QueueMatch, tag_matches}
use Rattle.list_theory.proofs.Matching.{Pointwise, none_left, one_more, Related, tag_match}
use Rattle.list_key.specs.Key.{some_role}
use Rattle.list_key.specs.Signature.{Contained, FreeWord, bit_at, value_bit, value_bits, message_bits, signed, last_bit, wait_bits, row_bits, queue_bits, signature_of}
use Rattle.list_key.specs.Tags.{tags_of, lowest_pointer}
use Rattle.list_key.specs.Word.{Word}
use Rattle.list_key.proofs.ValueLaws.{newest_at}
use Rattle.list_key.proofs.KeyLaws.{total, passed_over, kept_on}

-- ---- bits of one number among those of another

half : (a b : ℕ) → bit_or a b / 2 ≡ bit_or (a / 2) (b / 2)
half a b = omega (arith, or_step a b)

odd : (a b : ℕ) → bit_or a b % 2 ≡ max (a % 2) (b % 2)
odd a b = omega (arith, or_step a b)

or_assoc : (a b c : ℕ) → bit_or (bit_or a b) c ≡ bit_or a (bit_or b c)
or_assoc = bin_ind (λ (n : ℕ). (b c : ℕ) → bit_or (bit_or n b) c ≡ bit_or n (bit_or b c)) (λ b c. refl)
    (λ n ih b c. or_step (bit_or n b) c
    ∙ ap₂ (λ (x y : ℕ). bit_or x (c / 2) * 2 + max y (c % 2)) (half n b) (odd n b)
    ∙ ap₂ (λ (x y : ℕ). x * 2 + y) (ih (b / 2) (c / 2)) (thrice (n % 2) (b % 2) (c % 2))
    ∙ sym (ap₂ (λ (x y : ℕ). bit_or (n / 2) x * 2 + max (n % 2) y) (half b c) (odd b c))
    ∙ sym (or_step n (bit_or b c)))
  where
    thrice : (x y z : ℕ) → max (max x y) z ≡ max x (max y z)
    thrice x y z = omega arith

pub contained_none : (b : ℕ) → Contained 0 b
contained_none b = record { are = refl }

pub contained_same : {a b : ℕ} → a ≡ b → Contained a b
contained_same {a} {b} e = record { are = ap (λ (x : ℕ). bit_or x b) e ∙ or_self b }

pub contained_more : {a b : ℕ} (x : ℕ) → Contained a b → Contained a (bit_or b x)
contained_more {a} {b} x w = record { are = sym (or_assoc a b x) ∙ ap (λ (y : ℕ). bit_or y x) w.are }

pub contained_both : {a b c d : ℕ} → Contained a c → Contained b d → Contained (bit_or a b) (bit_or c d)
contained_both {a} {b} {c} {d} v w =
    record {
      are = or_assoc a b (bit_or c d)
          ∙ ap (bit_or a) (sym (or_assoc b c d) ∙ ap (λ (x : ℕ). bit_or x d) (or_comm b c) ∙ or_assoc c b d ∙ ap (bit_or c) w.are)
          ∙ (contained_more d v).are;
    }

-- every number of eighteen bits is among eighteen ones
pub contained_all : (a : ℕ) → a < 262144 → Contained a 262143
contained_all a l = record { are = omega (arith, or_add_and a 262143, and_mask a 18, mod-eq_of_lt l) }

-- ---- loops that gather

pub bit_exact : (k : ℕ) → (1 * 2 ^ (k % 16)) % 2 ^ 64 ≡ bit_at k
unfolding bit_at
bit_exact k = shl_exact {a = 1} 1 (k % 16) 64 (omega arith) (omega arith) ∙ one-mul (2 ^ (k % 16))

pub value_free : (base x : ℕ) → x ≡ 255 → 0 ≡ value_bit base x
unfolding value_bit
value_free base x e = rw (eq-eqb x 255 e) refl

pub values_none : (base : ℕ) (xs : List ℕ) → 0 ≡ value_bits 0 base xs
unfolding value_bits
values_none base xs = refl

pub values_next : (base : ℕ) (xs : List ℕ) (v : ℕ) {b x : ℕ} → b ≡ value_bits v base xs → x ≡ value_bit (base + 5 * v) (get_or xs v 0) → bit_or b x ≡ value_bits (v + 1) base xs
unfolding value_bits
values_next base xs v e f = simp unary_clauses (ap₂ bit_or e f)

-- ---- messages all of whose values are free

module _ (a b c d : ℕ) where
  pub free_one : Word a b c d 255 → (v : ℕ) → v < 1 → get_or (a ∷ b ∷ c ∷ d ∷ []) v 0 ≡ 255
  free_one w zero l = omega (arith, w.is, w.first)
  free_one w (suc v) l = absurd (omega arith)

  pub free_two : Word a b c d 65535 → (v : ℕ) → v < 2 → get_or (a ∷ b ∷ c ∷ d ∷ []) v 0 ≡ 255
  free_two w zero l = omega (arith, w.is, w.first)
  free_two w (suc zero) l = omega (arith, w.is, w.first, w.second)
  free_two w (suc (suc v)) l = absurd (omega arith)

  pub free_three : Word a b c d 16777215 → (v : ℕ) → v < 3 → get_or (a ∷ b ∷ c ∷ d ∷ []) v 0 ≡ 255
  free_three w zero l = omega (arith, w.is, w.first)
  free_three w (suc zero) l = omega (arith, w.is, w.first, w.second)
  free_three w (suc (suc zero)) l = omega (arith, w.is, w.first, w.second, w.third)
  free_three w (suc (suc (suc v))) l = absurd (omega arith)

  pub free_four : Word a b c d 4294967295 → (v : ℕ) → v < 4 → get_or (a ∷ b ∷ c ∷ d ∷ []) v 0 ≡ 255
  free_four w zero l = omega (arith, w.is, w.first)
  free_four w (suc zero) l = omega (arith, w.is, w.first, w.second)
  free_four w (suc (suc zero)) l = omega (arith, w.is, w.first, w.second, w.third)
  free_four w (suc (suc (suc zero))) l = omega (arith, w.is, w.first, w.second, w.third)
  free_four w (suc (suc (suc (suc v)))) l = absurd (omega arith)

values_all_free : (n base : ℕ) (xs : List ℕ) → ((v : ℕ) → v < n → get_or xs v 0 ≡ 255) → 0 ≡ value_bits n base xs
unfolding value_bits
values_all_free zero base xs f = refl
values_all_free (suc v) base xs f = ap₂ bit_or (values_all_free v base xs (λ u l. f u (omega arith))) (value_free (base + 5 * v) (get_or xs v 0) (f v (omega arith)))

four_at : (xs : List ℕ) (v : ℕ) → v < 4 → get_or (get_or xs 0 0 ∷ get_or xs 1 0 ∷ get_or xs 2 0 ∷ get_or xs 3 0 ∷ []) v 0 ≡ get_or xs v 0
four_at xs zero l = refl
four_at xs (suc zero) l = refl
four_at xs (suc (suc zero)) l = refl
four_at xs (suc (suc (suc zero))) l = refl
four_at xs (suc (suc (suc (suc v)))) l = absurd (omega arith)

pub values_free : (n base : ℕ) (xs : List ℕ) {r w : ℕ} → n ≤ 4 → Word (get_or xs 0 0) (get_or xs 1 0) (get_or xs 2 0) (get_or xs 3 0) w → FreeWord n r → w ≡ r → 0 ≡ value_bits n base xs
values_free n base xs l W f e =
    values_all_free n base xs
    (λ v k. sym (four_at xs v (omega arith)) ∙ f (get_or xs 0 0) (get_or xs 1 0) (get_or xs 2 0) (get_or xs 3 0) (subst (Word (get_or xs 0 0) (get_or xs 1 0) (get_or xs 2 0) (get_or xs 3 0)) e W) v k)

pub message_role : (n r : ℕ) (b : Bool) (m : Message) {x : ℕ} → b ≡ true → x ≡ value_bits n r m.snapshot → x ≡ message_bits n r b m
unfolding message_bits
message_role n r true m e f = f
message_role n r false m e f = absurd (subst T (sym e) tt)

pub message_none : (n r : ℕ) (b : Bool) (m : Message) {x y : ℕ} → b ≡ false → x ≡ value_bits n (r + 9) m.snapshot → y ≡ bit_at (3 * r + 4 * m.process + m.variable + 2) → bit_or x y ≡ message_bits n r b m
unfolding message_bits
message_none n r true m e f g = absurd (subst T e tt)
message_none n r false m e f g = ap₂ bit_or f g

pub waits_none : (xs : List ℕ) → length xs ≡ 0 → 0 ≡ wait_bits xs
unfolding wait_bits
waits_none [] e = refl
waits_none (x ∷ xs) e = absurd (omega arith)

pub waits_some : (xs : List ℕ) (n x : ℕ) {a b : ℕ} → n ≡ length xs → (n ≡ 0 → ⊥) → x ≡ get_or xs (n - 1) 0 → a ≡ cond (eqb x 255) 0 65536 → b ≡ cond (ltb n 2) 0 131072 → bit_or a b ≡ wait_bits xs
unfolding wait_bits
waits_some xs n x e z f g h =
    ap₂ bit_or (g ∙ ap (λ (y : ℕ). cond (eqb y 255) 0 65536) f ∙ sym (ap last_bit (newest_at xs (n - 1) (omega arith)))) (h ∙ ap (λ (y : ℕ). cond (ltb y 2) 0 131072) e)

pub row_bits_next : (qs : List Queue) (p v g : ℕ) {b x : ℕ} → b ≡ row_bits qs p v g → x ≡ wait_bits (waiting_of (get_or qs (4 * p + v) no_queue)) → bit_or b x ≡ row_bits qs p (v + 1) g
row_bits_next qs p v g e f = simp unary_clauses (ap₂ bit_or e f)

module _ (n low : ℕ) (ts : List ℕ) (ms : List Message) where
  signed_next : (i r b y : ℕ) {x : ℕ} (t : Bool) → signed n low ts ms i r b ≡ y → low ≤ i → 0 < i → t ≡ leb 65536 (get_or ts (i - 1) 0) → x ≡ message_bits n r t (get_or ms (i - 1) no_message)
      → signed n low ts ms (i - 1) (cond t (suc r) r) (bit_or b x) ≡ y
  signed_next zero r b y t e l z f g = absurd (omega arith)
  signed_next (suc j) r b y {x} t e l z f g =
      let d : suc j - 1 ≡ j = omega arith in
      let f : t ≡ leb 65536 (get_or ts j 0) = subst (λ (k : ℕ). t ≡ leb 65536 (get_or ts k 0)) d f in
      let g : x ≡ message_bits n r t (get_or ms j no_message) = subst (λ (k : ℕ). x ≡ message_bits n r t (get_or ms k no_message)) d g in
      ap (λ (k : ℕ). signed n low ts ms k (cond t (suc r) r) (bit_or b x)) d
      ∙ ap (λ (k : ℕ). signed n low ts ms j (cond t (suc r) r) (bit_or b k)) g
      ∙ ap (λ (u : Bool). signed n low ts ms j (cond u (suc r) r) (bit_or b (message_bits n r u (get_or ms j no_message)))) f
      ∙ sym (ap (λ (u : Bool). cond u (signed n low ts ms j (cond (leb 65536 (get_or ts j 0)) (suc r) r) (bit_or b (message_bits n r (leb 65536 (get_or ts j 0)) (get_or ms j no_message)))) b) (le-leb low (suc j) l))
      ∙ e

-- ---- sizes

bit_small : (k : ℕ) → bit_at k < 2 ^ 18
unfolding bit_at
bit_small k = pow-lt {i = k % 16} {j = 18} (omega arith)

value_small : (base x : ℕ) → value_bit base x < 2 ^ 18
unfolding value_bit
value_small base x = at (eqb x 255)
  where
    at : (b : Bool) → cond b 0 (bit_at (base + x)) < 2 ^ 18
    at true = omega arith
    at false = bit_small (base + x)

values_small : (n base : ℕ) (xs : List ℕ) → value_bits n base xs < 2 ^ 18
unfolding value_bits
values_small zero base xs = omega arith
values_small (suc v) base xs = or_lt 18 (value_bits v base xs) (value_bit (base + 5 * v) (get_or xs v 0)) (values_small v base xs) (value_small (base + 5 * v) (get_or xs v 0))

pub message_small : (n r : ℕ) (b : Bool) (m : Message) → message_bits n r b m < 2 ^ 18
unfolding message_bits
message_small n r true m = values_small n r m.snapshot
message_small n r false m =
    or_lt 18 (value_bits n (r + 9) m.snapshot) (bit_at (3 * r + 4 * m.process + m.variable + 2)) (values_small n (r + 9) m.snapshot) (bit_small (3 * r + 4 * m.process + m.variable + 2))

waits_small : (xs : List ℕ) → wait_bits xs < 2 ^ 18
unfolding wait_bits
waits_small xs = or_lt 18 (last_bit (newest_waiting xs)) (cond (ltb (length xs) 2) 0 131072) (last (newest_waiting xs)) (long (ltb (length xs) 2))
  where
    set : (b : Bool) → cond b 0 65536 < 2 ^ 18
    set true = omega arith
    set false = omega arith

    last : (o : Option ℕ) → last_bit o < 2 ^ 18
    last none = omega arith
    last (some x) = set (eqb x 255)

    long : (b : Bool) → cond b 0 131072 < 2 ^ 18
    long true = omega arith
    long false = omega arith

row_small : (qs : List Queue) (p v b : ℕ) → b < 2 ^ 18 → row_bits qs p v b < 2 ^ 18
row_small qs p zero b l = l
row_small qs p (suc v) b l = or_lt 18 (row_bits qs p v b) (wait_bits (waiting_of (get_or qs (4 * p + v) no_queue))) (row_small qs p v b l) (waits_small (waiting_of (get_or qs (4 * p + v) no_queue)))

pub queues_small : (variables : ℕ) (qs : List Queue) (p : ℕ) → queue_bits variables qs p < 2 ^ 18
queues_small variables qs zero = omega arith
queues_small variables qs (suc p) = row_small qs p variables (queue_bits variables qs p) (queues_small variables qs p)

signed_small : (n low : ℕ) (ts : List ℕ) (ms : List Message) (i r b : ℕ) → b < 2 ^ 18 → signed n low ts ms i r b < 2 ^ 18
signed_small n low ts ms zero r b l = l
signed_small n low ts ms (suc i) r b l =
    at (λ q c k. signed_small n low ts ms i q c k) (leb low (suc i)) (leb 65536 (get_or ts i 0))
  where
    at : ((q c : ℕ) → c < 2 ^ 18 → signed n low ts ms i q c < 2 ^ 18) → (x y : Bool)
        → cond x (signed n low ts ms i (cond y (suc r) r) (bit_or b (message_bits n r y (get_or ms i no_message)))) b < 2 ^ 18
    at rec true y =
        rec (cond y (suc r) r) (bit_or b (message_bits n r y (get_or ms i no_message))) (or_lt 18 b (message_bits n r y (get_or ms i no_message)) l (message_small n r y (get_or ms i no_message)))
    at rec false y = l

pub signature_small : (s : Shape) (c : Cube) → signature_of s c < 262144
unfolding signature_of
signature_small s c =
    signed_small (min s.variables 4) (lowest_pointer s c.pointers) (tags_of s c) c.messages (min c.count 20) 0 (queue_bits (min s.variables 4) c.queues (min s.processes 4))
    (queues_small (min s.variables 4) c.queues (min s.processes 4))

-- ---- the loop over messages

pub record Signing (n low : ℕ) (ts : List ℕ) (ms : List Message) (y i r bits : ℕ) : Type 0 where
  pub few : r + i ≤ 20
  pub small : bits < 2 ^ 18
  pub rest : signed n low ts ms i r bits ≡ y

pub signing_begin : (n low : ℕ) (ts : List ℕ) (ms : List Message) (i : ℕ) {bits : ℕ} → i ≤ 20 → bits < 2 ^ 18 → Signing n low ts ms (signed n low ts ms i 0 bits) i 0 bits
signing_begin n low ts ms i l s = record { few = omega arith; small = s; rest = refl }

module _ (n low : ℕ) (ts : List ℕ) (ms : List Message) (y i r bits : ℕ) {x : ℕ} (t : Bool) (W : Signing n low ts ms y i r bits) (l : low ≤ i) (z : 0 < low) (f : t ≡ leb 65536 (get_or ts (i - 1) 0)) (g : x ≡ message_bits n r t (get_or ms (i - 1) no_message)) where
  next : signed n low ts ms (i - 1) (cond t (suc r) r) (bit_or bits x) ≡ y
  next = signed_next n low ts ms i r bits y t W.rest l (omega arith) f g

  grown : bit_or bits x < 2 ^ 18
  grown = or_lt 18 bits x W.small (subst (λ (k : ℕ). k < 2 ^ 18) (sym g) (message_small n r t (get_or ms (i - 1) no_message)))

  next_role : suc r ≡ r + 1
  next_role = omega arith

  signing_role : t ≡ true → Signing n low ts ms y (i - 1) (r + 1) (bit_or bits x)
  signing_role e =
      record { few = omega (arith, W.few); small = grown; rest = subst (λ (k : ℕ). signed n low ts ms (i - 1) k (bit_or bits x) ≡ y) (ap (λ (b : Bool). cond b (suc r) r) e ∙ next_role) next }

  signing_none : t ≡ false → Signing n low ts ms y (i - 1) r (bit_or bits x)
  signing_none e =
      record { few = omega (arith, W.few); small = grown; rest = subst (λ (b : Bool). signed n low ts ms (i - 1) (cond b (suc r) r) (bit_or bits x) ≡ y) e next }

-- before the lowest pointer nothing is added any more
signed_low : (n low : ℕ) (ts : List ℕ) (ms : List Message) (i r b : ℕ) → i < low → signed n low ts ms i r b ≡ b
signed_low n low ts ms zero r b l = refl
signed_low n low ts ms (suc j) r b l =
    ap (λ (t : Bool). cond t (signed n low ts ms j (cond (leb 65536 (get_or ts j 0)) (suc r) r) (bit_or b (message_bits n r (leb 65536 (get_or ts j 0)) (get_or ms j no_message)))) b) (lt-leb low (suc j) l)

module _ (n low : ℕ) (ts : List ℕ) (ms : List Message) (y i r bits : ℕ) {x : ℕ} (t : Bool) (W : Signing n low ts ms y i r bits) (z : 0 < low) (o : 0 < i) (f : t ≡ leb 65536 (get_or ts (i - 1) 0))
    (g : x ≡ cond (leb low i) (bit_or bits (message_bits n r t (get_or ms (i - 1) no_message))) bits) where
  live : low ≤ i → x ≡ bit_or bits (message_bits n r t (get_or ms (i - 1) no_message))
  live l = g ∙ rw (le-leb low i l) refl

  dead : i < low → x ≡ bits
  dead l = g ∙ rw (lt-leb low i l) refl

  past : (q : ℕ) → i < low → signed n low ts ms (i - 1) q x ≡ y
  past q l = signed_low n low ts ms (i - 1) q x (omega arith) ∙ dead l ∙ sym (signed_low n low ts ms i r bits l) ∙ W.rest

  kept : i < low → x < 2 ^ 18
  kept l = subst (λ (k : ℕ). k < 2 ^ 18) (sym (dead l)) W.small

  pub message_signed : t ≡ true → Signing n low ts ms y (i - 1) (r + 1) x
  message_signed e = elim (dec_le low i) [
    | yes l ↦ subst (Signing n low ts ms y (i - 1) (r + 1)) (sym (live l)) (signing_role n low ts ms y i r bits t W l z f refl e)
    | no l ↦ record { few = omega (arith, W.few); small = kept (omega arith); rest = past (r + 1) (omega arith) }
  ]

  pub message_unsigned : t ≡ false → Signing n low ts ms y (i - 1) r x
  message_unsigned e = elim (dec_le low i) [
    | yes l ↦ subst (Signing n low ts ms y (i - 1) r) (sym (live l)) (signing_none n low ts ms y i r bits t W l z f refl e)
    | no l ↦ record { few = omega (arith, W.few); small = kept (omega arith); rest = past r (omega arith) }
  ]

pub signing_end : (s : Shape) (c : Cube) {ts : List ℕ} {low i b r bits : ℕ} → low ≡ lowest_pointer s c.pointers → i ≡ min c.count 20 → b ≡ queue_bits (min s.variables 4) c.queues (min s.processes 4)
    → Signing (min s.variables 4) low ts c.messages (signed (min s.variables 4) low ts c.messages i 0 b) 0 r bits → ts ≡ tags_of s c → bits ≡ signature_of s c
unfolding signature_of
signing_end s c {ts} {low} {i} {b} {r} {bits} p q u W e = W.rest ∙ (λ k. signed (min s.variables 4) (p k) (e k) c.messages (q k) 0 (u k))

-- ---- a match

-- a value of an entry has no bit, or is the cube's and has its bit
fill_contained : (g : ℕ → ℕ) (a b : ℕ) → T (fills a b) → Contained (cond (eqb a 255) 0 (g a)) (cond (eqb b 255) 0 (g b))
fill_contained g a b t = at (eqb a 255) refl t
  where
    at : (x : Bool) → eqb a 255 ≡ x → T (x || eqb a b) → Contained (cond (eqb a 255) 0 (g a)) (cond (eqb b 255) 0 (g b))
    at true e t = rw e (contained_none (cond (eqb b 255) 0 (g b)))
    at false e t = contained_same (ap (λ (y : ℕ). cond (eqb y 255) 0 (g y)) (eqb→eq a b t))

value_contained : (base a b : ℕ) → T (fills a b) → Contained (value_bit base a) (value_bit base b)
unfolding value_bit
value_contained base a b t = fill_contained (λ y. bit_at (base + y)) a b t

related_at : (xs ys : List ℕ) → Pointwise (Related fills) xs ys → (v : ℕ) → T (fills (get_or xs v 0) (get_or ys v 0))
related_at [] [] none_left v = tt
related_at [] (b ∷ ys) w v = elim w [ ]
related_at (a ∷ xs) [] w v = elim w [ ]
related_at (a ∷ xs) (b ∷ ys) (one_more t w) zero = t
related_at (a ∷ xs) (b ∷ ys) (one_more t w) (suc v) = related_at xs ys w v

values_contained : (n base : ℕ) (xs ys : List ℕ) → Pointwise (Related fills) xs ys → Contained (value_bits n base xs) (value_bits n base ys)
unfolding value_bits
values_contained zero base xs ys w = contained_none 0
values_contained (suc v) base xs ys w = contained_both (values_contained v base xs ys w) (value_contained (base + 5 * v) (get_or xs v 0) (get_or ys v 0) (related_at xs ys w v))

message_contained : (n r : ℕ) (b : Bool) (x y : Message) → x.process ≡ y.process → x.variable ≡ y.variable → Pointwise (Related fills) x.snapshot y.snapshot
    → Contained (message_bits n r b x) (message_bits n r b y)
unfolding message_bits
message_contained n r true x y p v w = values_contained n r x.snapshot y.snapshot w
message_contained n r false x y p v w = contained_both (values_contained n (r + 9) x.snapshot y.snapshot w) (contained_same (ap₂ (λ (q u : ℕ). bit_at (3 * r + 4 * q + u + 2)) p v))

-- the messages with their roles, newest first
unfoldable pub signed_tags : ℕ → ℕ → ℕ → List Tagged → ℕ
signed_tags n r bits [] = bits
signed_tags n r bits (x ∷ xs) = signed_tags n (cond (some_role x.roles) (suc r) r) (bit_or bits (message_bits n r (some_role x.roles) x.message)) xs

pub channel_contained : (n : ℕ) {xs ys : List Tagged} → Subsequence (tag_matches fills) xs ys → total xs ≡ total ys → (r : ℕ) {b c : ℕ} → Contained b c → Contained (signed_tags n r b xs) (signed_tags n r c ys)
unfolding signed_tags
channel_contained n nothing e r w = w
channel_contained n (skip {y = y} {xs} {ys} s) e r {b} {c} w =
    let p = passed_over fills y xs ys s e in
    rw p.0 (channel_contained n s p.1 r (contained_more (message_bits n r false y.message) w))
channel_contained n (keep {x = x} {y = y} {xs} {ys} t s) e r {b} {c} w =
    let m = (tag_match fills x y).0 t in
    subst (λ (q : List (List Bool)). Contained (signed_tags n (cond (some_role x.roles) (suc r) r) (bit_or b (message_bits n r (some_role x.roles) x.message)) xs)
    (signed_tags n (cond (some_role q) (suc r) r) (bit_or c (message_bits n r (some_role q) y.message)) ys)) m.roles
    (channel_contained n s (kept_on fills x y xs ys t e) (cond (some_role x.roles) (suc r) r)
    (contained_both w (message_contained n r (some_role x.roles) x.message y.message m.process m.variable m.values)))

sub_length : {r : ℕ → ℕ → Bool} {xs ys : List ℕ} → Subsequence r xs ys → length xs ≤ length ys
sub_length nothing = omega arith
sub_length (skip s) = omega (arith, sub_length s)
sub_length (keep t s) = omega (arith, sub_length s)

waits_contained : (xs ys : List ℕ) → QueueMatch fills xs ys → Contained (wait_bits xs) (wait_bits ys)
unfolding wait_bits
waits_contained xs ys q = contained_both (last (newest_waiting xs) (newest_waiting ys) q.end) (long (ltb (length xs) 2) refl)
  where
    last : (a b : Option ℕ) → T (ends fills a b) → Contained (last_bit a) (last_bit b)
    last none none t = contained_none 0
    last none (some b) t = absurd t
    last (some a) none t = absurd t
    last (some a) (some b) t = fill_contained (λ y. 65536) a b t

    long : (x : Bool) → ltb (length xs) 2 ≡ x → Contained (cond (ltb (length xs) 2) 0 131072) (cond (ltb (length ys) 2) 0 131072)
    long true e = rw e (contained_none (cond (ltb (length ys) 2) 0 131072))
    long false e = rw (e, le-ltb (length ys) 2 (omega (arith, ltb-false (length xs) 2 e, sub_length q.subsequence))) (contained_same refl)

module _ (qs rs : List Queue) where
  row_contained : (p n : ℕ) {g h : ℕ} → Contained g h → ((v : ℕ) → v < n → QueueMatch fills (waiting_of (get_or qs (4 * p + v) no_queue)) (waiting_of (get_or rs (4 * p + v) no_queue))) → Contained (row_bits qs p n g) (row_bits rs p n h)
  row_contained p zero e f = e
  row_contained p (suc v) e f =
      contained_both (row_contained p v e (λ u l. f u (omega arith))) (waits_contained (waiting_of (get_or qs (4 * p + v) no_queue)) (waiting_of (get_or rs (4 * p + v) no_queue)) (f v (omega arith)))

  pub queues_contained : (variables n : ℕ) → ((p v : ℕ) → p < n → v < variables → QueueMatch fills (waiting_of (get_or qs (4 * p + v) no_queue)) (waiting_of (get_or rs (4 * p + v) no_queue)))
      → Contained (queue_bits variables qs n) (queue_bits variables rs n)
  queues_contained variables zero f = contained_none 0
  queues_contained variables (suc p) f = row_contained p variables (queues_contained variables p (λ q v l k. f q v (omega arith) k)) (λ v l. f p v (omega arith) l)
