-- Equal keys have equal numbers but for the signatures, so a match has.
use Prim.Native.Nat.{ℕ, zero, suc, ◌+◌, ◌-◌, ◌*◌, ◌/◌, ◌%◌, ◌<◌, ◌≤◌, min}
use mathlib.Core.Path.{◌≡◌, refl, sym, ap, ap₂, subst, subst₂, ◌∙◌}
use mathlib.Core.Bool.{Bool, true, false, cond}
use mathlib.Core.List.{List, [], ◌∷◌, cons≢nil, head-eq_of_cons-eq, tail-eq_of_cons-eq}
use native.Mathlib.Omega.{arith}
use native.Mathlib.Decide.{dec_le}
use lib.Bits.{bit_xor, bit_or}
use lib.ListN.{get_or}
use lib.Dec.{T, leb}
use borrow.Author.Tests.{le-leb, lt-leb}
use Rattle.machine_pws.specs.declared.Message.{Message}
use Rattle.machine_pws.specs.Program.{ShapeInRange}
use Rattle.machine_pws.specs.Machine.{Memory, no_message, is_empty}
use Rattle.machine_pws.specs.Configurations.{Fits}
use Rattle.machine_pws.specs.Entries.{ValueOrFF}
use Rattle.machine_pws.specs.Tagged.{Tagged, table, roles, has_role, is_live_at, tagged_from, tagged}
use Rattle.machine_pws.proofs.Facts.{Proper, proper}
use Rattle.machine_pws.proofs.Tagged.{table_at, yes_live, role_live}
use Rattle.file_records.specs.declared.program.Shape.{Shape}
use Rattle.file_records.specs.ProgramPart.{shape_of}
use Rattle.file_contents.specs.declared.entry.Queue.{Queue}
use Rattle.file_contents.specs.declared.entry.Cube.{Cube}
use Rattle.file_contents.specs.Cube.{no_queue, channel_of, configuration_of}
use Rattle.file_contents.proofs.CubeParts.{channel_length, channel_message, queue_of_lem}
use Rattle.list_theory.specs.Values.{fills}
use Rattle.list_theory.specs.Matching.{matches, Match, QueueMatch}
use Rattle.list_theory.proofs.Matching.{matches_exact}
use Rattle.list_key.specs.Relation.{relation}
use Rattle.list_key.specs.Tags.{tag_of, tags_of, lowest_pointer}
use Rattle.list_key.specs.Signature.{Contained, message_bits, signed, queue_bits, signature_of}
use Rattle.list_key.specs.Key.{Mark, mark_of, some_role, marks_of, Key, key}
use Rattle.list_key.specs.Number.{stir, behind, packed_states, empty_bit, packed_row, packed_queues, with_tags, states_mixed, with_signature, widened, signature_in, Agrees, key_mixed, number_of}
use Rattle.list_key.proofs.TagLaws.{mask_roles, ByteLabel, tag_is, tag_role, some_role_lem}
use Rattle.list_key.proofs.MarkLaws.{tags_at}
use Rattle.list_key.proofs.KeyLaws.{match_key, same_total}
use Rattle.list_key.proofs.ChannelLaws.{up_to, up_none, up_some}
use Rattle.list_key.proofs.SignatureLaws.{signed_tags, signature_small, channel_contained, queues_contained, contained_all}

-- ---- states and queues

states_packed : (n : ℕ) (zs ws : List ℕ) → ((p : ℕ) → p < n → get_or zs p 0 ≡ get_or ws p 0) → packed_states n zs ≡ packed_states n ws
states_packed zero zs ws f = refl
states_packed (suc n) zs ws f = ap₂ (behind 8) (states_packed n zs ws (λ p l. f p (omega arith))) (f n (omega arith))

module _ (qs rs : List Queue) where
  row_packed : (p n g h : ℕ) → g ≡ h → ((v : ℕ) → v < n → empty_bit (get_or qs (4 * p + v) no_queue) ≡ empty_bit (get_or rs (4 * p + v) no_queue)) → packed_row qs p n g ≡ packed_row rs p n h
  row_packed p zero g h e f = e
  row_packed p (suc v) g h e f = ap₂ (behind 1) (row_packed p v g h e (λ v l. f v (omega arith))) (f v (omega arith))

  queues_packed : (variables n g h : ℕ) → g ≡ h → ((p v : ℕ) → p < n → v < variables → empty_bit (get_or qs (4 * p + v) no_queue) ≡ empty_bit (get_or rs (4 * p + v) no_queue))
      → packed_queues variables qs n g ≡ packed_queues variables rs n h
  queues_packed variables zero g h e f = e
  queues_packed variables (suc p) g h e f =
      row_packed p variables (packed_queues variables qs p g) (packed_queues variables rs p h) (queues_packed variables p g h e (λ q v l k. f q v (omega arith) k)) (λ v l. f p v (omega arith) l)

-- ---- tags with a role

-- those of the first n, newest first
key_tags : List ℕ → ℕ → List ℕ
key_tags ts zero = []
key_tags ts (suc n) = cond (leb 65536 (get_or ts n 0)) (get_or ts n 0 ∷ key_tags ts n) (key_tags ts n)

hashed : List ℕ → ℕ → ℕ
hashed [] h = h
hashed (t ∷ ts) h = hashed ts (bit_xor (stir h) t)

with_tags_lem : (ts : List ℕ) (n h : ℕ) → with_tags ts n h ≡ hashed (key_tags ts n) h
unfolding key_tags hashed
with_tags_lem ts zero h = refl
with_tags_lem ts (suc n) h = at (with_tags_lem ts n) (leb 65536 (get_or ts n 0))
  where
    at : ((h : ℕ) → with_tags ts n h ≡ hashed (key_tags ts n) h) → (b : Bool)
        → with_tags ts n (cond b (bit_xor (stir h) (get_or ts n 0)) h) ≡ hashed (cond b (get_or ts n 0 ∷ key_tags ts n) (key_tags ts n)) h
    at rec true = rec (bit_xor (stir h) (get_or ts n 0))
    at rec false = rec h

abbrev message_tag : Shape → Cube → ℕ → Tagged
message_tag s c i = record { message = get_or c.messages (i - 1) no_message; roles = roles (shape_of s) (configuration_of c).memory i }

-- the tags of a cube's messages and the messages without snapshots, one for one
data Beside (s : Shape) (c : Cube) : List ℕ → List Mark → Type 0 where
  no_more : Beside s c [] []
  one_more : (i : ℕ) {ts : List ℕ} {ms : List Mark} → 1 ≤ i → Beside s c ts ms → Beside s c (tag_of s c i ∷ ts) (mark_of (message_tag s c i) ∷ ms)

module _ (s : Shape) (few : s.processes ≤ 4) (narrow : s.variables ≤ 4) where
  module _ (c : Cube) (short : c.count ≤ 20) (g : Proper (shape_of s) (configuration_of c).memory) where
    abbrev m : Memory
    m = (configuration_of c).memory

    label : (i : ℕ) → i < c.count → ByteLabel (get_or c.messages (suc i - 1) no_message)
    label i l =
        let z : suc i - 1 ≡ i = omega arith in
        let n = channel_length c.messages c.count in
        let e = channel_message c.messages c.count i l in
        rw z (record {
          process = omega (arith, ap (λ (x : Message). x.process) e, g.process (suc i) (omega arith) (omega arith));
          variable = omega (arith, ap (λ (x : Message). x.variable) e, g.variable (suc i) (omega arith) (omega arith));
        })

    tested : (i : ℕ) → i < c.count → leb 65536 (get_or (tags_of s c) i 0) ≡ some_role (roles (shape_of s) m (suc i))
    tested i l = ap (leb 65536) (tags_at s c i l (omega arith)) ∙ tag_role s few narrow c short (suc i) (omega arith) (label i l)

    -- the signature, by the messages with their roles
    abbrev entry : ℕ → ℕ → Tagged
    entry i k = record { message = get_or c.messages k no_message; roles = roles (shape_of s) m (suc i) }

    signed_tagged : (i : ℕ) → i ≤ c.count → (n r b : ℕ) → signed n (lowest_pointer s c.pointers) (tags_of s c) c.messages i r b ≡ signed_tags n r b (up_to s c i)
    unfolding signed_tags
    signed_tagged zero l n r b = refl
    signed_tagged (suc i) l n r b = elim (dec_le (lowest_pointer s c.pointers) (suc i)) [
      | yes d ↦
          ap (λ (x : Bool). cond x (on (leb 65536 (get_or (tags_of s c) i 0))) b) (le-leb (lowest_pointer s c.pointers) (suc i) d)
          ∙ ap on (tested i l)
          ∙ signed_tagged i (omega arith) n (cond role (suc r) r) (bit_or b (message_bits n r role (get_or c.messages i no_message)))
          ∙ sym (ap (signed_tags n r b) (up_some s few c (suc i) (omega arith) d ∙ ap (λ (k : ℕ). entry i k ∷ up_to s c k) z))
      | no d ↦
          ap (λ (x : Bool). cond x (on (leb 65536 (get_or (tags_of s c) i 0))) b) (lt-leb (lowest_pointer s c.pointers) (suc i) (omega arith))
          ∙ sym (ap (signed_tags n r b) (up_none s few c (suc i) (omega arith) (omega arith)))
    ]
      where
        z : suc i - 1 ≡ i
        z = omega arith

        role : Bool
        role = some_role (roles (shape_of s) m (suc i))

        on : Bool → ℕ
        on t = signed n (lowest_pointer s c.pointers) (tags_of s c) c.messages i (cond t (suc r) r) (bit_or b (message_bits n r t (get_or c.messages i no_message)))

    signature_is : signature_of s c ≡ signed_tags (min s.variables 4) 0 (queue_bits (min s.variables 4) c.queues (min s.processes 4)) (tagged (shape_of s) m)
    unfolding signature_of
    signature_is =
        let e : min c.count 20 ≡ c.count = omega arith in
        ap (λ (i : ℕ). signed (min s.variables 4) (lowest_pointer s c.pointers) (tags_of s c) c.messages i 0 (queue_bits (min s.variables 4) c.queues (min s.processes 4))) e
        ∙ signed_tagged c.count (omega arith) (min s.variables 4) 0 (queue_bits (min s.variables 4) c.queues (min s.processes 4))

    -- nothing before the lowest pointer has a role
    no_tags : (n k : ℕ) → n ≤ c.count → is_live_at (shape_of s) m n ≡ false → k ≤ n → key_tags (tags_of s c) k ≡ []
    unfolding key_tags
    no_tags n zero a e l = refl
    no_tags n (suc k) a e l = rw (tested k (omega arith) ∙ some_role_lem (shape_of s) m (suc k) ∙ none (has_role (shape_of s) m (suc k)) refl) (no_tags n k a e (omega arith))
      where
        none : (x : Bool) → has_role (shape_of s) m (suc k) ≡ x → x ≡ false
        none true f =
            let w = role_live (shape_of s) m g (suc k) (subst T (sym f) tt) in
            absurd (subst T e (yes_live (shape_of s) m n (record { who = w.who; exists = w.exists; from = omega (arith, w.from); upto = omega (arith, channel_length c.messages c.count) })))
        none false f = refl

    beside : (n : ℕ) → n ≤ c.count → Beside s c (key_tags (tags_of s c) n) (marks_of (tagged_from (shape_of s) m (channel_of c.messages n)))
    unfolding key_tags
    beside zero l = no_more
    beside (suc n) l = subst (λ (k : ℕ). Beside s c (key_tags (tags_of s c) (suc n)) (marks_of (cond (is_live_at (shape_of s) m (suc k)) (at k n ∷ rest) [])))
        (sym (channel_length c.messages n)) (alive (beside n (omega arith)) (is_live_at (shape_of s) m (suc n)) refl)
      where
        rest : List Tagged
        rest = tagged_from (shape_of s) m (channel_of c.messages n)

        at : ℕ → ℕ → Tagged
        at k j = record { message = get_or c.messages j no_message; roles = roles (shape_of s) m (suc k) }

        ts : List ℕ
        ts = key_tags (tags_of s c) n

        with_role : Beside s c ts (marks_of rest) → (y : Bool) → Beside s c (cond y (get_or (tags_of s c) n 0 ∷ ts) ts) (cond y (mark_of (at n n) ∷ marks_of rest) (marks_of rest))
        with_role w true =
            let z : suc n - 1 ≡ n = omega arith in
            subst (λ (t : ℕ). Beside s c (t ∷ ts) (mark_of (at n n) ∷ marks_of rest)) (sym (tags_at s c n l (omega arith)))
            (subst (λ (j : ℕ). Beside s c (tag_of s c (suc n) ∷ ts) (mark_of (at n j) ∷ marks_of rest)) z (one_more (suc n) (omega arith) w))
        with_role w false = w

        alive : Beside s c ts (marks_of rest) → (x : Bool) → is_live_at (shape_of s) m (suc n) ≡ x → Beside s c (key_tags (tags_of s c) (suc n)) (marks_of (cond x (at n n ∷ rest) []))
        alive w true e =
            subst (λ (y : Bool). Beside s c (cond y (get_or (tags_of s c) n 0 ∷ ts) ts) (cond (some_role (roles (shape_of s) m (suc n))) (mark_of (at n n) ∷ marks_of rest) (marks_of rest)))
            (sym (tested n l)) (with_role w (some_role (roles (shape_of s) m (suc n))))
        alive w false e = subst (λ (us : List ℕ). Beside s c us []) (sym (no_tags (suc n) (suc n) l e (omega arith))) no_more

  module _ (a b : Cube) (k : a.count ≤ 20) (l : b.count ≤ 20) where
    same_tag : (i j : ℕ) → 1 ≤ i → 1 ≤ j → mark_of (message_tag s a i) ≡ mark_of (message_tag s b j) → tag_of s a i ≡ tag_of s b j
    same_tag i j x y e =
        let u = ap (λ (z : Mark). z.process) e in
        let v = ap (λ (z : Mark). z.variable) e in
        let w = (mask_roles (shape_of s) (configuration_of a).memory i (configuration_of b).memory j narrow x y).1 (ap (λ (z : Mark). z.roles) e) in
        tag_is s few narrow a k i ∙ omega arith ∙ sym (tag_is s few narrow b l j)

    same_tags : {ts us : List ℕ} {ms ns : List Mark} → Beside s a ts ms → Beside s b us ns → ms ≡ ns → ts ≡ us
    same_tags no_more no_more e = refl
    same_tags no_more (one_more j y v) e = absurd (cons≢nil (sym e))
    same_tags (one_more i x w) no_more e = absurd (cons≢nil e)
    same_tags (one_more i x w) (one_more j y v) e =
        ap₂ {C = List ℕ} (λ t r. t ∷ r) (same_tag i j x y (head-eq_of_cons-eq e)) (same_tags w v (tail-eq_of_cons-eq e))

-- ---- signatures in numbers

put_upper : (h x : ℕ) → x < 262144 → with_signature h x / 1048576 ≡ h / 1048576
unfolding with_signature
put_upper h x l = omega arith

put_lowest : (h x : ℕ) → with_signature h x % 4 ≡ h % 4
unfolding with_signature
put_lowest h x = omega arith

put_agrees : {h g x y : ℕ} → h ≡ g → x < 262144 → y < 262144 → Agrees (with_signature h x) (with_signature g y)
put_agrees {h} {g} {x} {y} e l k =
    record {
      upper = put_upper h x l ∙ ap (λ (n : ℕ). n / 1048576) e ∙ sym (put_upper g y k);
      lowest = put_lowest h x ∙ ap (λ (n : ℕ). n % 4) e ∙ sym (put_lowest g y);
    }

-- ---- cubes

module _ (s : Shape) (exact : Bool) (a b : Cube) (R : ShapeInRange (shape_of s))
    (A : Fits (ValueOrFF (shape_of s)) (shape_of s) (configuration_of a)) (B : Fits (ValueOrFF (shape_of s)) (shape_of s) (configuration_of b))
    (k : a.count ≤ 20) (l : b.count ≤ 20)
    (t : matches (shape_of s) (relation exact) (configuration_of a) (configuration_of b) ≡ true)
  where
    few : s.processes ≤ 4
    few = R.processes

    narrow : s.variables ≤ 4
    narrow = R.variables

    same_key : key (shape_of s) (configuration_of a) ≡ key (shape_of s) (configuration_of b)
    same_key = match_key (shape_of s) (relation exact) (configuration_of a) (configuration_of b) (proper A.memory) (proper B.memory)
        ((matches_exact (shape_of s) (relation exact) (configuration_of a) (configuration_of b)).0 (subst T (sym t) tt))

    same_states : packed_states (min s.processes 4) a.states ≡ packed_states (min s.processes 4) b.states
    same_states = states_packed (min s.processes 4) a.states b.states
        (λ p d. table_at s.processes (configuration_of a).state (configuration_of b).state (ap (λ (z : Key). z.states) same_key) p (omega arith))

    same_empty : (p v : ℕ) → p < min s.processes 4 → v < min s.variables 4 → empty_bit (get_or a.queues (4 * p + v) no_queue) ≡ empty_bit (get_or b.queues (4 * p + v) no_queue)
    same_empty p v d e =
        let row = table_at s.processes (λ p. table s.variables (λ v. is_empty ((configuration_of a).queue p v))) (λ p. table s.variables (λ v. is_empty ((configuration_of b).queue p v)))
        (ap (λ (z : Key). z.empty) same_key) p (omega arith) in
        let one = table_at s.variables (λ v. is_empty ((configuration_of a).queue p v)) (λ v. is_empty ((configuration_of b).queue p v)) row v (omega arith) in
        ap (λ (x : Bool). cond x 1 0) (sym (ap is_empty (queue_of_lem a.queues p v (omega arith) (omega arith))) ∙ one ∙ ap is_empty (queue_of_lem b.queues p v (omega arith) (omega arith)))

    same_roles : key_tags (tags_of s a) a.count ≡ key_tags (tags_of s b) b.count
    same_roles = same_tags s few narrow a b k l (beside s few narrow a k (proper A.memory) a.count (omega arith)) (beside s few narrow b l (proper B.memory) b.count (omega arith))
        (ap (λ (z : Key). z.marks) same_key)

    same_mixed : key_mixed s a ≡ key_mixed s b
    unfolding key_mixed
    same_mixed =
        let x : min a.count 20 ≡ a.count = omega arith in
        let y : min b.count 20 ≡ b.count = omega arith in
        ap stir (ap₂ (with_tags (tags_of s a)) x
        (queues_packed a.queues b.queues (min s.variables 4) (min s.processes 4) (packed_states (min s.processes 4) a.states) (packed_states (min s.processes 4) b.states) same_states same_empty)
        ∙ with_tags_lem (tags_of s a) a.count h ∙ ap (λ (ts : List ℕ). hashed ts h) same_roles ∙ sym (with_tags_lem (tags_of s b) b.count h)
        ∙ ap (λ (n : ℕ). with_tags (tags_of s b) n h) (sym y))
      where
        h : ℕ
        h = packed_queues (min s.variables 4) b.queues (min s.processes 4) (packed_states (min s.processes 4) b.states)

    pub match_number : Agrees (number_of s a) (number_of s b)
    unfolding number_of
    match_number = put_agrees same_mixed (signature_small s a) (signature_small s b)

    pub match_states : states_mixed s a.states ≡ states_mixed s b.states
    unfolding states_mixed
    match_states = ap stir same_states

-- an entry that covers a cube
pub match_signature : (s : Shape) (a b : Cube) → ShapeInRange (shape_of s) → Fits (ValueOrFF (shape_of s)) (shape_of s) (configuration_of a) → Fits (ValueOrFF (shape_of s)) (shape_of s) (configuration_of b)
    → a.count ≤ 20 → b.count ≤ 20 → matches (shape_of s) fills (configuration_of a) (configuration_of b) ≡ true → Contained (signature_of s a) (signature_of s b)
match_signature s a b R A B k l t =
    subst₂ Contained (sym (signature_is s few narrow a k (proper A.memory))) (sym (signature_is s few narrow b l (proper B.memory)))
    (channel_contained (min s.variables 4) M.channel (same_total (shape_of s) (configuration_of a) (configuration_of b) (proper A.memory) (proper B.memory)) 0
    (queues_contained a.queues b.queues (min s.variables 4) (min s.processes 4)
    (λ p v d e. subst₂ (QueueMatch fills) (queue_of_lem a.queues p v (omega arith) (omega arith)) (queue_of_lem b.queues p v (omega arith) (omega arith)) (M.queues p v (omega arith) (omega arith)))))
  where
    few : s.processes ≤ 4
    few = R.processes

    narrow : s.variables ≤ 4
    narrow = R.variables

    M : Match (shape_of s) fills (configuration_of a) (configuration_of b)
    M = (matches_exact (shape_of s) fills (configuration_of a) (configuration_of b)).0 (subst T (sym t) tt)

-- the signature in a cube's number
pub number_signature : (s : Shape) (c : Cube) → signature_in (number_of s c) ≡ signature_of s c
unfolding number_of with_signature
number_signature s c = omega (arith, signature_small s c)

-- a number with every bit of a signature agrees with what the number does
pub agrees_widened : {x y : ℕ} → Agrees x y → Agrees x (widened y)
unfolding widened
agrees_widened {x} {y} w = record { upper = w.upper ∙ sym (put_upper y 262143 (omega arith)); lowest = w.lowest ∙ sym (put_lowest y 262143) }

pub signature_any : (x y : ℕ) → Contained (signature_in x) (signature_in (widened y))
unfolding widened with_signature
signature_any x y = let e : signature_in (1048576 * (y / 1048576) + (4 * 262143 + y % 4)) ≡ 262143 = omega arith in subst (Contained (signature_in x)) (sym e) (contained_all (signature_in x) (omega arith))
