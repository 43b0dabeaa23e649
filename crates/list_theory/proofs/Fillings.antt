-- Laws of filling in: values, messages, channels. Every entry has a filling.
use Prim.Native.Nat.{ℕ, zero, suc, ◌<◌, ◌≤◌}
use mathlib.Core.Path.{◌≡◌, refl, sym, ap, subst, ◌∙◌}
use mathlib.Core.Logic.{◌⊎◌, inl, inr, ⊎_elim, ◌≢◌}
use mathlib.Core.Bool.{cond, ◌||◌}
use mathlib.Core.List.{List, [], ◌∷◌, map}
use native.Mathlib.Omega.{arith}
use native.Mathlib.Decide.{dec_le, ℕ_discrete}
use lib.ListN.{length, get_or, set, length-map, get_or-map}
use lib.Seq.{set-set, set-get_or}
use lib.Dec.{T, eqb, eqb→eq}
use borrow.Author.Tests.{eq-eqb, ne_eqb, le-leb, lt-leb}
use mir.Facts.{and_yes, yes_and, or_yes, yes_eqb}
use Rattle.machine_pws.specs.declared.Message.{Message}
use Rattle.machine_pws.specs.Program.{Shape, WellFormedShape}
use Rattle.machine_pws.specs.Machine.{Memory, Configuration, message, newest, labelled, last_labelled}
use Rattle.machine_pws.specs.Configurations.{All, MessageIn, MemoryIn, Fits, ValueOf}
use Rattle.machine_pws.specs.Entries.{FF, ValueOrFF, Fill, FillValues, values_nil, values_cons, FillMessage, FillChannel, channel_nil, channel_cons, Filling}
use Rattle.machine_pws.specs.Insertion.{put_message}
use Rattle.machine_pws.proofs.Facts.{or_left, or_right, message_old, message_new, Proper}
use Rattle.list_theory.specs.Values.{fills, alike, meet, pairwise, meet_all}
use Rattle.list_theory.specs.Cubes.{topmost, older, memory_of, alike_newest, meet_newest}

-- ---- one value

pub fills_yes : (a b : ℕ) → T (fills a b) → Fill a b
fills_yes a b t = ⊎_elim (λ x. inl (eqb→eq a FF x)) (λ x. inr (eqb→eq a b x)) (or_yes (eqb a FF) (eqb a b) t)

pub yes_fills : (a b : ℕ) → Fill a b → T (fills a b)
yes_fills a b f = ⊎_elim (λ x. or_left (eqb a FF) (eqb a b) (yes_eqb x)) (λ x. or_right (eqb a FF) (eqb a b) (yes_eqb x)) f

-- either a may be filled by b, or b is FF
pub alike_cases : (a b : ℕ) → T (alike a b) → Fill a b ⊎ (b ≡ FF)
alike_cases a b t = ⊎_elim
    (λ x. inl (inl (eqb→eq a FF x)))
    (λ x. ⊎_elim (λ y. inr (eqb→eq b FF y)) (λ y. inl (inr (eqb→eq a b y))) (or_yes (eqb b FF) (eqb a b) x))
    (or_yes (eqb a FF) (eqb b FF || eqb a b) t)

pub alike_value : (a b : ℕ) → b ≢ FF → T (alike a b) → Fill a b
alike_value a b n t = ⊎_elim (λ f. f) (λ e. absurd (n e)) (alike_cases a b t)

-- what fills both of two makes them alike
pub fill_alike : (a b c : ℕ) → Fill a c → Fill b c → T (alike a b)
fill_alike a b c f g = ⊎_elim
    (λ x. or_left (eqb a FF) (eqb b FF || eqb a b) (yes_eqb x))
    (λ x. or_right (eqb a FF) (eqb b FF || eqb a b) (⊎_elim
    (λ y. or_left (eqb b FF) (eqb a b) (yes_eqb y))
    (λ y. or_right (eqb b FF) (eqb a b) (yes_eqb (x ∙ sym y))) g)) f

pub fill_meet : (a b c : ℕ) → Fill a c → Fill b c → Fill (meet a b) c
fill_meet a b c f g = elim (ℕ_discrete a FF) [ yes e ↦ rw (eq-eqb a FF e) g | no e ↦ rw (ne_eqb a FF e) f ]

meet_fill : (a b c : ℕ) → T (alike a b) → Fill (meet a b) c → Fill a c × Fill b c
meet_fill a b c t f = elim (ℕ_discrete a FF) [
  | yes e ↦ (inl e, rw (eq-eqb a FF e) at f)
  | no e ↦
      let g : Fill a c = rw (ne_eqb a FF e) at f in
      (g, ⊎_elim (⊎_elim (λ x. absurd (e x)) (λ x. ⊎_elim (λ y. absurd (e y)) (λ y. inr (sym x ∙ y)) g)) inl (alike_cases a b t))
]

-- a value stands for itself alone
pub fill_value : (a b : ℕ) → a ≢ FF → Fill a b → b ≡ a
fill_value a b n f = ⊎_elim (λ e. absurd (n e)) sym f

pub fill_trans : {a b c : ℕ} → Fill a b → Fill b c → Fill a c
fill_trans f g = ⊎_elim inl (λ x. ⊎_elim (λ y. inl (x ∙ y)) (λ y. inr (x ∙ y)) g) f

-- ---- lists of values

pub fill_length : {xs ys : List ℕ} → FillValues xs ys → length xs ≡ length ys
fill_length values_nil = refl
fill_length (values_cons f r) = ap suc (fill_length r)

pub fill_at : {xs ys : List ℕ} → FillValues xs ys → (j : ℕ) → Fill (get_or xs j 0) (get_or ys j 0)
fill_at values_nil j = inr refl
fill_at (values_cons f r) zero = f
fill_at (values_cons f r) (suc j) = fill_at r j

pub fill_each : (xs ys : List ℕ) → length xs ≡ length ys → ((j : ℕ) → j < length xs → Fill (get_or xs j 0) (get_or ys j 0)) → FillValues xs ys
fill_each [] [] e f = values_nil
fill_each [] (y ∷ ys) e f = absurd (omega arith)
fill_each (x ∷ xs) [] e f = absurd (omega arith)
fill_each (x ∷ xs) (y ∷ ys) e f = values_cons (f zero (omega arith)) (fill_each xs ys (omega arith) (λ j l. f (suc j) (omega arith)))

fill_set : {xs ys : List ℕ} {a b : ℕ} → FillValues xs ys → Fill a b → (j : ℕ) → FillValues (set xs j a) (set ys j b)
fill_set values_nil f j = values_nil
fill_set (values_cons g r) f zero = values_cons f r
fill_set (values_cons g r) f (suc j) = values_cons g (fill_set r f j)

-- a changed value set back, above and below
pub fill_back : {xs ys : List ℕ} (j a b : ℕ) → FillValues xs (set ys j b) → Fill a (get_or ys j 0) → FillValues (set xs j a) ys
fill_back {xs} {ys} j a b r f = subst (FillValues (set xs j a)) (set-set ys j b (get_or ys j 0) ∙ set-get_or ys j 0) (fill_set r f j)

pub fill_forth : {xs ys : List ℕ} (j a b : ℕ) → FillValues (set xs j a) ys → Fill (get_or xs j 0) b → FillValues xs (set ys j b)
fill_forth {xs} {ys} j a b r f = subst (λ (w : List ℕ). FillValues w (set ys j b)) (set-set xs j a (get_or xs j 0) ∙ set-get_or xs j 0) (fill_set r f j)

-- a value of the filling put in
pub fill_put : {xs ys : List ℕ} (j x : ℕ) → FillValues xs ys → get_or ys j 0 ≡ x → FillValues (set xs j x) ys
fill_put {xs} {ys} j x r e = subst (FillValues (set xs j x)) (ap (set ys j) (sym e) ∙ set-get_or ys j 0) (fill_set r (inr refl) j)

-- and taken out again, where it may stand
pub fill_unput : {xs ys : List ℕ} (j x : ℕ) → Fill (get_or xs j 0) (get_or ys j 0) → FillValues (set xs j x) ys → FillValues xs ys
fill_unput {xs} {ys} j x f r = subst (FillValues xs) (set-get_or ys j 0) (fill_forth j x (get_or ys j 0) r f)

pub fill_meets : {xs ys zs : List ℕ} → FillValues xs zs → FillValues ys zs → T (pairwise alike xs ys) × FillValues (meet_all xs ys) zs
fill_meets values_nil values_nil = (tt, values_nil)
fill_meets (values_cons {a = a} {b = c} {xs = xs} f r) (values_cons {a = b} {xs = ys} g s) =
    let q = fill_meets r s in
    (yes_and (alike a b) (pairwise alike xs ys) (fill_alike a b c f g) q.0, values_cons (fill_meet a b c f g) q.1)

pub meets_fill : (xs ys : List ℕ) {zs : List ℕ} → T (pairwise alike xs ys) → FillValues (meet_all xs ys) zs → FillValues xs zs × FillValues ys zs
meets_fill [] [] t r = (r, r)
meets_fill [] (b ∷ ys) t r = absurd t
meets_fill (a ∷ xs) [] t r = absurd t
meets_fill (a ∷ xs) (b ∷ ys) t (values_cons {b = c} f r) =
    let s = and_yes (alike a b) (pairwise alike xs ys) t in
    let x = meet_fill a b c s.0 f in
    let y = meets_fill xs ys s.1 r in
    (values_cons x.0 y.0, values_cons x.1 y.1)

-- ---- channels

pub channel_length : {es ms : List Message} → FillChannel es ms → length es ≡ length ms
channel_length channel_nil = refl
channel_length (channel_cons f r) = ap suc (channel_length r)

pub channel_at : {es ms : List Message} → FillChannel es ms → (i : ℕ) → FillMessage (message es i) (message ms i)
channel_at channel_nil i = record { process = refl; variable = refl; snapshot = values_nil }
channel_at (channel_cons {ms = ms} f r) i = elim (ℕ_discrete i (suc (length ms))) [
  | yes d ↦ rw (channel_length r, eq-eqb i (suc (length ms)) d) f
  | no d ↦ rw (channel_length r, ne_eqb i (suc (length ms)) d) (channel_at r i)
]

pub channel_each : (es ms : List Message) → length es ≡ length ms → ((i : ℕ) → 1 ≤ i → i ≤ length es → FillMessage (message es i) (message ms i)) → FillChannel es ms
channel_each [] [] e f = channel_nil
channel_each [] (m ∷ ms) e f = absurd (omega arith)
channel_each (x ∷ es) [] e f = absurd (omega arith)
channel_each (x ∷ es) (m ∷ ms) e f =
    let d : length es ≡ length ms = omega arith in
    channel_cons (rw (d, message_new m ms) at (rw (message_new x es) at (f (suc (length es)) (omega arith) (omega arith))))
    (channel_each es ms d (λ i a b. rw (message_old m ms i (omega arith)) at (rw (message_old x es i b) at (f i a (omega arith)))))

-- the newest message and those before
pub older_length : (es : List Message) → 1 ≤ length es → suc (length (older es)) ≡ length es
older_length [] l = absurd (omega arith)
older_length (e ∷ es) l = refl

pub channel_newest : (es : List Message) {m : Message} {ms : List Message} → 1 ≤ length es → FillMessage (topmost es) m → FillChannel (older es) ms → FillChannel es (m ∷ ms)
channel_newest [] l f r = absurd (omega arith)
channel_newest (e ∷ es) l f r = channel_cons f r

pub fill_labelled : {e m : Message} → FillMessage e m → (p v : ℕ) → labelled e p v ≡ labelled m p v
fill_labelled f p v = rw (f.process, f.variable)

pub channel_last : {es ms : List Message} → FillChannel es ms → (p v : ℕ) → last_labelled es p v ≡ last_labelled ms p v
channel_last channel_nil p v = refl
channel_last (channel_cons f r) p v = rw (channel_length r, fill_labelled f p v, channel_last r p v)

pub channel_insert : {es ms : List Message} {e m : Message} → FillChannel es ms → (k : ℕ) → FillMessage e m → FillChannel (put_message es k e) (put_message ms k m)
channel_insert channel_nil k g = channel_cons g channel_nil
channel_insert (channel_cons {ms = ms} f r) k g = elim (dec_le k (suc (length ms))) [
  | yes l ↦ rw (channel_length r, le-leb k (suc (length ms)) l) (channel_cons f (channel_insert r k g))
  | no l ↦ rw (channel_length r, lt-leb k (suc (length ms)) (omega arith)) (channel_cons g (channel_cons f r))
]

-- what fills a channel with a message put in is one with a message put in
pub record Inserted (es : List Message) (k : ℕ) (e : Message) (ns : List Message) : Type 0 where
  pub channel : List Message
  pub one : Message
  pub is : ns ≡ put_message channel k one
  pub rest : FillChannel es channel
  pub fills : FillMessage e one

inserted_under : (x : Message) (es : List Message) (k : ℕ) (e : Message) {ns : List Message} → ((ns : List Message) → FillChannel (put_message es k e) ns → Inserted es k e ns)
    → k ≤ suc (length es) → FillChannel (x ∷ put_message es k e) ns → Inserted (x ∷ es) k e ns
inserted_under x es k e ih l (channel_cons {m = m} {ms = ms} f s) =
    let q = ih ms s in
    record {
      channel = m ∷ q.channel;
      one = q.one;
      is = ap (λ (w : List Message). m ∷ w) q.is ∙ sym (rw (le-leb k (suc (length q.channel)) (omega (arith, channel_length q.rest))));
      rest = channel_cons f q.rest;
      fills = q.fills;
    }

inserted_over : (x : Message) (es : List Message) (k : ℕ) (e : Message) {ns : List Message} → suc (length es) < k → FillChannel (e ∷ x ∷ es) ns → Inserted (x ∷ es) k e ns
inserted_over x es k e l (channel_cons {m = m} f (channel_cons {m = y} {ms = ys} g s)) =
    record { channel = y ∷ ys; one = m; is = sym (rw (lt-leb k (suc (length ys)) (omega (arith, channel_length s)))); rest = channel_cons g s; fills = f }

pub insert_channel : (es : List Message) (k : ℕ) (e : Message) {ns : List Message} → FillChannel (put_message es k e) ns → Inserted es k e ns
insert_channel [] k e (channel_cons {m = m} f channel_nil) = record { channel = []; one = m; is = refl; rest = channel_nil; fills = f }
insert_channel (x ∷ es) k e r = elim (dec_le k (suc (length es))) [
  | yes l ↦ inserted_under x es k e (λ ns s. insert_channel es k e s) l (rw (le-leb k (suc (length es)) l) at r)
  | no l ↦ inserted_over x es k e (omega arith) (rw (lt-leb k (suc (length es)) (omega arith)) at r)
]

-- the newest message met with values that its filling has
pub newest_meet : {es ms : List Message} (xs : List ℕ) → FillChannel es ms → 1 ≤ length ms → FillValues xs (newest ms).snapshot
    → T (alike_newest es xs) × FillChannel (meet_newest es xs) ms
newest_meet xs channel_nil l r = absurd (omega arith)
newest_meet xs (channel_cons {m = m} {ms = ms} f s) l r =
    let q = fill_meets f.snapshot (rw (message_new m ms) at r) in
    (q.0, channel_cons (record { process = f.process; variable = f.variable; snapshot = q.1 }) s)

pub meet_newest_lem : (es : List Message) (xs : List ℕ) {ms : List Message} → T (alike_newest es xs) → FillChannel (meet_newest es xs) ms
    → FillChannel es ms × FillValues xs (newest ms).snapshot
meet_newest_lem [] xs t r = absurd t
meet_newest_lem (e ∷ es) xs t (channel_cons {m = m} {ms = ms} f s) =
    let q = meets_fill e.snapshot xs t f.snapshot in
    (channel_cons (record { process = f.process; variable = f.variable; snapshot = q.0 }) s, rw (message_new m ms) q.1)

-- ---- memories

pub proper_fill : {S : Shape} {es ms : List Message} {z : ℕ → ℕ} → FillChannel es ms → Proper S (memory_of es z) → Proper S (memory_of ms z)
proper_fill r g =
    record {
      low = g.low;
      high = λ p e. omega (arith, g.high p e, channel_length r);
      process = λ i a b. rw (← (channel_at r i).process) (g.process i a (omega (arith, channel_length r)));
      variable = λ i a b. rw (← (channel_at r i).variable) (g.variable i a (omega (arith, channel_length r)));
    }

-- a filling fits, if its messages do
pub memory_fill : {Val Val' : ℕ → ℕ → Type 0} {S : Shape} {m : Memory} {ms : List Message} → MemoryIn Val S m → FillChannel m.channel ms
    → ((i : ℕ) → 1 ≤ i → i ≤ length ms → MessageIn Val' S (message ms i)) → MemoryIn Val' S (memory_of ms m.pointer)
memory_fill o r f =
    record {
      some = omega (arith, o.some, channel_length r);
      low = o.low;
      high = λ p e. omega (arith, o.high p e, channel_length r);
      messages = f;
      absent = o.absent;
    }

-- ---- a filling of any entry: 0 at each FF

abbrev zeroed : ℕ → ℕ
zeroed x = cond (eqb x FF) 0 x

abbrev pub zero_message : Message → Message
zero_message m = record { process = m.process; variable = m.variable; snapshot = map zeroed m.snapshot }

fill_zero : (x : ℕ) → Fill x (zeroed x)
fill_zero x = elim (ℕ_discrete x FF) [ yes e ↦ inl e | no e ↦ rw (ne_eqb x FF e) (inr refl) ]

pub fill_zeros : (xs : List ℕ) → FillValues xs (map zeroed xs)
fill_zeros [] = values_nil
fill_zeros (x ∷ xs) = values_cons (fill_zero x) (fill_zeros xs)

pub channel_zero : (ms : List Message) → FillChannel ms (map zero_message ms)
channel_zero [] = channel_nil
channel_zero (m ∷ ms) = channel_cons (record { process = refl; variable = refl; snapshot = fill_zeros m.snapshot }) (channel_zero ms)

pub zero_message_lem : (ms : List Message) (i : ℕ) → message (map zero_message ms) i ≡ zero_message (message ms i)
zero_message_lem [] i = refl
zero_message_lem (m ∷ ms) i = elim (ℕ_discrete i (suc (length ms))) [
  | yes e ↦ rw (length-map ms zero_message, eq-eqb i (suc (length ms)) e)
  | no e ↦ rw (length-map ms zero_message, ne_eqb i (suc (length ms)) e) (zero_message_lem ms i)
]

module _ (S : Shape) (R : WellFormedShape S) where
  value_zero : (v x : ℕ) → v < S.variables → ValueOrFF S v x → zeroed x < S.values v
  value_zero v x ve o = elim (ℕ_discrete x FF) [
    | yes e ↦ rw (eq-eqb x FF e) (R.some_value v ve)
    | no e ↦ rw (ne_eqb x FF e) (⊎_elim (λ q. absurd (e q)) (λ q. q) o)
  ]

  all_zero_lem : (v : ℕ) → v < S.variables → (xs : List ℕ) → All (ValueOrFF S v) xs → All (ValueOf S v) (map zeroed xs)
  all_zero_lem v ve [] a = tt
  all_zero_lem v ve (x ∷ xs) a = (value_zero v x ve a.0, all_zero_lem v ve xs a.1)

  pub message_zero : (m : Message) → MessageIn (ValueOrFF S) S m → MessageIn (ValueOf S) S (zero_message m)
  message_zero m o =
      record {
        process = o.process;
        variable = o.variable;
        room = length-map m.snapshot zeroed ∙ o.room;
        values = λ v ve. rw (get_or-map zeroed m.snapshot v 0) (value_zero v (get_or m.snapshot v 0) ve (o.values v ve));
        absent = λ v l. get_or-map zeroed m.snapshot v 0 ∙ ap zeroed (o.absent v l);
      }

  pub some_filling : (e : Configuration) → Fits (ValueOrFF S) S e → Filling S e (λ p v. map zeroed (e.queue p v)) (map zero_message e.memory.channel)
  some_filling e o =
      record {
        queues = λ p v a b. fill_zeros (e.queue p v);
        channel = channel_zero e.memory.channel;
        fits =
            record {
              memory = memory_fill o.memory (channel_zero e.memory.channel) (λ i a b. rw (zero_message_lem e.memory.channel i)
                  (message_zero (message e.memory.channel i) (o.memory.messages i a (omega (arith, length-map e.memory.channel zero_message)))));
              queues =
                  record {
                    values = λ p v a b. all_zero_lem v b (e.queue p v) (o.queues.values p v a b);
                    absent = λ p v l. ap (map zeroed) (o.queues.absent p v l);
                  };
            };
      }
