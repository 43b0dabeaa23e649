-- T1 with FFs: to be above an entry is to be matched with it. An entry that covers a cube has every filling of it above; one that may
-- not meet it has none.
use Prim.Native.Nat.{ℕ, suc, ◌<◌, ◌≤◌, max}
use mathlib.Core.Path.{◌≡◌, refl, sym, ap, subst, ◌∙◌, fun_ext}
use mathlib.Core.Logic.{◌⊎◌, ⊎_elim, ◌↔◌}
use mathlib.Core.Bool.{Bool, true, false, cond, not}
use mathlib.Core.Option.{Option, none, some}
use mathlib.Core.List
use mathlib.Core.List.{List, [], ◌∷◌, map, Sublistᴰ}
use native.Mathlib.Omega.{arith}
use native.Mathlib.Decide.{dec_le, dec_lt}
use lib.ListN.{length, length-map}
use lib.Dec.{T, eqb, not_T}
use Rattle.machine_pws.specs.declared.Message.{Message}
use Rattle.machine_pws.specs.Program.{Shape, WellFormedShape}
use Rattle.machine_pws.specs.Machine.{Memory, Configuration, message, last_labelled, newest_waiting}
use Rattle.machine_pws.specs.Configurations.{MessageIn, Fits, ValueOf}
use Rattle.machine_pws.specs.Order.{Live, Maps, QueueBelow}
use Rattle.machine_pws.specs.Entries.{ValueOrFF, Fill, FillValues, values_nil, values_cons, FillChannel, channel_nil, channel_cons, filled, Filling, Above}
use Rattle.machine_pws.specs.Tagged.{table, roles, is_live_at, Tagged, tagged_from, tagged}
use Rattle.machine_pws.proofs.Facts.{message_old, proper}
use Rattle.machine_pws.proofs.Queues.{Queued, queue_of_lem, all_below}
use Rattle.machine_pws.proofs.Queues as Q
use Rattle.machine_pws.proofs.Preorder.{maps_refl, queue_refl}
use Rattle.machine_pws.proofs.Tagged.{dec_live, live_yes, maps_tagged}
use Rattle.list_theory.specs.Cubes.{memory_of}
use Rattle.list_theory.specs.Values.{fills, alike}
use Rattle.list_theory.specs.Matching.{Subsequence, nothing, skip, keep, ends, Match}
use Rattle.list_theory.proofs.Fillings.{fills_yes, yes_fills, fill_alike, fill_trans, channel_length, channel_last, proper_fill, memory_fill, zero_message, channel_zero, zero_message_lem, message_zero}
use Rattle.list_theory.proofs.Matching.{sub_cases, sub_empty, Pointwise, none_left, one_more, pointwise_map, SameTag, Related, tag_match, OneForOne, one_flip, match_change}

-- ---- a filling that is below, whatever its values

pub record FilledMemory (S : Shape) (e n : Memory) : Type 0 where
  pub channel : List Message
  pub fill : FillChannel e.channel channel
  pub h : ℕ → ℕ
  pub maps : Maps S (memory_of channel e.pointer) n h

-- above an entry, but for local states and the range of values
pub record Over (S : Shape) (eq : ℕ → ℕ → List ℕ) (em : Memory) (cq : ℕ → ℕ → List ℕ) (cm : Memory) : Type 0 where
  pub queues : ℕ → ℕ → List ℕ
  pub fill : (p v : ℕ) → p < S.processes → v < S.variables → FillValues (eq p v) (queues p v)
  pub below : (p v : ℕ) → p < S.processes → v < S.variables → QueueBelow (queues p v) (cq p v)
  pub memory : FilledMemory S em cm

-- a filling is over its cube
pub over_refl : {S : Shape} {eq : ℕ → ℕ → List ℕ} {em : Memory} (qs : ℕ → ℕ → List ℕ) (ms : List Message)
    → ((p v : ℕ) → p < S.processes → v < S.variables → FillValues (eq p v) (qs p v))
    → FillChannel em.channel ms → Over S eq em qs (memory_of ms em.pointer)
over_refl {S} {em = em} qs ms f r =
    record { queues = qs; fill = f; below = λ p v a b. queue_refl (qs p v); memory = record { channel = ms; fill = r; h = λ i. i; maps = maps_refl S (memory_of ms em.pointer) } }

pub over_above : {S : Shape} {e c : Configuration} → Above S e c → Over S e.queue e.memory c.queue c.memory
over_above A = record { queues = A.queues; fill = A.filling.queues; below = A.below.queues; memory = record { channel = A.channel; fill = A.filling.channel; h = A.below.h; maps = A.below.maps } }

-- ---- a filling is one for one with its cube

values_one : {xs ys : List ℕ} → FillValues xs ys → Pointwise Fill xs ys
values_one values_nil = none_left
values_one (values_cons f r) = one_more f (values_one r)

-- pointers and LastWrites are the cube's, and so are roles
roles_fill : (S : Shape) (z : ℕ → ℕ) {es ms : List Message} → FillChannel es ms → roles S (memory_of es z) ≡ roles S (memory_of ms z)
roles_fill S z {es} {ms} f =
    let e : ◌≡◌ {A = ℕ → ℕ → ℕ} (λ p v. last_labelled es p v) (λ p v. last_labelled ms p v) = fun_ext (λ p. fun_ext (λ v. channel_last f p v)) in
    ap {B = ℕ → List (List Bool)} (λ (g : ℕ → ℕ → ℕ) (i : ℕ). table S.processes (λ p. eqb (z p) i ∷ table S.variables (λ v. eqb (max (z p) (g p v)) i))) e

-- the tagged messages of a channel depend on pointers and roles
tagged_same : (S : Shape) (z : ℕ → ℕ) (ks ns xs : List Message) → roles S (memory_of ks z) ≡ roles S (memory_of ns z)
    → tagged_from S (memory_of ks z) xs ≡ tagged_from S (memory_of ns z) xs
tagged_same S z ks ns [] e = refl
tagged_same S z ks ns (x ∷ xs) e =
    let m : Memory = memory_of ks z in
    λ i. cond (is_live_at S m (suc (length xs))) (record { message = x; roles = e i (suc (length xs)) } ∷ tagged_same S z ks ns xs e i) []

tagged_fill : (S : Shape) (m : Memory) {es ms : List Message} → FillChannel es ms → Pointwise (SameTag Fill) (tagged_from S m es) (tagged_from S m ms)
tagged_fill S m channel_nil = none_left
tagged_fill S m (channel_cons {e = x} {m = y} {es = es} {ms = ms} f r) = rw (channel_length r) (go (is_live_at S m (suc (length ms))) (tagged_fill S m r))
  where
    go : (b : Bool) → Pointwise (SameTag Fill) (tagged_from S m es) (tagged_from S m ms)
        → Pointwise (SameTag Fill) (cond b (record { message = x; roles = roles S m (suc (length ms)) } ∷ tagged_from S m es) [])
        (cond b (record { message = y; roles = roles S m (suc (length ms)) } ∷ tagged_from S m ms) [])
    go true q = one_more (record { roles = refl; process = f.process; variable = f.variable; values = values_one f.snapshot }) q
    go false q = none_left

module _ (S : Shape) (c : Configuration) (qs : ℕ → ℕ → List ℕ) (ms : List Message) where
  -- this needs no value in range
  fill_one : ((p v : ℕ) → p < S.processes → v < S.variables → FillValues (c.queue p v) (qs p v)) → FillChannel c.memory.channel ms → OneForOne S Fill c (filled c qs ms)
  fill_one f r =
      record {
        states = λ p a. refl;
        queues = λ p v a b. values_one (f p v a b);
        channel = subst (Pointwise (SameTag Fill) (tagged S c.memory))
            (tagged_same S c.memory.pointer c.memory.channel ms ms (roles_fill S c.memory.pointer r)) (tagged_fill S c.memory r);
      }

  pub filling_one : Filling S c qs ms → OneForOne S Fill c (filled c qs ms)
  filling_one F = fill_one F.queues F.channel

-- ---- above is matching

sub_left : {A : Type 0} {R : A → A → Bool} {g : A → A → Type 0} → ((x y : A) → g x y → T (R x y)) → {xs ys zs : List A} → Pointwise g xs ys → Sublistᴰ ys zs → Subsequence R xs zs
sub_left f none_left List.Sublistᴰ.slnil = nothing
sub_left f q (List.Sublistᴰ.cons s) = skip (sub_left f q s)
sub_left {R = R} f (one_more {a = x} {b = y} w q) (List.Sublistᴰ.cons-cons e s) = keep (subst (λ z. T (R x z)) e (f x y w)) (sub_left f q s)

match_values : {xs ys : List ℕ} → Pointwise (Related fills) xs ys → FillValues xs ys
match_values none_left = values_nil
match_values (one_more {a = a} {b = b} t q) = values_cons (fills_yes a b t) (match_values q)

ends_match : {xs ys : List ℕ} → Pointwise Fill xs ys → T (ends fills (newest_waiting xs) (newest_waiting ys))
ends_match none_left = tt
ends_match (one_more {a = a} {b = b} f none_left) = yes_fills a b f
ends_match (one_more f (one_more g q)) = ends_match (one_more g q)

-- a queue that is matched has a filling below
ends_only : (x y : ℕ) (ys : List ℕ) → T (ends fills (some x) (newest_waiting (y ∷ ys))) → (b : ℕ) × Fill x b × Queued (b ∷ []) (y ∷ ys)
ends_only x y [] t = (y, fills_yes x y t, Q.keep refl Q.nothing)
ends_only x y (z ∷ zs) t = let r = ends_only x z zs t in (r.0, r.1, Q.skip r.2)

abbrev FilledQueue : List ℕ → List ℕ → Type 0
FilledQueue xs ys = (bs : List ℕ) × FillValues xs bs × Queued bs ys

no_end : (y : ℕ) (ys : List ℕ) → T (ends fills none (newest_waiting (y ∷ ys))) → ⊥
no_end y [] t = t
no_end y (z ∷ zs) t = no_end z zs t

filled_queue : (ys xs : List ℕ) → Subsequence fills xs ys → T (ends fills (newest_waiting xs) (newest_waiting ys)) → FilledQueue xs ys
filled_queue [] [] s t = ([], values_nil, Q.nothing)
filled_queue (y ∷ ys) [] s t = absurd (no_end y ys t)
filled_queue [] (x ∷ xs) s t = absurd (sub_empty fills s)
filled_queue (y ∷ ys) (x ∷ []) s t = let r = ends_only x y ys t in (r.0 ∷ [], values_cons r.1 values_nil, r.2)
filled_queue (y ∷ []) (x ∷ x' ∷ xs) s t = absurd (⊎_elim (sub_empty fills) (λ r. sub_empty fills r.1) (sub_cases fills s))
filled_queue (y ∷ y' ∷ ys) (x ∷ x' ∷ xs) s t = ⊎_elim
    (λ q. more (filled_queue (y' ∷ ys) (x ∷ x' ∷ xs) q t))
    (λ q. let r = filled_queue (y' ∷ ys) (x' ∷ xs) q.1 t in (y ∷ r.0, values_cons (fills_yes x y q.0) r.1, Q.keep refl r.2))
    (sub_cases fills s)
  where
    skipped : {a b : ℕ} {xs ys bs : List ℕ} → FillValues (a ∷ xs) bs → Queued bs ys → FilledQueue (a ∷ xs) (b ∷ ys)
    skipped (values_cons {b = c} {ys = bs} f r) q = (c ∷ bs, values_cons f r, Q.skip q)

    more : FilledQueue (x ∷ x' ∷ xs) (y' ∷ ys) → FilledQueue (x ∷ x' ∷ xs) (y ∷ y' ∷ ys)
    more r = skipped r.1 r.2

-- what a subsequence picks
picked : {A : Type 0} {R : A → A → Bool} {xs ys : List A} → Subsequence R xs ys → (zs : List A) × Pointwise (λ x z. T (R x z)) xs zs × Sublistᴰ zs ys
picked nothing = ([], none_left, List.Sublistᴰ.slnil)
picked (skip s) = let r = picked s in (r.0, r.1, List.Sublistᴰ.cons r.2)
picked (keep {y = y} t s) = let r = picked s in (y ∷ r.0, one_more t r.1, List.Sublistᴰ.cons-cons refl r.2)

module _ (S : Shape) (R : WellFormedShape S) (m : Memory) where
  -- a filling whose tagged messages are these; messages older than the lowest pointer are filled with 0
  record FilledChannel (es : List Message) (ys : List Tagged) : Type 0 where
    channel : List Message
    fill : FillChannel es channel
    is : tagged_from S m channel ≡ ys
    dead : (i : ℕ) → 1 ≤ i → i ≤ length channel → T (not (is_live_at S m i)) → MessageIn (ValueOf S) S (message channel i)

  abbrev Fitting : List Message → Type 0
  Fitting es = (i : ℕ) → 1 ≤ i → i ≤ length es → MessageIn (ValueOrFF S) S (message es i)

  filled_cons : (x : Message) (es : List Message) → Fitting (x ∷ es) → ((ys : List Tagged) → Pointwise (SameTag (Related fills)) (tagged_from S m es) ys → FilledChannel es ys)
      → (b : Bool) → is_live_at S m (suc (length es)) ≡ b → {ys : List Tagged}
      → Pointwise (SameTag (Related fills)) (cond b (record { message = x; roles = roles S m (suc (length es)) } ∷ tagged_from S m es) []) ys → FilledChannel (x ∷ es) ys
  filled_cons x es o ih true e (one_more {b = y} {ys = ys} w q) =
      let r = ih ys q in
      record {
        channel = y.message ∷ r.channel;
        fill = channel_cons (record { process = w.process; variable = w.variable; snapshot = match_values w.values }) r.fill;
        is = rw (← (channel_length r.fill), e) (λ i. record { message = y.message; roles = w.roles i } ∷ r.is i);
        dead = λ i a b t. elim (dec_le i (length r.channel)) [
          | yes c ↦ rw (message_old y.message r.channel i c) (r.dead i a c t)
          | no c ↦ let k : i ≡ suc (length es) = omega (arith, channel_length r.fill) in absurd (subst (λ (b : Bool). T (not b)) (ap (is_live_at S m) k ∙ e) t)
        ];
      }
  filled_cons x es o ih false e none_left =
      record {
        channel = map zero_message (x ∷ es);
        fill = channel_zero (x ∷ es);
        is = rw (length-map es zero_message, e);
        dead = λ i a b t. rw (zero_message_lem (x ∷ es) i) (message_zero S R (message (x ∷ es) i) (o i a (omega (arith, length-map (x ∷ es) zero_message))));
      }

  filled_channel : (es : List Message) (ys : List Tagged) → Fitting es → Pointwise (SameTag (Related fills)) (tagged_from S m es) ys → FilledChannel es ys
  filled_channel [] ys o none_left = record { channel = []; fill = channel_nil; is = refl; dead = λ i a b t. absurd (omega arith) }
  filled_channel (x ∷ es) ys o q =
      filled_cons x es o (λ zs. filled_channel es zs (λ i a b. rw (← (message_old x es i b)) (o i a (omega arith)))) (is_live_at S m (suc (length es))) refl q

module _ (S : Shape) (R : WellFormedShape S) (e d : Configuration) (oe : Fits (ValueOrFF S) S e) (od : Fits (ValueOf S) S d) where
  over_match : ((p : ℕ) → p < S.processes → e.state p ≡ d.state p) → Over S e.queue e.memory d.queue d.memory → Match S fills e d
  over_match s O =
      let M = O.memory in
      let o = fill_one S e O.queues M.channel O.fill M.fill in
      record {
        states = s;
        queues = λ p v a b.
            record {
              subsequence = sub_left yes_fills (o.queues p v a b) (O.below p v a b).subsequence;
              end = subst (λ (w : Option ℕ). T (ends fills (newest_waiting (e.queue p v)) w)) (O.below p v a b).end (ends_match (o.queues p v a b));
            };
        channel = sub_left (λ x y w. (tag_match fills x y).1 (record { roles = w.roles; process = w.process; variable = w.variable; values = pointwise_map yes_fills w.values })) o.channel
            ((maps_tagged S (memory_of M.channel e.memory.pointer) d.memory (proper_fill M.fill (proper oe.memory)) (proper od.memory)).0 (M.h, M.maps));
      }

  module _ (M : Match S fills e d) where
    chosen : (p v : ℕ) → Dec (p < S.processes) → Dec (v < S.variables) → List ℕ
    chosen p v (yes a) (yes b) = (filled_queue (d.queue p v) (e.queue p v) (M.queues p v a b).subsequence (M.queues p v a b).end).0
    chosen p v (yes a) (no b) = []
    chosen p v (no a) b = []

    chosen_is : (p v : ℕ) (a : Dec (p < S.processes)) (b : Dec (v < S.variables)) → p < S.processes → v < S.variables
        → FillValues (e.queue p v) (chosen p v a b) × Queued (chosen p v a b) (d.queue p v)
    unfolding chosen
    chosen_is p v (yes a) (yes b) x y = let r = filled_queue (d.queue p v) (e.queue p v) (M.queues p v a b).subsequence (M.queues p v a b).end in (r.1, r.2)
    chosen_is p v (yes a) (no b) x y = absurd (b y)
    chosen_is p v (no a) b x y = absurd (a x)

    chosen_absent : (p v : ℕ) (a : Dec (p < S.processes)) (b : Dec (v < S.variables)) → (S.processes ≤ p) ⊎ (S.variables ≤ v) → chosen p v a b ≡ []
    unfolding chosen
    chosen_absent p v (yes a) (yes b) w = absurd (⊎_elim (λ l. omega arith) (λ l. omega arith) w)
    chosen_absent p v (yes a) (no b) w = refl
    chosen_absent p v (no a) b w = refl

    abbrev qs : ℕ → ℕ → List ℕ
    qs p v = chosen p v (dec_lt p S.processes) (dec_lt v S.variables)

    is : (p v : ℕ) → p < S.processes → v < S.variables → FillValues (e.queue p v) (qs p v) × Queued (qs p v) (d.queue p v)
    is p v = chosen_is p v (dec_lt p S.processes) (dec_lt v S.variables)

    match_above : Above S e d
    match_above =
        let z = e.memory.pointer in
        let k = picked M.channel in
        let f = filled_channel S R e.memory e.memory.channel k.0 oe.memory.messages (pointwise_map (λ x y t. (tag_match fills x y).0 t) k.1) in
        let m : Memory = memory_of f.channel z in
        let s : Sublistᴰ (tagged S m) (tagged S d.memory) = subst (λ (w : List Tagged). Sublistᴰ w (tagged S d.memory))
        (sym f.is ∙ tagged_same S z e.memory.channel f.channel f.channel (roles_fill S z f.fill)) k.2 in
        let h = (maps_tagged S m d.memory (proper_fill f.fill (proper oe.memory)) (proper od.memory)).1 s in
        let live : (i : ℕ) → Live S m i → MessageIn (ValueOf S) S (message f.channel i) = λ i l.
        let k = h.1.lands i l in
        rw (h.1.equal i l) (od.memory.messages (h.0 i) (omega (arith, od.memory.low k.who k.exists, k.from)) k.upto) in
        record {
          queues = qs;
          channel = f.channel;
          filling =
              record {
                queues = λ p v a b. (is p v a b).0;
                channel = f.fill;
                fits =
                    record {
                      memory = memory_fill oe.memory f.fill (λ i a b. ⊎_elim (live i)
                          (λ n. f.dead i a b (not_T (is_live_at S e.memory i) (λ t. n (live_yes S m i b t)))) (dec_live S m i b));
                      queues =
                          record {
                            values = λ p v a b. all_below (ValueOf S v) (is p v a b).1 (od.queues.values p v a b);
                            absent = λ p v l. chosen_absent p v (dec_lt p S.processes) (dec_lt v S.variables) l;
                          };
                    };
              };
          below = record { states = M.states; queues = λ p v a b. queue_of_lem (is p v a b).1; h = h.0; maps = h.1 };
        }

  -- T1 with FFs
  pub above_match : Above S e d ↔ Match S fills e d
  above_match = (λ A. over_match A.below.states (over_above A), match_above)

  -- a filling below can be had with values in range
  pub above_over : ((p : ℕ) → p < S.processes → e.state p ≡ d.state p) → Over S e.queue e.memory d.queue d.memory → Above S e d
  above_over s O = match_above (over_match s O)

-- ---- section 6

module _ (S : Shape) (R : WellFormedShape S) (e c : Configuration) (oe : Fits (ValueOrFF S) S e) (qs : ℕ → ℕ → List ℕ) (ms : List Message) (F : Filling S c qs ms) where
  -- where the entry covers the cube, each filling of the cube is above it
  pub covers : Match S fills e c → Above S e (filled c qs ms)
  covers M = (above_match S R e (filled c qs ms) oe F.fits).1
      (match_change fills fills (λ a b c t f. yes_fills a c (fill_trans (fills_yes a b t) f)) M (filling_one S c qs ms F))

  -- where it may not meet it, none is
  pub meets : Above S e (filled c qs ms) → Match S alike e c
  meets A = match_change fills alike (λ a b c t f. fill_alike a c b (fills_yes a b t) f) ((above_match S R e (filled c qs ms) oe F.fits).0 A) (one_flip (filling_one S c qs ms F))
