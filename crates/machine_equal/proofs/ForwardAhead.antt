-- What a process of the PSO machine still has in its buffers of what its PWS counterpart has serialised past its pointer.
use Prim.Native.Nat.{ℕ, zero, suc, ◌<◌, ◌≤◌, max}
use mathlib.Core.Path.{◌≡◌, refl, sym, ap, ◌∙◌}
use mathlib.Core.Bool.{Bool, true, false, cond}
use mathlib.Core.Option.{Option}
use mathlib.Core.List.{List, [], ◌∷◌, ◌++◌, append_assoc, append-nil}
use native.Mathlib.Omega.{arith}
use native.Mathlib.Decide.{dec_le}
use lib.ListN.{length, get_or, replicate}
use Rattle.machine_pws.specs.declared.Message.{Message}
use Rattle.machine_pws.specs.Machine.{message, labelled, last_labelled, newest_waiting, newest_or}
use Rattle.machine_pws.proofs.Facts.{message_old, message_new, last_is}
use Rattle.machine_pso.specs.Machine.{Item, value, mark, newest_value}
use Rattle.machine_equal.proofs.Buffers.{values, newest_append, newest_values}

-- ---- marks

abbrev pub marks : ℕ → List Item
marks n = replicate n mark

marks_snoc : (n : ℕ) → marks n ++ (mark ∷ []) ≡ marks (suc n)
marks_snoc zero = refl
marks_snoc (suc n) = ap {B = List Item} (λ is. mark ∷ is) (marks_snoc n)

-- ---- what is ahead of the pointer

-- what m puts into p's buffer of v
abbrev pub own_item : ℕ → Message → ℕ → List Item
own_item p m v = cond (labelled m p v) (value (get_or m.snapshot v 0) ∷ []) []

-- p's buffers hold the values of the messages of ms past number k that carry p's label, and the marks of fences in between
pub data Ahead (p k : ℕ) : List Message → (ℕ → List Item) → Type 0 where
  here : {ms : List Message} → length ms ≡ k → Ahead p k ms (λ v. [])
  fence : {ms : List Message} {b : ℕ → List Item} → Ahead p k ms b → Ahead p k ms (λ v. b v ++ (mark ∷ []))
  next : {ms : List Message} {b : ℕ → List Item} (m : Message) → Ahead p k ms b → Ahead p k (m ∷ ms) (λ v. b v ++ own_item p m v)

pub ahead_high : {p k : ℕ} {ms : List Message} {b : ℕ → List Item} → Ahead p k ms b → k ≤ length ms
ahead_high (here e) = omega arith
ahead_high (fence a) = ahead_high a
ahead_high (next m a) = omega (arith, ahead_high a)

-- with the pointer at the newest message these are marks
pub ahead_none : {p k : ℕ} {ms : List Message} {b : ℕ → List Item} → Ahead p k ms b → length ms ≡ k → (n : ℕ) × ((v : ℕ) → b v ≡ marks n)
ahead_none (here e) l = (0, λ v. refl)
ahead_none (fence a) l = let r = ahead_none a l in (suc r.0, λ v. rw (r.1 v) (marks_snoc r.0))
ahead_none (next m a) l = absurd (omega (arith, ahead_high a))

-- else marks stand before what the next message puts there
pub record First (p k : ℕ) (ms : List Message) (b : ℕ → List Item) : Type 0 where
  pub count : ℕ
  pub rest : ℕ → List Item
  pub ahead : Ahead p (suc k) ms rest
  pub splits : (v : ℕ) → b v ≡ marks count ++ (own_item p (message ms (suc k)) v ++ rest v)

pub split_more : (is js ks ls b : List Item) → b ≡ is ++ (js ++ ks) → b ++ ls ≡ is ++ (js ++ (ks ++ ls))
split_more is js ks ls b e = rw e (append_assoc is (js ++ ks) ls ∙ ap (λ (l : List Item). is ++ l) (append_assoc js ks ls))

pub ahead_first : {p k : ℕ} {ms : List Message} {b : ℕ → List Item} → Ahead p k ms b → k < length ms → First p k ms b
ahead_first (here e) l = absurd (omega arith)
ahead_first {p} {k} {ms} (fence {b = b} a) l =
    let r = ahead_first a l in
    record {
      count = r.count;
      rest = λ v. r.rest v ++ (mark ∷ []);
      ahead = fence r.ahead;
      splits = λ v. split_more (marks r.count) (own_item p (message ms (suc k)) v) (r.rest v) (mark ∷ []) (b v) (r.splits v);
    }
ahead_first {p} {k} (next {ms = ms} {b = b} m a) l = elim (dec_le (suc k) (length ms)) [
  | yes h ↦
      let r = ahead_first a h in
      record {
        count = r.count;
        rest = λ v. r.rest v ++ own_item p m v;
        ahead = next m r.ahead;
        splits = λ v. rw (message_old m ms (suc k) h)
            (split_more (marks r.count) (own_item p (message ms (suc k)) v) (r.rest v) (own_item p m v) (b v) (r.splits v));
      }
  | no h ↦
      let e : length ms ≡ k = omega (arith, ahead_high a) in
      let r = ahead_none a e in
      record {
        count = r.0;
        rest = λ v. [];
        ahead = here (ap suc e);
        splits = λ v.
            let w : message (m ∷ ms) (suc k) ≡ m = ap (message (m ∷ ms)) (ap suc (sym e)) ∙ message_new m ms in
            ap (λ (is : List Item). is ++ own_item p m v) (r.1 v)
            ∙ ap (λ (is : List Item). marks r.0 ++ is) (sym (append-nil (own_item p m v)) ∙ ap (λ (x : Message). own_item p x v ++ []) (sym w));
      }
]

-- ---- the newest value there, or else the snapshot at the pointer, is what the snapshot at LastWrite has

module _ (p k v : ℕ) where
  abbrev reads : List Message → ℕ → ℕ
  reads ms i = get_or (message ms i).snapshot v 0

  pub ahead_reads : {ms : List Message} {b : ℕ → List Item} → Ahead p k ms b → newest_or (newest_value (b v)) (reads ms k) ≡ reads ms (max k (last_labelled ms p v))
  ahead_reads (here {ms = ms} e) =
      let r = last_is ms k p v (omega arith) in
      let z : max k (last_labelled ms p v) ≡ k = omega (arith, r.low, r.high) in
      ap (reads ms) (sym z)
  ahead_reads {ms} (fence {b = b} a) = newest_append (b v) (mark ∷ []) (reads ms k) ∙ ahead_reads a
  ahead_reads (next {ms = ms} {b = b} m a) = go (ahead_reads a) (labelled m p v)
    where
      go : newest_or (newest_value (b v)) (reads ms k) ≡ reads ms (max k (last_labelled ms p v)) → (t : Bool) → newest_or (newest_value (b v ++ cond t (value (get_or m.snapshot v 0) ∷ []) [])) (reads (m ∷ ms) k)
          ≡ reads (m ∷ ms) (max k (cond t (suc (length ms)) (last_labelled ms p v)))
      go h true =
          let z : max k (suc (length ms)) ≡ suc (length ms) = omega (arith, ahead_high a) in
          newest_append (b v) (value (get_or m.snapshot v 0) ∷ []) (reads (m ∷ ms) k) ∙ rw (z, message_new m ms)
      go h false =
          let l = ahead_high a in
          rw (append-nil (b v), message_old m ms k l, message_old m ms (max k (last_labelled ms p v)) (last_is ms k p v l).high) h

  -- with the waiting values behind them, it is what p reads
  pub ahead_sees : {ms : List Message} {b : ℕ → List Item} → Ahead p k ms b → (xs : List ℕ)
      → newest_or (newest_value (b v ++ values xs)) (reads ms k) ≡ newest_or (newest_waiting xs) (reads ms (max k (last_labelled ms p v)))
  ahead_sees {ms} {b} a xs =
      newest_append (b v) (values xs) (reads ms k) ∙ ap (λ (o : Option ℕ). newest_or o (newest_or (newest_value (b v)) (reads ms k))) (newest_values xs)
      ∙ ap (newest_or (newest_waiting xs)) (ahead_reads a)
