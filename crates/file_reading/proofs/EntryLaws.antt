-- Laws of the reading of an entry: its loop, and the counts that stand for it.
use Rattle.std.specs.Prelude.{Ok, Err}
use Prim.Native.Nat.{ℕ, zero, suc, ◌+◌, ◌*◌, ◌-◌, ◌<◌, ◌≤◌}
use mathlib.Core.Path.{◌≡◌, refl, sym, ap, ap₂, ◌∙◌}
use mathlib.Core.Logic.{◌⊎◌, inl, inr}
use mathlib.Core.Bool.{Bool, true, false, cond, ◌&&◌, ◌||◌, not}
use mathlib.Core.List.{List, [], ◌∷◌, ◌++◌}
use native.Mathlib.Omega.{arith}
use native.Mathlib.Decide.{ℕ_discrete}
use lib.ListN.{length, get_or, set, replicate, length-append, length-set, length-replicate, get_or-replicate}
use lib.Seq.{get_or-set_same, get_or-set_other}
use lib.Dec.{leb, ltb}
use borrow.Author.Tests.{lt-ltb, leb-false, ltb-true, not-false}
use Rattle.machine_pws.specs.Machine.{Configuration}
use Rattle.machine_pws.proofs.Facts.{put_queue_same, put_queue_other}
use Rattle.file_records.specs.declared.program.Shape.{Shape}
use Rattle.file_records.specs.declared.program.Refusal.{Refusal}
use Rattle.file_reading.specs.declared.list.Tally.{Tally}
use Rattle.base.specs.Bytes.{byte, cut}
use Rattle.file_records.specs.Records.{checked, is_kind, exists, pointer_at, message_number, message_names, waiting_number, waiting_names}
use Rattle.file_contents.specs.EvidencePart.{whole, bad, beginning, with_message, with_waiting, extended, body_size, body_number, complete, at_boundary, finished, entry_from, entry_read}
use Rattle.file_contents.specs.Tally.{queue_at}
use Rattle.file_reading.specs.Tally.{number_by, TallyRoom, tallied, Tallies}
use Rattle.file_records.proofs.RecordLaws.{Good, good}
use Rattle.base.proofs.ByteLaws.{cut_fits}
use Rattle.file_records.proofs.ProgramLaws.{and_true}

-- ---- the loop

module _ (s : Shape) (f : List ℕ) (start at : ℕ) (e : Configuration) where
  pub entry_ends : (bytes : ℕ) → at_boundary f at ≡ true → entry_from bytes s f start at e ≡ finished s start at e
  unfolding entry_from
  entry_ends zero b = refl
  entry_ends (suc bytes) b = rw b

  pub entry_next : (bytes : ℕ) → at_boundary f at ≡ false → checked (body_number s f at e) at ≡ Ok tt
      → entry_from (suc bytes) s f start at e ≡ entry_from bytes s f start (at + body_size f at) (extended f at e)
  unfolding entry_from
  entry_next bytes b d = rw (b, d)

  pub entry_stops : (bytes : ℕ) (r : Refusal) → at_boundary f at ≡ false → checked (body_number s f at e) at ≡ Err r
      → entry_from (suc bytes) s f start at e ≡ bad r
  unfolding entry_from
  entry_stops bytes r b d = rw (b, d)

  -- a record that is no boundary stands in the file
  pub inside : at_boundary f at ≡ false → at < length f
  unfolding at_boundary
  inside b = go (leb (length f) at) refl b
    where
      go : (x : Bool) → leb (length f) at ≡ x → (x || is_kind f at 16) ≡ false → at < length f
      go true d q = let z : ◌≡◌ {A = ℕ} 0 1 = cc in absurd (omega arith)
      go false d q = leb-false (length f) at d

-- ---- what a record that is fine says

pub data BodyKind (s : Shape) (f : List ℕ) (at : ℕ) (e : Configuration) : Type 0 where
  message : is_kind f at 17 ≡ true → Good false (cut f at 6) (leb 16 (length e.memory.channel)) false (not (message_names s f at)) → BodyKind s f at e
  waiting : is_kind f at 17 ≡ false
      → Good false (cut f at 3) (exists s (byte f (at + 1)) (byte f (at + 2)) && leb 8 (length (e.queue (byte f (at + 1)) (byte f (at + 2))))) false (not (waiting_names s f at))
      → BodyKind s f at e

module _ (s : Shape) (f : List ℕ) (at : ℕ) (e : Configuration) where
  pub body_fine : checked (body_number s f at e) at ≡ Ok tt → BodyKind s f at e
  unfolding body_number message_number waiting_number checked
  body_fine d = go (is_kind f at 17) refl (is_kind f at 18) d
    where
      two : checked 2 at ≡ Ok tt → ⊥
      two q = let z : ◌≡◌ {A = ℕ} 0 1 = cc in omega arith

      go : (a : Bool) → is_kind f at 17 ≡ a → (b : Bool)
          → checked (cond a (message_number s f at (length e.memory.channel)) (cond b (waiting_number s f at (length (e.queue (byte f (at + 1)) (byte f (at + 2))))) 2)) at ≡ Ok tt
          → BodyKind s f at e
      go true k b q = message k (good at q)
      go false k true q = waiting k (good at q)
      go false k false q = absurd (two q)

-- ---- the counts

exists_true : (s : Shape) (p v : ℕ) → exists s p v ≡ true → (p < s.processes) × (v < s.variables)
exists_true s p v e =
    let r = and_true (ltb p s.processes) (ltb v s.variables) e in
    (ltb-true p s.processes r.0, ltb-true v s.variables r.1)

exists_yes : (s : Shape) (p v : ℕ) → p < s.processes → v < s.variables → exists s p v ≡ true
exists_yes s p v a b = rw (lt-ltb p s.processes a, lt-ltb v s.variables b)

pub waiting_exists : (s : Shape) (f : List ℕ) (at : ℕ) → not (waiting_names s f at) ≡ false → (byte f (at + 1) < s.processes) × (byte f (at + 2) < s.variables)
unfolding waiting_names
waiting_exists s f at e = exists_true s (byte f (at + 1)) (byte f (at + 2)) (and_true (exists s (byte f (at + 1)) (byte f (at + 2))) _ (not-false _ e)).0

module _ (s : Shape) (few : s.processes ≤ 4) (small : s.variables ≤ 4) (f : List ℕ) (at : ℕ) (t : Tally) (e : Configuration) (T : Tallies t e) where
  waiting_same : (b : Bool) → exists s (byte f (at + 1)) (byte f (at + 2)) ≡ b
      → (b && leb 8 (get_or t.waiting (queue_at f at) 0)) ≡ (b && leb 8 (length (e.queue (byte f (at + 1)) (byte f (at + 2)))))
  waiting_same true d =
      let r = exists_true s (byte f (at + 1)) (byte f (at + 2)) d in
      ap (leb 8) (T.waiting (byte f (at + 1)) (byte f (at + 2)) (omega (arith, r.0)) (omega (arith, r.1)))
  waiting_same false d = refl

  -- the counts give the same number
  pub number_same : number_by s f at t ≡ body_number s f at e
  unfolding number_by body_number waiting_number
  number_same = rw (T.messages, waiting_same (exists s (byte f (at + 1)) (byte f (at + 2))) refl)

  module _ (d : checked (body_number s f at e) at ≡ Ok tt) where
    -- a waiting value has a place among the sixteen counts, and its queue is not full
    spot : BodyKind s f at e → is_kind f at 17 ≡ false → (byte f (at + 1) < 4) × (byte f (at + 2) < 4) × (length (e.queue (byte f (at + 1)) (byte f (at + 2))) < 8)
    spot (message k g) q = let z : ◌≡◌ {A = ℕ} 0 1 = cc in absurd (omega arith)
    spot (waiting k g) q =
        let r = waiting_exists s f at g.names in
        let x : exists s (byte f (at + 1)) (byte f (at + 2)) ≡ true = exists_yes s (byte f (at + 1)) (byte f (at + 2)) r.0 r.1 in
        let y : leb 8 (length (e.queue (byte f (at + 1)) (byte f (at + 2)))) ≡ false = rw x at g.room in
        (omega (arith, r.0), omega (arith, r.1), leb-false 8 (length (e.queue (byte f (at + 1)) (byte f (at + 2)))) y)

    full : BodyKind s f at e → is_kind f at 17 ≡ true → length e.memory.channel < 16
    full (message k g) q = leb-false 16 (length e.memory.channel) g.room
    full (waiting k g) q = let z : ◌≡◌ {A = ℕ} 0 1 = cc in absurd (omega arith)

    -- one record more can be counted
    pub room : TallyRoom f at t
    room =
        let b = body_fine s f at e d in
        record {
          messages = λ q. omega (arith, T.messages, full b q);
          place = λ q. let r = spot b q in omega (arith, r.0, r.1);
          waiting = λ q. let r = spot b q in omega (arith, r.2, T.waiting (byte f (at + 1)) (byte f (at + 2)) r.0 r.1);
        }

    more : (b : Bool) → is_kind f at 17 ≡ b
        → Tallies (cond b (record { messages = t.messages + 1; waiting = t.waiting })
        (record { messages = t.messages; waiting = set t.waiting (queue_at f at) (get_or t.waiting (queue_at f at) 0 + 1) }))
        (cond b (with_message f at e) (with_waiting f at e))
    more true k = record { room = T.room; messages = omega (arith, T.messages); waiting = T.waiting }
    more false k =
        let r = spot (body_fine s f at e d) k in
        let p = byte f (at + 1) in
        let v = byte f (at + 2) in
        let xs = e.queue p v ++ (byte f (at + 3) ∷ []) in
        record {
          room = length-set t.waiting (queue_at f at) (get_or t.waiting (queue_at f at) 0 + 1) ∙ T.room;
          messages = T.messages;
          waiting = λ q u a b. elim (ℕ_discrete (4 * q + u) (4 * p + v)) [
            | yes i ↦
                let i₁ : q ≡ p = omega (arith, r.1) in
                let i₂ : u ≡ v = omega arith in
                rw (i₁, i₂, get_or-set_same t.waiting (4 * p + v) (get_or t.waiting (4 * p + v) 0 + 1) 0 (omega (arith, T.room, r.0, r.1)), put_queue_same e.queue p v xs, length-append (e.queue p v) (byte f (at + 3) ∷ []))
                (omega (arith, T.waiting p v r.0 r.1))
            | no i ↦
                rw (get_or-set_other t.waiting (4 * p + v) (4 * q + u) (get_or t.waiting (4 * p + v) 0 + 1) 0 i, put_queue_other e.queue p v xs q u (λ n. i (omega (arith, n.0, n.1))))
                (T.waiting q u a b)
          ];
        }

    -- the counts with the record are those of the entry with it
    pub tallies_next : Tallies (tallied f at t) (extended f at e)
    unfolding tallied extended
    tallies_next = more (is_kind f at 17) refl

-- ---- what the loop knows

size_cases : (f : List ℕ) (at : ℕ) → ((is_kind f at 17 ≡ true) × (body_size f at ≡ 7)) ⊎ ((is_kind f at 17 ≡ false) × (body_size f at ≡ 4))
unfolding body_size
size_cases f at = go (is_kind f at 17) refl
  where
    go : (b : Bool) → is_kind f at 17 ≡ b → ((is_kind f at 17 ≡ true) × (◌≡◌ {A = ℕ} (cond b 7 4) 7)) ⊎ ((is_kind f at 17 ≡ false) × (◌≡◌ {A = ℕ} (cond b 7 4) 4))
    go true d = inl (d, refl)
    go false d = inr (d, refl)

-- a record that is fine ends in the file
pub body_fits : (s : Shape) (f : List ℕ) (at : ℕ) (e : Configuration) → checked (body_number s f at e) at ≡ Ok tt → (at + body_size f at ≤ length f) × (4 ≤ body_size f at)
body_fits s f at e d = go (body_fine s f at e d) (size_cases f at)
  where
    go : BodyKind s f at e → ((is_kind f at 17 ≡ true) × (body_size f at ≡ 7)) ⊎ ((is_kind f at 17 ≡ false) × (body_size f at ≡ 4)) → (at + body_size f at ≤ length f) × (4 ≤ body_size f at)
    go (message k g) (inl r) = (omega (arith, r.1, cut_fits f at 6 g.whole), omega (arith, r.1))
    go (message k g) (inr r) = let z : ◌≡◌ {A = ℕ} 0 1 = cc in absurd (omega arith)
    go (waiting k g) (inl r) = let z : ◌≡◌ {A = ℕ} 0 1 = cc in absurd (omega arith)
    go (waiting k g) (inr r) = (omega (arith, r.1, cut_fits f at 3 g.whole), omega (arith, r.1))

extended_pointers : (f : List ℕ) (at : ℕ) (e : Configuration) → (extended f at e).memory.pointer ≡ e.memory.pointer
unfolding extended
extended_pointers f at e = go (is_kind f at 17)
  where
    go : (b : Bool) → (cond {A = Configuration} b (with_message f at e) (with_waiting f at e)).memory.pointer ≡ e.memory.pointer
    go true = refl
    go false = refl

-- the counts are those of what was read of the entry, and the rest is still to be read
pub record Sofar (s : Shape) (f : List ℕ) (start : ℕ) (t : Tally) (k : ℕ) : Type 0 where
  pub entry : Configuration
  pub bytes : ℕ
  pub tallies : Tallies t entry
  pub pointers : entry.memory.pointer ≡ pointer_at f start
  pub reads : entry_from bytes s f start k entry ≡ entry_read s f start
  pub enough : length f ≤ bytes + k
  pub upto : k ≤ length f

zeros_at : (i : ℕ) → i < 16 → ◌≡◌ {A = ℕ} (get_or (replicate 16 0) i 0) 0
zeros_at i l = get_or-replicate 16 i 0 0 l

pub sofar_begin : (s : Shape) (f : List ℕ) (start : ℕ) → start + 9 ≤ length f → Sofar s f start (record { messages = 0; waiting = replicate 16 0 }) (start + 9)
unfolding entry_read
sofar_begin s f start l =
    record {
      entry = beginning f start;
      bytes = length f;
      tallies = record { room = length-replicate {A = ℕ} 16 0; messages = refl; waiting = λ p v a b. zeros_at (4 * p + v) (omega arith) };
      pointers = refl;
      reads = refl;
      enough = omega arith;
      upto = l;
    }

pred_of : (n : ℕ) → 1 ≤ n → n ≡ suc (n - 1)
pred_of n l = omega arith

module _ (s : Shape) (few : s.processes ≤ 4) (small : s.variables ≤ 4) (f : List ℕ) (start : ℕ) (t : Tally) (k : ℕ) (F : Sofar s f start t k) where
  number_is : number_by s f k t ≡ body_number s f k F.entry
  number_is = number_same s few small f k t F.entry F.tallies

  some_bytes : at_boundary f k ≡ false → F.bytes ≡ suc (F.bytes - 1)
  some_bytes b = pred_of F.bytes (omega (arith, inside s f start k F.entry b, F.enough))

  module _ (b : at_boundary f k ≡ false) (d : checked (number_by s f k t) k ≡ Ok tt) where
    fine : checked (body_number s f k F.entry) k ≡ Ok tt
    fine = ap (λ (n : ℕ). checked n k) (sym number_is) ∙ d

    pub sofar_room : TallyRoom f k t
    sofar_room = room s few small f k t F.entry F.tallies fine

    pub sofar_fits : (k + body_size f k ≤ length f) × (4 ≤ body_size f k)
    sofar_fits = body_fits s f k F.entry fine

    pub sofar_next : Sofar s f start (tallied f k t) (k + body_size f k)
    sofar_next =
        record {
          entry = extended f k F.entry;
          bytes = F.bytes - 1;
          tallies = tallies_next s few small f k t F.entry F.tallies fine;
          pointers = extended_pointers f k F.entry ∙ F.pointers;
          reads = sym (entry_next s f start k F.entry (F.bytes - 1) b fine) ∙ ap (λ (n : ℕ). entry_from n s f start k F.entry) (sym (some_bytes b)) ∙ F.reads;
          enough = omega (arith, some_bytes b, F.enough, sofar_fits.1);
          upto = sofar_fits.0;
        }

  pub sofar_stops : (r : Refusal) → at_boundary f k ≡ false → checked (number_by s f k t) k ≡ Err r → entry_read s f start ≡ bad r
  sofar_stops r b d =
      sym F.reads ∙ ap (λ (n : ℕ). entry_from n s f start k F.entry) (some_bytes b)
      ∙ entry_stops s f start k F.entry (F.bytes - 1) r b (ap (λ (n : ℕ). checked n k) (sym number_is) ∙ d)

  pub sofar_ends : at_boundary f k ≡ true
      → entry_read s f start ≡ cond (complete s t.messages (pointer_at f start)) (whole F.entry k) (bad (record { number = 7; place = start }))
  unfolding finished
  sofar_ends b =
      sym F.reads ∙ entry_ends s f start k F.entry F.bytes b
      ∙ ap₂ (λ (n : ℕ) (z : ℕ → ℕ). cond (complete s n z) (whole F.entry k) (bad (record { number = 7; place = start }))) (sym F.tallies.messages) F.pointers
