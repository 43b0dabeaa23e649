-- Laws of the reading of entries and of the list of their offsets.
use Rattle.std.specs.Prelude.{Result, Ok, Err, ⊤}
use Prim.Native.Nat.{ℕ, zero, suc, ◌+◌, ◌*◌, ◌-◌, ◌<◌, ◌≤◌}
use mathlib.Core.Path.{◌≡◌, refl, sym, ap, ap₂, ◌∙◌}
use mathlib.Core.Bool.{Bool, true, false, cond}
use mathlib.Core.List.{List, [], ◌∷◌, ◌++◌}
use native.Mathlib.Omega.{arith}
use native.Mathlib.Decide.{dec_lt}
use lib.ListN.{length, length-append}
use lib.Dec.{leb}
use borrow.Author.Tests.{leb-false, le-leb, lt-leb}
use Rattle.machine_pws.specs.Machine.{Configuration}
use Rattle.file_records.specs.declared.program.Shape.{Shape}
use Rattle.file_records.specs.declared.program.Refusal.{Refusal}
use Rattle.base.specs.Bytes.{choose, put32}
use Rattle.file_records.specs.Records.{checked, entry_number}
use Rattle.file_contents.specs.EvidencePart.{EntryRead, whole, bad, complete, at_boundary, finished, body_number, body_size, body_then, extended, entry_from, entry_read, stop_at, entries_from, wrote_from}
use Rattle.file_reading.specs.Tally.{end_of}
use Rattle.base.proofs.ByteLaws.{put32_length}
use Rattle.file_records.proofs.RecordLaws.{entry_fine}

-- ---- an entry ends past its 10

whole_same : {e d : Configuration} {m n : ℕ} → whole e m ≡ whole d n → m ≡ n
whole_same q = cc

whole_bad : {e : Configuration} {n : ℕ} {r : Refusal} → bad r ≡ whole e n → ⊥
whole_bad q = let z : ◌≡◌ {A = ℕ} 0 1 = cc in omega arith

finish_next : (s : Shape) (start at : ℕ) (e d : Configuration) (next : ℕ) → finished s start at e ≡ whole d next → at ≤ next
unfolding finished
finish_next s start at e d next q = go (complete s (length e.memory.channel) e.memory.pointer) q
  where
    go : (b : Bool) → cond b (whole e at) (bad (record { number = 7; place = start })) ≡ whole d next → at ≤ next
    go true q = omega (arith, whole_same q)
    go false q = absurd (whole_bad q)

from_next : (bytes : ℕ) (s : Shape) (f : List ℕ) (start at : ℕ) (e d : Configuration) (next : ℕ) → entry_from bytes s f start at e ≡ whole d next → at ≤ next
unfolding entry_from
from_next zero s f start at e d next q = finish_next s start at e d next q
from_next (suc bytes) s f start at e d next q =
    go (from_next bytes s f start (at + body_size f at) (extended f at e) d next) (at_boundary f at) (checked (body_number s f at e) at) q
  where
    go : (entry_from bytes s f start (at + body_size f at) (extended f at e) ≡ whole d next → at + body_size f at ≤ next) → (b : Bool) (x : Result ⊤ Refusal)
        → choose b (λ _. finished s start at e) (λ _. body_then x (λ _. entry_from bytes s f start (at + body_size f at) (extended f at e))) ≡ whole d next → at ≤ next
    go ih true x q = finish_next s start at e d next q
    go ih false (Ok _) q = omega (arith, ih q)
    go ih false (Err r) q = absurd (whole_bad q)

pub entry_past : (s : Shape) (f : List ℕ) (start : ℕ) (e : Configuration) (next : ℕ) → entry_read s f start ≡ whole e next → start + 9 ≤ next
unfolding entry_read
entry_past s f start e next q = from_next (length f) s f start (start + 9) _ e next q

pub end_whole : (x : EntryRead) (n : ℕ) → end_of x ≡ Ok n → (e : Configuration) × (x ≡ whole e n)
end_whole (whole e m) n q = let z : m ≡ n = cc in (e, ap (whole e) z)
end_whole (bad r) n q = let z : ◌≡◌ {A = ℕ} 0 1 = cc in absurd (omega arith)

pub end_bad : (x : EntryRead) (r : Refusal) → end_of x ≡ Err r → x ≡ bad r
end_bad (whole e m) r q = let z : ◌≡◌ {A = ℕ} 0 1 = cc in absurd (omega arith)
end_bad (bad t) r q = let z : t ≡ r = cc in ap bad z

-- ---- one entry after another

module _ (s : Shape) (states : List ℕ) (f : List ℕ) (k : ℕ) (offsets : List ℕ) (es : List Configuration) where
  pub list_ends : (left : ℕ) → length f ≤ k → entries_from left s states f k offsets es ≡ record { offsets = offsets; entries = es; answer = Ok tt }
  unfolding entries_from
  list_ends zero l = rw (le-leb (length f) k l)
  list_ends (suc left) l = rw (le-leb (length f) k l)

  module _ (allowed n : ℕ) (inside : k < length f) where
    pub head_stops : (r : Refusal) → checked (entry_number s states f k (leb allowed n)) k ≡ Err r → entries_from (allowed - n) s states f k offsets es ≡ stop_at offsets es r
    unfolding entries_from
    head_stops r q = elim (dec_lt n allowed) [
      | yes l ↦
          let a : allowed - n ≡ suc (allowed - suc n) = omega arith in
          let q' : checked (entry_number s states f k false) k ≡ Err r = rw (lt-leb allowed n l) at q in
          rw (a, lt-leb (length f) k inside, q')
      | no l ↦
          let a : allowed - n ≡ 0 = omega arith in
          let q' : checked (entry_number s states f k true) k ≡ Err r = rw (le-leb allowed n (omega arith)) at q in
          rw (a, lt-leb (length f) k inside, q')
    ]

    module _ (q : checked (entry_number s states f k (leb allowed n)) k ≡ Ok tt) where
      pub head_room : n < allowed
      head_room = leb-false allowed n (entry_fine f k s states (leb allowed n) q).room

      fine : checked (entry_number s states f k false) k ≡ Ok tt
      fine = rw (lt-leb allowed n head_room) at q

      left_one : allowed - n ≡ suc (allowed - (n + 1))
      left_one = omega (arith, head_room)

      pub entry_refused : (r : Refusal) → entry_read s f k ≡ bad r → entries_from (allowed - n) s states f k offsets es ≡ stop_at offsets es r
      unfolding entries_from
      entry_refused r d = rw (left_one, lt-leb (length f) k inside, fine, d)

      pub entry_accepted : (e : Configuration) (next : ℕ) → entry_read s f k ≡ whole e next
          → entries_from (allowed - n) s states f k offsets es ≡ entries_from (allowed - (n + 1)) s states f next (offsets ++ (k ∷ [])) (es ++ (e ∷ []))
      unfolding entries_from
      entry_accepted e next d = rw (left_one, lt-leb (length f) k inside, fine, d)

-- ---- offsets

wrote_snoc : (i : ℕ) (os : List ℕ) (o : ℕ) (l : List ℕ) → wrote_from i (os ++ (o ∷ [])) l ≡ put32 (wrote_from i os l) (4 * (i + length os)) o
wrote_snoc i [] o l = let z : 4 * i ≡ 4 * (i + 0) = omega arith in ap (λ (k : ℕ). put32 l k o) z
wrote_snoc i (x ∷ os) o l =
    let z : 4 * (suc i + length os) ≡ 4 * (i + suc (length os)) = omega arith in
    wrote_snoc (suc i) os o (put32 l (4 * i) x) ∙ ap (λ (k : ℕ). put32 (wrote_from (suc i) os (put32 l (4 * i) x)) k o) z

pub wrote_next : (os : List ℕ) (o n : ℕ) (l : List ℕ) → n ≡ length os → put32 (wrote_from 0 os l) (4 * n) o ≡ wrote_from 0 (os ++ (o ∷ [])) l
wrote_next os o n l e =
    let z : 4 * n ≡ 4 * (0 + length os) = omega arith in
    ap (λ (k : ℕ). put32 (wrote_from 0 os l) k o) z ∙ sym (wrote_snoc 0 os o l)

pub wrote_length : (i : ℕ) (os l : List ℕ) → length (wrote_from i os l) ≡ length l
wrote_length i [] l = refl
wrote_length i (o ∷ os) l = wrote_length (suc i) os (put32 l (4 * i) o) ∙ put32_length l (4 * i) o

-- ---- what the loop knows

pub record Listed (s : Shape) (states f : List ℕ) (at allowed : ℕ) (list₀ list : List ℕ) (k n : ℕ) : Type 0 where
  pub offsets : List ℕ
  pub entries : List Configuration
  pub reads : entries_from (allowed - n) s states f k offsets entries ≡ entries_from allowed s states f at [] []
  pub count : n ≡ length offsets
  pub most : n ≤ allowed
  pub wrote : list ≡ wrote_from 0 offsets list₀

pub listed_begin : (s : Shape) (states f : List ℕ) (at allowed : ℕ) (list : List ℕ) → Listed s states f at allowed list list at 0
listed_begin s states f at allowed list =
    let z : allowed - 0 ≡ allowed = omega arith in
    record { offsets = []; entries = []; reads = ap (λ (n : ℕ). entries_from n s states f at [] []) z; count = refl; most = omega arith; wrote = refl }

pub listed_next : {s : Shape} {states f : List ℕ} {at allowed : ℕ} {list₀ list list' : List ℕ} {k n next : ℕ} (L : Listed s states f at allowed list₀ list k n) (e : Configuration)
    → k < length f → checked (entry_number s states f k (leb allowed n)) k ≡ Ok tt → entry_read s f k ≡ whole e next → {place : ℕ} → place ≡ 4 * n → list' ≡ put32 list place k
    → Listed s states f at allowed list₀ list' next (n + 1)
listed_next {s} {states} {f} {at} {allowed} {list₀} {list} {list'} {k} {n} {next} L e l q d h w =
    record {
      offsets = L.offsets ++ (k ∷ []);
      entries = L.entries ++ (e ∷ []);
      reads = sym (entry_accepted s states f k L.offsets L.entries allowed n l q e next d) ∙ L.reads;
      count = ap (λ (m : ℕ). m + 1) L.count ∙ sym (length-append L.offsets (k ∷ []));
      most = omega (arith, head_room s states f k L.offsets L.entries allowed n l q);
      wrote = w ∙ ap₂ (λ (x : List ℕ) (p : ℕ). put32 x p k) L.wrote h ∙ wrote_next L.offsets k n list₀ L.count;
    }
