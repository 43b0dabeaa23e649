-- Laws of the pass over patterns and of the list of their offsets.
use Rattle.std.specs.Prelude.{Result, Ok, Err, ⊤}
use Prim.Native.Nat.{ℕ, zero, suc, ◌+◌, ◌*◌, ◌-◌, ◌<◌, ◌≤◌}
use mathlib.Core.Path.{◌≡◌, refl, sym, ap, ap₂, ◌∙◌}
use mathlib.Core.Bool.{Bool, true, false, cond, ◌&&◌, not}
use mathlib.Core.List.{List, [], ◌∷◌, ◌++◌}
use native.Mathlib.Omega.{arith}
use native.Mathlib.Decide.{dec_lt}
use lib.ListN.{length, length-append}
use lib.Dec.{leb}
use borrow.Author.Tests.{leb-false, le-leb, lt-leb, not-false}
use Rattle.base.specs.Bytes.{choose, cut, put32}
use Rattle.base.proofs.ByteLaws.{put32_length, cut_fits}
use Rattle.file_records.specs.declared.program.Shape.{Shape}
use Rattle.file_records.specs.declared.program.Refusal.{Refusal}
use Rattle.file_records.specs.Records.{checked, is_kind, state_names}
use Rattle.file_records.proofs.RecordLaws.{Good, good}
use Rattle.file_records.proofs.ProgramLaws.{and_true}
use Rattle.file_contents.specs.EvidencePart.{wrote_from}
use Rattle.pattern_theory.specs.Patterns.{Pattern}
use Rattle.pattern_reading.specs.Records.{Given, pattern_number, newest_names, body_number, body_size, extended}
use Rattle.pattern_reading.specs.Reading.{pattern_of, complete, PatternRead, whole, bad, at_boundary, finished, body_then, pattern_from}
use Rattle.pattern_pass.specs.Seen.{end_of_pattern}
use Rattle.pattern_pass.specs.Passing.{stopped_at, listed_from}
use Rattle.pattern_pass.proofs.SeenLaws.{read_pattern}

-- ---- a pattern ends past its 13

whole_same : {e d : Given} {m n : ℕ} → whole e m ≡ whole d n → m ≡ n
whole_same q = cc

whole_bad : {e : Given} {n : ℕ} {r : Refusal} → bad r ≡ whole e n → ⊥
whole_bad q = let z : ◌≡◌ {A = ℕ} 0 1 = cc in omega arith

finish_next : (s : Shape) (start at : ℕ) (g d : Given) (next : ℕ) → finished s start at g ≡ whole d next → at ≤ next
unfolding finished
finish_next s start at g d next q = go (complete s g) q
  where
    go : (b : Bool) → cond b (whole g at) (bad (record { number = 7; place = start })) ≡ whole d next → at ≤ next
    go true q = omega (arith, whole_same q)
    go false q = absurd (whole_bad q)

from_next : (bytes : ℕ) (s : Shape) (f : List ℕ) (start at : ℕ) (g d : Given) (next : ℕ) → pattern_from bytes s f start at g ≡ whole d next → at ≤ next
unfolding pattern_from
from_next zero s f start at g d next q = finish_next s start at g d next q
from_next (suc bytes) s f start at g d next q =
    go (from_next bytes s f start (at + body_size f at) (extended f at g) d next) (at_boundary f at) (checked (body_number s f at g) at) q
  where
    go : (pattern_from bytes s f start (at + body_size f at) (extended f at g) ≡ whole d next → at + body_size f at ≤ next) → (b : Bool) (x : Result ⊤ Refusal)
        → choose b (λ _. finished s start at g) (λ _. body_then x (λ _. pattern_from bytes s f start (at + body_size f at) (extended f at g))) ≡ whole d next → at ≤ next
    go ih true x q = finish_next s start at g d next q
    go ih false (Ok _) q = omega (arith, ih q)
    go ih false (Err r) q = absurd (whole_bad q)

pub pattern_past : (s : Shape) (f : List ℕ) (start : ℕ) (g : Given) (next : ℕ) → read_pattern s f start ≡ whole g next → start + 9 ≤ next
pattern_past s f start g next q = from_next (length f) s f start (start + 9) _ g next q

pub end_whole : (x : PatternRead) (n : ℕ) → end_of_pattern x ≡ Ok n → (g : Given) × (x ≡ whole g n)
end_whole (whole g m) n q = let z : m ≡ n = cc in (g, ap (whole g) z)
end_whole (bad r) n q = let z : ◌≡◌ {A = ℕ} 0 1 = cc in absurd (omega arith)

pub end_bad : (x : PatternRead) (r : Refusal) → end_of_pattern x ≡ Err r → x ≡ bad r
end_bad (whole g m) r q = let z : ◌≡◌ {A = ℕ} 0 1 = cc in absurd (omega arith)
end_bad (bad t) r q = let z : t ≡ r = cc in ap bad z

-- ---- one pattern after another

pub head_fine : (f : List ℕ) (at : ℕ) (s : Shape) (states : List ℕ) (full : Bool) → checked (pattern_number s states f at full) at ≡ Ok tt
    → (is_kind f at 19 ≡ true) × (at + 9 ≤ length f) × (full ≡ false) × (state_names s states f at ≡ true) × (newest_names s f at ≡ true)
unfolding pattern_number
head_fine f at s states full e =
    let g : Good (not (is_kind f at 19)) (cut f at 8) full false (not (state_names s states f at && newest_names s f at)) = good at e in
    let n = and_true (state_names s states f at) (newest_names s f at) (not-false _ g.names) in
    (not-false _ g.allowed, omega (arith, cut_fits f at 8 g.whole), g.room, n.0, n.1)

module _ (s : Shape) (states : List ℕ) (f : List ℕ) (k : ℕ) (offsets : List ℕ) (ps : List Pattern) where
  pub list_ends : (left : ℕ) → length f ≤ k → listed_from left s states f k offsets ps ≡ record { offsets = offsets; patterns = ps; answer = Ok tt }
  unfolding listed_from
  list_ends zero l = rw (le-leb (length f) k l)
  list_ends (suc left) l = rw (le-leb (length f) k l)

  module _ (allowed n : ℕ) (inside : k < length f) where
    pub head_stops : (r : Refusal) → checked (pattern_number s states f k (leb allowed n)) k ≡ Err r → listed_from (allowed - n) s states f k offsets ps ≡ stopped_at offsets ps r
    unfolding listed_from
    head_stops r q = elim (dec_lt n allowed) [
      | yes l ↦
          let a : allowed - n ≡ suc (allowed - suc n) = omega arith in
          let q' : checked (pattern_number s states f k false) k ≡ Err r = rw (lt-leb allowed n l) at q in
          rw (a, lt-leb (length f) k inside, q')
      | no l ↦
          let a : allowed - n ≡ 0 = omega arith in
          let q' : checked (pattern_number s states f k true) k ≡ Err r = rw (le-leb allowed n (omega arith)) at q in
          rw (a, lt-leb (length f) k inside, q')
    ]

    module _ (q : checked (pattern_number s states f k (leb allowed n)) k ≡ Ok tt) where
      pub head_room : n < allowed
      head_room = leb-false allowed n (head_fine f k s states (leb allowed n) q).2

      fine : checked (pattern_number s states f k false) k ≡ Ok tt
      fine = rw (lt-leb allowed n head_room) at q

      left_one : allowed - n ≡ suc (allowed - (n + 1))
      left_one = omega (arith, head_room)

      pub pattern_refused : (r : Refusal) → read_pattern s f k ≡ bad r → listed_from (allowed - n) s states f k offsets ps ≡ stopped_at offsets ps r
      unfolding listed_from
      pattern_refused r d = rw (left_one, lt-leb (length f) k inside, fine, d)

      pub pattern_accepted : (g : Given) (next : ℕ) → read_pattern s f k ≡ whole g next
          → listed_from (allowed - n) s states f k offsets ps ≡ listed_from (allowed - (n + 1)) s states f next (offsets ++ (k ∷ [])) (ps ++ (pattern_of g ∷ []))
      unfolding listed_from
      pattern_accepted g next d = rw (left_one, lt-leb (length f) k inside, fine, d)

-- ---- offsets

wrote_snoc : (i : ℕ) (os : List ℕ) (o : ℕ) (l : List ℕ) → wrote_from i (os ++ (o ∷ [])) l ≡ put32 (wrote_from i os l) (4 * (i + length os)) o
wrote_snoc i [] o l = let z : 4 * i ≡ 4 * (i + 0) = omega arith in ap (λ (k : ℕ). put32 l k o) z
wrote_snoc i (x ∷ os) o l =
    let z : 4 * (suc i + length os) ≡ 4 * (i + suc (length os)) = omega arith in
    wrote_snoc (suc i) os o (put32 l (4 * i) x) ∙ ap (λ (k : ℕ). put32 (wrote_from (suc i) os (put32 l (4 * i) x)) k o) z

wrote_next : (os : List ℕ) (o n : ℕ) (l : List ℕ) → n ≡ length os → put32 (wrote_from 0 os l) (4 * n) o ≡ wrote_from 0 (os ++ (o ∷ [])) l
wrote_next os o n l e =
    let z : 4 * n ≡ 4 * (0 + length os) = omega arith in
    ap (λ (k : ℕ). put32 (wrote_from 0 os l) k o) z ∙ sym (wrote_snoc 0 os o l)

pub wrote_length : (i : ℕ) (os l : List ℕ) → length (wrote_from i os l) ≡ length l
wrote_length i [] l = refl
wrote_length i (o ∷ os) l = wrote_length (suc i) os (put32 l (4 * i) o) ∙ put32_length l (4 * i) o

-- ---- what the loop knows

pub record Listed (s : Shape) (states f : List ℕ) (at allowed : ℕ) (list₀ list : List ℕ) (k n : ℕ) : Type 0 where
  pub offsets : List ℕ
  pub patterns : List Pattern
  pub reads : listed_from (allowed - n) s states f k offsets patterns ≡ listed_from allowed s states f at [] []
  pub count : n ≡ length offsets
  pub most : n ≤ allowed
  pub wrote : list ≡ wrote_from 0 offsets list₀

pub listed_begin : (s : Shape) (states f : List ℕ) (at allowed : ℕ) (list : List ℕ) → Listed s states f at allowed list list at 0
listed_begin s states f at allowed list =
    let z : allowed - 0 ≡ allowed = omega arith in
    record { offsets = []; patterns = []; reads = ap (λ (n : ℕ). listed_from n s states f at [] []) z; count = refl; most = omega arith; wrote = refl }

pub listed_next : {s : Shape} {states f : List ℕ} {at allowed : ℕ} {list₀ list list' : List ℕ} {k n next : ℕ} (L : Listed s states f at allowed list₀ list k n) (g : Given)
    → k < length f → checked (pattern_number s states f k (leb allowed n)) k ≡ Ok tt → read_pattern s f k ≡ whole g next → {place : ℕ} → place ≡ 4 * n → list' ≡ put32 list place k
    → Listed s states f at allowed list₀ list' next (n + 1)
listed_next {s} {states} {f} {at} {allowed} {list₀} {list} {list'} {k} {n} {next} L g l q d h w =
    record {
      offsets = L.offsets ++ (k ∷ []);
      patterns = L.patterns ++ (pattern_of g ∷ []);
      reads = sym (pattern_accepted s states f k L.offsets L.patterns allowed n l q g next d) ∙ L.reads;
      count = ap (λ (m : ℕ). m + 1) L.count ∙ sym (length-append L.offsets (k ∷ []));
      most = omega (arith, head_room s states f k L.offsets L.patterns allowed n l q);
      wrote = w ∙ ap₂ (λ (x : List ℕ) (p : ℕ). put32 x p k) L.wrote h ∙ wrote_next L.offsets k n list₀ L.count;
    }
