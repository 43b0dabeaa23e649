-- The evidence part of a file that has c bytes before it, and of the file without them: the same is read, with places moved by c.
use Rattle.std.specs.Prelude.{Result, Ok, Err, ⊤}
use Prim.Native.Nat.{ℕ, zero, suc, ◌+◌, ◌-◌, ◌<◌, ◌≤◌}
use mathlib.Core.Path.{◌≡◌, refl, sym, ap, ap₂, ◌∙◌}
use mathlib.Core.Bool.{Bool, true, false, cond}
use mathlib.Core.List.{List, [], ◌∷◌, ◌++◌}
use native.Mathlib.Omega.{arith}
use native.Mathlib.Decide.{dec_le}
use lib.ListN.{length}
use lib.Dec.{eqb, leb, ltb}
use borrow.Author.Tests.{le-leb, lt-leb}
use Rattle.machine_pws.specs.Machine.{Configuration}
use Rattle.file_records.specs.declared.program.Shape.{Shape}
use Rattle.file_records.specs.declared.program.Refusal.{Refusal}
use Rattle.base.specs.Bytes.{choose, byte, cut}
use Rattle.file_records.specs.Records.{checked, is_kind, claim_number, start_names, start_number, memory_at, step_body, step_names, step_number, step_at, state_names, state_at, pointer_names, pointer_at, entry_number, value_names, message_names, message_number, waiting_names, waiting_number}
use Rattle.file_records.specs.ProgramPart.{unless_end, row_from, and_then}
use Rattle.file_contents.specs.EvidencePart.{steps_from, steps_of, beginning, extended, body_size, body_number, complete, EntryRead, whole, bad, at_boundary, finished, body_then, entry_from, entry_read, EntriesRead, head_then, entry_then, entries_from}

-- ---- places moved by c

abbrev pub moved_by : ℕ → Refusal → Refusal
moved_by c r = record { number = r.number; place = c + r.place }

abbrev pub moved_check : ℕ → Result ⊤ Refusal → Result ⊤ Refusal
moved_check c (Ok _) = Ok tt
moved_check c (Err r) = Err (moved_by c r)

abbrev pub moved_count : ℕ → Result ℕ Refusal → Result ℕ Refusal
moved_count c (Ok n) = Ok n
moved_count c (Err r) = Err (moved_by c r)

abbrev moved_entry : ℕ → EntryRead → EntryRead
moved_entry c (whole e next) = whole e (c + next)
moved_entry c (bad r) = bad (moved_by c r)

-- the same entries and the same answer; no statement asks where they stand
pub record MovedEntries (c : ℕ) (a b : EntriesRead) : Type 0 where
  pub entries : a.entries ≡ b.entries
  pub answer : a.answer ≡ moved_check c b.answer

checked_moved : (c n at : ℕ) → checked n (c + at) ≡ moved_check c (checked n at)
unfolding checked
checked_moved c n at = go (eqb n 0)
  where
    go : (b : Bool) → cond b (Ok tt) (Err (record { number = n; place = c + at })) ≡ moved_check c (cond b (Ok tt) (Err (record { number = n; place = at })))
    go true = refl
    go false = refl

-- ---- records in a row

count_moved : (c n : ℕ) (x y : Result ℕ Refusal) → x ≡ moved_count c y → (b : Bool) (k : Result ⊤ Refusal)
    → choose b (λ _. Ok n) (λ _. and_then (moved_check c k) (λ _. x)) ≡ moved_count c (choose b (λ _. Ok n) (λ _. and_then k (λ _. y)))
count_moved c n x y e true k = refl
count_moved c n x y e false (Ok _) = e
count_moved c n x y e false (Err r) = refl

module _ (c : ℕ) (ends ends' : ℕ → ℕ → Bool) (check check' : ℕ → ℕ → Result ⊤ Refusal) (size size' : ℕ → ℕ)
    (sameEnds : (at n : ℕ) → ends (c + at) n ≡ ends' at n) (sameCheck : (at n : ℕ) → check (c + at) n ≡ moved_check c (check' at n))
    (sameSize : (at : ℕ) → size (c + at) ≡ size' at) where
  row_moved : (left at n : ℕ) → row_from ends check size left (c + at) n ≡ moved_count c (row_from ends' check' size' left at n)
  unfolding row_from
  row_moved zero at n = rw (sameEnds at n, sameCheck at n) (count_moved c n (Ok n) (Ok n) refl (ends' at n) (check' at n))
  row_moved (suc left) at n =
      let a : c + at + size (c + at) ≡ c + (at + size' at) = omega (arith, sameSize at) in
      rw (sameEnds at n, sameCheck at n)
      (count_moved c n (row_from ends check size left (c + at + size (c + at)) (suc n)) (row_from ends' check' size' left (at + size' at) (suc n))
      (ap (λ (k : ℕ). row_from ends check size left k (suc n)) a ∙ row_moved left (at + size' at) (suc n)) (ends' at n) (check' at n))

-- ---- an entry's end

-- no record is left
entry_past : (s : Shape) (f : List ℕ) (start at : ℕ) (e : Configuration) → length f ≤ at → (bytes : ℕ) → entry_from bytes s f start at e ≡ finished s start at e
unfolding entry_from at_boundary
entry_past s f start at e l zero = refl
entry_past s f start at e l (suc bytes) = rw (le-leb (length f) at l)

finished_moved : (c : ℕ) (s : Shape) (start at : ℕ) (e : Configuration) → finished s (c + start) (c + at) e ≡ moved_entry c (finished s start at e)
unfolding finished
finished_moved c s start at e = go (complete s (length e.memory.channel) e.memory.pointer)
  where
    go : (b : Bool) → cond b (whole e (c + at)) (bad (record { number = 7; place = c + start })) ≡ moved_entry c (cond b (whole e at) (bad (record { number = 7; place = start })))
    go true = refl
    go false = refl

body_moved : (c : ℕ) (x y u v : EntryRead) → x ≡ moved_entry c y → u ≡ moved_entry c v → (b : Bool) (k : Result ⊤ Refusal)
    → choose b (λ _. x) (λ _. body_then (moved_check c k) (λ _. u)) ≡ moved_entry c (choose b (λ _. y) (λ _. body_then k (λ _. v)))
body_moved c x y u v d e true k = d
body_moved c x y u v d e false (Ok _) = e
body_moved c x y u v d e false (Err r) = refl

size_least : (f : List ℕ) (at : ℕ) → 1 ≤ body_size f at
unfolding body_size
size_least f at = go (is_kind f at 17)
  where
    go : (b : Bool) → 1 ≤ cond b 7 4
    go true = omega arith
    go false = omega arith

-- ---- entries in a row

-- os and es were read already
module _ (c : ℕ) (os os' : List ℕ) (es : List Configuration) where
  abbrev read_so_far : List ℕ → EntriesRead
  read_so_far l = record { offsets = l; entries = es; answer = Ok tt }

  entries_then : (x y : EntriesRead) → MovedEntries c x y → (b : Bool) (k : Result ⊤ Refusal)
      → MovedEntries c (choose b (λ _. read_so_far os) (λ _. head_then (moved_check c k) os es (λ _. x))) (choose b (λ _. read_so_far os') (λ _. head_then k os' es (λ _. y)))
  entries_then x y m true k = record { entries = refl; answer = refl }
  entries_then x y m false (Ok _) = m
  entries_then x y m false (Err r) = record { entries = refl; answer = refl }

  entry_then_lem : (g g' : Configuration → ℕ → EntriesRead) → ((e : Configuration) (next : ℕ) → MovedEntries c (g e (c + next)) (g' e next))
      → (y : EntryRead) → MovedEntries c (entry_then (moved_entry c y) os es g) (entry_then y os' es g')
  entry_then_lem g g' m (whole e next) = m e next
  entry_then_lem g g' m (bad r) = record { entries = refl; answer = refl }

-- ---- h is f without its first c bytes

module _ (f h : List ℕ) (c : ℕ) (same : (k : ℕ) → byte f (c + k) ≡ byte h k) (long : length f ≡ c + length h) where
  near : (at k : ℕ) → byte f (c + at + k) ≡ byte h (at + k)
  near at k = let a : c + at + k ≡ c + (at + k) = omega arith in ap (byte f) a ∙ same (at + k)

  kind : (at x : ℕ) → is_kind f (c + at) x ≡ is_kind h at x
  unfolding is_kind
  kind at x = ap (λ (b : ℕ). eqb b x) (same at)

  cuts : (at body : ℕ) → cut f (c + at) body ≡ cut h at body
  unfolding cut
  cuts at body = let a : length f - (c + at) ≡ length h - at = omega arith in ap (λ (n : ℕ). leb n body) a

  past : (at : ℕ) → leb (length f) (c + at) ≡ leb (length h) at
  past at = elim (dec_le (length h) at) [
    | yes l ↦ let m : length f ≤ c + at = omega arith in le-leb (length f) (c + at) m ∙ sym (le-leb (length h) at l)
    | no l ↦ let m : c + at < length f = omega arith in lt-leb (length f) (c + at) m ∙ sym (lt-leb (length h) at (omega arith))
  ]

  unless_moved : (at : ℕ) (x : Result ⊤ Refusal) → unless_end f (c + at) (moved_check c x) ≡ moved_check c (unless_end h at x)
  unfolding unless_end
  unless_moved at x = rw (past at, long) (go (leb (length h) at))
    where
      go : (b : Bool) → cond b (Err (record { number = 6; place = c + length h })) (moved_check c x) ≡ moved_check c (cond b (Err (record { number = 6; place = length h })) x)
      go true = refl
      go false = refl

  -- ---- the claim and the start

  claim_number_lem : (at : ℕ) → claim_number f (c + at) ≡ claim_number h at
  unfolding claim_number
  claim_number_lem at = rw (kind at 15, cuts at 1, near at 1)

  start_number_lem : (s : Shape) (at : ℕ) → start_number s f (c + at) ≡ start_number s h at
  unfolding start_number start_names
  start_number_lem s at = rw (kind at 31, cuts at 4, near at 1, near at 2, near at 3, near at 4)

  pub claim_moved : (at : ℕ) → unless_end f (c + at) (checked (claim_number f (c + at)) (c + at)) ≡ moved_check c (unless_end h at (checked (claim_number h at) at))
  claim_moved at = rw (claim_number_lem at, checked_moved c (claim_number h at) at) (unless_moved at (checked (claim_number h at) at))

  pub start_moved : (s : Shape) (at : ℕ)
      → unless_end f (c + at) (checked (start_number s f (c + at)) (c + at)) ≡ moved_check c (unless_end h at (checked (start_number s h at) at))
  start_moved s at = rw (start_number_lem s at, checked_moved c (start_number s h at) at) (unless_moved at (checked (start_number s h at) at))

  pub memory_moved : (at : ℕ) → memory_at f (c + at) ≡ memory_at h at
  memory_moved at = rw (near at 1, near at 2, near at 3, near at 4)

  pub claim_byte : (at : ℕ) → byte f (c + at + 1) ≡ byte h (at + 1)
  claim_byte at = near at 1

  -- ---- steps

  step_body_lem : (at : ℕ) → step_body f (c + at) ≡ step_body h at
  unfolding step_body
  step_body_lem at = rw (kind at 33)

  step_number_lem : (s : Shape) (transitions at n : ℕ) → step_number s transitions f (c + at) n ≡ step_number s transitions h at n
  unfolding step_number step_names
  step_number_lem s transitions at n = rw (step_body_lem at, cuts at (step_body h at), kind at 32, kind at 33, kind at 34, near at 1, near at 2)

  pub steps_moved : (s : Shape) (transitions at : ℕ) → steps_from s transitions f (c + at) ≡ moved_count c (steps_from s transitions h at)
  unfolding steps_from
  steps_moved s transitions at =
      row_moved c (λ k n. leb (length f) k) (λ k n. leb (length h) k) (λ k n. checked (step_number s transitions f k n) k) (λ k n. checked (step_number s transitions h k n) k)
      (λ k. 1 + step_body f k) (λ k. 1 + step_body h k) (λ k n. past k)
      (λ k n. rw (step_number_lem s transitions k n) (checked_moved c (step_number s transitions h k n) k)) (λ k. rw (step_body_lem k)) 1024 at 0

  step_at_lem : (at : ℕ) → step_at f (c + at) ≡ step_at h at
  unfolding step_at
  step_at_lem at = rw (kind at 32, kind at 33, near at 1, near at 2)

  pub steps_same : (at n : ℕ) → steps_of f (c + at) n ≡ steps_of h at n
  unfolding steps_of
  steps_same at zero = refl
  steps_same at (suc n) =
      let a : c + at + (1 + step_body f (c + at)) ≡ c + (at + (1 + step_body h at)) = omega (arith, step_body_lem at) in
      ap₂ (λ x xs. x ∷ xs) (step_at_lem at) (ap (λ (k : ℕ). steps_of f k n) a ∙ steps_same (at + (1 + step_body h at)) n)

  -- ---- one entry

  state_same : (at : ℕ) → state_at f (c + at) ≡ state_at h at
  state_same at = λ i p. cond (ltb p 4) (near at (1 + p) i) 0

  pointer_same : (at : ℕ) → pointer_at f (c + at) ≡ pointer_at h at
  pointer_same at = λ i p. cond (ltb p 4) (near at (5 + p) i) 0

  beginning_same : (at : ℕ) → beginning f (c + at) ≡ beginning h at
  beginning_same at = λ i. record { state = state_same at i; queue = λ p v. []; memory = record { channel = []; pointer = pointer_same at i } }

  extended_same : (at : ℕ) (e : Configuration) → extended f (c + at) e ≡ extended h at e
  unfolding extended
  extended_same at e = rw (kind at 17, near at 1, near at 2, near at 3, near at 4, near at 5, near at 6)

  size_same : (at : ℕ) → body_size f (c + at) ≡ body_size h at
  unfolding body_size
  size_same at = rw (kind at 17)

  body_number_lem : (s : Shape) (at : ℕ) (e : Configuration) → body_number s f (c + at) e ≡ body_number s h at e
  unfolding body_number message_number message_names value_names waiting_number waiting_names
  body_number_lem s at e = rw (kind at 17, kind at 18, cuts at 6, cuts at 3, near at 1, near at 2, near at 3, near at 4, near at 5, near at 6)

  boundary : (at : ℕ) → at_boundary f (c + at) ≡ at_boundary h at
  unfolding at_boundary
  boundary at = rw (past at, kind at 16)

  -- any number of bytes that is enough says the same
  entry_from_lem : (s : Shape) (start n m at : ℕ) (e : Configuration) → length h ≤ at + n → length h ≤ at + m
      → entry_from n s f (c + start) (c + at) e ≡ moved_entry c (entry_from m s h start at e)
  unfolding entry_from
  entry_from_lem s start zero m at e j k =
      finished_moved c s start at e ∙ ap (moved_entry c) (sym (entry_past s h start at e (omega arith) m))
  entry_from_lem s start (suc n) zero at e j k =
      entry_past s f (c + start) (c + at) e (omega arith) (suc n) ∙ finished_moved c s start at e
  entry_from_lem s start (suc n) (suc m) at e j k =
      let a : c + at + body_size f (c + at) ≡ c + (at + body_size h at) = omega (arith, size_same at) in
      rw (boundary at, body_number_lem s at e, checked_moved c (body_number s h at e) at)
      (body_moved c (finished s (c + start) (c + at) e) (finished s start at e) (entry_from n s f (c + start) (c + at + body_size f (c + at)) (extended f (c + at) e))
      (entry_from m s h start (at + body_size h at) (extended h at e)) (finished_moved c s start at e)
      (ap₂ (entry_from n s f (c + start)) a (extended_same at e)
      ∙ entry_from_lem s start n m (at + body_size h at) (extended h at e) (omega (arith, size_least h at)) (omega (arith, size_least h at)))
      (at_boundary h at) (checked (body_number s h at e) at))

  entry_moved : (s : Shape) (start : ℕ) → entry_read s f (c + start) ≡ moved_entry c (entry_read s h start)
  unfolding entry_read
  entry_moved s start =
      let a : c + start + 9 ≡ c + (start + 9) = omega arith in
      ap₂ (entry_from (length f) s f (c + start)) a (beginning_same start)
      ∙ entry_from_lem s start (length f) (length h) (start + 9) (beginning h start) (omega arith) (omega arith)

  -- ---- entries

  entry_number_lem : (s : Shape) (states : List ℕ) (at : ℕ) (full : Bool) → entry_number s states f (c + at) full ≡ entry_number s states h at full
  unfolding entry_number state_names pointer_names
  entry_number_lem s states at full =
      rw (kind at 16, cuts at 8, near at 1, near at 2, near at 3, near at 4, near at 5, near at 6, near at 7, near at 8)

  head_moved : (s : Shape) (states : List ℕ) (at : ℕ) (full : Bool) → checked (entry_number s states f (c + at) full) (c + at) ≡ moved_check c (checked (entry_number s states h at full) at)
  head_moved s states at full = rw (entry_number_lem s states at full) (checked_moved c (entry_number s states h at full) at)

  pub entries_moved : (s : Shape) (states : List ℕ) (left at : ℕ) (os os' : List ℕ) (es : List Configuration)
      → MovedEntries c (entries_from left s states f (c + at) os es) (entries_from left s states h at os' es)
  unfolding entries_from
  entries_moved s states zero at os os' es =
      rw (past at, head_moved s states at true)
      (entries_then c os os' es (record { offsets = os; entries = es; answer = Ok tt }) (record { offsets = os'; entries = es; answer = Ok tt })
      (record { entries = refl; answer = refl }) (leb (length h) at) (checked (entry_number s states h at true) at))
  entries_moved s states (suc left) at os os' es =
      rw (past at, head_moved s states at false, entry_moved s at)
      (entries_then c os os' es
      (entry_then (moved_entry c (entry_read s h at)) os es (λ e next. entries_from left s states f next (os ++ ((c + at) ∷ [])) (es ++ (e ∷ []))))
      (entry_then (entry_read s h at) os' es (λ e next. entries_from left s states h next (os' ++ (at ∷ [])) (es ++ (e ∷ []))))
      (entry_then_lem c os os' es (λ e next. entries_from left s states f next (os ++ ((c + at) ∷ [])) (es ++ (e ∷ [])))
      (λ e next. entries_from left s states h next (os' ++ (at ∷ [])) (es ++ (e ∷ [])))
      (λ e next. entries_moved s states left next (os ++ ((c + at) ∷ [])) (os' ++ (at ∷ [])) (es ++ (e ∷ []))) (entry_read s h at))
      (leb (length h) at) (checked (entry_number s states h at false) at))
