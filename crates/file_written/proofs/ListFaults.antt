-- A refusal in an entry, in the table's words.
use Rattle.std.specs.Prelude.{Result, Ok, Err, ⊤}
use Prim.Native.Nat.{ℕ, zero, suc, ◌+◌, ◌*◌, ◌-◌, ◌<◌, ◌≤◌}
use mathlib.Core.Path.{◌≡◌, refl, sym, ap, ap₂, subst, ◌∙◌}
use mathlib.Core.Logic.{◌⊎◌, inl, inr, ⊎_elim}
use mathlib.Core.Bool.{Bool, true, false, cond, ◌&&◌, ◌||◌, not}
use mathlib.Core.List.{List, [], ◌∷◌, ◌++◌}
use native.Mathlib.Omega.{arith}
use native.Mathlib.Decide.{dec_lt}
use lib.ListN.{length, get_or, length-append}
use lib.Dec.{eqb, leb, ltb}
use borrow.Author.Tests.{leb-true, leb-false, le-leb, lt-leb, eqb-true, eqb-false, lt-ltb, le-ltb, eq-eqb, ne_eqb}
use Rattle.machine_pws.specs.declared.Message.{Message}
use Rattle.machine_pws.specs.Program as pws
use Rattle.machine_pws.specs.Machine.{Configuration}
use Rattle.machine_pws.specs.Configurations.{MessageIn}
use Rattle.machine_pws.specs.Entries.{ValueOrFF}
use Rattle.file_records.specs.declared.program.Shape.{Shape}
use Rattle.file_records.specs.declared.program.Refusal.{Refusal}
use Rattle.base.specs.Bytes.{byte, choose}
use Rattle.file_records.specs.Records.{checked, is_kind, exists, value_count, message_number, waiting_names, waiting_number}
use Rattle.file_records.proofs.ProgramLaws.{and_true}
use Rattle.file_records.proofs.RecordLaws.{refused_same}
use Rattle.file_again.proofs.Names.{no_true, both_exist, or_cases}
use Rattle.file_again.proofs.Tables.{of_four}
use Rattle.file_contents.specs.EvidencePart.{beginning, extended, body_size, body_number, complete, pointer_inside, points_first, pointers_fit, first_some, EntryRead, whole, bad, at_boundary, finished, body_then, entry_from, entry_read}
use Rattle.file_written.specs.Standing.{Stands}
use Rattle.file_written.specs.Written.{joined, EntryRecord, message_record, waiting_record, record_bytes, EntryRecords, head_bytes, entry_bytes, entry_of}
use Rattle.file_written.specs.Faults.{Fault}
use Rattle.file_written.specs.ListFaults.{MessageFault, Waits, WaitingFault, Complete, EntryFault, other_kind, in_message, in_waiting, not_complete, EntryRefused}
use Rattle.file_written.proofs.Fine.{both, not_so}
use Rattle.file_written.specs.ProgramPart.{shape_for}
use Rattle.file_written.proofs.Standing.{stands_moved, stands_join, stands_record}
use Rattle.file_written.proofs.ProgramWritten.{value_same}
use Rattle.file_written.proofs.EntryWritten.{message_names_lem, waiting_names_lem, or_left, or_right, added_all}
use Rattle.file_written.proofs.ListRead.{Back, record_back, says_entry}
use Rattle.file_records.specs.Records.{state_at, pointer_at}
use Rattle.file_written.specs.Faults.{ShapeBegun}
use Rattle.file_written.proofs.Faults.{Told, fault_of}

module _ (P : pws.Program) (range : pws.ShapeInRange P.shape) (counts : (v : ℕ) → value_count (shape_for P.shape) v ≡ P.shape.values v) (f : List ℕ) (at : ℕ) (r : Refusal) where
  message_fault : (n : ℕ) → byte f at ≡ 17 → checked (message_number (shape_for P.shape) f at n) at ≡ Err r → (r.place ≡ at) × MessageFault P n f at r.number
  unfolding message_number
  message_fault n k q =
      fault_of f at 6 (byte f at ≡ 17) (16 ≤ n) Unit ((m : Message) × MessageIn (ValueOrFF P.shape) P.shape m × Stands f at (record_bytes (message_record m))) r
      (record {
        kind = λ e. k;
        unkind = λ e. refl;
        full = λ d. leb-true 16 n d;
        room = λ d l. omega (arith, leb-false 16 n d);
        range = λ d. tt;
        unrange = λ u. refl;
        names = λ h. not_so (message_names_lem P.shape range counts h.0 h.1 f at h.2);
      }) q

  waiting_fault : (queue : ℕ → ℕ → List ℕ) → byte f at ≡ 18 → checked (waiting_number (shape_for P.shape) f at (length (queue (byte f (at + 1)) (byte f (at + 2))))) at ≡ Err r
      → (r.place ≡ at) × WaitingFault P queue f at r.number
  unfolding waiting_number
  waiting_fault queue k q =
      let n = length (queue (byte f (at + 1)) (byte f (at + 2))) in
      fault_of f at 3 (byte f at ≡ 18) ((byte f (at + 1) < P.shape.processes) × (byte f (at + 2) < P.shape.variables) × (8 ≤ n)) Unit
      ((w : EntryRecord) × Waits P w × Stands f at (record_bytes w)) r
      (record {
        kind = λ e. k;
        unkind = λ e. refl;
        full = λ d.
            let a = and_true (exists (shape_for P.shape) (byte f (at + 1)) (byte f (at + 2))) (leb 8 n) d in
            let b = both_exist (shape_for P.shape) (byte f (at + 1)) (byte f (at + 2)) a.0 in
            (b.0, b.1, leb-true 8 n a.1);
        room = λ d h. no_true (sym d ∙ both (both (lt-ltb (byte f (at + 1)) P.shape.processes h.0) (lt-ltb (byte f (at + 2)) P.shape.variables h.1)) (le-leb 8 n h.2));
        range = λ d. tt;
        unrange = λ u. refl;
        names = λ h. named h.0 h.1 h.2;
      }) q
    where
      named : (w : EntryRecord) → Waits P w → Stands f at (record_bytes w) → not (waiting_names (shape_for P.shape) f at) ≡ false
      named (message_record m) w T = absurd w
      named (waiting_record p v x) w T = not_so (waiting_names_lem P.shape range counts p v x w.0 w.1 w.2 f at T)

-- ---- number 7

module _ (P : pws.Program) (range : pws.ShapeInRange P.shape) (e : Configuration) (K : Complete P e) where
  abbrev S : Shape
  S = shape_for P.shape

  abbrev z : ℕ → ℕ
  z = e.memory.pointer

  pointer_fits : (p : ℕ) → pointer_inside S (length e.memory.channel) p (z p) ≡ true
  unfolding pointer_inside
  pointer_fits p = elim (dec_lt p P.shape.processes) [
    | yes l ↦ rw (lt-ltb p P.shape.processes l) (both (le-leb 1 (z p) (K.pointers p l).0) (le-leb (z p) (length e.memory.channel) (K.pointers p l).1))
    | no l ↦ rw (le-ltb p P.shape.processes (omega arith))
  ]

  first_there : (q : ℕ) → q < P.shape.processes → z q ≡ 1 → points_first S q (z q) ≡ true
  unfolding points_first
  first_there q l e = both (lt-ltb q P.shape.processes l) (eq-eqb (z q) 1 e)

  complete_tells : complete S (length e.memory.channel) z ≡ true
  unfolding complete pointers_fit first_some
  complete_tells =
      let F : ℕ → Bool = λ q. points_first S q (z q) in
      both (le-leb 1 (length e.memory.channel) K.message) (both (both (pointer_fits 0) (both (pointer_fits 1) (both (pointer_fits 2) (pointer_fits 3))))
      (of_four (λ (q : ℕ). q < P.shape.processes → z q ≡ 1 → (F 0 || (F 1 || (F 2 || F 3))) ≡ true)
      (λ l e. or_left (F 0) (F 1 || (F 2 || F 3)) (first_there 0 l e))
      (λ l e. or_right (F 0) (F 1 || (F 2 || F 3)) (or_left (F 1) (F 2 || F 3) (first_there 1 l e)))
      (λ l e. or_right (F 0) (F 1 || (F 2 || F 3)) (or_right (F 1) (F 2 || F 3) (or_left (F 2) (F 3) (first_there 2 l e))))
      (λ l e. or_right (F 0) (F 1 || (F 2 || F 3)) (or_right (F 1) (F 2 || F 3) (or_right (F 2) (F 3) (first_there 3 l e))))
      K.first.0 (omega (arith, K.first.1, range.processes)) K.first.1 K.first.2))

-- ---- where an entry stops

whole_bad : {e : Configuration} {n : ℕ} {r : Refusal} → whole e n ≡ bad r → ⊥
whole_bad q = let z : ◌≡◌ {A = ℕ} 0 1 = cc in omega arith

bad_same : {q r : Refusal} → bad q ≡ bad r → q ≡ r
bad_same q = cc

module _ (s : Shape) (f : List ℕ) (start : ℕ) (r : Refusal) where
  record Fail (at : ℕ) (e : Configuration) : Type 0 where
    items : List EntryRecord
    stands : Stands f at (joined record_bytes items)
    stops : (let here = at + length (joined record_bytes items) in let d = added_all e items in
        ((at_boundary f here ≡ true) × (finished s start here d ≡ bad r)) ⊎ ((at_boundary f here ≡ false) × (checked (body_number s f here d) here ≡ Err r)))

  now : (at : ℕ) (e : Configuration) → at ≤ length f → ((at_boundary f at ≡ true) × (finished s start at e ≡ bad r)) ⊎ ((at_boundary f at ≡ false) × (checked (body_number s f at e) at ≡ Err r)) → Fail at e
  now at e l w =
      let y : at ≡ at + 0 = omega arith in
      record {
        items = [];
        stands = record { fits = omega arith; same = λ k i. absurd (omega arith) };
        stops = subst (λ (k : ℕ). ((at_boundary f k ≡ true) × (finished s start k e ≡ bad r)) ⊎ ((at_boundary f k ≡ false) × (checked (body_number s f k e) k ≡ Err r))) y w;
      }

  later : (at : ℕ) (e : Configuration) (b : Back f at e) → (at + body_size f at ≤ length f → Fail (at + body_size f at) (extended f at e)) → Fail at e
  later at e b ih =
      let size = b.size in
      let R = ih (omega (arith, b.stands.fits)) in
      let rest = joined record_bytes R.items in
      let y : at + body_size f at ≡ at + length (record_bytes b.item) = omega arith in
      let x : at + body_size f at + length rest ≡ at + length (record_bytes b.item ++ rest) = omega (arith, length-append (record_bytes b.item) rest) in
      record {
        items = b.item ∷ R.items;
        stands = stands_join (record_bytes b.item) rest b.stands (stands_moved y R.stands);
        stops = subst (λ (c : Configuration). (let k = at + length (record_bytes b.item ++ rest) in let d = added_all c R.items in
            ((at_boundary f k ≡ true) × (finished s start k d ≡ bad r)) ⊎ ((at_boundary f k ≡ false) × (checked (body_number s f k d) k ≡ Err r)))) b.says
            (subst (λ (k : ℕ). (let d = added_all (extended f at e) R.items in
            ((at_boundary f k ≡ true) × (finished s start k d ≡ bad r)) ⊎ ((at_boundary f k ≡ false) × (checked (body_number s f k d) k ≡ Err r)))) x R.stops);
      }

  past : (at : ℕ) → length f ≤ at → at_boundary f at ≡ true
  unfolding at_boundary
  past at l = or_left (leb (length f) at) (is_kind f at 16) (le-leb (length f) at l)

  entry_fail : (bytes at : ℕ) (e : Configuration) → length f ≤ bytes + at → at ≤ length f → entry_from bytes s f start at e ≡ bad r → Fail at e
  unfolding entry_from
  entry_fail zero at e m l q = now at e l (inl (past at (omega arith), q))
  entry_fail (suc bytes) at e m l q =
      go (λ b k. entry_fail bytes (at + body_size f at) (extended f at e) (omega (arith, b)) k) (at_boundary f at) refl (checked (body_number s f at e) at) refl q
    where
      go : (1 ≤ body_size f at → at + body_size f at ≤ length f → entry_from bytes s f start (at + body_size f at) (extended f at e) ≡ bad r → Fail (at + body_size f at) (extended f at e))
          → (b : Bool) → at_boundary f at ≡ b → (x : Result ⊤ Refusal) → checked (body_number s f at e) at ≡ x
          → choose b (λ _. finished s start at e) (λ _. body_then x (λ _. entry_from bytes s f start (at + body_size f at) (extended f at e))) ≡ bad r → Fail at e
      go ih true d x c q = now at e l (inl (d, q))
      go ih false d (Err p) c q = now at e l (inr (d, c ∙ ap Err (bad_same q)))
      go ih false d (Ok _) c q = let b = record_back s f at e c in later at e b (λ k. ih (some b) k q)
        where
          some : Back f at e → 1 ≤ body_size f at
          some b = least b.item b.size
            where
              least : (w : EntryRecord) → body_size f at ≡ length (record_bytes w) → 1 ≤ body_size f at
              least (message_record m) e = omega arith
              least (waiting_record p v x) e = omega arith

-- ---- an entry

module _ (P : pws.Program) (B : ShapeBegun P.shape) (f : List ℕ) (start : ℕ) (r : Refusal) (rec : EntryRecords) (T : Stands f start (entry_bytes rec)) where
  abbrev place : ℕ
  place = start + length (entry_bytes rec)

  abbrev d : Configuration
  d = entry_of rec

  abbrev sh : Shape
  sh = shape_for P.shape

  by_end : at_boundary f place ≡ true → finished sh start place d ≡ bad r → EntryFault P f start r
  unfolding at_boundary finished is_kind
  by_end b q = go (complete sh (length d.memory.channel) d.memory.pointer) refl q
    where
      edge : (length f ≡ place) ⊎ (byte f place ≡ 16)
      edge = ⊎_elim (λ a. inl (omega (arith, leb-true (length f) place a, T.fits))) (λ a. inr (eqb-true (byte f place) 16 a)) (or_cases (leb (length f) place) (eqb (byte f place) 16) b)

      go : (c : Bool) → complete sh (length d.memory.channel) d.memory.pointer ≡ c → cond c (whole d place) (bad (record { number = 7; place = start })) ≡ bad r → EntryFault P f start r
      go true c q = absurd (whole_bad q)
      go false c q =
          let e = bad_same q in
          not_complete rec T edge (λ K. no_true (sym c ∙ complete_tells P B.shape d K)) (ap (λ (p : Refusal). p.number) (sym e)) (ap (λ (p : Refusal). p.place) (sym e))

  by_record : at_boundary f place ≡ false → checked (body_number sh f place d) place ≡ Err r → EntryFault P f start r
  unfolding at_boundary body_number is_kind checked
  by_record b q = go (eqb (byte f place) 17) refl (eqb (byte f place) 18) refl q
    where
      counts : (v : ℕ) → value_count sh v ≡ P.shape.values v
      counts = value_same P.shape B.shape B.values

      near : (place < length f) × (eqb (byte f place) 16 ≡ false)
      near = both_false (leb (length f) place) refl (eqb (byte f place) 16) refl b
        where
          both_false : (x : Bool) → leb (length f) place ≡ x → (y : Bool) → eqb (byte f place) 16 ≡ y → (x || y) ≡ false → (place < length f) × (eqb (byte f place) 16 ≡ false)
          both_false true i y j e = absurd (no_true (sym e))
          both_false false i true j e = absurd (no_true (sym e))
          both_false false i false j e = (leb-false (length f) place i, j)

      go : (x : Bool) → eqb (byte f place) 17 ≡ x → (y : Bool) → eqb (byte f place) 18 ≡ y
          → checked (cond x (message_number sh f place (length d.memory.channel)) (cond y (waiting_number sh f place (length (d.queue (byte f (place + 1)) (byte f (place + 2))))) 2)) place ≡ Err r
          → EntryFault P f start r
      go true i y j q =
          let k = eqb-true (byte f place) 17 i in
          let w = message_fault P B.shape counts f place r (length d.memory.channel) k q in
          in_message rec T w.0 (omega (arith, w.0, near.0)) (ap (byte f) w.0 ∙ k)
          (subst (λ (i : ℕ). MessageFault P (length d.memory.channel) f i r.number) (sym w.0) w.1)
      go false i true j q =
          let k = eqb-true (byte f place) 18 j in
          let w = waiting_fault P B.shape counts f place r d.queue k q in
          in_waiting rec T w.0 (omega (arith, w.0, near.0)) (ap (byte f) w.0 ∙ k)
          (subst (λ (i : ℕ). WaitingFault P d.queue f i r.number) (sym w.0) w.1)
      go false i false j q =
          let e : record { number = 2; place = place } ≡ r = refused_same q in
          let p : r.place ≡ place = ap (λ (p : Refusal). p.place) (sym e) in
          other_kind rec T p (omega (arith, near.0)) (ap (λ (p : Refusal). p.number) (sym e))
          (λ a. eqb-false (byte f place) 16 near.1 (ap (byte f) (sym p) ∙ a))
          (λ a. eqb-false (byte f place) 17 i (ap (byte f) (sym p) ∙ a))
          (λ a. eqb-false (byte f place) 18 j (ap (byte f) (sym p) ∙ a))

pub entry_refused : EntryRefused
unfolding entry_read is_kind
entry_refused P B f start r k l q =
    let s = shape_for P.shape in
    let F = entry_fail s f start r (length f) (start + 9) (beginning f start) (omega arith) l q in
    let rec : EntryRecords = record { state = state_at f start; pointer = pointer_at f start; body = F.items } in
    let H : Stands f start (head_bytes rec) = stands_record f start 16 8 (eq-eqb (byte f start) 16 k) (omega arith) in
    let T = stands_join (head_bytes rec) (joined record_bytes F.items) H F.stands in
    let y : start + 9 + length (joined record_bytes F.items) ≡ start + length (entry_bytes rec) = omega (arith, length-append (head_bytes rec) (joined record_bytes F.items)) in
    let e = says_entry (beginning f start) F.items refl (λ p v. refl) in
    ⊎_elim
    (λ a. by_end P B f start r rec T (ap (at_boundary f) (sym y) ∙ a.0) (ap₂ (finished s start) (sym y) (sym e) ∙ a.1))
    (λ a. by_record P B f start r rec T (ap (at_boundary f) (sym y) ∙ a.0) (ap₂ (λ (i : ℕ) (c : Configuration). checked (body_number s f i c) i) (sym y) (sym e) ∙ a.1))
    F.stops
