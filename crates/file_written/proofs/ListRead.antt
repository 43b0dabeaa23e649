-- A file with a list that was read is the written form of what it was read as, in the order that its records stand in.
use Rattle.std.specs.Prelude.{Result, Ok, Err, ⊤}
use Prim.Native.Nat.{ℕ, zero, suc, ◌+◌, ◌*◌, ◌-◌, ◌<◌, ◌≤◌}
use mathlib.Core.Path.{◌≡◌, refl, sym, ap, ap₂, subst, ◌∙◌}
use mathlib.Core.Bool.{Bool, true, false, cond, ◌&&◌, not}
use mathlib.Core.List.{List, [], ◌∷◌, ◌++◌, append_assoc, append-nil}
use native.Mathlib.Omega.{arith}
use lib.ListN.{length, length-append}
use lib.Dec.{eqb, leb}
use borrow.Author.Tests.{leb-true, not-false}
use Rattle.machine_pws.specs.declared.Step.{Step}
use Rattle.machine_pws.specs.Program as pws
use Rattle.machine_pws.specs.Machine.{Configuration}
use Rattle.file_records.specs.declared.program.Shape.{Shape}
use Rattle.file_records.specs.declared.program.Program.{Program}
use Rattle.file_records.specs.declared.program.Refusal.{Refusal}
use Rattle.base.specs.Bytes.{byte, choose, cut}
use Rattle.file_records.specs.Records.{checked, is_kind, exists, state_at, pointer_at, entry_number, message_at, message_number, message_names, waiting_number, waiting_names}
use Rattle.file_records.specs.ProgramPart.{program_from, program_of, targets_of, program_read}
use Rattle.file_contents.specs.EvidencePart.{beginning, with_message, with_waiting, extended, body_size, body_number, complete, EntryRead, whole, bad, at_boundary, finished, body_then, entry_from, entry_read, EntriesRead, head_then, entry_then, entries_from, entries_allowed}
use Rattle.file_contents.specs.Reading.{Input, combined, pair, evidence_at, FileRead, refused, list, run, pso_run, read_file}
use Rattle.base.proofs.ByteLaws.{cut_fits}
use Rattle.file_records.proofs.RecordLaws.{Good, good, fine_refused, entry_fine}
use Rattle.file_again.proofs.Names.{no_true}
use Rattle.file_again.proofs.Entry.{whole_inverse, bad_whole}
use Rattle.file_again.proofs.Contents.{ListParts, RunParts, Outcome, outcome_refused, outcome_list, outcome_run, outcome, file_list, file_run, listed}
use Rattle.file_written.specs.Written.{joined, claim_bytes, EntryRecord, message_record, waiting_record, record_bytes, EntryRecords, head_bytes, entry_bytes, list_bytes, channel_of, waiting_of, entry_of, entries_of, program_bytes}
use Rattle.file_written.specs.Lists.{ListReadIsWritten}
use Rattle.file_written.specs.Standing.{Stands}
use Rattle.file_written.proofs.Standing.{stands_moved, stands_join, stands_record}
use Rattle.file_written.proofs.ProgramRead.{PartRead, part_written}
use Rattle.file_written.proofs.EvidenceRead.{parts_evidence, Claimed, claimed_list, EvidenceStands, one_file, two_files}
use Rattle.file_written.proofs.EntryWritten.{added, added_all, all_state, all_pointer, all_channel, all_queue}

-- ---- one record after a 10

pub record Back (f : List ℕ) (at : ℕ) (e : Configuration) : Type 0 where
  pub item : EntryRecord
  pub stands : Stands f at (record_bytes item)
  pub says : extended f at e ≡ added e item
  pub size : body_size f at ≡ length (record_bytes item)

pub record_back : (s : Shape) (f : List ℕ) (at : ℕ) (e : Configuration) → checked (body_number s f at e) at ≡ Ok tt → Back f at e
unfolding body_number message_number waiting_number checked extended body_size
record_back s f at e d = go (is_kind f at 17) refl (is_kind f at 18) refl d
  where
    two : checked 2 at ≡ Ok tt → ⊥
    two q = let z : ◌≡◌ {A = ℕ} 0 1 = cc in omega arith

    go : (a : Bool) → is_kind f at 17 ≡ a → (b : Bool) → is_kind f at 18 ≡ b
        → checked (cond a (message_number s f at (length e.memory.channel)) (cond b (waiting_number s f at (length (e.queue (byte f (at + 1)) (byte f (at + 2))))) 2)) at ≡ Ok tt
        → Back f at e
    go true k b j q =
        let g : Good false (cut f at 6) (leb 16 (length e.memory.channel)) false (not (message_names s f at)) = good at q in
        record { item = message_record (message_at f at); stands = stands_record f at 17 6 k (omega (arith, cut_fits f at 6 g.whole)); says = rw k; size = rw k }
    go false k true j q =
        let g : Good false (cut f at 3) (exists s (byte f (at + 1)) (byte f (at + 2)) && leb 8 (length (e.queue (byte f (at + 1)) (byte f (at + 2))))) false (not (waiting_names s f at)) = good at q in
        record {
          item = waiting_record (byte f (at + 1)) (byte f (at + 2)) (byte f (at + 3));
          stands = stands_record f at 18 3 j (omega (arith, cut_fits f at 3 g.whole));
          says = rw k;
          size = rw k;
        }
    go false k false j q = absurd (two q)

-- ---- the records of an entry

module _ (s : Shape) (f : List ℕ) (start : ℕ) where
  record Body (at : ℕ) (e d : Configuration) (next : ℕ) : Type 0 where
    items : List EntryRecord
    stands : Stands f at (joined record_bytes items)
    ends : next ≡ at + length (joined record_bytes items)
    says : added_all e items ≡ d

  none : (at : ℕ) (e : Configuration) → at ≤ length f → (d : Configuration) (next : ℕ) → finished s start at e ≡ whole d next → Body at e d next
  unfolding finished
  none at e l d next q = go (complete s (length e.memory.channel) e.memory.pointer) q
    where
      go : (b : Bool) → cond b (whole e at) (bad (record { number = 7; place = start })) ≡ whole d next → Body at e d next
      go true q =
          let w = whole_inverse q in
          record { items = []; stands = record { fits = omega arith; same = λ k i. absurd (omega arith) }; ends = omega (arith, w.1); says = w.0 }
      go false q = absurd (bad_whole q)

  one_more : (at : ℕ) (e d : Configuration) (next : ℕ) (b : Back f at e) → (at + body_size f at ≤ length f → Body (at + body_size f at) (extended f at e) d next) → Body at e d next
  one_more at e d next b ih =
      let size = b.size in
      let r = ih (omega (arith, b.stands.fits)) in
      let y : at + body_size f at ≡ at + length (record_bytes b.item) = omega arith in
      record {
        items = b.item ∷ r.items;
        stands = stands_join (record_bytes b.item) (joined record_bytes r.items) b.stands (stands_moved y r.stands);
        ends = omega (arith, r.ends, length-append (record_bytes b.item) (joined record_bytes r.items));
        says = ap (λ (c : Configuration). added_all c r.items) (sym b.says) ∙ r.says;
      }

  body_back : (bytes at : ℕ) (e : Configuration) (d : Configuration) (next : ℕ) → entry_from bytes s f start at e ≡ whole d next → at ≤ length f → Body at e d next
  unfolding entry_from
  body_back zero at e d next q l = none at e l d next q
  body_back (suc bytes) at e d next q l = go (body_back bytes (at + body_size f at) (extended f at e) d next) (at_boundary f at) (checked (body_number s f at e) at) refl q
    where
      go : (entry_from bytes s f start (at + body_size f at) (extended f at e) ≡ whole d next → at + body_size f at ≤ length f → Body (at + body_size f at) (extended f at e) d next)
          → (b : Bool) (x : Result ⊤ Refusal) → checked (body_number s f at e) at ≡ x
          → choose b (λ _. finished s start at e) (λ _. body_then x (λ _. entry_from bytes s f start (at + body_size f at) (extended f at e))) ≡ whole d next → Body at e d next
      go ih true x k q = none at e l d next q
      go ih false (Err r) k q = absurd (bad_whole q)
      go ih false (Ok _) k q = one_more at e d next (record_back s f at e k) (ih q)

-- ---- an entry

pub says_entry : (e : Configuration) (rs : List EntryRecord) → e.memory.channel ≡ [] → ((p v : ℕ) → e.queue p v ≡ [])
    → added_all e rs ≡ entry_of (record { state = e.state; pointer = e.memory.pointer; body = rs })
says_entry e rs c q =
    let a = all_state e rs in
    let b = all_channel e rs ∙ ap (λ ms. channel_of ms rs) c in
    let d = all_pointer e rs in
    let w : (p v : ℕ) → (added_all e rs).queue p v ≡ waiting_of rs p v = λ p v. all_queue e rs p v ∙ ap (λ (ys : List ℕ). ys ++ waiting_of rs p v) (q p v) in
    λ i. record { state = a i; queue = λ p v. w p v i; memory = record { channel = b i; pointer = d i } }

module _ (s : Shape) (states f : List ℕ) where
  record Entry (at : ℕ) (e : Configuration) (next : ℕ) : Type 0 where
    records : EntryRecords
    stands : Stands f at (entry_bytes records)
    ends : next ≡ at + length (entry_bytes records)
    says : entry_of records ≡ e

  entry_back : (at : ℕ) (e : Configuration) (next : ℕ) → checked (entry_number s states f at false) at ≡ Ok tt → entry_read s f at ≡ whole e next → Entry at e next
  unfolding entry_read
  entry_back at e next h q =
      let g = entry_fine f at s states false h in
      let fits = cut_fits f at 8 g.whole in
      let H : Stands f at (head_bytes (record { state = state_at f at; pointer = pointer_at f at; body = [] })) = stands_record f at 16 8 (not-false _ g.allowed) (omega arith) in
      let b = body_back s f at (length f) (at + 9) (beginning f at) e next q (omega arith) in
      let r : EntryRecords = record { state = state_at f at; pointer = pointer_at f at; body = b.items } in
      record {
        records = r;
        stands = stands_join (head_bytes r) (joined record_bytes b.items) H b.stands;
        ends = omega (arith, b.ends, length-append (head_bytes r) (joined record_bytes b.items));
        says = sym (says_entry (beginning f at) b.items refl (λ p v. refl)) ∙ b.says;
      }

  -- ---- entries

  record Rest (at : ℕ) (es : List Configuration) (r : EntriesRead) : Type 0 where
    records : List EntryRecords
    stands : Stands f at (joined entry_bytes records)
    ends : length f ≡ at + length (joined entry_bytes records)
    says : r.entries ≡ es ++ entries_of records

  nothing : (at : ℕ) (os : List ℕ) (es : List Configuration) → at ≤ length f → leb (length f) at ≡ true → Rest at es (record { offsets = os; entries = es; answer = Ok tt })
  nothing at os es l e =
      let m = leb-true (length f) at e in
      record { records = []; stands = record { fits = omega arith; same = λ k i. absurd (omega arith) }; ends = omega arith; says = sym (append-nil es) }

  last : (at : ℕ) (os : List ℕ) (es : List Configuration) → at ≤ length f → (b : Bool) → leb (length f) at ≡ b → (x : Result ⊤ Refusal) → checked (entry_number s states f at true) at ≡ x
      → (let r : EntriesRead = choose b (λ _. record { offsets = os; entries = es; answer = Ok tt }) (λ _. head_then x os es (λ _. record { offsets = os; entries = es; answer = Ok tt })) in
      r.answer ≡ Ok tt → Rest at es r)
  last at os es l true e x d q = nothing at os es l e
  last at os es l false e (Ok _) d q = absurd (no_true (sym (entry_fine f at s states true d).room))
  last at os es l false e (Err r) d q = absurd (fine_refused (sym q))

  longer : (left at : ℕ) (os : List ℕ) (es : List Configuration) → at ≤ length f
      → ((e : Configuration) (next : ℕ) → next ≤ length f → (entries_from left s states f next (os ++ (at ∷ [])) (es ++ (e ∷ []))).answer ≡ Ok tt
      → Rest next (es ++ (e ∷ [])) (entries_from left s states f next (os ++ (at ∷ [])) (es ++ (e ∷ []))))
      → (b : Bool) → leb (length f) at ≡ b → (x : Result ⊤ Refusal) → checked (entry_number s states f at false) at ≡ x → (y : EntryRead) → entry_read s f at ≡ y
      → (let r : EntriesRead =
      choose b (λ _. record { offsets = os; entries = es; answer = Ok tt })
      (λ _. head_then x os es (λ _. entry_then y os es (λ e next. entries_from left s states f next (os ++ (at ∷ [])) (es ++ (e ∷ []))))) in
      r.answer ≡ Ok tt → Rest at es r)
  longer left at os es l ih true e x d y c q = nothing at os es l e
  longer left at os es l ih false e (Err r) d y c q = absurd (fine_refused (sym q))
  longer left at os es l ih false e (Ok _) d (bad r) c q = absurd (fine_refused (sym q))
  longer left at os es l ih false e (Ok _) d (whole c' next) c q =
      let E = entry_back at c' next d c in
      let ends = E.ends in
      let R = ih c' next (omega (arith, E.stands.fits)) q in
      record {
        records = E.records ∷ R.records;
        stands = stands_join (entry_bytes E.records) (joined entry_bytes R.records) E.stands (stands_moved ends R.stands);
        ends = omega (arith, R.ends, length-append (entry_bytes E.records) (joined entry_bytes R.records));
        says = R.says ∙ append_assoc es (c' ∷ []) (entries_of R.records) ∙ ap (λ (c : Configuration). es ++ (c ∷ entries_of R.records)) (sym E.says);
      }

  entries_back : (left at : ℕ) (os : List ℕ) (es : List Configuration) → at ≤ length f → (entries_from left s states f at os es).answer ≡ Ok tt → Rest at es (entries_from left s states f at os es)
  unfolding entries_from
  entries_back zero at os es l q = last at os es l (leb (length f) at) refl (checked (entry_number s states f at true) at) refl q
  entries_back (suc left) at os es l q =
      longer left at os es l (λ e next m. entries_back left next (os ++ (at ∷ [])) (es ++ (e ∷ [])) m) (leb (length f) at) refl (checked (entry_number s states f at false) at) refl
      (entry_read s f at) refl q

-- ---- the files

module _ (x : Input) (area : ℕ) (L : ListParts x area) where
  abbrev f : List ℕ
  f = x.file

  abbrev p : Program
  p = program_read (program_from x.alone x.code 0)

  abbrev at : ℕ
  at = evidence_at x p

  pub record Listing : Type 0 where
    pub records : List EntryRecords
    pub says : entries_of records ≡ (listed x area).entries
    pub stands : EvidenceStands x p (list_bytes records)

  pub listing : Listing
  listing =
      let C = claimed_list f at p area (listed x area) (parts_evidence x area L.fine p _ L.parts).1 in
      let S : Stands f at (claim_bytes 0) = subst (λ (k : ℕ). Stands f at (claim_bytes k)) C.1 C.0.stands in
      let R = entries_back p.shape p.states f (entries_allowed area) (at + 2) [] [] S.fits L.answer in
      record {
        records = R.records;
        says = sym R.says;
        stands =
            record {
              stands = stands_join (claim_bytes 0) (joined entry_bytes R.records) S R.stands;
              whole = omega (arith, R.ends, length-append (claim_bytes 0) (joined entry_bytes R.records));
            };
      }

abbrev pub HeldAs : (pws.Program → List (ℕ → ℕ) → List Configuration → Type 0) → FileRead → Type 0
HeldAs G (refused w r) = Unit {0}
HeldAs G (list P ts es) = G P ts es
HeldAs G (run P ts m ss) = Unit {0}
HeldAs G (pso_run P ts m ss) = Unit {0}

module _ (x : Input) (area : ℕ) (G : pws.Program → List (ℕ → ℕ) → List Configuration → Type 0) where
  no_list : (b : Bool) (P : pws.Program) (ts : List (ℕ → ℕ)) (m : List ℕ) (ss : List Step) → HeldAs G (cond b (run P ts m ss) (pso_run P ts m ss))
  no_list true P ts m ss = tt
  no_list false P ts m ss = tt

  pub list_held : ((L : ListParts x area) → G (program_of x.code (p x area L)) (targets_of x.code (p x area L)) (listed x area).entries) → HeldAs G (read_file x area)
  list_held h = go (outcome x area)
    where
      go : Outcome x area → HeldAs G (read_file x area)
      go (outcome_refused w r a b) = subst (HeldAs G) (sym b) tt
      go (outcome_list L) = subst (HeldAs G) (sym (file_list x area L)) (h L)
      go (outcome_run R) = subst (HeldAs G) (sym (file_run x area R)) (no_list (eqb (byte x.file (evidence_at x (program_read (program_from x.alone x.code 0)) + 1)) 1) _ _ _ _)

abbrev One : List ℕ → pws.Program → List (ℕ → ℕ) → List Configuration → Type 0
One f P ts es = (rs : List EntryRecords) × (entries_of rs ≡ es) × (f ≡ program_bytes P ts ++ list_bytes rs)

abbrev Two : List ℕ → List ℕ → pws.Program → List (ℕ → ℕ) → List Configuration → Type 0
Two g f P ts es = (rs : List EntryRecords) × (entries_of rs ≡ es) × (g ≡ program_bytes P ts) × (f ≡ list_bytes rs)

pub list_read_is_written : ListReadIsWritten
list_read_is_written P ts es area = (
  λ f q.
      subst (HeldAs (One f)) q (list_held (combined f) area (One f) (λ L.
      let M = listing (combined f) area L in
      (M.records, M.says, one_file f _ _ (part_written false f L.fine) M.stands))),
  λ g f q.
      subst (HeldAs (Two g f)) q (list_held (pair g f) area (Two g f) (λ L.
      let M = listing (pair g f) area L in
      let t = two_files g f _ _ (part_written true g L.fine) M.stands in
      (M.records, M.says, t.0, t.1))),
)
