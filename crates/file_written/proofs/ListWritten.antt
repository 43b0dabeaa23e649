-- A written list is read as what was written.
use Rattle.std.specs.Prelude.{Ok}
use Prim.Native.Nat.{ℕ, zero, suc, ◌+◌, ◌*◌, ◌<◌, ◌≤◌}
use mathlib.Core.Path.{◌≡◌, refl, sym, ap, ap₂, subst, ◌∙◌}
use mathlib.Core.Bool.{Bool, true, false, ◌||◌}
use mathlib.Core.List.{List, [], ◌∷◌, ◌++◌, append_assoc, append-nil}
use native.Mathlib.Omega.{arith}
use lib.ListN.{length, get_or, length-append}
use lib.Dec.{leb}
use borrow.Author.Tests.{le-leb, lt-leb}
use Rattle.machine_pws.specs.Program as pws
use Rattle.machine_pws.specs.Machine.{Configuration}
use Rattle.machine_pws.specs.Entries.{entry}
use Rattle.base.specs.Bytes.{byte, choose}
use Rattle.file_records.specs.Records.{checked, value_count, is_kind, entry_number}
use Rattle.file_contents.specs.EvidencePart.{at_boundary, whole, entry_read, EntriesRead, entries_from, entries_allowed}
use Rattle.file_contents.specs.Reading.{Input, entries, list, evidence_read, evidence_from, read_file}
use Rattle.file_contents.proofs.ReadingLaws.{evidence_entries}
use Rattle.file_again.specs.Contents.{EntryRange, ListRead}
use Rattle.file_written.specs.Written.{joined, claim_bytes, EntryRecords, head_bytes, entry_bytes, record_bytes, list_bytes, entry_of, entries_of, program_bytes}
use Rattle.file_written.specs.ProgramPart.{ProgramContents}
use Rattle.file_written.specs.Lists.{RecordsWrittenIsRead}
use Rattle.file_written.specs.Standing.{Stands}
use Rattle.file_written.proofs.Standing.{stands_left, stands_right, stands_kind}
use Rattle.file_written.specs.ProgramPart.{shape_for}
use Rattle.file_written.proofs.ProgramWritten.{four, four_each, value_same, placed}
use Rattle.file_written.proofs.Placed.{Placed, placed_one, placed_two, placed_read}
use Rattle.file_written.proofs.RunWritten.{claim_passes}
use Rattle.file_written.proofs.EntryWritten.{head_passes, entry_written}

pub entries_length : (rs : List EntryRecords) → length (entries_of rs) ≡ length rs
entries_length [] = refl
entries_length (r ∷ rs) = ap suc (entries_length rs)

module _ (P : pws.Program) (range : pws.ShapeInRange P.shape) (counts : (v : ℕ) → value_count (shape_for P.shape) v ≡ P.shape.values v)
    (states : List ℕ) (stated : (p : ℕ) → get_or states p 0 ≡ P.states p) (f : List ℕ) where
  -- a 10 or the file's end
  edge : (at : ℕ) (rs : List EntryRecords) → Stands f at (joined entry_bytes rs) → length f ≡ at + length (joined entry_bytes rs) → at_boundary f at ≡ true
  unfolding at_boundary
  edge at [] T e = rw (le-leb (length f) at (omega arith))
  edge at (r ∷ rs) T e = rw (stands_kind 16 _ (stands_left (entry_bytes r) (joined entry_bytes rs) T)) (any (leb (length f) at))
    where
      any : (b : Bool) → (b || true) ≡ true
      any true = refl
      any false = refl

  ends_here : (left at : ℕ) (os : List ℕ) (es : List Configuration) → length f ≤ at → entries_from left (shape_for P.shape) states f at os es ≡ record { offsets = os; entries = es; answer = Ok tt }
  unfolding entries_from
  ends_here zero at os es l = rw (le-leb (length f) at l)
  ends_here (suc left) at os es l = rw (le-leb (length f) at l)

  goes_on : (left at next : ℕ) (os : List ℕ) (es : List Configuration) (e : Configuration) → at < length f → checked (entry_number (shape_for P.shape) states f at false) at ≡ Ok tt
      → entry_read (shape_for P.shape) f at ≡ whole e next
      → entries_from (suc left) (shape_for P.shape) states f at os es ≡ entries_from left (shape_for P.shape) states f next (os ++ (at ∷ [])) (es ++ (e ∷ []))
  unfolding entries_from
  goes_on left at next os es e l h q = rw (lt-leb (length f) at l, h, q)

  -- the entries, and their offsets
  record Reads (left at : ℕ) (os : List ℕ) (es more : List Configuration) : Type 0 where
    offsets : List ℕ
    reads : entries_from left (shape_for P.shape) states f at os es ≡ record { offsets = offsets; entries = es ++ more; answer = Ok tt }

  list_read : (rs : List EntryRecords) (left at : ℕ) (os : List ℕ) (es : List Configuration) → ((k : ℕ) → k < length (entries_of rs) → EntryRange P (entry (entries_of rs) k)) → length rs ≤ left
      → Stands f at (joined entry_bytes rs) → length f ≡ at + length (joined entry_bytes rs) → Reads left at os es (entries_of rs)
  list_read [] left at os es w l T e =
      record {
        offsets = os;
        reads = ends_here left at os es (omega arith) ∙ ap (λ (es : List Configuration). record { offsets = os; entries = es; answer = Ok tt }) (sym (append-nil es));
      }
  list_read (r ∷ rs) zero at os es w l T e = absurd (omega arith)
  list_read (r ∷ rs) (suc left) at os es w l T e =
      let H = stands_left (entry_bytes r) (joined entry_bytes rs) T in
      let R = stands_right (entry_bytes r) (joined entry_bytes rs) T in
      let n = length-append (entry_bytes r) (joined entry_bytes rs) in
      let next = at + length (entry_bytes r) in
      let E : EntryRange P (entry_of r) = w 0 (omega arith) in
      let end : length f ≡ next + length (joined entry_bytes rs) = omega arith in
      let M = list_read rs left next (os ++ (at ∷ [])) (es ++ (entry_of r ∷ [])) (λ k i. w (suc k) (omega arith)) (omega arith) R end in
      record {
        offsets = M.offsets;
        reads =
            goes_on left at next os es (entry_of r) (omega (arith, H.fits, length-append (head_bytes r) (joined record_bytes r.body))) (head_passes P range counts states stated r E f at H)
            (entry_written P range counts states stated r E f at H (edge next rs R end))
            ∙ M.reads
            ∙ ap (λ (es : List Configuration). record { offsets = M.offsets; entries = es; answer = Ok tt }) (append_assoc es (entry_of r ∷ []) (entries_of rs));
      }

module _ (P : pws.Program) (ts : List (ℕ → ℕ)) (rs : List EntryRecords) (area : ℕ) (K : ProgramContents P ts) (W : ListRead P ts (entries_of rs) area) (large : 65536 ≤ area)
    (x : Input) (L : Placed x P ts (list_bytes rs)) where
  pub list_placed : read_file x area ≡ list P ts (entries_of rs)
  list_placed =
      let f = x.file in
      let at = L.at in
      let C = stands_left (claim_bytes 0) (joined entry_bytes rs) L.stands in
      let T = stands_right (claim_bytes 0) (joined entry_bytes rs) L.stands in
      let range = K.part.program.shape in
      let n = length-append (claim_bytes 0) (joined entry_bytes rs) in
      let end : length f ≡ at + 2 + length (joined entry_bytes rs) = omega (arith, L.whole) in
      let M = list_read P range (value_same P.shape range K.values) (four P.states) (four_each P.states (λ p l. K.states p (omega (arith, range.processes)))) f
      rs (entries_allowed area) (at + 2) [] [] W.entries (omega (arith, W.count, entries_length rs)) T end in
      let p = L.program in
      let t = L.targets in
      placed_read L area large
      ∙ ap (evidence_read x (placed P ts 0)) (evidence_entries f at (placed P ts 0) area (claim_passes f at 0 C (omega arith)) (C.same 1 (omega arith)))
      ∙ ap (λ (r : EntriesRead). evidence_read x (placed P ts 0) (entries r)) M.reads
      ∙ (λ i. list (p i) (t i) (entries_of rs))

pub records_written_is_read : RecordsWrittenIsRead
records_written_is_read P ts rs area K W l =
    record {
      one = list_placed P ts rs area K W l _ (placed_one P ts K (0 ∷ joined entry_bytes rs));
      two = list_placed P ts rs area K W l _ (placed_two P ts K (0 ∷ joined entry_bytes rs));
    }
