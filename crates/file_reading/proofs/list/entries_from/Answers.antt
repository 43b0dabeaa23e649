use Rattle.std.proofs.lemmas.Result.{err_from_is_err_and}
use Rattle.std.specs.Prelude.{Result, Ok, Err, ⊤}
use Rattle.file_records.specs.declared.program.Refusal.{Refusal}
use Prim.Native.Nat.{ℕ, ◌-◌}
use mathlib.Core.Path.{◌≡◌, sym, ap, ◌∙◌}
use mathlib.Core.List.{List, []}
use native.Mathlib.Omega.{arith}
use lib.ListN.{length}
use lib.Dec.{leb}
use Rattle.machine_pws.specs.Machine.{Configuration}
use Rattle.file_records.specs.declared.program.Shape.{Shape}
use Rattle.file_records.specs.Records.{checked, entry_number}
use Rattle.file_contents.specs.EvidencePart.{whole, entry_read, EntriesRead, stop_at, entries_from, wrote_from}
use Rattle.file_contents.specs.Tally.{count_of}
use Rattle.file_reading.specs.Tally.{end_of}
use Rattle.base.proofs.ByteLaws.{cut_fits}
use Rattle.file_records.proofs.RecordLaws.{entry_fine}
use Rattle.file_reading.proofs.ListLaws.{entry_past, end_whole, end_bad, list_ends, head_stops, entry_refused, wrote_length, listed_begin, listed_next}
use Rattle.file_reading.proofs.list.entries_from.Goals as goal

-- the 10 is fine, or its refusal
head : {x y z : Result ⊤ Refusal} → x ≡ y → x ≡ z → y ≡ z
head e d = sym e ∙ d

body : (s : Shape) (f : List ℕ) (k n : ℕ) {x : Result ℕ Refusal} → x ≡ end_of (entry_read s f k) → x ≡ Ok n → (e : Configuration) × (entry_read s f k ≡ whole e n)
body s f k n e d = end_whole (entry_read s f k) n (sym e ∙ d)

same : (list₀ : List ℕ) {list : List ℕ} (os : List ℕ) → list ≡ wrote_from 0 os list₀ → length list ≡ length list₀
same list₀ os e = ap length e ∙ wrote_length 0 os list₀

pub loop-k-init : goal.loop-k-init
loop-k-init c = listed_begin c.args.shape c.args.states c.args.file.now c.args.at c.args.allowed c.args.list.now

pub shape_of-list-in_err-check_entry : goal.shape_of-list-in_err-check_entry
shape_of-list-in_err-check_entry c = same c.args.list.now c.loop-k.invariant.offsets c.loop-k.invariant.wrote

pub returns-in_err-check_entry : goal.returns-in_err-check_entry
returns-in_err-check_entry c = let a = c.args in
    let L = c.loop-k.invariant in
    let p = err_from_is_err_and c.from_residual.result c.from_residual.ensures.1 in
    let r = p.0 in
    let q : checked (entry_number a.shape a.states a.file.now c.loop-k.k (leb a.allowed c.loop-k.n)) c.loop-k.k ≡ Err r = rw p.2 (sym c.check_entry.ensures ∙ c.in_err-check_entry.was) in
    let e : entries_from a.allowed a.shape a.states a.file.now a.at [] [] ≡ stop_at L.offsets L.entries r =
    sym L.reads ∙ head_stops a.shape a.states a.file.now c.loop-k.k L.offsets L.entries a.allowed c.loop-k.n c.loop-k-test.true r q in
    record { value = p.1 ∙ sym (ap count_of e); list_after = L.wrote ∙ sym (ap (λ (x : EntriesRead). wrote_from 0 x.offsets a.list.now) e) }

pub entry_from-requires : goal.entry_from-requires
entry_from-requires c = let g = cut_fits c.args.file.now c.loop-k.k 8 (entry_fine c.args.file.now c.loop-k.k c.args.shape c.args.states (leb c.args.allowed c.loop-k.n) (head c.check_entry.ensures c.in_ok-check_entry.was)).whole in
    (omega (arith, g), c.requires.0, c.requires.1)

pub shape_of-list-in_err-next : goal.shape_of-list-in_err-next
shape_of-list-in_err-next c = same c.args.list.now c.loop-k.invariant.offsets c.loop-k.invariant.wrote

pub returns-in_err-next : goal.returns-in_err-next
returns-in_err-next c = let a = c.args in
    let L = c.loop-k.invariant in
    let p = err_from_is_err_and c.from_residual-in_err-next.result c.from_residual-in_err-next.ensures.1 in
    let r = p.0 in
    let d = end_bad (entry_read a.shape a.file.now c.loop-k.k) r (rw p.2 (sym c.entry_from.ensures ∙ c.in_err-next.was)) in
    let e : entries_from a.allowed a.shape a.states a.file.now a.at [] [] ≡ stop_at L.offsets L.entries r =
    sym L.reads ∙ entry_refused a.shape a.states a.file.now c.loop-k.k L.offsets L.entries a.allowed c.loop-k.n c.loop-k-test.true (head c.check_entry.ensures c.in_ok-check_entry.was) r d in
    record { value = p.1 ∙ sym (ap count_of e); list_after = L.wrote ∙ sym (ap (λ (x : EntriesRead). wrote_from 0 x.offsets a.list.now) e) }

pub overflow_add-n : goal.overflow_add-n
overflow_add-n c = omega (arith, c.loop-k.invariant.most, c.requires.2)

pub loop-k-smaller : goal.loop-k-smaller
loop-k-smaller c = omega (arith, c.loop-k-test.true, entry_past c.args.shape c.args.file.now c.loop-k.k (body c.args.shape c.args.file.now c.loop-k.k c.in_ok-next.next c.entry_from.ensures c.in_ok-next.was).0 c.in_ok-next.next (body c.args.shape c.args.file.now c.loop-k.k c.in_ok-next.next c.entry_from.ensures c.in_ok-next.was).1)

pub loop-k-preserved : goal.loop-k-preserved
loop-k-preserved c = listed_next c.loop-k.invariant (body c.args.shape c.args.file.now c.loop-k.k c.in_ok-next.next c.entry_from.ensures c.in_ok-next.was).0 c.loop-k-test.true (head c.check_entry.ensures c.in_ok-check_entry.was) (body c.args.shape c.args.file.now c.loop-k.k c.in_ok-next.next c.entry_from.ensures c.in_ok-next.was).1 (omega (arith, c.word_place.ensures, c.loop-k.invariant.most, c.requires.2)) c.store_number.ensures

pub shape_of-list : goal.shape_of-list
shape_of-list c = same c.args.list.now c.loop-k.invariant.offsets c.loop-k.invariant.wrote

pub returns : goal.returns
returns c = let a = c.args in
    let L = c.loop-k.invariant in
    let e : entries_from a.allowed a.shape a.states a.file.now a.at [] [] ≡ record { offsets = L.offsets; entries = L.entries; answer = Ok tt } =
    sym L.reads ∙ list_ends a.shape a.states a.file.now c.loop-k.k L.offsets L.entries (a.allowed - c.loop-k.n) c.loop-k-test.false in
    record { value = ap (λ (m : ℕ). Ok m) L.count ∙ sym (ap count_of e); list_after = L.wrote ∙ sym (ap (λ (x : EntriesRead). wrote_from 0 x.offsets a.list.now) e) }
