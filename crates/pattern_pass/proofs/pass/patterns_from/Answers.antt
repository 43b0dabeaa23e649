use Prim.Native.Nat.{ℕ, ◌-◌}
use mathlib.Core.Path.{◌≡◌, sym, ap, ◌∙◌}
use mathlib.Core.List.{List, []}
use native.Mathlib.Omega.{arith}
use lib.ListN.{length}
use lib.Dec.{leb}
use Rattle.std.specs.Prelude.{Result, Ok, Err, ⊤}
use Rattle.std.proofs.lemmas.Result.{err_from_is_err_and}
use Rattle.file_records.specs.Records.{checked}
use Rattle.file_contents.specs.EvidencePart.{wrote_from}
use Rattle.pattern_reading.specs.Records.{pattern_number}
use Rattle.pattern_pass.specs.Passing.{PatternsListed, stopped_at, listed_from, count_listed}
use Rattle.pattern_pass.proofs.SeenLaws.{read_pattern}
use Rattle.pattern_pass.proofs.ListedLaws.{pattern_past, end_whole, end_bad, head_fine, list_ends, head_stops, pattern_refused, wrote_length, listed_begin, listed_next}
use Rattle.pattern_pass.proofs.pass.patterns_from.Goals as goal

same : (list₀ : List ℕ) {list : List ℕ} (os : List ℕ) → list ≡ wrote_from 0 os list₀ → length list ≡ length list₀
same list₀ os e = ap length e ∙ wrote_length 0 os list₀

pub loop-k-init : goal.loop-k-init
loop-k-init c = listed_begin c.args.shape c.args.states c.args.file.now c.args.at c.args.allowed c.args.list.now

pub shape_of-list-in_err-check_pattern : goal.shape_of-list-in_err-check_pattern
shape_of-list-in_err-check_pattern c = same c.args.list.now c.loop-k.invariant.offsets c.loop-k.invariant.wrote

pub returns-in_err-check_pattern : goal.returns-in_err-check_pattern
returns-in_err-check_pattern c = let a = c.args in
    let L = c.loop-k.invariant in
    let p = err_from_is_err_and c.from_residual.result c.from_residual.ensures.1 in
    let r = p.0 in
    let q : checked (pattern_number a.shape a.states a.file.now c.loop-k.k (leb a.allowed c.loop-k.n)) c.loop-k.k ≡ Err r = rw p.2 (sym c.check_pattern.ensures ∙ c.in_err-check_pattern.was) in
    let e : listed_from a.allowed a.shape a.states a.file.now a.at [] [] ≡ stopped_at L.offsets L.patterns r =
    sym L.reads ∙ head_stops a.shape a.states a.file.now c.loop-k.k L.offsets L.patterns a.allowed c.loop-k.n c.loop-k-test.true r q in
    record { value = p.1 ∙ sym (ap count_listed e); list_after = L.wrote ∙ sym (ap (λ (x : PatternsListed). wrote_from 0 x.offsets a.list.now) e) }

pub pattern_from-requires : goal.pattern_from-requires
pattern_from-requires c = let g = head_fine c.args.file.now c.loop-k.k c.args.shape c.args.states (leb c.args.allowed c.loop-k.n) (sym c.check_pattern.ensures ∙ c.in_ok-check_pattern.was) in
    (g.1, c.requires.0, c.requires.1)

pub shape_of-list-in_err-next : goal.shape_of-list-in_err-next
shape_of-list-in_err-next c = same c.args.list.now c.loop-k.invariant.offsets c.loop-k.invariant.wrote

pub returns-in_err-next : goal.returns-in_err-next
returns-in_err-next c = let a = c.args in
    let L = c.loop-k.invariant in
    let p = err_from_is_err_and c.from_residual-in_err-next.result c.from_residual-in_err-next.ensures.1 in
    let r = p.0 in
    let d = end_bad (read_pattern a.shape a.file.now c.loop-k.k) r (rw p.2 (sym c.pattern_from.ensures ∙ c.in_err-next.was)) in
    let e : listed_from a.allowed a.shape a.states a.file.now a.at [] [] ≡ stopped_at L.offsets L.patterns r =
    sym L.reads ∙ pattern_refused a.shape a.states a.file.now c.loop-k.k L.offsets L.patterns a.allowed c.loop-k.n c.loop-k-test.true (sym c.check_pattern.ensures ∙ c.in_ok-check_pattern.was) r d in
    record { value = p.1 ∙ sym (ap count_listed e); list_after = L.wrote ∙ sym (ap (λ (x : PatternsListed). wrote_from 0 x.offsets a.list.now) e) }

pub overflow_add-n : goal.overflow_add-n
overflow_add-n c = omega (arith, c.loop-k.invariant.most, c.requires.2)

pub loop-k-smaller : goal.loop-k-smaller
loop-k-smaller c = omega (arith, c.loop-k-test.true, pattern_past c.args.shape c.args.file.now c.loop-k.k (end_whole (read_pattern c.args.shape c.args.file.now c.loop-k.k) c.in_ok-next.next (sym c.pattern_from.ensures ∙ c.in_ok-next.was)).0 c.in_ok-next.next (end_whole (read_pattern c.args.shape c.args.file.now c.loop-k.k) c.in_ok-next.next (sym c.pattern_from.ensures ∙ c.in_ok-next.was)).1)

pub loop-k-preserved : goal.loop-k-preserved
loop-k-preserved c = listed_next c.loop-k.invariant (end_whole (read_pattern c.args.shape c.args.file.now c.loop-k.k) c.in_ok-next.next (sym c.pattern_from.ensures ∙ c.in_ok-next.was)).0 c.loop-k-test.true (sym c.check_pattern.ensures ∙ c.in_ok-check_pattern.was) (end_whole (read_pattern c.args.shape c.args.file.now c.loop-k.k) c.in_ok-next.next (sym c.pattern_from.ensures ∙ c.in_ok-next.was)).1 (omega (arith, c.word_place.ensures, c.loop-k.invariant.most, c.requires.2)) c.store_number.ensures

pub shape_of-list : goal.shape_of-list
shape_of-list c = same c.args.list.now c.loop-k.invariant.offsets c.loop-k.invariant.wrote

pub returns : goal.returns
returns c = let a = c.args in
    let L = c.loop-k.invariant in
    let e : listed_from a.allowed a.shape a.states a.file.now a.at [] [] ≡ record { offsets = L.offsets; patterns = L.patterns; answer = Ok tt } =
    sym L.reads ∙ list_ends a.shape a.states a.file.now c.loop-k.k L.offsets L.patterns (a.allowed - c.loop-k.n) c.loop-k-test.false in
    record { value = ap (λ (m : ℕ). Ok m) L.count ∙ sym (ap count_listed e); list_after = L.wrote ∙ sym (ap (λ (x : PatternsListed). wrote_from 0 x.offsets a.list.now) e) }
