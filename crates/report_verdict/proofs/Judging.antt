-- Parts of a report as they are judged, and the work area between two judgements.
use Prim.Native.Nat.{ℕ, suc, ◌+◌, ◌*◌, ◌-◌, ◌<◌, ◌≤◌, min}
use mathlib.Core.Path.{◌≡◌, refl, sym, ap, subst, ◌∙◌}
use mathlib.Core.Bool.{Bool, true, false, not}
use mathlib.Core.List.{List, ◌++◌}
use native.Mathlib.Omega.{arith}
use native.Mathlib.Decide.{dec_lt}
use lib.ListN.{length, get_or, set, take, drop, replicate, length-append, length-set, length-replicate, length-drop}
use lib.Seq.{paste, length-paste, length-take-le, drop_at}
use lib.Dec.{eqb}
use borrow.Author.Tests.{eq-eqb, ne_eqb, lt-ltb, le-ltb}
use Rattle.file_records.specs.declared.program.Program.{Program}
use Rattle.file_contents.specs.Reading.{pair}
use Rattle.verdict.specs.declared.answer.Verdict as declared
use Rattle.verdict.specs.Judge.{used_of, area_after}
use Rattle.verdict.specs.Answers.{said_in_c}
use Rattle.verdict.proofs.AreaLaws.{used_fits, reading_kept, cleared_all, untouched}
use Rattle.report_reading.specs.Parts.{program_end, evidence_end, program_part, evidence_part, evidence_place}
use Rattle.report_reading.specs.Reading.{Opened, shut, opened, open_report, opened_area, report_area}
use Rattle.report_reading.proofs.EndLaws.{evidence_least}
use Rattle.report_reading.proofs.OpenLaws.{open_short}
use Rattle.report_marks.specs.Marks.{wrong_mark, mark_bytes}
use Rattle.report_marks.specs.Copy.{room, copied_in, copied_with}
use Rattle.report_marks.proofs.CopyLaws.{copied_begins}
use Rattle.report_marks.proofs.Firsts.{Looked, looked_begin, looked_next, looked_found, looked_all}
use Rattle.report_verdict.specs.ByParts.{ended_in_c, list_part, part_fails, failing_part, said_parts, PartsReady}

-- the beginning of the copy, as long as the program part
pub copied_part : (f : List ℕ) (end place : ℕ) → end ≤ length f → end ≤ room → take end (copied_with (take end f) place) ≡ set (take end f) place 0
copied_part f end place l h =
    let e : length (take end f) ≡ end = length-take-le end f l in
    ap (λ (k : ℕ). take k (copied_with (take end f) place)) (sym e) ∙ copied_begins room (take end f) place (omega arith)

-- ---- the work area

module _ (w : List ℕ) where
  after_long : 65536 ≤ length w → area_after w ≡ replicate (used_of (length w)) 0 ++ drop (used_of (length w)) w
  after_long l = sym (cleared_all w w l refl)

  pub after_length : length (area_after w) ≡ length w
  after_length = elim (dec_lt (length w) 65536) [
    | yes l ↦ ap length (sym (untouched w l))
    | no l ↦
        let h = used_fits (length w) (omega arith) in
        ap length (after_long (omega arith)) ∙ length-append (replicate (used_of (length w)) 0) (drop (used_of (length w)) w)
        ∙ (let a : length (replicate {A = ℕ} (used_of (length w)) 0) ≡ used_of (length w) = length-replicate (used_of (length w)) 0 in
        let b = length-drop (used_of (length w)) w in omega arith)
  ]

  -- what is cleared is cleared again to the same
  pub after_again : area_after (area_after w) ≡ area_after w
  after_again = elim (dec_lt (length w) 65536) [
    | yes l ↦ ap area_after (sym (untouched w l))
    | no l ↦
        let u = used_of (length w) in
        let k : 65536 ≤ length w = omega arith in
        let a : length (replicate {A = ℕ} u 0) ≡ u = length-replicate u 0 in
        let d : drop u (area_after w) ≡ drop u w = ap (drop u) (after_long k) ∙ drop_at (replicate u 0) (drop u w) u a in
        let e : used_of (length (area_after w)) ≡ u = ap used_of after_length in
        sym (cleared_all (area_after w) (area_after w) (omega (arith, after_length)) refl)
        ∙ ap (λ (v : ℕ). replicate v 0 ++ drop v (area_after w)) e ∙ cleared_all w (area_after w) k d
  ]

-- the area v came of w by one judgement or none, and is cleared to the same
pub record Kept (w v : List ℕ) : Type 0 where
  pub size : length v ≡ length w
  pub after : area_after v ≡ area_after w

pub kept_begin : (w : List ℕ) → Kept w w
kept_begin w = record { size = refl; after = refl }

pub kept_next : {w v u : List ℕ} → Kept w v → u ≡ area_after v → Kept w u
kept_next {w} {v} K e = record { size = ap length e ∙ after_length v ∙ K.size; after = ap area_after e ∙ after_again v ∙ K.after }

-- by a reading: past the bytes that belong to the judgement, all is as it was
pub kept_read : (f w v : List ℕ) → v ≡ report_area f w → length v ≡ length w → Kept w v
unfolding report_area
kept_read f w v e n = elim (dec_lt (length w) 65536) [
  | yes l ↦ let d : v ≡ w = e ∙ short l in record { size = n; after = ap area_after d }
  | no l ↦
      let k : 65536 ≤ length w = omega arith in
      let u = used_of (length w) in
      let d : drop u v ≡ drop u w = ap (drop u) e ∙ long k in
      let s : used_of (length v) ≡ u = ap used_of n in
      record {
        size = n;
        after = sym (cleared_all v v (omega arith) refl) ∙ ap (λ (x : ℕ). replicate x 0 ++ drop x v) s ∙ cleared_all w v k d;
      }
]
  where
    short : length w < 65536 → report_area f w ≡ w
    short l = ap (λ (o : Opened). opened_area f o w) (open_short f (length w) l)

    opened_kept : (o : Opened) → 65536 ≤ length w → drop (used_of (length w)) (opened_area f o w) ≡ drop (used_of (length w)) w
    opened_kept (shut r) l = refl
    opened_kept (opened p n) l = reading_kept (pair (program_part f) (evidence_part f (program_end f + 2 * n))) w l

    long : 65536 ≤ length w → drop (used_of (length w)) (report_area f w) ≡ drop (used_of (length w)) w
    long l = opened_kept (open_report f (length w)) l

-- ---- where the parts stand, and what is said of them

pub copied_size : (g : List ℕ) (at : ℕ) → length (copied_with g at) ≡ room
unfolding copied_in
copied_size g at = sized room g at
  where
    sized : (n : ℕ) (g : List ℕ) (at : ℕ) → length (set (paste (replicate n 0) 0 g (min (length g) n)) at 0) ≡ n
    sized n g at =
        let z : length (replicate {A = ℕ} n 0) ≡ n = length-replicate n 0 in
        length-set (paste (replicate n 0) 0 g (min (length g) n)) at 0 ∙ length-paste (replicate n 0) 0 g (min (length g) n) (omega arith) (omega arith) ∙ z

module _ (f : List ℕ) (end n row : ℕ) (R : PartsReady f end n row) where
  -- the run of place i
  module _ (i at next : ℕ) (p : at ≡ evidence_place f n (1 + i)) (q : next ≡ evidence_end f at) where
    pub run_there : (end ≤ length f) × (end ≤ room) × (at ≤ next) × (next ≤ length f)
    unfolding evidence_place
    run_there =
        let e : next ≡ evidence_place f n (suc (1 + i)) = q ∙ ap (evidence_end f) p in
        (R.inside, R.fits, omega (arith, evidence_least f at), omega (arith, R.places (suc (1 + i))))

    pub run_said : (marks : List ℕ) (area m k : ℕ) (v : declared.Verdict) → m ≡ get_or marks i 0 → k ≡ m
        → v ≡ said_in_c (pair (set (take end f) (row + 8 * k + 3) 0) (take (next - at) (drop at f))) area → not (eqb v.kind 1) ≡ part_fails f row marks n area i
    run_said marks area m k v a b e =
        let z : 1 + i ≡ suc i = omega arith in
        let y : at ≡ evidence_place f n (suc i) = p ∙ ap (evidence_place f n) z in
        ap (λ (w : declared.Verdict). not (eqb w.kind 1)) e ∙ rw (q, y, R.place, b, a)

  -- the list
  module _ (at next : ℕ) (p : at ≡ end + 2 * n) (q : next ≡ evidence_end f at) where
    list_place : at ≡ evidence_place f n 0
    unfolding evidence_place
    list_place = p ∙ ap (λ (k : ℕ). k + 2 * n) R.place

    pub first_place : next ≡ evidence_place f n 1
    unfolding evidence_place
    first_place = q ∙ ap (evidence_end f) list_place

    pub list_there : (end ≤ length f) × (at ≤ next) × (next ≤ length f)
    list_there = (R.inside, omega (arith, evidence_least f at), omega (arith, first_place, R.places 1))

    pub list_part_lem : (area : ℕ) (v : declared.Verdict) → v ≡ said_in_c (pair (take end f) (take (next - at) (drop at f))) area → v ≡ list_part f n area
    list_part_lem area v e = e ∙ rw (q, list_place, R.place)

-- ---- the answer

module _ (f : List ℕ) (p : Program) (end n area : ℕ) (E : end ≡ program_end f) (marks : List ℕ) (M : marks ≡ mark_bytes f end) (wrong : ℕ)
    (W : wrong ≡ wrong_mark (take end f) p marks n) (r : declared.Verdict) where
  marks_here : marks ≡ mark_bytes f (program_end f)
  marks_here = M ∙ ap (mark_bytes f) E

  wrong_here : wrong ≡ wrong_mark (program_part f) p (mark_bytes f (program_end f)) n
  wrong_here = W ∙ rw (marks_here, E)

  pub said_wrong : wrong < n → r ≡ ended_in_c f 2 22 wrong → r ≡ said_parts f p n area
  unfolding said_parts
  said_wrong l e = rw (sym wrong_here, lt-ltb wrong n l) e

  module _ (right : n ≤ wrong) (list : declared.Verdict) (L : list ≡ list_part f n area) where
    pub said_unsafe : 0 < list.kind → r ≡ ended_in_c f 2 23 8 → r ≡ said_parts f p n area
    unfolding said_parts
    said_unsafe l e = rw (sym wrong_here, le-ltb wrong n right, sym L, ne_eqb list.kind 0 (λ d. omega arith)) e

    module _ (safe : list.kind ≤ 0) (failing : ℕ) (F : failing ≡ failing_part f p.transitions.at marks n area) where
      failing_here : failing ≡ failing_part f p.transitions.at (mark_bytes f (program_end f)) n area
      failing_here = F ∙ ap (λ (ms : List ℕ). failing_part f p.transitions.at ms n area) marks_here

      pub said_failing : failing < n → r ≡ ended_in_c f 2 23 failing → r ≡ said_parts f p n area
      unfolding said_parts
      said_failing l e =
          rw (sym wrong_here, le-ltb wrong n right, sym L, eq-eqb list.kind 0 (omega arith), sym failing_here, lt-ltb failing n l) e

      pub said_needed : n ≤ failing → r ≡ ended_in_c f 4 n list.first → r ≡ said_parts f p n area
      unfolding said_parts
      said_needed l e =
          rw (sym wrong_here, le-ltb wrong n right, sym L, eq-eqb list.kind 0 (omega arith), sym failing_here, le-ltb failing n l) e

-- ---- the loop over the runs

-- the runs before i did not fail, and that of place i stands at `at`
pub record Ran (f : List ℕ) (row : ℕ) (marks : List ℕ) (n : ℕ) (w : List ℕ) (v : List ℕ) (at i : ℕ) : Type 0 where
  pub looked : Looked (part_fails f row marks n (length w)) n i
  pub place : at ≡ evidence_place f n (1 + i)
  pub kept : Kept w v

module _ (f : List ℕ) (row : ℕ) (marks : List ℕ) (n : ℕ) (w : List ℕ) where
  pub ran_begin : (at : ℕ) → at ≡ evidence_place f n 1 → Ran f row marks n w w at 0
  ran_begin at e =
      let z : ◌≡◌ {A = ℕ} 1 (1 + 0) = omega arith in
      record { looked = looked_begin (part_fails f row marks n (length w)) n; place = e ∙ ap (evidence_place f n) z; kept = kept_begin w }

  module _ {v : List ℕ} {at i : ℕ} (R : Ran f row marks n w v at i) (l : i < n) (b : Bool) (said : b ≡ part_fails f row marks n (length v) i) where
    said_here : b ≡ part_fails f row marks n (length w) i
    said_here = said ∙ ap (λ (a : ℕ). part_fails f row marks n a i) R.kept.size

    pub ran_next : (u : List ℕ) (next : ℕ) → b ≡ false → u ≡ area_after v → next ≡ evidence_end f at → Ran f row marks n w u next (i + 1)
    unfolding evidence_place
    ran_next u next e d k =
        let z : suc (1 + i) ≡ 1 + (i + 1) = omega arith in
        record {
          looked = looked_next (part_fails f row marks n (length w)) n R.looked l (sym said_here ∙ e);
          place = k ∙ ap (evidence_end f) R.place ∙ ap (evidence_place f n) z;
          kept = kept_next R.kept d;
        }

    pub ran_found : b ≡ true → i ≡ failing_part f row marks n (length w)
    unfolding failing_part
    ran_found e = looked_found (part_fails f row marks n (length w)) n R.looked l (sym said_here ∙ e)

  pub ran_all : {v : List ℕ} {at i : ℕ} → Ran f row marks n w v at i → n ≤ i → n ≡ failing_part f row marks n (length w)
  unfolding failing_part
  ran_all R l = looked_all (part_fails f row marks n (length w)) n R.looked l
