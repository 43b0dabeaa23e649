-- The two directions (request N12): each run of up to 1,024 steps comes back as itself, and a text the reader accepts is the one the
-- writer would make.
use Rattle.std.specs.Prelude.{Result, Ok, Err}
use Rattle.file_records.specs.declared.program.Refusal.{Refusal}
use Prim.Native.Nat.{ℕ, zero, suc, ◌+◌, ◌-◌, ◌<◌, ◌≤◌}
use mathlib.Core.Path.{◌≡◌, refl, sym, ap, ◌∙◌}
use mathlib.Core.Bool.{true, false}
use mathlib.Core.List.{List, [], ◌∷◌, ◌++◌}
use native.Mathlib.Omega.{arith}
use lib.ListN.{length, drop, length-drop, length-append}
use borrow.Author.Tests.{eq-eqb, ne_eqb, lt-ltb, le-leb, lt-leb}
use Rattle.machine_pws.specs.declared.Step.{Step}
use Rattle.machine_pws.specs.declared.Step.TheVariants.{Take, Serialise, Update}
use Rattle.base.specs.Bytes.{byte, cut}
use Rattle.file_records.specs.Records.{first_number, checked, is_kind, step_body, step_names, step_number, step_at}
use Rattle.file_records.specs.ProgramPart.{row_from}
use Rattle.file_records.proofs.RecordLaws.{row_ends, row_step}
use Rattle.file_contents.specs.EvidencePart.{steps_from, steps_of}
use Rattle.drawing.specs.Text.{text}
use Rattle.drawing.specs.Runs.{full_shape, StepInRange, AllInRange, record_of, records_of}
use Rattle.drawing.specs.Writing.{Made, made, refused, of_count, drawing_of}
use Rattle.drawing.specs.Accepted.{Reading, run, place}
use Rattle.drawing.specs.Reading.{reading_of, of_reading, records_in}
use Rattle.drawing.specs.Directions.{RunDrawn, RunRead, Drawn, WriterDraws, ReaderAccepts, ComesBack, WouldMake}
use Rattle.drawing.specs.Parts.{FineFrom}
use Rattle.drawing.proofs.LineLaws.{steps_length}
use Rattle.drawing.proofs.WordLaws.{head_here, stands_from}
use Rattle.drawing.proofs.ReadLaws.{reading_was, reading_on}
use Rattle.drawing.proofs.StepLaws.{ends, check, size, read_holds}

-- ---- the records of a run are found fine

module _ (f : List ℕ) (at k : ℕ) (room : k < 1024) where
  record Good (s : Step) : Type 0 where
    fine : check f at k ≡ Ok tt
    step : step_at f at ≡ s
    body : 1 + step_body f at ≡ length (record_of s)

  whole : (body : ℕ) → at + body < length f → cut f at body ≡ false
  unfolding cut
  whole body l = lt-leb (length f - at) body (omega arith)

  kind : (c d : ℕ) → byte f at ≡ c → (c ≡ d → ⊥) → is_kind f at d ≡ false
  unfolding is_kind
  kind c d e n = ne_eqb (byte f at) d (λ q. n (sym e ∙ q))

  kind_is : (c : ℕ) → byte f at ≡ c → is_kind f at c ≡ true
  unfolding is_kind
  kind_is c e = eq-eqb (byte f at) c e

  good_step : (s : Step) (x : List ℕ) → StepInRange s → drop at f ≡ record_of s ++ x → Good s
  unfolding checked first_number step_number step_body step_names step_at
  good_step (Take n) x l e =
      let h = head_here f at 32 (n ∷ x) e in
      let i = head_here f (at + 1) n x h.2 in
      let a = kind_is 32 h.1 in
      let b = kind 32 33 h.1 (λ z. omega arith) in
      record {
        fine = rw (a, b, whole 1 (omega (arith, i.0)), lt-leb 1024 k room, i.1, lt-ltb n 256 l);
        step = rw a (ap Take i.1);
        body = rw b;
      }
  good_step (Serialise p v) x l e =
      let h = head_here f at 33 (p ∷ v ∷ x) e in
      let i = head_here f (at + 1) p (v ∷ x) h.2 in
      let j = head_here f (at + 1 + 1) v x i.2 in
      let a = kind 33 32 h.1 (λ z. omega arith) in
      let b = kind_is 33 h.1 in
      let n : at + 1 + 1 ≡ at + 2 = omega arith in
      let y : byte f (at + 2) ≡ v = ap (byte f) (sym n) ∙ j.1 in
      record {
        fine = rw (a, b, whole 2 (omega (arith, j.0)), lt-leb 1024 k room, i.1, y, lt-ltb p 4 l.0, lt-ltb v 4 l.1);
        step = rw (a, b) (ap (λ (m : ℕ). Serialise m (byte f (at + 2))) i.1 ∙ ap (Serialise p) y);
        body = rw b;
      }
  good_step (Update p) x l e =
      let h = head_here f at 34 (p ∷ x) e in
      let i = head_here f (at + 1) p x h.2 in
      let a = kind 34 32 h.1 (λ z. omega arith) in
      let b = kind 34 33 h.1 (λ z. omega arith) in
      let c = kind_is 34 h.1 in
      record {
        fine = rw (a, b, c, whole 1 (omega (arith, i.0)), lt-leb 1024 k room, i.1, lt-ltb p 4 l);
        step = rw (a, b) (ap Update i.1);
        body = rw b;
      }

record Counts (f : List ℕ) (at k : ℕ) (ss : List Step) : Type 0 where
  counted : row_from (ends f) (check f) (size f) (1024 - k) at k ≡ Ok (k + length ss)
  steps : steps_of f at (length ss) ≡ ss

counts : (f : List ℕ) (ss : List Step) (at k : ℕ) → AllInRange ss → k + length ss ≤ 1024 → drop at f ≡ records_of ss → Counts f at k ss
unfolding records_of steps_of
counts f [] at k l m e =
    let z : k ≡ k + 0 = omega arith in
    record {
      counted = row_ends (ends f) (check f) (size f) (1024 - k) at k (le-leb (length f) at (omega (arith, length-drop at f, ap length e))) ∙ ap Ok z;
      steps = refl;
    }
counts f (s ∷ ss) at k l m e =
    let g = good_step f at k (omega arith) s (records_of ss) l.0 e in
    let n : at + (1 + step_body f at) ≡ at + length (record_of s) = ap (λ (i : ℕ). at + i) g.body in
    let q = ap (λ (i : ℕ). drop i f) n ∙ stands_from f at (record_of s) (records_of ss) e in
    let h = counts f ss (at + (1 + step_body f at)) (k + 1) l.1 (omega arith) q in
    let z : k + 1 + length ss ≡ k + suc (length ss) = omega arith in
    record {
      counted =
          row_step (ends f) (check f) (size f) 1024 at k (omega arith)
          (lt-leb (length f) at (omega (arith, length-drop at f, ap length e, length-append (record_of s) (records_of ss), g.body)))
          g.fine
          ∙ h.counted
          ∙ ap Ok z;
      steps = ap (λ (x : Step). x ∷ steps_of f (at + (1 + step_body f at)) (length ss)) g.step ∙ ap (λ (x : List Step). s ∷ x) h.steps;
    }

pub run_drawn : RunDrawn
unfolding drawing_of steps_from
run_drawn ss r =
    let f : List ℕ = records_of ss in
    let c = counts f ss 0 0 r.steps (omega (arith, r.few)) refl in
    let z : 0 + length ss ≡ length ss = omega arith in
    ap (of_count f) (c.counted ∙ ap Ok z) ∙ ap (λ (x : List Step). made (text x)) c.steps

pub run_read_lem : RunRead
unfolding records_in
run_read_lem ss r = ap of_reading (reading_on ss r)

-- ---- what the writer draws, and what the reader accepts

made_same : {v w : List ℕ} → ◌≡◌ {A = Made} (made v) (made w) → v ≡ w
made_same e = cc

refused_made : {n p : ℕ} {w : List ℕ} → ◌≡◌ {A = Made} (refused n p) (made w) → ⊥
refused_made e = let z : ◌≡◌ {A = ℕ} 0 1 = cc in omega arith

fine_range : (f : List ℕ) (n at : ℕ) → FineFrom f at n → AllInRange (steps_of f at n)
unfolding steps_of
fine_range f zero at h = tt
fine_range f (suc n) at h = (h.1, fine_range f n (at + (1 + step_body f at)) h.2)

pub writer_draws : WriterDraws
unfolding drawing_of
writer_draws f w e = go (steps_from full_shape 256 f 0) refl e
  where
    go : (c : Result ℕ Refusal) → steps_from full_shape 256 f 0 ≡ c → of_count f c ≡ made w → Drawn f w
    go (Ok n) d e =
        let h = read_holds f n d in
        record {
          steps = steps_of f 0 n;
          run = record { steps = fine_range f n 0 h.1.fine; few = omega (arith, h.0, steps_length f 0 n) };
          records = h.1.bytes;
          drawing = sym (made_same e);
        }
    go (Err r) d e = absurd (refused_made e)

pub reader_accepts : ReaderAccepts
unfolding records_in
reader_accepts f t e = go (reading_of t) refl e
  where
    go : (r : Reading) → reading_of t ≡ r → of_reading r ≡ made f → Drawn f t
    go (run ss) d e =
        let h = reading_was t ss d in
        record { steps = ss; run = h.0; records = sym (made_same e); drawing = h.1 }
    go (place p) d e = absurd (refused_made e)

pub comes_back : ComesBack
comes_back f w e =
    let d = writer_draws f w e in ap records_in d.drawing ∙ run_read_lem d.steps d.run ∙ ap made (sym d.records)

pub would_make : WouldMake
would_make f t e =
    let d = reader_accepts f t e in ap drawing_of d.records ∙ run_drawn d.steps d.run ∙ ap made (sym d.drawing)
