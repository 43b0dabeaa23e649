-- Laws of one run after another, and what the code's loop knows.
use Rattle.std.specs.Prelude.{Ok, Err}
use Prim.Native.Nat.{ℕ, suc, ◌+◌, ◌-◌, ◌<◌, ◌≤◌}
use mathlib.Core.Path.{◌≡◌, refl, sym, ap, ◌∙◌}
use mathlib.Core.Bool.{true}
use mathlib.Core.List.{List}
use native.Mathlib.Omega.{arith}
use lib.ListN.{length}
use borrow.Author.Tests.{le-leb, lt-leb}
use Rattle.file_records.specs.declared.program.Refusal.{Refusal}
use Rattle.file_records.specs.ProgramPart.{program_from, whether}
use Rattle.file_records.proofs.RecordLaws.{fine_refused}
use Rattle.file_contents.specs.Reading.{pair, parts_of, FileRead, refused, list, run, pso_run, area_read}
use Rattle.report_theory.specs.Report.{Run}
use Rattle.report_reading.specs.Parts.{due_claim, over_number, evidence_end, program_part, evidence_part}
use Rattle.report_reading.specs.Reading.{read_part, RunsRead, bad_run, these_runs, with_run, run_then, runs_from}
use Rattle.report_reading.specs.Answers.{part_answer, runs_answer, PartReady}
use Rattle.report_reading.proofs.EndLaws.{evidence_most}
use Rattle.report_reading.proofs.PartLaws.{RunSort, part_claim, run_sort, run_keeps}

with_answer : (r : Run) (x : RunsRead) → runs_answer (with_run r x) ≡ runs_answer x
with_answer r (bad_run q) = refl
with_answer r (these_runs rs) = refl

then_refused : (f : List ℕ) (at : ℕ) (v : FileRead) (x : RunsRead) (r : Refusal) → part_answer f at v ≡ Err r → runs_answer (run_then f at v x) ≡ Err r
then_refused f at (refused w q) x r e = e
then_refused f at (list P ts es) x r e = absurd (fine_refused e)
then_refused f at (run P ts m ss) x r e = absurd (fine_refused e)
then_refused f at (pso_run P ts m ss) x r e = absurd (fine_refused e)

then_fine : (f : List ℕ) (at : ℕ) (v : FileRead) (x : RunsRead) → RunSort v → part_answer f at v ≡ Ok tt → runs_answer (run_then f at v x) ≡ runs_answer x
then_fine f at (refused w q) x s e = absurd (fine_refused (sym e))
then_fine f at (list P ts es) x s e = absurd s
then_fine f at (run P ts m ss) x s e = with_answer (record { memory = m; steps = ss }) x
then_fine f at (pso_run P ts m ss) x s e = absurd s

module _ (f : List ℕ) (area : ℕ) where
  pub runs_over : (k : ℕ) → length f ≤ k → Ok tt ≡ runs_answer (runs_from f area 0 k)
  unfolding runs_from
  runs_over k l = rw (le-leb (length f) k l)

  pub runs_more : (k : ℕ) → k < length f → Err (record { number = over_number f k; place = k }) ≡ runs_answer (runs_from f area 0 k)
  unfolding runs_from
  runs_more k l = rw (lt-leb (length f) k l)

  pub run_due_refused : (left k : ℕ) (r : Refusal) → due_claim 1 f k ≡ Err r → runs_answer (runs_from f area (suc left) k) ≡ Err r
  unfolding runs_from
  run_due_refused left k r e = rw e

  module _ (left k : ℕ) (e : due_claim 1 f k ≡ Ok tt) where
    due_run : runs_from f area (suc left) k ≡ run_then f k (read_part f area k) (runs_from f area left (evidence_end f k))
    unfolding runs_from
    due_run = rw e

    pub run_refused : (r : Refusal) → part_answer f k (read_part f area k) ≡ Err r → runs_answer (runs_from f area (suc left) k) ≡ Err r
    run_refused r d = ap runs_answer due_run ∙ then_refused f k (read_part f area k) (runs_from f area left (evidence_end f k)) r d

    module _ (l : 65536 ≤ area) (q : whether (program_from true (program_part f) 0) ≡ Ok tt) where
      pub run_fine : part_answer f k (read_part f area k) ≡ Ok tt → runs_answer (runs_from f area (suc left) k) ≡ runs_answer (runs_from f area left (evidence_end f k))
      unfolding read_part
      run_fine d =
          ap runs_answer due_run
          ∙ then_fine f k (read_part f area k) (runs_from f area left (evidence_end f k)) (run_sort (program_part f) (evidence_part f k) area l q (part_claim 1 f k e)) d

      pub run_same : (w : List ℕ) → area_read (parts_of (pair (program_part f) (evidence_part f k)) area) w ≡ w
      run_same w = sym (run_keeps (program_part f) (evidence_part f k) area l q (part_claim 1 f k e) w)

-- ---- what the loop knows: the runs from k on say what all of them say, and the area is as it was

pub record RunsKnown (f : List ℕ) (n at : ℕ) (work₀ work : List ℕ) (k i : ℕ) : Type 0 where
  pub inside : k ≤ length f
  pub most : i ≤ n
  pub same : work ≡ work₀
  pub said : runs_answer (runs_from f (length work₀) (n - i) k) ≡ runs_answer (runs_from f (length work₀) n at)

pub known_begin : (f : List ℕ) (n at : ℕ) (work : List ℕ) → at ≤ length f → RunsKnown f n at work work at 0
known_begin f n at work l =
    let z : n - 0 ≡ n = omega arith in
    record { inside = l; most = omega arith; same = refl; said = ap (λ (m : ℕ). runs_answer (runs_from f (length work) m at)) z }

module _ {f : List ℕ} {n at : ℕ} {work₀ work : List ℕ} {k i : ℕ} (K : RunsKnown f n at work₀ work k i) where
  pub known_ready : {end : ℕ} → PartReady f (length work₀) end at → PartReady f (length work) end k
  known_ready ready = record { enough = omega (arith, ap length K.same, ready.enough); place = ready.place; fine = ready.fine; inside = K.inside }

  pub known_over : i ≡ n → length f ≤ k → Ok tt ≡ runs_answer (runs_from f (length work₀) n at)
  known_over e l =
      let z : n - i ≡ 0 = omega arith in
      runs_over f (length work₀) k l ∙ ap (λ (m : ℕ). runs_answer (runs_from f (length work₀) m k)) (sym z) ∙ K.said

  pub known_more : i ≡ n → k < length f → Err (record { number = over_number f k; place = k }) ≡ runs_answer (runs_from f (length work₀) n at)
  known_more e l =
      let z : n - i ≡ 0 = omega arith in
      runs_more f (length work₀) k l ∙ ap (λ (m : ℕ). runs_answer (runs_from f (length work₀) m k)) (sym z) ∙ K.said

  module _ (l : i < n) where
    left_one : n - i ≡ suc (n - (i + 1))
    left_one = omega arith

    pub known_due : (r : Refusal) → due_claim 1 f k ≡ Err r → Err r ≡ runs_answer (runs_from f (length work₀) n at)
    known_due r e =
        sym (run_due_refused f (length work₀) (n - (i + 1)) k r e) ∙ ap (λ (m : ℕ). runs_answer (runs_from f (length work₀) m k)) (sym left_one) ∙ K.said

    module _ (e : due_claim 1 f k ≡ Ok tt) where
      pub known_refused : (r : Refusal) → part_answer f k (read_part f (length work₀) k) ≡ Err r → Err r ≡ runs_answer (runs_from f (length work₀) n at)
      known_refused r d =
          sym (run_refused f (length work₀) (n - (i + 1)) k e r d) ∙ ap (λ (m : ℕ). runs_answer (runs_from f (length work₀) m k)) (sym left_one) ∙ K.said

      -- no run touches the area
      pub known_kept : {end : ℕ} → PartReady f (length work₀) end at → {work' : List ℕ} → work' ≡ area_read (parts_of (pair (program_part f) (evidence_part f k)) (length work)) work
          → work' ≡ work₀
      known_kept ready w =
          w ∙ ap (λ (m : ℕ). area_read (parts_of (pair (program_part f) (evidence_part f k)) m) work) {x = length work} {y = length work₀} (ap length K.same)
          ∙ run_same f (length work₀) (n - (i + 1)) k e ready.enough ready.fine work ∙ K.same

      pub known_next : {end : ℕ} → PartReady f (length work₀) end at → part_answer f k (read_part f (length work₀) k) ≡ Ok tt
          → {work' : List ℕ} → work' ≡ area_read (parts_of (pair (program_part f) (evidence_part f k)) (length work)) work
          → {next : ℕ} → next ≡ evidence_end f k → RunsKnown f n at work₀ work' next (i + 1)
      known_next ready d {work'} w {next} h =
          record {
            inside = omega (arith, evidence_most f k K.inside);
            most = omega arith;
            same = known_kept ready w;
            said = ap (λ (m : ℕ). runs_answer (runs_from f (length work₀) (n - (i + 1)) m)) h
                ∙ sym (run_fine f (length work₀) (n - (i + 1)) k e ready.enough ready.fine d)
                ∙ ap (λ (m : ℕ). runs_answer (runs_from f (length work₀) m k)) (sym left_one) ∙ K.said;
          }
