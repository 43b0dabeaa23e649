-- The copy of a program file with one fence a nop is read as the program with that nop.
use Rattle.std.specs.Prelude.{Result, Ok}
use Rattle.file_records.specs.declared.program.Refusal.{Refusal}
use Prim.Native.Nat.{ℕ, ◌+◌, ◌*◌, ◌<◌}
use mathlib.Core.Path.{◌≡◌, refl, sym, ap, subst, ◌∙◌}
use mathlib.Core.Bool.{Bool, true, false, cond, not}
use mathlib.Core.List.{List}
use native.Mathlib.Omega.{arith}
use native.Mathlib.Decide.{dec_lt}
use lib.ListN.{length, length-set}
use lib.Seq.{get_or-set_same, get_or-set_other}
use lib.Dec.{T, eqb}
use Rattle.machine_pws.specs.declared.Step.{Step}
use Rattle.machine_pws.specs.declared.Transition.{Transition}
use Rattle.machine_pws.specs.Program as pws
use Rattle.file_records.specs.declared.program.Format.TheVariants.{Plain}
use Rattle.file_records.specs.declared.program.Program.{Program}
use Rattle.base.specs.Bytes.{byte}
use Rattle.file_records.specs.Records.{checked, is_kind, shape_at, transition_at, transition_number, memory_at}
use Rattle.file_records.specs.ProgramPart.{of_processes, transitions_from, program_from, program_of, targets_of, whether, program_read}
use Rattle.base.proofs.ByteLaws.{cut_fits}
use Rattle.file_records.proofs.RecordLaws.{transition_fine}
use Rattle.file_contents.specs.Reading.{
  pair,
  two_parts,
  parts_of,
  FileRead,
  refused,
  list,
  run,
  pso_run,
  run_read,
  parts_read,
  read_file,
  evidence_from,
}
use Rattle.file_contents.specs.EvidencePart.{steps_of}
use Rattle.file_contents.proofs.ReadingLaws.{ProgramFine, program_fine, parts_short, parts_both}
use Rattle.file_again.proofs.Tables.{table_length, table_number}
use Rattle.file_again.proofs.Rows.{row_each, place_eight}
use Rattle.file_again.proofs.Contents.{RunParts, Outcome, outcome_refused, outcome_list, outcome_run, outcome, file_list, file_run}
use Rattle.report_theory.specs.Nops.{with_nops, only, is_fence, FenceOf}
use Rattle.report_marks.specs.Copy.{operation_place, nopped, CopyReads}
use Rattle.report_marks.proofs.NopBytes.{part_same, program_nop, targets_again}

-- ---- the reading, with the nop

abbrev nop_read : ℕ → FileRead → FileRead
nop_read n (refused w r) = refused w r
nop_read n (list P ts es) = list (with_nops P (only n)) ts es
nop_read n (run P ts m ss) = run (with_nops P (only n)) ts m ss
nop_read n (pso_run P ts m ss) = pso_run (with_nops P (only n)) ts m ss

module _ (f : List ℕ) (n : ℕ) (q : whether (program_from true f 0) ≡ Ok tt) where
  abbrev p : Program
  p = program_read (program_from true f 0)

  abbrev c : ℕ
  c = operation_place p n

  abbrev g : List ℕ
  g = nopped f n

  F : ProgramFine Plain true f 0
  F = program_fine Plain true f 0 q

  abbrev begin : ℕ
  begin = 0 + 7 + 3 * (shape_at f 0).processes

  place : c ≡ begin + 8 * n + 3
  place = ap (λ (p : Program). operation_place p n) F.same

  counted : p.transitions.count ≡ F.transitions
  counted = ap (λ (p : Program). p.transitions.count) F.same

  module _ (fence : FenceOf (program_of f p) n) where
    exists : n < p.transitions.count
    exists = rw (table_length (λ i. transition_at f (p.transitions.at + 8 * i)) 0 p.transitions.count) at fence.exists

    fenced : T (is_fence (transition_at f (begin + 8 * n)).operation)
    fenced =
        let e : p.transitions.at ≡ begin = ap (λ (p : Program). p.transitions.at) F.same in
        let t = table_number (λ i. transition_at f (p.transitions.at + 8 * i)) p.transitions.count n pws.no_transition exists in
        let d = subst (λ (u : Transition). T (is_fence u.operation)) t fence.fence in
        subst (λ (at : ℕ). T (is_fence (transition_at f (at + 8 * n)).operation)) e d

    -- the place is in the file
    inside : c < length f
    unfolding transitions_from
    inside =
        let s = shape_at f 0 in
        let states = of_processes f (0 + 7) 1 s.processes in
        let l : n < F.transitions = omega (arith, exists, counted) in
        let e = row_each (λ k n. not (is_kind f k 3)) (λ k n. checked (transition_number Plain s states f k n) k) (λ k. 8) 256 begin 0 F.transitions F.rows n (omega arith) in
        let w = (transition_fine f (begin + 8 * n) Plain s states (0 + n) (rw (place_eight begin n) at e)).whole in
        omega (arith, cut_fits f (begin + 8 * n) 7 w, place)

    size : length g ≡ length f
    size = length-set f c 0

    other : (j : ℕ) → (j ≡ c → ⊥) → byte g j ≡ byte f j
    other j d = get_or-set_other f c j 0 0 d

    nop : byte g c ≡ 0
    nop = get_or-set_same f c 0 0 inside

    part : program_from true g 0 ≡ program_from true f 0
    part = part_same f g c size other nop F n (omega (arith, exists, counted)) place fenced

    behind : c < p.targets.at
    behind =
        let e : p.targets.at ≡ begin + 8 * F.transitions = ap (λ (p : Program). p.targets.at) F.same in
        omega (arith, place, exists, counted, e)

    program : program_of g p ≡ with_nops (program_of f p) (only n)
    program = program_nop f g c size other nop p n exists refl

    targets : targets_of g p ≡ targets_of f p
    targets = targets_again f g c size other nop p n exists refl behind

    -- ---- the evidence is read as before

    module _ (e : List ℕ) (area : ℕ) where
      parts : parts_of (pair g e) area ≡ parts_of (pair f e) area
      parts = elim (dec_lt area 65536) [
        | yes l ↦ parts_short (pair g e) area l ∙ sym (parts_short (pair f e) area l)
        | no l ↦
            parts_both (pair g e) area (omega arith) (ap (λ (r : Result Program Refusal). whether r) part ∙ q)
            ∙ ap (λ (r : Result Program Refusal). two_parts (program_read r) (evidence_from e 0 (program_read r) area)) part ∙ sym (parts_both (pair f e) area (omega arith) q)
      ]

      -- a run, of the claim that it has
      read_again : (R : RunParts (pair f e) area) → read_file (pair g e) area
          ≡ run_read (byte e (0 + 1)) (with_nops (program_of f p) (only n)) (targets_of f p) (memory_at e (0 + 2)) (steps_of e (0 + 2 + 5) R.count)
      unfolding read_file
      read_again R = ap (parts_read (pair g e)) (parts ∙ R.parts) ∙ rw (program, targets)

-- which kind a reading is of, and the program of a run
abbrev read_as : FileRead → ℕ
read_as (refused w r) = 0
read_as (list P ts es) = 1
read_as (run P ts m ss) = 2
read_as (pso_run P ts m ss) = 3

abbrev program_by : pws.Program → FileRead → pws.Program
program_by Q (refused w r) = Q
program_by Q (list P ts es) = Q
program_by Q (run P ts m ss) = P
program_by Q (pso_run P ts m ss) = Q

run_claim : (n : ℕ) (b : Bool) (Q P : pws.Program) (us ts : List (ℕ → ℕ)) (l m : List ℕ) (rs ss : List Step) → cond b (run Q us l rs) (pso_run Q us l rs) ≡ run P ts m ss
    → (P ≡ Q) × (cond b (run (with_nops Q (only n)) us l rs) (pso_run (with_nops Q (only n)) us l rs) ≡ run (with_nops P (only n)) ts m ss)
run_claim n true Q P us ts l m rs ss e = (sym (ap (program_by Q) e), ap (nop_read n) e)
run_claim n false Q P us ts l m rs ss e = absurd (let z : ◌≡◌ {A = ℕ} 3 2 = ap read_as e in omega arith)

pub copy_reads : CopyReads
copy_reads f e area n P ts m ss q F = go (outcome (pair f e) area)
  where
    go : Outcome (pair f e) area → read_file (pair (nopped f n) e) area ≡ run (with_nops P (only n)) ts m ss
    go (outcome_refused w s a b) = absurd (let z : ◌≡◌ {A = ℕ} 2 0 = ap read_as (sym q ∙ b) in omega arith)
    go (outcome_list L) = absurd (let z : ◌≡◌ {A = ℕ} 2 1 = ap read_as (sym q ∙ file_list (pair f e) area L) in omega arith)
    go (outcome_run R) =
        let w = run_claim n (eqb (byte e (0 + 1)) 1) _ P _ ts _ m _ ss (sym (file_run (pair f e) area R) ∙ q) in
        read_again f n R.fine (subst (λ (Q : pws.Program). FenceOf Q n) w.0 F) e area R ∙ w.1
