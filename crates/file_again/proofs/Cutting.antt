-- A combined file, and the two files that it is cut into at its claim, are read alike.
use Rattle.std.specs.Prelude.{Result, Ok, Err, ⊤}
use Rattle.file_records.specs.declared.program.Refusal.{Refusal}
use Prim.Native.Nat.{ℕ, ◌+◌, ◌<◌, ◌≤◌}
use mathlib.Core.Path.{◌≡◌, refl, sym, ap, ap₂, ◌∙◌}
use mathlib.Core.Bool.{Bool, true, false, cond}
use mathlib.Core.List.{List, []}
use native.Mathlib.Omega.{arith}
use native.Mathlib.Decide.{dec_lt}
use lib.ListN.{length, take, drop, length-drop}
use lib.Seq.{get_or-take, get_or-drop, drop-drop, length-take-le}
use lib.Dec.{eqb}
use Rattle.machine_pws.specs.Program as pws
use Rattle.machine_pws.specs.declared.Step.{Step}
use Rattle.file_records.specs.declared.program.Program.{Program}
use Rattle.file_contents.specs.declared.evidence.Part.TheVariants.{InProgram, InEvidence}
use Rattle.base.specs.Bytes.{choose, byte}
use Rattle.file_records.specs.Records.{checked, claim_number, start_number, memory_at}
use Rattle.file_records.specs.ProgramPart.{unless_end, program_from, program_of, targets_of, program_read}
use Rattle.file_contents.specs.EvidencePart.{steps_from, steps_of, EntriesRead, entries_from, entries_allowed}
use Rattle.file_contents.specs.Reading.{Input, combined, pair, Evidence, refusal, entries, steps, claim_then, run_evidence, evidence_from, FileRead, refused, list, run, pso_run, list_read, run_read, evidence_read, parts_read, read_file}
use Rattle.file_contents.proofs.ReadingLaws.{parts_short, parts_both}
use Rattle.file_again.specs.Offending.{body_of, record_at, end_of_file, is_of_record, offending_by, offending}
use Rattle.file_again.specs.Cutting.{moved_read, ClaimAt, CutAtClaim}
use Rattle.file_again.proofs.OffendingLaws.{of_none}
use Rattle.file_again.proofs.Shifting.{moved_check, moved_count, MovedEntries, claim_moved, start_moved, memory_moved, claim_byte, steps_moved, steps_same, entries_moved}
use Rattle.file_again.proofs.ProgramCut.{CutProgram, claim_inside, program_cut}

run_kept : (c claim : ℕ) (P : pws.Program) (ts : List (ℕ → ℕ)) (m : List ℕ) (ss : List Step) → run_read claim P ts m ss ≡ moved_read c (run_read claim P ts m ss)
run_kept c claim P ts m ss = go (eqb claim 1)
  where
    go : (b : Bool) → cond b (run P ts m ss) (pso_run P ts m ss) ≡ moved_read c (cond b (run P ts m ss) (pso_run P ts m ss))
    go true = refl
    go false = refl

-- ---- what the evidence says: h is f without its first c bytes, and g holds the program of f

module _ (f g h : List ℕ) (c : ℕ) (same : (k : ℕ) → byte f (c + k) ≡ byte h k) (long : length f ≡ c + length h)
    (p : Program) (place : p.claim ≡ c) (sameProgram : program_of g p ≡ program_of f p) (sameTargets : targets_of g p ≡ targets_of f p) where
  -- of one file, and of two
  abbrev SaidAlike : Evidence → Evidence → Type 0
  SaidAlike d e = evidence_read (combined f) p d ≡ moved_read c (evidence_read (pair g h) p e)

  claim_alike : (d e : Evidence) → SaidAlike d e → (x : Result ⊤ Refusal) → SaidAlike (claim_then (moved_check c x) (λ _. d)) (claim_then x (λ _. e))
  claim_alike d e s (Ok _) = s
  claim_alike d e s (Err r) = refl

  choose_alike : (a b d e : Evidence) → SaidAlike a b → SaidAlike d e → (t : Bool) → SaidAlike (choose t (λ _. a) (λ _. d)) (choose t (λ _. b) (λ _. e))
  choose_alike a b d e s r true = s
  choose_alike a b d e s r false = r

  list_alike : (a b : EntriesRead) → MovedEntries c a b → SaidAlike (entries a) (entries b)
  list_alike a b m = ap (λ (x : Result ⊤ Refusal). list_read (combined f) p x a) m.answer ∙ go b.answer
    where
      go : (x : Result ⊤ Refusal) → list_read (combined f) p (moved_check c x) a ≡ moved_read c (list_read (pair g h) p x b)
      go (Ok _) =
          ap₂ (λ P ts. list P ts a.entries) (sym sameProgram) (sym sameTargets) ∙ ap (list (program_of g p) (targets_of g p)) m.entries
      go (Err q) = refl

  steps_alike : (claim : ℕ) (m : List ℕ) (n : Result ℕ Refusal) → SaidAlike (steps claim m (moved_count c n)) (steps claim m n)
  steps_alike claim m (Err r) = refl
  steps_alike claim m (Ok n) =
      let a : p.claim + 2 + 5 ≡ c + 7 = omega arith in
      let e : steps_of f (p.claim + 2 + 5) n ≡ steps_of h 7 n = ap (λ (k : ℕ). steps_of f k n) a ∙ steps_same f h c same long 7 n in
      ap₂ (λ P ts. run_read claim P ts m (steps_of f (p.claim + 2 + 5) n)) (sym sameProgram) (sym sameTargets)
      ∙ ap (run_read claim (program_of g p) (targets_of g p) m) e ∙ run_kept c claim (program_of g p) (targets_of g p) m (steps_of h 7 n)

  run_alike : (claim : ℕ) → SaidAlike (run_evidence f claim (c + 2) p) (run_evidence h claim 2 p)
  unfolding run_evidence
  run_alike claim =
      let a : c + 2 + 5 ≡ c + 7 = omega arith in
      let n = steps_from p.shape p.transitions.count f (c + 2 + 5) in
      let k = steps_from p.shape p.transitions.count h 7 in
      let e : n ≡ moved_count c k = ap (steps_from p.shape p.transitions.count f) a ∙ steps_moved f h c same long p.shape p.transitions.count 7 in
      ap (λ (x : Result ⊤ Refusal). evidence_read (combined f) p (claim_then x (λ _. steps claim (memory_at f (c + 2)) n))) (start_moved f h c same long p.shape 2)
      ∙ claim_alike (steps claim (memory_at f (c + 2)) n) (steps claim (memory_at h 2) k)
      (ap₂ (λ m n. evidence_read (combined f) p (steps claim m n)) (memory_moved f h c same long 2) e ∙ steps_alike claim (memory_at h 2) k)
      (unless_end h 2 (checked (start_number p.shape h 2) 2))

  module _ (area : ℕ) where
    -- from the place after the claim on
    abbrev after_claim : List ℕ → ℕ → ℕ → Evidence
    after_claim l claim at =
        choose (eqb claim 0) (λ _. entries (entries_from (entries_allowed area) p.shape p.states l at [] [])) (λ _. run_evidence l claim at p)

    after_alike : (claim : ℕ) → SaidAlike (after_claim f claim (c + 2)) (after_claim h claim 2)
    after_alike claim =
        choose_alike (entries (entries_from (entries_allowed area) p.shape p.states f (c + 2) [] [])) (entries (entries_from (entries_allowed area) p.shape p.states h 2 [] []))
        (run_evidence f claim (c + 2) p) (run_evidence h claim 2 p)
        (list_alike _ _ (entries_moved f h c same long p.shape p.states (entries_allowed area) 2 [] [] [])) (run_alike claim) (eqb claim 0)

    evidence_alike : SaidAlike (evidence_from f p.claim p area) (evidence_from h 0 p area)
    unfolding evidence_from
    evidence_alike =
        let z : p.claim ≡ c + 0 = omega arith in
        let a : c + 0 + 2 ≡ c + 2 = omega arith in
        ap (λ (at : ℕ). evidence_read (combined f) p (claim_then (unless_end f at (checked (claim_number f at) at)) (λ _. after_claim f (byte f (at + 1)) (at + 2)))) z
        ∙ ap (λ (x : Result ⊤ Refusal). evidence_read (combined f) p (claim_then x (λ _. after_claim f (byte f (c + 0 + 1)) (c + 0 + 2)))) (claim_moved f h c same long 0)
        ∙ claim_alike (after_claim f (byte f (c + 0 + 1)) (c + 0 + 2)) (after_claim h (byte h 1) 2)
        (ap₂ (λ claim at. evidence_read (combined f) p (after_claim f claim at)) (claim_byte f h c same long 0) a ∙ after_alike (byte h 1))
        (unless_end h 0 (checked (claim_number h 0) 0))

-- ---- the record that is handed back

record_same : (f : List ℕ) (c k : ℕ) → record_at f (c + k) ≡ record_at (drop c f) k
unfolding record_at
record_same f c k = ap₂ (λ b l. take (1 + body_of b) l) (sym (get_or-drop c f k 0)) (sym (drop-drop k c f))

module _ (f g : List ℕ) (c : ℕ) where
  handed_by : (n k : ℕ) → (offending_by f f InEvidence n (c + k)).bytes ≡ (offending_by g (drop c f) InEvidence n k).bytes
  unfolding offending_by
  handed_by n k = go (is_of_record n) (eqb n 6)
    where
      go : (a b : Bool)
          → (cond a (record { part = InEvidence; at = c + k; bytes = record_at f (c + k) }) (cond b (end_of_file f f InEvidence) (end_of_file f f InEvidence))).bytes
          ≡ (cond a (record { part = InEvidence; at = k; bytes = record_at (drop c f) k }) (cond b (end_of_file g (drop c f) InEvidence) (end_of_file g (drop c f) InEvidence))).bytes
      go true b = record_same f c k
      go false true = refl
      go false false = refl

  abbrev HandedAlike : FileRead → Type 0
  HandedAlike r = (offending (combined f) (moved_read c r)).bytes ≡ (offending (pair g (drop c f)) r).bytes

  handed_run : (claim : ℕ) (P : pws.Program) (ts : List (ℕ → ℕ)) (m : List ℕ) (ss : List Step) → HandedAlike (run_read claim P ts m ss)
  handed_run claim P ts m ss = go (eqb claim 1)
    where
      go : (b : Bool) → HandedAlike (cond b (run P ts m ss) (pso_run P ts m ss))
      go true = refl
      go false = refl

  -- what the evidence says is never a refusal of the program
  handed_alike : (p : Program) (e : Evidence) → HandedAlike (evidence_read (pair g (drop c f)) p e)
  handed_alike p (refusal r) = handed_by r.number r.place
  handed_alike p (entries r) = go r.answer
    where
      go : (x : Result ⊤ Refusal) → HandedAlike (list_read (pair g (drop c f)) p x r)
      go (Ok _) = refl
      go (Err q) = handed_by q.number q.place
  handed_alike p (steps claim m (Ok n)) = handed_run claim (program_of g p) (targets_of g p) m (steps_of (drop c f) 7 n)
  handed_alike p (steps claim m (Err r)) = handed_by r.number r.place

-- ---- the whole

-- a short work area is told before anything is read
module _ (x : Input) (area : ℕ) (l : area < 65536) where
  read_short : read_file x area ≡ refused InProgram (record { number = 8; place = 0 })
  unfolding read_file
  read_short = ap (parts_read x) (parts_short x area l)

  handed_short : (offending x (read_file x area)).bytes ≡ []
  unfolding is_of_record
  handed_short = ap (λ (r : FileRead). (offending x r).bytes) read_short ∙ sym (of_none x.code x.file InProgram 8 0 refl)

module _ (f : List ℕ) (c area : ℕ) (C : ClaimAt f c) where
  abbrev g : List ℕ
  g = take c f

  abbrev h : List ℕ
  h = drop c f

  abbrev p : Program
  p = program_read (program_from false f 0)

  inside : c ≤ length f
  inside = omega (arith, claim_inside f C.fine, C.place)

  cut_program : CutProgram f g
  cut_program = program_cut f g c (λ k l. get_or-take c f k 0 l) (length-take-le c f inside) inside C.fine C.place

  module _ (l : 65536 ≤ area) where
    one_read : read_file (combined f) area ≡ evidence_read (combined f) p (evidence_from f p.claim p area)
    unfolding read_file
    one_read = ap (parts_read (combined f)) (parts_both (combined f) area l C.fine)

    two_read : read_file (pair g h) area ≡ evidence_read (pair g h) p (evidence_from h 0 p area)
    unfolding read_file
    two_read =
        ap (parts_read (pair g h)) (parts_both (pair g h) area l cut_program.fine)
        ∙ ap (λ (q : Program). evidence_read (pair g h) q (evidence_from h 0 q area)) cut_program.same

    read_alike : read_file (combined f) area ≡ moved_read c (evidence_read (pair g h) p (evidence_from h 0 p area))
    read_alike =
        let long : length f ≡ c + length h = omega (arith, length-drop c f, inside) in
        one_read ∙ evidence_alike f g h c (λ k. sym (get_or-drop c f k 0)) long p C.place cut_program.program cut_program.targets area

-- document 02, N6
pub cut_at_claim : CutAtClaim
cut_at_claim f c area C = elim (dec_lt area 65536) [
  | yes l ↦ (
    read_short (combined f) area l ∙ sym (ap (moved_read c) (read_short (pair (take c f) (drop c f)) area l)),
    handed_short (combined f) area l ∙ sym (handed_short (pair (take c f) (drop c f)) area l),
  )
  | no m ↦
      let l : 65536 ≤ area = omega arith in (
        read_alike f c area C l ∙ sym (ap (moved_read c) (two_read f c area C l)),
        ap (λ (r : FileRead). (offending (combined f) r).bytes) (read_alike f c area C l)
            ∙ handed_alike f (take c f) c (p f c area C) (evidence_from (drop c f) 0 (p f c area C) area)
            ∙ sym (ap (λ (r : FileRead). (offending (pair (take c f) (drop c f)) r).bytes) (two_read f c area C l)),
      )
]
