-- Evidence that was read stands after the program part, or in a file of its own.
use Rattle.std.specs.Prelude.{Result, Ok, Err, ⊤}
use Prim.Native.Nat.{ℕ, suc, ◌+◌, ◌<◌, ◌≤◌}
use mathlib.Core.Path.{◌≡◌, refl, sym, ap, subst, ◌∙◌}
use mathlib.Core.Bool.{Bool, true, false}
use mathlib.Core.List.{List, [], ◌∷◌, ◌++◌}
use native.Mathlib.Omega.{arith}
use native.Mathlib.Decide.{dec_lt, ℕ_discrete}
use lib.ListN.{length, length-append}
use lib.Dec.{leb}
use borrow.Author.Tests.{leb-true, not-false}
use Rattle.file_records.specs.declared.program.Refusal.{Refusal}
use Rattle.file_records.specs.declared.program.Program.{Program}
use Rattle.base.specs.Bytes.{byte}
use Rattle.file_records.specs.Records.{checked, claim_number, start_number, memory_at}
use Rattle.file_records.specs.ProgramPart.{unless_end, program_from, program_of, targets_of, whether, program_read}
use Rattle.file_contents.specs.EvidencePart.{EntriesRead, steps_from}
use Rattle.file_contents.specs.Reading.{Input, combined, pair, evidence_at, Evidence, refusal, entries, steps, claim_then, run_evidence, evidence_from, no_parts, two_parts, parts_of}
use Rattle.base.proofs.ByteLaws.{cut_fits}
use Rattle.file_records.proofs.RecordLaws.{good, unless_fine}
use Rattle.file_contents.proofs.ReadingLaws.{evidence_refused, evidence_run, parts_short, parts_both}
use Rattle.file_written.specs.Written.{claim_bytes, program_bytes}
use Rattle.file_written.specs.Standing.{Stands}
use Rattle.file_written.proofs.Standing.{stands_all, stands_join, stands_moved, stands_record}
use Rattle.file_written.proofs.ProgramRead.{PartRead, program_file}

-- ---- what was read of the parts

pub parts_evidence : (x : Input) (area : ℕ) → whether (program_from x.alone x.code 0) ≡ Ok tt → (p : Program) (e : Evidence) → parts_of x area ≡ two_parts p e
    → (65536 ≤ area) × (evidence_from x.file (evidence_at x (program_read (program_from x.alone x.code 0))) (program_read (program_from x.alone x.code 0)) area ≡ e)
parts_evidence x area q p e d = elim (dec_lt area 65536) [
  | yes l ↦ absurd (let c = parts_short x area l in let z : ◌≡◌ {A = ℕ} 0 1 = cc in omega arith)
  | no l ↦ let m : 65536 ≤ area = omega arith in let c = parts_both x area m q in (m, cc)
]

module _ (f : List ℕ) (at : ℕ) (p : Program) (area : ℕ) where
  claim_fine : (e : Evidence) → evidence_from f at p area ≡ e → ((r : Refusal) → refusal r ≡ e → ⊥) → unless_end f at (checked (claim_number f at) at) ≡ Ok tt
  claim_fine e d other = go _ refl
    where
      go : (x : Result ⊤ Refusal) → unless_end f at (checked (claim_number f at) at) ≡ x → unless_end f at (checked (claim_number f at) at) ≡ Ok tt
      go (Ok _) c = c
      go (Err r) c = absurd (other r (sym (evidence_refused f at p area r c) ∙ d))

  pub record Claimed : Type 0 where
    pub fine : unless_end f at (checked (claim_number f at) at) ≡ Ok tt
    pub stands : Stands f at (claim_bytes (byte f (at + 1)))
    pub most : byte f (at + 1) ≤ 2

  claimed : unless_end f at (checked (claim_number f at) at) ≡ Ok tt → Claimed
  unfolding claim_number
  claimed e =
      let g = good at (unless_fine f at _ e).1 in
      record {
        fine = e;
        stands = stands_record f at 15 1 (not-false _ g.allowed) (omega (arith, cut_fits f at 1 g.whole));
        most = leb-true (byte f (at + 1)) 2 (not-false _ g.names);
      }

  pub claimed_steps : (c : ℕ) (m : List ℕ) (n : Result ℕ Refusal) → evidence_from f at p area ≡ steps c m n → Claimed
  claimed_steps c m n d = claimed (claim_fine (steps c m n) d (λ r e. let z : ◌≡◌ {A = ℕ} 0 1 = cc in omega arith))

  no_run : (claim : ℕ) (r : EntriesRead) → run_evidence f claim (at + 2) p ≡ entries r → ⊥
  unfolding run_evidence
  no_run claim r e = go (unless_end f (at + 2) (checked (start_number p.shape f (at + 2)) (at + 2))) e
    where
      go : (x : Result ⊤ Refusal) → claim_then x (λ _. steps claim (memory_at f (at + 2)) (steps_from p.shape p.transitions.count f (at + 2 + 5))) ≡ entries r → ⊥
      go (Ok _) e = let z : ◌≡◌ {A = ℕ} 0 1 = cc in omega arith
      go (Err q) e = let z : ◌≡◌ {A = ℕ} 0 1 = cc in omega arith

  pub claimed_list : (r : EntriesRead) → evidence_from f at p area ≡ entries r → Claimed × (byte f (at + 1) ≡ 0)
  claimed_list r d =
      let c = claimed (claim_fine (entries r) d (λ q e. let z : ◌≡◌ {A = ℕ} 0 1 = cc in omega arith)) in (
        c,
        elim (ℕ_discrete (byte f (at + 1)) 0) [
          | yes z ↦ z
          | no z ↦ absurd (no_run (byte f (at + 1)) r (sym (evidence_run f at p area c.fine z) ∙ d))
        ],
      )

-- ---- the bytes of the files

-- the evidence stands from its beginning to the end of its file
pub record EvidenceStands (x : Input) (p : Program) (bs : List ℕ) : Type 0 where
  pub stands : Stands x.file (evidence_at x p) bs
  pub whole : length x.file ≡ evidence_at x p + length bs

pub one_file : (f : List ℕ) (p : Program) (bs : List ℕ) → PartRead false f p → EvidenceStands (combined f) p bs → f ≡ program_bytes (program_of f p) (targets_of f p) ++ bs
one_file f p bs R E =
    let cs = program_bytes (program_of f p) (targets_of f p) in
    let z : p.claim ≡ 0 + length cs = omega (arith, R.size) in
    stands_all f (cs ++ bs) (stands_join cs bs R.stands (stands_moved z E.stands)) (omega (arith, E.whole, R.size, length-append cs bs))

pub two_files : (g f : List ℕ) (p : Program) (bs : List ℕ) → PartRead true g p → EvidenceStands (pair g f) p bs → (g ≡ program_bytes (program_of g p) (targets_of g p)) × (f ≡ bs)
two_files g f p bs R E = (program_file g p R, stands_all f bs E.stands (omega (arith, E.whole)))
