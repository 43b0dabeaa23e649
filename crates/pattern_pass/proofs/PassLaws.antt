-- What the pass returns, and what it leaves in the work area: from the claim on, and in the whole.
use Rattle.std.specs.Prelude.{Result, Ok, Err, ⊤}
use Prim.Native.Nat.{ℕ, ◌+◌, ◌-◌, ◌<◌, ◌≤◌}
use mathlib.Core.Path.{◌≡◌, sym, ap, ◌∙◌}
use mathlib.Core.List.{List, []}
use native.Mathlib.Omega.{arith}
use lib.ListN.{length, take, drop}
use borrow.Rule.Slice.PartMut.{put_mid}
use borrow.Author.Tests.{lt-ltb, le-ltb}
use Rattle.base.proofs.ByteLaws.{cut_fits}
use Rattle.file_records.specs.declared.program.Refusal.{Refusal}
use Rattle.file_records.specs.declared.program.Program.{Program}
use Rattle.file_records.specs.Records.{checked}
use Rattle.file_records.specs.ProgramPart.{unless_end, program_from, whether, program_read}
use Rattle.file_records.proofs.RecordLaws.{good, unless_fine}
use Rattle.file_records.proofs.ProgramLaws.{refused_read, fine_read}
use Rattle.file_contents.specs.declared.evidence.Part.TheVariants.{InProgram, InEvidence}
use Rattle.file_contents.specs.EvidencePart.{entries_allowed, wrote_from}
use Rattle.file_contents.specs.Reading.{Input, evidence_at, in_part}
use Rattle.file_contents.proofs.ReadingLaws.{upper}
use Rattle.pattern_reading.specs.Records.{claim_number}
use Rattle.pattern_pass.specs.declared.reading.PatternReading.{PatternReading}
use Rattle.pattern_pass.specs.Passing.{PatternsListed, listed_from, count_listed, Passed, no_patterns, listed, evidence_passed, passed_of, pass_counted, pass_reading, pass_area}

-- ---- from the claim on

module _ (n : ℕ) (f : List ℕ) (at : ℕ) (p : Program) where
  abbrev Claims : Result ⊤ Refusal → Type 0
  Claims x = unless_end f at (checked (claim_number f at) at) ≡ x

  pub evidence_refused : (r : Refusal) → Claims (Err r) → evidence_passed n f at p ≡ no_patterns InEvidence r
  unfolding evidence_passed
  evidence_refused r e = rw e

  pub evidence_listed : Claims (Ok tt) → evidence_passed n f at p ≡ listed p (listed_from n p.shape p.states f (at + 2) [] [])
  unfolding evidence_passed
  evidence_listed e = rw e

  pub claim_fits : Claims (Ok tt) → at + 1 < length f
  unfolding claim_number
  claim_fits e = cut_fits f at 1 (good at (unless_fine f at _ e).1).whole

module _ (f : List ℕ) (at : ℕ) (p : Program) (w : List ℕ) (x y : Result ⊤ Refusal) (a : x ≡ checked (claim_number f at) at) (b : y ≡ unless_end f at x) where
  abbrev passed : Passed
  passed = evidence_passed (entries_allowed (length w)) f at p

  abbrev Returned : Result PatternReading Refusal → List ℕ → Type 0
  Returned r last = (in_part InEvidence r ≡ pass_reading passed) × (last ≡ pass_area passed w)

  claims : {z : Result ⊤ Refusal} → y ≡ z → unless_end f at (checked (claim_number f at) at) ≡ z
  claims c = sym (ap (unless_end f at) a) ∙ sym b ∙ c

  pub claim_room : y ≡ Ok tt → at + 1 < length f
  claim_room c = claim_fits (entries_allowed (length w)) f at p (claims c)

  pub refused_returned : (r : Refusal) → y ≡ Err r → (R : Result PatternReading Refusal) → R ≡ Err r → Returned R w
  refused_returned r c R h =
      let e = evidence_refused (entries_allowed (length w)) f at p r (claims c) in (
        ap (in_part InEvidence) h ∙ sym (ap pass_reading e),
        sym (ap (λ (v : Passed). pass_area v w) e),
      )

  abbrev listed_in : ℕ → PatternsListed
  listed_in m = listed_from m p.shape p.states f (at + 2) [] []

  pub patterns_returned : y ≡ Ok tt → 65536 ≤ length w → (m : ℕ) → m ≡ entries_allowed (length w) → (n : Result ℕ Refusal) → n ≡ count_listed (listed_in m) → (last : List ℕ)
      → last ≡ wrote_from 0 (listed_in m).offsets (take (length w - 16384) (drop 16384 w)) → (R : Result PatternReading Refusal) → in_part InEvidence R ≡ pass_counted p n
      → Returned R (put_mid 16384 (length w - 16384) w last)
  patterns_returned c l m q n j last k R h =
      let e = evidence_listed (entries_allowed (length w)) f at p (claims c) in (
        h ∙ ap (pass_counted p) (j ∙ ap (λ (m : ℕ). count_listed (listed_in m)) q) ∙ sym (ap pass_reading e),
        upper 16384 w last (wrote_from 0 (listed_in (entries_allowed (length w))).offsets) (omega arith)
            (k ∙ ap (λ (m : ℕ). wrote_from 0 (listed_in m).offsets (take (length w - 16384) (drop 16384 w))) q)
            ∙ sym (ap (λ (v : Passed). pass_area v w) e),
      )

-- ---- the whole

module _ (x : Input) (area : ℕ) where
  -- the program part
  abbrev part : Result Program Refusal
  part = program_from x.alone x.code 0

  pub passed_short : area < 65536 → passed_of x area ≡ no_patterns InProgram (record { number = 8; place = 0 })
  unfolding passed_of
  passed_short l = rw (lt-ltb area 65536 l)

  pub passed_refused : (r : Refusal) → 65536 ≤ area → whether part ≡ Err r → passed_of x area ≡ no_patterns InProgram r
  unfolding passed_of
  passed_refused r l e = rw (le-ltb area 65536 l, refused_read part r e)

  pub passed_evidence : 65536 ≤ area → whether part ≡ Ok tt
      → passed_of x area ≡ evidence_passed (entries_allowed area) x.file (evidence_at x (program_read part)) (program_read part)
  unfolding passed_of
  passed_evidence l e = rw (le-ltb area 65536 l, fine_read part e)

  pub passed_read : 65536 ≤ area → (p : Program) → part ≡ Ok p → passed_of x area ≡ evidence_passed (entries_allowed area) x.file (evidence_at x p) p
  passed_read l p d =
      passed_evidence l (ap whether d)
      ∙ ap (λ (y : Result Program Refusal). evidence_passed (entries_allowed area) x.file (evidence_at x (program_read y)) (program_read y)) d
