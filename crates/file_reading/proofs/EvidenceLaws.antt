-- What the reading of the evidence part returns, and what it leaves in the work area: the claim refused, a list, a run.
use Rattle.std.specs.Prelude.{Result, Ok, Err, ⊤}
use Prim.Native.Nat.{ℕ, ◌+◌, ◌-◌, ◌<◌, ◌≤◌}
use mathlib.Core.Path.{◌≡◌, refl, sym, ap, subst, ◌∙◌}
use mathlib.Core.Bool.{Bool}
use mathlib.Core.List.{List, []}
use native.Mathlib.Omega.{arith}
use lib.ListN.{length, take, drop}
use borrow.Rule.Slice.PartMut.{put_mid}
use Rattle.file_records.specs.declared.program.Refusal.{Refusal}
use Rattle.file_records.specs.declared.program.Program.{Program}
use Rattle.base.specs.Bytes.{byte}
use Rattle.file_records.specs.Records.{checked, claim_number}
use Rattle.file_records.specs.ProgramPart.{unless_end, whether, program_read, program_from}
use Rattle.file_contents.specs.declared.evidence.Part.TheVariants.{InEvidence}
use Rattle.file_contents.specs.declared.evidence.Contents.{Contents}
use Rattle.file_contents.specs.declared.evidence.Part.{Part}
use Rattle.file_contents.specs.declared.evidence.Unread.{Unread}
use Rattle.file_contents.specs.EvidencePart.{EntriesRead, entries_from, entries_allowed, wrote_from}
use Rattle.file_contents.specs.Tally.{count_of}
use Rattle.file_contents.specs.Reading.{Input, evidence_at, parts_of, two_parts, Evidence, run_evidence, evidence_from, no_memory, in_part, count_reading, evidence_reading, evidence_area}
use Rattle.file_contents.proofs.ReadingLaws.{shape_range, parts_both, run_area, upper, evidence_refused, evidence_entries, evidence_run, claim_fits}

module _ (x : Input) (area : ℕ) (l : 65536 ≤ area) where
  pub read_both : (p : Program) → program_from x.alone x.code 0 ≡ Ok p → parts_of x area ≡ two_parts p (evidence_from x.file (evidence_at x p) p area)
  read_both p d =
      parts_both x area l (ap whether d)
      ∙ ap (λ (y : Result Program Refusal). two_parts (program_read y) (evidence_from x.file (evidence_at x (program_read y)) (program_read y) area)) d

-- ---- the evidence part

module _ (f : List ℕ) (at : ℕ) (p : Program) (w : List ℕ) (x y : Result ⊤ Refusal) (a : x ≡ checked (claim_number f at) at) (b : y ≡ unless_end f at x) where
  abbrev Returned : Result Contents Refusal → List ℕ → Type 0
  Returned r last = (in_part InEvidence r ≡ evidence_reading at p (evidence_from f at p (length w))) × (last ≡ evidence_area (evidence_from f at p (length w)) w)

  claims : {z : Result ⊤ Refusal} → y ≡ z → unless_end f at (checked (claim_number f at) at) ≡ z
  claims c = sym (ap (unless_end f at) a) ∙ sym b ∙ c

  pub claim_room : y ≡ Ok tt → at + 1 < length f
  claim_room c = claim_fits f at p (length w) (claims c)

  pub refused_returned : (r : Refusal) → y ≡ Err r → (R : Result Contents Refusal) → R ≡ Err r → Returned R w
  refused_returned r c R h =
      let e = evidence_refused f at p (length w) r (claims c) in (
        ap (in_part InEvidence) h ∙ sym (ap (evidence_reading at p) e),
        sym (ap (λ (v : Evidence). evidence_area v w) e),
      )

  module _ (c : y ≡ Ok tt) (said : ℕ) (d : said ≡ byte f (at + 1)) where
    abbrev entries_in : ℕ → EntriesRead
    entries_in m = entries_from m p.shape p.states f (at + 2) [] []

    pub entries_returned : said ≡ 0 → 65536 ≤ length w → (m : ℕ) → m ≡ entries_allowed (length w) → (n : Result ℕ Refusal) → n ≡ count_of (entries_in m) → (last : List ℕ)
        → last ≡ wrote_from 0 (entries_in m).offsets (take (length w - 16384) (drop 16384 w)) → (R : Result Contents Refusal) → in_part InEvidence R ≡ count_reading p 0 no_memory (at + 2) n
        → Returned R (put_mid 16384 (length w - 16384) w last)
    entries_returned s l m q n j last k R h =
        let e = evidence_entries f at p (length w) (claims c) (sym d ∙ s) in (
          h ∙ ap (count_reading p 0 no_memory (at + 2)) (j ∙ ap (λ (m : ℕ). count_of (entries_in m)) q) ∙ sym (ap (evidence_reading at p) e),
          upper 16384 w last (wrote_from 0 (entries_in (entries_allowed (length w))).offsets) (omega arith)
              (k ∙ ap (λ (m : ℕ). wrote_from 0 (entries_in m).offsets (take (length w - 16384) (drop 16384 w))) q)
              ∙ sym (ap (λ (v : Evidence). evidence_area v w) e),
        )

    pub run_returned : (said ≡ 0 → ⊥) → (R : Result Contents Refusal) → ((k : ℕ) → at + 2 ≡ k + 2 → in_part InEvidence R ≡ evidence_reading k p (run_evidence f said (at + 2) p)) → Returned R w
    run_returned s R h =
        let e = evidence_run f at p (length w) (claims c) (λ z. s (d ∙ z)) in (
          h at refl ∙ ap (λ (k : ℕ). evidence_reading at p (run_evidence f k (at + 2) p)) d ∙ sym (ap (evidence_reading at p) e),
          run_area f p w (byte f (at + 1)) (at + 2) ∙ sym (ap (λ (v : Evidence). evidence_area v w) e),
        )
