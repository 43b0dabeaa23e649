-- What the code returns of one part of evidence.
use Rattle.std.specs.Prelude.{Result, Ok, Err}
use Prim.Native.Nat.{ℕ, ◌+◌, ◌-◌, ◌≤◌}
use mathlib.Core.Path.{◌≡◌, sym, ap, ap₂, ◌∙◌}
use mathlib.Core.Bool.{true}
use mathlib.Core.List.{List}
use native.Mathlib.Omega.{arith}
use lib.ListN.{length, take, drop}
use Rattle.file_records.specs.declared.program.Refusal.{Refusal}
use Rattle.file_contents.specs.declared.evidence.Contents.{Contents}
use Rattle.file_contents.specs.declared.evidence.Unread.{Unread}
use Rattle.file_contents.specs.Reading.{Input, input, pair, parts_of, read_file, reading_of, area_read}
use Rattle.report_reading.specs.Parts.{evidence_end, program_part, evidence_part, in_report}
use Rattle.report_reading.specs.Reading.{read_part}
use Rattle.report_reading.specs.Answers.{part_answer, PartReady}
use Rattle.report_reading.proofs.EndLaws.{program_most, evidence_least, evidence_most, part_length}
use Rattle.report_reading.proofs.PlaceLaws.{place_inside}
use Rattle.report_reading.proofs.PartLaws.{said_of, reading_answer, part_fine, part_refused}

module _ (f : List ℕ) (area end at : ℕ) (ready : PartReady f area end at) (next : ℕ) (e : next ≡ evidence_end f at) where
  pub end_room : end ≤ length f
  end_room = omega (arith, ready.place, program_most f)

  pub part_begins : at ≤ next
  part_begins = omega (arith, evidence_least f at)

  pub part_ends : next ≤ length f
  part_ends = omega (arith, evidence_most f at ready.inside)

  abbrev x : Input
  x = pair (program_part f) (evidence_part f at)

  pub same_input : input true (take end f) (take (next - at) (drop at f)) ≡ x
  same_input = ap₂ (input true) (ap (λ (k : ℕ). take k f) ready.place) (ap (λ (k : ℕ). take (k - at) (drop at f)) e)

  module _ (y : Result Contents Unread) (r : y ≡ reading_of (input true (take end f) (take (next - at) (drop at f))) (parts_of (input true (take end f) (take (next - at) (drop at f))) area)) where
    answered : said_of y ≡ said_of (reading_of x (parts_of x area))
    answered = ap said_of (r ∙ ap (λ (i : Input). reading_of i (parts_of i area)) same_input)

    pub fine_returned : (c : Contents) → y ≡ Ok c → Ok tt ≡ part_answer f at (read_part f area at)
    unfolding read_part
    fine_returned c d = part_fine f at (read_file x area) (sym (reading_answer x area) ∙ sym answered ∙ ap said_of d)

    module _ (u : Unread) (d : y ≡ Err u) where
      abbrev q : Refusal
      q = u.refusal

      pub place_room : at + q.place ≤ length f
      place_room =
          let s = (part_refused f at (read_file x area) q (sym (reading_answer x area) ∙ sym answered ∙ ap said_of d)).1 in
          omega (arith, place_inside x area ready.enough ready.fine s.0 q s.1, part_length f at ready.inside, evidence_least f at, evidence_most f at ready.inside)

      pub refused_returned : (w : Refusal) → w ≡ in_report f at next q → Err w ≡ part_answer f at (read_part f area at)
      unfolding read_part
      refused_returned w b =
          let s = (part_refused f at (read_file x area) q (sym (reading_answer x area) ∙ sym answered ∙ ap said_of d)).0 in
          ap Err (b ∙ ap (λ (k : ℕ). in_report f at k q) e) ∙ sym s

  pub area_returned : (w last : List ℕ) → last ≡ area_read (parts_of (input true (take end f) (take (next - at) (drop at f))) area) w → last ≡ area_read (parts_of x area) w
  area_returned w last b = b ∙ ap (λ (i : Input). area_read (parts_of i area) w) same_input
