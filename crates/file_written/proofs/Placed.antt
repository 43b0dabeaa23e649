-- A written program part and what follows it, in one file or in two.
use Rattle.std.specs.Prelude.{Result, Ok}
use Rattle.file_records.specs.declared.program.Refusal.{Refusal}
use Prim.Native.Nat.{ℕ, ◌+◌, ◌≤◌}
use mathlib.Core.Path.{◌≡◌, refl, sym, ap, subst, ◌∙◌}
use mathlib.Core.Bool.{Bool, true, false}
use mathlib.Core.List.{List, ◌∷◌, ◌++◌}
use native.Mathlib.Omega.{arith}
use lib.ListN.{length, length-append}
use borrow.Author.Tests.{le-leb}
use Rattle.machine_pws.specs.Program as pws
use Rattle.file_records.specs.declared.program.Program.{Program}
use Rattle.file_records.specs.Records.{is_kind}
use Rattle.file_records.specs.ProgramPart.{program_from, program_of, targets_of, whether, program_read}
use Rattle.file_contents.specs.Reading.{Input, combined, pair, evidence_at, two_parts, parts_of, parts_read, evidence_read, evidence_from, read_file}
use Rattle.file_contents.proofs.ReadingLaws.{parts_both}
use Rattle.file_written.specs.Written.{program_bytes}
use Rattle.file_written.specs.ProgramPart.{ProgramContents}
use Rattle.file_written.specs.Standing.{Stands}
use Rattle.file_written.proofs.Standing.{stands_whole, stands_moved, stands_left, stands_right, stands_kind}
use Rattle.file_written.proofs.ProgramWritten.{placed, program_length, part_placed, program_same, targets_same}

pub record Placed (x : Input) (P : pws.Program) (ts : List (ℕ → ℕ)) (evidence : List ℕ) : Type 0 where
  pub at : ℕ
  pub part : program_from x.alone x.code 0 ≡ Ok (placed P ts 0)
  pub program : program_of x.code (placed P ts 0) ≡ P
  pub targets : targets_of x.code (placed P ts 0) ≡ ts
  pub begins : evidence_at x (placed P ts 0) ≡ at
  pub stands : Stands x.file at evidence
  pub whole : length x.file ≡ at + length evidence

module _ (P : pws.Program) (ts : List (ℕ → ℕ)) (K : ProgramContents P ts) (rest : List ℕ) where
  abbrev bs : List ℕ
  bs = program_bytes P ts

  size : length bs ≡ (placed P ts 0).claim
  size = omega (arith, program_length P ts)

  pub placed_one : Placed (combined (bs ++ (15 ∷ rest))) P ts (15 ∷ rest)
  placed_one =
      let f = bs ++ (15 ∷ rest) in
      let T = stands_left bs (15 ∷ rest) (stands_whole f) in
      let z : 0 + length bs ≡ (placed P ts 0).claim = omega (arith, size) in
      let E = stands_moved z (stands_right bs (15 ∷ rest) (stands_whole f)) in
      let shut = stands_kind 15 rest E in
      let n = length-append bs (15 ∷ rest) in
      record {
        at = (placed P ts 0).claim;
        part = part_placed P ts K false f 0 T shut;
        program = program_same P ts K false f 0 T shut;
        targets = targets_same P ts K false f 0 T shut;
        begins = refl;
        stands = E;
        whole = omega (arith, size);
      }

  pub placed_two : Placed (pair bs (15 ∷ rest)) P ts (15 ∷ rest)
  placed_two =
      let T = stands_whole bs in
      let shut = le-leb (length bs) (placed P ts 0).claim (omega (arith, size)) in
      record {
        at = 0;
        part = part_placed P ts K true bs 0 T shut;
        program = program_same P ts K true bs 0 T shut;
        targets = targets_same P ts K true bs 0 T shut;
        begins = refl;
        stands = stands_whole (15 ∷ rest);
        whole = omega arith;
      }

-- what is read of it is what is read of the evidence
pub placed_read : {x : Input} {P : pws.Program} {ts : List (ℕ → ℕ)} {evidence : List ℕ} (L : Placed x P ts evidence) (area : ℕ) → 65536 ≤ area
    → read_file x area ≡ evidence_read x (placed P ts 0) (evidence_from x.file L.at (placed P ts 0) area)
unfolding read_file
placed_read {x} {P} {ts} L area l =
    let fine = ap (λ (r : Result Program Refusal). whether r) L.part in
    let program = ap (λ (r : Result Program Refusal). program_read r) L.part in
    ap (parts_read x) (parts_both x area l fine)
    ∙ ap (λ (p : Program). evidence_read x p (evidence_from x.file (evidence_at x p) p area)) program
    ∙ ap (λ (k : ℕ). evidence_read x (placed P ts 0) (evidence_from x.file k (placed P ts 0) area)) L.begins
