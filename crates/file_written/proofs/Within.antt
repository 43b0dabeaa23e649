-- What is read is within the limits.
use Prim.Native.Nat.{ℕ, ◌≤◌}
use mathlib.Core.Path.{◌≡◌, subst}
use mathlib.Core.Logic.{◌⊎◌, inl, inr}
use mathlib.Core.List.{List}
use Rattle.machine_pws.specs.declared.Step.{Step}
use Rattle.machine_pws.specs.Program.{Program}
use Rattle.machine_pws.specs.Machine.{Configuration}
use Rattle.file_contents.specs.Reading.{Input, run, pso_run, read_file}
use Rattle.file_again.proofs.Contents.{list_read, run_read_lem, pso_run_read}
use Rattle.file_written.specs.ProgramPart.{ProgramContents}
use Rattle.file_written.specs.Runs.{RunReadIsWithin}
use Rattle.file_written.specs.Lists.{ListReadIsWithin}
use Rattle.file_written.proofs.ProgramRead.{part_written}
use Rattle.file_written.proofs.EvidenceRead.{parts_evidence}
use Rattle.file_written.proofs.RunRead as runs
use Rattle.file_written.proofs.ListRead as lists

run_within : (x : Input) (area : ℕ) → runs.HeldAs (λ c P ts m ss. ProgramContents P ts × (65536 ≤ area)) (read_file x area)
run_within x area =
    runs.run_held x area (λ c P ts m ss. ProgramContents P ts × (65536 ≤ area))
    (λ R. ((part_written x.alone x.code R.fine).contents, (parts_evidence x area R.fine _ _ R.parts).0))

pub run_read_is_within : RunReadIsWithin
run_read_is_within x P ts m ss area (inl q) =
    let h = subst (runs.HeldAs (λ c P ts m ss. ProgramContents P ts × (65536 ≤ area))) q (run_within x area) in
    (h.0, run_read_lem x area q, h.1)
run_read_is_within x P ts m ss area (inr q) =
    let h = subst (runs.HeldAs (λ c P ts m ss. ProgramContents P ts × (65536 ≤ area))) q (run_within x area) in
    (h.0, pso_run_read x area q, h.1)

pub list_read_is_within : ListReadIsWithin
list_read_is_within x P ts es area q =
    let h = subst (lists.HeldAs (λ P ts es. ProgramContents P ts × (65536 ≤ area))) q
    (lists.list_held x area (λ P ts es. ProgramContents P ts × (65536 ≤ area)) (λ L. ((part_written x.alone x.code L.fine).contents, L.enough))) in
    (h.0, list_read x area q, h.1)
