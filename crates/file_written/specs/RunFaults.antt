-- The refusal table in its own words for the claim and the evidence of a run (document 01, "Verdicts and refusal table"; document 02, N3, N6, N7).
use Rattle.std.specs.Prelude.{ℕ, ◌+◌, ◌<◌, ◌≤◌, ◌≡◌, ◌⊎◌, true, false, cond, List, length, get_or, eqb}
use Rattle.machine_pws.specs.declared.Step.{Step}
use Rattle.machine_pws.specs.declared.Step.TheVariants.{Update}
use Rattle.machine_pws.specs.Program.{Program}
use Rattle.machine_pws.specs.Configurations.{StartingMemory}
use Rattle.file_records.specs.declared.program.Refusal.{Refusal}
use Rattle.base.specs.Bytes.{byte}
use Rattle.file_contents.specs.declared.evidence.Part.TheVariants.{InProgram, InEvidence}
use Rattle.file_contents.specs.Reading.{Input, refused, read_file}
use Rattle.file_again.specs.Contents.{StepOf}
use Rattle.file_written.specs.Standing.{Stands}
use Rattle.file_written.specs.Written.{claim_bytes, memory_bytes, step_bytes, run_bytes, program_bytes}
use Rattle.file_written.specs.ProgramPart.{ProgramReadAs}
use Rattle.file_written.specs.Faults.{Fault, ProgramFault}

-- 0F: claim 0, 1 or 2
abbrev pub ClaimFault : List ℕ → ℕ → ℕ → Type 0
ClaimFault f at n = Fault f at (byte f at ≡ 15) 1 ⊥ Unit (byte f (at + 1) ≤ 2) n

-- 1F: the record is that of a permitted starting memory
abbrev pub MemoryFault : Program → List ℕ → ℕ → ℕ → Type 0
MemoryFault P f at n = Fault f at (byte f at ≡ 31) 4 ⊥ Unit ((m : List ℕ) × StartingMemory P.shape m × Stands f at (memory_bytes m)) n

-- 20, 21, 22: so many stand before; the record is that of a step that names what exists
abbrev pub StepFault : Program → ℕ → List ℕ → ℕ → ℕ → Type 0
StepFault P before f at n =
    Fault f at ((byte f at ≡ 32) ⊎ ((byte f at ≡ 33) ⊎ (byte f at ≡ 34))) (cond (eqb (byte f at) 33) 2 1) (1024 ≤ before) Unit ((t : Step) × StepOf P t × Stands f at (step_bytes t)) n

-- a refusal of evidence that begins at `at` of f, where it is no list: in the claim, or after claim 1 or 2
pub data RunFault (P : Program) (f : List ℕ) (at : ℕ) (r : Refusal) : Type 0 where
  ends_before_claim : length f ≤ at → r.number ≡ 6 → r.place ≡ length f → RunFault P f at r
  in_claim : at < length f → r.place ≡ at → ClaimFault f at r.number → RunFault P f at r
  ends_before_memory : (c : ℕ) → 1 ≤ c → c ≤ 2 → Stands f at (claim_bytes c) → length f ≡ at + 2 → r.number ≡ 6 → r.place ≡ length f → RunFault P f at r
  in_memory : (c : ℕ) → 1 ≤ c → c ≤ 2 → Stands f at (claim_bytes c) → r.place ≡ at + 2 → r.place < length f → MemoryFault P f r.place r.number → RunFault P f at r
  in_steps : (c : ℕ) (m : List ℕ) (ss : List Step) → 1 ≤ c → c ≤ 2 → StartingMemory P.shape m → ((k : ℕ) → k < length ss → StepOf P (get_or ss k (Update 0))) → length ss ≤ 1024
      → Stands f at (run_bytes c m ss) → r.place ≡ at + length (run_bytes c m ss) → r.place < length f → StepFault P (length ss) f r.place r.number → RunFault P f at r

-- A refusal in the evidence: the program part is read, the evidence begins after it or with its own file, and it has one of these faults, if it is not a list's.
pub record EvidenceRefusal (x : Input) (r : Refusal) : Type 0 where
  pub program : Program
  pub targets : List (ℕ → ℕ)
  pub at : ℕ
  pub reads : ProgramReadAs x.alone x.code program targets
  pub alone : x.alone ≡ true → at ≡ 0
  pub after : x.alone ≡ false → at ≡ length (program_bytes program targets)
  pub fault : RunFault program x.file at r ⊎ Stands x.file at (claim_bytes 0)

abbrev pub RunRefused : Type 0
RunRefused = (x : Input) (area : ℕ) (r : Refusal) → read_file x area ≡ refused InEvidence r → EvidenceRefusal x r

-- A refusal in the program part is 8, before anything is read, or one of its faults.
abbrev pub ProgramPartRefused : Type 0
ProgramPartRefused = (x : Input) (area : ℕ) (r : Refusal) → read_file x area ≡ refused InProgram r
    → ((area < 65536) × (r.number ≡ 8) × (r.place ≡ 0)) ⊎ ((65536 ≤ area) × ProgramFault x.alone x.code r)
