-- The reading of what is judged: its contents, or a refusal's number and place (document 01, "Records" and the refusal table). Number 8 is tested
-- before all; then the program part is read through, then the evidence part.
use Rattle.std.specs.Prelude.{ℕ, zero, suc, ◌+◌, ◌*◌, Bool, true, false, cond, List, [], ◌∷◌, ◌++◌, length, take, drop, eqb, ltb, Result, Ok, Err, ⊤}
use Rattle.machine_pws.specs.Program as pws
use Rattle.machine_pws.specs.Machine.{Configuration}
use Rattle.machine_pws.specs.declared.Step.{Step}
use Rattle.file_records.specs.declared.program.Refusal.{Refusal}
use Rattle.file_records.specs.declared.program.Program.{Program}
use Rattle.file_contents.specs.declared.evidence.Part.{Part}
use Rattle.file_contents.specs.declared.evidence.Part.TheVariants.{InProgram, InEvidence}
use Rattle.file_contents.specs.declared.evidence.Contents.{Contents}
use Rattle.file_contents.specs.declared.evidence.Unread.{Unread}
use Rattle.base.specs.Bytes.{choose, byte}
use Rattle.file_records.specs.Records.{checked, claim_number, start_number, memory_at}
use Rattle.file_records.specs.ProgramPart.{unless_end, program_from, program_of, targets_of}
use Rattle.file_contents.specs.EvidencePart.{steps_from, steps_of, EntriesRead, entries_from, entries_allowed, wrote_from}
use Rattle.file_contents.specs.Tally.{count_of}

-- ---- what is judged (document 02, N6)

-- the bytes that hold the program, those that hold the evidence, and whether the program has a file of its own
pub record Input : Type 0 where
  pub code : List ℕ
  pub file : List ℕ
  pub alone : Bool

abbrev pub input : Bool → List ℕ → List ℕ → Input
input alone g f = record { code = g; file = f; alone = alone }

-- one file holds both
abbrev pub combined : List ℕ → Input
combined f = input false f f

-- a program file and an evidence file
abbrev pub pair : List ℕ → List ℕ → Input
pair g f = input true g f

-- where the evidence begins in its file: at the claim that ends the program part, or with the evidence file
abbrev pub evidence_at : Input → Program → ℕ
evidence_at x p = cond x.alone 0 p.claim

-- ---- the parts

-- what stands from the claim on: a refusal, entries, or steps
pub data Evidence : Type 0 where
  refusal : Refusal → Evidence
  entries : EntriesRead → Evidence
  -- the claim, the memory that the run starts from, and its steps
  steps : ℕ → List ℕ → Result ℕ Refusal → Evidence

abbrev pub claim_then : Result ⊤ Refusal → (Unit {0} → Evidence) → Evidence
claim_then (Ok _) x = x tt
claim_then (Err r) x = refusal r

-- from `at` on, a 1F and the steps (document 02, N3)
unfoldable pub run_evidence : List ℕ → ℕ → ℕ → Program → Evidence
run_evidence f claim at p =
    claim_then (unless_end f at (checked (start_number p.shape f at) at)) (λ _.
    steps claim (memory_at f at) (steps_from p.shape p.transitions.count f (at + 5)))

-- claim 0: entries; claims 1 and 2: a run. `at` is the place of the claim, `area` the work area's length.
unfoldable pub evidence_from : List ℕ → ℕ → Program → ℕ → Evidence
evidence_from f at p area =
    claim_then (unless_end f at (checked (claim_number f at) at)) (λ _.
    choose (eqb (byte f (at + 1)) 0)
    (λ _. entries (entries_from (entries_allowed area) p.shape p.states f (at + 2) [] []))
    (λ _. run_evidence f (byte f (at + 1)) (at + 2) p))

pub data Parts : Type 0 where
  no_parts : Refusal → Parts
  two_parts : Program → Evidence → Parts

abbrev pub program_then : Result Program Refusal → (Program → Evidence) → Parts
program_then (Ok p) x = two_parts p (x p)
program_then (Err r) x = no_parts r

unfoldable pub parts_of : Input → ℕ → Parts
parts_of x area =
    choose (ltb area 65536) (λ _. no_parts (record { number = 8; place = 0 }))
    (λ _. program_then (program_from x.alone x.code 0) (λ p. evidence_from x.file (evidence_at x p) p area))

-- ---- what it says

pub data FileRead : Type 0 where
  -- in which part, and why
  refused : Part → Refusal → FileRead
  -- program, targets, entries
  list : pws.Program → List (ℕ → ℕ) → List Configuration → FileRead
  -- program, targets, the memory that the run starts from, steps
  run : pws.Program → List (ℕ → ℕ) → List ℕ → List Step → FileRead
  -- the same, of the PSO machine (document 02, N7)
  pso_run : pws.Program → List (ℕ → ℕ) → List ℕ → List Step → FileRead

abbrev pub list_read : Input → Program → Result ⊤ Refusal → EntriesRead → FileRead
list_read x p (Ok _) r = list (program_of x.code p) (targets_of x.code p) r.entries
list_read x p (Err q) r = refused InEvidence q

-- claim 1 or claim 2
abbrev pub run_read : ℕ → pws.Program → List (ℕ → ℕ) → List ℕ → List Step → FileRead
run_read claim P ts m ss = cond (eqb claim 1) (run P ts m ss) (pso_run P ts m ss)

abbrev pub evidence_read : Input → Program → Evidence → FileRead
evidence_read x p (refusal r) = refused InEvidence r
evidence_read x p (entries r) = list_read x p r.answer r
evidence_read x p (steps claim m (Ok n)) =
    run_read claim (program_of x.code p) (targets_of x.code p) m (steps_of x.file (evidence_at x p + 2 + 5) n)
evidence_read x p (steps claim m (Err r)) = refused InEvidence r

abbrev pub parts_read : Input → Parts → FileRead
parts_read x (no_parts r) = refused InProgram r
parts_read x (two_parts p e) = evidence_read x p e

-- the contents, or the first refusal
unfoldable pub read_file : Input → ℕ → FileRead
read_file x area = parts_read x (parts_of x area)

-- ---- what the code hands on, and what it leaves in the work area

-- a list has none
abbrev pub no_memory : List ℕ
no_memory = 0 ∷ 0 ∷ 0 ∷ 0 ∷ []

abbrev pub in_part : {A : Type 0} → Part → Result A Refusal → Result A Unread
in_part w (Ok a) = Ok a
in_part w (Err r) = Err (record { part = w; refusal = r })

abbrev pub reading_refused : Part → Refusal → Result Contents Unread
reading_refused w r = Err (record { part = w; refusal = r })

-- a starting memory, and n records of evidence from `at` on
abbrev pub reading_with : Program → ℕ → List ℕ → ℕ → ℕ → Result Contents Unread
reading_with p claim memory at n = Ok (record { program = p; claim = claim; memory = memory; evidence = record { at = at; count = n } })

abbrev pub count_reading : Program → ℕ → List ℕ → ℕ → Result ℕ Refusal → Result Contents Unread
count_reading p claim memory at (Ok n) = reading_with p claim memory at n
count_reading p claim memory at (Err r) = reading_refused InEvidence r

-- `at` is the place of the claim
abbrev pub evidence_reading : ℕ → Program → Evidence → Result Contents Unread
evidence_reading at p (refusal r) = reading_refused InEvidence r
evidence_reading at p (entries r) = count_reading p 0 no_memory (at + 2) (count_of r)
evidence_reading at p (steps claim m n) = count_reading p claim m (at + 2 + 5) n

abbrev pub reading_of : Input → Parts → Result Contents Unread
reading_of x (no_parts r) = reading_refused InProgram r
reading_of x (two_parts p e) = evidence_reading (evidence_at x p) p e

-- offsets stand from byte 16,384 on; nothing else is touched
abbrev pub list_area : List ℕ → List ℕ → List ℕ
list_area offsets w = take 16384 w ++ wrote_from 0 offsets (drop 16384 w)

abbrev pub evidence_area : Evidence → List ℕ → List ℕ
evidence_area (refusal r) w = w
evidence_area (entries r) w = list_area r.offsets w
evidence_area (steps claim m n) w = w

abbrev pub area_read : Parts → List ℕ → List ℕ
area_read (no_parts r) w = w
area_read (two_parts p e) w = evidence_area e w
