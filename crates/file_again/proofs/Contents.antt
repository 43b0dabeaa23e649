-- The contents of a file that was read, and the same from what the reading hands on.
use Rattle.std.specs.Prelude.{Result, Ok, Err, ⊤}
use Prim.Native.Nat.{ℕ, ◌+◌, ◌*◌, ◌-◌, ◌<◌, ◌≤◌}
use mathlib.Core.Path.{◌≡◌, refl, sym, ap, subst, ◌∙◌}
use mathlib.Core.Bool.{Bool, true, false, cond}
use mathlib.Core.List.{List, []}
use native.Mathlib.Omega.{arith}
use native.Mathlib.Decide.{dec_lt, ℕ_discrete}
use lib.ListN.{length, get_or}
use lib.Dec.{eqb, leb, ltb}
use borrow.Author.Tests.{ltb-true, not-false}
use Rattle.machine_pws.specs.declared.Step.{Step}
use Rattle.machine_pws.specs.declared.Step.TheVariants.{Take, Serialise, Update}
use Rattle.machine_pws.specs.Program as pws
use Rattle.machine_pws.specs.Machine.{Configuration}
use Rattle.machine_pws.specs.Entries.{no_entry, entry}
use Rattle.file_records.specs.declared.program.Format.TheVariants.{Plain}
use Rattle.file_records.specs.declared.program.Refusal.{Refusal}
use Rattle.file_records.specs.declared.program.Program.{Program}
use Rattle.base.specs.Bytes.{byte, le32}
use Rattle.file_records.specs.Records.{checked, is_kind, claim_number, start_number, memory_at, exists, step_body, step_names, step_number, step_at, transition_at}
use Rattle.file_records.specs.ProgramPart.{unless_end, program_from, program_of, targets_of, whether, program_read}
use Rattle.file_contents.specs.declared.evidence.Part.{Part}
use Rattle.file_contents.specs.declared.evidence.Part.TheVariants.{InProgram, InEvidence}
use Rattle.file_contents.specs.EvidencePart.{steps_from, steps_of, EntriesRead, entries_from, entries_allowed, wrote_from}
use Rattle.file_contents.specs.Cube.{configuration_of, load_entry}
use Rattle.file_contents.specs.Reading.{Input, evidence_at, entries, steps, run_evidence, no_memory, no_parts, two_parts, parts_of, FileRead, refused, list, run, pso_run, run_read, parts_read, read_file, reading_refused, reading_with, reading_of}
use Rattle.base.proofs.ByteLaws.{cut_fits}
use Rattle.file_records.proofs.RecordLaws.{unless_fine, row_most, step_fine, entry_fine}
use Rattle.file_contents.proofs.ReadingLaws.{evidence_refused, evidence_entries, evidence_run, start_refused, run_steps, parts_short, parts_refused, parts_both}
use Rattle.file_again.specs.Again.{place_of, entries_of}
use Rattle.file_again.specs.Contents.{ListRead, StepOf, RunRead, CubeRange}
use Rattle.file_again.proofs.Tables.{table_length, table_of}
use Rattle.file_again.proofs.Names.{both_exist, start_named, memory_named}
use Rattle.file_again.proofs.Rows.{row_each, steps_length, steps_at}
use Rattle.file_again.proofs.ProgramPart.{ShapeRange, part_read, part_shape, claim_near}
use Rattle.file_again.proofs.Entry.{entry_range, entry_loaded, cube_range}
use Rattle.file_again.proofs.Entries.{More, entries_more, Standing, listed_count, listed_at, listed_near, wrote_at}

-- ---- what came of a reading

module _ (x : Input) (area : ℕ) where
  abbrev g : List ℕ
  g = x.code

  abbrev f : List ℕ
  f = x.file

  abbrev p : Program
  p = program_read (program_from x.alone g 0)

  -- where the claim stands
  abbrev at : ℕ
  at = evidence_at x p

  abbrev pub listed : EntriesRead
  listed = entries_from (entries_allowed area) p.shape p.states f (at + 2) [] []

  pub record ListParts : Type 0 where
    pub enough : 65536 ≤ area
    pub fine : whether (program_from x.alone g 0) ≡ Ok tt
    pub answer : listed.answer ≡ Ok tt
    pub parts : parts_of x area ≡ two_parts p (entries listed)

  pub record RunParts : Type 0 where
    pub count : ℕ
    pub fine : whether (program_from x.alone g 0) ≡ Ok tt
    pub other : byte f (at + 1) ≡ 0 → ⊥
    pub start : unless_end f (at + 2) (checked (start_number p.shape f (at + 2)) (at + 2)) ≡ Ok tt
    pub reads : steps_from p.shape p.transitions.count f (at + 2 + 5) ≡ Ok count
    pub parts : parts_of x area ≡ two_parts p (steps (byte f (at + 1)) (memory_at f (at + 2)) (Ok count))

  pub data Outcome : Type 0 where
    outcome_refused : (w : Part) (r : Refusal) → reading_of x (parts_of x area) ≡ reading_refused w r → read_file x area ≡ refused w r → Outcome
    outcome_list : ListParts → Outcome
    outcome_run : RunParts → Outcome

  no_parts_lem : (r : Refusal) → parts_of x area ≡ no_parts r → Outcome
  unfolding read_file
  no_parts_lem r e = outcome_refused InProgram r (ap (reading_of x) e) (ap (parts_read x) e)

  by_list : 65536 ≤ area → whether (program_from x.alone g 0) ≡ Ok tt → parts_of x area ≡ two_parts p (entries listed) → (y : Result ⊤ Refusal) → listed.answer ≡ y → Outcome
  unfolding read_file
  by_list l q e (Ok _) d = outcome_list (record { enough = l; fine = q; answer = d; parts = e })
  by_list l q e (Err r) d = outcome_refused InEvidence r (rw (e, d)) (rw (e, d))

  abbrev Starts : Result ⊤ Refusal → Type 0
  Starts y = unless_end f (at + 2) (checked (start_number p.shape f (at + 2)) (at + 2)) ≡ y

  by_steps : whether (program_from x.alone g 0) ≡ Ok tt → (byte f (at + 1) ≡ 0 → ⊥) → Starts (Ok tt) → (y : Result ℕ Refusal) → steps_from p.shape p.transitions.count f (at + 2 + 5) ≡ y
      → parts_of x area ≡ two_parts p (steps (byte f (at + 1)) (memory_at f (at + 2)) y) → Outcome
  unfolding read_file
  by_steps q z s (Ok n) d e = outcome_run (record { count = n; fine = q; other = z; start = s; reads = d; parts = e })
  by_steps q z s (Err r) d e = outcome_refused InEvidence r (ap (reading_of x) e) (ap (parts_read x) e)

  by_run : whether (program_from x.alone g 0) ≡ Ok tt → (byte f (at + 1) ≡ 0 → ⊥) → (y : Result ⊤ Refusal) → Starts y
      → parts_of x area ≡ two_parts p (run_evidence f (byte f (at + 1)) (at + 2) p) → Outcome
  unfolding read_file
  by_run q z (Ok _) s e = by_steps q z s _ refl (e ∙ ap (two_parts p) (run_steps f (byte f (at + 1)) (at + 2) p s))
  by_run q z (Err r) s e =
      let d = e ∙ ap (two_parts p) (start_refused f (byte f (at + 1)) (at + 2) p r s) in
      outcome_refused InEvidence r (ap (reading_of x) d) (ap (parts_read x) d)

  by_claim : 65536 ≤ area → whether (program_from x.alone g 0) ≡ Ok tt → (y : Result ⊤ Refusal) → unless_end f at (checked (claim_number f at) at) ≡ y → Outcome
  unfolding read_file
  by_claim l q (Err r) d =
      let e = parts_both x area l q ∙ ap (two_parts p) (evidence_refused f at p area r d) in
      outcome_refused InEvidence r (ap (reading_of x) e) (ap (parts_read x) e)
  by_claim l q (Ok _) d = elim (ℕ_discrete (byte f (at + 1)) 0) [
    | yes z ↦ by_list l q (parts_both x area l q ∙ ap (two_parts p) (evidence_entries f at p area d z)) _ refl
    | no z ↦ by_run q z _ refl (parts_both x area l q ∙ ap (two_parts p) (evidence_run f at p area d z))
  ]

  by_program : 65536 ≤ area → (y : Result ⊤ Refusal) → whether (program_from x.alone g 0) ≡ y → Outcome
  by_program l (Ok _) d = by_claim l d _ refl
  by_program l (Err r) d = no_parts_lem r (parts_refused x area r l d)

  pub outcome : Outcome
  outcome = elim (dec_lt area 65536) [
    | yes l ↦ no_parts_lem (record { number = 8; place = 0 }) (parts_short x area l)
    | no l ↦ by_program (omega arith) _ refl
  ]

  -- ---- a list

  module _ (L : ListParts) where
    pub file_list : read_file x area ≡ list (program_of g p) (targets_of g p) listed.entries
    unfolding read_file
    file_list = rw (L.parts, L.answer)

    pub reading_with_lem : reading_of x (parts_of x area) ≡ reading_with p 0 no_memory (at + 2) (length listed.offsets)
    reading_with_lem = rw (L.parts, L.answer)

    more : More p.shape p.states f (entries_allowed area) (at + 2) [] [] listed
    more = entries_more p.shape p.states f (entries_allowed area) (at + 2) [] [] L.answer

    shape : ShapeRange Plain p.shape
    shape = part_shape x.alone g 0 L.fine

    standing : (k : ℕ) → k < length more.entries → Standing p.shape p.states f (get_or more.offsets k 0) (entry more.entries k)
    standing = listed_at more.listed

    pub parts_list : ListRead (program_of g p) (targets_of g p) listed.entries area
    parts_list =
        subst (λ (es : List Configuration). ListRead (program_of g p) (targets_of g p) es area) (sym more.alike)
        (record {
          part = part_read x.alone g 0 L.fine;
          entries = λ k l.
              let t = standing k l in
              entry_range p.shape shape.processes.1 shape.variables.1 f (get_or more.offsets k 0) p.states false t.head (entry more.entries k) t.next t.reads
              (program_of g p).initial (program_of g p).transitions;
          count = (listed_count more.listed).1;
        })

    most : length more.entries ≤ 524288
    unfolding entries_allowed
    most = omega (arith, (listed_count more.listed).1)

    fits : 4 * length more.entries ≤ area - 16384
    unfolding entries_allowed
    fits = omega (arith, (listed_count more.listed).1)

    -- the claim stands near the beginning
    near : (b : Bool) → cond b 0 p.claim ≤ 22547
    near true = omega arith
    near false = omega (arith, claim_near x.alone g 0 L.fine)

    -- offsets go into four bytes
    small : (k : ℕ) → k < length more.offsets → get_or more.offsets k 0 < 4294967296
    small k l =
        let c = listed_count more.listed in
        omega (arith, c.0, most, near x.alone, listed_near shape.processes.1 shape.variables.1 more.listed k (omega (arith, c.0)))

    module _ (l : List ℕ) (n : length l ≡ area - 16384) where
      abbrev after : List ℕ
      after = wrote_from 0 listed.offsets l

      written : (k : ℕ) → k < length more.entries → le32 after (4 * (0 + k)) ≡ get_or more.offsets k 0
      written k i =
          let c = listed_count more.listed in
          ap (λ (os : List ℕ). le32 (wrote_from 0 os l) (4 * (0 + k))) more.same
          ∙ wrote_at 0 more.offsets l (omega (arith, n, fits, c.0)) small k (omega (arith, c.0))

      loads : (k : ℕ) → k < length more.entries → configuration_of (load_entry f (get_or more.offsets k 0)) ≡ entry more.entries k
      loads k i =
          let t = standing k i in
          entry_loaded p.shape shape.processes.1 shape.variables.1 f (get_or more.offsets k 0) p.states false t.head (entry more.entries k) t.next t.reads

      count_same : length more.entries ≡ length listed.offsets
      count_same = sym (listed_count more.listed).0 ∙ ap length (sym more.same)

      pub count_allowed : length listed.offsets ≤ entries_allowed area
      count_allowed = omega (arith, count_same, (listed_count more.listed).1)

      -- the numbers in the list are the places of the 10s
      pub offsets : (k : ℕ) → k < length listed.offsets
          → (le32 after (4 * k) ≡ get_or listed.offsets k 0) × (is_kind f (le32 after (4 * k)) 16 ≡ true) × (le32 after (4 * k) + 8 < length f)
      offsets k i =
          let j : k < length more.entries = omega (arith, count_same) in
          let z : 4 * (0 + k) ≡ 4 * k = omega arith in
          let e : le32 after (4 * k) ≡ get_or more.offsets k 0 = ap (le32 after) (sym z) ∙ written k j in
          let g = entry_fine f (get_or more.offsets k 0) p.shape p.states false (standing k j).head in (
            e ∙ ap (λ (os : List ℕ). get_or os k 0) (sym more.same),
            ap (λ (at : ℕ). is_kind f at 16) e ∙ not-false _ g.allowed,
            omega (arith, e, cut_fits f (get_or more.offsets k 0) 8 g.whole),
          )

      pub again : listed.entries ≡ entries_of f after (length listed.offsets)
      again =
          more.alike
          ∙ table_of (λ i. configuration_of (load_entry f (le32 after (4 * i)))) 0 (length listed.offsets) more.entries no_entry count_same (λ k i.
          let j : k < length more.entries = omega (arith, count_same) in
          sym (loads k j) ∙ ap (λ (at : ℕ). configuration_of (load_entry f at)) (sym (written k j)))

      pub cubes : (k : ℕ) → k < length listed.offsets → CubeRange (load_entry f (le32 after (4 * k)))
      cubes k i =
          let j : k < length more.entries = omega (arith, count_same) in
          let t = standing k j in
          let z : 4 * (0 + k) ≡ 4 * k = omega arith in
          subst (λ (at : ℕ). CubeRange (load_entry f at)) (sym (written k j) ∙ ap (le32 after) z)
          (cube_range p.shape shape.processes.1 shape.variables.1 f (get_or more.offsets k 0) p.states false t.head (entry more.entries k) t.next t.reads)

  -- ---- a run

  module _ (R : RunParts) where
    pub file_run : read_file x area ≡ run_read (byte f (at + 1)) (program_of g p) (targets_of g p) (memory_at f (at + 2)) (steps_of f (at + 2 + 5) R.count)
    unfolding read_file
    file_run = ap (parts_read x) R.parts

    pub reading_steps : reading_of x (parts_of x area) ≡ reading_with p (byte f (at + 1)) (memory_at f (at + 2)) (at + 2 + 5) R.count
    reading_steps = ap (reading_of x) R.parts

    count₃ : length (program_of g p).transitions ≡ p.transitions.count
    count₃ = table_length (λ i. transition_at g (p.transitions.at + 8 * i)) 0 p.transitions.count

    step_named : (at : ℕ) → step_names p.shape p.transitions.count f at ≡ true → StepOf (program_of g p) (step_at f at)
    unfolding step_names step_at
    step_named at e = go (is_kind f at 32) (is_kind f at 33) e
      where
        go : (a b : Bool)
            → cond a (ltb (byte f (at + 1)) p.transitions.count) (cond b (exists p.shape (byte f (at + 1)) (byte f (at + 2))) (ltb (byte f (at + 1)) p.shape.processes)) ≡ true
            → StepOf (program_of g p) (cond a (Take (byte f (at + 1))) (cond b (Serialise (byte f (at + 1)) (byte f (at + 2))) (Update (byte f (at + 1)))))
        go true b e = omega (arith, ltb-true (byte f (at + 1)) p.transitions.count e, count₃)
        go false true e = both_exist p.shape (byte f (at + 1)) (byte f (at + 2)) e
        go false false e = ltb-true (byte f (at + 1)) p.shape.processes e

    named : (i : ℕ) → i < R.count → StepOf (program_of g p) (step_at f (place_of (λ k. 1 + step_body f k) (at + 2 + 5) i))
    unfolding steps_from
    named i l =
        let place = place_of (λ k. 1 + step_body f k) (at + 2 + 5) i in
        let e = row_each (λ k n. leb (length f) k) (λ k n. checked (step_number p.shape p.transitions.count f k n) k) (λ k. 1 + step_body f k) 1024 (at + 2 + 5) 0 R.count R.reads i (omega arith) in
        let g = step_fine f place p.shape p.transitions.count (0 + i) e in
        step_named place (not-false _ g.names)

    -- each step stands in the file
    pub step_inside : (i : ℕ) → i < R.count
        → (let place = place_of (λ k. 1 + step_body f k) (at + 2 + 5) i in place + step_body f place < length f)
    unfolding steps_from
    step_inside i l =
        let place = place_of (λ k. 1 + step_body f k) (at + 2 + 5) i in
        let e = row_each (λ k n. leb (length f) k) (λ k n. checked (step_number p.shape p.transitions.count f k n) k) (λ k. 1 + step_body f k) 1024 (at + 2 + 5) 0 R.count R.reads i (omega arith) in
        cut_fits f place (step_body f place) (step_fine f place p.shape p.transitions.count (0 + i) e).whole

    few : R.count ≤ 1024
    unfolding steps_from
    few = omega (arith, row_most _ _ _ 1024 (at + 2 + 5) 0 R.count R.reads)

    pub parts_run : RunRead (program_of g p) (targets_of g p) (memory_at f (at + 2)) (steps_of f (at + 2 + 5) R.count)
    parts_run =
        record {
          part = part_read x.alone g 0 R.fine;
          permitted = memory_named p.shape f (at + 2) (start_named p.shape f (at + 2) (unless_fine f (at + 2) _ R.start).1) (part_shape x.alone g 0 R.fine).variables.1;
          steps = λ k l.
              let i : k < R.count = omega (arith, steps_length f (at + 2 + 5) R.count) in
              subst (StepOf (program_of g p)) (sym (steps_at f (at + 2 + 5) R.count k (Update 0) i)) (named k i);
          count = omega (arith, few, steps_length f (at + 2 + 5) R.count);
        }

-- ---- the contents of every file that is read

abbrev Holds : ℕ → FileRead → Type 0
Holds area (refused w r) = Unit {0}
Holds area (list P ts es) = ListRead P ts es area
Holds area (run P ts m ss) = RunRead P ts m ss
Holds area (pso_run P ts m ss) = RunRead P ts m ss

run_holds : (area : ℕ) {P : pws.Program} {ts : List (ℕ → ℕ)} {m : List ℕ} {ss : List Step} → RunRead P ts m ss → (b : Bool)
    → Holds area (cond b (run P ts m ss) (pso_run P ts m ss))
run_holds area R true = R
run_holds area R false = R

file_holds : (x : Input) (area : ℕ) → Holds area (read_file x area)
file_holds x area = go (outcome x area)
  where
    go : Outcome x area → Holds area (read_file x area)
    go (outcome_refused w r a b) = subst (Holds area) (sym b) tt
    go (outcome_list L) = subst (Holds area) (sym (file_list x area L)) (parts_list x area L)
    go (outcome_run R) = subst (Holds area) (sym (file_run x area R)) (run_holds area (parts_run x area R) (eqb (byte x.file (evidence_at x (program_read (program_from x.alone x.code 0)) + 1)) 1))

pub list_read : (x : Input) (area : ℕ) {P : pws.Program} {ts : List (ℕ → ℕ)} {es : List Configuration} → read_file x area ≡ list P ts es → ListRead P ts es area
list_read x area q = subst (Holds area) q (file_holds x area)

pub run_read_lem : (x : Input) (area : ℕ) {P : pws.Program} {ts : List (ℕ → ℕ)} {m : List ℕ} {ss : List Step} → read_file x area ≡ run P ts m ss → RunRead P ts m ss
run_read_lem x area q = subst (Holds area) q (file_holds x area)

pub pso_run_read : (x : Input) (area : ℕ) {P : pws.Program} {ts : List (ℕ → ℕ)} {m : List ℕ} {ss : List Step} → read_file x area ≡ pso_run P ts m ss → RunRead P ts m ss
pso_run_read x area q = subst (Holds area) q (file_holds x area)
