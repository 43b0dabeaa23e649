-- From what the reading hands on to the verdict of the file.
use Rattle.std.specs.Prelude.{Result, Ok, Err}
use Prim.Native.Nat.{ℕ, ◌*◌, ◌-◌, ◌<◌, ◌≤◌}
use mathlib.Core.Path.{◌≡◌, refl, sym, ap, ap₂, ◌∙◌}
use mathlib.Core.Bool.{Bool, true, false, cond, ◌&&◌, not}
use mathlib.Core.List.{List, [], ◌++◌, append-nil}
use native.Mathlib.Omega.{arith}
use lib.ListN.{length, take, drop, replicate, length-drop, drop_of_length-le}
use lib.Seq.{length-take-le}
use lib.Dec.{eqb, leb}
use borrow.Author.Tests.{eq-eqb, ne_eqb, lt-leb}
use Rattle.machine_pws.specs.declared.Step.{Step}
use Rattle.machine_pws.specs.Program as pws
use Rattle.file_records.specs.declared.program.Program.{Program}
use Rattle.file_contents.specs.declared.evidence.Part.TheVariants.{InProgram, InEvidence}
use Rattle.file_contents.specs.declared.evidence.Contents.{Contents}
use Rattle.file_contents.specs.declared.evidence.Unread as why
use Rattle.machine_pws.specs.Machine.{Configuration}
use Rattle.list_theory.specs.Decision as decision
use Rattle.file_records.specs.ProgramPart.{program_of, targets_of}
use Rattle.file_contents.specs.EvidencePart.{steps_of, entries_allowed}
use Rattle.file_contents.specs.Cube.{configuration_of}
use Rattle.file_contents.specs.Reading as reading
use Rattle.file_contents.specs.Reading.{Input}
use Rattle.file_again.specs.Again.{cube_at, entries_of}
use Rattle.file_again.specs.Contents.{RunRead}
use Rattle.file_again.specs.Offending.{end_of_file, is_of_record, offending_by, offending}
use Rattle.file_again.proofs.OffendingLaws.{of_other}
use Rattle.file_again.proofs.Tables.{table_length}
use Rattle.file_again.proofs.Rows.{steps_length}
use Rattle.file_again.proofs.Contents.{list_read, run_read_lem, pso_run_read}
use Rattle.file_again.proofs.Again.{reading_refused_lem, reading_sizes, reading_run, reading_list, reading_count, reading_cube}
use Rattle.run_replay.specs.Answers.{run_answer}
use Rattle.pso_replay.specs.Answers.{pso_steps, pso_run_answer}
use Rattle.verdict.specs.declared.answer.Answer.{Answer}
use Rattle.verdict.specs.declared.answer.Answer.TheVariants.{Safe, Reachable, Pso, Unread, Unheld, Started, Entered, Stopped, Missed}
use Rattle.verdict.specs.declared.answer.Verdict as declared
use Rattle.verdict.specs.Judge.{Verdict, refused, of_run, of_pso_run, of_file, judged, used_of}
use Rattle.verdict.specs.Answers.{verdict_in, offending_in, answer_in_c, said_in_c, Answered}
use Rattle.list_judge.specs.Ready.{Listed, ListReady, slots_cleared, list_said}
use Rattle.verdict.proofs.AreaLaws.{few, upper_part, reading_kept, replay_kept, list_kept}
use Rattle.judge.proofs.SummaryLaws.{listed_taken, said_taken, done_kept}
use Rattle.list_summary.specs.Groups.{summarised}
use Rattle.verdict.proofs.Verdicts.{code, run_is, pso_is, run_high, list_code, short_file, judged_one}

pub short_said : (x : Input) (area : ℕ) → area < 65536 → refused 8 0 ≡ judged x area
unfolding judged
short_said x area l = sym (ap of_file (short_file x area l))

pub answered : (x : Input) (area : ℕ) (r : declared.Verdict) → r ≡ said_in_c x area → Answered x area r
unfolding said_in_c
answered x area r e = record { verdict = judged x area; judged = (judged_one x area).0; same = e }

-- ---- the record that is handed back

-- an answer that is not of the reading hands back the empty end of the evidence
ends : (x : Input) (a : Answer) → 9 ≤ code (verdict_in a) → offending_in x a ≡ end_of_file x.code x.file InEvidence
unfolding is_of_record
ends x (Safe n) l = refl
ends x (Reachable n k) l = refl
ends x (Pso n k) l = refl
ends x (Unread w r) l =
    let past : 8 ≤ r.number = omega (arith, l) in
    let e : (leb 1 r.number && (leb r.number 7 && not (eqb r.number 6))) ≡ false =
    rw (lt-leb r.number 7 (omega (arith, past))) (and_false (leb 1 r.number)) in
    of_other x.code x.file w r.number r.place e (λ d. omega (arith, d, past))
  where
    and_false : (b : Bool) → (b && false) ≡ false
    and_false true = refl
    and_false false = refl
ends x (Unheld k) l = refl
ends x (Started k) l = refl
ends x (Entered k s) l = refl
ends x (Stopped k cause) l = refl
ends x (Missed n) l = refl

-- in an area that is too short
pub short_offending : (x : Input) (area : ℕ) → area < 65536
    → offending_in x (Unread InProgram (record { number = 8; place = 0 })) ≡ offending x (reading.read_file x area)
short_offending x area l = sym (ap (offending x) (short_file x area l))

module _ (x : Input) (area : ℕ) (a : Answer) where
  -- of a list
  pub list_offending : (P : pws.Program) (ts : List (ℕ → ℕ)) (es : List Configuration) → reading.read_file x area ≡ reading.list P ts es
      → verdict_in a ≡ judged x area → offending_in x a ≡ offending x (reading.read_file x area)
  unfolding judged
  list_offending P ts es q e =
      ends x a (omega (arith, list_code (decision.verdict_of P ts es), ap code (e ∙ ap of_file q))) ∙ sym (ap (offending x) q)

  -- of a run of either machine
  pub run_offending : (claim : ℕ) (P : pws.Program) (ts : List (ℕ → ℕ)) (m : List ℕ) (ss : List Step) → reading.read_file x area ≡ reading.run_read claim P ts m ss
      → verdict_in a ≡ judged x area → offending_in x a ≡ offending x (reading.read_file x area)
  unfolding judged
  run_offending claim P ts m ss q e = go (eqb claim 1) q
    where
      go : (b : Bool) → reading.read_file x area ≡ cond b (reading.run P ts m ss) (reading.pso_run P ts m ss) → offending_in x a ≡ offending x (reading.read_file x area)
      go true q =
          ends x a (omega (arith, run_high (of_run (run_answer P ts m ss)) (run_is (run_answer P ts m ss)), ap code (e ∙ ap of_file q))) ∙ sym (ap (offending x) q)
      go false q =
          let v = pso_run_answer P m ts (pso_steps ss) in
          ends x a (omega (arith, run_high (of_pso_run v) (pso_is v), ap code (e ∙ ap of_file q))) ∙ sym (ap (offending x) q)

-- what C gets
pub shown_said : (x : Input) (area : ℕ) (a : Answer) (r : declared.Verdict) → r ≡ answer_in_c x (verdict_in a) (offending_in x a)
    → verdict_in a ≡ judged x area → offending_in x a ≡ offending x (reading.read_file x area) → r ≡ said_in_c x area
unfolding said_in_c
shown_said x area a r e d o = e ∙ ap₂ (answer_in_c x) d o

-- ---- the machine of each claim

module _ (claim : ℕ) (P : pws.Program) (ts : List (ℕ → ℕ)) (m : List ℕ) (ss : List Step) where
  pub run_claimed : claim ≡ 1 → of_run (run_answer P ts m ss) ≡ of_file (reading.run_read claim P ts m ss)
  run_claimed e = rw (eq-eqb claim 1 e)

  pub pso_claimed : (claim ≡ 1 → ⊥) → of_pso_run (pso_run_answer P m ts (pso_steps ss)) ≡ of_file (reading.run_read claim P ts m ss)
  pso_claimed e = rw (ne_eqb claim 1 e)

either_read : (x : Input) (area : ℕ) (b : Bool) {P : pws.Program} {ts : List (ℕ → ℕ)} {m : List ℕ} {ss : List Step}
    → reading.read_file x area ≡ cond b (reading.run P ts m ss) (reading.pso_run P ts m ss) → RunRead P ts m ss
either_read x area true e = run_read_lem x area e
either_read x area false e = pso_run_read x area e

module _ (x : Input) (w : List ℕ) (R : Result Contents why.Unread) (r : R ≡ reading.reading_of x (reading.parts_of x (length w))) where
  abbrev g : List ℕ
  g = x.code

  abbrev f : List ℕ
  f = x.file

  -- the answer a is the judgement, the record is handed back, and past the bytes that belong to the judgement the area is as it was lent
  abbrev Said : Answer → List ℕ → Type 0
  Said a last =
      (verdict_in a ≡ judged x (length w))
      × ((offending_in x a ≡ offending x (reading.read_file x (length w))) × (drop (used_of (length w)) last ≡ drop (used_of (length w)) w))

  left : (work : List ℕ) → work ≡ reading.area_read (reading.parts_of x (length w)) w → 65536 ≤ length w → drop (used_of (length w)) work ≡ drop (used_of (length w)) w
  left work e l = ap (drop (used_of (length w))) e ∙ reading_kept x w l

  judged_of : (y : reading.FileRead) → reading.read_file x (length w) ≡ y → of_file y ≡ judged x (length w)
  unfolding judged
  judged_of y e = sym (ap of_file e)

  -- the reading was refused: so the judgement is, and this record is handed back
  module _ (u : why.Unread) (q : R ≡ Err u) where
    pub unread_said : verdict_in (Unread u.part u.refusal) ≡ judged x (length w)
    unread_said = judged_of (reading.refused u.part u.refusal) (reading_refused_lem x w R r u q)

    pub unread_offending : offending_in x (Unread u.part u.refusal) ≡ offending x (reading.read_file x (length w))
    unread_offending = sym (ap (offending x) (reading_refused_lem x w R r u q))

    -- what is returned then, and what the reading left in the area
    pub unread_returned : (work : List ℕ) → work ≡ reading.area_read (reading.parts_of x (length w)) w → 65536 ≤ length w → Said (Unread u.part u.refusal) work
    unread_returned work e l = (unread_said, (unread_offending, left work e l))

  module _ (C : Contents) (q : R ≡ Ok C) where
    abbrev p : Program
    p = C.program

    abbrev n : ℕ
    n = C.evidence.count

    module _ (work : List ℕ) (e : work ≡ reading.area_read (reading.parts_of x (length w)) w) (c : C.claim ≡ 0) where
      entries_length : length (entries_of f (drop 16384 work) n) ≡ n
      entries_length = table_length (λ i. configuration_of (cube_at f (drop 16384 work) i)) 0 n

      listed : Listed g f (drop 16384 work) n p
      listed =
          let L = list_read x (length w) (reading_list x w R r C q work e c) in
          record {
            sizes = reading_sizes x w R r C q;
            part = L.part;
            count = omega (arith, reading_count x w R r C q work e c, few (entries_allowed (length w)) (length w) refl);
            entries = λ k l. L.entries k (omega (arith, entries_length));
            cubes = reading_cube x w R r C q work e c;
          }

      -- there is room for the offsets of the entries allowed, and for their slots behind them
      module _ (list : List ℕ) (d : list ≡ drop 16384 work) (at : ℕ) (a : at ≡ 4 * entries_allowed (length w)) (large : 65536 ≤ length w) (same : length work ≡ length w) where
        many : n ≤ entries_allowed (length w)
        many = reading_count x w R r C q work e c

        pub ready : ListReady g f list at n p
        unfolding entries_allowed
        ready =
            rw d
            (record {
              offsets = omega (arith, many);
              room = omega (arith, length-drop 16384 work);
              slots = omega (arith, many, length-drop 16384 work);
              listed = listed_taken g f (drop 16384 work) at n p (omega (arith, many)) listed;
            })

        -- it was read as this list
        abbrev es : List Configuration
        es = entries_of f (drop 16384 work) n

        pub list_handed : (a : Answer) → verdict_in a ≡ judged x (length w) → offending_in x a ≡ offending x (reading.read_file x (length w))
        list_handed a h = list_offending x (length w) a (program_of g p) (targets_of g p) es (reading_list x w R r C q work e c) h

        pub list_said_lem : (v : Verdict) → v ≡ list_said g f (take at list) n p → v ≡ judged x (length w)
        list_said_lem v h =
            h ∙ ap (λ (l : List ℕ). list_said g f (take at l) n p) d ∙ said_taken g f (drop 16384 work) at n p (omega (arith, many)) ∙ judged_of _ (reading_list x w R r C q work e c)

        -- past the bytes that belong to the judgement all is as the reading left it
        pub list_area : {last : List ℕ} → last ≡ summarised f p.shape at n (slots_cleared list at n) → drop (used_of (length w)) work ≡ drop (used_of (length w)) w
            → drop (used_of (length w)) (take 16384 work ++ (last ++ drop (length work - 16384) (drop 16384 work))) ≡ drop (used_of (length w)) w
        list_area {last} x y =
            let none : drop (length work - 16384) (drop 16384 work) ≡ [] = drop_of_length-le (drop 16384 work) {i = length work - 16384} (omega (arith, length-drop 16384 work)) in
            let k : drop (12 * entries_allowed (length w)) last ≡ drop (12 * entries_allowed (length w)) (drop 16384 work) =
            ap (drop (12 * entries_allowed (length w))) x ∙ done_kept g f list at n p ready (12 * entries_allowed (length w)) (omega (arith, many)) ∙ ap (drop (12 * entries_allowed (length w))) d in
            list_kept (length w) work w (last ++ drop (length work - 16384) (drop 16384 work)) y (omega arith)
            (ap (λ (t : List ℕ). drop (12 * entries_allowed (length w)) (last ++ t)) none ∙ ap (drop (12 * entries_allowed (length w))) (append-nil last) ∙ k)

      -- the upper part of the area is lent, and what is returned of it
      module _ (at : ℕ) (a : at ≡ 4 * entries_allowed (length work)) (large : 65536 ≤ length w) (kept : length work ≡ length w) where
        abbrev upper : List ℕ
        upper = take (length work - 16384) (drop 16384 work)

        placed : at ≡ 4 * entries_allowed (length w)
        placed = a ∙ ap (λ (m : ℕ). 4 * entries_allowed m) kept

        pub upper_ready : ListReady g f upper at n p
        upper_ready = ready upper (upper_part 16384 work) at placed large kept

        pub list_returned : (v : Answer) (last : List ℕ) → verdict_in v ≡ list_said g f (take at upper) n p → last ≡ summarised f p.shape at n (slots_cleared upper at n)
            → Said v (take 16384 work ++ (last ++ drop (length work - 16384) (drop 16384 work)))
        list_returned v last h y =
            let d = upper_part 16384 work in
            let said : verdict_in v ≡ judged x (length w) = list_said_lem upper d at placed large kept (verdict_in v) h in
            (said, (list_handed upper d at placed large kept v said, list_area upper d at placed large kept y (left work e large)))

    pub run_said : (C.claim ≡ 0 → ⊥) → (v : Verdict) (lower : ℕ) → lower ≡ 16384
        → (pws.ProgramInRange (program_of g p) → n ≤ 1024 → lower ≡ 16384
        → v ≡ of_file (reading.run_read C.claim (program_of g p) (targets_of g p) C.memory (steps_of f C.evidence.at n)))
        → v ≡ judged x (length w)
    run_said c v lower l h =
        let s = reading_run x w R r C q c in
        let L : RunRead (program_of g p) (targets_of g p) C.memory (steps_of f C.evidence.at n) =
        either_read x (length w) (eqb C.claim 1) s in
        h L.part.program (omega (arith, L.count, steps_length f C.evidence.at n)) l ∙ judged_of _ s

    pub run_handed : (C.claim ≡ 0 → ⊥) → (a : Answer) → verdict_in a ≡ judged x (length w) → offending_in x a ≡ offending x (reading.read_file x (length w))
    run_handed c a h =
        run_offending x (length w) a C.claim (program_of g p) (targets_of g p) C.memory (steps_of f C.evidence.at n)
        (reading_run x w R r C q c) h

    pub run_returned : (C.claim ≡ 0 → ⊥) → (work : List ℕ) → work ≡ reading.area_read (reading.parts_of x (length w)) w → 65536 ≤ length w → length work ≡ length w
        → (v : Answer) (last : List ℕ) → last ≡ replicate (length (take 16384 work)) 0
        → (pws.ProgramInRange (program_of g p) → n ≤ 1024 → length (take 16384 work) ≡ 16384
        → verdict_in v ≡ of_file (reading.run_read C.claim (program_of g p) (targets_of g p) C.memory (steps_of f C.evidence.at n)))
        → Said v (last ++ drop 16384 work)
    run_returned c work e large kept v last y h =
        let said : verdict_in v ≡ judged x (length w) = run_said c (verdict_in v) (length (take 16384 work)) (length-take-le 16384 work (omega arith)) h in
        (said, (run_handed c v said, replay_kept (length w) work w last (left work e large) (omega arith) y))
