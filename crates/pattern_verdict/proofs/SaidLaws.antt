-- There is always one answer, and what kind 0 says.
use Rattle.std.specs.Prelude.{Result, Ok, Err, ⊤}
use Prim.Native.Nat.{ℕ, ◌≤◌}
use mathlib.Core.Path.{◌≡◌, refl, sym, ap, ap₂, subst, ◌∙◌}
use mathlib.Core.Bool.{Bool, true, false, ◌&&◌, not}
use mathlib.Core.List.{List}
use native.Mathlib.Omega.{arith}
use lib.Dec.{eqb, leb, ltb}
use borrow.Author.Tests.{lt-leb}
use Rattle.machine_pws.specs.declared.Step.TheVariants.{Take, Serialise, Update}
use Rattle.machine_pws.specs.Program as pws
use Rattle.base.specs.Bytes.{choose}
use Rattle.file_records.specs.declared.program.Refusal.{Refusal}
use Rattle.file_records.specs.declared.program.Program.{Program}
use Rattle.file_records.specs.ProgramPart.{program_from, program_of, targets_of, whether, program_read}
use Rattle.file_contents.specs.declared.evidence.Part.{Part}
use Rattle.file_contents.specs.declared.evidence.Part.TheVariants.{InProgram, InEvidence}
use Rattle.file_contents.specs.EvidencePart.{entries_allowed}
use Rattle.file_contents.specs.Reading.{Input, evidence_at}
use Rattle.file_again.specs.Offending.{end_of_file, is_of_record}
use Rattle.file_again.proofs.OffendingLaws.{of_other}
use Rattle.list_theory.specs.Verdict as lists
use Rattle.verdict.specs.declared.answer.Answer.{Answer}
use Rattle.verdict.specs.declared.answer.Answer.TheVariants.{Safe, Reachable, Pso, Unread, Unheld, Started, Entered, Stopped, Missed}
use Rattle.verdict.specs.Judge.{of_list}
use Rattle.verdict.specs.Answers.{verdict_in, in_c, offending_in, answer_in_c}
use Rattle.verdict.proofs.Verdicts.{code, list_code}
use Rattle.pattern_theory.specs.Patterns.{Pattern}
use Rattle.pattern_theory.specs.Verdict.{pattern_verdict}
use Rattle.pattern_reading.specs.Reading.{PatternsRead, read, stopped, PatternFile, refused, patterns, evidence_read, evidence_from, program_then, files_read, read_patterns, judged, of_patterns, pattern_answer}
use Rattle.pattern_reading.proofs.Safety.{file_judged}
use Rattle.pattern_verdict.specs.Said.{of_pattern_answer, refused_in_c, patterns_said_in_c, PatternFileJudged, PatternsAnswered, AlwaysAnswered, CalledSafe, KindZero}

module _ (x : Input) (area : ℕ) where
  answer_of : (r : PatternFile) → read_patterns x area ≡ r → pattern_answer x area ≡ of_patterns r
  unfolding pattern_answer
  answer_of r e = ap of_patterns e

  is_judged : (r : PatternFile) → read_patterns x area ≡ r → PatternFileJudged r (of_pattern_answer (of_patterns r))
  is_judged (refused w r) e = refl
  is_judged (patterns P ts ps) e = (pattern_verdict P ts ps, (file_judged x area P ts ps e (pattern_verdict P ts ps)).0 (answer_of (patterns P ts ps) e), refl)

  pub answered : PatternsAnswered x area (patterns_said_in_c x area)
  unfolding patterns_said_in_c
  answered =
      record {
        verdict = of_pattern_answer (pattern_answer x area);
        judged = subst (λ a. PatternFileJudged (read_patterns x area) (of_pattern_answer a)) (sym (answer_of (read_patterns x area) refl)) (is_judged (read_patterns x area) refl);
        same = refl;
      }

  -- ---- kind 0

  abbrev p : Program
  p = program_read (program_from x.alone x.code 0)

  -- what was read is of the program part that was found fine
  pub record Whole (P : pws.Program) (ts : List (ℕ → ℕ)) : Type 0 where
    pub fine : whether (program_from x.alone x.code 0) ≡ Ok tt
    pub program : program_of x.code p ≡ P
    pub targets : targets_of x.code p ≡ ts

  never : {w : Part} {r : Refusal} {P : pws.Program} {ts : List (ℕ → ℕ)} {ps : List Pattern} → refused w r ≡ patterns P ts ps → ⊥
  never e = let z : ◌≡◌ {A = ℕ} 0 1 = cc in omega arith

  pub whole_part : (P : pws.Program) (ts : List (ℕ → ℕ)) (ps : List Pattern) → read_patterns x area ≡ patterns P ts ps → Whole P ts
  unfolding read_patterns
  whole_part P ts ps e = sized (ltb area 65536) e
    where
      evidence : PatternsRead
      evidence = evidence_from (entries_allowed area) x.file (evidence_at x p) p

      told : whether (program_from x.alone x.code 0) ≡ Ok tt → (r : PatternsRead) → evidence_read x p r ≡ patterns P ts ps → Whole P ts
      told q (read qs) e = record { fine = q; program = cc; targets = cc }
      told q (stopped r) e = absurd (never e)

      answers : (c : Result ⊤ Refusal) → whether (program_from x.alone x.code 0) ≡ c → program_then c (λ _. evidence_read x p evidence) ≡ patterns P ts ps → Whole P ts
      answers (Ok _) q e = told q evidence e
      answers (Err r) q e = absurd (never e)

      sized : (b : Bool)
          → choose b (λ _. refused InProgram (record { number = 8; place = 0 })) (λ _. files_read x (entries_allowed area) (program_from x.alone x.code 0)) ≡ patterns P ts ps
          → Whole P ts
      sized true e = absurd (never e)
      sized false e = answers (whether (program_from x.alone x.code 0)) refl e

  kind_safe : (v : lists.ListVerdict) → (in_c (of_list v)).kind ≡ 0 → v ≡ lists.safe (in_c (of_list v)).first
  kind_safe (lists.safe n) e = refl
  kind_safe (lists.unheld k) e = absurd (omega arith)
  kind_safe (lists.started k) e = absurd (omega arith)
  kind_safe (lists.entered k (Take n)) e = absurd (omega arith)
  kind_safe (lists.entered k (Serialise q v)) e = absurd (omega arith)
  kind_safe (lists.entered k (Update q)) e = absurd (omega arith)

  pub called_safe : (patterns_said_in_c x area).kind ≡ 0 → CalledSafe x area (patterns_said_in_c x area).first
  unfolding patterns_said_in_c
  called_safe = go (read_patterns x area) refl
    where
      go : (r : PatternFile) → read_patterns x area ≡ r → (in_c (of_pattern_answer (pattern_answer x area))).kind ≡ 0 → CalledSafe x area (in_c (of_pattern_answer (pattern_answer x area))).first
      go (refused w r) e k = let d : (in_c (of_pattern_answer (pattern_answer x area))).kind ≡ 2 = ap (λ a. (in_c (of_pattern_answer a)).kind) (answer_of _ e) in absurd (omega (arith, k, d))
      go (patterns P ts ps) e k =
          let a = answer_of _ e in
          let s = kind_safe (pattern_verdict P ts ps) (sym (ap (λ a. (in_c (of_pattern_answer a)).kind) a) ∙ k) in
          let W = whole_part P ts ps e in
          record {
            fine = W.fine;
            list = ps;
            reads = e ∙ rw (W.program, W.targets);
            answer = a ∙ ap judged s ∙ ap (λ b. judged (lists.safe (in_c (of_pattern_answer b)).first)) (sym a);
          }

-- ---- what the code shows is what is said

-- an answer that is not of the reading hands back the empty end of the evidence
ends : (x : Input) (a : Answer) → 9 ≤ code (verdict_in a) → offending_in x a ≡ end_of_file x.code x.file InEvidence
unfolding is_of_record
ends x (Safe n) l = refl
ends x (Reachable n k) l = refl
ends x (Pso n k) l = refl
ends x (Unread w r) l =
    let past : 8 ≤ r.number = omega (arith, l) in
    let e : (leb 1 r.number && (leb r.number 7 && not (eqb r.number 6))) ≡ false =
    rw (lt-leb r.number 7 (omega (arith, past))) (and_false (leb 1 r.number)) in
    of_other x.code x.file w r.number r.place e (λ d. omega (arith, d, past))
  where
    and_false : (b : Bool) → (b && false) ≡ false
    and_false true = refl
    and_false false = refl
ends x (Unheld k) l = refl
ends x (Started k) l = refl
ends x (Entered k s) l = refl
ends x (Stopped k cause) l = refl
ends x (Missed n) l = refl

-- of a refused reading
pub said_refused : (x : Input) (area : ℕ) (w : Part) (r : Refusal) → read_patterns x area ≡ refused w r
    → refused_in_c x w r ≡ patterns_said_in_c x area
unfolding patterns_said_in_c
said_refused x area w r e = rw (answer_of x area (refused w r) e, e)

-- of patterns that were judged
pub said_judged : (x : Input) (area : ℕ) (P : pws.Program) (ts : List (ℕ → ℕ)) (ps : List Pattern) → read_patterns x area ≡ patterns P ts ps
    → (a : Answer) → verdict_in a ≡ of_list (pattern_verdict P ts ps) → answer_in_c x (verdict_in a) (offending_in x a) ≡ patterns_said_in_c x area
unfolding patterns_said_in_c
said_judged x area P ts ps e a d =
    ap₂ (answer_in_c x) d (ends x a (omega (arith, list_code (pattern_verdict P ts ps), ap code d)))
    ∙ rw (answer_of x area (patterns P ts ps) e, e)

pub always_answered : AlwaysAnswered
always_answered x area = answered x area

pub kind_zero : KindZero
kind_zero x area = called_safe x area
