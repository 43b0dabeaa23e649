-- Laws of the line that is made.
use Prim.Native.Nat.{ℕ, zero, suc, ◌+◌, ◌*◌, ◌-◌, ◌^◌, ◌<◌, ◌≤◌}
use mathlib.Core.Path.{◌≡◌, refl, sym, ap, ap₂, subst, ◌∙◌}
use mathlib.Core.Bool.{Bool, true, false, ◌&&◌, cond}
use mathlib.Core.List.{List, [], ◌∷◌, ◌++◌, append_assoc}
use native.Mathlib.Omega.{arith}
use native.Mathlib.Decide.{dec_lt}
use native.Mathlib.Numerals.{unary_clauses}
use lib.ListN.{length, take, drop, replicate, length-append}
use lib.Dec.{leb}
use lib.Seq.{take_at, length-take-le}
use borrow.Author.Tests.{eq-eqb, ne_eqb, lt-ltb, le-ltb, le-leb, leb-true}
use Rattle.io.specs.Counts.{IsPrefixLen}
use Rattle.io.specs.Digits.{last_digits, IsDigitCount}
use Rattle.machine_pws.specs.declared.Step.{Step}
use Rattle.machine_pws.specs.declared.Step.TheVariants.{Take, Serialise, Update}
use Rattle.machine_pws.specs.Program.{Program, ProgramInRange}
use Rattle.file_again.specs.Contents.{StepOf}
use Rattle.drawing.specs.Text.{letters}
use Rattle.drawing.specs.Runs.{StepInRange, step_in_range}
use Rattle.drawing.specs.Writing.{shown}
use Rattle.drawing.specs.Parts.{placed, Put}
use Rattle.drawing.proofs.LineLaws.{letters_short}
use Rattle.file_contents.specs.Reading.{Input, combined}
use Rattle.verdict.specs.declared.answer.Verdict as declared
use Rattle.verdict.specs.Judge.{Verdict, safe, reachable, pso, refused, entered, judged}
use Rattle.verdict.specs.Answers.{in_c, with_record, said_in_c}
use Rattle.verdict.proofs.Verdicts as verdicts
use Rattle.hrafnolt.specs.Line.{Numbered, TwoNumbers, LineOf, word_safe, word_reachable, word_pso, word_refused, word_of, step_in, StepKnown, said}

-- ---- a text put in place

pub taken : {old new : List ℕ} {at next : ℕ} {text : List ℕ} → Put old new at next text → take next new ≡ take at old ++ text
unfolding placed
taken {old} {new} {at} {next} {text} p =
    let front : List ℕ = take at old ++ text in
    let n : length front ≡ next = omega (arith, p.after, p.room, length-append (take at old) text, length-take-le at old (omega (arith, p.room))) in
    ap (take next) (p.is ∙ sym (append_assoc (take at old) text (drop (at + length text) old))) ∙ take_at front (drop (at + length text) old) next n

-- ---- words

pub word_safe_lem : (kind : ℕ) → kind ≡ 0 → word_of kind ≡ word_safe
unfolding word_of
word_safe_lem kind e = rw (eq-eqb kind 0 e)

pub word_reachable_lem : (kind : ℕ) → (kind ≡ 0 → ⊥) → kind ≡ 1 → word_of kind ≡ word_reachable
unfolding word_of
word_reachable_lem kind n e = rw (ne_eqb kind 0 n, eq-eqb kind 1 e)

pub word_pso_lem : (kind : ℕ) → kind ≡ 3 → word_of kind ≡ word_pso
unfolding word_of
word_pso_lem kind e = ap word_of e

pub word_refused_lem : (kind : ℕ) → (kind ≡ 0 → ⊥) → (kind ≡ 1 → ⊥) → (kind ≡ 3 → ⊥) → word_of kind ≡ word_refused
unfolding word_of
word_refused_lem kind n m l = rw (ne_eqb kind 0 n, ne_eqb kind 1 m, ne_eqb kind 3 l)

-- ---- numbers

ten_times : (a b : ℕ) → b ≡ suc a → 10 ^ b ≡ 10 * 10 ^ a
ten_times a b e = ap (λ (x : ℕ). 10 ^ x) e ∙ simp unary_clauses (omega arith)

large : (m : ℕ) → 18446744073709551616 ≤ 10 ^ (20 + m)
large zero = omega arith
large (suc m) = let h = large m in let e : 10 ^ (20 + suc m) ≡ 10 * 10 ^ (20 + m) = ten_times (20 + m) (20 + suc m) (omega arith) in omega (arith, h, e)

-- a number of 64 bits has no more than 20 digits
pub fewest_few : (n k : ℕ) → n < 18446744073709551616 → IsDigitCount 10 1 n k → k ≤ 20
fewest_few n k l f = elim (dec_lt 20 k) [
  | yes y ↦
      let e : 20 + (k - 21) ≡ k - 1 = omega arith in
      let a : 10 ^ (k - 1) ≤ n = f.2 (omega arith) in
      let b : 18446744073709551616 ≤ 10 ^ (k - 1) = subst (λ (x : ℕ). 18446744073709551616 ≤ 10 ^ x) e (large (k - 21)) in
      absurd (omega arith)
  | no y ↦ omega arith
]

-- a space at `at`, and then k digits
pub numbered : (front spaced whole text : List ℕ) (n k : ℕ) → IsDigitCount 10 1 n k → take k text ≡ last_digits 10 k n → spaced ≡ front ++ (32 ∷ []) → whole ≡ spaced ++ take k text
    → Numbered front n whole
numbered front spaced whole text n k g d e h =
    record {
      places = k;
      fewest = g;
      same = h ∙ ap (λ (x : List ℕ). x ++ take k text) e ∙ append_assoc front (32 ∷ []) (take k text) ∙ ap (λ (x : List ℕ). front ++ (32 ∷ x)) d;
    }

-- ---- lines

-- 11 as C has it
entered_kind : (k : ℕ) (s : Step) → (in_c (entered k s)).kind ≡ 2
entered_kind k (Take n) = refl
entered_kind k (Serialise p v) = refl
entered_kind k (Update p) = refl

entered_first : (k : ℕ) (s : Step) → (in_c (entered k s)).first ≡ 11
entered_first k (Take n) = refl
entered_first k (Serialise p v) = refl
entered_first k (Update p) = refl

entered_second : (k : ℕ) (s : Step) → (in_c (entered k s)).second ≡ k
entered_second k (Take n) = refl
entered_second k (Serialise p v) = refl
entered_second k (Update p) = refl

entered_known : (k : ℕ) (s : Step) → (in_c (entered k s)).step_kind ≡ 0 → ⊥
entered_known k (Take n) e = omega arith
entered_known k (Serialise p v) e = omega arith
entered_known k (Update p) e = omega arith

entered_step : (k : ℕ) (s : Step) → step_in (in_c (entered k s)) ≡ s
unfolding step_in
entered_step k (Take n) = refl
entered_step k (Serialise p v) = refl
entered_step k (Update p) = refl

pub step_take : (v : declared.Verdict) → v.step_kind ≡ 32 → Take v.step_first ≡ step_in v
unfolding step_in
step_take v e = rw (eq-eqb v.step_kind 32 e)

pub step_serialise : (v : declared.Verdict) → (v.step_kind ≡ 32 → ⊥) → v.step_kind ≡ 33 → Serialise v.step_first v.step_second ≡ step_in v
unfolding step_in
step_serialise v n e = rw (ne_eqb v.step_kind 32 n, eq-eqb v.step_kind 33 e)

pub step_update : (v : declared.Verdict) → (v.step_kind ≡ 32 → ⊥) → (v.step_kind ≡ 33 → ⊥) → Update v.step_first ≡ step_in v
unfolding step_in
step_update v n m = rw (ne_eqb v.step_kind 32 n, ne_eqb v.step_kind 33 m)

-- the kind, the two numbers and the step
pub one_line : (word text line : List ℕ) (verdict : declared.Verdict) (v : Verdict) → with_record verdict 0 0 0 ≡ in_c v → verdict.kind ≡ 0 → word ≡ word_of verdict.kind
    → Numbered word verdict.first text → line ≡ text ++ (10 ∷ []) → LineOf v line
one_line word text line verdict (safe n) e z w g h =
    record {
      text = text;
      first =
          subst (λ (x : List ℕ). Numbered x n text) (w ∙ word_safe_lem verdict.kind z)
          (subst (λ (x : ℕ). Numbered word x text) (ap (λ (x : declared.Verdict). x.first) e) g);
      same = h;
    }
one_line word text line verdict (reachable n k) e z w g h = absurd (omega (arith, z, ap (λ (x : declared.Verdict). x.kind) e))
one_line word text line verdict (pso n k) e z w g h = absurd (omega (arith, z, ap (λ (x : declared.Verdict). x.kind) e))
one_line word text line verdict (refused n k) e z w g h = absurd (omega (arith, z, ap (λ (x : declared.Verdict). x.kind) e))
one_line word text line verdict (entered k s) e z w g h = absurd (omega (arith, z, ap (λ (x : declared.Verdict). x.kind) e, entered_kind k s))

two_numbers : (word text more line : List ℕ) (verdict : declared.Verdict) (n k : ℕ) (w : List ℕ) → word ≡ w → verdict.first ≡ n → verdict.second ≡ k
    → Numbered word verdict.first text → Numbered text verdict.second more → line ≡ more ++ (10 ∷ []) → TwoNumbers w n k line
two_numbers word text more line verdict n k w a b c g h e =
    record {
      text = text;
      first = subst (λ (x : List ℕ). Numbered x n text) a (subst (λ (x : ℕ). Numbered word x text) b g);
      more = more;
      second = subst (λ (x : ℕ). Numbered text x more) c h;
      same = e;
    }

refused_word : (word : List ℕ) (kind : ℕ) → word ≡ word_of kind → kind ≡ 2 → word ≡ word_refused
refused_word word kind w e = w ∙ word_refused_lem kind (λ y. omega arith) (λ y. omega arith) (λ y. omega arith)

pub two_lines : (word text more line : List ℕ) (verdict : declared.Verdict) (v : Verdict) → with_record verdict 0 0 0 ≡ in_c v → (verdict.kind ≡ 0 → ⊥) → verdict.step_kind ≡ 0
    → word ≡ word_of verdict.kind → Numbered word verdict.first text → Numbered text verdict.second more → line ≡ more ++ (10 ∷ []) → LineOf v line
two_lines word text more line verdict (safe n) e z y w g h q = absurd (z (ap (λ (x : declared.Verdict). x.kind) e))
two_lines word text more line verdict (reachable n k) e z y w g h q =
    two_numbers word text more line verdict n k word_reachable (w ∙ word_reachable_lem verdict.kind z (ap (λ (x : declared.Verdict). x.kind) e))
    (ap (λ (x : declared.Verdict). x.first) e) (ap (λ (x : declared.Verdict). x.second) e) g h q
two_lines word text more line verdict (pso n k) e z y w g h q =
    two_numbers word text more line verdict n k word_pso (w ∙ word_pso_lem verdict.kind (ap (λ (x : declared.Verdict). x.kind) e))
    (ap (λ (x : declared.Verdict). x.first) e) (ap (λ (x : declared.Verdict). x.second) e) g h q
two_lines word text more line verdict (refused n k) e z y w g h q =
    two_numbers word text more line verdict n k word_refused (refused_word word verdict.kind w (ap (λ (x : declared.Verdict). x.kind) e))
    (ap (λ (x : declared.Verdict). x.first) e) (ap (λ (x : declared.Verdict). x.second) e) g h q
two_lines word text more line verdict (entered k s) e z y w g h q =
    absurd (entered_known k s (sym (ap (λ (x : declared.Verdict). x.step_kind) e) ∙ y))

pub step_line : (word text more all line : List ℕ) (verdict : declared.Verdict) (v : Verdict) → with_record verdict 0 0 0 ≡ in_c v → StepKnown v → (verdict.step_kind ≡ 0 → ⊥)
    → word ≡ word_of verdict.kind → Numbered word verdict.first text → Numbered text verdict.second more → (s : Step) → s ≡ step_in verdict
    → (StepInRange s → all ≡ more ++ (32 ∷ letters s)) → line ≡ all ++ (10 ∷ []) → LineOf v line
unfolding step_in
step_line word text more all line verdict (safe n) e K z w g h t i j q = absurd (z (ap (λ (x : declared.Verdict). x.step_kind) e))
step_line word text more all line verdict (reachable n k) e K z w g h t i j q = absurd (z (ap (λ (x : declared.Verdict). x.step_kind) e))
step_line word text more all line verdict (pso n k) e K z w g h t i j q = absurd (z (ap (λ (x : declared.Verdict). x.step_kind) e))
step_line word text more all line verdict (refused n k) e K z w g h t i j q = absurd (z (ap (λ (x : declared.Verdict). x.step_kind) e))
step_line word text more all line verdict (entered k s) e K z w g h t i j q =
    let d : t ≡ s = i ∙ ap step_in e ∙ entered_step k s in
    record {
      text = text;
      first =
          subst (λ (x : List ℕ). Numbered x 11 text) (refused_word word verdict.kind w (ap (λ (x : declared.Verdict). x.kind) e ∙ entered_kind k s))
          (subst (λ (x : ℕ). Numbered word x text) (ap (λ (x : declared.Verdict). x.first) e ∙ entered_first k s) g);
      more = more;
      second = subst (λ (x : ℕ). Numbered text x more) (ap (λ (x : declared.Verdict). x.second) e ∙ entered_second k s) h;
      same =
          q
          ∙ ap (λ (x : List ℕ). x ++ (10 ∷ [])) (j (subst StepInRange (sym d) K) ∙ ap (λ (x : Step). more ++ (32 ∷ letters x)) d);
    }

-- ---- steps

pub counts : (r : ℕ) (line : List ℕ) → r ≤ length line → IsPrefixLen r line
counts r line l = (l, sym (length-take-le r line l))

-- their letters, in five bytes
in_range_lem : (s : Step) → StepInRange s → step_in_range s ≡ true
in_range_lem (Take n) l = lt-ltb n 256 l
in_range_lem (Serialise p v) l = rw (lt-ltb p 4 l.0, lt-ltb v 4 l.1) refl
in_range_lem (Update p) l = lt-ltb p 4 l

shown_letters : (s : Step) → StepInRange s → shown 5 s ≡ letters s
unfolding shown
shown_letters s l = rw (in_range_lem s l, le-leb (length (letters s)) 5 (letters_short s l))

pub shown_short : (n : ℕ) (s : Step) → length (shown n s) ≤ n
unfolding shown
shown_short n s = go (step_in_range s) (leb (length (letters s)) n) refl
  where
    go : (b c : Bool) → leb (length (letters s)) n ≡ c → length (cond (b && c) (letters s) []) ≤ n
    go true true e = leb-true (length (letters s)) n e
    go true false e = omega arith
    go false true e = omega arith
    go false false e = omega arith

pub shown_counts : (s : Step) (k : ℕ) (text : List ℕ) → k ≡ length (shown 5 s) → text ≡ shown 5 s ++ drop (length (shown 5 s)) (replicate 5 0) → IsPrefixLen k text
shown_counts s k text c d = counts k text (omega (arith, c, ap length d, length-append (shown 5 s) (drop (length (shown 5 s)) (replicate 5 0))))

pub stepped : (front spaced whole text : List ℕ) (s : Step) (k : ℕ) → k ≡ length (shown 5 s) → text ≡ shown 5 s ++ drop (length (shown 5 s)) (replicate 5 0)
    → spaced ≡ front ++ (32 ∷ []) → whole ≡ spaced ++ take k text → StepInRange s → whole ≡ front ++ (32 ∷ letters s)
stepped front spaced whole text s k c d e h l =
    h
    ∙ ap (λ (x : List ℕ). x ++ take k text) e
    ∙ append_assoc front (32 ∷ []) (take k text)
    ∙ ap (λ (x : List ℕ). front ++ (32 ∷ x)) (ap₂ take c d ∙ take_at (shown 5 s) (drop (length (shown 5 s)) (replicate 5 0)) (length (shown 5 s)) refl ∙ shown_letters s l)

-- the step of a file's verdict is in range
in_program : (P : Program) → ProgramInRange P → length P.transitions ≤ 256 → (s : Step) → StepOf P s → StepInRange s
in_program P R l (Take n) o = omega arith
in_program P R l (Serialise p v) o = (omega (arith, o.0, R.shape.processes), omega (arith, o.1, R.shape.variables))
in_program P R l (Update p) o = omega (arith, R.shape.processes)

pub judged_known : (x : Input) (area : ℕ) → StepKnown (judged x area)
judged_known x area = go (judged x area) refl
  where
    go : (v : Verdict) → judged x area ≡ v → StepKnown v
    go (safe n) e = tt
    go (reachable n k) e = tt
    go (pso n k) e = tt
    go (refused n k) e = tt
    go (entered k s) e = let x = verdicts.entered_step x area k s e in in_program x.0 x.1 x.2 s x.3

-- ---- what is said of an input

pub over_said : (input line : List ℕ) → 65536 < length input → LineOf (refused 14 65536) line → LineOf (said input) line
unfolding said
over_said input line l h = rw (lt-ltb 65536 (length input) l) h

pub judged_said : (input line : List ℕ) (area : ℕ) → area ≡ 65536 → length input ≤ 65536 → LineOf (judged (combined input) area) line → LineOf (said input) line
unfolding said
judged_said input line area e l h = rw (le-ltb 65536 (length input) l) (subst (λ (n : ℕ). LineOf (judged (combined input) n) line) e h)

-- the record is no part of the line
pub bare : (x : Input) (area : ℕ) (r : declared.Verdict) → r ≡ said_in_c x area → with_record r 0 0 0 ≡ in_c (judged x area)
unfolding said_in_c
bare x area r e = ap (λ (v : declared.Verdict). with_record v 0 0 0) e ∙ go (judged x area)
  where
    go : (v : Verdict) → with_record (in_c v) 0 0 0 ≡ in_c v
    go (safe n) = refl
    go (reachable n k) = refl
    go (pso n k) = refl
    go (refused n k) = refl
    go (entered k (Take n)) = refl
    go (entered k (Serialise p v)) = refl
    go (entered k (Update p)) = refl
