-- The lowest wrong mark by computation is that of the theory.
use Prim.Native.Nat.{ℕ, ◌+◌, ◌*◌, ◌-◌, ◌<◌, ◌≤◌}
use mathlib.Core.Path.{◌≡◌, refl, sym, ap, subst}
use mathlib.Core.Logic.{◌⊎◌, inl, inr, ⊎_elim}
use mathlib.Core.Bool.{Bool, true, false, ◌||◌, not}
use mathlib.Core.List.{List, [], ◌∷◌}
use native.Mathlib.Omega.{arith}
use native.Mathlib.Decide.{dec_lt}
use lib.ListN.{length, get_or}
use lib.Dec.{T, ltb}
use borrow.Author.Tests.{eqb-true, eqb-false, ltb-true, ltb-false, lt-ltb, le-ltb}
use Rattle.machine_pws.specs.declared.Transition.{Transition}
use Rattle.machine_pws.specs.Program as pws
use Rattle.machine_pws.specs.Program.{transition, no_transition}
use Rattle.base.specs.Bytes.{byte}
use Rattle.file_records.specs.declared.program.Program.{Program}
use Rattle.file_records.specs.Records.{transition_at}
use Rattle.file_records.specs.ProgramPart.{program_of}
use Rattle.file_records.proofs.ProgramLaws.{and_true}
use Rattle.file_again.specs.Again.{transition_of}
use Rattle.file_again.proofs.Tables.{table_length, table_number, of_four}
use Rattle.report_theory.specs.Nops.{is_fence, FenceOf}
use Rattle.report_theory.specs.Report.{mark}
use Rattle.report_theory.specs.Verdict.{Repeats, WrongMark}
use Rattle.report_theory.proofs.Verdict.{right_marks}
use Rattle.report_marks.specs.Marks.{lowest, earlier_as, repeats_earlier, fence_in, is_wrong, wrong_mark, mark_bytes, fence_of, is_wrong_of, wrong_of, WrongMarkSame, WrongMarkFound}
use Rattle.report_marks.proofs.Firsts.{lowest_most, lowest_taken, lowest_lower, lowest_same}

-- ---- the code's tests

module _ (f : List ℕ) (p : Program) (n : ℕ) (b : Bool) where
  pub fence_yes : n < p.transitions.count → b ≡ is_fence (transition_of f p n).operation → b ≡ fence_in f p n
  fence_yes l e = rw (lt-ltb n p.transitions.count l) e

  pub fence_no : p.transitions.count ≤ n → b ≡ false → b ≡ fence_in f p n
  fence_no l e = rw (le-ltb n p.transitions.count l) e

pub wrong_is : (f : List ℕ) (p : Program) (marks : List ℕ) (i e m k : ℕ) (b : Bool) → e ≡ lowest (earlier_as marks i) i → m ≡ get_or marks i 0 → k ≡ m → b ≡ fence_in f p k
    → (ltb e i || not b) ≡ is_wrong f p marks i
wrong_is f p marks i e m k b q r s t = rw (q, t, s, r)

-- eight numbers as they were found
pub eight_same : {a b c d e f g h a' b' c' d' e' f' g' h' : ℕ} → a ≡ a' → b ≡ b' → c ≡ c' → d ≡ d' → e ≡ e' → f ≡ f' → g ≡ g' → h ≡ h'
    → ◌≡◌ {A = List ℕ} (a ∷ b ∷ c ∷ d ∷ e ∷ f ∷ g ∷ h ∷ []) (a' ∷ b' ∷ c' ∷ d' ∷ e' ∷ f' ∷ g' ∷ h' ∷ [])
eight_same p q r s t u v w = cc

-- each is that of its record, of two bytes
pub mark_number : (f : List ℕ) (at i : ℕ) → i < 8 → mark (mark_bytes f at) i ≡ byte f (at + 2 * i + 1)
mark_number f at i l = elim (dec_lt i 4) [
  | yes k ↦ of_four (λ (j : ℕ). mark (mark_bytes f at) j ≡ byte f (at + 2 * j + 1)) (placed 0) (placed 1) (placed 2) (placed 3) i k
  | no k ↦
      let e : i ≡ 4 + (i - 4) = omega arith in
      rw e (of_four (λ (j : ℕ). mark (mark_bytes f at) (4 + j) ≡ byte f (at + 2 * (4 + j) + 1)) (placed 4) (placed 5) (placed 6) (placed 7) (i - 4) (omega arith))
]
  where
    placed : (j : ℕ) → byte f (at + (2 * j + 1)) ≡ byte f (at + 2 * j + 1)
    placed j = let e : at + (2 * j + 1) ≡ at + 2 * j + 1 = omega arith in ap (byte f) e

-- ---- what they say

truth : (b : Bool) → T b → b ≡ true
truth true t = refl
truth false t = absurd t

or_cases : (a b : Bool) → (a || b) ≡ true → (a ≡ true) ⊎ (b ≡ true)
or_cases true b e = inl refl
or_cases false b e = inr e

or_false : (a b : Bool) → (a || b) ≡ false → (a ≡ false) × (b ≡ false)
or_false true b e = let z : ◌≡◌ {A = ℕ} 0 1 = cc in absurd (omega arith)
or_false false b e = (refl, e)

not_is : (b : Bool) → not b ≡ true → b ≡ true → ⊥
not_is true e d = let z : ◌≡◌ {A = ℕ} 0 1 = cc in omega arith
not_is false e d = let z : ◌≡◌ {A = ℕ} 0 1 = cc in omega arith

not_not : (b : Bool) → not b ≡ false → b ≡ true
not_not true e = refl
not_not false e = let z : ◌≡◌ {A = ℕ} 0 1 = cc in absurd (omega arith)

-- ---- of the records, and of the program that they are

fence_same : (f : List ℕ) (p : Program) (n : ℕ) → fence_in f p n ≡ fence_of (program_of f p) n
fence_same f p n = elim (dec_lt n p.transitions.count) [
  | yes l ↦
      let h : n < length (program_of f p).transitions = omega (arith, count) in
      rw (lt-ltb n p.transitions.count l, lt-ltb n (length (program_of f p).transitions) h) (ap (λ (t : Transition). is_fence t.operation) (sym (there l)))
  | no l ↦
      let h : length (program_of f p).transitions ≤ n = omega (arith, count) in
      rw (le-ltb n p.transitions.count (omega arith), le-ltb n (length (program_of f p).transitions) h)
]
  where
    count : length (program_of f p).transitions ≡ p.transitions.count
    count = table_length (λ i. transition_at f (p.transitions.at + 8 * i)) 0 p.transitions.count

    there : n < p.transitions.count → transition (program_of f p) n ≡ transition_of f p n
    there l = table_number (λ i. transition_at f (p.transitions.at + 8 * i)) p.transitions.count n no_transition l

pub wrong_mark_same : WrongMarkSame
unfolding wrong_mark wrong_of
wrong_mark_same f p marks bytes same =
    lowest_same (is_wrong f p bytes) (is_wrong_of (program_of f p) marks) (length marks)
    (λ i l. let e = same i l in
    let r : lowest (earlier_as bytes i) i ≡ lowest (earlier_as marks i) i =
    lowest_same (earlier_as bytes i) (earlier_as marks i) i (λ j h. rw (same j (omega arith), e)) in
    rw (r, fence_same f p (mark bytes i), e))

-- ---- of the program, and in the theory

module _ (P : pws.Program) (n : ℕ) where
  fence_is : fence_of P n ≡ true → FenceOf P n
  fence_is e =
      let a = and_true (ltb n (length P.transitions)) (is_fence (transition P n).operation) e in
      record { exists = ltb-true n (length P.transitions) a.0; fence = subst T (sym a.1) tt }

  is_fence_lem : FenceOf P n → fence_of P n ≡ true
  is_fence_lem F = rw (lt-ltb n (length P.transitions) F.exists) (truth _ F.fence)

module _ (P : pws.Program) (marks : List ℕ) (i : ℕ) where
  repeats_is : repeats_earlier marks i ≡ true → Repeats marks i
  repeats_is e =
      let k = lowest (earlier_as marks i) i in
      let h : k < i = ltb-true k i e in
      (k, h, eqb-true (mark marks k) (mark marks i) (lowest_taken (earlier_as marks i) i h))

  is_repeats : repeats_earlier marks i ≡ false → Repeats marks i → ⊥
  is_repeats e r =
      let k = lowest (earlier_as marks i) i in
      let h : i ≤ k = ltb-false k i e in
      eqb-false (mark marks r.0) (mark marks i) (lowest_lower (earlier_as marks i) i r.0 (let d = r.1 in omega arith)) r.2

  wrong_one : is_wrong_of P marks i ≡ true → WrongMark P marks i
  wrong_one e =
      ⊎_elim (λ a. inl (repeats_is a)) (λ b. inr (λ F. not_is (fence_of P (mark marks i)) b (is_fence_lem P (mark marks i) F)))
      (or_cases (repeats_earlier marks i) (not (fence_of P (mark marks i))) e)

  right_one : is_wrong_of P marks i ≡ false → WrongMark P marks i → ⊥
  right_one e w =
      let d = or_false (repeats_earlier marks i) (not (fence_of P (mark marks i))) e in
      ⊎_elim (is_repeats d.0) (λ g. g (fence_is P (mark marks i) (not_not _ d.1))) w

pub wrong_mark_found : WrongMarkFound
unfolding wrong_of
wrong_mark_found P marks =
    let test = is_wrong_of P marks in
    let n = length marks in
    let most = lowest_most test n in (
      λ l.
          record {
            exists = l;
            wrong = wrong_one P marks (lowest test n) (lowest_taken test n l);
            lower = λ j h. right_one P marks j (lowest_lower test n j h);
          },
      λ l. right_marks P marks (λ i h. right_one P marks i (lowest_lower test n i (omega arith))),
    )
