-- What the pass hands on is what readPatterns says, with the places of the patterns in the work area.
use Rattle.std.specs.Prelude.{Result, Ok, Err, ⊤}
use Rattle.file_records.specs.declared.program.Refusal.{Refusal}
use Prim.Native.Nat.{ℕ, zero, suc, ◌+◌, ◌*◌, ◌-◌, ◌<◌, ◌≤◌}
use mathlib.Core.Path.{◌≡◌, refl, sym, ap, subst, ◌∙◌}
use mathlib.Core.Bool.{Bool, true, false, cond}
use mathlib.Core.List.{List, [], ◌∷◌, ◌++◌}
use native.Mathlib.Omega.{arith}
use native.Mathlib.Decide.{dec_lt}
use lib.ListN.{length, get_or, take, drop, length-drop}
use lib.Seq.{length-take-le, drop_at}
use lib.Dec.{leb}
use borrow.Author.Tests.{lt-ltb, le-ltb}
use Rattle.base.specs.Bytes.{choose, le32}
use Rattle.file_records.specs.declared.program.Shape.{Shape}
use Rattle.file_records.specs.declared.program.Program.{Program}
use Rattle.file_records.specs.Records.{checked}
use Rattle.file_records.specs.ProgramPart.{unless_end, program_from, whether, program_read}
use Rattle.file_records.proofs.RecordLaws.{fine_refused}
use Rattle.file_contents.specs.EvidencePart.{entries_allowed, wrote_from}
use Rattle.file_contents.specs.Reading.{Input, evidence_at, list_area}
use Rattle.file_again.proofs.Names.{no_true}
use Rattle.file_again.proofs.Entries.{wrote_at}
use Rattle.file_again.proofs.ProgramPart.{part_shape, part_sizes, claim_near}
use Rattle.pattern_theory.specs.Patterns.{Pattern}
use Rattle.pattern_theory.specs.Fitting as fitting
use Rattle.pattern_reading.specs.Records.{Given, claim_number, pattern_number}
use Rattle.pattern_reading.specs.Reading.{pattern_of, PatternRead, whole, bad, PatternsRead, read, stopped, patterns_from, PatternFile, refused, patterns, evidence_read, evidence_from, read_patterns}
use Rattle.pattern_reading.specs.Reading as reading
use Rattle.pattern_reading.specs.Places.{PatternAt, PatternsAt}
use Rattle.pattern_pass.specs.declared.reading.PatternReading.{PatternReading}
use Rattle.pattern_pass.specs.Passing.{PatternsListed, listed_then, given_then, listed_from, Passed, listed, passed_of, pass_reading, pass_area, HandsOn, PassHandsOn}
use Rattle.pattern_pass.proofs.SeenLaws.{read_pattern}
use Rattle.pattern_pass.proofs.ListedLaws.{head_fine}
use Rattle.pattern_pass.proofs.PassLaws.{evidence_refused, evidence_listed, passed_short, passed_refused, passed_evidence}
use Rattle.pattern_pass.proofs.Places.{pattern_near, pattern_at}

-- ---- the same patterns

abbrev said : Result ⊤ Refusal → List Pattern → PatternsRead
said (Ok _) ps = read ps
said (Err r) ps = stopped r

abbrev read_in : PatternsListed → PatternsRead
read_in l = said l.answer l.patterns

module _ (s : Shape) (states f : List ℕ) where
  pub same_patterns : (left at : ℕ) (os : List ℕ) (ps : List Pattern) → patterns_from left s states f at ps ≡ read_in (listed_from left s states f at os ps)
  unfolding patterns_from listed_from
  same_patterns zero at os ps = go (leb (length f) at) (checked (pattern_number s states f at true) at)
    where
      go : (b : Bool) (x : Result ⊤ Refusal)
          → choose b (λ _. read ps) (λ _. reading.head_then x (λ _. read ps))
          ≡ read_in (choose b (λ _. record { offsets = os; patterns = ps; answer = Ok tt }) (λ _. listed_then x os ps (λ _. record { offsets = os; patterns = ps; answer = Ok tt })))
      go true x = refl
      go false (Ok _) = refl
      go false (Err r) = refl
  same_patterns (suc left) at os ps =
      go (λ g next. same_patterns left next (os ++ (at ∷ [])) (ps ++ (pattern_of g ∷ []))) (leb (length f) at) (checked (pattern_number s states f at false) at) (read_pattern s f at)
    where
      go : ((g : Given) (next : ℕ) → patterns_from left s states f next (ps ++ (pattern_of g ∷ [])) ≡ read_in (listed_from left s states f next (os ++ (at ∷ [])) (ps ++ (pattern_of g ∷ []))))
          → (b : Bool) (x : Result ⊤ Refusal) (y : PatternRead)
          → choose b (λ _. read ps) (λ _. reading.head_then x (λ _. reading.pattern_then y (λ g next. patterns_from left s states f next (ps ++ (pattern_of g ∷ [])))))
          ≡ read_in (choose b (λ _. record { offsets = os; patterns = ps; answer = Ok tt })
          (λ _. listed_then x os ps (λ _. given_then y os ps (λ g next. listed_from left s states f next (os ++ (at ∷ [])) (ps ++ (pattern_of g ∷ []))))))
      go ih true x y = refl
      go ih false (Err r) y = refl
      go ih false (Ok _) (bad r) = refl
      go ih false (Ok _) (whole g next) = ih g next

-- ---- one after another

data Following (s : Shape) (states f : List ℕ) : ℕ → ℕ → List ℕ → List Pattern → Type 0 where
  following_end : {left at : ℕ} → Following s states f left at [] []
  following_more : {left at next : ℕ} {os : List ℕ} {g : Given} {ps : List Pattern} → checked (pattern_number s states f at false) at ≡ Ok tt → read_pattern s f at ≡ whole g next
      → Following s states f left next os ps → Following s states f (suc left) at (at ∷ os) (pattern_of g ∷ ps)

append_cons {ℓ} : {A : Type ℓ} (xs : List A) (x : A) (ys : List A) → (xs ++ (x ∷ [])) ++ ys ≡ xs ++ (x ∷ ys)
append_cons [] x ys = refl
append_cons {A = A} (y ∷ xs) x ys = ap (λ (r : List A). y ∷ r) (append_cons xs x ys)

append_none {ℓ} : {A : Type ℓ} (xs : List A) → xs ≡ xs ++ []
append_none [] = refl
append_none {A = A} (x ∷ xs) = ap (λ (r : List A). x ∷ r) (append_none xs)

-- what is read more than os and ps
record More (s : Shape) (states f : List ℕ) (left at : ℕ) (os : List ℕ) (ps : List Pattern) (r : PatternsListed) : Type 0 where
  offsets : List ℕ
  patterns : List Pattern
  same : r.offsets ≡ os ++ offsets
  alike : r.patterns ≡ ps ++ patterns
  following : Following s states f left at offsets patterns

module _ (s : Shape) (states f : List ℕ) where
  abbrev Reads : ℕ → ℕ → List ℕ → List Pattern → Type 0
  Reads left at os ps = (listed_from left s states f at os ps).answer ≡ Ok tt → More s states f left at os ps (listed_from left s states f at os ps)

  nothing : (left at : ℕ) (os : List ℕ) (ps : List Pattern) → More s states f left at os ps (record { offsets = os; patterns = ps; answer = Ok tt })
  nothing left at os ps = record { offsets = []; patterns = []; same = append_none os; alike = append_none ps; following = following_end }

  last : (at : ℕ) (os : List ℕ) (ps : List Pattern) (b : Bool) (x : Result ⊤ Refusal) → checked (pattern_number s states f at true) at ≡ x
      → (let r : PatternsListed = choose b (λ _. record { offsets = os; patterns = ps; answer = Ok tt }) (λ _. listed_then x os ps (λ _. record { offsets = os; patterns = ps; answer = Ok tt })) in
      r.answer ≡ Ok tt → More s states f 0 at os ps r)
  last at os ps true x d q = nothing 0 at os ps
  last at os ps false (Ok _) d q = absurd (no_true (sym (head_fine f at s states true d).2))
  last at os ps false (Err r) d q = absurd (fine_refused (sym q))

  longer : (left at : ℕ) (os : List ℕ) (ps : List Pattern)
      → ((g : Given) (next : ℕ) → Reads left next (os ++ (at ∷ [])) (ps ++ (pattern_of g ∷ [])))
      → (b : Bool) (x : Result ⊤ Refusal) → checked (pattern_number s states f at false) at ≡ x → (y : PatternRead) → read_pattern s f at ≡ y
      → (let r : PatternsListed =
      choose b (λ _. record { offsets = os; patterns = ps; answer = Ok tt })
      (λ _. listed_then x os ps (λ _. given_then y os ps (λ g next. listed_from left s states f next (os ++ (at ∷ [])) (ps ++ (pattern_of g ∷ []))))) in
      r.answer ≡ Ok tt → More s states f (suc left) at os ps r)
  longer left at os ps ih true x d y c q = nothing (suc left) at os ps
  longer left at os ps ih false (Err r) d y c q = absurd (fine_refused (sym q))
  longer left at os ps ih false (Ok _) d (bad r) c q = absurd (fine_refused (sym q))
  longer left at os ps ih false (Ok _) d (whole g next) c q =
      let m = ih g next q in
      record {
        offsets = at ∷ m.offsets;
        patterns = pattern_of g ∷ m.patterns;
        same = m.same ∙ append_cons os at m.offsets;
        alike = m.alike ∙ append_cons ps (pattern_of g) m.patterns;
        following = following_more d c m.following;
      }

  patterns_more : (left at : ℕ) (os : List ℕ) (ps : List Pattern) → Reads left at os ps
  unfolding listed_from
  patterns_more zero at os ps q = last at os ps (leb (length f) at) (checked (pattern_number s states f at true) at) refl q
  patterns_more (suc left) at os ps q =
      longer left at os ps (λ g next. patterns_more left next (os ++ (at ∷ [])) (ps ++ (pattern_of g ∷ []))) (leb (length f) at)
      (checked (pattern_number s states f at false) at) refl (read_pattern s f at) refl q

following_count : {s : Shape} {states f : List ℕ} {left at : ℕ} {os : List ℕ} {ps : List Pattern} → Following s states f left at os ps → (length os ≡ length ps) × (length ps ≤ left)
following_count following_end = (refl, omega arith)
following_count (following_more d c r) = let m = following_count r in (ap suc m.0, omega (arith, m.1))

following_at : {s : Shape} {states f : List ℕ} {left at : ℕ} {os : List ℕ} {ps : List Pattern} → s.processes ≤ 4 → s.variables ≤ 4 → Following s states f left at os ps
    → (k : ℕ) → k < length ps → PatternAt s states f (get_or os k 0) (fitting.pattern_of ps k)
following_at few small following_end k l = absurd (omega arith)
following_at {s} {states} {f} {at = at} few small (following_more {next = next} {g = g} d c r) zero l = pattern_at s few small f at states d g next c
following_at few small (following_more d c r) (suc k) l = following_at few small r k (omega arith)

following_near : {s : Shape} {states f : List ℕ} {left at : ℕ} {os : List ℕ} {ps : List Pattern} → s.processes ≤ 4 → s.variables ≤ 4 → Following s states f left at os ps
    → (k : ℕ) → k < length ps → get_or os k 0 ≤ at + 905 * k
following_near few small following_end k l = absurd (omega arith)
following_near few small (following_more d c r) zero l = omega arith
following_near {s} {states} {f} {at = at} few small (following_more {next = next} {g = g} d c r) (suc k) l =
    omega (arith, following_near few small r k (omega arith), pattern_near s few small f at states d g next c)

-- ---- the whole

allowed_most : (area : ℕ) → (entries_allowed area ≤ 524288) × (4 * entries_allowed area ≤ area - 16384)
unfolding entries_allowed
allowed_most area = (omega arith, omega arith)

module _ (x : Input) (work : List ℕ) where
  abbrev f : List ℕ
  f = x.file

  abbrev area : ℕ
  area = length work

  abbrev p : Program
  p = program_read (program_from x.alone x.code 0)

  -- where the claim stands
  abbrev at : ℕ
  at = evidence_at x p

  abbrev L : PatternsListed
  L = listed_from (entries_allowed area) p.shape p.states f (at + 2) [] []

  abbrev Fit : Passed → Type 0
  Fit P = HandsOn x area (pass_area P work) (pass_reading P)

  module _ (enough : 65536 ≤ area) (fine : whether (program_from x.alone x.code 0) ≡ Ok tt) (claim : unless_end f at (checked (claim_number f at) at) ≡ Ok tt) where
    read_listed : read_patterns x area ≡ evidence_read x p (read_in L)
    unfolding read_patterns evidence_from
    read_listed = rw (le-ltb area 65536 enough, fine, claim, same_patterns p.shape p.states f (entries_allowed area) (at + 2) [] [])

    module _ (q : L.answer ≡ Ok tt) where
      more : More p.shape p.states f (entries_allowed area) (at + 2) [] [] L
      more = patterns_more p.shape p.states f (entries_allowed area) (at + 2) [] [] q

      few : p.shape.processes ≤ 4
      few = (part_shape x.alone x.code 0 fine).processes.1

      small : p.shape.variables ≤ 4
      small = (part_shape x.alone x.code 0 fine).variables.1

      in_order : Following p.shape p.states f (entries_allowed area) (at + 2) L.offsets L.patterns
      in_order =
          subst (λ (os : List ℕ). Following p.shape p.states f (entries_allowed area) (at + 2) os L.patterns) (sym more.same)
          (subst (Following p.shape p.states f (entries_allowed area) (at + 2) more.offsets) (sym more.alike) more.following)

      few_patterns : length L.offsets ≤ entries_allowed area
      few_patterns = let c = following_count in_order in omega (arith, c.0, c.1)

      near : at ≤ 22547
      near = go x.alone
        where
          go : (b : Bool) → cond b 0 p.claim ≤ 22547
          go true = omega arith
          go false = omega (arith, claim_near x.alone x.code 0 fine)

      room : 4 * (0 + length L.offsets) ≤ length (drop 16384 work)
      room = let c = following_count in_order in omega (arith, c.0, c.1, (allowed_most area).1, length-drop 16384 work)

      low : (k : ℕ) → k < length L.offsets → get_or L.offsets k 0 < 4294967296
      low k l =
          let c = following_count in_order in
          omega (arith, following_near few small in_order k (omega (arith, l, c.0)), near, c.0, c.1, (allowed_most area).0, l)

      left : drop 16384 (list_area L.offsets work) ≡ wrote_from 0 L.offsets (drop 16384 work)
      left = drop_at (take 16384 work) (wrote_from 0 L.offsets (drop 16384 work)) 16384 (length-take-le 16384 work (omega (arith, enough)))

      written : (k : ℕ) → k < length L.offsets → le32 (wrote_from 0 L.offsets (drop 16384 work)) (4 * k) ≡ get_or L.offsets k 0
      written k l =
          let z : k ≡ 0 + k = omega arith in
          ap (λ (n : ℕ). le32 (wrote_from 0 L.offsets (drop 16384 work)) (4 * n)) z ∙ wrote_at 0 L.offsets (drop 16384 work) room low k l

      pub stands : PatternsAt p.shape p.states f (drop 16384 (list_area L.offsets work)) (length L.offsets) L.patterns
      stands =
          let c = following_count in_order in
          record {
            count = sym c.0;
            few = omega (arith, c.0, c.1, (allowed_most area).0);
            each = λ k l.
                subst (λ (o : ℕ). PatternAt p.shape p.states f o (fitting.pattern_of L.patterns k))
                (sym (ap (λ (w : List ℕ). le32 w (4 * k)) left ∙ written k l))
                (following_at few small in_order k (omega (arith, l, c.0)));
          }

    handed : (y : Result ⊤ Refusal) → L.answer ≡ y → Fit (listed p L)
    handed (Err r) q = rw q (read_listed ∙ rw q)
    handed (Ok _) q = rw q (L.patterns, read_listed ∙ rw q, stands q, part_sizes x.alone x.code 0 fine refl, few_patterns q)

  by_claim : 65536 ≤ area → whether (program_from x.alone x.code 0) ≡ Ok tt → (y : Result ⊤ Refusal) → unless_end f at (checked (claim_number f at) at) ≡ y → Fit (passed_of x area)
  unfolding read_patterns evidence_from
  by_claim l q (Err r) c =
      subst Fit (sym (passed_evidence x area l q ∙ evidence_refused (entries_allowed area) f at p r c)) (rw (le-ltb area 65536 l, q, c))
  by_claim l q (Ok _) c =
      subst Fit (sym (passed_evidence x area l q ∙ evidence_listed (entries_allowed area) f at p c)) (handed l q c L.answer refl)

  by_program : 65536 ≤ area → (y : Result ⊤ Refusal) → whether (program_from x.alone x.code 0) ≡ y → Fit (passed_of x area)
  unfolding read_patterns
  by_program l (Err r) q = subst Fit (sym (passed_refused x area r l q)) (rw (le-ltb area 65536 l, q))
  by_program l (Ok _) q = by_claim l q _ refl

  pub fits : Fit (passed_of x area)
  unfolding read_patterns
  fits = elim (dec_lt area 65536) [
    | yes l ↦ subst Fit (sym (passed_short x area l)) (rw (lt-ltb area 65536 l))
    | no l ↦ by_program (omega arith) _ refl
  ]

pub pass_hands_on : PassHandsOn
pass_hands_on x work R e = subst (HandsOn x (length work) (pass_area (passed_of x (length work)) work)) (sym e) (fits x work)
