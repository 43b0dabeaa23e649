-- What is read of a pattern file is in range.
use Rattle.std.specs.Prelude.{Result, Ok, Err, ⊤}
use Prim.Native.Nat.{ℕ, zero, suc, ◌+◌, ◌<◌, ◌≤◌}
use mathlib.Core.Path.{◌≡◌, refl, ap, subst, ◌∙◌}
use mathlib.Core.Logic.{inl, inr}
use mathlib.Core.Bool.{Bool, true, false, cond}
use mathlib.Core.Option.{none, some}
use mathlib.Core.List.{List, [], ◌∷◌, ◌++◌}
use native.Mathlib.Omega.{arith}
use lib.ListN.{length}
use lib.Dec.{eqb, leb, ltb}
use borrow.Author.Tests.{eq-eqb, ltb-true, lt-ltb, le-ltb, not-false}
use Rattle.machine_pws.specs.Program as pws
use Rattle.machine_pws.specs.Entries.{ValueOrFF}
use Rattle.machine_pws.proofs.Facts.{put_each}
use Rattle.file_records.specs.declared.program.Shape.{Shape}
use Rattle.file_records.specs.declared.program.Refusal.{Refusal}
use Rattle.file_records.specs.declared.program.Program.{Program}
use Rattle.base.specs.Bytes.{choose, byte}
use Rattle.file_records.specs.Records.{checked, is_kind, value_count, exists, value_name, state_names, waiting_number}
use Rattle.file_records.specs.ProgramPart.{unless_end, program_from, shape_of, program_of, whether, program_read}
use Rattle.file_records.proofs.RecordLaws.{good}
use Rattle.file_records.proofs.ProgramLaws.{and_true}
use Rattle.file_contents.specs.declared.evidence.Part.{Part}
use Rattle.file_contents.specs.declared.evidence.Part.TheVariants.{InProgram}
use Rattle.file_contents.specs.EvidencePart.{entries_allowed}
use Rattle.file_contents.specs.Reading.{evidence_at}
use Rattle.file_again.proofs.Tables.{of_four}
use Rattle.file_again.proofs.Names.{both_exist, value_inside}
use Rattle.file_again.proofs.ProgramPart.{part_read, part_shape}
use Rattle.pattern_theory.specs.Patterns.{PathRead, Pattern}
use Rattle.pattern_theory.specs.Verdict.{ReadsOf, PatternIn, PatternsIn, is_some}
use Rattle.pattern_reading.specs.Records.{asked, Given, claim_number, newest_names, pattern_number, beginning, read_names, read_number, mark_number, body_number, body_size, with_value, read_at, read_put, with_mark, extended}
use Rattle.pattern_reading.specs.Reading.{pattern_of, complete, PatternRead, whole, bad, at_boundary, finished, body_then, pattern_from, PatternsRead, read, stopped, head_then, pattern_then, patterns_from, refused, patterns, evidence_read, evidence_from, program_then, files_read, read_patterns}
use Rattle.pattern_reading.specs.Safety.{ReadInRange}

-- ---- what was said was fine

bad_whole : {r : Refusal} {g : Given} {n : ℕ} → bad r ≡ whole g n → ⊥
bad_whole e = let z : ◌≡◌ {A = ℕ} 0 1 = cc in omega arith

stopped_read : {r : Refusal} {ps : List Pattern} → stopped r ≡ read ps → ⊥
stopped_read e = let z : ◌≡◌ {A = ℕ} 0 1 = cc in omega arith

refused_patterns : {w : Part} {r : Refusal} {P : pws.Program} {ts : List (ℕ → ℕ)} {ps : List Pattern} → refused w r ≡ patterns P ts ps → ⊥
refused_patterns e = let z : ◌≡◌ {A = ℕ} 0 1 = cc in omega arith

body_fine : (c : Result ⊤ Refusal) (x : Unit {0} → PatternRead) (g : Given) (n : ℕ) → body_then c x ≡ whole g n → (c ≡ Ok tt) × (x tt ≡ whole g n)
body_fine (Ok _) x g n e = (refl, e)
body_fine (Err r) x g n e = absurd (bad_whole e)

head_fine : (c : Result ⊤ Refusal) (x : Unit {0} → PatternsRead) (ps : List Pattern) → head_then c x ≡ read ps → (c ≡ Ok tt) × (x tt ≡ read ps)
head_fine (Ok _) x ps e = (refl, e)
head_fine (Err r) x ps e = absurd (stopped_read e)

-- ---- one pattern

-- the bytes at v, for the variables that there are, name values
record GivenIn (s : Shape) (g : Given) : Type 0 where
  newest : (v : ℕ) → v < s.variables → (x : ℕ) → g.newest v ≡ some x → x < value_count s v
  absent : (v : ℕ) → s.variables ≤ v → g.newest v ≡ none
  reads : (p : ℕ) → ReadsOf (shape_of s) (g.path p)

asked_is : (b x : ℕ) → asked b ≡ some x → (eqb b 255 ≡ false) × (b ≡ x)
asked_is b x e = go (eqb b 255) refl e
  where
    go : (t : Bool) → eqb b 255 ≡ t → cond t none (some b) ≡ some x → (eqb b 255 ≡ false) × (b ≡ x)
    go true d e = let z : ◌≡◌ {A = ℕ} 0 1 = cc in absurd (omega arith)
    go false d e = (d, cc)

pub asked_value : (b x : ℕ) (s : Shape) (v : ℕ) → ValueOrFF (shape_of s) v b → asked b ≡ some x → x < value_count s v
asked_value b x s v (inl d) e = let t = eq-eqb b 255 d in let u = (asked_is b x e).0 in let z : ◌≡◌ {A = ℕ} 0 1 = cc in absurd (omega arith)
asked_value b x s v (inr l) e = subst (λ (y : ℕ). y < value_count s v) (asked_is b x e).1 l

pub reads_snoc : (S : pws.Shape) (rs : List PathRead) (r : PathRead) → ReadsOf S rs → r.variable < S.variables → r.value < S.values r.variable → ReadsOf S (rs ++ (r ∷ []))
reads_snoc S [] r a b c = (b, c, tt)
reads_snoc S (q ∷ rs) r a b c = (a.0, a.1, reads_snoc S rs r a.2 b c)

module _ (s : Shape) (few : s.variables ≤ 4) (f : List ℕ) where
  pub newest_named : (at : ℕ) → newest_names s f at ≡ true → (v : ℕ) → v < 4 → value_name s v (byte f (at + (5 + v))) ≡ true
  unfolding newest_names
  newest_named at e =
      let a = and_true (value_name s 0 (byte f (at + 5))) _ e in
      let b = and_true (value_name s 1 (byte f (at + 6))) _ a.1 in
      let c = and_true (value_name s 2 (byte f (at + 7))) _ b.1 in
      of_four (λ (v : ℕ). value_name s v (byte f (at + (5 + v))) ≡ true) a.0 b.0 c.0 c.1

  beginning_in : (states : List ℕ) (at : ℕ) (full : Bool) → checked (pattern_number s states f at full) at ≡ Ok tt → GivenIn s (beginning s f at)
  unfolding pattern_number
  beginning_in states at full e =
      let names = (and_true (state_names s states f at) (newest_names s f at) (not-false _ (good at e).names)).1 in
      record {
        newest = λ v l x d. asked_value (byte f (at + (5 + v))) x s v
            (value_inside s v (byte f (at + (5 + v))) l (newest_named at names v (omega arith))) (rw (lt-ltb v s.variables l) at d);
        absent = λ v l. rw (le-ltb v s.variables l);
        reads = λ p. tt;
      }

  read_named : (at : ℕ) (reads : ℕ) → checked (read_number s f at reads) at ≡ Ok tt
      → (byte f (at + 2) < s.variables) × (byte f (at + 3) < value_count s (byte f (at + 2)))
  unfolding read_number read_names
  read_named at reads e =
      let a = and_true (exists s (byte f (at + 1)) (byte f (at + 2))) _ (not-false _ (good at e).names) in
      let b = and_true (ltb (byte f (at + 3)) (value_count s (byte f (at + 2)))) (leb (byte f (at + 4)) 1) a.1 in
      ((both_exist s (byte f (at + 1)) (byte f (at + 2)) a.0).1, ltb-true (byte f (at + 3)) (value_count s (byte f (at + 2))) b.0)

  with_read : (at : ℕ) (g : Given) → checked (read_number s f at (length (g.path (byte f (at + 1))))) at ≡ Ok tt → GivenIn s g → GivenIn s (read_put f at g)
  with_read at g e o =
      let n = read_named at (length (g.path (byte f (at + 1)))) e in
      record {
        newest = o.newest;
        absent = o.absent;
        reads = λ p. put_each (λ q (rs : List PathRead). ReadsOf (shape_of s) rs) g.path (byte f (at + 1)) (g.path (byte f (at + 1)) ++ (read_at f at ∷ [])) p
            (reads_snoc (shape_of s) (g.path (byte f (at + 1))) (read_at f at) (o.reads (byte f (at + 1))) n.0 n.1) (λ d. o.reads p);
      }

  extended_in : (at : ℕ) (g : Given) → checked (body_number s f at g) at ≡ Ok tt → GivenIn s g → GivenIn s (extended f at g)
  unfolding body_number extended
  extended_in at g e o = go (is_kind f at 18) (is_kind f at 20) e
    where
      p : ℕ
      p = byte f (at + 1)

      v : ℕ
      v = byte f (at + 2)

      go : (a b : Bool)
          → checked (cond a (waiting_number s f at (length (g.word p v))) (cond b (read_number s f at (length (g.path p))) (cond (is_kind f at 21) (mark_number s f at (is_some (g.mark p v))) 2))) at ≡ Ok tt
          → GivenIn s (cond a (with_value f at g) (cond b (read_put f at g) (with_mark f at g)))
      go true b e = record { newest = o.newest; absent = o.absent; reads = o.reads }
      go false true e = with_read at g e o
      go false false e = record { newest = o.newest; absent = o.absent; reads = o.reads }

  finished_in : (start at : ℕ) (g h : Given) (n : ℕ) → finished s start at g ≡ whole h n → GivenIn s g → GivenIn s h
  unfolding finished
  finished_in start at g h n e o = go (complete s g) e
    where
      go : (b : Bool) → cond b (whole g at) (bad (record { number = 7; place = start })) ≡ whole h n → GivenIn s h
      go true e = let same : g ≡ h = cc in subst (GivenIn s) same o
      go false e = absurd (bad_whole e)

  pattern_in : (bytes start at : ℕ) (g h : Given) (n : ℕ) → pattern_from bytes s f start at g ≡ whole h n → GivenIn s g → GivenIn s h
  unfolding pattern_from
  pattern_in zero start at g h n e o = finished_in start at g h n e o
  pattern_in (suc bytes) start at g h n e o = go (pattern_in bytes start (at + body_size f at) (extended f at g) h n) (at_boundary f at) e
    where
      next : Unit {0} → PatternRead
      next u = pattern_from bytes s f start (at + body_size f at) (extended f at g)

      go : (pattern_from bytes s f start (at + body_size f at) (extended f at g) ≡ whole h n → GivenIn s (extended f at g) → GivenIn s h)
          → (b : Bool) → choose b (λ _. finished s start at g) (λ _. body_then (checked (body_number s f at g) at) next) ≡ whole h n → GivenIn s h
      go ih true e = finished_in start at g h n e o
      go ih false e = let r = body_fine (checked (body_number s f at g) at) next h n e in ih r.1 (extended_in at g r.0 o)

-- ---- patterns

abbrev AllIn : pws.Shape → List Pattern → Type 0
AllIn S [] = Unit {0}
AllIn S (a ∷ ps) = PatternIn S a × AllIn S ps

all_snoc : (S : pws.Shape) (ps : List Pattern) (a : Pattern) → AllIn S ps → PatternIn S a → AllIn S (ps ++ (a ∷ []))
all_snoc S [] a i j = (j, tt)
all_snoc S (b ∷ ps) a i j = (i.0, all_snoc S ps a i.1 j)

by_number : (S : pws.Shape) (ps : List Pattern) → AllIn S ps → PatternsIn S ps
by_number S [] i k l = absurd (omega arith)
by_number S (a ∷ ps) i zero l = i.0
by_number S (a ∷ ps) i (suc k) l = by_number S ps i.1 k (omega arith)

given_pattern : (s : Shape) (g : Given) → GivenIn s g → PatternIn (shape_of s) (pattern_of g)
given_pattern s g o = record { newest = o.newest; absent = o.absent; reads = λ p l. o.reads p }

module _ (s : Shape) (few : s.variables ≤ 4) (states : List ℕ) (f : List ℕ) where
  patterns_in : (left at : ℕ) (ps qs : List Pattern) → patterns_from left s states f at ps ≡ read qs → AllIn (shape_of s) ps → AllIn (shape_of s) qs
  unfolding patterns_from
  patterns_in zero at ps qs e i = go (leb (length f) at) e
    where
      same : read ps ≡ read qs → AllIn (shape_of s) qs
      same e = let d : ps ≡ qs = cc in subst (AllIn (shape_of s)) d i

      go : (b : Bool) → choose b (λ _. read ps) (λ _. head_then (checked (pattern_number s states f at true) at) (λ _. read ps)) ≡ read qs → AllIn (shape_of s) qs
      go true e = same e
      go false e = same (head_fine (checked (pattern_number s states f at true) at) (λ _. read ps) qs e).1
  patterns_in (suc left) at ps qs e i = go (λ n g. patterns_in left n (ps ++ (pattern_of g ∷ [])) qs) (leb (length f) at) e
    where
      next : Unit {0} → PatternsRead
      next u = pattern_then (pattern_from (length f) s f at (at + 9) (beginning s f at)) (λ g n. patterns_from left s states f n (ps ++ (pattern_of g ∷ [])))

      one : ((n : ℕ) (g : Given) → patterns_from left s states f n (ps ++ (pattern_of g ∷ [])) ≡ read qs → AllIn (shape_of s) (ps ++ (pattern_of g ∷ [])) → AllIn (shape_of s) qs)
          → GivenIn s (beginning s f at) → (r : PatternRead) → pattern_from (length f) s f at (at + 9) (beginning s f at) ≡ r
          → pattern_then r (λ g n. patterns_from left s states f n (ps ++ (pattern_of g ∷ []))) ≡ read qs → AllIn (shape_of s) qs
      one ih o (whole g n) d e = ih n g e (all_snoc (shape_of s) ps (pattern_of g) i (given_pattern s g (pattern_in s few f (length f) at (at + 9) (beginning s f at) g n d o)))
      one ih o (bad r) d e = absurd (stopped_read e)

      go : ((n : ℕ) (g : Given) → patterns_from left s states f n (ps ++ (pattern_of g ∷ [])) ≡ read qs → AllIn (shape_of s) (ps ++ (pattern_of g ∷ [])) → AllIn (shape_of s) qs)
          → (b : Bool) → choose b (λ _. read ps) (λ _. head_then (checked (pattern_number s states f at false) at) next) ≡ read qs → AllIn (shape_of s) qs
      go ih true e = let d : ps ≡ qs = cc in subst (AllIn (shape_of s)) d i
      go ih false e =
          let r = head_fine (checked (pattern_number s states f at false) at) next qs e in
          one ih (beginning_in s few f states at false r.0) (pattern_from (length f) s f at (at + 9) (beginning s f at)) refl r.1

-- ---- the whole

pub read_in_range : ReadInRange
unfolding read_patterns evidence_from
read_in_range x area P ts ps e = sized (ltb area 65536) e
  where
    part : Result Program Refusal
    part = program_from x.alone x.code 0

    p : Program
    p = program_read part

    evidence : PatternsRead
    evidence = evidence_from (entries_allowed area) x.file (evidence_at x p) p

    right : whether part ≡ Ok tt → evidence ≡ read ps → pws.ProgramInRange (program_of x.code p) × PatternsIn (program_of x.code p).shape ps
    right q d =
        let h = head_fine (unless_end x.file (evidence_at x p) (checked (claim_number x.file (evidence_at x p)) (evidence_at x p)))
        (λ _. patterns_from (entries_allowed area) p.shape p.states x.file (evidence_at x p + 2) []) ps d in
        let s = part_shape x.alone x.code 0 q in (
          (part_read x.alone x.code 0 q).program,
          by_number (shape_of p.shape) ps (patterns_in p.shape s.variables.1 p.states x.file (entries_allowed area) (evidence_at x p + 2) [] ps h.1 tt),
        )

    told : whether part ≡ Ok tt → (r : PatternsRead) → evidence ≡ r → evidence_read x p r ≡ patterns P ts ps → pws.ProgramInRange P × PatternsIn P.shape ps
    told q (read qs) d e =
        let a : program_of x.code p ≡ P = cc in
        let b : qs ≡ ps = cc in
        subst (λ (Q : pws.Program). pws.ProgramInRange Q × PatternsIn Q.shape ps) a (right q (d ∙ ap read b))
    told q (stopped r) d e = absurd (refused_patterns e)

    answered : (c : Result ⊤ Refusal) → whether part ≡ c → program_then c (λ _. evidence_read x p evidence) ≡ patterns P ts ps → pws.ProgramInRange P × PatternsIn P.shape ps
    answered (Ok _) q e = told q evidence refl e
    answered (Err r) q e = absurd (refused_patterns e)

    sized : (b : Bool) → choose b (λ _. refused InProgram (record { number = 8; place = 0 })) (λ _. files_read x (entries_allowed area) part) ≡ patterns P ts ps
        → pws.ProgramInRange P × PatternsIn P.shape ps
    sized true e = absurd (refused_patterns e)
    sized false e = answered (whether part) refl e
