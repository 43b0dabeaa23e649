-- The reading of the records refuses with a number from 1 to 7, or with 8 where the area is too short.
use Rattle.std.specs.Prelude.{Result, Ok, Err, ⊤}
use Prim.Native.Nat.{ℕ, zero, suc, ◌+◌, ◌≤◌}
use mathlib.Core.Path.{◌≡◌, refl, sym, ap, subst, ◌∙◌}
use mathlib.Core.Bool.{Bool, true, false, cond}
use mathlib.Core.List.{List, []}
use native.Mathlib.Omega.{arith}
use native.Mathlib.Decide.{dec_lt, ℕ_discrete}
use lib.ListN.{length}
use lib.Dec.{eqb, leb}
use borrow.Author.Tests.{eq-eqb, ne_eqb}
use Rattle.machine_pws.specs.Machine.{Configuration}
use Rattle.file_records.specs.declared.program.Format.{Format}
use Rattle.file_records.specs.declared.program.Format.TheVariants.{Plain}
use Rattle.file_records.specs.declared.program.Shape.{Shape}
use Rattle.file_records.specs.declared.program.Refusal.{Refusal}
use Rattle.file_records.specs.declared.program.Program.{Program}
use Rattle.base.specs.Bytes.{byte}
use Rattle.file_records.specs.Format.{most_targets}
use Rattle.file_records.specs.Records.{
  first_number,
  checked,
  is_kind,
  shape_number,
  states_number,
  transition_number,
  target_number,
  claim_number,
  start_number,
  step_number,
  entry_number,
  message_number,
  waiting_number,
}
use Rattle.file_records.specs.ProgramPart.{
  unless_end,
  and_then,
  whether,
  program_read,
  states_from,
  row_from,
  transitions_from,
  targets_from,
  rows_from,
  rest_from,
  program_with,
  program_from,
}
use Rattle.file_contents.specs.EvidencePart.{
  steps_from,
  body_number,
  EntryRead,
  whole,
  bad,
  at_boundary,
  complete,
  finished,
  body_then,
  entry_from,
  entry_read,
  EntriesRead,
  head_then,
  entry_then,
  entries_from,
}
use Rattle.file_contents.specs.declared.evidence.Part.{Part}
use Rattle.file_contents.specs.Reading.{Input, evidence_at, Evidence, refusal, entries, steps, claim_then, evidence_from, run_evidence, two_parts, parts_of, FileRead, refused, list, run, pso_run, list_read, parts_read, read_file}
use Rattle.file_contents.proofs.ReadingLaws.{parts_refused, parts_both}
use Rattle.verdict.proofs.Verdicts.{short_file}
use Rattle.verdict.proofs.AreaLaws.{each_choice}

-- ---- what a refusal is

abbrev pub Low : Refusal → Type 0
Low r = (1 ≤ r.number) × (r.number ≤ 7)

low : (n place : ℕ) → 1 ≤ n → n ≤ 7 → Low (record { number = n; place = place })
low n place a b = (a, b)

abbrev pub LowChecked : Result ⊤ Refusal → Type 0
LowChecked (Ok _) = Unit {0}
LowChecked (Err r) = Low r

abbrev pub LowCounted : Result ℕ Refusal → Type 0
LowCounted (Ok n) = Unit {0}
LowCounted (Err r) = Low r

abbrev LowEntry : EntryRead → Type 0
LowEntry (whole e next) = Unit {0}
LowEntry (bad r) = Low r

abbrev LowEvidence : Evidence → Type 0
LowEvidence (refusal r) = Low r
LowEvidence (entries r) = LowChecked r.answer
LowEvidence (steps claim m n) = LowCounted n

abbrev LowFile : FileRead → Type 0
LowFile (refused w r) = Low r
LowFile (list P ts es) = Unit {0}
LowFile (run P ts m ss) = Unit {0}
LowFile (pso_run P ts m ss) = Unit {0}

-- ---- cases

pub each_cond : {A : Type 0} (F : A → Type 0) (b : Bool) (x y : A) → F x → F y → F (cond b x y)
each_cond F true x y p q = p
each_cond F false x y p q = q

-- ---- one record

pub first_low : (a b c d e : Bool) → first_number a b c d e ≤ 5
unfolding first_number
first_low a b c d e =
    each_cond UpToFive a _ _ (omega arith) (each_cond UpToFive b _ _ (omega arith) (each_cond UpToFive c _ _ (omega arith)
    (each_cond UpToFive d _ _ (omega arith) (each_cond UpToFive e _ _ (omega arith) (omega arith)))))
  where
    UpToFive : ℕ → Type 0
    UpToFive n = n ≤ 5

pub checked_low : (n place : ℕ) → n ≤ 5 → LowChecked (checked n place)
unfolding checked
checked_low n place l = elim (ℕ_discrete n 0) [ yes e ↦ rw (eq-eqb n 0 e) tt | no e ↦ rw (ne_eqb n 0 e) (omega arith, omega arith) ]

pub unless_low : (f : List ℕ) (at : ℕ) (x : Result ⊤ Refusal) → LowChecked x → LowChecked (unless_end f at x)
unfolding unless_end
unless_low f at x h = each_cond LowChecked (leb (length f) at) (Err (record { number = 6; place = length f })) x (low 6 (length f) (omega arith) (omega arith)) h

and_low : (x : Result ⊤ Refusal) (y : Unit {0} → Result ⊤ Refusal) → LowChecked x → LowChecked (y tt) → LowChecked (and_then x y)
and_low (Ok _) y h k = k
and_low (Err r) y h k = h

count_low : (x : Result ⊤ Refusal) (y : Unit {0} → Result ℕ Refusal) → LowChecked x → LowCounted (y tt) → LowCounted (and_then x y)
count_low (Ok _) y h k = k
count_low (Err r) y h k = h

-- ---- the program part

states_low : (f : List ℕ) (n at : ℕ) → LowChecked (states_from f at n)
unfolding states_from states_number
states_low f zero at = tt
states_low f (suc n) at =
    and_low (unless_end f at (checked (states_number f at) at)) (λ _. states_from f (at + 3) n)
    (unless_low f at _ (checked_low (states_number f at) at (first_low _ _ _ _ _))) (states_low f n (at + 3))

pub row_low : (ends : ℕ → ℕ → Bool) (check : ℕ → ℕ → Result ⊤ Refusal) (size : ℕ → ℕ) → ((at n : ℕ) → LowChecked (check at n)) → (left at n : ℕ)
    → LowCounted (row_from ends check size left at n)
unfolding row_from
row_low ends check size h zero at n = each_choice LowCounted (ends at n) _ _ tt (count_low (check at n) _ (h at n) tt)
row_low ends check size h (suc left) at n =
    each_choice LowCounted (ends at n) _ _ tt (count_low (check at n) _ (h at n) (row_low ends check size h left (at + size at) (suc n)))

or_low : (x : Result ⊤ Refusal) (y : Unit {0} → Result Program Refusal) → LowChecked x → LowChecked (whether (y tt)) → LowChecked (whether (and_then x y))
or_low (Ok _) y h k = k
or_low (Err r) y h k = h

with_low : (x : Result ℕ Refusal) (y : ℕ → Result Program Refusal) → LowCounted x → ((n : ℕ) → LowChecked (whether (y n))) → LowChecked (whether (and_then x y))
with_low (Ok n) y h k = k n
with_low (Err r) y h k = h

module _ (k : Format) where
  transitions_low : (s : Shape) (states f : List ℕ) (at : ℕ) → LowCounted (transitions_from k s states f at)
  unfolding transitions_from transition_number
  transitions_low s states f at = row_low _ _ _ (λ i n. checked_low (transition_number k s states f i n) i (first_low _ _ _ _ _)) 256 at 0

  targets_low : (alone : Bool) (s : Shape) (states f : List ℕ) (at : ℕ) → LowCounted (targets_from k alone s states f at)
  unfolding targets_from target_number
  targets_low alone s states f at =
      row_low _ _ _ (λ i n. unless_low f i _ (checked_low (target_number k s states f i n) i (first_low _ _ _ _ _))) (most_targets k) at 0

  rows_low : (alone : Bool) (f : List ℕ) (at : ℕ) (s : Shape) (states initial : List ℕ) → LowChecked (whether (rows_from k alone f at s states initial))
  unfolding rows_from
  rows_low alone f at s states initial =
      with_low (transitions_from k s states f at) _ (transitions_low s states f at) (λ n.
      with_low (targets_from k alone s states f _) _ (targets_low alone s states f _) (λ m. tt))

  rest_low : (alone : Bool) (f : List ℕ) (at : ℕ) (s : Shape) → LowChecked (whether (rest_from k alone f at s))
  unfolding rest_from
  rest_low alone f at s = or_low (states_from f at s.processes) _ (states_low f s.processes at) (rows_low alone f _ s _ _)

  pub program_low : (alone : Bool) (f : List ℕ) (at : ℕ) → LowChecked (whether (program_with k alone f at))
  unfolding program_with shape_number
  program_low alone f at =
      or_low (unless_end f at (checked (shape_number k f at) at)) _ (unless_low f at _ (checked_low (shape_number k f at) at (first_low _ _ _ _ _)))
      (rest_low alone f _ _)

-- ---- the evidence part

steps_low : (s : Shape) (transitions : ℕ) (f : List ℕ) (at : ℕ) → LowCounted (steps_from s transitions f at)
unfolding steps_from step_number
steps_low s transitions f at = row_low _ _ _ (λ k n. checked_low (step_number s transitions f k n) k (first_low _ _ _ _ _)) 1024 at 0

finished_low : (s : Shape) (start at : ℕ) (e : Configuration) → LowEntry (finished s start at e)
unfolding finished
finished_low s start at e = each_cond LowEntry (complete s (length e.memory.channel) e.memory.pointer) (whole e at) (bad (record { number = 7; place = start })) tt (low 7 start (omega arith) (omega arith))

body_low : (s : Shape) (f : List ℕ) (at : ℕ) (e : Configuration) → body_number s f at e ≤ 5
unfolding body_number message_number waiting_number
body_low s f at e = each_cond UpToFive (is_kind f at 17) _ _ (first_low _ _ _ _ _) (each_cond UpToFive (is_kind f at 18) _ _ (first_low _ _ _ _ _) (omega arith))
  where
    UpToFive : ℕ → Type 0
    UpToFive n = n ≤ 5

body_then_lem : (x : Result ⊤ Refusal) (y : Unit {0} → EntryRead) → LowChecked x → LowEntry (y tt) → LowEntry (body_then x y)
body_then_lem (Ok _) y h k = k
body_then_lem (Err r) y h k = h

entry_low : (bytes : ℕ) (s : Shape) (f : List ℕ) (start at : ℕ) (e : Configuration) → LowEntry (entry_from bytes s f start at e)
unfolding entry_from
entry_low zero s f start at e = finished_low s start at e
entry_low (suc bytes) s f start at e =
    each_choice LowEntry (at_boundary f at) _ _ (finished_low s start at e)
    (body_then_lem (checked (body_number s f at e) at) _ (checked_low (body_number s f at e) at (body_low s f at e)) (entry_low bytes s f start _ _))

head_low : (x : Result ⊤ Refusal) (offsets : List ℕ) (es : List Configuration) (y : Unit {0} → EntriesRead) → LowChecked x → LowChecked (y tt).answer
    → LowChecked (head_then x offsets es y).answer
head_low (Ok _) offsets es y h k = k
head_low (Err r) offsets es y h k = h

entry_then_lem : (x : EntryRead) (offsets : List ℕ) (es : List Configuration) (y : Configuration → ℕ → EntriesRead) → LowEntry x
    → ((e : Configuration) (n : ℕ) → LowChecked (y e n).answer) → LowChecked (entry_then x offsets es y).answer
entry_then_lem (whole e next) offsets es y h k = k e next
entry_then_lem (bad r) offsets es y h k = h

abbrev LowEntries : EntriesRead → Type 0
LowEntries r = LowChecked r.answer

entries_low : (left : ℕ) (s : Shape) (states f : List ℕ) (at : ℕ) (offsets : List ℕ) (es : List Configuration) → LowEntries (entries_from left s states f at offsets es)
unfolding entries_from entry_number entry_read
entries_low zero s states f at offsets es =
    each_choice LowEntries (leb (length f) at) _ _ tt (head_low (checked (entry_number s states f at true) at) offsets es _ (checked_low (entry_number s states f at true) at (first_low _ _ _ _ _)) tt)
entries_low (suc left) s states f at offsets es =
    each_choice LowEntries (leb (length f) at) _ _ tt
    (head_low (checked (entry_number s states f at false) at) offsets es _ (checked_low (entry_number s states f at false) at (first_low _ _ _ _ _))
    (entry_then_lem (entry_read s f at) offsets es _ (entry_low _ s f at _ _) (λ e next. entries_low left s states f next _ _)))

claim_then_lem : (x : Result ⊤ Refusal) (y : Unit {0} → Evidence) → LowChecked x → LowEvidence (y tt) → LowEvidence (claim_then x y)
claim_then_lem (Ok _) y h k = k
claim_then_lem (Err r) y h k = h

run_low : (f : List ℕ) (claim at : ℕ) (p : Program) → LowEvidence (run_evidence f claim at p)
unfolding run_evidence start_number
run_low f claim at p =
    claim_then_lem (unless_end f at (checked (start_number p.shape f at) at)) _ (unless_low f at _ (checked_low (start_number p.shape f at) at (first_low _ _ _ _ _)))
    (steps_low _ _ f _)

evidence_low : (f : List ℕ) (at : ℕ) (p : Program) (area : ℕ) → LowEvidence (evidence_from f at p area)
unfolding evidence_from claim_number
evidence_low f at p area =
    claim_then_lem (unless_end f at (checked (claim_number f at) at)) _ (unless_low f at _ (checked_low (claim_number f at) at (first_low _ _ _ _ _)))
    (each_choice LowEvidence (eqb (byte f (at + 1)) 0) _ _ (entries_low _ _ _ f _ [] []) (run_low f _ _ p))

-- ---- the whole reading

evidence_file : (x : Input) (p : Program) (e : Evidence) → LowEvidence e → LowFile (parts_read x (two_parts p e))
evidence_file x p (refusal r) h = h
evidence_file x p (entries r) h = go r.answer h
  where
    go : (y : Result ⊤ Refusal) → LowChecked y → LowFile (list_read x p y r)
    go (Ok _) h = tt
    go (Err q) h = h
evidence_file x p (steps claim m (Ok n)) h = each_cond LowFile (eqb claim 1) _ _ tt tt
evidence_file x p (steps claim m (Err r)) h = h

pub file_low : (x : Input) (area : ℕ) → 65536 ≤ area → LowFile (read_file x area)
unfolding read_file
file_low x area l = go (whether (program_from x.alone x.code 0)) refl
  where
    p : Program
    p = program_read (program_from x.alone x.code 0)

    go : (y : Result ⊤ Refusal) → whether (program_from x.alone x.code 0) ≡ y → LowFile (parts_read x (parts_of x area))
    go (Ok _) e =
        subst (λ y. LowFile (parts_read x y)) (sym (parts_both x area l e))
        (evidence_file x p (evidence_from x.file (evidence_at x p) p area) (evidence_low x.file (evidence_at x p) p area))
    go (Err r) e =
        subst (λ y. LowFile (parts_read x y)) (sym (parts_refused x area r l e)) (subst LowChecked e (program_low Plain x.alone x.code 0))

-- the numbers of a refused reading
pub refused_low : (x : Input) (area : ℕ) (w : Part) (r : Refusal) → read_file x area ≡ refused w r → (1 ≤ r.number) × (r.number ≤ 8)
refused_low x area w r e = elim (dec_lt area 65536) [
  | yes l ↦ let z : r.number ≡ 8 = ap number_of (sym e ∙ short_file x area l) in (omega arith, omega arith)
  | no l ↦ let z : Low r = subst LowFile e (file_low x area (omega arith)) in (omega arith, omega arith)
]
  where
    number_of : FileRead → ℕ
    number_of (refused w r) = r.number
    number_of (list P ts es) = 0
    number_of (run P ts m ss) = 0
    number_of (pso_run P ts m ss) = 0

pub refused_large : (x : Input) (area : ℕ) (w : Part) (r : Refusal) → read_file x area ≡ refused w r → 65536 ≤ area → r.number ≤ 7
refused_large x area w r e l = let z : Low r = subst LowFile e (file_low x area l) in z.1
