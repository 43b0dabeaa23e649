-- Laws of the work area: what the reading leaves past the bytes that belong to the judgement, and what is cleared.
use Rattle.std.specs.Prelude.{Result, Ok, Err, ⊤}
use Rattle.file_records.specs.declared.program.Refusal.{Refusal}
use Prim.Native.Nat.{ℕ, zero, suc, ◌+◌, ◌*◌, ◌-◌, ◌/◌, ◌%◌, ◌<◌, ◌≤◌}
use mathlib.Core.Path.{◌≡◌, refl, sym, ap, ◌∙◌}
use mathlib.Core.Bool.{Bool, true, false}
use mathlib.Core.List.{List, [], ◌∷◌, ◌++◌}
use native.Mathlib.Omega.{arith}
use lib.ListN.{length, set, take, drop, replicate, length-replicate, length-drop, length-append}
use lib.Seq.{length-take-le, take_all, drop_at, drop-drop}
use lib.Dec.{eqb, leb}
use borrow.Author.Tests.{lt-ltb, le-ltb}
use Rattle.machine_pws.specs.Machine.{Configuration}
use Rattle.file_records.specs.declared.program.Shape.{Shape}
use Rattle.file_records.specs.declared.program.Program.{Program}
use Rattle.base.specs.Bytes.{choose, byte, put32}
use Rattle.file_records.specs.Records.{checked, claim_number, start_number, entry_number}
use Rattle.file_records.specs.ProgramPart.{unless_end, program_from, whether, program_read}
use Rattle.file_contents.specs.EvidencePart.{EntryRead, whole, bad, entry_read, EntriesRead, head_then, entry_then, entries_from, entries_allowed, wrote_from}
use Rattle.file_contents.specs.Reading as reading
use Rattle.file_contents.specs.Reading.{Input, evidence_at, Evidence, refusal, entries, steps, claim_then, run_evidence, evidence_from, Parts, parts_of, evidence_area}
use Rattle.file_contents.proofs.ReadingLaws.{parts_refused, parts_both}
use Rattle.verdict.specs.Judge.{used_of, area_after}

pub each_choice : {A : Type 0} (F : A → Type 0) (b : Bool) (x y : Unit {0} → A) → F (x tt) → F (y tt) → F (choose b x y)
each_choice F true x y p q = p
each_choice F false x y p q = q

pub few : (n area : ℕ) → n ≡ entries_allowed area → n ≤ 524288
unfolding entries_allowed
few n area e = omega arith

pub used_fits : (area : ℕ) → 16384 ≤ area → used_of area ≤ area
unfolding used_of entries_allowed
used_fits area l = omega arith

-- the part from h on, to the end
pub upper_part : (h : ℕ) (w : List ℕ) → take (length w - h) (drop h w) ≡ drop h w
upper_part h w = take_all (length w - h) (drop h w) (omega (arith, length-drop h w))

-- that part was lent, and came back with its length
pub upper_same : (h : ℕ) (w work last : List ℕ) → h ≤ length w → length last ≡ length (take (length work - h) (drop h work)) → length work ≡ length w
    → length (take h work ++ (last ++ drop (length work - h) (drop h work))) ≡ length w
upper_same h w work last l e d =
    omega (
      arith,
      length-append (take h work) (last ++ drop (length work - h) (drop h work)),
      length-append last (drop (length work - h) (drop h work)),
      length-take-le h work (omega arith),
      ap length (upper_part h work),
      length-drop h work,
      length-drop (length work - h) (drop h work),
    )

-- the first n bytes were lent and came back cleared
pub front_cleared : (n : ℕ) (w a : List ℕ) → n ≤ length w → a ≡ replicate (length (take n w)) 0 → a ++ drop n w ≡ replicate n 0 ++ drop n w
front_cleared n w a l e = ap (λ (b : List ℕ). b ++ drop n w) (e ∙ ap (λ (k : ℕ). replicate k 0) (length-take-le n w l))

-- ---- what is written below n leaves the rest

drop_set : (l : List ℕ) (n i x : ℕ) → i < n → drop n (set l i x) ≡ drop n l
drop_set [] n i x l = refl
drop_set (y ∷ ys) zero i x l = absurd (omega arith)
drop_set (y ∷ ys) (suc n) zero x l = refl
drop_set (y ∷ ys) (suc n) (suc i) x l = drop_set ys n i x (omega arith)

drop_put : (l : List ℕ) (n at x : ℕ) → at + 4 ≤ n → drop n (put32 l at x) ≡ drop n l
unfolding put32
drop_put l n at x m = go (leb (at + 4) (length l))
  where
    go : (b : Bool)
        → drop n (choose b (λ _. set (set (set (set l at (x % 256)) (at + 1) (x / 256 % 256)) (at + 2) (x / 65536 % 256)) (at + 3) (x / 16777216 % 256)) (λ _. l))
        ≡ drop n l
    go true =
        drop_set _ n (at + 3) _ (omega arith) ∙ drop_set _ n (at + 2) _ (omega arith) ∙ drop_set _ n (at + 1) _ (omega arith) ∙ drop_set l n at _ (omega arith)
    go false = refl

drop_wrote : (os l : List ℕ) (i n : ℕ) → 4 * (i + length os) ≤ n → drop n (wrote_from i os l) ≡ drop n l
drop_wrote [] l i n m = refl
drop_wrote (o ∷ os) l i n m = drop_wrote os (put32 l (4 * i) o) (suc i) n (omega arith) ∙ drop_put l n (4 * i) o (omega arith)

-- past h + k bytes, when the first h were lent and came back as a
pub front_kept : (h k : ℕ) (a w : List ℕ) → length a ≡ h → drop (h + k) (a ++ drop h w) ≡ drop (h + k) w
front_kept h k a w e = sym (drop-drop k h (a ++ drop h w)) ∙ ap (drop k) (drop_at a (drop h w) h e) ∙ drop-drop k h w

-- and when the part from h on came back as b
rest_kept : (h k : ℕ) (w b : List ℕ) → h ≤ length w → drop k b ≡ drop k (drop h w) → drop (h + k) (take h w ++ b) ≡ drop (h + k) w
rest_kept h k w b l e = sym (drop-drop k h (take h w ++ b)) ∙ ap (drop k) (drop_at (take h w) b h (length-take-le h w l)) ∙ e ∙ drop-drop k h w

-- ---- the reading writes four bytes for each entry, and no more entries than are allowed

abbrev Few : ℕ → Evidence → Type 0
Few n (refusal r) = Unit {0}
Few n (entries r) = length r.offsets ≤ n
Few n (steps claim m c) = Unit {0}

abbrev FewEntries : ℕ → EntriesRead → Type 0
FewEntries n r = length r.offsets ≤ n

head_few : (n : ℕ) (x : Result ⊤ Refusal) (offsets : List ℕ) (es : List Configuration) (y : Unit {0} → EntriesRead) → length offsets ≤ n → FewEntries n (y tt)
    → FewEntries n (head_then x offsets es y)
head_few n (Ok _) offsets es y h k = k
head_few n (Err r) offsets es y h k = h

entry_few : (n : ℕ) (x : EntryRead) (offsets : List ℕ) (es : List Configuration) (y : Configuration → ℕ → EntriesRead) → length offsets ≤ n
    → ((e : Configuration) (next : ℕ) → FewEntries n (y e next)) → FewEntries n (entry_then x offsets es y)
entry_few n (whole e next) offsets es y h k = k e next
entry_few n (bad r) offsets es y h k = h

one_more : (os : List ℕ) (at : ℕ) → length (os ++ (at ∷ [])) ≡ suc (length os)
one_more [] at = refl
one_more (o ∷ os) at = ap suc (one_more os at)

entries_few : (n left : ℕ) (s : Shape) (states f : List ℕ) (at : ℕ) (offsets : List ℕ) (es : List Configuration) → length offsets + left ≤ n
    → FewEntries n (entries_from left s states f at offsets es)
unfolding entries_from
entries_few n zero s states f at offsets es l =
    each_choice (FewEntries n) (leb (length f) at) _ _ (omega arith) (head_few n (checked (entry_number s states f at true) at) offsets es _ (omega arith) (omega arith))
entries_few n (suc left) s states f at offsets es l =
    each_choice (FewEntries n) (leb (length f) at) _ _ (omega arith)
    (head_few n (checked (entry_number s states f at false) at) offsets es _ (omega arith)
    (entry_few n (entry_read s f at) offsets es _ (omega arith) (λ e next.
    entries_few n left s states f next (offsets ++ (at ∷ [])) (es ++ (e ∷ [])) (omega (arith, one_more offsets at)))))

claim_few : (n : ℕ) (x : Result ⊤ Refusal) (y : Unit {0} → Evidence) → Few n (y tt) → Few n (claim_then x y)
claim_few n (Ok _) y h = h
claim_few n (Err r) y h = tt

run_few : (n : ℕ) (f : List ℕ) (claim at : ℕ) (p : Program) → Few n (run_evidence f claim at p)
unfolding run_evidence
run_few n f claim at p = claim_few n (unless_end f at (checked (start_number p.shape f at) at)) _ tt

evidence_few : (f : List ℕ) (at : ℕ) (p : Program) (area : ℕ) → Few (entries_allowed area) (evidence_from f at p area)
unfolding evidence_from
evidence_few f at p area =
    claim_few (entries_allowed area) (unless_end f at (checked (claim_number f at) at)) _
    (each_choice (Few (entries_allowed area)) (eqb (byte f (at + 1)) 0) _ _ (entries_few (entries_allowed area) (entries_allowed area) p.shape p.states f (at + 2) [] [] (omega arith)) (run_few (entries_allowed area) f (byte f (at + 1)) (at + 2) p))

-- past the bytes that belong to the judgement the reading leaves all as it was
evidence_kept : (n : ℕ) (e : Evidence) (w : List ℕ) → 16384 ≤ length w → Few n e → drop (16384 + 4 * n) (evidence_area e w) ≡ drop (16384 + 4 * n) w
evidence_kept n (refusal r) w l h = refl
evidence_kept n (entries r) w l h =
    rest_kept 16384 (4 * n) w (wrote_from 0 r.offsets (drop 16384 w)) l (drop_wrote r.offsets (drop 16384 w) 0 (4 * n) (omega arith))
evidence_kept n (steps claim m c) w l h = refl

-- what is the same past a place is the same past a later one
drop_more : (a b : ℕ) (x y : List ℕ) → a ≤ b → drop a x ≡ drop a y → drop b x ≡ drop b y
drop_more a b x y l e =
    let j : a + (b - a) ≡ b = omega arith in
    ap (λ (i : ℕ). drop i x) (sym j) ∙ sym (drop-drop (b - a) a x) ∙ ap (drop (b - a)) e ∙ drop-drop (b - a) a y ∙ ap (λ (i : ℕ). drop i y) j

pub reading_kept : (x : Input) (w : List ℕ) → 65536 ≤ length w → drop (used_of (length w)) (reading.area_read (parts_of x (length w)) w) ≡ drop (used_of (length w)) w
unfolding used_of
reading_kept x w l = go (whether (program_from x.alone x.code 0)) refl
  where
    p : Program
    p = program_read (program_from x.alone x.code 0)

    go : (y : Result ⊤ Refusal) → whether (program_from x.alone x.code 0) ≡ y
        → drop (16384 + 12 * entries_allowed (length w)) (reading.area_read (parts_of x (length w)) w) ≡ drop (16384 + 12 * entries_allowed (length w)) w
    go (Ok _) e =
        ap (λ (y : Parts). drop (16384 + 12 * entries_allowed (length w)) (reading.area_read y w)) (parts_both x (length w) l e)
        ∙ drop_more (16384 + 4 * entries_allowed (length w)) (16384 + 12 * entries_allowed (length w)) _ w (omega arith)
        (evidence_kept (entries_allowed (length w)) (evidence_from x.file (evidence_at x p) p (length w)) w (omega arith) (evidence_few x.file (evidence_at x p) p (length w)))
    go (Err r) e = ap (λ (y : Parts). drop (16384 + 12 * entries_allowed (length w)) (reading.area_read y w)) (parts_refused x (length w) r l e)

-- the replay's part came back, and the judgement's part is more than that
pub replay_kept : (n : ℕ) (w v a : List ℕ) → drop (used_of n) w ≡ drop (used_of n) v → 16384 ≤ length w → a ≡ replicate (length (take 16384 w)) 0
    → drop (used_of n) (a ++ drop 16384 w) ≡ drop (used_of n) v
unfolding used_of
replay_kept n w v a e l q =
    front_kept 16384 (12 * entries_allowed n) a w (ap length q ∙ length-replicate (length (take 16384 w)) 0 ∙ length-take-le 16384 w l) ∙ e

-- the upper part came back with all past the offsets and the slots as it was
pub list_kept : (n : ℕ) (w v b : List ℕ) → drop (used_of n) w ≡ drop (used_of n) v → 16384 ≤ length w → drop (12 * entries_allowed n) b ≡ drop (12 * entries_allowed n) (drop 16384 w)
    → drop (used_of n) (take 16384 w ++ b) ≡ drop (used_of n) v
unfolding used_of
list_kept n w v b e l q = rest_kept 16384 (12 * entries_allowed n) w b l q ∙ e

-- ---- the whole

pub cleared_all : (w v : List ℕ) → 65536 ≤ length w → drop (used_of (length w)) v ≡ drop (used_of (length w)) w → replicate (used_of (length w)) 0 ++ drop (used_of (length w)) v ≡ area_after w
unfolding area_after
cleared_all w v l e = rw (le-ltb (length w) 65536 l) (ap (λ (x : List ℕ). replicate (used_of (length w)) 0 ++ x) e)

pub untouched : (w : List ℕ) → length w < 65536 → w ≡ area_after w
unfolding area_after
untouched w l = rw (lt-ltb (length w) 65536 l)
