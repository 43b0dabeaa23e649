-- Past four bytes for each pattern allowed, the pass leaves the work area as it was.
use Rattle.std.specs.Prelude.{Result, Ok, Err, ⊤}
use Rattle.file_records.specs.declared.program.Refusal.{Refusal}
use Prim.Native.Nat.{ℕ, zero, suc, ◌+◌, ◌*◌, ◌/◌, ◌%◌, ◌<◌, ◌≤◌}
use mathlib.Core.Path.{◌≡◌, refl, sym, ap, subst, ◌∙◌}
use mathlib.Core.Bool.{Bool, true, false}
use mathlib.Core.List.{List, [], ◌∷◌, ◌++◌}
use native.Mathlib.Omega.{arith}
use native.Mathlib.Decide.{dec_lt}
use lib.ListN.{length, set, take, drop, length-append}
use lib.Seq.{length-take-le, drop_at, drop-drop}
use lib.Dec.{leb}
use Rattle.base.specs.Bytes.{choose, put32}
use Rattle.file_records.specs.declared.program.Shape.{Shape}
use Rattle.file_records.specs.declared.program.Program.{Program}
use Rattle.file_records.specs.Records.{checked}
use Rattle.file_records.specs.ProgramPart.{unless_end, program_from, whether, program_read}
use Rattle.file_contents.specs.EvidencePart.{entries_allowed, wrote_from}
use Rattle.file_contents.specs.Reading.{Input, evidence_at}
use Rattle.pattern_theory.specs.Patterns.{Pattern}
use Rattle.pattern_reading.specs.Records.{Given, claim_number, pattern_number}
use Rattle.pattern_reading.specs.Reading.{pattern_of, PatternRead, whole, bad}
use Rattle.pattern_pass.specs.Passing.{PatternsListed, listed_then, given_then, listed_from, Passed, listed, passed_of, pass_area}
use Rattle.pattern_pass.proofs.SeenLaws.{read_pattern}
use Rattle.pattern_pass.proofs.PassLaws.{evidence_refused, evidence_listed, passed_short, passed_refused, passed_evidence}

-- ---- what is written below n leaves the rest

drop_set : (l : List ℕ) (n i x : ℕ) → i < n → drop n (set l i x) ≡ drop n l
drop_set [] n i x l = refl
drop_set (y ∷ ys) zero i x l = absurd (omega arith)
drop_set (y ∷ ys) (suc n) zero x l = refl
drop_set (y ∷ ys) (suc n) (suc i) x l = drop_set ys n i x (omega arith)

pub drop_put : (l : List ℕ) (n at x : ℕ) → at + 4 ≤ n → drop n (put32 l at x) ≡ drop n l
unfolding put32
drop_put l n at x m = go (leb (at + 4) (length l))
  where
    go : (b : Bool)
        → drop n (choose b (λ _. set (set (set (set l at (x % 256)) (at + 1) (x / 256 % 256)) (at + 2) (x / 65536 % 256)) (at + 3) (x / 16777216 % 256)) (λ _. l))
        ≡ drop n l
    go true =
        drop_set _ n (at + 3) _ (omega arith) ∙ drop_set _ n (at + 2) _ (omega arith) ∙ drop_set _ n (at + 1) _ (omega arith) ∙ drop_set l n at _ (omega arith)
    go false = refl

drop_wrote : (os l : List ℕ) (i n : ℕ) → 4 * (i + length os) ≤ n → drop n (wrote_from i os l) ≡ drop n l
drop_wrote [] l i n m = refl
drop_wrote (o ∷ os) l i n m = drop_wrote os (put32 l (4 * i) o) (suc i) n (omega arith) ∙ drop_put l n (4 * i) o (omega arith)

-- ---- no more offsets than are allowed, of a file that is refused too

abbrev Few : ℕ → PatternsListed → Type 0
Few n r = length r.offsets ≤ n

few_then : (n : ℕ) (x : Result ⊤ Refusal) (os : List ℕ) (ps : List Pattern) (y : Unit {0} → PatternsListed) → length os ≤ n → Few n (y tt) → Few n (listed_then x os ps y)
few_then n (Ok _) os ps y h k = k
few_then n (Err r) os ps y h k = h

few_given : (n : ℕ) (x : PatternRead) (os : List ℕ) (ps : List Pattern) (y : Given → ℕ → PatternsListed) → length os ≤ n → ((g : Given) (next : ℕ) → Few n (y g next))
    → Few n (given_then x os ps y)
few_given n (whole g next) os ps y h k = k g next
few_given n (bad r) os ps y h k = h

few_choice : (n : ℕ) (b : Bool) (x y : Unit {0} → PatternsListed) → Few n (x tt) → Few n (y tt) → Few n (choose b x y)
few_choice n true x y p q = p
few_choice n false x y p q = q

few_listed : (n left : ℕ) (s : Shape) (states f : List ℕ) (at : ℕ) (os : List ℕ) (ps : List Pattern) → length os + left ≤ n → Few n (listed_from left s states f at os ps)
unfolding listed_from
few_listed n zero s states f at os ps l =
    few_choice n (leb (length f) at) _ _ (omega arith) (few_then n (checked (pattern_number s states f at true) at) os ps _ (omega arith) (omega arith))
few_listed n (suc left) s states f at os ps l =
    few_choice n (leb (length f) at) _ _ (omega arith)
    (few_then n (checked (pattern_number s states f at false) at) os ps _ (omega arith)
    (few_given n (read_pattern s f at) os ps _ (omega arith) (λ g next.
    few_listed n left s states f next (os ++ (at ∷ [])) (ps ++ (pattern_of g ∷ [])) (omega (arith, length-append os (at ∷ []))))))

-- ---- the area

rest_kept : (h k : ℕ) (w b : List ℕ) → h ≤ length w → drop k b ≡ drop k (drop h w) → drop (h + k) (take h w ++ b) ≡ drop (h + k) w
rest_kept h k w b l e = sym (drop-drop k h (take h w ++ b)) ∙ ap (drop k) (drop_at (take h w) b h (length-take-le h w l)) ∙ e ∙ drop-drop k h w

module _ (x : Input) (w : List ℕ) where
  abbrev allowed : ℕ
  allowed = entries_allowed (length w)

  abbrev p : Program
  p = program_read (program_from x.alone x.code 0)

  abbrev Kept : Passed → Type 0
  Kept P = drop (16384 + 4 * allowed) (pass_area P w) ≡ drop (16384 + 4 * allowed) w

  kept_listed : 65536 ≤ length w → (at : ℕ) → Kept (listed p (listed_from allowed p.shape p.states x.file at [] []))
  kept_listed l at =
      let os : List ℕ = (listed_from allowed p.shape p.states x.file at [] []).offsets in
      let m : length os ≤ allowed = few_listed allowed allowed p.shape p.states x.file at [] [] (omega arith) in
      rest_kept 16384 (4 * allowed) w (wrote_from 0 os (drop 16384 w)) (omega arith) (drop_wrote os (drop 16384 w) 0 (4 * allowed) (omega (arith, m)))

  by_claim : 65536 ≤ length w → whether (program_from x.alone x.code 0) ≡ Ok tt → (y : Result ⊤ Refusal)
      → unless_end x.file (evidence_at x p) (checked (claim_number x.file (evidence_at x p)) (evidence_at x p)) ≡ y → Kept (passed_of x (length w))
  by_claim l q (Err r) c = subst Kept (sym (passed_evidence x (length w) l q ∙ evidence_refused allowed x.file (evidence_at x p) p r c)) refl
  by_claim l q (Ok _) c = subst Kept (sym (passed_evidence x (length w) l q ∙ evidence_listed allowed x.file (evidence_at x p) p c)) (kept_listed l (evidence_at x p + 2))

  by_program : 65536 ≤ length w → (y : Result ⊤ Refusal) → whether (program_from x.alone x.code 0) ≡ y → Kept (passed_of x (length w))
  by_program l (Err r) q = subst Kept (sym (passed_refused x (length w) r l q)) refl
  by_program l (Ok _) q = by_claim l q _ refl

  pub pass_kept : drop (16384 + 4 * allowed) (pass_area (passed_of x (length w)) w) ≡ drop (16384 + 4 * allowed) w
  pass_kept = elim (dec_lt (length w) 65536) [
    | yes l ↦ subst Kept (sym (passed_short x (length w) l)) refl
    | no l ↦ by_program (omega arith) _ refl
  ]

  -- in an area that is too short nothing is touched
  pub pass_untouched : length w < 65536 → pass_area (passed_of x (length w)) w ≡ w
  pass_untouched l = ap (λ (P : Passed). pass_area P w) (passed_short x (length w) l)
