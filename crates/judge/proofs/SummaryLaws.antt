-- A list in the upper part of the work area, with its summary behind its offsets.
use Prim.Native.Nat.{ℕ, zero, suc, ◌+◌, ◌*◌, ◌-◌, ◌/◌, ◌%◌, ◌<◌, ◌≤◌}
use mathlib.Core.Path.{◌≡◌, refl, sym, ap, ap₂, subst, ◌∙◌}
use mathlib.Core.Bool.{Bool, true, false, ◌&&◌}
use mathlib.Core.List.{List, [], ◌∷◌, ◌++◌}
use native.Mathlib.Omega.{arith}
use lib.ListN.{length, set, take, drop, replicate, length-append, length-drop, length-replicate, get_or-replicate, get_or-append}
use lib.Seq.{length-take-le, take_at, drop_at, drop-drop, get_or-take}
use lib.Dec.{eqb, leb, ltb}
use borrow.Author.Tests.{le-leb, ltb-false, eqb-false}
use Rattle.machine_pws.specs.Machine.{Configuration}
use Rattle.machine_pws.specs.Entries.{entry}
use Rattle.file_records.specs.declared.program.Program.{Program}
use Rattle.file_records.specs.declared.program.Shape.{Shape}
use Rattle.base.specs.Bytes.{choose, byte, le32, put32}
use Rattle.file_records.specs.ProgramPart.{table_from, program_of, targets_of}
use Rattle.list_theory.specs.Decision.{verdict_of}
use Rattle.file_contents.specs.Cube.{configuration_of, load_entry}
use Rattle.file_again.specs.Again.{cube_at, entries_of}
use Rattle.file_again.specs.Contents.{EntryRange, CubeRange}
use Rattle.list_key.specs.Number.{number_of, states_mixed}
use Rattle.list_summary.specs.Slots.{put_word, linked, head_link, next_link, count_at, hung, put_field, home_of, mark_in}
use Rattle.list_summary.specs.Groups.{states_at, same_states, leader_from, leader_of, joined_at, added, added_from, summarised}
use Rattle.list_summary.specs.Summary.{Summed}
use Rattle.list_summary.proofs.ChainLaws.{home_below}
use Rattle.list_summary.proofs.AddedLaws.{all_added}
use Rattle.verdict.specs.Judge.{of_list}
use Rattle.list_judge.specs.Ready.{Listed, ListReady, Ready, slots_cleared, list_said}

-- ---- the offsets below `at` are those of the whole

byte_taken : (at : ℕ) (l : List ℕ) (i : ℕ) → i < at → byte (take at l) i ≡ byte l i
byte_taken at l i m = get_or-take at l i 0 m

offset_taken : (at : ℕ) (l : List ℕ) (k : ℕ) → 4 * k + 4 ≤ at → le32 (take at l) (4 * k) ≡ le32 l (4 * k)
unfolding le32
offset_taken at l k m = omega (arith, byte_taken at l (4 * k) (omega arith), byte_taken at l (4 * k + 1) (omega arith), byte_taken at l (4 * k + 2) (omega arith), byte_taken at l (4 * k + 3) (omega arith))

pub cube_taken : (f l : List ℕ) (at n : ℕ) → 4 * n ≤ at → (k : ℕ) → k < n → cube_at f (take at l) k ≡ cube_at f l k
cube_taken f l at n m k d = ap (load_entry f) (offset_taken at l k (omega arith))

table_same : (g h : ℕ → Configuration) (i n : ℕ) → ((k : ℕ) → i ≤ k → k < i + n → g k ≡ h k) → table_from g i n ≡ table_from h i n
table_same g h i zero e = refl
table_same g h i (suc n) e = ap₂ {C = List Configuration} (λ x xs. x ∷ xs) (e i (omega arith) (omega arith)) (table_same g h (suc i) n (λ k a b. e k (omega arith) (omega arith)))

pub entries_taken : (f l : List ℕ) (at n : ℕ) → 4 * n ≤ at → entries_of f (take at l) n ≡ entries_of f l n
entries_taken f l at n m = table_same (λ i. configuration_of (cube_at f (take at l) i)) (λ i. configuration_of (cube_at f l i)) 0 n (λ k a b. ap configuration_of (cube_taken f l at n m k (omega arith)))

pub listed_taken : (g f l : List ℕ) (at n : ℕ) (p : Program) → 4 * n ≤ at → Listed g f l n p → Listed g f (take at l) n p
listed_taken g f l at n p m L =
    record {
      sizes = L.sizes;
      part = L.part;
      count = L.count;
      entries = λ k d. subst (λ (es : List Configuration). EntryRange (program_of g p) (entry es k)) (sym (entries_taken f l at n m)) (L.entries k d);
      cubes = λ k d. subst CubeRange (sym (cube_taken f l at n m k d)) (L.cubes k d);
    }

pub said_taken : (g f l : List ℕ) (at n : ℕ) (p : Program) → 4 * n ≤ at → list_said g f (take at l) n p ≡ list_said g f l n p
said_taken g f l at n p m = ap (λ (es : List Configuration). of_list (verdict_of (program_of g p) (targets_of g p) es)) (entries_taken f l at n m)

-- ---- what is written leaves the rest

drop_set : (l : List ℕ) (n i x : ℕ) → i < n → drop n (set l i x) ≡ drop n l
drop_set [] n i x l = refl
drop_set (y ∷ ys) zero i x l = absurd (omega arith)
drop_set (y ∷ ys) (suc n) zero x l = refl
drop_set (y ∷ ys) (suc n) (suc i) x l = drop_set ys n i x (omega arith)

drop_put : (l : List ℕ) (n at x : ℕ) → at + 4 ≤ n → drop n (put32 l at x) ≡ drop n l
unfolding put32
drop_put l n at x m = go (leb (at + 4) (length l))
  where
    go : (b : Bool) → drop n (choose b (λ _. set (set (set (set l at (x % 256)) (at + 1) (x / 256 % 256)) (at + 2) (x / 65536 % 256)) (at + 3) (x / 16777216 % 256)) (λ _. l)) ≡ drop n l
    go true = drop_set _ n (at + 3) _ (omega arith) ∙ drop_set _ n (at + 2) _ (omega arith) ∙ drop_set _ n (at + 1) _ (omega arith) ∙ drop_set l n at _ (omega arith)
    go false = refl

drop_word : (l : List ℕ) (n i x : ℕ) → 4 * i + 4 ≤ n → drop n (put_word l i x) ≡ drop n l
unfolding put_word
drop_word l n i x m = go (ltb i (length l / 4))
  where
    go : (b : Bool) → drop n (choose b (λ _. put32 l (4 * i) x) (λ _. l)) ≡ drop n l
    go true = drop_put l n (4 * i) x m
    go false = refl

drop_hung : (sum : List ℕ) (n home k mark : ℕ) → home < n → k < n → drop (8 * n) (hung sum home k mark) ≡ drop (8 * n) sum
unfolding hung
drop_hung sum n home k mark a b = drop_word _ (8 * n) (2 * k + 1) _ (omega arith) ∙ drop_word sum (8 * n) (2 * home) _ (omega arith)

drop_field : (sum : List ℕ) (n k x : ℕ) → k < n → drop (8 * n) (put_field sum k x) ≡ drop (8 * n) sum
unfolding put_field
drop_field sum n k x b = drop_word _ (8 * n) (2 * k + 1) _ (omega arith) ∙ drop_word sum (8 * n) (2 * k) _ (omega arith)

module _ (f list : List ℕ) (s : Shape) where
  leader_most : (sum states : List ℕ) (n fuel below link : ℕ) → below ≤ n → leader_from f list s sum states fuel below link ≤ n
  unfolding leader_from
  leader_most sum states n zero below link l = omega arith
  leader_most sum states n (suc fuel) below link l =
      go (leader_most sum states n fuel) (eqb (linked link) 0) (ltb below (linked link)) refl (◌&&◌ (mathlib.Core.Bool.not (eqb (count_at sum (linked link - 1)) 0)) (same_states s (states_at f list s (linked link - 1)) states))
    where
      go : ((below link : ℕ) → below ≤ n → leader_from f list s sum states fuel below link ≤ n) → (a b : Bool) → ltb below (linked link) ≡ b → (c : Bool)
          → choose a (λ _. 0) (λ _. choose b (λ _. 0) (λ _. choose c (λ _. linked link) (λ _. leader_from f list s sum states fuel (linked link - 1) (next_link sum (linked link - 1))))) ≤ n
      go ih true b e c = omega arith
      go ih false true e c = omega arith
      go ih false false e true = let u = ltb-false below (linked link) e in omega arith
      go ih false false e false = let u = ltb-false below (linked link) e in ih (linked link - 1) (next_link sum (linked link - 1)) (omega arith)

  drop_added : (sum : List ℕ) (n k : ℕ) → k < n → drop (8 * n) (added f list s sum n k) ≡ drop (8 * n) sum
  unfolding added joined_at leader_of
  drop_added sum n k l = go (eqb leader 0) refl
    where
      leader : ℕ
      leader = leader_from f list s sum (states_at f list s k) (suc n) n (head_link sum (home_of (states_mixed s (states_at f list s k)) n))

      most : leader ≤ n
      most = leader_most sum (states_at f list s k) n (suc n) n (head_link sum (home_of (states_mixed s (states_at f list s k)) n)) (omega arith)

      go : (b : Bool) → eqb leader 0 ≡ b
          → drop (8 * n) (choose b (λ _. put_field (hung sum (home_of (states_mixed s (states_at f list s k)) n) k (mark_in (states_mixed s (states_at f list s k)))) k 1)
          (λ _. joined_at sum (leader - 1) (number_of s (cube_at f list k)) n k)) ≡ drop (8 * n) sum
      go true e = drop_field _ n k 1 l ∙ drop_hung sum n _ k _ (home_below _ n (omega arith)) l
      go false e =
          let u = eqb-false leader 0 e in
          drop_field _ n k _ l ∙ drop_hung _ n _ k _ (home_below _ n (omega arith)) l ∙ drop_field sum n (leader - 1) _ (omega (arith, most, u))

  drop_all_added : (sum : List ℕ) (n m : ℕ) → m ≤ n → drop (8 * n) (added_from f list s sum n m) ≡ drop (8 * n) sum
  unfolding added_from
  drop_all_added sum n zero l = refl
  drop_all_added sum n (suc m) l = drop_added (added_from f list s sum n m) n m l ∙ drop_all_added sum n m (omega arith)

-- ---- the list is judged with its summary

module _ (g f u : List ℕ) (at n : ℕ) (p : Program) (L : ListReady g f u at n p) where
  abbrev s : Shape
  s = p.shape

  abbrev rest : List ℕ
  rest = replicate (8 * n) 0 ++ drop (at + 8 * n) u

  abbrev cleared : List ℕ
  cleared = take at u ++ rest

  few : at + 8 * n ≤ length u
  few = let a = L.room in let b = L.slots in omega arith

  top : length (take at u) ≡ at
  top = length-take-le at u L.room

  rest_length : length rest ≡ length u - at
  rest_length = length-append (replicate (8 * n) 0) (drop (at + 8 * n) u) ∙ omega (arith, length-replicate {A = ℕ} (8 * n) 0, length-drop (at + 8 * n) u, few)

  cleared_length : length cleared ≡ length u
  cleared_length = length-append (take at u) rest ∙ omega (arith, top, rest_length, L.room)

  cleared_take : take at cleared ≡ take at u
  cleared_take = take_at (take at u) rest at top

  cleared_drop : drop at cleared ≡ rest
  cleared_drop = drop_at (take at u) rest at top

  -- what the upper part holds then
  is : summarised f s at n cleared ≡ take at u ++ added_from f (take at u) s rest n n
  unfolding summarised
  is =
      rw (cleared_length, le-leb at (length u) L.room, le-leb n ((length u - at) / 8) (let b = L.slots in omega arith), le-leb n 524288 L.listed.count, cleared_take, cleared_drop)

  abbrev done : List ℕ
  done = summarised f s at n (slots_cleared u at n)

  done_is : done ≡ take at u ++ added_from f (take at u) s rest n n
  unfolding slots_cleared
  done_is = is

  pub done_take : take at done ≡ take at u
  done_take = ap (take at) done_is ∙ take_at (take at u) (added_from f (take at u) s rest n n) at top

  done_drop : drop at done ≡ added_from f (take at u) s rest n n
  done_drop = ap (drop at) done_is ∙ drop_at (take at u) (added_from f (take at u) s rest n n) at top

  blank : (i : ℕ) → i < 8 * n → byte rest i ≡ 0
  blank i l = get_or-append (replicate (8 * n) 0) (drop (at + 8 * n) u) 0 i (omega (arith, length-replicate {A = ℕ} (8 * n) 0)) ∙ get_or-replicate (8 * n) i 0 0 l

  done_summed : Summed f (take at u) (drop at done) n s
  done_summed = rw done_drop (all_added f (take at u) rest s n L.listed.count (omega (arith, rest_length, L.slots)) blank)

  pub done_ready : Ready g f (take at done) (drop at done) n p
  done_ready =
      let R = L.listed in
      rw done_take
      (record { summed = done_summed; sizes = R.sizes; part = R.part; count = R.count; entries = R.entries; cubes = R.cubes })

  pub done_room : at ≤ length done
  done_room = omega (arith, ap length done_is, length-append (take at u) (added_from f (take at u) s rest n n), top)

  pub done_said : list_said g f (take at done) n p ≡ list_said g f (take at u) n p
  done_said = ap (λ (l : List ℕ). list_said g f l n p) done_take

  -- past the slots nothing moved
  pub done_kept : (k : ℕ) → at + 8 * n ≤ k → drop k done ≡ drop k u
  done_kept k l =
      let j : k ≡ at + 8 * n + (k - (at + 8 * n)) = omega arith in
      let mid : drop (at + 8 * n) done ≡ drop (at + 8 * n) u =
      sym (drop-drop (8 * n) at done) ∙ ap (drop (8 * n)) done_drop ∙ drop_all_added f (take at u) s rest n n (omega arith)
      ∙ drop_at {A = ℕ} (replicate (8 * n) 0) (drop (at + 8 * n) u) (8 * n) (length-replicate {A = ℕ} (8 * n) 0) in
      ap (λ (i : ℕ). drop i done) j ∙ sym (drop-drop (k - (at + 8 * n)) (at + 8 * n) done) ∙ ap (drop (k - (at + 8 * n))) mid
      ∙ drop-drop (k - (at + 8 * n)) (at + 8 * n) u ∙ ap (λ (i : ℕ). drop i u) (sym j)

  module _ {first last : List ℕ} (a : first ≡ slots_cleared u at n) (b : last ≡ summarised f p.shape at n first) where
    pub judged_is : last ≡ summarised f p.shape at n (slots_cleared u at n)
    judged_is = b ∙ ap (summarised f p.shape at n) a

    pub judged_ready : (at ≤ length last) × Ready g f (take at last) (drop at last) n p
    judged_ready = rw judged_is (done_room, done_ready)

    pub judged_said : list_said g f (take at last) n p ≡ list_said g f (take at u) n p
    judged_said = ap (λ (l : List ℕ). list_said g f (take at l) n p) judged_is ∙ done_said

-- the part that was lent came back cleared
pub slots_cleared_lem : (u x : List ℕ) (at n k : ℕ) → k ≡ 8 * n → at + 8 * n ≤ length u → x ≡ replicate (length (take k (drop at u))) 0
    → take at u ++ (x ++ drop k (drop at u)) ≡ slots_cleared u at n
unfolding slots_cleared
slots_cleared_lem u x at n k e l q =
    let len : length (take k (drop at u)) ≡ 8 * n = length-take-le k (drop at u) (omega (arith, length-drop at u)) ∙ e in
    rw (q, len, e, drop-drop (8 * n) at u)
