-- Laws of the pass over one pattern: its loop, and the counts that stand for what was read.
use Rattle.std.specs.Prelude.{Ok, Err}
use Prim.Native.Nat.{ℕ, zero, suc, ◌+◌, ◌*◌, ◌-◌, ◌<◌, ◌≤◌}
use mathlib.Core.Path.{◌≡◌, refl, sym, ap, ap₂, ◌∙◌}
use mathlib.Core.Bool.{Bool, true, false, cond, ◌&&◌, ◌||◌, not}
use mathlib.Core.Option.{Option, none, some}
use mathlib.Core.List.{List, [], ◌∷◌, ◌++◌}
use native.Mathlib.Omega.{arith}
use native.Mathlib.Decide.{ℕ_discrete}
use lib.ListN.{length, get_or, set, replicate, length-append, length-set, length-replicate, get_or-replicate}
use lib.Seq.{get_or-set_same, get_or-set_other}
use lib.Dec.{eqb, leb, ltb}
use borrow.Author.Tests.{eq-eqb, ne_eqb, leb-false, ltb-true}
use Rattle.machine_pws.proofs.Facts.{put_same, put_other}
use Rattle.base.specs.Bytes.{byte}
use Rattle.file_records.specs.declared.program.Shape.{Shape}
use Rattle.file_records.specs.declared.program.Refusal.{Refusal}
use Rattle.file_records.specs.Records.{checked, is_kind, exists, waiting_number}
use Rattle.file_contents.specs.Tally.{queue_at}
use Rattle.file_again.proofs.Names.{both_exist}
use Rattle.list_key.proofs.Below.{all_equal}
use Rattle.pattern_theory.specs.Patterns.{PathRead}
use Rattle.pattern_theory.specs.Verdict.{is_some}
use Rattle.pattern_reading.specs.Records.{asked, Given, beginning, read_number, mark_number, body_number, body_size, with_value, read_at, read_put, with_mark, extended}
use Rattle.pattern_reading.specs.Reading.{is_nil, mark_fits, first_fitting, complete, PatternRead, whole, bad, at_boundary, finished, pattern_from}
use Rattle.pattern_pass.specs.declared.seen.Seen.{Seen}
use Rattle.pattern_pass.specs.Seen.{seen_number, seen_value, seen_read, seen_mark, seen_more, SeenRoom, mark_fits_seen, seen_complete, mark_seen, own_seen, SeenOf}
use Rattle.pattern_pass.proofs.BodyLaws.{put_at_lem, put_elsewhere, Body, value_body, read_body, mark_body, body_says, body_fits}

-- ---- the loop

module _ (s : Shape) (f : List ℕ) (start at : ℕ) (g : Given) where
  pub pattern_ends : (bytes : ℕ) → at_boundary f at ≡ true → pattern_from bytes s f start at g ≡ finished s start at g
  unfolding pattern_from
  pattern_ends zero b = refl
  pattern_ends (suc bytes) b = rw b

  pub pattern_next : (bytes : ℕ) → at_boundary f at ≡ false → checked (body_number s f at g) at ≡ Ok tt
      → pattern_from (suc bytes) s f start at g ≡ pattern_from bytes s f start (at + body_size f at) (extended f at g)
  unfolding pattern_from
  pattern_next bytes b d = rw (b, d)

  pub pattern_stops : (bytes : ℕ) (r : Refusal) → at_boundary f at ≡ false → checked (body_number s f at g) at ≡ Err r
      → pattern_from (suc bytes) s f start at g ≡ bad r
  unfolding pattern_from
  pattern_stops bytes r b d = rw (b, d)

-- a record that is no boundary stands in the file
pub inside : (f : List ℕ) (at : ℕ) → at_boundary f at ≡ false → at < length f
unfolding at_boundary
inside f at b = go (leb (length f) at) refl b
  where
    go : (x : Bool) → leb (length f) at ≡ x → (x || is_kind f at 19) ≡ false → at < length f
    go true d q = let z : ◌≡◌ {A = ℕ} 0 1 = cc in absurd (omega arith)
    go false d q = leb-false (length f) at d

-- ---- the counts give the same number

mark_is : (m : Option ℕ) → not (eqb (mark_seen m) 0) ≡ is_some m
mark_is none = refl
mark_is (some x) = ap not (ne_eqb (x + 1) 0 (λ e. omega arith))

module _ (s : Shape) (few : s.processes ≤ 4) (small : s.variables ≤ 4) (f : List ℕ) (at : ℕ) (t : Seen) (g : Given) (T : SeenOf t g) where
  abbrev p : ℕ
  p = byte f (at + 1)

  abbrev v : ℕ
  v = byte f (at + 2)

  words_same : (b : Bool) → exists s p v ≡ b → (b && leb 8 (get_or t.words (queue_at f at) 0)) ≡ (b && leb 8 (length (g.word p v)))
  words_same true d = let r = both_exist s p v d in ap (leb 8) (T.words p v (omega (arith, r.0)) (omega (arith, r.1)))
  words_same false d = refl

  reads_same : (b : Bool) → ltb p s.processes ≡ b → (b && leb 16 (get_or t.reads p 0)) ≡ (b && leb 16 (length (g.path p)))
  reads_same true d = ap (leb 16) (T.reads p (omega (arith, ltb-true p s.processes d)))
  reads_same false d = refl

  marks_same : (b : Bool) → exists s p v ≡ b → (b && not (eqb (get_or t.marks (queue_at f at) 0) 0)) ≡ (b && is_some (g.mark p v))
  marks_same true d =
      let r = both_exist s p v d in
      ap (λ (n : ℕ). not (eqb n 0)) (T.marks p v (omega (arith, r.0)) (omega (arith, r.1))) ∙ mark_is (g.mark p v)
  marks_same false d = refl

  pub number_same : seen_number s f at t ≡ body_number s f at g
  unfolding seen_number body_number waiting_number read_number mark_number
  number_same = rw (words_same (exists s p v) refl, reads_same (ltb p s.processes) refl, marks_same (exists s p v) refl)

  -- ---- one record more can be counted

  pub room : Body s f at g → SeenRoom f at t
  room (value_body k a b x l e) =
      record {
        words = λ q. (omega (arith, a, b), omega (arith, l, T.words p v (omega (arith, a)) (omega (arith, b))));
        reads = λ q r. let z : ◌≡◌ {A = ℕ} 0 1 = cc in absurd (omega arith);
        marks = λ q r. let z : ◌≡◌ {A = ℕ} 0 1 = cc in absurd (omega arith);
      }
  room (read_body k j a b x o l e) =
      record {
        words = λ q. let z : ◌≡◌ {A = ℕ} 0 1 = cc in absurd (omega arith);
        reads = λ q r. (omega (arith, a), omega (arith, l, T.reads p (omega (arith, a))));
        marks = λ q r. let z : ◌≡◌ {A = ℕ} 0 1 = cc in absurd (omega arith);
      }
  room (mark_body k j a b x m e) =
      record {
        words = λ q. let z : ◌≡◌ {A = ℕ} 0 1 = cc in absurd (omega arith);
        reads = λ q r. let z : ◌≡◌ {A = ℕ} 0 1 = cc in absurd (omega arith);
        marks = λ q r. (omega (arith, a, b), x);
      }

  -- ---- and the counts with it are those of the pattern with it

  value_more : p < 4 → v < 4 → SeenOf (seen_value f at t) (with_value f at g)
  unfolding seen_value
  value_more a b =
      let n = get_or t.words (4 * p + v) 0 + 1 in
      let w = g.word p v ++ (asked (byte f (at + 3)) ∷ []) in
      record {
        places = (length-set t.words (4 * p + v) n ∙ T.places.0, T.places.1, T.places.2, T.places.3);
        words = λ q u i j. elim (ℕ_discrete (4 * q + u) (4 * p + v)) [
          | yes e ↦
              let e₁ : q ≡ p = omega (arith, b) in
              let e₂ : u ≡ v = omega arith in
              rw (e₁, e₂, get_or-set_same t.words (4 * p + v) n 0 (omega (arith, T.places.0, a, b)), put_at_lem g.word p v w, length-append (g.word p v) (asked (byte f (at + 3)) ∷ []))
              (omega (arith, T.words p v a b))
          | no e ↦
              rw (get_or-set_other t.words (4 * p + v) (4 * q + u) n 0 e, put_elsewhere g.word p v w q u (λ d. e (omega (arith, d.0, d.1))))
              (T.words q u i j)
        ];
        marks = T.marks;
        reads = T.reads;
        own = T.own;
      }

  mark_more : p < 4 → v < 4 → SeenOf (seen_mark f at t) (with_mark f at g)
  unfolding seen_mark
  mark_more a b =
      let n = byte f (at + 3) + 1 in
      record {
        places = (T.places.0, length-set t.marks (4 * p + v) n ∙ T.places.1, T.places.2, T.places.3);
        words = T.words;
        marks = λ q u i j. elim (ℕ_discrete (4 * q + u) (4 * p + v)) [
          | yes e ↦
              let e₁ : q ≡ p = omega (arith, b) in
              let e₂ : u ≡ v = omega arith in
              rw (e₁, e₂, get_or-set_same t.marks (4 * p + v) n 0 (omega (arith, T.places.1, a, b)), put_at_lem g.mark p v (some (byte f (at + 3))))
          | no e ↦
              rw (get_or-set_other t.marks (4 * p + v) (4 * q + u) n 0 e, put_elsewhere g.mark p v (some (byte f (at + 3))) q u (λ d. e (omega (arith, d.0, d.1))))
              (T.marks q u i j)
        ];
        reads = T.reads;
        own = T.own;
      }

  own_bit : (x : ℕ) → x ≤ 1 → x ≡ cond (eqb x 1) 1 0
  own_bit x l = elim (ℕ_discrete x 1) [ yes e ↦ rw (eq-eqb x 1 e) e | no e ↦ rw (ne_eqb x 1 e) (omega arith) ]

  -- of the first read of a process its own byte is kept
  own_next : (rs : List PathRead) (r : PathRead) → cond (eqb (length rs) 0) (cond r.own 1 0) (own_seen rs) ≡ own_seen (rs ++ (r ∷ []))
  own_next [] r = refl
  own_next (q ∷ rs) r = rw (ne_eqb (suc (length rs)) 0 (λ e. omega arith))

  module _ (a : p < 4) (o : byte f (at + 4) ≤ 1) where
    abbrev owned : List ℕ
    owned = cond (eqb (get_or t.reads p 0) 0) (set t.own p (byte f (at + 4))) t.own

    owned_length : length owned ≡ 4
    owned_length = go (eqb (get_or t.reads p 0) 0)
      where
        go : (b : Bool) → length (cond b (set t.own p (byte f (at + 4))) t.own) ≡ 4
        go true = length-set t.own p (byte f (at + 4)) ∙ T.places.3
        go false = T.places.3

    owned_here : get_or owned p 0 ≡ own_seen (g.path p ++ (read_at f at ∷ []))
    owned_here =
        go (eqb (get_or t.reads p 0) 0) ∙ ap (λ (n : ℕ). cond (eqb n 0) (cond (eqb (byte f (at + 4)) 1) 1 0) (own_seen (g.path p))) (T.reads p a)
        ∙ own_next (g.path p) (read_at f at)
      where
        go : (b : Bool) → get_or (cond b (set t.own p (byte f (at + 4))) t.own) p 0 ≡ cond b (cond (eqb (byte f (at + 4)) 1) 1 0) (own_seen (g.path p))
        go true = get_or-set_same t.own p (byte f (at + 4)) 0 (omega (arith, T.places.3, a)) ∙ own_bit (byte f (at + 4)) o
        go false = T.own p a

    owned_other : (q : ℕ) → (q ≡ p → ⊥) → get_or owned q 0 ≡ get_or t.own q 0
    owned_other q n = go (eqb (get_or t.reads p 0) 0)
      where
        go : (b : Bool) → get_or (cond b (set t.own p (byte f (at + 4))) t.own) q 0 ≡ get_or t.own q 0
        go true = get_or-set_other t.own p q (byte f (at + 4)) 0 n
        go false = refl

    read_more : SeenOf (seen_read f at t) (read_put f at g)
    unfolding seen_read
    read_more =
        let n = get_or t.reads p 0 + 1 in
        let rs = g.path p ++ (read_at f at ∷ []) in
        record {
          places = (T.places.0, T.places.1, length-set t.reads p n ∙ T.places.2, owned_length);
          words = T.words;
          marks = T.marks;
          reads = λ q i. elim (ℕ_discrete q p) [
            | yes e ↦
                rw (e, get_or-set_same t.reads p n 0 (omega (arith, T.places.2, a)), put_same g.path p rs, length-append (g.path p) (read_at f at ∷ []))
                (omega (arith, T.reads p a))
            | no e ↦ rw (get_or-set_other t.reads p q n 0 e, put_other g.path p rs q e) (T.reads q i)
          ];
          own = λ q i. elim (ℕ_discrete q p) [
            | yes e ↦ rw (e, put_same g.path p rs) owned_here
            | no e ↦ rw (put_other g.path p rs q e) (owned_other q e ∙ T.own q i)
          ];
        }

  pub seen_next : Body s f at g → SeenOf (seen_more f at t) (extended f at g)
  unfolding seen_more extended
  seen_next (value_body k a b x l e) = rw k (value_more (omega (arith, a)) (omega (arith, b)))
  seen_next (read_body k j a b x o l e) = rw (k, j) (read_more (omega (arith, a)) o)
  seen_next (mark_body k j a b x m e) = rw (k, j) (mark_more (omega (arith, a)) (omega (arith, b)))

  -- ---- number 7

  nil_is : {A : Type 0} (xs : List A) → eqb (length xs) 0 ≡ is_nil xs
  nil_is [] = refl
  nil_is (x ∷ xs) = ne_eqb (suc (length xs)) 0 (λ e. omega arith)

  mark_fits_lem : (w : List (Option ℕ)) (m : Option ℕ) → mark_fits_seen (length w) (mark_seen m) ≡ mark_fits w m
  unfolding mark_fits_seen
  mark_fits_lem w none = refl
  mark_fits_lem w (some x) = elim (ℕ_discrete x 0) [
    | yes e ↦ rw (e, nil_is w)
    | no e ↦ rw (ne_eqb (x + 1) 0 (λ d. omega arith), ne_eqb (x + 1) 1 (λ d. e (omega arith)), ne_eqb x 0 e, nil_is w)
  ]

  first_fits : (rs : List PathRead) → eqb (own_seen rs) 0 ≡ first_fitting rs
  first_fits [] = refl
  first_fits (r ∷ rs) = go r.own
    where
      go : (b : Bool) → eqb (cond b 1 0) 0 ≡ not b
      go true = refl
      go false = refl

  pub complete_same : seen_complete s t ≡ complete s g
  unfolding seen_complete complete
  complete_same =
      ap₂ ◌&&◌
      (all_equal s.processes _ _ (λ q i. all_equal s.variables _ _ (λ u j.
      ap₂ mark_fits_seen (T.words q u (omega arith) (omega arith)) (T.marks q u (omega arith) (omega arith)) ∙ mark_fits_lem (g.word q u) (g.mark q u))))
      (all_equal s.processes _ _ (λ q i. ap (λ (n : ℕ). eqb n 0) (T.own q (omega arith)) ∙ first_fits (g.path q)))

-- ---- what the loop knows

abbrev pub read_pattern : Shape → List ℕ → ℕ → PatternRead
read_pattern s f start = pattern_from (length f) s f start (start + 9) (beginning s f start)

-- the counts are those of what was read of the pattern, and the rest is still to be read
pub record Sofar (s : Shape) (f : List ℕ) (start : ℕ) (t : Seen) (k : ℕ) : Type 0 where
  pub given : Given
  pub bytes : ℕ
  pub seen : SeenOf t given
  pub reads : pattern_from bytes s f start k given ≡ read_pattern s f start
  pub enough : length f ≤ bytes + k
  pub upto : k ≤ length f

zeros : (n i : ℕ) → i < n → ◌≡◌ {A = ℕ} (get_or (replicate n 0) i 0) 0
zeros n i l = get_or-replicate n i 0 0 l

pub sofar_begin : (s : Shape) (f : List ℕ) (start : ℕ) → start + 9 ≤ length f
    → Sofar s f start (record { words = replicate 16 0; marks = replicate 16 0; reads = replicate 4 0; own = replicate 4 0 }) (start + 9)
sofar_begin s f start l =
    record {
      given = beginning s f start;
      bytes = length f;
      seen =
          record {
            places = (length-replicate {A = ℕ} 16 0, length-replicate {A = ℕ} 16 0, length-replicate {A = ℕ} 4 0, length-replicate {A = ℕ} 4 0);
            words = λ p v a b. zeros 16 (4 * p + v) (omega arith);
            marks = λ p v a b. zeros 16 (4 * p + v) (omega arith);
            reads = λ p a. zeros 4 p a;
            own = λ p a. zeros 4 p a;
          };
      reads = refl;
      enough = omega arith;
      upto = l;
    }

pred_of : (n : ℕ) → 1 ≤ n → n ≡ suc (n - 1)
pred_of n l = omega arith

module _ (s : Shape) (few : s.processes ≤ 4) (small : s.variables ≤ 4) (f : List ℕ) (start : ℕ) (t : Seen) (k : ℕ) (F : Sofar s f start t k) where
  number_is : seen_number s f k t ≡ body_number s f k F.given
  number_is = number_same s few small f k t F.given F.seen

  some_bytes : at_boundary f k ≡ false → F.bytes ≡ suc (F.bytes - 1)
  some_bytes b = pred_of F.bytes (omega (arith, inside f k b, F.enough))

  module _ (b : at_boundary f k ≡ false) (d : checked (seen_number s f k t) k ≡ Ok tt) where
    fine : checked (body_number s f k F.given) k ≡ Ok tt
    fine = ap (λ (n : ℕ). checked n k) (sym number_is) ∙ d

    pub sofar_room : SeenRoom f k t
    sofar_room = room s few small f k t F.given F.seen (body_says s f k F.given fine)

    pub sofar_fits : (k + body_size f k ≤ length f) × (4 ≤ body_size f k) × (body_size f k ≤ 5)
    sofar_fits = body_fits s f k F.given (body_says s f k F.given fine)

    pub sofar_next : Sofar s f start (seen_more f k t) (k + body_size f k)
    sofar_next =
        record {
          given = extended f k F.given;
          bytes = F.bytes - 1;
          seen = seen_next s few small f k t F.given F.seen (body_says s f k F.given fine);
          reads = sym (pattern_next s f start k F.given (F.bytes - 1) b fine) ∙ ap (λ (n : ℕ). pattern_from n s f start k F.given) (sym (some_bytes b)) ∙ F.reads;
          enough = omega (arith, some_bytes b, F.enough, sofar_fits.1);
          upto = sofar_fits.0;
        }

  pub sofar_stops : (r : Refusal) → at_boundary f k ≡ false → checked (seen_number s f k t) k ≡ Err r → read_pattern s f start ≡ bad r
  sofar_stops r b d =
      sym F.reads ∙ ap (λ (n : ℕ). pattern_from n s f start k F.given) (some_bytes b)
      ∙ pattern_stops s f start k F.given (F.bytes - 1) r b (ap (λ (n : ℕ). checked n k) (sym number_is) ∙ d)

  pub sofar_ends : at_boundary f k ≡ true → read_pattern s f start ≡ cond (seen_complete s t) (whole F.given k) (bad (record { number = 7; place = start }))
  unfolding finished
  sofar_ends b =
      sym F.reads ∙ pattern_ends s f start k F.given F.bytes b
      ∙ ap (λ (c : Bool). cond c (whole F.given k) (bad (record { number = 7; place = start }))) (sym (complete_same s few small f k t F.given F.seen))
