-- What a stored snapshot and a stored waiting value do to the others.
use Prim.Native.Nat.{ℕ, suc, ◌+◌, ◌*◌, ◌/◌, ◌%◌, ◌<◌, ◌≤◌}
use mathlib.Core.Path.{◌≡◌, refl, sym, ap, ◌∙◌}
use mathlib.Core.Logic.{◌≢◌}
use mathlib.Core.Bool.{Bool, true, false, cond}
use mathlib.Core.List.{List, [], ◌∷◌}
use native.Mathlib.Omega.{arith}
use native.Mathlib.Decide.{ℕ_discrete}
use lib.ListN.{length, length-set, get_or, set}
use lib.Seq.{get_or-set_same, get_or-set_other, paste, paste-zero, paste-suc}
use Rattle.std.proofs.Math.Nat.{add-zero}
use lib.Dec.{eqb}
use borrow.Author.Tests.{le-ltb, eq-eqb, ne_eqb}
use Rattle.base.specs.Bytes.{byte}
use Rattle.run_layout.specs.Layout.{next_number, snapshot_at, put_snapshot, waiting_place, waiting_at, halves, put_waiting}

pub next_is : (x : ℕ) → x < 65535 → next_number x ≡ suc x
unfolding next_number
next_is x l = omega arith

-- ---- a snapshot

abbrev four1 : List ℕ → ℕ → List ℕ → List ℕ
four1 a b s = set a b (get_or s 0 0)

abbrev four2 : List ℕ → ℕ → List ℕ → List ℕ
four2 a b s = set (four1 a b s) (b + 1) (get_or s 1 0)

abbrev four3 : List ℕ → ℕ → List ℕ → List ℕ
four3 a b s = set (four2 a b s) (b + 2) (get_or s 2 0)

abbrev four : List ℕ → ℕ → List ℕ → List ℕ
four a b s = set (four3 a b s) (b + 3) (get_or s 3 0)

four_other : (a : List ℕ) (b : ℕ) (s : List ℕ) (j : ℕ) → j ≢ b → j ≢ b + 1 → j ≢ b + 2 → j ≢ b + 3 → get_or (four a b s) j 0 ≡ get_or a j 0
four_other a b s j n0 n1 n2 n3 =
    get_or-set_other (four3 a b s) (b + 3) j (get_or s 3 0) 0 n3 ∙ get_or-set_other (four2 a b s) (b + 2) j (get_or s 2 0) 0 n2
    ∙ get_or-set_other (four1 a b s) (b + 1) j (get_or s 1 0) 0 n1 ∙ get_or-set_other a b j (get_or s 0 0) 0 n0

module _ (a : List ℕ) (b : ℕ) (s : List ℕ) (room : b + 4 ≤ length a) where
  length1 : length (four1 a b s) ≡ length a
  length1 = length-set a b (get_or s 0 0)

  length2 : length (four2 a b s) ≡ length a
  length2 = length-set (four1 a b s) (b + 1) (get_or s 1 0) ∙ length1

  length3 : length (four3 a b s) ≡ length a
  length3 = length-set (four2 a b s) (b + 2) (get_or s 2 0) ∙ length2

  four_0 : get_or (four a b s) b 0 ≡ get_or s 0 0
  four_0 =
      get_or-set_other (four3 a b s) (b + 3) b (get_or s 3 0) 0 (λ e. omega arith) ∙ get_or-set_other (four2 a b s) (b + 2) b (get_or s 2 0) 0 (λ e. omega arith)
      ∙ get_or-set_other (four1 a b s) (b + 1) b (get_or s 1 0) 0 (λ e. omega arith) ∙ get_or-set_same a b (get_or s 0 0) 0 (omega arith)

  four_1 : get_or (four a b s) (b + 1) 0 ≡ get_or s 1 0
  four_1 =
      get_or-set_other (four3 a b s) (b + 3) (b + 1) (get_or s 3 0) 0 (λ e. omega arith)
      ∙ get_or-set_other (four2 a b s) (b + 2) (b + 1) (get_or s 2 0) 0 (λ e. omega arith)
      ∙ get_or-set_same (four1 a b s) (b + 1) (get_or s 1 0) 0 (omega (arith, length1))

  four_2 : get_or (four a b s) (b + 2) 0 ≡ get_or s 2 0
  four_2 =
      get_or-set_other (four3 a b s) (b + 3) (b + 2) (get_or s 3 0) 0 (λ e. omega arith)
      ∙ get_or-set_same (four2 a b s) (b + 2) (get_or s 2 0) 0 (omega (arith, length2))

  four_3 : get_or (four a b s) (b + 3) 0 ≡ get_or s 3 0
  four_3 = get_or-set_same (four3 a b s) (b + 3) (get_or s 3 0) 0 (omega (arith, length3))

four_list : (s : List ℕ) → length s ≡ 4 → get_or s 0 0 ∷ get_or s 1 0 ∷ get_or s 2 0 ∷ get_or s 3 0 ∷ [] ≡ s
four_list [] e = absurd (omega arith)
four_list (x ∷ []) e = absurd (omega arith)
four_list (x ∷ y ∷ []) e = absurd (omega arith)
four_list (x ∷ y ∷ z ∷ []) e = absurd (omega arith)
four_list (x ∷ y ∷ z ∷ w ∷ []) e = refl
four_list (x ∷ y ∷ z ∷ w ∷ u ∷ us) e = absurd (omega arith)

-- one store of the four after another is a copy of them
four_pasted : (a : List ℕ) (b : ℕ) (s : List ℕ) → b + 4 ≤ length a → length s ≡ 4 → paste a b s 4 ≡ four a b s
four_pasted a b s room e = sym (
    ap (λ (x : List ℕ). set (set (set x (b + 1) (get_or s 1 0)) (b + 2) (get_or s 2 0)) (b + 3) (get_or s 3 0)) one
    ∙ ap (λ (x : List ℕ). set (set x (b + 2) (get_or s 2 0)) (b + 3) (get_or s 3 0)) (paste-suc a b s 1 0 (omega arith) (omega arith))
    ∙ ap (λ (x : List ℕ). set x (b + 3) (get_or s 3 0)) (paste-suc a b s 2 0 (omega arith) (omega arith))
    ∙ paste-suc a b s 3 0 (omega arith) (omega arith))
  where
    one : four1 a b s ≡ paste a b s 1
    one =
        ap (λ (k : ℕ). set a k (get_or s 0 0)) (sym (add-zero b)) ∙ ap (λ (x : List ℕ). set x (b + 0) (get_or s 0 0)) (paste-zero a b s)
        ∙ paste-suc a b s 0 0 (omega arith) (omega arith)

put_fits : (a : List ℕ) (i : ℕ) (s : List ℕ) → 4 * i + 4 ≤ length a → put_snapshot a i s ≡ four a (4 * i) s
unfolding put_snapshot
put_fits a i s l = rw (le-ltb (length a) (4 * i + 4) l)

pub put_copied : (a : List ℕ) (i : ℕ) (s : List ℕ) → 4 * i + 4 ≤ length a → length s ≡ 4 → paste a (4 * i) s 4 ≡ put_snapshot a i s
put_copied a i s l e = four_pasted a (4 * i) s l e ∙ sym (put_fits a i s l)

pub snapshot_same : (a : List ℕ) (i : ℕ) (s : List ℕ) → 4 * i + 4 ≤ length a → length s ≡ 4 → snapshot_at (put_snapshot a i s) i ≡ s
unfolding snapshot_at
snapshot_same a i s l e =
    rw (put_fits a i s l, four_0 a (4 * i) s l, four_1 a (4 * i) s l, four_2 a (4 * i) s l, four_3 a (4 * i) s l) (four_list s e)

pub snapshot_other : (a : List ℕ) (i : ℕ) (s : List ℕ) (j : ℕ) → 4 * i + 4 ≤ length a → j ≢ i → snapshot_at (put_snapshot a i s) j ≡ snapshot_at a j
unfolding snapshot_at
snapshot_other a i s j l n =
    rw (
      put_fits a i s l,
      four_other a (4 * i) s (4 * j) (λ e. n (omega arith)) (λ e. n (omega arith)) (λ e. n (omega arith)) (λ e. n (omega arith)),
      four_other a (4 * i) s (4 * j + 1) (λ e. n (omega arith)) (λ e. n (omega arith)) (λ e. n (omega arith)) (λ e. n (omega arith)),
      four_other a (4 * i) s (4 * j + 2) (λ e. n (omega arith)) (λ e. n (omega arith)) (λ e. n (omega arith)) (λ e. n (omega arith)),
      four_other a (4 * i) s (4 * j + 3) (λ e. n (omega arith)) (λ e. n (omega arith)) (λ e. n (omega arith)) (λ e. n (omega arith)),
    )

-- the waiting values stand past the snapshots
pub waiting_past : (a : List ℕ) (i : ℕ) (s : List ℕ) (q k : ℕ) → 4 * i + 4 ≤ length a → i < 2048 → waiting_at (put_snapshot a i s) q k ≡ waiting_at a q k
unfolding waiting_at
waiting_past a i s q k l m =
    let e : byte (put_snapshot a i s) (waiting_place q k) ≡ byte a (waiting_place q k) =
    ap (λ (x : List ℕ). byte x (waiting_place q k)) (put_fits a i s l)
    ∙ four_other a (4 * i) s (waiting_place q k) (λ e. omega arith) (λ e. omega arith) (λ e. omega arith) (λ e. omega arith) in
    ap (λ (b : ℕ). cond (eqb (k % 2) 0) (b % 16) (b / 16)) e

-- ---- a waiting value

byte_halves : (b k x : ℕ) → x < 16 → cond (eqb (k % 2) 0) (halves b k x % 16) (halves b k x / 16) ≡ x
unfolding halves
byte_halves b k x l = go (eqb (k % 2) 0)
  where
    go : (e : Bool) → cond e (cond e (x % 16) (b % 16 + 16 * (x % 16)) % 16) (cond e (x % 16) (b % 16 + 16 * (x % 16)) / 16) ≡ x
    go true = omega arith
    go false = omega arith

-- the even value before an odd one is kept
byte_before : (b k x : ℕ) → k % 2 ≡ 1 → halves b k x % 16 ≡ b % 16
unfolding halves
byte_before b k x e = rw (ne_eqb (k % 2) 0 (λ z. omega arith)) (omega arith)

module _ (a : List ℕ) (q k x : ℕ) (queue : q < 16) (most : k < 1024) (room : length a ≡ 16384) where
  inside : waiting_place q k < length a
  inside = omega arith

  pub waiting_same : x < 16 → waiting_at (put_waiting a q k x) q k ≡ x
  unfolding waiting_at
  waiting_same l =
      let e : byte (put_waiting a q k x) (waiting_place q k) ≡ halves (byte a (waiting_place q k)) k x =
      get_or-set_same a (waiting_place q k) (halves (byte a (waiting_place q k)) k x) 0 inside in
      ap (λ (b : ℕ). cond (eqb (k % 2) 0) (b % 16) (b / 16)) e ∙ byte_halves (byte a (waiting_place q k)) k x l

  elsewhere : (r j : ℕ) → waiting_place r j ≢ waiting_place q k → waiting_at (put_waiting a q k x) r j ≡ waiting_at a r j
  unfolding waiting_at
  elsewhere r j n =
      ap (λ (b : ℕ). cond (eqb (j % 2) 0) (b % 16) (b / 16)) (get_or-set_other a (waiting_place q k) (waiting_place r j) (halves (byte a (waiting_place q k)) k x) 0 n)

  pub waiting_other : (r j : ℕ) → r ≢ q → j < 1024 → waiting_at (put_waiting a q k x) r j ≡ waiting_at a r j
  waiting_other r j n m = elsewhere r j (λ e. n (omega arith))

  pub waiting_before : (j : ℕ) → j < k → waiting_at (put_waiting a q k x) q j ≡ waiting_at a q j
  unfolding waiting_at
  waiting_before j l = elim (ℕ_discrete (waiting_place q j) (waiting_place q k)) [
    | yes e ↦
        let odd : k % 2 ≡ 1 = omega arith in
        let even : eqb (j % 2) 0 ≡ true = eq-eqb (j % 2) 0 (omega arith) in
        let b : byte (put_waiting a q k x) (waiting_place q j) ≡ halves (byte a (waiting_place q k)) k x =
        ap (byte (put_waiting a q k x)) e ∙ get_or-set_same a (waiting_place q k) (halves (byte a (waiting_place q k)) k x) 0 inside in
        rw even (ap (λ (z : ℕ). z % 16) b ∙ byte_before (byte a (waiting_place q k)) k x odd ∙ ap (λ (z : ℕ). byte a z % 16) (sym e))
    | no e ↦ elsewhere q j e
  ]

  pub snapshot_below : (i : ℕ) → i < 2048 → snapshot_at (put_waiting a q k x) i ≡ snapshot_at a i
  unfolding snapshot_at
  snapshot_below i l =
      let h = halves (byte a (waiting_place q k)) k x in
      rw (
        get_or-set_other a (waiting_place q k) (4 * i) h 0 (λ e. omega arith),
        get_or-set_other a (waiting_place q k) (4 * i + 1) h 0 (λ e. omega arith),
        get_or-set_other a (waiting_place q k) (4 * i + 2) h 0 (λ e. omega arith),
        get_or-set_other a (waiting_place q k) (4 * i + 3) h 0 (λ e. omega arith),
      )
