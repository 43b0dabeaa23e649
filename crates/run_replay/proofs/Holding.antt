-- What a step does to the memory and to the queues that the bytes and arrays hold.
use Prim.Native.Nat.{ℕ, zero, suc, ◌+◌, ◌*◌, ◌-◌, ◌<◌, ◌≤◌, max}
use mathlib.Core.Path.{◌≡◌, refl, sym, ap, ap₂, subst, ◌∙◌}
use mathlib.Core.Logic.{◌≢◌}
use mathlib.Core.List.{List, [], ◌∷◌, ◌++◌}
use native.Mathlib.Omega.{arith}
use native.Mathlib.Decide.{dec_le, ℕ_discrete}
use lib.ListN.{length, length-set, get_or, set}
use lib.Seq.{get_or-set_same, get_or-set_other}
use borrow.Author.Tests.{lt-ltb, eq-eqb, ne_eqb}
use Rattle.machine_pws.specs.declared.Message.{Message}
use Rattle.machine_pws.specs.Program.{Shape}
use Rattle.machine_pws.specs.Machine.{Memory, put, put_queue, message, newest, last_labelled, last_write, copy_with, append, point, without_oldest}
use Rattle.machine_pws.proofs.Facts.{put_same, put_other, put_each, put_queue_each, last_is}
use Rattle.file_records.specs.ProgramPart.{table_from}
use Rattle.run_layout.specs.Layout.{next_number, queue_number, snapshot_at, put_snapshot, waiting_at, put_waiting, pointer_of, last_write_of, advanced}
use Rattle.run_step.specs.Rows.{pointed, put_last, updated_row, updated}
use Rattle.run_step.specs.Stored.{appended}
use Rattle.run_layout.proofs.ByteLaws.{next_is, snapshot_same, snapshot_other, waiting_same, waiting_other, waiting_before}
use Rattle.run_layout.proofs.Kept.{queue_is, pointer_is, last_write_is}

-- ---- the memory: n messages

pub record MemoryHeld (S : Shape) (n : ℕ) (rows : List (List ℕ)) (a : List ℕ) (m : Memory) : Type 0 where
  pub count : n ≡ length m.channel
  pub some : 1 ≤ n
  pub snapshots : (i : ℕ) → 1 ≤ i → i ≤ length m.channel → snapshot_at a i ≡ (message m.channel i).snapshot
  pub pointers : (p : ℕ) → p < S.processes → get_or (get_or rows p []) 0 0 ≡ m.pointer p
  pub last_writes : (p v : ℕ) → p < S.processes → v < S.variables → get_or (get_or rows p []) (v + 1) 0 ≡ last_write m p v
  pub row_count : length rows ≡ 4
  pub row_length : (p : ℕ) → p < 4 → length (get_or rows p []) ≡ 5
  pub low : (p : ℕ) → p < S.processes → 1 ≤ m.pointer p
  pub high : (p : ℕ) → p < S.processes → m.pointer p ≤ length m.channel

pub memory_area : {S : Shape} {n : ℕ} {rows : List (List ℕ)} {a b : List ℕ} {m : Memory} → MemoryHeld S n rows a m
    → ((i : ℕ) → i ≤ n → snapshot_at b i ≡ snapshot_at a i) → MemoryHeld S n rows b m
memory_area M e =
    record {
      count = M.count;
      some = M.some;
      snapshots = λ i l h. e i (omega (arith, M.count)) ∙ M.snapshots i l h;
      pointers = M.pointers;
      last_writes = M.last_writes;
      row_count = M.row_count;
      row_length = M.row_length;
      low = M.low;
      high = M.high;
    }

-- ---- rows

row_same : (rows : List (List ℕ)) (p : ℕ) (r : List ℕ) → length rows ≡ 4 → p < 4 → get_or (set rows p r) p [] ≡ r
row_same rows p r e l = get_or-set_same rows p r [] (omega arith)

row_other : (rows : List (List ℕ)) (p q : ℕ) (r : List ℕ) → q ≢ p → get_or (set rows p r) q [] ≡ get_or rows q []
row_other rows p q r n = get_or-set_other rows p q r [] n

-- what holds of the new row, and of the others
row_each {κ} : (F : ℕ → List ℕ → Type κ) (rows : List (List ℕ)) (p q : ℕ) (r : List ℕ) → length rows ≡ 4 → p < 4 → F p r → (q ≢ p → F q (get_or rows q []))
    → F q (get_or (set rows p r) q [])
row_each F rows p q r e l here other = elim (ℕ_discrete q p) [
  | yes d ↦ subst (λ (z : ℕ). F z (get_or (set rows p r) z [])) (sym d) (subst (F p) (sym (row_same rows p r e l)) here)
  | no d ↦ subst (F q) (sym (row_other rows p q r d)) (other d)
]

last_put : (rows : List (List ℕ)) (p v k : ℕ) → p < 4 → v < 4 → put_last rows p v k ≡ set rows p (set (get_or rows p []) (v + 1) k)
unfolding put_last
last_put rows p v k a b = rw (lt-ltb p 4 a, lt-ltb v 4 b)

pointed_is : (rows : List (List ℕ)) (p k : ℕ) → p < 4 → pointed rows p k ≡ set rows p (k ∷ k ∷ k ∷ k ∷ k ∷ [])
unfolding pointed
pointed_is rows p k a = rw (lt-ltb p 4 a)

updated_is : (rows : List (List ℕ)) (p : ℕ) → p < 4 → updated rows p ≡ set rows p (updated_row rows p (next_number (pointer_of rows p)))
unfolding updated
updated_is rows p a = rw (lt-ltb p 4 a)

five_at : (k v : ℕ) → v < 4 → get_or (k ∷ k ∷ k ∷ k ∷ k ∷ []) (v + 1) 0 ≡ k
five_at k zero l = refl
five_at k (suc zero) l = refl
five_at k (suc (suc zero)) l = refl
five_at k (suc (suc (suc zero))) l = refl
five_at k (suc (suc (suc (suc v)))) l = absurd (omega arith)

updated_at : (rows : List (List ℕ)) (p k v : ℕ) → v < 4 → get_or (updated_row rows p k) (v + 1) 0 ≡ max (last_write_of rows p v) k
updated_at rows p k zero l = refl
updated_at rows p k (suc zero) l = refl
updated_at rows p k (suc (suc zero)) l = refl
updated_at rows p k (suc (suc (suc zero))) l = refl
updated_at rows p k (suc (suc (suc (suc v)))) l = absurd (omega arith)

-- ---- LastWrite after a message of the label (p, v)

last_label : (m : Memory) (p v x : ℕ) → m.pointer p ≤ length m.channel → last_write (append m p v x) p v ≡ suc (length m.channel)
last_label m p v x h = rw (eq-eqb p p refl, eq-eqb v v refl) (omega arith)

last_unlabelled : (m : Memory) (p v x q u : ℕ) → ((q ≡ p) × (u ≡ v) → ⊥) → last_write (append m p v x) q u ≡ last_write m q u
last_unlabelled m p v x q u n = elim (ℕ_discrete p q) [
  | yes e ↦ rw (ne_eqb v u (λ d. n (sym e, sym d)), eq-eqb p q e)
  | no e ↦ rw (ne_eqb p q e)
]

module _ (S : Shape) (pl : S.processes ≤ 4) (vl : S.variables ≤ 4) (n : ℕ) (rows : List (List ℕ)) (a : List ℕ) (m : Memory) (M : MemoryHeld S n rows a m)
    (room : length a ≡ 16384) (few : n ≤ 1024) where
  newest_held : snapshot_at a n ≡ (newest m.channel).snapshot
  newest_held = ap (snapshot_at a) M.count ∙ M.snapshots (length m.channel) (omega (arith, M.some, M.count)) (omega arith)

  appended_is : (v x : ℕ) → appended a n v x ≡ put_snapshot a (suc n) (set (snapshot_at a n) v x)
  unfolding appended
  appended_is v x = ap (λ (i : ℕ). put_snapshot a i (set (snapshot_at a n) v x)) (next_is n (omega arith))

  snapshot_four : (i : ℕ) → length (snapshot_at a i) ≡ 4
  unfolding snapshot_at
  snapshot_four i = refl

  -- the snapshots with a message appended
  append_snapshots : (p v x i : ℕ) → 1 ≤ i → i ≤ suc (length m.channel)
      → snapshot_at (appended a n v x) i ≡ (message (copy_with m.channel p v x ∷ m.channel) i).snapshot
  append_snapshots p v x i l h =
      rw (appended_is v x) (elim (dec_le i (length m.channel)) [
        | yes y ↦
            snapshot_other a (suc n) (set (snapshot_at a n) v x) i (omega arith) (λ e. omega (arith, M.count)) ∙ M.snapshots i l y
            ∙ ap (λ (w : Message). w.snapshot) (old i y)
        | no y ↦
            let e : i ≡ suc n = omega (arith, M.count) in
            rw e
            (snapshot_same a (suc n) (set (snapshot_at a n) v x) (omega arith) (length-set (snapshot_at a n) v x ∙ snapshot_four n)
            ∙ ap (λ (w : List ℕ). set w v x) newest_held ∙ ap (λ (w : Message). w.snapshot) new)
      ])
    where
      old : (i : ℕ) → i ≤ length m.channel → message m.channel i ≡ message (copy_with m.channel p v x ∷ m.channel) i
      old i y = rw (ne_eqb i (suc (length m.channel)) (λ e. omega arith))

      new : copy_with m.channel p v x ≡ message (copy_with m.channel p v x ∷ m.channel) (suc n)
      new = rw (eq-eqb (suc n) (suc (length m.channel)) (ap suc M.count))

  -- a message appended, and no pointer moved
  pub memory_append : (p v x : ℕ) → p < S.processes → v < S.variables
      → MemoryHeld S (next_number n) (put_last rows p v (next_number n)) (appended a n v x) (append m p v x)
  memory_append p v x pe ve =
      rw (next_is n (omega arith), last_put rows p v (suc n) (omega arith) (omega arith))
      (record {
        count = ap suc M.count;
        some = omega arith;
        snapshots = append_snapshots p v x;
        pointers = λ q qe. row_each (λ q r. q < S.processes → get_or r 0 0 ≡ m.pointer q) rows p q new M.row_count (omega arith)
            (λ e. get_or-set_other (get_or rows p []) (v + 1) 0 (suc n) 0 (λ z. omega arith) ∙ M.pointers p e) (λ d e. M.pointers q e) qe;
        last_writes = λ q u qe ue. row_each (λ q r. q < S.processes → get_or r (u + 1) 0 ≡ last_write (append m p v x) q u) rows p q new M.row_count (omega arith)
            (λ e. elim (ℕ_discrete u v) [
              | yes d ↦
                  rw d (get_or-set_same (get_or rows p []) (v + 1) (suc n) 0 (omega (arith, M.row_length p (omega arith)))
                  ∙ ap suc M.count ∙ sym (last_label m p v x (M.high p pe)))
              | no d ↦
                  get_or-set_other (get_or rows p []) (v + 1) (u + 1) (suc n) 0 (λ z. d (omega arith)) ∙ M.last_writes p u e ue
                  ∙ sym (last_unlabelled m p v x p u (λ z. d z.1))
            ])
            (λ d e. M.last_writes q u e ue ∙ sym (last_unlabelled m p v x q u (λ z. d z.0))) qe;
        row_count = length-set rows p new ∙ M.row_count;
        row_length = λ q l. row_each (λ q r. q < 4 → length r ≡ 5) rows p q new M.row_count (omega arith)
            (λ e. length-set (get_or rows p []) (v + 1) (suc n) ∙ M.row_length p e) (λ d e. M.row_length q e) l;
        low = M.low;
        high = λ q e. omega (arith, M.high q e);
      })
    where
      new : List ℕ
      new = set (get_or rows p []) (v + 1) (suc n)

  -- p points at the message after its pointer
  pub memory_update : (p : ℕ) → p < S.processes → m.pointer p < length m.channel → MemoryHeld S n (updated rows p) a (point m p (suc (m.pointer p)))
  memory_update p pe up =
      rw (updated_is rows p (omega arith), at)
      (record {
        count = M.count;
        some = M.some;
        snapshots = M.snapshots;
        pointers = λ q qe. row_each (λ q r. q < S.processes → get_or r 0 0 ≡ put m.pointer p k q) rows p q new M.row_count (omega arith)
            (λ e. sym (put_same m.pointer p k)) (λ d e. M.pointers q e ∙ sym (put_other m.pointer p k q d)) qe;
        last_writes = λ q u qe ue. row_each (λ q r. q < S.processes → get_or r (u + 1) 0 ≡ last_write (point m p k) q u) rows p q new M.row_count (omega arith)
            (λ e.
            updated_at rows p k u (omega arith)
            ∙ ap (λ (z : ℕ). max z k) (last_write_is rows p u (omega arith) (omega arith) ∙ M.last_writes p u e ue) ∙ passed u
            ∙ ap (λ (z : ℕ). max z (last_labelled m.channel p u)) (sym (put_same m.pointer p k)))
            (λ d e. M.last_writes q u e ue ∙ ap (λ (z : ℕ). max z (last_labelled m.channel q u)) (sym (put_other m.pointer p k q d))) qe;
        row_count = length-set rows p new ∙ M.row_count;
        row_length = λ q l. row_each (λ q r. q < 4 → length r ≡ 5) rows p q new M.row_count (omega arith) (λ e. refl) (λ d e. M.row_length q e) l;
        low = λ q e. put_each (λ _ z. 1 ≤ z) m.pointer p k q (omega arith) (λ _. M.low q e);
        high = λ q e. put_each (λ _ z. z ≤ length m.channel) m.pointer p k q (omega arith) (λ _. M.high q e);
      })
    where
      k : ℕ
      k = suc (m.pointer p)

      new : List ℕ
      new = updated_row rows p k

      at : next_number (pointer_of rows p) ≡ k
      at =
          ap next_number (pointer_is rows p (omega arith) ∙ M.pointers p pe) ∙ next_is (m.pointer p) (omega (arith, M.count))

      passed : (u : ℕ) → max (max (m.pointer p) (last_labelled m.channel p u)) k ≡ max k (last_labelled m.channel p u)
      passed u = omega arith

  -- a message appended, and p points at it
  pub memory_arw : (p v x : ℕ) → p < S.processes → v < S.variables
      → MemoryHeld S (next_number n) (pointed rows p (next_number n)) (appended a n v x) (point (append m p v x) p (suc (length m.channel)))
  memory_arw p v x pe ve =
      rw (next_is n (omega arith), pointed_is rows p (suc n) (omega arith))
      (record {
        count = ap suc M.count;
        some = omega arith;
        snapshots = append_snapshots p v x;
        pointers = λ q qe. row_each (λ q r. q < S.processes → get_or r 0 0 ≡ put m.pointer p k q) rows p q new M.row_count (omega arith)
            (λ e. ap suc M.count ∙ sym (put_same m.pointer p k)) (λ d e. M.pointers q e ∙ sym (put_other m.pointer p k q d)) qe;
        last_writes = λ q u qe ue. row_each (λ q r. q < S.processes → get_or r (u + 1) 0 ≡ last_write (point (append m p v x) p k) q u) rows p q new M.row_count (omega arith)
            (λ e.
            five_at (suc n) u (omega arith) ∙ ap suc M.count ∙ sym (highest u)
            ∙ ap (λ (z : ℕ). max z (last_labelled (append m p v x).channel p u)) (sym (put_same m.pointer p k)))
            (λ d e.
            M.last_writes q u e ue ∙ sym (last_unlabelled m p v x q u (λ z. d z.0))
            ∙ ap (λ (z : ℕ). max z (last_labelled (append m p v x).channel q u)) (sym (put_other m.pointer p k q d))) qe;
        row_count = length-set rows p new ∙ M.row_count;
        row_length = λ q l. row_each (λ q r. q < 4 → length r ≡ 5) rows p q new M.row_count (omega arith) (λ e. refl) (λ d e. M.row_length q e) l;
        low = λ q e. put_each (λ _ z. 1 ≤ z) m.pointer p k q (omega arith) (λ _. M.low q e);
        high = λ q e. put_each (λ _ z. z ≤ k) m.pointer p k q (omega arith) (λ _. omega (arith, M.high q e));
      })
    where
      k : ℕ
      k = suc (length m.channel)

      new : List ℕ
      new = suc n ∷ suc n ∷ suc n ∷ suc n ∷ suc n ∷ []

      -- no label is past the newest message
      highest : (u : ℕ) → max k (last_labelled (append m p v x).channel p u) ≡ k
      highest u =
          let r = last_is (append m p v x).channel k p u (omega arith) in
          omega (arith, r.low, r.high)

-- ---- the queues, after k steps

pub record QueuesHeld (S : Shape) (heads tails : List ℕ) (a : List ℕ) (k : ℕ) (Q : ℕ → ℕ → List ℕ) : Type 0 where
  pub values : (p v : ℕ) → p < S.processes → v < S.variables
      → table_from (waiting_at a (4 * p + v)) (get_or heads (4 * p + v) 0) (get_or tails (4 * p + v) 0 - get_or heads (4 * p + v) 0) ≡ Q p v
  pub head_count : length heads ≡ 16
  pub tail_count : length tails ≡ 16
  pub order : (q : ℕ) → get_or heads q 0 ≤ get_or tails q 0
  pub most : (q : ℕ) → get_or tails q 0 ≤ k

pub table_same : (g h : ℕ → ℕ) (i n : ℕ) → ((j : ℕ) → i ≤ j → j < i + n → g j ≡ h j) → table_from g i n ≡ table_from h i n
table_same g h i zero e = refl
table_same g h i (suc n) e = ap₂ (λ (x : ℕ) (xs : List ℕ). x ∷ xs) (e i (omega arith) (omega arith)) (table_same g h (suc i) n (λ j l m. e j (omega arith) (omega arith)))

table_more : (g : ℕ → ℕ) (i n : ℕ) → table_from g i (suc n) ≡ table_from g i n ++ (g (i + n) ∷ [])
table_more g i zero = ap (λ (j : ℕ). g j ∷ []) (omega arith)
table_more g i (suc n) = ap (λ (xs : List ℕ). g i ∷ xs) (table_more g (suc i) n ∙ ap (λ (j : ℕ). table_from g (suc i) n ++ (g j ∷ [])) (omega arith))

pub queues_area : {S : Shape} {heads tails a b : List ℕ} {k : ℕ} {Q : ℕ → ℕ → List ℕ} → QueuesHeld S heads tails a k Q
    → ((q j : ℕ) → waiting_at b q j ≡ waiting_at a q j) → QueuesHeld S heads tails b (suc k) Q
queues_area {S} {heads} {tails} {a} {b} H e =
    record {
      values = λ p v pe ve.
          table_same (waiting_at b (4 * p + v)) (waiting_at a (4 * p + v)) (get_or heads (4 * p + v) 0) (get_or tails (4 * p + v) 0 - get_or heads (4 * p + v) 0) (λ j l m. e (4 * p + v) j)
          ∙ H.values p v pe ve;
      head_count = H.head_count;
      tail_count = H.tail_count;
      order = H.order;
      most = λ q. omega (arith, H.most q);
    }

-- a number of the array that goes up by one
advanced_is : (xs : List ℕ) (p v : ℕ) → p < 4 → v < 4 → get_or xs (4 * p + v) 0 < 65535 → advanced xs p v ≡ set xs (4 * p + v) (suc (get_or xs (4 * p + v) 0))
unfolding advanced
advanced_is xs p v a b l = rw (queue_is p v a b) (ap (set xs (4 * p + v)) (next_is (get_or xs (4 * p + v) 0) l))

number_each {κ} : (F : ℕ → ℕ → Type κ) (xs : List ℕ) (i q x : ℕ) → i < length xs → F i x → (q ≢ i → F q (get_or xs q 0)) → F q (get_or (set xs i x) q 0)
number_each F xs i q x l here other = elim (ℕ_discrete q i) [
  | yes d ↦ subst (λ (z : ℕ). F z (get_or (set xs i x) z 0)) (sym d) (subst (F i) (sym (get_or-set_same xs i x 0 l)) here)
  | no d ↦ subst (F q) (sym (get_or-set_other xs i q x 0 d)) (other d)
]

module _ (S : Shape) (pl : S.processes ≤ 4) (vl : S.variables ≤ 4) (heads tails a : List ℕ) (k : ℕ) (Q : ℕ → ℕ → List ℕ) (H : QueuesHeld S heads tails a k Q)
    (few : k < 1024) (p v : ℕ) (pe : p < S.processes) (ve : v < S.variables) where
  q₀ : ℕ
  q₀ = 4 * p + v

  other_queue : (r u : ℕ) → u < S.variables → ((r ≡ p) × (u ≡ v) → ⊥) → 4 * r + u ≢ 4 * p + v
  other_queue r u ue n e = n (omega arith, omega arith)

  -- a value joins the end
  pub queues_push : (x : ℕ) → x < 16 → length a ≡ 16384
      → QueuesHeld S heads (advanced tails p v) (put_waiting a (queue_number p v) (get_or tails (queue_number p v) 0) x) (suc k) (put_queue Q p v (Q p v ++ (x ∷ [])))
  queues_push x xl room =
      rw (queue_is p v (omega arith) (omega arith), advanced_is tails p v (omega arith) (omega arith) (omega (arith, H.most (4 * p + v))))
      (record {
        values = λ r u re ue. put_queue_each Q p v (Q p v ++ (x ∷ [])) (λ r u xs. r < S.processes → u < S.variables → table_from (waiting_at b (4 * r + u)) (get_or heads (4 * r + u) 0) (get_or new (4 * r + u) 0 - get_or heads (4 * r + u) 0) ≡ xs) r u
            (λ _ _. joined)
            (λ n re ue.
            rw (get_or-set_other tails (4 * p + v) (4 * r + u) (suc t) 0 (other_queue r u ue n))
            (table_same (waiting_at b (4 * r + u)) (waiting_at a (4 * r + u)) (get_or heads (4 * r + u) 0) (get_or tails (4 * r + u) 0 - get_or heads (4 * r + u) 0) (λ j l m.
            waiting_other a (4 * p + v) t x (omega arith) (omega (arith, H.most (4 * p + v))) room (4 * r + u) j (other_queue r u ue n) (omega (arith, H.most (4 * r + u), H.order (4 * r + u))))
            ∙ H.values r u re ue)) re ue;
        head_count = H.head_count;
        tail_count = length-set tails (4 * p + v) (suc t) ∙ H.tail_count;
        order = λ q. number_each (λ q z. get_or heads q 0 ≤ z) tails (4 * p + v) q (suc t) (omega (arith, H.tail_count)) (omega (arith, H.order (4 * p + v))) (λ _. H.order q);
        most = λ q. number_each (λ q z. z ≤ suc k) tails (4 * p + v) q (suc t) (omega (arith, H.tail_count)) (omega (arith, H.most (4 * p + v))) (λ _. omega (arith, H.most q));
      })
    where
      t : ℕ
      t = get_or tails (4 * p + v) 0

      h : ℕ
      h = get_or heads (4 * p + v) 0

      b : List ℕ
      b = put_waiting a (4 * p + v) t x

      new : List ℕ
      new = set tails (4 * p + v) (suc t)

      joined : table_from (waiting_at b (4 * p + v)) h (get_or new (4 * p + v) 0 - h) ≡ Q p v ++ (x ∷ [])
      joined =
          let e : get_or new (4 * p + v) 0 - h ≡ suc (t - h) =
          ap (λ (z : ℕ). z - h) (get_or-set_same tails (4 * p + v) (suc t) 0 (omega (arith, H.tail_count))) ∙ omega (arith, H.order (4 * p + v)) in
          let z : h + (t - h) ≡ t = omega (arith, H.order (4 * p + v)) in
          ap (table_from (waiting_at b (4 * p + v)) h) e ∙ table_more (waiting_at b (4 * p + v)) h (t - h)
          ∙ ap₂ (λ (xs : List ℕ) (y : ℕ). xs ++ (y ∷ []))
          (table_same (waiting_at b (4 * p + v)) (waiting_at a (4 * p + v)) h (t - h) (λ j l m.
          waiting_before a (4 * p + v) t x (omega arith) (omega (arith, H.most (4 * p + v))) room j (omega arith))
          ∙ H.values p v pe ve)
          (ap (waiting_at b (4 * p + v)) z ∙ waiting_same a (4 * p + v) t x (omega arith) (omega (arith, H.most (4 * p + v))) room xl)

  -- the oldest value leaves
  pub queues_pop : (b : List ℕ) → ((q j : ℕ) → waiting_at b q j ≡ waiting_at a q j) → get_or heads (4 * p + v) 0 < get_or tails (4 * p + v) 0
      → QueuesHeld S (advanced heads p v) tails b (suc k) (put_queue Q p v (without_oldest (Q p v)))
  queues_pop b same some =
      rw (advanced_is heads p v (omega arith) (omega arith) (omega (arith, H.most (4 * p + v))))
      (record {
        values = λ r u re ue. put_queue_each Q p v (without_oldest (Q p v)) (λ r u xs. r < S.processes → u < S.variables → table_from (waiting_at b (4 * r + u)) (get_or new (4 * r + u) 0) (get_or tails (4 * r + u) 0 - get_or new (4 * r + u) 0) ≡ xs) r u
            (λ _ _. left)
            (λ n re ue.
            rw (get_or-set_other heads (4 * p + v) (4 * r + u) (suc h) 0 (other_queue r u ue n))
            (table_same (waiting_at b (4 * r + u)) (waiting_at a (4 * r + u)) (get_or heads (4 * r + u) 0) (get_or tails (4 * r + u) 0 - get_or heads (4 * r + u) 0) (λ j l m. same (4 * r + u) j)
            ∙ H.values r u re ue)) re ue;
        head_count = length-set heads (4 * p + v) (suc h) ∙ H.head_count;
        tail_count = H.tail_count;
        order = λ q. number_each (λ q z. z ≤ get_or tails q 0) heads (4 * p + v) q (suc h) (omega (arith, H.head_count)) (omega arith) (λ _. H.order q);
        most = λ q. omega (arith, H.most q);
      })
    where
      h : ℕ
      h = get_or heads (4 * p + v) 0

      t : ℕ
      t = get_or tails (4 * p + v) 0

      new : List ℕ
      new = set heads (4 * p + v) (suc h)

      oldest : without_oldest (table_from (waiting_at a (4 * p + v)) h (t - h)) ≡ table_from (waiting_at a (4 * p + v)) (suc h) (t - suc h)
      oldest = let e : t - h ≡ suc (t - suc h) = omega arith in ap (λ (n : ℕ). without_oldest (table_from (waiting_at a (4 * p + v)) h n)) e

      left : table_from (waiting_at b (4 * p + v)) (get_or new (4 * p + v) 0) (t - get_or new (4 * p + v) 0) ≡ without_oldest (Q p v)
      left =
          rw (get_or-set_same heads (4 * p + v) (suc h) 0 (omega (arith, H.head_count)))
          (table_same (waiting_at b (4 * p + v)) (waiting_at a (4 * p + v)) (suc h) (t - suc h) (λ j l m. same (4 * p + v) j)
          ∙ sym oldest ∙ ap without_oldest (H.values p v pe ve))
