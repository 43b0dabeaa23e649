-- The reader's loops, turn by turn.
use Prim.Native.Nat.{ℕ, suc, ◌+◌, ◌-◌, ◌*◌, ◌<◌, ◌≤◌}
use mathlib.Core.Path.{◌≡◌, refl, sym, ap, subst, ◌∙◌}
use mathlib.Core.Bool.{true, false}
use mathlib.Core.List.{List, [], ◌∷◌, ◌++◌}
use native.Mathlib.Omega.{arith}
use lib.ListN.{length, length-append}
use Rattle.machine_pws.specs.declared.Step.{Step}
use Rattle.machine_pws.specs.declared.Step.TheVariants.{Take, Serialise, Update}
use Rattle.std.specs.Prelude.{Result, Ok, Err, IsOk}
use Rattle.std.proofs.Common.{rules}
use Rattle.drawing.specs.declared.word.Outside.{Outside}
use Rattle.drawing.specs.declared.label.Edge.{Edge}
use Rattle.drawing.specs.Text.{node_line}
use Rattle.drawing.specs.Runs.{StepInRange, record_of, records_of}
use Rattle.drawing.specs.Parts.{placed, Put, edge_head}
use Rattle.drawing.specs.Accepted.{Reading, run, place}
use Rattle.drawing.specs.Reading.{has_byte, expect_at, edge_at, step_then, edges_at, nodes_at, size_after, end_size, steps_in, Readable, stuck, edge_of, nodes_of}
use Rattle.drawing.proofs.WordLaws.{word_was, stands_within}
use Rattle.drawing.proofs.EdgeLaws.{run_place, run_same, closing, EdgeCase, edge_case, edge_was, edges_edge, edges_none, edges_end, edges_were}
use Rattle.drawing.proofs.NodeLaws.{other, edges, broken, next, nodes_is}
use Rattle.drawing.proofs.RowLaws.{Partly, partly_begin, partly_room, partly_next, partly_end}

pub head_within : (t : List ℕ) (at k a : ℕ) → expect_at t at (edge_head k) ≡ Ok a → a ≤ length t
unfolding edge_head
head_within t at k a e = stands_within t (word_was t at (edge_head k) a e)

pub record_short : (s : Step) → length (record_of s) ≤ 3
record_short (Take n) = omega arith
record_short (Serialise p v) = omega arith
record_short (Update p) = omega arith

-- ---- the size

size_after_lem : (n : ℕ) (s : Step) (r : Reading) → size_after n (step_then s r) ≡ size_after (n + length (record_of s)) r
unfolding records_of
size_after_lem n s (run ss) =
    let e : n + length (record_of s ++ records_of ss) ≡ n + length (record_of s) + length (records_of ss) = omega (arith, length-append (record_of s) (records_of ss)) in
    ap Ok e
size_after_lem n s (place p) = refl

pub record Sizing (t : List ℕ) (start n at total k : ℕ) : Type 0 where
  pub few : n ≤ 1024
  pub most : k ≤ n
  pub small : total ≤ 3 * k
  pub same : size_after total (edges_at (n - k) t at k) ≡ size_after 0 (edges_at n t start 0)

pub size_begin : (t : List ℕ) (start n : ℕ) → n ≤ 1024 → Sizing t start n start 0 0
size_begin t start n l =
    let z : n - 0 ≡ n = omega arith in
    record { few = l; most = omega arith; small = omega arith; same = ap (λ (m : ℕ). size_after 0 (edges_at m t start 0)) z }

module _ {t : List ℕ} {start n at total k : ℕ} (p : Sizing t start n at total k) where
  size_one : k < n → size_after total (edges_at (suc (n - (k + 1))) t at k) ≡ size_after 0 (edges_at n t start 0)
  size_one l = let z : suc (n - (k + 1)) ≡ n - k = omega arith in ap (λ (m : ℕ). size_after total (edges_at m t at k)) z ∙ p.same

  pub size_next : (s : Step) (a size : ℕ) → k < n → edge_at t at k ≡ edge_of s a → size ≡ length (record_of s) → Sizing t start n a (total + size) (k + 1)
  size_next s a size l e d =
      record {
        few = p.few;
        most = omega arith;
        small = omega (arith, p.small, record_short s);
        same =
            ap (λ (m : ℕ). size_after (total + m) (edges_at (n - (k + 1)) t a (k + 1))) d
            ∙ sym (size_after_lem total s (edges_at (n - (k + 1)) t a (k + 1)))
            ∙ sym (ap (size_after total) (edges_edge t (n - (k + 1)) at k e))
            ∙ size_one l;
      }

  pub size_stop : (q : ℕ) → k < n → edge_at t at k ≡ stuck q → stuck q ≡ size_after 0 (edges_at n t start 0)
  size_stop q l e = sym (ap (size_after total) (edges_none t (n - (k + 1)) at k e)) ∙ size_one l

  pub size_end : n ≤ k → end_size t at total ≡ size_after 0 (edges_at n t start 0)
  unfolding end_size closing
  size_end l =
      let z : n - k ≡ 0 = omega (arith, p.most) in
      sym (ap (λ (m : ℕ). size_after total (edges_at m t at k)) z ∙ ap (size_after total) (edges_end t at k)) ∙ p.same

-- ---- the records

after_run : (s : Step) (r : Reading) (ss : List Step) → step_then s r ≡ run ss → (r ≡ run (steps_in r)) × (ss ≡ s ∷ steps_in r)
after_run s (run rs) ss e = (refl, sym (run_same e))
after_run s (place p) ss e = absurd (run_place (sym e))

pub record Storing (old t : List ℕ) (start n : ℕ) (new : List ℕ) (at to k : ℕ) : Type 0 where
  pub few : n ≤ 1024
  pub most : k ≤ n
  pub steps : List Step
  pub reads : edges_at (n - k) t at k ≡ run steps
  pub partly : Partly old 0 (records_of (steps_in (edges_at n t start 0))) new to (records_of steps)

pub store_begin : (old t : List ℕ) (start n : ℕ) → Readable t start n (length old) → Storing old t start n old start 0 0
store_begin old t start n r =
    let z : n - 0 ≡ n = omega arith in
    let w : List ℕ = records_of (steps_in (edges_at n t start 0)) in
    record {
      few = r.few;
      most = omega arith;
      steps = steps_in (edges_at n t start 0);
      reads = ap (λ (m : ℕ). edges_at m t start 0) z ∙ r.reads;
      partly = partly_begin old 0 w (omega (arith, r.enough));
    }

module _ {old t : List ℕ} {start n : ℕ} {new : List ℕ} {at to k : ℕ} (p : Storing old t start n new at to k) where
  store_one : k < n → edges_at (suc (n - (k + 1))) t at k ≡ run p.steps
  store_one l = let z : suc (n - (k + 1)) ≡ n - k = omega arith in ap (λ (m : ℕ). edges_at m t at k) z ∙ p.reads

  store_never : (q : ℕ) → k < n → edge_at t at k ≡ stuck q → ⊥
  store_never q l e = run_place (sym (store_one l) ∙ edges_none t (n - (k + 1)) at k e)

  pub store_reads : k < n → IsOk (edge_at t at k)
  store_reads l = go (edge_at t at k) refl
    where
      go : (r : Result Edge Outside) → edge_at t at k ≡ r → IsOk r
      go (Ok x) e = search rules
      go (Err o) e = absurd (store_never o.place l e)

  store_split : (s : Step) (a : ℕ) → k < n → edge_at t at k ≡ edge_of s a
      → (edges_at (n - (k + 1)) t a (k + 1) ≡ run (steps_in (edges_at (n - (k + 1)) t a (k + 1))))
      × (p.steps ≡ s ∷ steps_in (edges_at (n - (k + 1)) t a (k + 1)))
  store_split s a l e =
      after_run s (edges_at (n - (k + 1)) t a (k + 1)) p.steps (sym (edges_edge t (n - (k + 1)) at k e) ∙ store_one l)

  store_records : (s : Step) (a : ℕ) → k < n → edge_at t at k ≡ edge_of s a
      → records_of p.steps ≡ record_of s ++ records_of (steps_in (edges_at (n - (k + 1)) t a (k + 1)))
  unfolding records_of
  store_records s a l e = ap records_of (store_split s a l e).1

  pub store_range : (s : Step) (a : ℕ) → edge_at t at k ≡ edge_of s a → StepInRange s
  store_range s a e = (edge_was t at k (subst (EdgeCase t at k) e (edge_case t at k))).0

  pub store_room : (s : Step) (a : ℕ) → k < n → edge_at t at k ≡ edge_of s a → to + length (record_of s) ≤ length new
  store_room s a l e =
      let rest : List ℕ = records_of (steps_in (edges_at (n - (k + 1)) t a (k + 1))) in
      omega (arith, partly_room p.partly, ap length (store_records s a l e), length-append (record_of s) rest)

  pub store_next : {newer : List ℕ} {next : ℕ} (s : Step) (a : ℕ) → k < n → edge_at t at k ≡ edge_of s a → Put new newer to next (record_of s)
      → Storing old t start n newer a next (k + 1)
  store_next s a l e q =
      record {
        few = p.few;
        most = omega arith;
        steps = steps_in (edges_at (n - (k + 1)) t a (k + 1));
        reads = (store_split s a l e).0;
        partly = partly_next p.partly (store_records s a l e) q;
      }

  pub store_end : n ≤ k → new ≡ placed old 0 (records_of (steps_in (edges_at n t start 0)))
  unfolding records_of
  store_end l =
      let z : n - k ≡ 0 = omega (arith, p.most) in
      let w = edges_were t 0 at k p.steps (ap (λ (m : ℕ). edges_at m t at k) (sym z) ∙ p.reads) in
      (partly_end p.partly (ap records_of (empty p.steps w.count))).is
    where
      empty : (ss : List Step) → length ss ≡ 0 → ss ≡ []
      empty [] e = refl
      empty (s ∷ ss) e = absurd (omega arith)

-- ---- the nodes

pub record Scanning (t : List ℕ) (start at n : ℕ) : Type 0 where
  pub some : 1 ≤ n
  pub most : n ≤ 1024
  pub same : nodes_at (1024 - n) t at n ≡ nodes_at 1023 t start 1

module _ {t : List ℕ} {start at n : ℕ} (p : Scanning t start at n) (l : n < 1024) where
  scan_one : nodes_at (suc (1024 - (n + 1))) t at n ≡ nodes_at 1023 t start 1
  scan_one = let z : suc (1024 - (n + 1)) ≡ 1024 - n = omega arith in ap (λ (m : ℕ). nodes_at m t at n) z ∙ p.same

  pub scan_other : has_byte t at 99 ≡ false → stuck at ≡ nodes_at 1023 t start 1
  scan_other h = sym (nodes_is t (1024 - (n + 1)) at n (other h)) ∙ scan_one

  pub scan_edges : has_byte t at 99 ≡ true → has_byte t (at + 1) 48 ≡ true → nodes_of n at ≡ nodes_at 1023 t start 1
  scan_edges h i = sym (nodes_is t (1024 - (n + 1)) at n (edges h i)) ∙ scan_one

  pub scan_broken : (q : ℕ) → has_byte t at 99 ≡ true → has_byte t (at + 1) 48 ≡ false → expect_at t at (node_line (n + 1)) ≡ stuck q
      → stuck q ≡ nodes_at 1023 t start 1
  scan_broken q h i j = sym (nodes_is t (1024 - (n + 1)) at n (broken h i j)) ∙ scan_one

  pub scan_next : (a : ℕ) → has_byte t at 99 ≡ true → has_byte t (at + 1) 48 ≡ false → expect_at t at (node_line (n + 1)) ≡ Ok a → Scanning t start a (n + 1)
  scan_next a h i j =
      record { some = omega arith; most = omega arith; same = sym (nodes_is t (1024 - (n + 1)) at n (next h i j)) ∙ scan_one }

pub scan_end : {t : List ℕ} {start at n : ℕ} → Scanning t start at n → 1024 ≤ n → nodes_of n at ≡ nodes_at 1023 t start 1
unfolding nodes_at
scan_end {t} {start} {at} {n} p l =
    let z : 0 ≡ 1024 - n = omega arith in ap (λ (m : ℕ). nodes_at m t at n) z ∙ p.same
