-- The walk over the queues of a shape.
use Prim.Native.Nat.{ℕ, zero, suc, ◌+◌, ◌-◌, ◌*◌, ◌<◌, ◌≤◌}
use mathlib.Core.Path.{fun_ext, ◌≡◌, sym, ap, subst, ◌∙◌}
use mathlib.Core.List.{List, [], ◌∷◌, ◌++◌, map, append-nil, map-append}
use native.Mathlib.Omega.{arith}
use native.Mathlib.Numerals.{add-one}
use lib.ListN.{length, length-set}
use Rattle.machine_pws.specs.Machine.{Configuration, put_queue}
use Rattle.machine_pws.specs.Entries.{FF}
use Rattle.machine_pws.proofs.Facts.{put_queue_each}
use Rattle.file_records.specs.declared.program.Shape.{Shape}
use Rattle.file_contents.specs.declared.entry.Cube.{Cube}
use Rattle.file_contents.specs.Cube.{queue_of, configuration_of}
use Rattle.file_contents.proofs.CubeParts.{queue_put}
use Rattle.list_theory.specs.Lists.{for_each}
use Rattle.list_theory.specs.Shapes.{Outline, row_shapes, queue_shapes}
use Rattle.list_targets.specs.ShapeCube.{Roomy, empty_shape, one_free, with_waiting}
use Rattle.list_targets.specs.Walk.{row_from, rows_from, queues_from, with_queues, queue_cubes}
use Rattle.list_targets.proofs.ListLaws.{each_append, each_one, each_each, each_itself}

abbrev Queues : Type 0
Queues = ℕ → ℕ → List ℕ

row_split : (left p v w : ℕ) (q : Queues) → v + left ≡ w → row_shapes p w q ≡ for_each (row_shapes p v q) (row_from left p v)
row_split zero p v w q e = ap (λ (k : ℕ). row_shapes p k q) {x = w} {y = v} (omega arith) ∙ sym (each_itself (row_shapes p v q))
row_split (suc left) p v w q e =
    row_split left p (suc v) w q (omega arith)
    ∙ each_each (row_shapes p v q) (λ q. q ∷ put_queue q p v (FF ∷ []) ∷ []) (row_from left p (suc v))
    ∙ ap (for_each (row_shapes p v q)) (fun_ext (λ r. ap (◌++◌ (row_from left p (suc v) r)) (append-nil (row_from left p (suc v) (put_queue r p v (FF ∷ []))))))

row_all : (p variables : ℕ) (q : Queues) → row_shapes p variables q ≡ row_from variables p 0 q
row_all p variables q = row_split variables p 0 variables q (omega arith) ∙ each_one q (row_from variables p 0)

rows_split : (rows variables p w : ℕ) → p + rows ≡ w → queue_shapes w variables ≡ for_each (queue_shapes p variables) (rows_from variables rows p)
rows_split zero variables p w e = ap (λ (k : ℕ). queue_shapes k variables) {x = w} {y = p} (omega arith) ∙ sym (each_itself (queue_shapes p variables))
rows_split (suc rows) variables p w e =
    rows_split rows variables (suc p) w (omega arith)
    ∙ each_each (queue_shapes p variables) (row_shapes p variables) (rows_from variables rows (suc p))
    ∙ ap (for_each (queue_shapes p variables)) (fun_ext (λ q. ap (λ (xs : List Queues). for_each xs (rows_from variables rows (suc p))) (row_all p variables q)))

abbrev none : Queues
none p v = []

module _ (s : Shape) where
  abbrev rest : ℕ → Queues → List Queues
  rest p = rows_from s.variables (s.processes - suc p) (suc p)

  queues_all : 1 ≤ s.processes → queue_shapes s.processes s.variables ≡ queues_from s 0 0 none
  unfolding queues_from
  queues_all l =
      rows_split s.processes s.variables 0 s.processes (omega arith)
      ∙ each_one none (rows_from s.variables s.processes 0)
      ∙ ap (λ (k : ℕ). rows_from s.variables k 0 none) {x = s.processes} {y = suc (s.processes - 1)} (omega arith)
      ∙ ap (λ (k : ℕ). for_each (row_from k 0 0 none) (rest 0)) {x = s.variables} {y = s.variables - 0} (omega arith)

  queue_branch : (p v : ℕ) (q : Queues) → v < s.variables → queues_from s p v q ≡ queues_from s p (v + 1) q ++ queues_from s p (v + 1) (put_queue q p v (FF ∷ []))
  unfolding queues_from
  queue_branch p v q l =
      ap (λ (k : ℕ). for_each (row_from k p v q) (rest p)) {x = s.variables - v} {y = suc (s.variables - suc v)} (omega arith)
      ∙ each_append (row_from (s.variables - suc v) p (suc v) q) (row_from (s.variables - suc v) p (suc v) (put_queue q p v (FF ∷ []))) (rest p)
      ∙ ap (λ (k : ℕ). for_each (row_from (s.variables - k) p k q) (rest p) ++ for_each (row_from (s.variables - k) p k (put_queue q p v (FF ∷ []))) (rest p)) (sym (add-one v))

  queue_row : (p v : ℕ) (q : Queues) → s.variables ≤ v → p + 1 < s.processes → queues_from s p v q ≡ queues_from s (p + 1) 0 q
  unfolding queues_from
  queue_row p v q l m =
      ap (λ (k : ℕ). for_each (row_from k p v q) (rest p)) {x = s.variables - v} {y = 0} (omega arith)
      ∙ each_one q (rest p)
      ∙ ap (λ (k : ℕ). rows_from s.variables k (suc p) q) {x = s.processes - suc p} {y = suc (s.processes - suc (suc p))} (omega arith)
      ∙ ap (λ (k : ℕ). for_each (row_from k (suc p) 0 q) (rest (suc p))) {x = s.variables} {y = s.variables - 0} (omega arith)
      ∙ ap (λ (k : ℕ). for_each (row_from (s.variables - 0) k 0 q) (rest k)) (sym (add-one p))

  queue_end : (p v : ℕ) (q : Queues) → s.variables ≤ v → s.processes ≤ p + 1 → queues_from s p v q ≡ q ∷ []
  unfolding queues_from
  queue_end p v q l m =
      ap (λ (k : ℕ). for_each (row_from k p v q) (rest p)) {x = s.variables - v} {y = 0} (omega arith)
      ∙ each_one q (rest p)
      ∙ ap (λ (k : ℕ). rows_from s.variables k (suc p) q) {x = s.processes - suc p} {y = 0} (omega arith)

  -- ---- as cubes

  pub cubes_branch : (c : Cube) (p v : ℕ) → p < 4 → v < 4 → length c.queues ≡ 16 → v < s.variables
      → queue_cubes s (configuration_of c) p v ≡ queue_cubes s (configuration_of c) p (v + 1) ++ queue_cubes s (configuration_of (with_waiting c p v)) p (v + 1)
  unfolding queue_cubes
  cubes_branch c p v a b n l =
      ap (map (with_queues (configuration_of c))) (queue_branch p v (queue_of c.queues) l)
      ∙ map-append (with_queues (configuration_of c)) (queues_from s p (v + 1) (queue_of c.queues)) (queues_from s p (v + 1) (put_queue (queue_of c.queues) p v (FF ∷ [])))
      ∙ ap (λ (q : Queues). map (with_queues (configuration_of c)) (queues_from s p (v + 1) (queue_of c.queues)) ++ map (with_queues (configuration_of c)) (queues_from s p (v + 1) q))
      (sym (queue_put c.queues p v one_free a b n))

  pub cubes_row : (c : Configuration) (p v : ℕ) → s.variables ≤ v → p + 1 < s.processes → queue_cubes s c p v ≡ queue_cubes s c (p + 1) 0
  unfolding queue_cubes
  cubes_row c p v l m = ap (map (with_queues c)) (queue_row p v c.queue l m)

  pub cubes_end : (c : Cube) (p v : ℕ) → s.variables ≤ v → s.processes ≤ p + 1 → queue_cubes s (configuration_of c) p v ≡ configuration_of c ∷ []
  unfolding queue_cubes
  cubes_end c p v l m = ap (map (with_queues (configuration_of c))) (queue_end p v (queue_of c.queues) l m)

  pub cubes_all : (states : List ℕ) (o : Outline) (c : Configuration) → 1 ≤ s.processes → c ≡ empty_shape s states o
      → map (with_queues (empty_shape s states o)) (queue_shapes s.processes s.variables) ≡ queue_cubes s c 0 0
  unfolding queue_cubes
  cubes_all states o c l e = ap (map (with_queues (empty_shape s states o))) (queues_all l) ∙ ap (λ (x : Configuration). map (with_queues x) (queues_from s 0 0 x.queue)) (sym e)

-- ---- there is room

pub roomy_waiting : (c : Cube) (p v : ℕ) → p < 4 → v < 4 → Roomy c → Roomy (with_waiting c p v)
roomy_waiting c p v a b r =
    record {
      queues = length-set c.queues (4 * p + v) one_free ∙ r.queues;
      messages = r.messages;
      waiting = λ q u. subst (λ (qs : Queues). length (qs q u) ≤ 9) (sym (queue_put c.queues p v one_free a b r.queues))
          (put_queue_each (queue_of c.queues) p v (FF ∷ []) (λ q u xs. length xs ≤ 9) q u (omega arith) (λ d. r.waiting q u));
    }
