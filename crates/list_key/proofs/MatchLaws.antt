-- A match is three tests: states, queues, messages with their roles.
use Prim.Native.Nat.{ℕ, ◌+◌, ◌*◌, ◌<◌, min}
use mathlib.Core.Path.{◌≡◌, sym, ap, ap₂, ◌∙◌}
use mathlib.Core.Bool.{Bool, true, false, ◌&&◌}
use mathlib.Core.List.{List}
use native.Mathlib.Omega.{arith}
use lib.ListN.{get_or}
use lib.Dec.{eqb}
use Rattle.machine_pws.specs.Machine.{all_below}
use Rattle.file_records.specs.declared.program.Shape.{Shape}
use Rattle.file_contents.specs.declared.entry.Queue.{Queue}
use Rattle.file_contents.specs.declared.entry.Cube.{Cube}
use Rattle.file_records.specs.ProgramPart.{shape_of}
use Rattle.file_contents.specs.Cube.{no_queue, waiting_of, configuration_of}
use Rattle.file_contents.proofs.CubeParts.{queue_of_lem}
use Rattle.list_theory.specs.Matching.{queue_matches, matches}
use Rattle.list_key.specs.Relation.{relation}
use Rattle.list_key.specs.Match.{Sizes, queue_row, channel_matches}
use Rattle.base.proofs.Tests.{and_false, all_equal}

-- ---- the queues of process p

abbrev pub queue_test : Bool → List Queue → List Queue → ℕ → ℕ → Bool
queue_test exact a b p v = queue_matches (relation exact) (waiting_of (get_or a (4 * p + v) no_queue)) (waiting_of (get_or b (4 * p + v) no_queue))

-- ---- the three tests

module _ (exact : Bool) (s : Shape) (a b : Cube) (z : Sizes s a b) where
  few_is : min s.processes 4 ≡ s.processes
  few_is = let x = z.processes in omega arith

  narrow_is : min s.variables 4 ≡ s.variables
  narrow_is = let x = z.variables in omega arith

  states_is : all_below (min s.processes 4) (λ p. eqb (get_or a.states p 0) (get_or b.states p 0))
      ≡ all_below s.processes (λ p. eqb ((configuration_of a).state p) ((configuration_of b).state p))
  states_is = ap (λ (n : ℕ). all_below n (λ p. eqb (get_or a.states p 0) (get_or b.states p 0))) few_is

  row_is : (p : ℕ) → p < s.processes
      → queue_row s.variables exact a.queues b.queues p
      ≡ all_below s.variables (λ v. queue_matches (relation exact) ((configuration_of a).queue p v) ((configuration_of b).queue p v))
  unfolding queue_row
  row_is p l =
      let x = z.processes in
      let y = z.variables in
      ap (λ (n : ℕ). all_below n (λ v. queue_matches (relation exact) (waiting_of (get_or a.queues (4 * p + v) no_queue)) (waiting_of (get_or b.queues (4 * p + v) no_queue)))) narrow_is
      ∙ all_equal s.variables (λ v. queue_matches (relation exact) (waiting_of (get_or a.queues (4 * p + v) no_queue)) (waiting_of (get_or b.queues (4 * p + v) no_queue)))
      (λ v. queue_matches (relation exact) ((configuration_of a).queue p v) ((configuration_of b).queue p v))
      (λ v k. ap₂ (queue_matches (relation exact)) (sym (queue_of_lem a.queues p v (omega arith) (omega arith))) (sym (queue_of_lem b.queues p v (omega arith) (omega arith))))

  queues_is : all_below (min s.processes 4) (queue_row s.variables exact a.queues b.queues)
      ≡ all_below s.processes (λ p. all_below s.variables (λ v. queue_matches (relation exact) ((configuration_of a).queue p v) ((configuration_of b).queue p v)))
  queues_is =
      ap (λ (n : ℕ). all_below n (queue_row s.variables exact a.queues b.queues)) few_is
      ∙ all_equal s.processes (queue_row s.variables exact a.queues b.queues)
      (λ p. all_below s.variables (λ v. queue_matches (relation exact) ((configuration_of a).queue p v) ((configuration_of b).queue p v))) row_is

  three_tests : (all_below (min s.processes 4) (λ p. eqb (get_or a.states p 0) (get_or b.states p 0))
      && all_below (min s.processes 4) (queue_row s.variables exact a.queues b.queues))
      && channel_matches s exact a b
      ≡ matches (shape_of s) (relation exact) (configuration_of a) (configuration_of b)
  unfolding channel_matches
  three_tests = ap₂ (λ (x y : Bool). (x && y) && channel_matches s exact a b) states_is queues_is

  pub queues_unlike : {y : Bool} → y ≡ all_below (min s.processes 4) (queue_row s.variables exact a.queues b.queues) → y ≡ false
      → false ≡ matches (shape_of s) (relation exact) (configuration_of a) (configuration_of b)
  queues_unlike f h =
      sym (ap (λ (k : Bool). k && channel_matches s exact a b) (and_false (all_below (min s.processes 4) (λ p. eqb (get_or a.states p 0) (get_or b.states p 0)))))
      ∙ ap (λ (k : Bool). (all_below (min s.processes 4) (λ p. eqb (get_or a.states p 0) (get_or b.states p 0)) && k) && channel_matches s exact a b) (sym h ∙ f)
      ∙ three_tests

  module _ {x : Bool}
      (e : x ≡ all_below (min s.processes 4) (λ p. eqb (get_or a.states p 0) (get_or b.states p 0)))
    where
      pub states_fail : x ≡ false → false ≡ matches (shape_of s) (relation exact) (configuration_of a) (configuration_of b)
      states_fail g =
          ap (λ (k : Bool). (k && all_below (min s.processes 4) (queue_row s.variables exact a.queues b.queues)) && channel_matches s exact a b) (sym g ∙ e)
          ∙ three_tests

      module _ {y : Bool} (f : y ≡ all_below (min s.processes 4) (queue_row s.variables exact a.queues b.queues)) where
        pub channel_left : {c : Bool} → x ≡ true → y ≡ true → c ≡ channel_matches s exact a b → c ≡ matches (shape_of s) (relation exact) (configuration_of a) (configuration_of b)
        channel_left g h w = w ∙ ap₂ (λ (k l : Bool). (k && l) && channel_matches s exact a b) (sym g ∙ e) (sym h ∙ f) ∙ three_tests
