-- The rows of the 02s, 03s and 04s, by the table of registers.
use Prim.Native.Nat.{ℕ, zero, suc, ◌+◌, ◌-◌, ◌*◌, ◌<◌, ◌≤◌}
use mathlib.Core.Path.{◌≡◌, refl, sym, ap, ◌∙◌}
use mathlib.Core.Bool.{Bool, false}
use mathlib.Core.List.{List, [], ◌∷◌, ◌++◌}
use native.Mathlib.Omega.{arith}
use native.Mathlib.Decide.{dec_lt}
use lib.ListN.{length, get_or, get_or-eq_default}
use Rattle.file_again.proofs.Tables.{of_four}
use Rattle.file_again.proofs.Names.{states_of_lem}
use Rattle.machine_pws.specs.declared.Transition.{Transition}
use Rattle.base.specs.Bytes.{byte}
use Rattle.file_records.specs.declared.program.Program.{Program}
use Rattle.file_records.specs.Records.{state_at}
use Rattle.file_records.specs.ProgramPart.{table_from, targets_of}
use Rattle.register_machine.specs.declared.RegisterTransition.{RegisterTransition}
use Rattle.register_machine.specs.Program.{has_register}
use Rattle.register_machine.specs.Written.{joined, pair_of, states_of, choices, written, target_becomes, written_targets}
use Rattle.register_program.specs.Form.{states_record, transition_record, target_record}
use Rattle.register_program.specs.Reading.{register_program_of}
use Rattle.register_program.specs.Parts.{Found, registers_in, chosen}
use Rattle.register_program.proofs.Joined.{joined_joined, joined_map}
use Rattle.register_program.proofs.Found.{found_read}
use Rattle.register_program.proofs.HasLaws.{has_all, has_function, expand, expand_is, no_register}
use Rattle.register_program.proofs.TargetLaws.{over_all, rows_chosen, choices_more, four_bytes}

abbrev pub states_row : List Bool → List ℕ → List ℕ → ℕ → List ℕ
states_row has states initial q = 2 ∷ states_of (get_or has q false) (get_or states q 0) ∷ pair_of (get_or has q false) (get_or initial q 0) 0 ∷ []

abbrev pub transition_rows : List Bool → RegisterTransition → List ℕ
transition_rows has t = joined transition_record (expand has t)

abbrev pub four_at : List ℕ → ℕ → List ℕ
four_at f k = byte f (k + 1) ∷ byte f (k + 2) ∷ byte f (k + 3) ∷ byte f (k + 4) ∷ []

abbrev pub target_rows : List Bool → List ℕ → ℕ → ℕ → List ℕ
target_rows has f k₀ i = chosen has (four_at f (k₀ + 5 * i)) 4 0 (λ q. 0)

-- a table of g, joined
of_table : {A : Type 0} (g : ℕ → A) (h : A → List ℕ) (i n : ℕ) → joined h (table_from g i n) ≡ joined (λ (j : ℕ). h (g j)) (table_from (λ j. j) i n)
of_table g h i zero = refl
of_table g h i (suc n) = ap (λ (l : List ℕ). h (g i) ++ l) (of_table g h (suc i) n)

module _ {f : List ℕ} {p : Program} (F : Found f p) {has : List Bool} (e : has ≡ registers_in f p) where
  pub states_rows : states_row has p.states p.initial ≡ states_record (written (register_program_of f p))
  states_rows =
      ap {A = ℕ → Bool} (λ h (q : ℕ). 2 ∷ states_of (h q) (get_or p.states q 0) ∷ pair_of (h q) (get_or p.initial q 0) 0 ∷ []) (has_function F e)

  pub transition_rows_lem : joined (transition_rows has) (register_program_of f p).transitions ≡ joined transition_record (written (register_program_of f p)).transitions
  transition_rows_lem =
      sym (joined_joined transition_record (expand has) (register_program_of f p).transitions)
      ∙ ap (λ (g : RegisterTransition → List Transition). joined transition_record (joined g (register_program_of f p).transitions)) (expand_is F e)

  abbrev m : ℕ
  m = p.shape.processes

  -- those that the target of the 04 at k becomes
  pub one_target : (k : ℕ) → joined target_record (target_becomes (register_program_of f p) (state_at f k)) ≡ chosen has (four_at f k) 4 0 (λ q. 0)
  one_target k =
      let R = register_program_of f p in
      let few = (found_read F).shape.processes.1 in
      let z : m + (4 - m) ≡ 4 = omega arith in
      ap (λ (t : ℕ → ℕ). joined target_record (target_becomes R t)) (four_bytes f k)
      ∙ joined_map target_record (λ (registers : ℕ → ℕ) (q : ℕ). pair_of (has_register R q) (get_or (four_at f k) q 0) (registers q)) (choices R 0 m)
      ∙ ap {A = List (ℕ → ℕ)} (joined (λ registers. target_record (λ q. pair_of (has_register R q) (get_or (four_at f k) q 0) (registers q))))
      (choices_more R m (4 - m) 0 (λ q l. no_register F q (omega arith)) ∙ ap (choices R 0) z)
      ∙ ap {A = ℕ → Bool} (λ h. joined (λ registers. target_record (λ q. pair_of (h q) (get_or (four_at f k) q 0) (registers q))) (choices R 0 4)) (sym (has_function F e))
      ∙ ap {A = (ℕ → ℕ) → ℕ → ℕ} (λ o. joined (λ registers. target_record (λ q. pair_of (get_or has q false) (get_or (four_at f k) q 0) (o registers q))) (choices R 0 4)) (sym over_all)
      ∙ rows_chosen R has (has_all F e) (four_at f k) 4 0 (λ q. 0) (λ q l. refl)

  pub target_rows_lem : joined (target_rows has f p.targets.at) (table_from (λ i. i) 0 p.targets.count)
      ≡ joined target_record (written_targets (register_program_of f p) (targets_of f p))
  target_rows_lem =
      let R = register_program_of f p in
      let rows : (λ (i : ℕ). joined target_record (target_becomes R (state_at f (p.targets.at + 5 * i)))) ≡ target_rows has f p.targets.at =
      λ j i. one_target (p.targets.at + 5 * i) j in
      ap {A = ℕ → List ℕ} (λ g. joined g (table_from (λ i. i) 0 p.targets.count)) (sym rows)
      ∙ sym (of_table (λ i. state_at f (p.targets.at + 5 * i)) (λ t. joined target_record (target_becomes R t)) 0 p.targets.count)
      ∙ sym (joined_joined target_record (target_becomes R) (targets_of f p))

  -- the states of a target
  pub target_low : (i : ℕ) → i < p.targets.count → (q : ℕ) → get_or (four_at f (p.targets.at + 5 * i)) q 0 < 32
  target_low i l q =
      let R = found_read F in
      let k = p.targets.at + 5 * i in
      let t = states_of_lem p.shape p.states (λ q. 0) [] f k R.shape.processes.1 (R.aims i l) in
      let e : state_at f k q ≡ get_or (four_at f k) q 0 = ap (λ (g : ℕ → ℕ). g q) (four_bytes f k) in
      elim (dec_lt q p.shape.processes) [
        | yes a ↦ omega (arith, e, t.exist q a, R.states q a)
        | no a ↦ omega (arith, e, t.absent q (omega arith))
      ]

-- four registers that are 0
abbrev pub zeros : List ℕ
zeros = 0 ∷ 0 ∷ 0 ∷ 0 ∷ []

pub zeros_at : (q : ℕ) → get_or zeros q 0 ≡ 0
zeros_at q = elim (dec_lt q 4) [
  | yes l ↦ of_four (λ (q : ℕ). get_or zeros q 0 ≡ 0) refl refl refl refl q l
  | no l ↦ let past : length zeros ≤ q = omega arith in get_or-eq_default zeros 0 past
]

pub chosen_start : (has : List Bool) (target : List ℕ) → chosen has target 4 0 (λ q. get_or zeros q 0) ≡ chosen has target 4 0 (λ q. 0)
chosen_start has target = ap (chosen has target 4 0) (λ i q. zeros_at q i)
