-- What a program that was found fine comes to.
use Rattle.std.specs.Prelude.{Result, Ok, Err}
use Prim.Native.Nat.{ℕ, ◌+◌, ◌-◌, ◌*◌, ◌<◌, ◌≤◌}
use mathlib.Core.Path.{◌≡◌, refl, sym, ap, ◌∙◌}
use mathlib.Core.Bool.{Bool, true, false}
use mathlib.Core.List.{List, ◌++◌}
use native.Mathlib.Omega.{arith}
use native.Mathlib.Nat.{mul_comm, mul-le-mul}
use lib.ListN.{length, get_or, length-append}
use lib.Dec.{ltb}
use borrow.Author.Tests.{lt-ltb, le-ltb, ltb-false}
use Rattle.machine_pws.specs.Program as pws
use Rattle.file_records.specs.declared.program.Program.{Program}
use Rattle.file_records.specs.declared.program.Refusal.{Refusal}
use Rattle.file_records.specs.Records.{state_at}
use Rattle.file_records.specs.ProgramPart.{table_from, targets_of, whether, program_read}
use Rattle.file_again.proofs.Tables.{table_length}
use Rattle.drawing.specs.Writing.{made, refused}
use Rattle.register_machine.specs.Program.{RegisterProgram, has_register}
use Rattle.register_machine.specs.Written.{joined, pair_of, states_of, choices, becomes_in, written, target_becomes, written_targets}
use Rattle.register_program.specs.Form.{shape_record, states_record, transition_record, target_record, program_bytes}
use Rattle.register_program.specs.Reading.{register_program_of}
use Rattle.register_program.specs.Registers.{lowest_over, source_of, made_of, of_read, part_of, registers_of}
use Rattle.register_program.specs.Parts.{Found, registers_in, counted_of, product}
use Rattle.register_program.proofs.Joined.{joined_length}
use Rattle.register_program.proofs.Found.{found_read}
use Rattle.register_program.proofs.HasLaws.{has_all, no_register}
use Rattle.register_program.proofs.CountLaws.{states_most}
use Rattle.register_program.proofs.RecordLaws.{transition_eight}
use Rattle.register_program.proofs.TargetLaws.{choices_more, map_length, product_is}

pub bytes_length : (P : pws.Program) (ts : List (ℕ → ℕ))
    → length (program_bytes P ts) ≡ 7 + (3 * P.shape.processes + (8 * length P.transitions + 5 * length ts))
unfolding program_bytes
bytes_length P ts =
    let a = joined (states_record P) (table_from (λ p. p) 0 P.shape.processes) in
    let b = joined transition_record P.transitions in
    let c = joined target_record ts in
    omega (arith, length-append (shape_record P.shape) (a ++ (b ++ c)), length-append a (b ++ c), length-append b c, joined_length (states_record P) 3 (λ p. refl) (table_from (λ p. p) 0 P.shape.processes), table_length (λ (p : ℕ). p) 0 P.shape.processes, joined_length transition_record 8 transition_eight P.transitions, joined_length target_record 5 (λ t. refl) ts)

records_same : {m n : ℕ} → ◌≡◌ {A = Result ℕ Refusal} (Ok m) (Ok n) → m ≡ n
records_same e = cc

stopped_same : {r s : Refusal} → ◌≡◌ {A = Result ℕ Refusal} (Err r) (Err s) → r ≡ s
stopped_same e = cc

records_stopped : {n : ℕ} {r : Refusal} → ◌≡◌ {A = Result ℕ Refusal} (Ok n) (Err r) → ⊥
records_stopped e = let z : ◌≡◌ {A = ℕ} 0 1 = cc in omega arith

module _ {f : List ℕ} {p : Program} (F : Found f p) {has : List Bool} (e : has ≡ registers_in f p) where
  abbrev R : RegisterProgram
  R = register_program_of f p

  abbrev ts : List (ℕ → ℕ)
  ts = targets_of f p

  pub choice_count : length (choices R 0 p.shape.processes) ≡ product has
  choice_count =
      let few = (found_read F).shape.processes.1 in
      let m = p.shape.processes in
      let z : m + (4 - m) ≡ 4 = omega arith in
      ap length (choices_more R m (4 - m) 0 (λ q l. no_register F q (omega arith)) ∙ ap (choices R 0) z) ∙ product_is R has (has_all F e)

  pub target_count : length (written_targets R ts) ≡ p.targets.count * product has
  target_count =
      joined_length (target_becomes R) (length (choices R 0 p.shape.processes))
      (λ t. map_length R {A = ℕ → ℕ} {B = ℕ → ℕ} (λ registers q. pair_of (has_register R q) (t q) (registers q)) (choices R 0 p.shape.processes)) ts
      ∙ ap (λ (n : ℕ). n * length ts) choice_count
      ∙ ap (λ (n : ℕ). product has * n) (table_length (λ i. state_at f (p.targets.at + 5 * i)) 0 p.targets.count)
      ∙ mul_comm (product has) p.targets.count

  -- the bytes needed
  pub needed_bytes : (t m : ℕ) → t ≡ length (written R).transitions → m ≡ p.targets.count * product has
      → 7 + 3 * p.shape.processes + 8 * t + 5 * m ≡ length (program_bytes (written R) (written_targets R ts))
  needed_bytes t m d g = omega (arith, bytes_length (written R) (written_targets R ts), target_count)

  abbrev over : ℕ
  over = lowest_over (written R).states 0 p.shape.processes

  pub made_over : over < p.shape.processes → made_of R ts ≡ refused 19 over
  unfolding made_of
  made_over l = rw (lt-ltb over p.shape.processes l)

  pub made_many : p.shape.processes ≤ over → (r : Refusal) → counted_of R ≡ Err r → made_of R ts ≡ refused r.number r.place
  unfolding made_of counted_of
  made_many l r c = go (ltb 256 (length (written R).transitions)) refl
    where
      go : (b : Bool) → ltb 256 (length (written R).transitions) ≡ b → made_of R ts ≡ refused r.number r.place
      go true d =
          let s : record { number = 28; place = source_of (becomes_in R) R.transitions 256 } ≡ r = stopped_same (rw d at c) in
          rw (le-ltb over p.shape.processes l, d) (ap (λ (r : Refusal). refused r.number r.place) s)
      go false d = absurd (records_stopped (rw d at c))

  pub made_written : p.shape.processes ≤ over → (t : ℕ) → counted_of R ≡ Ok t
      → (made_of R ts ≡ made (program_bytes (written R) (written_targets R ts))) × (t ≡ length (written R).transitions) × (t ≤ 256)
  unfolding made_of counted_of
  made_written l t c = go (ltb 256 (length (written R).transitions)) refl
    where
      go : (b : Bool) → ltb 256 (length (written R).transitions) ≡ b
          → (made_of R ts ≡ made (program_bytes (written R) (written_targets R ts))) × (t ≡ length (written R).transitions) × (t ≤ 256)
      go true d = absurd (records_stopped (sym (rw d at c)))
      go false d =
          let s : length (written R).transitions ≡ t = records_same (rw d at c) in
          (rw (le-ltb over p.shape.processes l, d), sym s, omega (arith, s, ltb-false 256 (length (written R).transitions) d))

-- ---- bounds

pub product_most : (has : List Bool) → product has ≤ 256
product_most has =
    omega (arith, states_most (get_or has 0 false) (states_of (get_or has 1 false) (states_of (get_or has 2 false) (states_of (get_or has 3 false) 1))), states_most (get_or has 1 false) (states_of (get_or has 2 false) (states_of (get_or has 3 false) 1)), states_most (get_or has 2 false) (states_of (get_or has 3 false) 1), states_most (get_or has 3 false) 1)

pub targets_few : (m c : ℕ) → m ≤ 16 → c ≤ 256 → m * c ≤ 4096
targets_few m c a b = let h : m * c ≤ 16 * 256 = mul-le-mul a b in omega arith

-- ---- the whole file

pub registers_refused : (f : List ℕ) (r : Refusal) → whether (part_of f) ≡ Err r → registers_of f ≡ refused r.number r.place
unfolding registers_of
registers_refused f r e = ap (of_read f (program_read (part_of f))) e

pub registers_made : {f : List ℕ} {p : Program} → Found f p → registers_of f ≡ made_of (register_program_of f p) (targets_of f p)
unfolding registers_of
registers_made {f} {p} F =
    ap (of_read f (program_read (part_of f))) F.fine ∙ ap (λ (p : Program). made_of (register_program_of f p) (targets_of f p)) (sym F.same)
