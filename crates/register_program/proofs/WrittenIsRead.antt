-- The bytes that are written are read, by the judge's own reader, as the program and the targets that are written.
use Rattle.std.specs.Prelude.{Result, Ok, Err, ⊤}
use Rattle.file_records.specs.declared.program.Refusal.{Refusal}
use Prim.Native.Nat.{ℕ, zero, suc, ◌+◌, ◌*◌, ◌<◌, ◌≤◌}
use mathlib.Core.Path.{◌≡◌, refl, sym, ap, ap₂, subst}
use mathlib.Core.Bool.{Bool, true, false, cond}
use mathlib.Core.List.{List, [], ◌∷◌, ◌++◌, map}
use native.Mathlib.Omega.{arith}
use native.Mathlib.Nat.{mul-le-mul}
use native.Mathlib.Decide.{dec_lt}
use lib.ListN.{length, get_or, get_or-eq_default}
use lib.Dec.{eqb, ltb}
use borrow.Author.Tests.{ltb-false}
use Rattle.machine_pws.specs.Program.{ShapeInRange}
use Rattle.machine_pws.specs.Machine.{put}
use Rattle.machine_pws.specs.Configurations.{StatesOf}
use Rattle.base.specs.Bytes.{byte, choose}
use Rattle.file_records.specs.declared.program.Program.{Program}
use Rattle.file_records.specs.declared.program.Shape.{Shape}
use Rattle.file_records.specs.Records.{value_count, state_at}
use Rattle.file_records.specs.ProgramPart.{table_from, targets_of, whether, program_read}
use Rattle.file_again.specs.Contents.{ProgramPartRead}
use Rattle.file_again.proofs.Tables.{table_length, table_number}
use Rattle.file_again.proofs.Names.{states_of_lem}
use Rattle.drawing.specs.Writing.{Made, made, refused}
use Rattle.register_machine.specs.Program.{RegisterProgram, RegisterWellFormed, RegisterTransitionOf, register_transition, no_register_transition, has_register}
use Rattle.register_machine.specs.Written.{joined, four_values, pair_of, states_of, choices, becomes_in, written, target_becomes, written_targets}
use Rattle.register_machine.proofs.Stepping.{pair_below, written_in_range}
use Rattle.register_program.specs.Form.{program_bytes}
use Rattle.register_program.specs.Reading.{register_program_of}
use Rattle.register_program.specs.Registers.{lowest_over, source_of, made_of, of_read, part_of, registers_of, program_in, targets_in, ReadAs, WrittenIsRead}
use Rattle.register_program.specs.Parts.{Found, registers_in, product}
use Rattle.register_program.proofs.Operations.{named_operation}
use Rattle.register_program.proofs.Found.{found_read}
use Rattle.register_program.proofs.HasLaws.{transitions_at, no_register}
use Rattle.register_program.proofs.CountLaws.{over_none}
use Rattle.register_program.proofs.Answers.{target_count, product_most, targets_few}
use Rattle.register_program.proofs.ReadBack.{Bare, bytes_read}

-- ---- what holds of every element

abbrev AllOf : {A : Type 0} → (A → Type 0) → List A → Type 0
AllOf F [] = Unit {0}
AllOf F (x ∷ xs) = F x × AllOf F xs

module _ {A : Type 0} (F : A → Type 0) where
  all_append : (xs ys : List A) → AllOf F xs → AllOf F ys → AllOf F (xs ++ ys)
  all_append [] ys a b = b
  all_append (x ∷ xs) ys a b = (a.0, all_append xs ys a.1 b)

  all_at : (xs : List A) (d : A) (k : ℕ) → AllOf F xs → k < length xs → F (get_or xs k d)
  all_at [] d k a l = absurd (omega arith)
  all_at (x ∷ xs) d zero a l = a.0
  all_at (x ∷ xs) d (suc k) a l = all_at xs d k a.1 (omega arith)

  all_table : (g : ℕ → A) (i n : ℕ) → ((j : ℕ) → i ≤ j → j < i + n → F (g j)) → AllOf F (table_from g i n)
  all_table g i zero h = tt
  all_table g i (suc n) h = (h i (omega arith) (omega arith), all_table g (suc i) n (λ j a b. h j (omega arith) (omega arith)))

all_joined : {A B : Type 0} (F : A → Type 0) (G : B → Type 0) (f : A → List B) → ((x : A) → F x → AllOf G (f x)) → (xs : List A) → AllOf F xs → AllOf G (joined f xs)
all_joined F G f h [] a = tt
all_joined F G f h (x ∷ xs) a = all_append G (f x) (joined f xs) (h x a.0) (all_joined F G f h xs a.1)

all_map : {A B : Type 0} (F : A → Type 0) (G : B → Type 0) (f : A → B) → ((x : A) → F x → G (f x)) → (xs : List A) → AllOf F xs → AllOf G (map f xs)
all_map F G f h [] a = tt
all_map F G f h (x ∷ xs) a = (h x a.0, all_map F G f h xs a.1)

-- ---- choices of register values

abbrev Low : (ℕ → ℕ) → Type 0
Low c = (q : ℕ) → c q < 4

put_low : (p r : ℕ) → r < 4 → (c : ℕ → ℕ) → Low c → Low (put c p r)
put_low p r l c h q = go (eqb q p)
  where
    go : (b : Bool) → cond b r (c q) < 4
    go true = l
    go false = h q

values_low : (b : Bool) → AllOf (λ (r : ℕ). r < 4) (cond b four_values (0 ∷ []))
values_low true = (omega arith, (omega arith, (omega arith, (omega arith, tt))))
values_low false = (omega arith, tt)

choices_low : (R : RegisterProgram) (n p : ℕ) → AllOf Low (choices R p n)
choices_low R zero p = ((λ q. omega arith), tt)
choices_low R (suc n) p =
    all_joined (λ (r : ℕ). r < 4) Low (λ r. map (λ (c : ℕ → ℕ). put c p r) (choices R (suc p) n))
    (λ r l. all_map Low Low (λ (c : ℕ → ℕ). put c p r) (put_low p r l) (choices R (suc p) n) (choices_low R n (suc p)))
    (cond (has_register R p) four_values (0 ∷ [])) (values_low (has_register R p))

states_least : (b : Bool) (n : ℕ) → n ≤ states_of b n
states_least true n = omega arith
states_least false n = omega arith

product_least : (has : List Bool) → 1 ≤ product has
product_least has =
    omega (arith, states_least (get_or has 0 false) (states_of (get_or has 1 false) (states_of (get_or has 2 false) (states_of (get_or has 3 false) 1))), states_least (get_or has 1 false) (states_of (get_or has 2 false) (states_of (get_or has 3 false) 1)), states_least (get_or has 2 false) (states_of (get_or has 3 false) 1), states_least (get_or has 3 false) 1)

-- ---- a program that was found fine

module _ {f : List ℕ} {p : Program} (F : Found f p) where
  abbrev R : RegisterProgram
  R = register_program_of f p

  abbrev ts : List (ℕ → ℕ)
  ts = targets_of f p

  abbrev m : ℕ
  m = p.shape.processes

  taken : (i : ℕ) → i < length R.transitions → RegisterTransitionOf R (register_transition R i)
  taken i l =
      let k : i < p.transitions.count = omega (arith, table_length (transitions_at f p.transitions.at) 0 p.transitions.count) in
      let n = (found_read F).parts i k in
      let j = p.transitions.at + 8 * i in
      subst (RegisterTransitionOf R) (sym (table_number (transitions_at f p.transitions.at) p.transitions.count i no_register_transition k))
      (record {
        process = n.process;
        from = n.from;
        to = n.to;
        operation = named_operation p.shape (byte f (j + 4)) (byte f (j + 5)) (byte f (j + 6)) (byte f (j + 3)) n.operation;
      })

  -- what the theorems of the register machine assume
  pub found_well_formed : RegisterWellFormed R
  found_well_formed =
      let r = found_read F in
      record {
        shape =
            record {
              some_process = r.shape.processes.0;
              some_variable = r.shape.variables.0;
              some_value = λ v l. omega (arith, (r.shape.values v l).0);
              variables = r.shape.variables.1;
            };
        four = λ v l. omega (arith, (r.shape.values v l).0, (r.shape.values v l).1);
        initial = λ q l. r.initial q l;
        transitions = taken;
      }

  -- and its shape is the format's
  pub found_in_range : ShapeInRange R.shape
  found_in_range =
      let r = found_read F in
      record {
        well_formed = found_well_formed.shape;
        processes = r.shape.processes.1;
        variables = r.shape.variables.1;
        values = λ v l. (r.shape.values v l).1;
        room = refl;
      }

  bare : Bare (written R)
  bare =
      let r = found_read F in
      record {
        states = λ q l. ap₂ states_of (no_register F q l) (r.no_states q l);
        initial = λ q l. ap₂ (λ (b : Bool) (x : ℕ). pair_of b x 0) (no_register F q l) (r.no_initial q l);
        values = λ v l. elim (dec_lt v 4) [
          | yes i ↦ r.shape.absent v i l
          | no i ↦ elsewhere v (omega arith)
        ];
      }
    where
      four : length p.shape.values ≤ 4
      four = omega (arith, ap (λ (s : Shape). length s.values) (found_read F).opening)

      elsewhere : (v : ℕ) → 4 ≤ v → value_count p.shape v ≡ 0
      elsewhere v l = let past : length p.shape.values ≤ v = omega (arith, four) in get_or-eq_default p.shape.values 0 past

  -- every target that is written names the written program's states
  abbrev Aimed : (ℕ → ℕ) → Type 0
  Aimed target = ((q : ℕ) → q < m → target q < R.states q) × ((q : ℕ) → m ≤ q → target q ≡ 0)

  becomes_aimed : (target : ℕ → ℕ) → Aimed target → AllOf (StatesOf (written R)) (target_becomes R target)
  becomes_aimed target h =
      all_map Low (StatesOf (written R)) (λ registers q. pair_of (has_register R q) (target q) (registers q))
      (λ c low.
      record {
        exist = λ q l. pair_below (has_register R q) (target q) (c q) (R.states q) (h.0 q l) (λ e. low q);
        absent = λ q l. ap₂ (λ (b : Bool) (x : ℕ). pair_of b x (c q)) (no_register F q l) (h.1 q l);
      }) (choices R 0 m) (choices_low R m 0)

  aimed : (i : ℕ) → i < p.targets.count → Aimed (state_at f (p.targets.at + 5 * i))
  aimed i l =
      let r = found_read F in
      let t = states_of_lem p.shape p.states (λ q. 0) [] f (p.targets.at + 5 * i) r.shape.processes.1 (r.aims i l) in
      ((λ q a. t.exist q a), (λ q a. t.absent q a))

  targets_all : AllOf (StatesOf (written R)) (written_targets R ts)
  targets_all =
      all_joined Aimed (StatesOf (written R)) (target_becomes R) becomes_aimed ts
      (all_table Aimed (λ i. state_at f (p.targets.at + 5 * i)) 0 p.targets.count (λ j a b. aimed j (omega arith)))

  part_written : m ≤ lowest_over (written R).states 0 m → length (written R).transitions ≤ 256 → ProgramPartRead (written R) (written_targets R ts)
  part_written over few =
      let r = found_read F in
      let c = target_count F {has = registers_in f p} refl in
      let some : 1 * 1 ≤ p.targets.count * product (registers_in f p) = mul-le-mul r.targets.1 (product_least (registers_in f p)) in
      record {
        program = written_in_range R found_well_formed found_in_range;
        states = λ q l. over_none (written R).states m 0 (omega arith) q (omega arith) (omega arith);
        transitions = few;
        targets = λ k l. all_at (StatesOf (written R)) (written_targets R ts) (λ q. 0) k targets_all l;
        some_target = omega (arith, c, some);
        few_targets = omega (arith, c, targets_few p.targets.count (product (registers_in f p)) r.targets.2 (product_most (registers_in f p)));
      }

  abbrev bytes : List ℕ
  bytes = program_bytes (written R) (written_targets R ts)

  not_made : {a b : ℕ} {w : List ℕ} → ◌≡◌ {A = Made} (refused a b) (made w) → ⊥
  not_made e = let z : ◌≡◌ {A = ℕ} 0 1 = cc in omega arith

  made_same : {v w : List ℕ} → ◌≡◌ {A = Made} (made v) (made w) → v ≡ w
  made_same e = cc

  found_written : (w : List ℕ) → made_of R ts ≡ made w → ReadAs w (written R) (written_targets R ts)
  unfolding made_of
  found_written w e = go (ltb over m) refl (ltb 256 (length (written R).transitions)) refl e
    where
      over : ℕ
      over = lowest_over (written R).states 0 m

      go : (a : Bool) → ltb over m ≡ a → (b : Bool) → ltb 256 (length (written R).transitions) ≡ b
          → choose a (λ _. refused 19 over) (λ _. choose b (λ _. refused 28 (source_of (becomes_in R) R.transitions 256)) (λ _. made bytes)) ≡ made w → ReadAs w (written R) (written_targets R ts)
      go true d b c e = absurd (not_made e)
      go false d true c e = absurd (not_made e)
      go false d false c e =
          subst (λ (v : List ℕ). ReadAs v (written R) (written_targets R ts)) (made_same e)
          (bytes_read (written R) (written_targets R ts) (part_written (ltb-false over m d) (ltb-false 256 (length (written R).transitions) c)) bare)

pub written_is_read : WrittenIsRead
unfolding registers_of
written_is_read f w e = go (whether (part_of f)) refl e
  where
    go : (x : Result ⊤ Refusal) → whether (part_of f) ≡ x → of_read f (program_read (part_of f)) x ≡ made w → ReadAs w (written (program_in f)) (written_targets (program_in f) (targets_in f))
    go (Ok _) d e = found_written (record { fine = d; same = refl }) w e
    go (Err r) d e = absurd (let z : ◌≡◌ {A = ℕ} 0 1 = cc in omega arith)
