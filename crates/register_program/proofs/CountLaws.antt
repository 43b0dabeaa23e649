-- The numbers, as the code goes through the 05s and the processes.
use Rattle.std.specs.Prelude.{Ok, Err}
use Prim.Native.Nat.{ℕ, zero, suc, ◌+◌, ◌-◌, ◌*◌, ◌<◌, ◌≤◌}
use mathlib.Core.Path.{◌≡◌, refl, sym, ap, subst, ◌∙◌}
use mathlib.Core.Bool.{Bool, true, false, cond, ◌&&◌, not}
use mathlib.Core.List.{List}
use native.Mathlib.Omega.{arith}
use native.Mathlib.Decide.{ℕ_discrete}
use lib.ListN.{length, get_or, length-append}
use lib.Dec.{eqb, ltb}
use borrow.Author.Tests.{lt-ltb, le-ltb, ltb-false}
use Rattle.machine_pws.specs.declared.Transition.{Transition}
use Rattle.base.specs.Bytes.{byte}
use Rattle.file_records.specs.declared.program.Program.{Program}
use Rattle.file_records.specs.ProgramPart.{table_from}
use Rattle.register_machine.specs.declared.RegisterTransition.{RegisterTransition}
use Rattle.register_machine.specs.Program.{RegisterProgram}
use Rattle.register_machine.specs.Written.{joined, states_of, written}
use Rattle.register_program.specs.Reading.{register_transition_at, register_program_of}
use Rattle.register_program.specs.Registers.{lowest_over, source_of}
use Rattle.register_program.specs.Parts.{Found, registers_in, counted_of}
use Rattle.register_program.proofs.Joined.{table_next, table_all, table_done}
use Rattle.register_program.proofs.Operations.{expands}
use Rattle.register_program.proofs.HasLaws.{transitions_at, has_function, expand, expand_is}

pub states_most : (b : Bool) (n : ℕ) → states_of b n ≤ 4 * n
states_most true n = omega arith
states_most false n = omega arith

-- ---- states

abbrev pub needed : List Bool → List ℕ → ℕ → ℕ
needed has states q = states_of (get_or has q false) (get_or states q 0)

pub needed_is : {f : List ℕ} {p : Program} → Found f p → {has : List Bool} → has ≡ registers_in f p → needed has p.states ≡ (written (register_program_of f p)).states
needed_is {f} {p} F e = ap {A = ℕ → Bool} (λ h (q : ℕ). states_of (h q) (get_or p.states q 0)) (has_function F e)

module _ (S : ℕ → ℕ) (n p : ℕ) where
  over_more : p < n → lowest_over S p (n - p) ≡ cond (ltb 32 (S p)) p (lowest_over S (p + 1) (n - (p + 1)))
  over_more l =
      let a : n - p ≡ suc (n - (p + 1)) = omega arith in
      let b : suc p ≡ p + 1 = omega arith in
      ap (lowest_over S p) a ∙ ap (λ (k : ℕ). cond (ltb 32 (S p)) p (lowest_over S k (n - (p + 1)))) b

  pub over_here : p < n → 32 < S p → lowest_over S p (n - p) ≡ p
  over_here l m = over_more l ∙ rw (lt-ltb 32 (S p) m)

  pub over_not : p < n → S p ≤ 32 → lowest_over S p (n - p) ≡ lowest_over S (p + 1) (n - (p + 1))
  over_not l m = over_more l ∙ rw (le-ltb 32 (S p) m)

  pub over_done : n ≤ p → p ≤ n → lowest_over S p (n - p) ≡ n
  over_done l m =
      let a : n - p ≡ 0 = omega arith in
      let b : p ≡ n = omega arith in
      ap (lowest_over S p) a ∙ b

-- where none is over 32
pub over_none : (S : ℕ → ℕ) (n p : ℕ) → p + n ≤ lowest_over S p n → (q : ℕ) → p ≤ q → q < p + n → S q ≤ 32
over_none S zero p l q a b = absurd (omega arith)
over_none S (suc n) p l q a b = go (λ m. over_none S n (suc p) m q) (ltb 32 (S p)) refl l
  where
    go : (suc p + n ≤ lowest_over S (suc p) n → suc p ≤ q → q < suc p + n → S q ≤ 32) → (t : Bool) → ltb 32 (S p) ≡ t
        → p + suc n ≤ cond t p (lowest_over S (suc p) n) → S q ≤ 32
    go ih true d l = absurd (omega arith)
    go ih false d l = elim (ℕ_discrete q p) [
      | yes e ↦ rw e (ltb-false 32 (S p) d)
      | no e ↦ ih (omega arith) (omega arith) (omega arith)
    ]

-- ---- transitions

pub record Counting (f : List ℕ) (has : List Bool) (n k₀ total i : ℕ) : Type 0 where
  pub most : i ≤ n
  pub few : total ≤ 256
  pub sum : total + length (joined (expand has) (table_from (transitions_at f k₀) i (n - i))) ≡ length (joined (expand has) (table_from (transitions_at f k₀) 0 n))
  pub source : i + source_of (expand has) (table_from (transitions_at f k₀) i (n - i)) (256 - total) ≡ source_of (expand has) (table_from (transitions_at f k₀) 0 n) 256

pub counting_begin : (f : List ℕ) (has : List Bool) (n k₀ : ℕ) → Counting f has n k₀ 0 0
counting_begin f has n k₀ =
    let e = table_all (transitions_at f k₀) n in
    let z : (x : ℕ) → 0 + x ≡ x = λ x. omega arith in
    record {
      most = omega arith;
      few = omega arith;
      sum = z _ ∙ ap (λ (ts : List RegisterTransition). length (joined (expand has) ts)) e;
      source = z _ ∙ ap (λ (ts : List RegisterTransition). source_of (expand has) ts 256) e;
    }

-- what the code counts for the 05 at k
pub expansion : (f : List ℕ) (has : List Bool) (k : ℕ)
    → states_of (get_or has (byte f (k + 1)) false && not (eqb (byte f (k + 3)) 8)) (states_of (eqb (byte f (k + 3)) 6) 1) ≡ length (expand has (register_transition_at f k))
expansion f has k =
    sym (expands (byte f (k + 4)) (byte f (k + 5)) (byte f (k + 6)) (get_or has (byte f (k + 1)) false) (byte f (k + 1)) (byte f (k + 2)) (byte f (k + 7)) (byte f (k + 3)))

module _ {f : List ℕ} {has : List Bool} {n k₀ total i : ℕ} (C : Counting f has n k₀ total i) where
  abbrev rest : ℕ → List RegisterTransition
  rest j = table_from (transitions_at f k₀) j (n - j)

  module _ (l : i < n) (c : ℕ) (e : c ≡ length (expand has (transitions_at f k₀ i))) where
    size : length (joined (expand has) (rest i)) ≡ c + length (joined (expand has) (rest (i + 1)))
    size =
        ap (λ (ts : List RegisterTransition). length (joined (expand has) ts)) (table_next (transitions_at f k₀) i n l)
        ∙ length-append (expand has (transitions_at f k₀ i)) (joined (expand has) (rest (i + 1)))
        ∙ ap (λ (x : ℕ). x + length (joined (expand has) (rest (i + 1)))) (sym e)

    source_more : source_of (expand has) (rest i) (256 - total)
        ≡ cond (ltb (256 - total) c) 0 (suc (source_of (expand has) (rest (i + 1)) (256 - total - c)))
    source_more =
        ap (λ (ts : List RegisterTransition). source_of (expand has) ts (256 - total)) (table_next (transitions_at f k₀) i n l)
        ∙ ap (λ (x : ℕ). cond (ltb (256 - total) x) 0 (suc (source_of (expand has) (rest (i + 1)) (256 - total - x)))) (sym e)

    pub counting_step : total + c ≤ 256 → Counting f has n k₀ (total + c) (i + 1)
    counting_step m =
        let d : 256 - total - c ≡ 256 - (total + c) = omega arith in
        let s : source_of (expand has) (rest i) (256 - total) ≡ suc (source_of (expand has) (rest (i + 1)) (256 - (total + c))) =
        source_more ∙ ap (λ (b : Bool). cond b 0 (suc (source_of (expand has) (rest (i + 1)) (256 - total - c)))) (le-ltb (256 - total) c (omega arith))
        ∙ ap (λ (x : ℕ). suc (source_of (expand has) (rest (i + 1)) x)) d in
        record {
          most = omega arith;
          few = m;
          sum = omega (arith, C.sum, size);
          source = omega (arith, C.source, s);
        }

    pub counting_over : 256 < total + c
        → (256 < length (joined (expand has) (table_from (transitions_at f k₀) 0 n))) × (i ≡ source_of (expand has) (table_from (transitions_at f k₀) 0 n) 256)
    counting_over m =
        let s : source_of (expand has) (rest i) (256 - total) ≡ 0 =
        source_more ∙ ap (λ (b : Bool). cond b 0 (suc (source_of (expand has) (rest (i + 1)) (256 - total - c)))) (lt-ltb (256 - total) c (omega (arith, C.few))) in
        (omega (arith, C.sum, size), omega (arith, C.source, s))

  pub counting_end : n ≤ i → total ≡ length (joined (expand has) (table_from (transitions_at f k₀) 0 n))
  counting_end l =
      let e : length (joined (expand has) (rest i)) ≡ 0 = ap (λ (ts : List RegisterTransition). length (joined (expand has) ts)) (table_done (transitions_at f k₀) i n l) in
      omega (arith, C.sum, e)

-- what is said of the count
module _ {f : List ℕ} {p : Program} (F : Found f p) {has : List Bool} (e : has ≡ registers_in f p) where
  abbrev R : RegisterProgram
  R = register_program_of f p

  pub said_over : (i : ℕ) → 256 < length (joined (expand has) R.transitions) → i ≡ source_of (expand has) R.transitions 256
      → Err (record { number = 28; place = i }) ≡ counted_of R
  unfolding counted_of
  said_over i l d =
      let x = expand_is F e in
      let m : 256 < length (written R).transitions = subst (λ (g : RegisterTransition → List Transition). 256 < length (joined g R.transitions)) x l in
      let s : i ≡ source_of _ R.transitions 256 = d ∙ ap (λ (g : RegisterTransition → List Transition). source_of g R.transitions 256) x in
      rw (lt-ltb 256 (length (written R).transitions) m) (ap (λ (j : ℕ). Err (record { number = 28; place = j })) s)

  pub said_count : (total : ℕ) → total ≤ 256 → total ≡ length (joined (expand has) R.transitions) → Ok total ≡ counted_of R
  unfolding counted_of
  said_count total l d =
      let x = expand_is F e in
      let s : total ≡ length (written R).transitions = d ∙ ap (λ (g : RegisterTransition → List Transition). length (joined g R.transitions)) x in
      rw (le-ltb 256 (length (written R).transitions) (omega (arith, s))) (ap Ok s)
