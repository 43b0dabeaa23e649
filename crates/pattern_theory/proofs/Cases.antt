-- Each row of the table of small files holds, the examples hold, and W is an instance of the theorems.
use Prim.Native.Nat.{ℕ, zero, suc, ◌<◌}
use mathlib.Core.Path.{◌≡◌, refl}
use mathlib.Core.Option.{Option, none, some}
use mathlib.Core.List.{List, [], ◌∷◌}
use native.Mathlib.Omega.{arith}
use lib.ListN.{length, get_or}
use lib.Dec.{eqb-suc-zero}
use Rattle.machine_pws.specs.declared.Step.TheVariants.{Take}
use Rattle.machine_pws.specs.declared.Transition.{Transition}
use Rattle.machine_pws.specs.Program.{WellFormed, transition, TransitionOf}
use Rattle.machine_pws.specs.Machine.{after}
use Rattle.machine_pws.specs.Configurations.{StartingMemory, start_with}
use Rattle.machine_pws.specs.Sequences.{done, step}
use Rattle.machine_pws.proofs.Starts.{start_exists}
use Rattle.machine_equal.proofs.Reachability.{start_of_lem}
use Rattle.pattern_theory.specs.Fitting.{pattern_of}
use Rattle.pattern_theory.specs.Cases.{Holds, Each, no_row, row, cases, NeverReadsZero, ReadsOne, WithinExamples, PredecessorExamples, program_of, write_read, patterns_w, write_twice, one}
use Rattle.pattern_theory.specs.Verdict.{ReadsOf, PatternsIn}
use Rattle.pattern_theory.proofs.Safety.{pattern_safety}

pub cases_hold : Each Holds cases
unfolding Holds
cases_hold = row refl (row refl (row refl (row refl (row refl (row refl (row refl (row refl (row refl (row refl (row refl (row refl no_row)))))))))))

-- ---- W

in_range_lem : (ts : List Transition) → ((n : ℕ) → n < length ts → TransitionOf (program_of ts) (transition (program_of ts) n)) → WellFormed (program_of ts)
in_range_lem ts f =
    record {
      shape =
          record {
            some_process = omega arith;
            some_variable = omega arith;
            some_value = λ v l. omega arith;
            variables = omega arith;
          };
      initial = λ p l. omega arith;
      transitions = f;
    }

w_transitions : (n : ℕ) → n < length write_read → TransitionOf (program_of write_read) (transition (program_of write_read) n)
w_transitions zero l = record { process = omega arith; from = omega arith; to = omega arith; operation = (omega arith, omega arith) }
w_transitions (suc zero) l = record { process = omega arith; from = omega arith; to = omega arith; operation = (omega arith, omega arith) }
w_transitions (suc (suc n)) l = absurd (omega arith)

-- there is one process, and one variable
only : (F : ℕ → Type 0) → F 0 → (p : ℕ) → p < 1 → F p
only F f zero l = f
only F f (suc p) l = absurd (omega arith)

free : (v : ℕ) → one {A = Option ℕ} none none v ≡ none
free zero = refl
free (suc v) = rw eqb-suc-zero

unasked : (v x : ℕ) → one {A = Option ℕ} none none v ≡ some x → x < 2
unasked v x e = let n = free v in let z : ◌≡◌ {A = ℕ} 0 1 = cc in absurd (omega arith)

w_in : PatternsIn (program_of write_read).shape patterns_w
w_in zero l =
    record {
      newest = λ v h x e. unasked v x e;
      absent = λ v h. free v;
      reads = λ p h. only (λ p. ReadsOf (program_of write_read).shape ((pattern_of patterns_w 0).path p)) tt p h;
    }
w_in (suc zero) l =
    record {
      newest = λ v h x e. unasked v x e;
      absent = λ v h. free v;
      reads = λ p h. only (λ p. ReadsOf (program_of write_read).shape ((pattern_of patterns_w 1).path p)) (omega arith, omega arith, tt) p h;
    }
w_in (suc (suc n)) l = absurd (omega arith)

pub never_reads_zero : NeverReadsZero
never_reads_zero c s ss d v e =
    (pattern_safety (program_of write_read) (in_range_lem write_read w_transitions) (one 2 0 ∷ []) patterns_w w_in 2 refl c s ss d v).0 0 (omega arith)
    (only (λ p. d.state p ≡ one 2 0 p) e)

-- ---- the program made for the rule of a write

t_transitions : (n : ℕ) → n < length write_twice → TransitionOf (program_of write_twice) (transition (program_of write_twice) n)
t_transitions zero l = record { process = omega arith; from = omega arith; to = omega arith; operation = (omega arith, omega arith) }
t_transitions (suc zero) l = record { process = omega arith; from = omega arith; to = omega arith; operation = (omega arith, omega arith) }
t_transitions (suc (suc zero)) l = record { process = omega arith; from = omega arith; to = omega arith; operation = (omega arith, omega arith) }
t_transitions (suc (suc (suc n))) l = absurd (omega arith)

abbrev zeros : List ℕ
zeros = 0 ∷ 0 ∷ 0 ∷ 0 ∷ []

zeros_at : (v : ℕ) → get_or zeros v 0 ≡ 0
zeros_at zero = refl
zeros_at (suc zero) = refl
zeros_at (suc (suc zero)) = refl
zeros_at (suc (suc (suc zero))) = refl
zeros_at (suc (suc (suc (suc v)))) = refl

pub reads_one : ReadsOne
reads_one =
    let P = program_of write_twice in
    let R = in_range_lem write_twice t_transitions in
    let c = start_with P zeros 0 0 in
    let permitted : StartingMemory P.shape zeros = record { room = refl; values = λ v l. omega (arith, zeros_at v); absent = λ v l. zeros_at v } in
    record {
      first = c;
      starts = start_of_lem P zeros c (start_exists P R zeros permitted 0 0 (omega arith) (omega arith)) refl;
      steps = Take 0 ∷ Take 1 ∷ Take 2 ∷ [];
      last = after P (after P (after P c (Take 0)) (Take 1)) (Take 2);
      takes = step (Take 0) tt (step (Take 1) tt (step (Take 2) tt done));
      reached = only (λ p. (after P (after P (after P c (Take 0)) (Take 1)) (Take 2)).state p ≡ one 3 0 p) refl;
    }

-- ---- the examples

pub within_examples : WithinExamples
within_examples =
    record {
      shorter = refl;
      turned = refl;
      turned_asked = refl;
      any_then_one = refl;
      ends_one = refl;
      ends_twice = refl;
      not_empty = refl;
      value_to_any = refl;
      ends_other = refl;
    }

pub predecessor_examples : PredecessorExamples
predecessor_examples = record { read = refl; read_own = refl; read_other = refl; cut = refl; cut_own = refl; sfence = refl; sfence_waits = refl; unknown = refl; known = refl }
