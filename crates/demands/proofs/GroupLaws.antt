-- To be above a list is to be above one of its groups, and the summary has the number of entries of each.
use Prim.Native.Nat.{ℕ, zero, suc, ◌+◌, ◌<◌, ◌≤◌, min}
use mathlib.Core.Path.{◌≡◌, refl, sym, ap, ap₂, subst, ◌∙◌}
use mathlib.Core.Bool.{Bool, true, false, cond, ◌&&◌}
use mathlib.Core.List.{List, [], ◌∷◌}
use native.Mathlib.Omega.{arith}
use lib.ListN.{length, get_or}
use lib.Dec.{T, eqb, ltb}
use borrow.Author.Tests.{eq-eqb, lt-ltb}
use Rattle.machine_pws.specs.Program.{Shape}
use Rattle.machine_pws.specs.Machine.{Configuration, all_below}
use Rattle.machine_pws.specs.Entries.{Above, AboveList, entry}
use Rattle.file_records.specs.declared.program.Program.{Program}
use Rattle.base.specs.Bytes.{choose}
use Rattle.file_records.specs.ProgramPart.{table_from, program_of}
use Rattle.file_contents.specs.Cube.{configuration_of}
use Rattle.file_again.specs.Again.{cube_at, entries_of}
use Rattle.list_key.proofs.Below.{all_true}
use Rattle.list_summary.specs.Slots.{count_at}
use Rattle.list_summary.specs.Groups.{same_states, states_at, leads, in_group}
use Rattle.list_judge.specs.Ready.{Ready}
use Rattle.demands.specs.Groups.{equal_states, group, GroupAgrees, GroupNumbered}

-- ---- above the list, and above the group

above_equal : (S : Shape) (e d : Configuration) → Above S e d → equal_states S e d ≡ true
unfolding equal_states
above_equal S e d a = all_true S.processes (λ p. eqb (e.state p) (d.state p)) (λ p l. eq-eqb (e.state p) (d.state p) (a.below.states p l))

module _ (S : Shape) (d : Configuration) where
  -- the number in the group of what stands in the list, and back
  into : (es : List Configuration) → AboveList S es d → AboveList S (group S es d) d
  into [] a = a
  into (e ∷ es) a = go (λ r. into es r) a.number a.exists a.above
    where
      first : (b : Bool) → Above S e d → b ≡ true → AboveList S (choose b (λ _. e ∷ group S es d) (λ _. group S es d)) d
      first true x q = record { number = 0; exists = omega arith; above = x }
      first false x q = absurd (subst T (sym q) tt)

      later : (b : Bool) → AboveList S (group S es d) d → AboveList S (choose b (λ _. e ∷ group S es d) (λ _. group S es d)) d
      later true r = record { number = suc r.number; exists = omega (arith, r.exists); above = r.above }
      later false r = r

      go : (AboveList S es d → AboveList S (group S es d) d) → (k : ℕ) → k < length (e ∷ es) → Above S (entry (e ∷ es) k) d → AboveList S (choose (equal_states S e d) (λ _. e ∷ group S es d) (λ _. group S es d)) d
      go rest zero l x = first (equal_states S e d) x (above_equal S e d x)
      go rest (suc k) l x = later (equal_states S e d) (rest (record { number = k; exists = omega (arith, l); above = x }))

  onto : (es : List Configuration) → AboveList S (group S es d) d → AboveList S es d
  onto [] a = a
  onto (e ∷ es) a = go (λ r. onto es r) (equal_states S e d) a
    where
      later : AboveList S es d → AboveList S (e ∷ es) d
      later r = record { number = suc r.number; exists = omega (arith, r.exists); above = r.above }

      at : (AboveList S (group S es d) d → AboveList S es d) → (k : ℕ) → k < length (e ∷ group S es d) → Above S (entry (e ∷ group S es d) k) d → AboveList S (e ∷ es) d
      at rest zero l x = record { number = 0; exists = omega arith; above = x }
      at rest (suc k) l x = later (rest (record { number = k; exists = omega (arith, l); above = x }))

      go : (AboveList S (group S es d) d → AboveList S es d) → (b : Bool) → AboveList S (choose b (λ _. e ∷ group S es d) (λ _. group S es d)) d → AboveList S (e ∷ es) d
      go rest true r = at rest r.number r.exists r.above
      go rest false r = later (rest r)

pub group_agrees : GroupAgrees
group_agrees S es d = (into S d es, onto S d es)

-- ---- the numbers

-- one entry more at the end
group_more : (S : Shape) (d : Configuration) (g : ℕ → Configuration) (i n : ℕ)
    → length (group S (table_from g i (suc n)) d) ≡ length (group S (table_from g i n) d) + cond (equal_states S (g (i + n)) d) 1 0
group_more S d g i zero = go (equal_states S (g i) d) ∙ ap (λ (x : ℕ). 0 + cond (equal_states S (g x) d) 1 0) i_0
  where
    i_0 : i ≡ i + 0
    i_0 = omega arith

    go : (b : Bool) → length (choose b (λ _. g i ∷ []) (λ _. [])) ≡ 0 + cond b 1 0
    go true = refl
    go false = refl
group_more S d g i (suc n) =
    go (equal_states S (g i) d) (group_more S d g (suc i) n ∙ ap (λ (x : ℕ). length (group S (table_from g (suc i) n) d) + cond (equal_states S (g x) d) 1 0) i_suc)
  where
    i_suc : suc i + n ≡ i + suc n
    i_suc = omega arith

    go : (b : Bool)
        → length (group S (table_from g (suc i) (suc n)) d) ≡ length (group S (table_from g (suc i) n) d) + cond (equal_states S (g (i + suc n)) d) 1 0
        → length (choose b (λ _. g i ∷ group S (table_from g (suc i) (suc n)) d) (λ _. group S (table_from g (suc i) (suc n)) d))
        ≡ length (choose b (λ _. g i ∷ group S (table_from g (suc i) n) d) (λ _. group S (table_from g (suc i) n) d)) + cond (equal_states S (g (i + suc n)) d) 1 0
    go true e = omega (arith, e)
    go false e = e

pub group_numbered : GroupNumbered
unfolding same_states equal_states in_group
group_numbered c₀ f list sum n p Z k l first = Z.summed.grouped.numbers k l ∙ leading ∙ counted n ∙ ap (λ (c : Configuration). length (group S (entries_of f list n) c)) (ap g (zero_plus k) ∙ sym (at n 0 k l))
  where
    S : Shape
    S = (program_of c₀ p).shape

    zero_plus : (x : ℕ) → x ≡ 0 + x
    zero_plus x = omega arith

    g : ℕ → Configuration
    g i = configuration_of (cube_at f list i)

    leading : cond (ltb k n && leads f list p.shape k) (in_group f list p.shape n (states_at f list p.shape k)) 0 ≡ in_group f list p.shape n (states_at f list p.shape k)
    leading = ap₂ (λ (a b : Bool). cond (a && b) (in_group f list p.shape n (states_at f list p.shape k)) 0) (lt-ltb k n l) first

    four : min p.shape.processes 4 ≡ p.shape.processes
    four = omega (arith, Z.sizes.processes.1)

    equal : (i : ℕ) → same_states p.shape (states_at f list p.shape i) (states_at f list p.shape k) ≡ equal_states S (g i) (g k)
    equal i = ap (λ (x : ℕ). all_below x (λ q. eqb (get_or (states_at f list p.shape i) q 0) (get_or (states_at f list p.shape k) q 0))) four

    counted : (m : ℕ) → in_group f list p.shape m (states_at f list p.shape k) ≡ length (group S (table_from g 0 m) (g k))
    counted zero = refl
    counted (suc m) = ap₂ (λ (a b : ℕ). a + b) (counted m) (ap (λ (b : Bool). cond b 1 0) (equal m)) ∙ ap (λ (x : ℕ). length (group S (table_from g 0 m) (g k)) + cond (equal_states S (g x) (g k)) 1 0) (zero_plus m) ∙ sym (group_more S (g k) g 0 m)

    at : (m i j : ℕ) → j < m → entry (table_from g i m) j ≡ g (i + j)
    at zero i j u = absurd (omega arith)
    at (suc m) i zero u = ap g (omega arith)
    at (suc m) i (suc j) u = at m (suc i) j (omega arith) ∙ ap g (omega arith)
