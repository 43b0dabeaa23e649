-- A pattern that holds another has its local states, and so is met on the chain of those.
use Prim.Native.Nat.{ℕ, ◌+◌, ◌<◌, ◌≤◌}
use mathlib.Core.Path.{◌≡◌, refl, sym, ap, ap₂, subst, ◌∙◌}
use mathlib.Core.Bool.{◌&&◌}
use mathlib.Core.Option.{Option}
use mathlib.Core.List.{List}
use native.Mathlib.Omega.{arith}
use native.Mathlib.Decide.{ℕ_discrete}
use lib.ListN.{get_or}
use lib.Dec.{eqb}
use borrow.Author.Tests.{lt-ltb, eq-eqb, ne_eqb}
use Rattle.machine_pws.specs.Machine.{all_below}
use Rattle.file_records.specs.declared.program.Shape.{Shape}
use Rattle.base.specs.Bytes.{byte}
use Rattle.file_records.specs.Records.{state_at}
use Rattle.file_records.specs.ProgramPart.{shape_of}
use Rattle.file_contents.specs.Cube.{load_entry}
use Rattle.file_again.specs.Again.{offset_at}
use Rattle.file_again.proofs.Tables.{of_four}
use Rattle.list_key.specs.Number.{states_mixed}
use Rattle.base.proofs.Tests.{few_all, all_equal}
use Rattle.list_summary.specs.Groups.{states_at}
use Rattle.pattern_theory.specs.Patterns.{Pattern}
use Rattle.pattern_theory.specs.Fitting.{pattern_of}
use Rattle.pattern_theory.specs.Within.{Within, newest_within}
use Rattle.pattern_reading.specs.Records.{asked, newest_at}
use Rattle.pattern_reading.specs.Places.{PatternsAt}
use Rattle.pattern_index.specs.Index.{first_of, On, Indexed, value_holds, values_at, head_holds}
use Rattle.pattern_index.proofs.IndexLaws.{same_number}

-- the four bytes behind a 13 are its states
states_are : (f list : List ℕ) (s : Shape) (k p : ℕ) → p < 4 → get_or (states_at f list s k) p 0 ≡ state_at f (offset_at list k) p
unfolding load_entry
states_are f list s k p l = of_four (λ (p : ℕ). get_or (states_at f list s k) p 0 ≡ state_at f (offset_at list k) p) refl refl refl refl p l

value_holds_lem : (x y : ℕ) → value_holds x y ≡ newest_within (asked x) (asked y)
value_holds_lem x y = elim (ℕ_discrete y 255) [
  | yes e ↦ rw (eq-eqb y 255 e)
  | no d ↦ elim (ℕ_discrete x 255) [
    | yes e ↦ rw (ne_eqb y 255 d, eq-eqb x 255 e) (ne_eqb x y (λ z. d (sym z ∙ e)))
    | no i ↦ rw (ne_eqb y 255 d, ne_eqb x 255 i)
  ]
]

-- the values behind a 13
values_are : (f list : List ℕ) (k v : ℕ) → v < 4 → get_or (values_at f list k) v 0 ≡ byte f (offset_at list k + (5 + v))
values_are f list k v l = of_four (λ (v : ℕ). get_or (values_at f list k) v 0 ≡ byte f (offset_at list k + (5 + v))) refl refl refl refl v l

module _ (s : Shape) (few : s.processes ≤ 4) (counts f list sum : List ℕ) (n : ℕ) (ps : List Pattern) (stand : PatternsAt s counts f list n ps) (indexed : Indexed f list sum n s) where
  pub pattern_state : (k : ℕ) → k < n → (p : ℕ) → p < s.processes → (pattern_of ps k).state p ≡ get_or (states_at f list s k) p 0
  pattern_state k l p i =
      let A = stand.each k l in
      ap (λ (b : Pattern). b.state p) A.same ∙ ap (λ (g : ℕ → ℕ). g p) A.states ∙ sym (states_are f list s k p (omega arith))

  -- a has these local states, and is within pattern k
  pub found : (a : Pattern) (states : List ℕ) → ((p : ℕ) → p < s.processes → get_or states p 0 ≡ a.state p) → (k : ℕ) → k < n → Within (shape_of s) a (pattern_of ps k)
      → On sum (first_of sum n (states_mixed s states)) k
  found a states h k l W =
      subst (λ (m : ℕ). On sum (first_of sum n m) k) (same_number s (states_at f list s k) states (λ p i. sym (pattern_state k l p i) ∙ sym (W.states p i) ∙ sym (h p i))) (indexed k l)

  -- its 13 decides the first half of the test whether a is within pattern k
  module _ (small : s.variables ≤ 4) (a : Pattern) (states newest : List ℕ) (h : (p : ℕ) → p < s.processes → get_or states p 0 ≡ a.state p)
      (j : (v : ℕ) → v < s.variables → asked (get_or newest v 0) ≡ a.newest v) where
    pattern_value : (k : ℕ) → k < n → (v : ℕ) → v < s.variables → (pattern_of ps k).newest v ≡ asked (get_or (values_at f list k) v 0)
    pattern_value k l v i =
        let A = stand.each k l in
        let e : newest_at s f (offset_at list k) v ≡ asked (byte f (offset_at list k + (5 + v))) = rw (lt-ltb v s.variables i) in
        ap (λ (b : Pattern). b.newest v) A.same ∙ ap (λ (g : ℕ → Option ℕ). g v) A.values ∙ e ∙ ap asked (sym (values_are f list k v (omega arith)))

    pub head_is : (k : ℕ) → k < n → head_holds s f list states newest k
        ≡ (all_below s.processes (λ p. eqb (a.state p) ((pattern_of ps k).state p)) && all_below s.variables (λ v. newest_within (a.newest v) ((pattern_of ps k).newest v)))
    unfolding head_holds
    head_is k l =
        ap₂ ◌&&◌
        (few_all s.processes _ few ∙ all_equal s.processes _ _ (λ p i. ap₂ eqb (h p i) (sym (pattern_state k l p i))))
        (few_all s.variables _ small
        ∙ all_equal s.variables _ _ (λ v i. value_holds_lem (get_or newest v 0) (get_or (values_at f list k) v 0) ∙ ap₂ newest_within (j v i) (sym (pattern_value k l v i))))
