-- What a list of patterns that is judged safe promises.
use Prim.Native.Nat.{ℕ, ◌<◌}
use mathlib.Core.Path.{◌≡◌, refl, subst}
use mathlib.Core.Logic.{⊎_elim}
use mathlib.Core.List.Memᴰ
use mathlib.Core.List.{List, [], ◌∷◌, ◌++◌, Memᴰ}
use lib.ListN.{length}
use lib.Dec.{T}
use Rattle.machine_pws.specs.declared.Step.{Step}
use Rattle.machine_pws.specs.declared.Step.TheVariants.{Take, Serialise, Update}
use Rattle.machine_pws.specs.Program.{Program, WellFormed}
use Rattle.machine_pws.specs.Machine.{Configuration, may, after}
use Rattle.machine_pws.specs.Configurations.{Start, InTarget}
use Rattle.machine_pws.specs.Sequences.{Visited, start, later}
use Rattle.machine_pws.proofs.Steps.{take_yes, serialise_yes, update_yes}
use Rattle.machine_equal.proofs.Reachability.{same_reachability, permitted_start, takes_visited}
use Rattle.list_theory.specs.Lists.{for_below}
use Rattle.list_theory.specs.Predecessors.{steps}
use Rattle.list_theory.specs.Verdict.{target, safe}
use Rattle.list_theory.proofs.Lists.{in_below}
use Rattle.pattern_theory.specs.Patterns.{Pattern, target_pattern}
use Rattle.pattern_theory.specs.Fitting.{nothing, FitsPattern, FitsList, pattern_of}
use Rattle.pattern_theory.specs.Storing.{Stored}
use Rattle.pattern_theory.specs.Verdict.{PatternsIn, WithinOne, PatternsSafe, PatternsJudged, pattern_verdict}
use Rattle.pattern_theory.specs.Safety.{PatternSafety, PatternPsoSafety}
use Rattle.pattern_theory.proofs.Paths.{within_fits}
use Rattle.pattern_theory.proofs.Storing.{stored_start, stored_step}
use Rattle.pattern_theory.proofs.Entering.{enters_pattern}
use Rattle.pattern_theory.proofs.Verdict.{patterns_decided}

-- what the machine may take is a step of the program
module _ (P : Program) (c : Configuration) where
  abbrev takes : List Step
  takes = for_below (length P.transitions) (λ n. Take n ∷ [])

  abbrev serialises : List Step
  serialises = for_below P.shape.processes (λ p. for_below P.shape.variables (λ v. Serialise p v ∷ []))

  abbrev updates : List Step
  updates = for_below P.shape.processes (λ p. Update p ∷ [])

  may_step : (s : Step) → T (may P c s) → Memᴰ s (steps P)
  may_step (Take n) t =
      Memᴰ.append_left updates (Memᴰ.append_left serialises (in_below (length P.transitions) (λ n. Take n ∷ []) n (take_yes P c n t).0 (Memᴰ.head refl)))
  may_step (Serialise p v) t =
      let y = serialise_yes P c p v t in
      Memᴰ.append_left updates (Memᴰ.append_right takes (in_below P.shape.processes (λ p. for_below P.shape.variables (λ v. Serialise p v ∷ [])) p y.0
      (in_below P.shape.variables (λ v. Serialise p v ∷ []) v y.1 (Memᴰ.head refl))))
  may_step (Update p) t =
      Memᴰ.append_right (takes ++ serialises) (in_below P.shape.processes (λ p. Update p ∷ []) p (update_yes P c p t).0 (Memᴰ.head refl))

module _ (P : Program) (R : WellFormed P) (ts : List (ℕ → ℕ)) (ps : List Pattern) (o : PatternsIn P.shape ps) (S : PatternsSafe P ts ps) where
  within_list : (a : Pattern) → WithinOne P.shape ps a → (c : Configuration) → Stored P c → FitsPattern P.shape a c → FitsList P.shape ps c
  within_list a w c i f =
      record {
        number = w.number;
        exists = w.exists;
        fits = within_fits P a (pattern_of ps w.number) (o w.number w.exists) w.within c i.configuration f;
      }

  -- a step from outside the list stays outside
  stays : (c : Configuration) → Stored P c → (FitsList P.shape ps c → ⊥) → (s : Step) → T (may P c s) → FitsList P.shape ps (after P c s) → ⊥
  stays c i n s t f = ⊎_elim
      (λ g. n (record { number = f.number; exists = f.exists; fits = g }))
      (λ b. S.closed f.number f.exists s (may_step P c s t)
      (record { pattern = b.pattern; before = b.before; kept = b.kept; outside = λ w. n (within_list b.pattern w c i b.fits) }))
      (enters_pattern P R (pattern_of ps f.number) c i s t f.fits)

  outside : {c d : Configuration} {ss : List Step} → Stored P c → (FitsList P.shape ps c → ⊥) → Visited P c ss d → Stored P d × (FitsList P.shape ps d → ⊥)
  outside i n start = (i, n)
  outside i n (later {b = c} s t v) = outside (stored_step P R c i s t) (stays c i n s t) v

  in_target : (k : ℕ) → k < length ts → (d : Configuration) → Stored P d → InTarget P.shape (target ts k) d → FitsList P.shape ps d
  in_target k l d i t = within_list (target_pattern (target ts k)) (S.held k l) d i (record { states = t; queues = λ p v h j. nothing; newest = λ v. tt; paths = λ p h. tt })

  visits : (c : Configuration) → Start P c → (ss : List Step) (d : Configuration) → Visited P c ss d
      → ((k : ℕ) → k < length ts → InTarget P.shape (target ts k) d → ⊥) × (FitsList P.shape ps d → ⊥)
  visits c s ss d v =
      let r = outside (stored_start P c s) (λ f. S.unstarted f.number f.exists (record { configuration = c; start = s; fits = f.fits })) v in
      (λ k l t. r.1 (in_target k l d r.0 t), r.1)

judged_safe : (P : Program) → WellFormed P → (ts : List (ℕ → ℕ)) (ps : List Pattern) → PatternsIn P.shape ps → (n : ℕ) → pattern_verdict P ts ps ≡ safe n
    → PatternsSafe P ts ps
judged_safe P R ts ps o n e = (subst (PatternsJudged P ts ps) e (patterns_decided P R ts ps o)).1

pub pattern_safety : PatternSafety
pattern_safety P R ts ps o n e c s ss d v = visits P R ts ps o (judged_safe P R ts ps o n e) c s ss d v

pub pattern_pso_safety : PatternPsoSafety
pattern_pso_safety P R ts ps o n e memory k l r =
    let w = (same_reachability P R memory (target ts k)).1 r in
    (pattern_safety P R ts ps o n e w.first (permitted_start P memory w.first w.starts) w.steps w.last (takes_visited w.takes)).0 k l w.reached
