-- The fences are the operations that only wait.
use Prim.Native.Nat.{ℕ, zero, suc, ◌<◌}
use mathlib.Core.Path.{◌≡◌, refl, sym, ap, ◌∙◌}
use mathlib.Core.List.{List, [], ◌∷◌}
use native.Mathlib.Omega.{arith}
use lib.ListN.{length}
use lib.Dec.{T, eqb_refl}
use mir.Facts.{and_yes}
use Rattle.machine_pws.specs.declared.Operation.{Operation}
use Rattle.machine_pws.specs.declared.Operation.TheVariants.{Nop, Read, Write, Mfence, Sfence, Arw}
use Rattle.machine_pws.specs.Program.{Shape}
use Rattle.machine_pws.specs.Machine.{Memory, Configuration, is_empty, none_waiting, at_newest}
use Rattle.machine_pws.proofs.Cases.{all_yes}
use Rattle.machine_pws.proofs.Facts.{put_queue_same}
use Rattle.report_theory.specs.Nops.{is_fence}
use Rattle.report_theory.specs.Statements.{OnlyWaits, FencesOnlyWait}

-- ---- a fence only waits

empty_is : (xs : List ℕ) → T (is_empty xs) → xs ≡ []
empty_is [] t = refl
empty_is (x ∷ xs) t = absurd t

none_waits : (S : Shape) (c : Configuration) (p v : ℕ) → v < S.variables → T (none_waiting S c p) → c.queue p v ≡ []
none_waits S c p v l t = empty_is (c.queue p v) (all_yes S.variables (λ v. is_empty (c.queue p v)) t v l)

only_waits : (o : Operation) → T (is_fence o) → OnlyWaits o
only_waits Nop t = absurd t
only_waits (Read v x) t = absurd t
only_waits (Write v x) t = absurd t
only_waits Mfence t =
    record {
      queues = λ c p. refl;
      memory = λ c p. refl;
      waits = λ S c p v l m. none_waits S c p v l (and_yes (none_waiting S c p) (at_newest c.memory p) m).0;
    }
only_waits Sfence t = record { queues = λ c p. refl; memory = λ c p. refl; waits = none_waits }
only_waits (Arw v old new) t = absurd t

-- ---- no other operation does: it is permitted while a value waits, or it changes something

abbrev shape_of : ℕ → Shape
shape_of n = record { processes = 1; variables = n; values = λ v. 1; room = n }

-- one process, with these values waiting for each variable
abbrev waiting : List ℕ → Configuration
waiting xs = record { state = λ p. 0; queue = λ p v. xs; memory = record { channel = []; pointer = λ p. 0 } }

one_waits : (x : ℕ) → (x ∷ [] ≡ []) → ⊥
one_waits x e = let z : suc zero ≡ 0 = ap length e in omega arith

is_fence_lem : (o : Operation) → OnlyWaits o → T (is_fence o)
is_fence_lem Nop w = absurd (one_waits 0 (w.waits (shape_of 1) (waiting (0 ∷ [])) 0 0 (omega arith) tt))
is_fence_lem (Read v x) w = absurd (one_waits x (w.waits (shape_of (suc v)) (waiting (x ∷ [])) 0 v (omega arith) (eqb_refl x)))
is_fence_lem (Write v x) w =
    let c = waiting [] in
    let e : x ∷ [] ≡ [] = sym (put_queue_same c.queue 0 v (x ∷ [])) ∙ ap (λ (q : ℕ → ℕ → List ℕ). q 0 v) (w.queues c 0) in
    absurd (one_waits x e)
is_fence_lem Mfence w = tt
is_fence_lem Sfence w = tt
is_fence_lem (Arw v old new) w =
    let z : suc zero ≡ 0 = ap (λ (m : Memory). length m.channel) (w.memory (waiting []) 0) in omega arith

pub fences_only_wait : FencesOnlyWait
fences_only_wait o = (only_waits o, is_fence_lem o)
