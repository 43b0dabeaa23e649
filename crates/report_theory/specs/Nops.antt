-- A program in which some of its transitions are nops (document 02, N10: "a run in which that fence is a nop").
use Rattle.std.specs.Prelude.{ℕ, suc, ◌<◌, Bool, true, false, ◌||◌, ◌⊎◌, List, [], ◌∷◌, length, T, eqb}
use Rattle.machine_pws.specs.declared.Operation.{Operation}
use Rattle.machine_pws.specs.declared.Operation.TheVariants.{Nop, Read, Write, Mfence, Sfence, Arw}
use Rattle.machine_pws.specs.declared.Transition.{Transition}
use Rattle.machine_pws.specs.Program.{Program, transition}

-- says of each transition, by its number, whether it is made a nop
abbrev pub Choice : Type 0
Choice = ℕ → Bool

-- t as a nop, between the same local states of the same process, or as it is
abbrev pub as_nop : Bool → Transition → Transition
as_nop true t = record { process = t.process; from = t.from; operation = Nop; to = t.to }
as_nop false t = t

-- these transitions, of which the first has the number k
abbrev pub nops_from : Choice → ℕ → List Transition → List Transition
nops_from choice k [] = []
nops_from choice k (t ∷ ts) = as_nop (choice k) t ∷ nops_from choice (suc k) ts

abbrev pub with_nops : Program → Choice → Program
with_nops P choice =
    record { shape = P.shape; states = P.states; initial = P.initial; transitions = nops_from choice 0 P.transitions }

-- the transition of number n alone is made a nop
abbrev pub only : ℕ → Choice
only n k = eqb k n

-- those of these numbers are
abbrev pub these : List ℕ → Choice
these [] k = false
these (n ∷ ns) k = eqb k n || these ns k

-- all are kept
abbrev pub all_kept : Choice
all_kept k = false

-- ---- fences

abbrev pub is_fence : Operation → Bool
is_fence Nop = false
is_fence (Read v x) = false
is_fence (Write v x) = false
is_fence Mfence = true
is_fence Sfence = true
is_fence (Arw v old new) = false

-- every fence is made a nop
abbrev pub all_fences : Program → Choice
all_fences P n = is_fence (transition P n).operation

-- the transition of number n exists, and is an mfence or an sfence
pub record FenceOf (P : Program) (n : ℕ) : Type 0 where
  pub exists : n < length P.transitions
  pub fence : T (is_fence (transition P n).operation)

-- more makes nops of all that fewer does, and besides of fences alone
pub record MoreNops (P : Program) (fewer more : Choice) : Type 0 where
  pub kept : (n : ℕ) → T (fewer n) → T (more n)
  pub fences : (n : ℕ) → n < length P.transitions → T (more n) → T (fewer n) ⊎ FenceOf P n
