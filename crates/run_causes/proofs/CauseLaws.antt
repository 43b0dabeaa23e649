-- A step is permitted exactly if the machine may take it.
use Prim.Native.Nat.{ℕ}
use mathlib.Core.Path.{◌≡◌, refl, ap, ◌∙◌}
use mathlib.Core.Bool.{Bool, true, false, cond, ◌&&◌, not}
use lib.ListN.{length, get_or}
use lib.Dec.{eqb, ltb}
use Rattle.machine_pws.specs.declared.Operation.{Operation}
use Rattle.machine_pws.specs.declared.Operation.TheVariants.{Nop, Read, Write, Mfence, Sfence, Arw}
use Rattle.machine_pws.specs.declared.Step.{Step}
use Rattle.machine_pws.specs.declared.Step.TheVariants.{Take, Serialise, Update}
use Rattle.machine_pws.specs.Program.{Shape, Program, transition}
use Rattle.machine_pws.specs.Machine.{Configuration, is_empty, none_waiting, at_newest, sees, newest, may_operate, may_take, may}
use Rattle.std.specs.Prelude.{Err}
use Rattle.run_causes.specs.declared.Cause.TheVariants.{State}
use Rattle.run_causes.specs.Causes.{Answer, first_cause, queue_fits, pointer_fits, value_fits, take_answer, step_answer, is_permitted}

first_all : (a b c d e : Bool) → is_permitted (first_cause a b c d e) ≡ (a && (b && (c && (d && e))))
unfolding first_cause
first_all false b c d e = refl
first_all true false c d e = refl
first_all true true false d e = refl
first_all true true true false e = refl
first_all true true true true false = refl
first_all true true true true true = refl

and_true : (a : Bool) → (a && true) ≡ a
and_true true = refl
and_true false = refl

and_assoc : (a b c : Bool) → (a && (b && c)) ≡ ((a && b) && c)
and_assoc true b c = refl
and_assoc false b c = refl

operate_all : (S : Shape) (c : Configuration) (p : ℕ) (o : Operation)
    → (queue_fits S c p o && (pointer_fits c p o && (value_fits c p o && true))) ≡ may_operate S c p o
operate_all S c p Nop = refl
operate_all S c p (Read v x) = and_true (eqb (sees c p v) x)
operate_all S c p (Write v x) = refl
operate_all S c p Mfence = ap (λ (b : Bool). none_waiting S c p && b) (and_true (at_newest c.memory p))
operate_all S c p Sfence = and_true (none_waiting S c p)
operate_all S c p (Arw v old new) =
    let e = is_empty (c.queue p v) in
    let n = at_newest c.memory p in
    let x = eqb (get_or (newest c.memory.channel).snapshot v 0) old in
    ap (λ (b : Bool). e && (n && b)) (and_true x) ∙ and_assoc e n x

take_all : (S : Shape) (c : Configuration) (P : Program) (n : ℕ) → is_permitted (take_answer S c (transition P n)) ≡ may_take S c (transition P n)
take_all S c P n =
    let t = transition P n in
    let p = t.process in
    let o = t.operation in
    first_all (eqb (c.state p) t.from) (queue_fits S c p o) (pointer_fits c p o) (value_fits c p o) true
    ∙ ap (λ (b : Bool). eqb (c.state p) t.from && b) (operate_all S c p o)

exists_all : (b : Bool) (x : Answer) (y : Bool) → is_permitted x ≡ y → is_permitted (cond b x (Err State)) ≡ (b && y)
exists_all true x y e = e
exists_all false x y e = refl

pub answer_may : (P : Program) (c : Configuration) (s : Step) → is_permitted (step_answer P c s) ≡ may P c s
answer_may P c (Take n) =
    exists_all (ltb n (length P.transitions)) (take_answer P.shape c (transition P n)) (may_take P.shape c (transition P n)) (take_all P.shape c P n)
answer_may P c (Serialise p v) =
    first_all true true true true ((ltb p P.shape.processes && ltb v P.shape.variables) && not (is_empty (c.queue p v)))
answer_may P c (Update p) = first_all true true true true (ltb p P.shape.processes && ltb (c.memory.pointer p) (length c.memory.channel))
