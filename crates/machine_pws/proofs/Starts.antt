-- There is a start for each memory and label, and every start is one of these.
use Prim.Native.Nat.{ℕ, zero, suc, ◌<◌, ◌≤◌}
use mathlib.Core.Path.{◌≡◌, refl, sym, ap, subst, ◌∙◌, fun_ext}
use mathlib.Core.Logic.{◌⊎◌, inl, inr, ⊎_elim}
use mathlib.Core.Bool.{Bool, true, false, cond}
use mathlib.Core.List.{List, [], ◌∷◌}
use native.Mathlib.Omega.{arith}
use native.Mathlib.Decide.{dec_lt}
use lib.ListN.{length, get_or}
use lib.Dec.{ltb}
use borrow.Author.Tests.{lt-ltb, le-ltb}
use Rattle.machine_pws.specs.declared.Message.{Message}
use Rattle.machine_pws.specs.Program.{Shape, Program, WellFormed}
use Rattle.machine_pws.specs.Machine.{Memory, Configuration, message}
use Rattle.machine_pws.specs.Configurations.{MessageIn, ValueOf, StartingMemory, starting_memory, Start, start_with}

-- a value for the processes that exist, and 0 for the others
pub exists_same : (n : ℕ) (f g : ℕ → ℕ) → ((p : ℕ) → p < n → f p ≡ g p) → ((p : ℕ) → n ≤ p → f p ≡ 0) → f ≡ (λ p. cond (ltb p n) (g p) 0)
exists_same n f g a b = fun_ext (λ p. elim (dec_lt p n) [
  | yes l ↦ rw (lt-ltb p n l) (a p l)
  | no l ↦ rw (le-ltb p n (omega arith)) (b p (omega arith))
])

-- and what holds of those that exist
exists_at : (n : ℕ) (g : ℕ → ℕ) (p : ℕ) → p < n → cond (ltb p n) (g p) 0 ≡ g p
exists_at n g p l = rw (lt-ltb p n l)

absent_at : (n : ℕ) (g : ℕ → ℕ) (p : ℕ) → n ≤ p → cond (ltb p n) (g p) 0 ≡ 0
absent_at n g p l = rw (le-ltb p n l)

one_message : (m : Message) (i : ℕ) → 1 ≤ i → i ≤ 1 → message (m ∷ []) i ≡ m
one_message m i a b = let e : i ≡ 1 = omega arith in ap (message (m ∷ [])) e

pub start_exists : (P : Program) → WellFormed P → (memory : List ℕ) → StartingMemory P.shape memory → (p v : ℕ) → p < P.shape.processes
    → v < P.shape.variables → Start P (start_with P memory p v)
start_exists P R memory m p v pe ve =
    let n = P.shape.processes in
    let first : Message = record { process = p; variable = v; snapshot = memory } in
    record {
      configuration =
          record {
            states =
                record {
                  exist = λ q e. rw (lt-ltb q n e) (R.initial q e);
                  absent = λ q l. absent_at n P.initial q l;
                };
            fits =
                record {
                  memory =
                      record {
                        some = omega arith;
                        low = λ q e. rw (lt-ltb q n e) (omega arith);
                        high = λ q e. rw (lt-ltb q n e) (omega arith);
                        messages = λ i a b. rw (one_message first i a b)
                            (record {
                              process = pe;
                              variable = ve;
                              room = m.room;
                              values = m.values;
                              absent = m.absent;
                            });
                        absent = λ q l. absent_at n (λ q. 1) q l;
                      };
                  queues = record { values = λ q u e f. tt; absent = λ q u l. refl };
                };
          };
      states = λ q e. exists_at n P.initial q e;
      queues = λ q u e f. refl;
      one = refl;
      pointers = λ q e. exists_at n (λ q. 1) q e;
    }

pub record StartsWith (P : Program) (memory : List ℕ) (c : Configuration) : Type 0 where
  pub process : ℕ
  pub variable : ℕ
  pub process_exists : process < P.shape.processes
  pub variable_exists : variable < P.shape.variables
  pub same : c ≡ start_with P memory process variable

one_channel : (ms : List Message) → length ms ≡ 1 → ms ≡ message ms 1 ∷ []
one_channel [] e = absurd (omega arith)
one_channel (m ∷ []) e = refl
one_channel (m ∷ n ∷ ms) e = absurd (omega arith)

-- the memory of a start is one that a run may start from
pub start_memory : (P : Program) (c : Configuration) → Start P c → StartingMemory P.shape (starting_memory c)
start_memory P c s =
    let o = s.configuration.fits.memory.messages 1 (omega arith) (omega (arith, s.one)) in
    record { room = o.room; values = o.values; absent = o.absent }

pub start_is : (P : Program) (memory : List ℕ) (c : Configuration) → Start P c → starting_memory c ≡ memory → StartsWith P memory c
start_is P memory c s same =
    let m = message c.memory.channel 1 in
    let o = s.configuration.fits.memory.messages 1 (omega arith) (omega (arith, s.one)) in
    let channel : c.memory.channel ≡ record { process = m.process; variable = m.variable; snapshot = memory } ∷ [] =
    one_channel c.memory.channel s.one ∙ ap (λ (w : List ℕ). record { process = m.process; variable = m.variable; snapshot = w } ∷ []) same in
    let states = exists_same P.shape.processes c.state P.initial s.states s.configuration.states.absent in
    let pointers = exists_same P.shape.processes c.memory.pointer (λ q. 1) s.pointers s.configuration.fits.memory.absent in
    let queues : c.queue ≡ (λ p v. []) = fun_ext (λ p. fun_ext (λ v. elim (dec_lt p P.shape.processes) [
      | yes a ↦ elim (dec_lt v P.shape.variables) [ yes b ↦ s.queues p v a b | no b ↦ s.configuration.fits.queues.absent p v (inr (omega arith)) ]
      | no a ↦ s.configuration.fits.queues.absent p v (inl (omega arith))
    ])) in
    record {
      process = m.process;
      variable = m.variable;
      process_exists = o.process;
      variable_exists = o.variable;
      same = λ i. record { state = states i; queue = queues i; memory = record { channel = channel i; pointer = pointers i } };
    }
