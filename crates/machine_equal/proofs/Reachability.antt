-- The two machines reach the same targets (report, Conjecture 1): a start of either machine has one of the other with the same memory, and
-- what one machine reaches, the other reaches.
use Prim.Native.Nat.{ℕ, ◌≤◌}
use mathlib.Core.Path.{◌≡◌, refl, sym, ap, subst, ◌∙◌}
use mathlib.Core.Bool.{cond}
use mathlib.Core.List.{List, [], ◌∷◌}
use native.Mathlib.Omega.{arith}
use lib.Dec.{ltb}
use borrow.Author.Tests.{lt-ltb, le-ltb}
use Rattle.machine_pws.specs.declared.Message.{Message}
use Rattle.machine_pws.specs.declared.Step.{Step}
use Rattle.machine_pws.specs.Program.{Program, WellFormed}
use Rattle.machine_pws.specs.Machine.{Configuration, message}
use Rattle.machine_pws.specs.Configurations.{StartingMemory, starting_memory, Start}
use Rattle.machine_pws.specs.Sequences.{Takes, Visited, done, step}
use Rattle.machine_pws.specs.Sequences as sequences
use Rattle.machine_pso.specs.declared.PsoStep.{PsoStep}
use Rattle.machine_pso.specs.Machine.{PsoConfiguration}
use Rattle.machine_pso.specs.Runs.{PsoStart, PsoTakes, PsoVisited}
use Rattle.machine_pso.specs.Runs as runs
use Rattle.machine_equal.specs.Equivalence.{PwsStart, SameReachability}
use Rattle.machine_equal.proofs.Forward.{pws_to_pso}
use Rattle.machine_equal.proofs.Backward.{pso_to_pws}

-- ---- starts

-- every memory has a start of the PSO machine
pub pso_start : (P : Program) (memory : List ℕ) → StartingMemory P.shape memory → (d : PsoConfiguration) × PsoStart P memory d
pso_start P memory o = (
  record { state = P.initial; buffer = λ p v. []; memory = memory },
  record { permitted = o; states = λ p l. refl; buffers = λ p v l h. refl; starts = refl },
)

-- and one of the PWS machine, whose message has the label (0, 0)
abbrev start_of : Program → List ℕ → Configuration
start_of P memory =
    record {
      state = λ q. cond (ltb q P.shape.processes) (P.initial q) 0;
      queue = λ q u. [];
      memory =
          record {
            channel = record { process = 0; variable = 0; snapshot = memory } ∷ [];
            pointer = λ q. cond (ltb q P.shape.processes) 1 0;
          };
    }

one_message : (m : Message) (i : ℕ) → 1 ≤ i → i ≤ 1 → message (m ∷ []) i ≡ m
one_message m i a b = let e : i ≡ 1 = omega arith in ap (message (m ∷ [])) e

pub pws_start : (P : Program) → WellFormed P → (memory : List ℕ) → StartingMemory P.shape memory → PwsStart P memory (start_of P memory)
pws_start P R memory o =
    let n = P.shape.processes in
    let first : Message = record { process = 0; variable = 0; snapshot = memory } in
    record {
      configuration =
          record {
            states = record { exist = λ q e. rw (lt-ltb q n e) (R.initial q e); absent = λ q l. rw (le-ltb q n l) };
            fits =
                record {
                  memory =
                      record {
                        some = omega arith;
                        low = λ q e. rw (lt-ltb q n e) (omega arith);
                        high = λ q e. rw (lt-ltb q n e) (omega arith);
                        messages = λ i a b. rw (one_message first i a b)
                            (record {
                              process = omega (arith, R.shape.some_process);
                              variable = omega (arith, R.shape.some_variable);
                              room = o.room;
                              values = o.values;
                              absent = o.absent;
                            });
                        absent = λ q l. rw (le-ltb q n l);
                      };
                  queues = record { values = λ q u e f. tt; absent = λ q u l. refl };
                };
          };
      states = λ q e. rw (lt-ltb q n e);
      queues = λ q u e f. refl;
      one = refl;
      starts = refl;
      pointers = λ q e. rw (lt-ltb q n e);
    }

-- the starts with a memory are the starts
pub permitted_start : (P : Program) (memory : List ℕ) (c : Configuration) → PwsStart P memory c → Start P c
permitted_start P memory c s =
    record { configuration = s.configuration; states = s.states; queues = s.queues; one = s.one; pointers = s.pointers }

pub start_of_lem : (P : Program) (memory : List ℕ) (c : Configuration) → Start P c → starting_memory c ≡ memory → PwsStart P memory c
start_of_lem P memory c s e = record { configuration = s.configuration; states = s.states; queues = s.queues; one = s.one; starts = e; pointers = s.pointers }

pub memory_of : (P : Program) (memory : List ℕ) (c : Configuration) → PwsStart P memory c → StartingMemory P.shape memory
memory_of P memory c s =
    let m = s.configuration.fits.memory.messages 1 (omega arith) (omega (arith, s.one)) in
    let o : StartingMemory P.shape (starting_memory c) = record { room = m.room; values = m.values; absent = m.absent } in
    subst (StartingMemory P.shape) s.starts o

-- ---- what is visited is reached

pub visited_takes : {P : Program} {d e : PsoConfiguration} {us : List PsoStep} → PsoVisited P d us e → (ws : List PsoStep) × PsoTakes P d ws e
visited_takes runs.start = ([], runs.done)
visited_takes (runs.later u t r) = let w = visited_takes r in (u ∷ w.0, runs.step u t w.1)

pub takes_visited : {P : Program} {c d : Configuration} {ss : List Step} → Takes P c ss d → Visited P c ss d
takes_visited done = sequences.start
takes_visited (step s t r) = sequences.later s t (takes_visited r)

-- ---- the conjecture

pub same_reachability : SameReachability
same_reachability P R memory target = (
  λ w.
      let d = pso_start P memory (memory_of P memory w.first w.starts) in
      let r = pws_to_pso P R memory w.first d.0 w.starts d.1 w.steps w.last w.takes in
      record { first = d.0; starts = d.1; steps = r.steps; last = r.end; takes = r.takes; reached = λ p l. sym (r.same p l) ∙ w.reached p l },
  λ w.
      let s = pws_start P R memory w.starts.permitted in
      let r = pso_to_pws P R memory (start_of P memory) w.first s w.starts w.steps w.last w.takes in
      record { first = start_of P memory; starts = s; steps = r.steps; last = r.end; takes = r.takes; reached = λ p l. r.same p l ∙ w.reached p l },
)
