-- The run of one process p of the PSO machine, as p sees it: p's own steps, and a memory that holds the snapshots of a channel in turn.
use Prim.Native.Nat.{ℕ, zero, suc, ◌≤◌}
use mathlib.Core.Path.{◌≡◌, sym, subst}
use mathlib.Core.Logic.{◌≢◌}
use mathlib.Core.List.{List, ◌∷◌}
use native.Mathlib.Omega.{arith}
use lib.ListN.{length}
use lib.Dec.{T}
use Rattle.machine_pws.specs.declared.Message.{Message}
use Rattle.machine_pws.specs.Program.{Program}
use Rattle.machine_pws.specs.Machine.{message}
use Rattle.machine_pws.proofs.Facts.{message_old}
use Rattle.machine_pso.specs.declared.PsoStep.{PsoStep}
use Rattle.machine_pso.specs.Machine.{PsoConfiguration, pso_may, pso_after}
use Rattle.machine_equal.proofs.Pso.{step_process}

module _ (P : Program) (p : ℕ) where
  -- steps of p from a to d that keep memory
  pub data Locals : PsoConfiguration → PsoConfiguration → Type 0 where
    none : {a : PsoConfiguration} → Locals a a
    more : {a d : PsoConfiguration} (u : PsoStep) → Locals a d → step_process P u ≡ p → T (pso_may P d u) → (pso_after P d u).memory ≡ d.memory
        → Locals a (pso_after P d u)

  -- memory comes to be the snapshot of m: by a step of p if m carries p's label, else p does nothing
  pub data Next (m : Message) : PsoConfiguration → PsoConfiguration → Type 0 where
    makes : {d : PsoConfiguration} (u : PsoStep) → step_process P u ≡ p → m.process ≡ p → T (pso_may P d u) → (pso_after P d u).memory ≡ m.snapshot
        → Next m d (pso_after P d u)
    other : {d : PsoConfiguration} → m.process ≢ p → Next m d (record { state = d.state; buffer = d.buffer; memory = m.snapshot })

  -- p comes to message number 1 + j in a
  abbrev pub Arrives : PsoConfiguration → List Message → ℕ → PsoConfiguration → Type 0
  Arrives d₀ ms zero a = a ≡ d₀
  Arrives d₀ ms (suc j) a = (b : PsoConfiguration) × (d : PsoConfiguration) × Arrives d₀ ms j b × Locals b d × Next (message ms (suc (suc j))) d a

  -- p is at message number 1 + j in d
  pub record Thread (d₀ : PsoConfiguration) (ms : List Message) (j : ℕ) (d : PsoConfiguration) : Type 0 where
    pub arrived : PsoConfiguration
    pub arrives : Arrives d₀ ms j arrived
    pub stays : Locals arrived d

  -- a message appended to the channel changes nothing
  pub arrives_grow : (d₀ : PsoConfiguration) (m : Message) (ms : List Message) (j : ℕ) (a : PsoConfiguration) → suc j ≤ length ms → Arrives d₀ ms j a → Arrives d₀ (m ∷ ms) j a
  arrives_grow d₀ m ms zero a l r = r
  arrives_grow d₀ m ms (suc j) a l r =
      (r.0, r.1, arrives_grow d₀ m ms j r.0 (omega arith) r.2, r.3, subst (λ (x : Message). Next x r.1 a) (sym (message_old m ms (suc (suc j)) l)) r.4)

  pub thread_grow : {d₀ : PsoConfiguration} {ms : List Message} {j : ℕ} {d : PsoConfiguration} (m : Message) → suc j ≤ length ms → Thread d₀ ms j d → Thread d₀ (m ∷ ms) j d
  thread_grow {d₀} {ms} {j} m l r = record { arrived = r.arrived; arrives = arrives_grow d₀ m ms j r.arrived l r.arrives; stays = r.stays }

  -- p goes on to the next message
  pub thread_next : {d₀ : PsoConfiguration} {ms : List Message} {j : ℕ} {b d a : PsoConfiguration} → Arrives d₀ ms j b → Locals b d → Next (message ms (suc (suc j))) d a
      → Thread d₀ ms (suc j) a
  thread_next {b = b} {d = d} {a = a} r l n = record { arrived = a; arrives = (b, d, r, l, n); stays = none }
