-- Values stay in the ranges of their variables: in every step, and so in every configuration that is visited from a start.
use Prim.Native.Nat.{ℕ, zero, suc, ◌<◌, ◌≤◌}
use mathlib.Core.Path.{◌≡◌, refl, sym, subst, ◌∙◌}
use mathlib.Core.Logic.{◌⊎◌, inl, inr, ⊎_elim}
use mathlib.Core.List.{List, [], ◌∷◌, ◌++◌}
use native.Mathlib.Omega.{arith}
use native.Mathlib.Decide.{dec_le, dec_lt, ℕ_discrete}
use lib.ListN.{length, get_or, set, length-set, get_or-eq_default}
use lib.Seq.{get_or-set_same, get_or-set_other}
use lib.Dec.{T}
use Rattle.machine_pws.specs.declared.Message.{Message}
use Rattle.machine_pws.specs.declared.Operation.{Operation}
use Rattle.machine_pws.specs.declared.Operation.TheVariants.{Nop, Read, Write, Mfence, Sfence, Arw}
use Rattle.machine_pws.specs.declared.Step.{Step}
use Rattle.machine_pws.specs.declared.Step.TheVariants.{Take, Serialise, Update}
use Rattle.machine_pws.specs.Program.{Shape, Program, transition, OperationOf, WellFormed, ShapeInRange}
use Rattle.machine_pws.specs.Machine.{Memory, Configuration, message, newest, copy_with, append, put_queue, without_oldest, queue_after, memory_after, may, after}
use Rattle.machine_pws.specs.Configurations.{All, ConfigurationOf, Start}
use Rattle.machine_pws.specs.Sequences.{Visited, start, later}
use Rattle.machine_pws.specs.Entries.{NoValueIsFF}
use Rattle.machine_pws.specs.Ranges.{Within, InRanges, CountsOf, KeepsRanges}
use Rattle.machine_pws.proofs.Facts.{put_queue_each, message_each}
use Rattle.machine_pws.proofs.Steps.{take_yes, serialise_yes, all_oldest, all_rest, all_snoc}

within_zero : (n : ℕ) → Within n 0
within_zero zero = inr (refl, refl)
within_zero (suc n) = inl (omega arith)

-- a snapshot with one value changed
pub within_set : (counts xs : List ℕ) (v x : ℕ) → x < get_or counts v 0 → ((u : ℕ) → Within (get_or counts u 0) (get_or xs u 0))
    → (u : ℕ) → Within (get_or counts u 0) (get_or (set xs v x) u 0)
within_set counts xs v x l o u = elim (ℕ_discrete u v) [
  | yes e ↦ elim (dec_lt v (length xs)) [
    | yes i ↦ rw (e, get_or-set_same xs v x 0 i) (inl l)
    | no i ↦ let past : length (set xs v x) ≤ u = omega (arith, length-set xs v x) in rw (get_or-eq_default (set xs v x) 0 past) (within_zero (get_or counts u 0))
  ]
  | no e ↦ rw (get_or-set_other xs v u x 0 e) (o u)
]

module _ (P : Program) (R : WellFormed P) (counts : List ℕ) (C : CountsOf P.shape counts) where
  -- the values of a channel
  abbrev Sent : List Message → Type 0
  Sent ms = (i v : ℕ) → 1 ≤ i → i ≤ length ms → Within (get_or counts v 0) (get_or (message ms i).snapshot v 0)

  abbrev Waits : (ℕ → ℕ → List ℕ) → Type 0
  Waits Q = (p v : ℕ) → All (λ x. x < get_or counts v 0) (Q p v)

  newest_within : (ms : List Message) → Sent ms → (v : ℕ) → Within (get_or counts v 0) (get_or (newest ms).snapshot v 0)
  newest_within [] o v = within_zero (get_or counts v 0)
  newest_within (m ∷ ms) o v = o (suc (length ms)) v (omega arith) (omega arith)

  sent_append : (ms : List Message) (p v x : ℕ) → Sent ms → x < get_or counts v 0 → Sent (copy_with ms p v x ∷ ms)
  sent_append ms p v x o l i u a b =
      message_each (λ m. Within (get_or counts u 0) (get_or m.snapshot u 0)) (copy_with ms p v x) ms i b
      (within_set counts (newest ms).snapshot v x l (newest_within ms o) u) (o i u a)

  waits_put : (Q : ℕ → ℕ → List ℕ) (p v : ℕ) (xs : List ℕ) → Waits Q → All (λ x. x < get_or counts v 0) xs → Waits (put_queue Q p v xs)
  waits_put Q p v xs o a q u = put_queue_each Q p v xs (λ q u ys. All (λ x. x < get_or counts u 0) ys) q u a (λ n. o q u)

  -- a value that an operation names
  named : (v x : ℕ) → v < P.shape.variables → x < P.shape.values v → x < get_or counts v 0
  named v x ve l = omega (arith, C.present v ve)

  module _ (c : Configuration) (o : InRanges counts c) where
    sent_operation : (p : ℕ) (x : Operation) → OperationOf P.shape x → Sent (memory_after c.memory p x).channel
    sent_operation p Nop w = o.snapshots
    sent_operation p (Read v x) w = o.snapshots
    sent_operation p (Write v x) w = o.snapshots
    sent_operation p Mfence w = o.snapshots
    sent_operation p Sfence w = o.snapshots
    sent_operation p (Arw v old new) w = sent_append c.memory.channel p v new o.snapshots (named v new w.0 w.2)

    waits_operation : (p : ℕ) (x : Operation) → OperationOf P.shape x → Waits (queue_after c p x)
    waits_operation p Nop w = o.queues
    waits_operation p (Read v x) w = o.queues
    waits_operation p (Write v x) w =
        waits_put c.queue p v (c.queue p v ++ (x ∷ [])) o.queues
        (all_snoc (λ y. y < get_or counts v 0) (c.queue p v) x (o.queues p v) (named v x w.0 w.1))
    waits_operation p Mfence w = o.queues
    waits_operation p Sfence w = o.queues
    waits_operation p (Arw v old new) w = o.queues

    pub step_in_ranges : (s : Step) → T (may P c s) → InRanges counts (after P c s)
    step_in_ranges (Take n) t =
        let q = transition P n in
        let w = (R.transitions n (take_yes P c n t).0).operation in
        record { snapshots = sent_operation q.process q.operation w; queues = waits_operation q.process q.operation w }
    step_in_ranges (Serialise p v) t =
        let r = serialise_yes P c p v t in
        record {
          snapshots = sent_append c.memory.channel p v (get_or (c.queue p v) 0 0) o.snapshots
              (all_oldest (λ y. y < get_or counts v 0) (c.queue p v) r.2 (o.queues p v));
          queues = waits_put c.queue p v (without_oldest (c.queue p v)) o.queues (all_rest (λ y. y < get_or counts v 0) (c.queue p v) (o.queues p v));
        }
    step_in_ranges (Update p) t = record { snapshots = o.snapshots; queues = o.queues }

  all_map : (F G : ℕ → Type 0) (xs : List ℕ) → ((x : ℕ) → F x → G x) → All F xs → All G xs
  all_map F G [] f a = tt
  all_map F G (x ∷ xs) f a = (f x a.0, all_map F G xs f a.1)

  -- the configurations of the program have their values there
  pub configuration_in_ranges : (c : Configuration) → ConfigurationOf P c → InRanges counts c
  configuration_in_ranges c o =
      record {
        snapshots = λ i v a b. let m = o.fits.memory.messages i a b in elim (dec_lt v P.shape.variables) [
          | yes l ↦ inl (named v _ l (m.values v l))
          | no l ↦ inr (C.absent v (omega arith), m.absent v (omega arith))
        ];
        queues = λ p v. elim (dec_lt v P.shape.variables) [
          | yes l ↦ elim (dec_lt p P.shape.processes) [
            | yes e ↦ all_map (λ x. x < P.shape.values v) (λ x. x < get_or counts v 0) (c.queue p v) (λ x. named v x l) (o.fits.queues.values p v e l)
            | no e ↦ subst (All (λ x. x < get_or counts v 0)) (sym (o.fits.queues.absent p v (inl (omega arith)))) tt
          ]
          | no l ↦ subst (All (λ x. x < get_or counts v 0)) (sym (o.fits.queues.absent p v (inr (omega arith)))) tt
        ];
      }

  visited_in_ranges : {b c : Configuration} {ss : List Step} → InRanges counts b → Visited P b ss c → InRanges counts c
  visited_in_ranges o start = o
  visited_in_ranges {b} o (later s t r) = visited_in_ranges (step_in_ranges b o s t) r

  pub keeps_ranges : KeepsRanges P counts
  keeps_ranges =
      record {
        steps = λ c s o t. step_in_ranges c o s t;
        visited = λ c b ss d v. visited_in_ranges (configuration_in_ranges c b.configuration) v;
      }

-- the format's values leave FF free
pub format_no_ff : {S : Shape} → ShapeInRange S → NoValueIsFF S
format_no_ff R v l = omega (arith, R.values v l)
