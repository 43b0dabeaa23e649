-- The cues of messages, newest first.
use Prim.Native.Nat.{ℕ, ◌-◌, ◌<◌, ◌≤◌, min}
use mathlib.Core.Path.{◌≡◌, sym, subst, ◌∙◌}
use mathlib.Core.List.{List}
use native.Mathlib.Omega.{arith}
use native.Mathlib.Decide.{ℕ_discrete}
use lib.ListN.{length, get_or, set, length-set}
use lib.Seq.{get_or-set_same, get_or-set_other}
use Rattle.machine_pws.specs.declared.Message.{Message}
use Rattle.machine_pws.specs.Machine.{no_message}
use Rattle.file_contents.specs.declared.entry.Cube.{Cube}
use Rattle.list_key.specs.Cue.{Cue, Cues}

-- the cues of the messages from i up to n
pub record Cueing (ms : List Message) (tags cues : List ℕ) (n i : ℕ) : Type 0 where
  pub room : length cues ≡ 20
  pub each : (j : ℕ) → i ≤ j → j < n → Cue (get_or cues j 0) (get_or ms j no_message) (get_or tags j 0)

pub cueing_begin : (ms : List Message) (tags : List ℕ) {cues : List ℕ} (n : ℕ) → length cues ≡ 20 → Cueing ms tags cues n n
cueing_begin ms tags n e = record { room = e; each = λ j g l. absurd (omega arith) }

pub cueing_next : {ms : List Message} {tags cues : List ℕ} {n i r : ℕ} → Cueing ms tags cues n i → 0 < i → i ≤ 20 → Cue r (get_or ms (i - 1) no_message) (get_or tags (i - 1) 0) → Cueing ms tags (set cues (i - 1) r) n (i - 1)
cueing_next {ms} {tags} {cues} {n} {i} {r} w l b K =
    record {
      room = length-set cues (i - 1) r ∙ w.room;
      each = λ j g k. elim (ℕ_discrete j (i - 1)) [
        | yes d ↦ subst (λ (x : ℕ). Cue (get_or (set cues (i - 1) r) x 0) (get_or ms x no_message) (get_or tags x 0)) (sym d)
            (subst (λ (x : ℕ). Cue x (get_or ms (i - 1) no_message) (get_or tags (i - 1) 0)) (sym (get_or-set_same cues (i - 1) r 0 (omega (arith, w.room)))) K)
        | no d ↦ subst (λ (x : ℕ). Cue x (get_or ms j no_message) (get_or tags j 0)) (sym (get_or-set_other cues (i - 1) j r 0 (λ q. omega arith))) (w.each j (omega arith) k)
      ];
    }

pub cueing_end : (c : Cube) {tags cues : List ℕ} {n i : ℕ} → Cueing c.messages tags cues n i → n ≡ min c.count 20 → i ≡ 0 → Cues c tags cues
cueing_end c w e z = λ j l. w.each j (omega arith) (omega arith)
