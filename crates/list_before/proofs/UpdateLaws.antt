-- The label that a pointer repeats.
use Prim.Native.Nat.{ℕ, suc, ◌-◌, ◌/◌, ◌%◌, ◌<◌, min}
use mathlib.Core.Path.{◌≡◌, sym, ap, ap₂, ◌∙◌}
use mathlib.Core.Bool.{Bool, true, ◌||◌, not}
use mathlib.Core.List.{List, [], ◌∷◌}
use native.Mathlib.Omega.{arith}
use lib.ListN.{length, get_or}
use lib.Dec.{eqb}
use borrow.Author.Tests.{eq-eqb, ne_eqb}
use Rattle.machine_pws.specs.declared.Message.{Message}
use Rattle.machine_pws.specs.Program as pws
use Rattle.std.specs.Prelude.{Some}
use Rattle.base.proofs.Tests.{all_false}
use Rattle.machine_pws.specs.Machine.{all_below, no_message, message, last_write}
use Rattle.list_theory.specs.Cubes.{message_of, any_message}
use Rattle.file_records.specs.declared.program.Shape.{Shape}
use Rattle.file_records.specs.ProgramPart.{shape_of}
use Rattle.file_contents.specs.declared.entry.Cube.{Cube}
use Rattle.file_contents.specs.Cube.{configuration_of}
use Rattle.file_contents.proofs.CubeParts.{channel_message}
use Rattle.list_key.proofs.ValueLaws.{SameBytes}
use Rattle.list_cube.specs.Editing.{Sound, LastWrites, WritePlace}
use Rattle.list_before.specs.Before.{Repeats}
use Rattle.list_cube.proofs.QueueLaws.{no_both}
use Rattle.list_cube.proofs.WriteLaws.{four_list}

-- of the first n processes none but p points at z
pub none_at : (zs : List ℕ) (z p n : ℕ) → all_below n (λ q. eqb q p || not (eqb (get_or zs q 0) z)) ≡ true → (q : ℕ) → q < n → (q ≡ p → ⊥) → get_or zs q 0 ≡ z → ⊥
none_at zs z p n e q l d f =
    no_both (sym e ∙ all_false n (λ q. eqb q p || not (eqb (get_or zs q 0) z)) q l (ap₂ (λ (a b : Bool). a || not b) (ne_eqb q p d) (eq-eqb (get_or zs q 0) z f)))

-- values that are free are those of a message of the label
pub free_message : (S : pws.Shape) (m k : Message) → k ≡ any_message S m.process m.variable → length m.snapshot ≡ 4 → length k.snapshot ≡ 4
    → SameBytes (get_or m.snapshot 0 0) (get_or m.snapshot 1 0) (get_or m.snapshot 2 0) (get_or m.snapshot 3 0) (get_or k.snapshot 0 0) (get_or k.snapshot 1 0) (get_or k.snapshot 2 0) (get_or k.snapshot 3 0)
    → m ≡ any_message S m.process m.variable
free_message S m k e a b w =
    ap (message_of m.process m.variable)
    (sym (four_list m.snapshot a)
    ∙ ap₂ (λ (x : ℕ) (xs : List ℕ). x ∷ xs) w.first (ap₂ (λ (x : ℕ) (xs : List ℕ). x ∷ xs) w.second (ap₂ (λ (x : ℕ) (xs : List ℕ). x ∷ xs) w.third (ap (λ (x : ℕ). x ∷ []) w.fourth)))
    ∙ four_list k.snapshot b ∙ ap (λ (x : Message). x.snapshot) e)

pub repeats : (s : Shape) (c : Cube) (writes : List ℕ) (p i z : ℕ) → z ≡ get_or c.pointers p 0 → (z ≡ 0 → ⊥)
    → WritePlace (get_or c.messages (z - 1) no_message) (Some i) → z < get_or writes i 0
    → get_or c.messages (z - 1) no_message ≡ any_message (shape_of s) (get_or c.messages (z - 1) no_message).process (get_or c.messages (z - 1) no_message).variable
    → ((q : ℕ) → q < min s.processes 4 → (q ≡ p → ⊥) → get_or c.pointers q 0 ≡ get_or c.pointers p 0 → ⊥)
    → Sound s c → LastWrites writes (configuration_of c).memory → p < s.processes → Repeats (shape_of s) (configuration_of c).memory p (i / 4) (i % 4)
repeats s c writes p i z is some w past free alone S ws pe =
    let m = get_or c.messages (z - 1) no_message in
    let a : m.process ≡ i / 4 = omega (arith, w.0, w.1, w.2) in
    let b : m.variable ≡ i % 4 = omega (arith, w.0, w.1, w.2) in
    let e : suc (z - 1) ≡ z = omega (arith, some) in
    record {
      message =
          ap (message (configuration_of c).memory.channel) (sym (e ∙ is))
          ∙ channel_message c.messages c.count (z - 1) (omega (arith, some, is, S.pointers p (omega (arith, pe, S.processes))))
          ∙ free ∙ ap₂ (any_message (shape_of s)) a b;
      alone = λ q k. alone q (omega (arith, k, S.processes));
      past = omega (arith, past, is, ap (λ (k : ℕ). get_or writes k 0) w.2 ∙ ws m.process m.variable w.0 w.1 ∙ ap₂ (last_write (configuration_of c).memory) a b);
    }
