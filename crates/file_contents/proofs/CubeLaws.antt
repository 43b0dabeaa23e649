-- Laws of loading an entry.
use Prim.Native.Nat.{ℕ, zero, suc, ◌+◌, ◌*◌, ◌-◌, ◌<◌, ◌≤◌}
use mathlib.Core.Path.{◌≡◌, refl, sym, ap, ◌∙◌}
use mathlib.Core.Bool.{Bool, true, false, ◌&&◌}
use mathlib.Core.List.{List, [], ◌∷◌}
use native.Mathlib.Omega.{arith}
use native.Mathlib.Decide.{dec_lt}
use lib.ListN.{length, get_or}
use lib.Dec.{eqb, ltb}
use borrow.Author.Tests.{eqb-true, ltb-true, lt-ltb, le-ltb}
use Rattle.file_contents.specs.declared.entry.Loaded.{Loaded}
use Rattle.base.specs.Bytes.{byte}
use Rattle.file_records.specs.Records.{is_kind}
use Rattle.file_contents.specs.Cube.{loads_message, loads_waiting, nothing_loaded, more_message, more_waiting, load_from, loaded}
use Rattle.base.proofs.ByteLaws.{byte_past}
use Rattle.file_records.proofs.ProgramLaws.{and_true}

-- a record of a kind stands in the file
pub kind_inside : (f : List ℕ) (at kind : ℕ) → is_kind f at kind ≡ true → 1 ≤ kind → at < length f
unfolding is_kind
kind_inside f at kind e l = elim (dec_lt at (length f)) [
  | yes a ↦ a
  | no a ↦ absurd (omega (arith, eqb-true (byte f at) kind e, byte_past f at (omega arith)))
]

module _ (f : List ℕ) (at : ℕ) where
  pub message_loads : (count : ℕ) → loads_message f at count ≡ true → (at < length f) × (count < 20)
  unfolding loads_message
  message_loads count e =
      let r = and_true (is_kind f at 17) (ltb count 20) e in
      (kind_inside f at 17 r.0 (omega arith), ltb-true count 20 r.1)

  pub waiting_loads : loads_waiting f at ≡ true → (at < length f) × (byte f (at + 1) < 4) × (byte f (at + 2) < 4)
  unfolding loads_waiting
  waiting_loads e =
      let r = and_true (is_kind f at 18) (ltb (byte f (at + 1)) 4 && ltb (byte f (at + 2)) 4) e in
      let s = and_true (ltb (byte f (at + 1)) 4) (ltb (byte f (at + 2)) 4) r.1 in
      (kind_inside f at 18 r.0 (omega arith), ltb-true (byte f (at + 1)) 4 s.0, ltb-true (byte f (at + 2)) 4 s.1)

  module _ (l : Loaded) where
    pub load_message : (bytes : ℕ) → loads_message f at l.count ≡ true → load_from (suc bytes) f at l ≡ load_from bytes f (at + 7) (more_message f at l)
    unfolding load_from
    load_message bytes e = rw e

    pub load_waiting : (bytes : ℕ) → loads_message f at l.count ≡ false → loads_waiting f at ≡ true → load_from (suc bytes) f at l ≡ load_from bytes f (at + 4) (more_waiting f at l)
    unfolding load_from
    load_waiting bytes e d = rw (e, d)

    pub load_ends : (bytes : ℕ) → loads_message f at l.count ≡ false → loads_waiting f at ≡ false → load_from bytes f at l ≡ l
    unfolding load_from
    load_ends zero e d = refl
    load_ends (suc bytes) e d = rw (e, d)

-- ---- what the loop knows

pub record Loading (f : List ℕ) (at : ℕ) (l : Loaded) (k : ℕ) : Type 0 where
  pub bytes : ℕ
  pub reads : load_from bytes f k l ≡ loaded f at
  pub enough : length f ≤ bytes + k

pub loading_begin : (f : List ℕ) (at : ℕ) → at < length f → Loading f at nothing_loaded (at + 9)
unfolding loaded
loading_begin f at l = record { bytes = length f; reads = sym (rw (lt-ltb at (length f) l)); enough = omega arith }

pub loaded_nothing : (f : List ℕ) (at : ℕ) → length f ≤ at → loaded f at ≡ nothing_loaded
unfolding loaded
loaded_nothing f at l = rw (le-ltb at (length f) l)

module _ {f : List ℕ} {at : ℕ} {l : Loaded} {k : ℕ} (L : Loading f at l k) where
  some : k < length f → L.bytes ≡ suc (L.bytes - 1)
  some a = omega (arith, L.enough)

  pub loading_message : loads_message f k l.count ≡ true → Loading f at (more_message f k l) (k + 7)
  loading_message e =
      let b = some (message_loads f k l.count e).0 in
      record {
        bytes = L.bytes - 1;
        reads = sym (load_message f k l (L.bytes - 1) e) ∙ ap (λ (n : ℕ). load_from n f k l) (sym b) ∙ L.reads;
        enough = omega (arith, L.enough);
      }

  pub loading_waiting : loads_message f k l.count ≡ false → loads_waiting f k ≡ true → Loading f at (more_waiting f k l) (k + 4)
  loading_waiting e d =
      let b = some (waiting_loads f k d).0 in
      record {
        bytes = L.bytes - 1;
        reads = sym (load_waiting f k l (L.bytes - 1) e d) ∙ ap (λ (n : ℕ). load_from n f k l) (sym b) ∙ L.reads;
        enough = omega (arith, L.enough);
      }

  pub loading_ends : loads_message f k l.count ≡ false → loads_waiting f k ≡ false → loaded f at ≡ l
  loading_ends e d = sym L.reads ∙ load_ends f k l L.bytes e d
