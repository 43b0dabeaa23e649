-- Laws of the lower part's bytes.
use Prim.Native.Nat.{ℕ, ◌+◌, ◌*◌, ◌≤◌}
use mathlib.Core.Path.{◌≡◌, refl}
use mathlib.Core.Bool.{Bool, true, false}
use mathlib.Core.List.{List}
use native.Mathlib.Omega.{arith}
use lib.ListN.{get_or-eq_default, length, length-set, get_or, set}
use lib.Dec.{ltb}
use Rattle.machine_pws.specs.declared.Operation.TheVariants.{Nop}
use Rattle.run_layout.specs.Layout.{put_snapshot}
use Rattle.base.specs.Bytes.{choose, byte}
use Rattle.file_records.specs.Records.{transition_at, operation_of}

-- ---- past the end of a file everything is 0

byte_past : (f : List ℕ) (i : ℕ) → length f ≤ i → byte f i ≡ 0
byte_past f i l = get_or-eq_default f 0 l

pub transition_past : (f : List ℕ) (at : ℕ) → length f ≤ at → transition_at f at ≡ record { process = 0; from = 0; operation = Nop; to = 0 }
unfolding operation_of
transition_past f at l =
    rw (byte_past f (at + 1) (omega arith), byte_past f (at + 2) (omega arith), byte_past f (at + 3) (omega arith), byte_past f (at + 7) (omega arith))

-- ---- a stored snapshot keeps the length

pub snapshot_length : (a : List ℕ) (i : ℕ) (s : List ℕ) → length (put_snapshot a i s) ≡ length a
unfolding put_snapshot
snapshot_length a i s = go (ltb (length a) (4 * i + 4))
  where
    go : (b : Bool)
        → length (choose b (λ _. a) (λ _. set (set (set (set a (4 * i) (get_or s 0 0)) (4 * i + 1) (get_or s 1 0)) (4 * i + 2) (get_or s 2 0)) (4 * i + 3) (get_or s 3 0)))
        ≡ length a
    go true = refl
    go false = simp length-set
