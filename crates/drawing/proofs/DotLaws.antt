-- What the reader writes.
use Prim.Native.Nat.{ℕ, ◌≤◌}
use mathlib.Core.Path.{◌≡◌, refl, sym, ap}
use mathlib.Core.List.{List}
use native.Mathlib.Omega.{arith}
use lib.ListN.{length}
use Rattle.std.specs.Prelude.{Ok}
use Rattle.drawing.specs.Runs.{records_of}
use Rattle.drawing.specs.Writing.{made, refused}
use Rattle.drawing.specs.Accepted.{Reading, run, place}
use Rattle.drawing.specs.Reading.{edges_at, nodes_read, reading_of, of_reading, records_in, size_after, steps_in, Readable, stuck, nodes_of}
use Rattle.drawing.proofs.WordLaws.{ok_stuck, ok_same, stuck_same}
use Rattle.drawing.proofs.ReadLaws.{nodes_few}

sized_run : (r : Reading) (needed : ℕ) → size_after 0 r ≡ Ok needed → (r ≡ run (steps_in r)) × (needed ≡ length (records_of (steps_in r)))
sized_run (run ss) needed e = let d = ok_same e in (refl, omega arith)
sized_run (place p) needed e = absurd (ok_stuck (sym e))

sized_place : (r : Reading) (p : ℕ) → size_after 0 r ≡ stuck p → r ≡ place p
sized_place (run ss) p e = absurd (ok_stuck e)
sized_place (place q) p e = ap place (stuck_same e)

module _ (t : List ℕ) where
  pub no_nodes : (p : ℕ) → nodes_read t ≡ stuck p → records_in t ≡ refused 27 p
  unfolding records_in reading_of
  no_nodes p e = rw e

  module _ (n a : ℕ) (nodes : nodes_read t ≡ nodes_of n a) where
    reading_is : (r : Reading) → edges_at n t a 0 ≡ r → records_in t ≡ of_reading r
    unfolding records_in reading_of
    reading_is r e = rw nodes (ap of_reading e)

    pub no_edges : (p : ℕ) → size_after 0 (edges_at n t a 0) ≡ stuck p → records_in t ≡ refused 27 p
    no_edges p e = reading_is (place p) (sized_place (edges_at n t a 0) p e)

    module _ (needed : ℕ) (size : size_after 0 (edges_at n t a 0) ≡ Ok needed) where
      pub all_edges : records_in t ≡ made (records_of (steps_in (edges_at n t a 0)))
      all_edges = reading_is (run (steps_in (edges_at n t a 0))) (sized_run (edges_at n t a 0) needed size).0

      pub needed_is : needed ≡ length (records_of (steps_in (edges_at n t a 0)))
      needed_is = (sized_run (edges_at n t a 0) needed size).1

      pub readable : (room : ℕ) → needed ≤ room → Readable t a n room
      readable room l =
          record {
            few = nodes_few t n a nodes;
            reads = (sized_run (edges_at n t a 0) needed size).0;
            enough = omega (arith, needed_is);
          }
