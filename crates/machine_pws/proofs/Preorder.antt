-- The order is reflexive and transitive (theory T2), and what is above a list is upward closed (T5).
use Prim.Native.Nat.{ℕ}
use mathlib.Core.Path.{◌≡◌, refl, ap, ◌∙◌}
use mathlib.Core.List.Sublistᴰ
use mathlib.Core.List.{List}
use Rattle.machine_pws.specs.Program.{Shape}
use Rattle.machine_pws.specs.Machine.{Memory, Configuration}
use Rattle.machine_pws.specs.Order.{Maps, QueueBelow, Below}
use Rattle.machine_pws.specs.Entries.{filled, Above, AboveList}

pub maps_refl : (S : Shape) (m : Memory) → Maps S m m (λ i. i)
maps_refl S m = record { lands = λ i l. l; rises = λ i j a b l. l; equal = λ i l. refl; pointers = λ p e. refl; last_writes = λ p v e f. refl }

pub maps_trans : {S : Shape} {k m n : Memory} {f h : ℕ → ℕ} → Maps S k m f → Maps S m n h → Maps S k n (λ i. h (f i))
maps_trans {f = f} {h = h} x y =
    record {
      lands = λ i l. y.lands (f i) (x.lands i l);
      rises = λ i j l r a. y.rises (f i) (f j) (x.lands i l) (x.lands j r) (x.rises i j l r a);
      equal = λ i l. x.equal i l ∙ y.equal (f i) (x.lands i l);
      pointers = λ p e. y.pointers p e ∙ ap h (x.pointers p e);
      last_writes = λ p v e d. y.last_writes p v e d ∙ ap h (x.last_writes p v e d);
    }

pub queue_refl : (xs : List ℕ) → QueueBelow xs xs
queue_refl xs = record { subsequence = Sublistᴰ.refl xs; end = refl }

pub below_refl : (S : Shape) (c : Configuration) → Below S c c
below_refl S c = record { states = λ p e. refl; queues = λ p v e f. queue_refl (c.queue p v); h = λ i. i; maps = maps_refl S c.memory }

pub below_trans : {S : Shape} {b c d : Configuration} → Below S b c → Below S c d → Below S b d
below_trans x y =
    record {
      states = λ p e. x.states p e ∙ y.states p e;
      queues = λ p v e f.
          record {
            subsequence = Sublistᴰ.trans (x.queues p v e f).subsequence (y.queues p v e f).subsequence;
            end = (x.queues p v e f).end ∙ (y.queues p v e f).end;
          };
      h = λ i. y.h (x.h i);
      maps = maps_trans x.maps y.maps;
    }

pub above_up : {S : Shape} {e c d : Configuration} → Above S e c → Below S c d → Above S e d
above_up A B = record { queues = A.queues; channel = A.channel; filling = A.filling; below = below_trans A.below B }

pub list_up : {S : Shape} {es : List Configuration} {c d : Configuration} → AboveList S es c → Below S c d → AboveList S es d
list_up A B = record { number = A.number; exists = A.exists; above = above_up A.above B }
