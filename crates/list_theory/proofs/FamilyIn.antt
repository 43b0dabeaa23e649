-- What is in a family: it goes on from a cube to its fillings, and to what is above it.
use Prim.Native.Nat.{ℕ, ◌<◌, ◌≤◌}
use mathlib.Core.Path.{◌≡◌, refl, sym, ap, subst, ◌∙◌}
use mathlib.Core.Logic.{inr}
use mathlib.Core.Option.{Option, none, some}
use mathlib.Core.List.{List, [], ◌∷◌}
use native.Mathlib.Omega.{arith}
use lib.ListN.{length, get_or}
use lib.Dec.{T}
use mir.Facts.{and_yes, yes_and}
use Rattle.machine_pws.specs.declared.Message.{Message}
use Rattle.machine_pws.specs.Program.{Shape, WellFormedShape}
use Rattle.machine_pws.specs.Machine.{Memory, Configuration, message, last_write, newest_waiting, newest}
use Rattle.machine_pws.specs.Configurations.{Fits, ValueOf}
use Rattle.machine_pws.specs.Order.{Live, Maps}
use Rattle.machine_pws.specs.Entries.{ValueOrFF, FillValues, values_nil, values_cons, FillChannel, channel_nil, channel_cons, filled, Filling, Above}
use Rattle.machine_pws.proofs.Facts.{message_new, Proper, proper, live_last}
use Rattle.machine_pws.proofs.Moves.{maps_le, maps_newest}
use Rattle.list_theory.specs.Values.{fills, pairwise}
use Rattle.list_theory.specs.Cubes.{memory_of, topmost}
use Rattle.list_theory.specs.Matching.{Subsequence, nothing, skip, keep, ends, QueueMatch}
use Rattle.list_theory.proofs.Fillings.{fills_yes, yes_fills, fill_trans, fill_value, fill_at, channel_length, channel_at, channel_last}
use Rattle.list_theory.proofs.Covering.{above_match}
use Rattle.list_theory.specs.Seen.{Sees}
use Rattle.list_theory.specs.Family as family
use Rattle.list_theory.specs.Family.{Clue, Clued, InFamily}

-- ---- values

fills_trans : (a b c : ℕ) → T (fills a b) → T (fills b c) → T (fills a c)
fills_trans a b c t u = yes_fills a c (fill_trans (fills_yes a b t) (fills_yes b c u))

sub_trans : {xs ys zs : List ℕ} → Subsequence fills xs ys → Subsequence fills ys zs → Subsequence fills xs zs
sub_trans r nothing = r
sub_trans r (skip s) = skip (sub_trans r s)
sub_trans (skip r) (keep u s) = skip (sub_trans r s)
sub_trans (keep {x = a} {y = b} t r) (keep {y = c} u s) = keep (fills_trans a b c t u) (sub_trans r s)

ends_trans : (a b c : Option ℕ) → T (ends fills a b) → T (ends fills b c) → T (ends fills a c)
ends_trans none none c t u = u
ends_trans none (some b) c t u = absurd t
ends_trans (some a) none c t u = absurd t
ends_trans (some a) (some b) none t u = absurd u
ends_trans (some a) (some b) (some c) t u = fills_trans a b c t u

queue_trans : {xs ys zs : List ℕ} → QueueMatch fills xs ys → QueueMatch fills ys zs → QueueMatch fills xs zs
queue_trans {xs} {ys} {zs} a b =
    record { subsequence = sub_trans a.subsequence b.subsequence; end = ends_trans (newest_waiting xs) (newest_waiting ys) (newest_waiting zs) a.end b.end }

pub pairwise_trans : (xs ys zs : List ℕ) → T (pairwise fills xs ys) → T (pairwise fills ys zs) → T (pairwise fills xs zs)
pairwise_trans [] [] zs t u = u
pairwise_trans [] (y ∷ ys) zs t u = absurd t
pairwise_trans (x ∷ xs) [] zs t u = absurd t
pairwise_trans (x ∷ xs) (y ∷ ys) [] t u = absurd u
pairwise_trans (x ∷ xs) (y ∷ ys) (z ∷ zs) t u =
    let a = and_yes (fills x y) (pairwise fills xs ys) t in
    let b = and_yes (fills y z) (pairwise fills ys zs) u in
    yes_and (fills x z) (pairwise fills xs zs) (fills_trans x y z a.0 b.0) (pairwise_trans xs ys zs a.1 b.1)

-- what is in the family of a cube's newest values, and meets the clue itself
pub family_trans : {S : Shape} {q : Clue} {e c d : Configuration} → InFamily S q e c → InFamily S family.newest c d → Clued S q e.memory d.memory → InFamily S q e d
family_trans a b y =
    record {
      states = λ p l. a.states p l ∙ b.states p l;
      queues = λ p v l m. queue_trans (a.queues p v l m) (b.queues p v l m);
      clue = y;
    }

-- ---- fillings

values_sub : {xs ys : List ℕ} → FillValues xs ys → Subsequence fills xs ys
values_sub values_nil = nothing
values_sub (values_cons {a = a} {b = b} f r) = keep (yes_fills a b f) (values_sub r)

values_end : {xs ys : List ℕ} → FillValues xs ys → T (ends fills (newest_waiting xs) (newest_waiting ys))
values_end values_nil = tt
values_end (values_cons {a = a} {b = b} f values_nil) = yes_fills a b f
values_end (values_cons f (values_cons g r)) = values_end (values_cons g r)

values_pairwise : {xs ys : List ℕ} → FillValues xs ys → T (pairwise fills xs ys)
values_pairwise values_nil = tt
values_pairwise (values_cons {a = a} {b = b} {xs = xs} {ys = ys} f r) = yes_and (fills a b) (pairwise fills xs ys) (yes_fills a b f) (values_pairwise r)

pub pairwise_values : (xs ys : List ℕ) → T (pairwise fills xs ys) → FillValues xs ys
pairwise_values [] [] t = values_nil
pairwise_values [] (y ∷ ys) t = absurd t
pairwise_values (x ∷ xs) [] t = absurd t
pairwise_values (x ∷ xs) (y ∷ ys) t = let a = and_yes (fills x y) (pairwise fills xs ys) t in values_cons (fills_yes x y a.0) (pairwise_values xs ys a.1)

newest_filled : {es ms : List Message} → FillChannel es ms → T (pairwise fills (topmost es).snapshot (topmost ms).snapshot)
newest_filled channel_nil = tt
newest_filled (channel_cons f r) = values_pairwise f.snapshot

-- a filling of a cube is in its family
family_filled : {S : Shape} {c : Configuration} (qs : ℕ → ℕ → List ℕ) (ms : List Message) → Filling S c qs ms → InFamily S family.newest c (filled c qs ms)
family_filled qs ms F =
    record {
      states = λ p l. refl;
      queues = λ p v l m. record { subsequence = values_sub (F.queues p v l m); end = values_end (F.queues p v l m) };
      clue = newest_filled F.channel;
    }

-- a value that can be seen is none that is filled in
pub fill_seen : (xs ys : List ℕ) (v : ℕ) {x : ℕ} → x < 4 → FillValues xs ys → get_or xs v 0 ≡ x → get_or ys v 0 ≡ x
fill_seen xs ys v l f e = fill_value (get_or xs v 0) (get_or ys v 0) (λ z. omega (arith, z, e)) (fill_at f v) ∙ e

pub sees_fill : (S : Shape) (p v x : ℕ) (m : Memory) (ms : List Message) → FillChannel m.channel ms → Sees S p v x m → Sees S p v x (memory_of ms m.pointer)
sees_fill S p v x m ms f s =
    record {
      process = s.process;
      variable = s.variable;
      small = s.small;
      at = s.at;
      from = omega (arith, s.from, channel_last f p v);
      upto = omega (arith, s.upto, channel_length f);
      is = fill_seen (message m.channel s.at).snapshot (message ms s.at).snapshot v s.small (channel_at f s.at).snapshot s.is;
    }

clued_fill : (S : Shape) (q : Clue) (e m : Memory) (ms : List Message) → FillChannel m.channel ms → Clued S q e m → Clued S q e (memory_of ms m.pointer)
clued_fill S family.newest e m ms f y = pairwise_trans (topmost e.channel).snapshot (topmost m.channel).snapshot (topmost ms).snapshot y (newest_filled f)
clued_fill S (family.sees p v x) e m ms f y = sees_fill S p v x m ms f y

-- what is in a family stays there when it is filled
pub family_fill : (S : Shape) (q : Clue) (e c : Configuration) (qs : ℕ → ℕ → List ℕ) (ms : List Message) → Filling S c qs ms → InFamily S q e c → InFamily S q e (filled c qs ms)
family_fill S q e c qs ms F i = family_trans i (family_filled qs ms F) (clued_fill S q e.memory c.memory ms F.channel i.clue)

-- ---- what is above

pub top_newest : (ms : List Message) → 1 ≤ length ms → topmost ms ≡ newest ms
top_newest [] l = absurd (omega arith)
top_newest (m ∷ ms) l = sym (message_new m ms)

module _ (S : Shape) (m n : Memory) (gm : Proper S m) (gn : Proper S n) (h : ℕ → ℕ) (M : Maps S m n h) where
  -- the message that shows it is mapped, and stays at or past LastWrite
  pub sees_maps : (p v x : ℕ) → Sees S p v x m → Sees S p v x n
  sees_maps p v x s =
      let k : Live S m (last_write m p v) = live_last S m gm p v s.process in
      let l : Live S m s.at = record { who = k.who; exists = k.exists; from = omega (arith, k.from, s.from); upto = s.upto } in
      record {
        process = s.process;
        variable = s.variable;
        small = s.small;
        at = h s.at;
        from = omega (arith, M.last_writes p v s.process s.variable, maps_le S m n gm gn h M (last_write m p v) s.at k l s.from);
        upto = (M.lands s.at l).upto;
        is = ap (λ (y : Message). get_or y.snapshot v 0) (sym (M.equal s.at l)) ∙ s.is;
      }

  newest_mapped : 1 ≤ length m.channel → 1 ≤ length n.channel → 1 ≤ S.processes → topmost m.channel ≡ topmost n.channel
  newest_mapped a b c = top_newest m.channel a ∙ maps_newest S m n gm gn h M 0 c ∙ sym (top_newest n.channel b)

  clued_maps : 1 ≤ length m.channel → 1 ≤ length n.channel → 1 ≤ S.processes → (q : Clue) (e : Memory) → Clued S q e m → Clued S q e n
  clued_maps a b c family.newest e y = subst (λ (z : Message). T (pairwise fills (topmost e.channel).snapshot z.snapshot)) (newest_mapped a b c) y
  clued_maps a b c (family.sees p v x) e y = sees_maps p v x y

module _ (S : Shape) (R : WellFormedShape S) (c d : Configuration) (oc : Fits (ValueOrFF S) S c) (od : Fits (ValueOf S) S d) (A : Above S c d) where
  clued_above : (q : Clue) (e : Memory) → Clued S q e c.memory → Clued S q e d.memory
  clued_above q e y =
      clued_maps S (memory_of A.channel c.memory.pointer) d.memory (proper A.filling.fits.memory) (proper od.memory) A.below.h A.below.maps
      A.filling.fits.memory.some od.memory.some R.some_process q e (clued_fill S q e c.memory A.channel A.filling.channel y)

  pub family_above : InFamily S family.newest c d
  family_above =
      let M = (above_match S R c d oc od).0 A in
      record {
        states = M.states;
        queues = M.queues;
        clue = clued_above family.newest c.memory (own (topmost c.memory.channel).snapshot);
      }
    where
      own : (xs : List ℕ) → T (pairwise fills xs xs)
      own [] = tt
      own (x ∷ xs) = yes_and (fills x x) (pairwise fills xs xs) (yes_fills x x (inr refl)) (own xs)

  -- what is above what is in a family is in it
  pub family_up : (q : Clue) (e : Configuration) → InFamily S q e c → InFamily S q e d
  family_up q e i = family_trans i family_above (clued_above q e.memory i.clue)
