-- The heart: what steps into a pattern fits it, or a predecessor of it (docs/PATTERNS.md, "Predecessors"; docs/THEORY.md, section 10).
use Prim.Native.Nat.{ℕ, suc, ◌<◌, ◌≤◌}
use mathlib.Core.Path.{◌≡◌, refl, sym, ap, subst, ◌∙◌}
use mathlib.Core.Logic.{inl, inr, ⊎_elim}
use mathlib.Core.Bool.{◌&&◌, not}
use mathlib.Core.Option.{Option, none, some}
use mathlib.Core.List.Memᴰ
use mathlib.Core.List.{List, [], ◌∷◌, ◌++◌, map, Memᴰ}
use native.Mathlib.Omega.{arith}
use lib.ListN.{length, get_or}
use lib.Dec.{T, eqb, eqb→eq}
use mir.Facts.{and_yes}
use Rattle.machine_pws.specs.declared.Operation.{Operation}
use Rattle.machine_pws.specs.declared.Operation.TheVariants.{Nop, Read, Write, Mfence, Sfence, Arw}
use Rattle.machine_pws.specs.declared.Step.TheVariants.{Take, Serialise, Update}
use Rattle.machine_pws.specs.Program.{Shape, Program, transition, OperationOf, WellFormed}
use Rattle.machine_pws.specs.Machine.{Memory, Configuration, put, is_empty, newest, newest_waiting, newest_or, without_oldest, append, point, at_newest, last_write, all_below, none_waiting, may_operate, queue_after, memory_after, after}
use Rattle.machine_pws.proofs.Facts.{T_eq, put_same, put_other, put_each, put_queue_same, put_queue_other}
use Rattle.machine_pws.proofs.Cases.{all_yes}
use Rattle.machine_pws.proofs.Steps.{take_yes, serialise_yes, update_yes}
use Rattle.list_theory.proofs.Lists.{yes_all}
use Rattle.pattern_theory.specs.Patterns.{Clue, empty, PathRead, Pattern}
use Rattle.pattern_theory.specs.Fitting.{Stands, FitsClue, held, PathFrom, FitsPattern}
use Rattle.pattern_theory.specs.Predecessors.{with_state, with_clue, with_none_waiting, with_newest, with_path, with_paths, provided, from_option, can_empty, agrees, joined, before_write, waiting, in_front, before_read, own_cut, before_operation, before}
use Rattle.pattern_theory.specs.Storing.{Stored}
use Rattle.pattern_theory.specs.Safety.{EntersPattern}
use Rattle.pattern_theory.proofs.Subsequences.{stands_agrees, newest_or_lem}
use Rattle.pattern_theory.proofs.Paths.{path_lower, path_pointer}
use Rattle.pattern_theory.proofs.Joining.{joins}
use Rattle.pattern_theory.proofs.Appending.{new_same, new_other, all_newest, cut_own}
use Rattle.pattern_theory.proofs.NewMessage.{parted}
use Rattle.pattern_theory.proofs.Storing.{has_room, fits_kept}
use Rattle.pattern_theory.proofs.Clues.{newest_snoc, is_empty_lem, provided_in, option_in, empties, before_write_lem, newest_waits, in_front_lem}
use Rattle.pattern_theory.proofs.Reading.{before_read_lem}

-- what a pattern asks, local states aside
record Rest (S : Shape) (a : Pattern) (queue : ℕ → ℕ → List ℕ) (m : Memory) : Type 0 where
  queues : (p v : ℕ) → p < S.processes → v < S.variables → FitsClue (a.clue p v) (queue p v)
  newest : (v : ℕ) → Stands (a.newest v) (held m (length m.channel) v)
  paths : (p : ℕ) → p < S.processes → PathFrom m p (m.pointer p) (a.path p)

record RestBefore (S : Shape) (a : Pattern) (ps : List Pattern) (queue : ℕ → ℕ → List ℕ) (m : Memory) : Type 0 where
  pattern : Pattern
  among : Memᴰ pattern ps
  state : pattern.state ≡ a.state
  rest : Rest S pattern queue m

-- clues with one changed
clue_each : (S : Shape) (a : Pattern) (queue : ℕ → ℕ → List ℕ) (p x : ℕ) (k : Clue) → p < S.processes → FitsClue k (queue p x)
    → ((q y : ℕ) → ((q ≡ p) × (y ≡ x) → ⊥) → q < S.processes → y < S.variables → FitsClue (a.clue q y) (queue q y))
    → (q y : ℕ) → q < S.processes → y < S.variables → FitsClue ((with_clue a p x k).clue q y) (queue q y)
clue_each S a queue p x k pe here other q y l h =
    put_each (λ q (f : ℕ → Clue). FitsClue (f y) (queue q y)) a.clue p (put (a.clue p) x k) q
    (put_each (λ y (j : Clue). FitsClue j (queue p y)) (a.clue p) x k y here (λ d. other p y (λ n. d n.1) pe h))
    (λ e. other q y (λ n. e n.0) l h)

-- the oldest value of a queue, and the rest
oldest_first : (q : List ℕ) → T (not (is_empty q)) → q ≡ get_or q 0 0 ∷ without_oldest q
oldest_first [] t = absurd t
oldest_first (x ∷ q) t = refl

-- ---- operations

module _ (P : Program) (R : WellFormed P) (a : Pattern) (c : Configuration) (o : Stored P c) (p : ℕ) (pe : p < P.shape.processes) where
  abbrev S : Shape
  S = P.shape

  abbrev n : ℕ
  n = length c.memory.channel

  high : (q : ℕ) → q < S.processes → c.memory.pointer q ≤ n
  high = o.configuration.fits.memory.high

  none_waits : T (none_waiting S c p) → (v : ℕ) → v < S.variables → c.queue p v ≡ []
  none_waits t v l = is_empty_lem (c.queue p v) (all_yes S.variables (λ v. is_empty (c.queue p v)) t v l)

  module _ (t : T (none_waiting S c p)) (f : Rest S a c.queue c.memory) where
    can_empty_lem : T (all_below S.variables (λ x. can_empty (a.clue p x)))
    can_empty_lem = yes_all S.variables (λ x. can_empty (a.clue p x)) (λ x l. empties (a.clue p x) (c.queue p x) (none_waits t x l) (f.queues p x pe l))

    emptied : (q v : ℕ) → q < S.processes → v < S.variables → FitsClue ((with_none_waiting a p).clue q v) (c.queue q v)
    emptied q v l h =
        put_each (λ q (g : ℕ → Clue). FitsClue (g v) (c.queue q v)) a.clue p (λ x. empty) q (none_waits t v h) (λ e. f.queues q v l h)

  -- a queue with nothing in it
  empty_clue : (x : ℕ) → c.queue p x ≡ [] → ((q v : ℕ) → q < S.processes → v < S.variables → FitsClue (a.clue q v) (c.queue q v))
      → (q v : ℕ) → q < S.processes → v < S.variables → FitsClue ((with_clue a p x empty).clue q v) (c.queue q v)
  empty_clue x e f = clue_each S a c.queue p x empty pe e (λ q y d. f q y)

  abbrev Before : Operation → Type 0
  Before x = RestBefore S a (before_operation S a p x) c.queue c.memory

  sfence : T (may_operate S c p Sfence) → Rest S a c.queue c.memory → Before Sfence
  sfence t f =
      record {
        pattern = with_none_waiting a p;
        among = provided_in (all_below S.variables (λ x. can_empty (a.clue p x))) (can_empty_lem t f) (Memᴰ.head refl);
        state = refl;
        rest = record { queues = emptied t f; newest = f.newest; paths = f.paths };
      }

  mfence : T (may_operate S c p Mfence) → Rest S a c.queue c.memory → Before Mfence
  mfence t f =
      let y = and_yes (none_waiting S c p) (at_newest c.memory p) t in
      let e = eqb→eq (c.memory.pointer p) n y.1 in
      let all = all_newest c.memory p (a.path p) (subst (λ (k : ℕ). PathFrom c.memory p k (a.path p)) e (f.paths p pe)) in
      let j = joins (held c.memory n) a.newest f.newest (a.path p) all in
      record {
        pattern = with_newest (with_path (with_none_waiting a p) p []) j.newer;
        among = provided_in (all_below S.variables (λ x. can_empty (a.clue p x))) (can_empty_lem y.0 f)
            (option_in (joined a.newest (a.path p)) (λ newest. with_newest (with_path (with_none_waiting a p) p []) newest) j.newer j.is);
        state = refl;
        rest =
            record {
              queues = emptied y.0 f;
              newest = j.stand;
              paths = λ q l. put_each (λ q (rs : List PathRead). PathFrom c.memory q (c.memory.pointer q) rs) a.path p [] q tt (λ d. f.paths q l);
            };
      }

  write : (x v : ℕ) → x < S.variables → Rest S a (queue_after c p (Write x v)) c.memory → Before (Write x v)
  write x v l f =
      let q = c.queue p x ++ (v ∷ []) in
      let w = before_write_lem v (a.clue p x) (c.queue p x) (subst (FitsClue (a.clue p x)) (put_queue_same c.queue p x q) (f.queues p x pe l)) in
      record {
        pattern = with_clue a p x w.clue;
        among = option_in (before_write v (a.clue p x)) (with_clue a p x) w.clue w.is;
        state = refl;
        rest =
            record {
              queues = clue_each S a c.queue p x w.clue pe w.fits
                  (λ i y d h k. subst (FitsClue (a.clue i y)) (put_queue_other c.queue p x q i y d) (f.queues i y h k));
              newest = f.newest;
              paths = f.paths;
            };
      }

  read_waiting : (x v : ℕ) (front : List ℕ) (u : ℕ) → c.queue p x ≡ front ++ (u ∷ []) → u ≡ v → x < S.variables → Rest S a c.queue c.memory → Before (Read x v)
  read_waiting x v front u e d l f =
      let same : c.queue p x ≡ front ++ (v ∷ []) = e ∙ ap (λ (y : ℕ). front ++ (y ∷ [])) d in
      let w = newest_waits v (a.clue p x) front (subst (FitsClue (a.clue p x)) same (f.queues p x pe l)) in
      record {
        pattern = with_clue a p x w.clue;
        among = Memᴰ.append_left (provided (can_empty (a.clue p x)) (map (with_path (with_clue a p x empty) p) (before_read x v (a.path p))))
            (option_in (waiting v (a.clue p x)) (with_clue a p x) w.clue w.is);
        state = refl;
        rest =
            record {
              queues = clue_each S a c.queue p x w.clue pe (subst (FitsClue w.clue) (sym same) w.fits) (λ q y d. f.queues q y);
              newest = f.newest;
              paths = f.paths;
            };
      }

  read_message : (x v : ℕ) → c.queue p x ≡ [] → held c.memory (last_write c.memory p x) x ≡ v → x < S.variables → Rest S a c.queue c.memory → Before (Read x v)
  read_message x v e seen l f =
      let w = before_read_lem c.memory p x v (high p pe) seen (a.path p) (f.paths p pe) in
      record {
        pattern = with_path (with_clue a p x empty) p w.path;
        among = Memᴰ.append_right (from_option (waiting v (a.clue p x)) (with_clue a p x))
            (provided_in (can_empty (a.clue p x)) (empties (a.clue p x) (c.queue p x) e (f.queues p x pe l))
            (Memᴰ.map (with_path (with_clue a p x empty) p) w.among));
        state = refl;
        rest =
            record {
              queues = empty_clue x e f.queues;
              newest = f.newest;
              paths = λ q h. put_each (λ q (rs : List PathRead). PathFrom c.memory q (c.memory.pointer q) rs) a.path p w.path q w.stands (λ d. f.paths q h);
            };
      }

  read : (x v : ℕ) → x < S.variables → T (may_operate S c p (Read x v)) → Rest S a c.queue c.memory → Before (Read x v)
  read x v l t f =
      let value = held c.memory (last_write c.memory p x) x in
      let sees = eqb→eq (newest_or (newest_waiting (c.queue p x)) value) v t in
      ⊎_elim
      (λ e. read_message x v e (subst (λ (q : List ℕ). newest_or (newest_waiting q) value ≡ v) e sees) l f)
      (λ r.
      read_waiting x v r.1 r.0 r.2
      (subst (λ (y : Option ℕ). newest_or y value ≡ v) (newest_snoc r.1 r.0) (subst (λ (q : List ℕ). newest_or (newest_waiting q) value ≡ v) r.2 sees)) l f)
      (newest_or_lem (c.queue p x))

  arw : (x old new : ℕ) → x < S.variables → T (may_operate S c p (Arw x old new))
      → Rest S a c.queue (memory_after c.memory p (Arw x old new)) → Before (Arw x old new)
  arw x old new l t f =
      let y = and_yes (is_empty (c.queue p x) && at_newest c.memory p) (eqb (held c.memory n x) old) t in
      let none = is_empty_lem (c.queue p x) (and_yes (is_empty (c.queue p x)) (at_newest c.memory p) y.0).0 in
      let to : (ℕ → Option ℕ) → (ℕ → List PathRead) → List Pattern = λ newest fronts.
      provided (agrees (newest x) new) (with_paths (with_newest (with_clue a p x empty) (put newest x (some old))) fronts ∷ []) in
      let g = append c.memory p x new in
      let next = put c.memory.pointer p (suc n) in
      let w =
      parted S a c.memory p x new (record { front = []; end = a.path p }) to high
      (λ q h d.
      let same : next q ≡ c.memory.pointer q = put_other c.memory.pointer p (suc n) q d in
      path_pointer g next q (omega arith) (a.path q) (c.memory.pointer q) (subst (λ (k : ℕ). PathFrom (point g p (suc n)) q k (a.path q)) same (f.paths q h)))
      (record {
        front = tt;
        end = all_newest (point g p (suc n)) p (a.path p) (subst (λ (k : ℕ). PathFrom (point g p (suc n)) p k (a.path p)) (put_same c.memory.pointer p (suc n)) (f.paths p pe));
      })
      f.newest in
      record {
        pattern = with_paths (with_newest (with_clue a p x empty) (put w.newer x (some old))) w.fronts;
        among = provided_in (can_empty (a.clue p x)) (empties (a.clue p x) (c.queue p x) none (f.queues p x pe l))
            (w.among (with_paths (with_newest (with_clue a p x empty) (put w.newer x (some old))) w.fronts)
            (provided_in (agrees (w.newer x) new)
            (stands_agrees (w.newer x) new (subst (Stands (w.newer x)) (new_same c.memory p x new (has_room P R c o x l)) (w.stand x)))
            (Memᴰ.head refl)));
        state = refl;
        rest =
            record {
              queues = empty_clue x none f.queues;
              newest = λ v. put_each (λ v (u : Option ℕ). Stands u (held c.memory n v)) w.newer x (some old) v (sym (eqb→eq (held c.memory n x) old y.1))
                  (λ d. subst (Stands (w.newer v)) (new_other c.memory p x new v d) (w.stand v));
              paths = w.paths;
            };
      }

  operation : (x : Operation) → OperationOf S x → T (may_operate S c p x) → Rest S a (queue_after c p x) (memory_after c.memory p x) → Before x
  operation Nop w t f = record { pattern = a; among = Memᴰ.head refl; state = refl; rest = f }
  operation (Read v x) w t f = read v x w.0 t f
  operation (Write v x) w t f = write v x w.0 f
  operation Mfence w t f = mfence t f
  operation Sfence w t f = sfence t f
  operation (Arw v old new) w t f = arw v old new w.0 t f

  -- ---- the memory's own steps

  serialise : (x : ℕ) → x < S.variables → T (not (is_empty (c.queue p x))) → FitsPattern S a (after P c (Serialise p x))
      → (b : Pattern) × Memᴰ b (before P a (Serialise p x)) × FitsPattern S b c
  serialise x l t f =
      let q = without_oldest (c.queue p x) in
      let u = get_or (c.queue p x) 0 0 in
      let to : (ℕ → Option ℕ) → (ℕ → List PathRead) → List Pattern = λ newest fronts.
      with_paths (with_newest (with_clue a p x (in_front (newest x) (a.clue p x))) (put newest x none)) fronts ∷ [] in
      let w =
      parted S a c.memory p x u (own_cut x (a.path p)) to high (λ i h d. f.paths i h)
      (cut_own c.memory p x u (high p pe) (a.path p) (c.memory.pointer p) (high p pe) (f.paths p pe)) f.newest in
      let k = in_front (w.newer x) (a.clue p x) in
      let fits-k : FitsClue k (u ∷ q) =
      in_front_lem (w.newer x) (a.clue p x) u q (subst (Stands (w.newer x)) (new_same c.memory p x u (has_room P R c o x l)) (w.stand x))
      (subst (FitsClue (a.clue p x)) (put_queue_same c.queue p x q) (f.queues p x pe l)) in (
        with_paths (with_newest (with_clue a p x k) (put w.newer x none)) w.fronts,
        w.among (with_paths (with_newest (with_clue a p x k) (put w.newer x none)) w.fronts) (Memᴰ.head refl),
        record {
          states = f.states;
          queues = clue_each S a c.queue p x k pe (subst (FitsClue k) (sym (oldest_first (c.queue p x) t)) fits-k)
              (λ i y d h j. subst (FitsClue (a.clue i y)) (put_queue_other c.queue p x q i y d) (f.queues i y h j));
          newest = λ v. put_each (λ v (z : Option ℕ). Stands z (held c.memory n v)) w.newer x none v tt
              (λ d. subst (Stands (w.newer v)) (new_other c.memory p x u v d) (w.stand v));
          paths = w.paths;
        },
      )

  update : FitsPattern S a (after P c (Update p)) → FitsPattern S a c
  update f =
      let z = c.memory.pointer in
      let next = put z p (suc (z p)) in
      let more : (q : ℕ) → z q ≤ next q = λ q. put_each (λ q k. z q ≤ k) z p (suc (z p)) q (omega arith) (λ d. omega arith) in
      record {
        states = f.states;
        queues = f.queues;
        newest = f.newest;
        paths = λ q l. path_lower c.memory q (a.path q) (z q) (next q) (more q) (path_pointer c.memory next q (more q) (a.path q) (next q) (f.paths q l));
      }

-- ---- every step

pub enters_pattern : EntersPattern
enters_pattern P R a c o (Take i) t f =
    let y = take_yes P c i t in
    let s = transition P i in
    let r = R.transitions i y.0 in
    let p = s.process in
    let m = and_yes (eqb (c.state p) s.from) (may_operate P.shape c p s.operation) y.1 in
    let w = operation P R a c o p r.process s.operation r.operation m.1 (record { queues = f.queues; newest = f.newest; paths = f.paths }) in
    let b = w.pattern in
    let fits : FitsPattern P.shape (with_state b p s.from) c =
    record {
      states = λ q l. put_each (λ q x. c.state q ≡ x) b.state p s.from q (eqb→eq (c.state p) s.from m.0)
          (λ d. sym (put_other c.state p s.to q d) ∙ f.states q l ∙ ap (λ (g : ℕ → ℕ). g q) (sym w.state));
      queues = w.rest.queues;
      newest = w.rest.newest;
      paths = w.rest.paths;
    } in
    inr (record {
      pattern = with_state b p s.from;
      before = provided_in (eqb (a.state p) s.to) (T_eq (a.state p) s.to (sym (f.states p r.process) ∙ put_same c.state p s.to))
          (Memᴰ.map (λ b. with_state b p s.from) w.among);
      kept = fits_kept P c o (with_state b p s.from) fits;
      fits = fits;
    })
enters_pattern P R a c o (Serialise p x) t f =
    let y = serialise_yes P c p x t in
    let w = serialise P R a c o p y.0 x y.1 y.2 f in
    inr (record { pattern = w.0; before = w.1; kept = fits_kept P c o w.0 w.2; fits = w.2 })
enters_pattern P R a c o (Update p) t f = inl (update P R a c o p (update_yes P c p t).0 f)
