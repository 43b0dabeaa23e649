-- Is every predecessor cube for a step held? Kind by kind, and by the search.
use Prim.Native.Nat.{ℕ, ◌+◌, ◌*◌, ◌<◌, ◌≤◌}
use mathlib.Core.Path.{◌≡◌, refl, sym, ap, subst, ◌∙◌}
use mathlib.Core.Bool.{Bool, true, false, cond, ◌&&◌}
use mathlib.Core.List.{List, [], ◌∷◌, Memᴰ}
use native.Mathlib.Omega.{arith}
use native.Mathlib.Decide.{dec_lt}
use lib.ListN.{length, get_or, length-take}
use lib.Dec.{T, ltb}
use borrow.Author.Tests.{ltb-true}
use mir.Facts.{and_yes}
use Rattle.machine_pws.specs.declared.Step.{Step}
use Rattle.machine_pws.specs.Program as pws
use Rattle.machine_pws.specs.Machine.{Configuration}
use Rattle.machine_pws.specs.Configurations.{Fits}
use Rattle.machine_pws.specs.Entries.{ValueOrFF, EntryOf}
use Rattle.list_theory.specs.Lists.{every}
use Rattle.list_theory.specs.Predecessors as lists
use Rattle.list_theory.specs.Predecessors.{has, cube, cubes, kinds}
use Rattle.list_theory.specs.Decision.{held}
use Rattle.list_theory.proofs.Lists.{every_yes}
use Rattle.list_theory.proofs.Cubes.{entry_cube}
use Rattle.list_theory.proofs.Closed.{kind_in}
use Rattle.file_records.specs.declared.program.Program.{Program}
use Rattle.file_contents.specs.declared.entry.Cube.{Cube}
use Rattle.file_records.specs.ProgramPart.{shape_of, program_of}
use Rattle.file_contents.specs.Cube.{no_queue, queue_of, configuration_of}
use Rattle.file_contents.proofs.CubeParts.{channel_length, queue_of_lem, queue_none}
use Rattle.file_again.specs.Again.{entries_of, cube_at}
use Rattle.file_again.specs.Contents.{CubeRange}
use Rattle.list_summary.specs.Summary.{Summed}
use Rattle.list_cube.specs.Editing.{CubeFor}
use Rattle.list_cover.specs.Search.{Searchable}
use Rattle.list_closing.specs.Walk.{step_held, Walkable}

pub same_truth : (a b : Bool) → (T a → T b) → (T b → T a) → a ≡ b
same_truth true true f g = refl
same_truth true false f g = absurd (f tt)
same_truth false true f g = absurd (g tt)
same_truth false false f g = refl

pub truth : {b : Bool} → T b → b ≡ true
truth {b} t = same_truth b true (λ _. tt) (λ _. t)

pub is_yes : {b : Bool} → b ≡ true → T b
is_yes e = subst T (sym e) tt

pub not_both : {b : Bool} → b ≡ true → b ≡ false → ⊥
not_both e f = subst T (sym (sym f ∙ e)) tt

pub decided : (h b : Bool) → (h ≡ true → b ≡ true) → (h ≡ false → b ≡ false) → h ≡ b
decided true b f g = sym (f refl)
decided false b f g = sym (g refl)

pub cond_same : (b : Bool) → true ≡ cond b true true
cond_same true = refl
cond_same false = refl

pub yes_every {ℓ} : {A : Type ℓ} (f : A → Bool) (xs : List A) → ((x : A) → Memᴰ x xs → T (f x)) → T (every f xs)
yes_every f [] h = tt
yes_every f (x ∷ xs) h = go (f x) (h x (Memᴰ.head refl)) (yes_every f xs (λ y m. h y (Memᴰ.tail m)))
  where
    go : (b : Bool) → T b → T (every f xs) → T (elim b [ true ↦ every f xs | false ↦ false ])
    go true t u = u
    go false t u = t

-- ---- kind by kind

module _ (P : pws.Program) (es : List Configuration) (e : Configuration) (s : Step) where
  -- if there is a cube of this kind, it is held
  abbrev kind_held : lists.Kind → Bool
  kind_held k = cond (has P e s k) (held P.shape es (cube P e s k)) true

  every_kind : (ks : List lists.Kind) → every (held P.shape es) (cubes P e s ks) ≡ every kind_held ks
  every_kind [] = refl
  every_kind (k ∷ ks) = go (has P e s k) (every_kind ks)
    where
      go : (b : Bool) → every (held P.shape es) (cubes P e s ks) ≡ every kind_held ks
          → every (held P.shape es) (elim b [ true ↦ cube P e s k ∷ cubes P e s ks | false ↦ cubes P e s ks ])
          ≡ elim (cond b (held P.shape es (cube P e s k)) true) [ true ↦ every kind_held ks | false ↦ false ]
      go true h = ap (λ (z : Bool). elim (held P.shape es (cube P e s k)) [ true ↦ z | false ↦ false ]) h
      go false h = h

  if_there : (b x : Bool) → b ≡ true → T (cond b x true) → x ≡ true
  if_there true x q t = truth t
  if_there false x q t = absurd (subst T (sym q) tt)

  there : (b x : Bool) → (b ≡ true → x ≡ true) → T (cond b x true)
  there true x f = subst T (sym (f refl)) tt
  there false x f = tt

  pub held_kind : step_held P es e s ≡ true → (k : lists.Kind) → has P e s k ≡ true → held P.shape es (cube P e s k) ≡ true
  unfolding step_held
  held_kind f k h =
      if_there (has P e s k) (held P.shape es (cube P e s k)) h
      (every_yes kind_held (kinds P e s) (subst T (every_kind (kinds P e s)) (is_yes f)) k (kind_in P e s k (is_yes h)))

  pub step_true : ((k : lists.Kind) → has P e s k ≡ true → held P.shape es (cube P e s k) ≡ true) → step_held P es e s ≡ true
  unfolding step_held
  step_true f =
      truth (subst T (sym (every_kind (kinds P e s))) (yes_every kind_held (kinds P e s) (λ k i. there (has P e s k) (held P.shape es (cube P e s k)) (f k))))

  pub step_false : (k : lists.Kind) → has P e s k ≡ true → held P.shape es (cube P e s k) ≡ false → step_held P es e s ≡ false
  step_false k h f = same_truth (step_held P es e s) false (λ t. not_both (held_kind (truth t) k h) f) (λ t. absurd t)

-- ---- by the search

short : (c : Cube) → ((i : ℕ) → i < 16 → (get_or c.queues i no_queue).count ≤ 9) → (p v : ℕ) → length ((configuration_of c).queue p v) ≤ 9
short c g p v = at (ltb p 4 && ltb v 4) refl
  where
    at : (b : Bool) → ltb p 4 && ltb v 4 ≡ b → length (queue_of c.queues p v) ≤ 9
    at true e =
        let w = and_yes (ltb p 4) (ltb v 4) (subst T (sym e) tt) in
        let x = ltb-true p 4 (truth w.0) in
        let y = ltb-true v 4 (truth w.1) in
        let q = get_or c.queues (4 * p + v) no_queue in
        rw (queue_of_lem c.queues p v x y) (omega (arith, length-take q.count q.values, g (4 * p + v) (omega arith)))
    at false e = rw (queue_none c.queues p v e) (omega arith)

module _ (g f list sum : List ℕ) (n : ℕ) (p : Program) (c : Cube) (W : Walkable g f list sum n p c) where
  -- what the search says of a cube that was made
  pub searched : (s : Step) (k : lists.Kind) → has (program_of g p) (configuration_of c) s k ≡ true → {r : Cube} {h : Bool} → CubeFor r (cube (program_of g p) (configuration_of c) s k)
      → (Searchable f list sum n p.shape r → h ≡ held (shape_of p.shape) (entries_of f list n) (configuration_of r))
      → h ≡ held (shape_of p.shape) (entries_of f list n) (cube (program_of g p) (configuration_of c) s k)
  searched s k i {r} d y =
      y (record {
        plain =
            record {
              count = W.count;
              shape = W.stepping.program.shape;
              entries = W.entries;
              fits = subst (Fits (ValueOrFF (shape_of p.shape)) (shape_of p.shape)) (sym d.configuration)
                  (entry_cube (program_of g p) W.stepping.program.well_formed (configuration_of c) W.own s k (is_yes i)).fits;
              messages = d.count;
              waiting = short r d.queues;
            };
        summed = W.summed;
      })
      ∙ ap (held (shape_of p.shape) (entries_of f list n)) d.configuration

-- ---- an entry of a file that was read can be walked

pub walkable : (g f list sum : List ℕ) (n : ℕ) (p : Program) (c : Cube) (k : ℕ) → k < n → cube_at f list k ≡ c → n ≤ 524288 → p.transitions.count ≤ 256 → pws.ProgramInRange (program_of g p)
    → ((k : ℕ) → k < n → Fits (ValueOrFF (shape_of p.shape)) (shape_of p.shape) (configuration_of (cube_at f list k)))
    → EntryOf (program_of g p) (configuration_of c) → CubeRange c → Summed f list sum n p.shape → Walkable g f list sum n p c
walkable g f list sum n p c k b i l m R o e d z =
    record {
      count = l;
      transitions = m;
      stepping =
          record {
            program = R;
            sound =
                record {
                  processes = R.shape.processes;
                  variables = R.shape.variables;
                  some = d.some;
                  count = d.messages;
                  queues = d.waiting;
                  pointer = e.fits.memory.low;
                  pointers = λ q w. elim (dec_lt q p.shape.processes) [
                    | yes d ↦ omega (arith, e.fits.memory.high q d, channel_length c.messages c.count)
                    | no d ↦ omega (arith, e.fits.memory.absent q (omega arith))
                  ];
                };
          };
      own = e;
      number = k;
      listed = b;
      is = i;
      entries = o;
      summed = z;
    }
