-- A pattern that was read: what its records give is within the limits, and it is near to its 13.
use Rattle.std.specs.Prelude.{Result, Ok, Err, ⊤}
use Rattle.file_records.specs.declared.program.Refusal.{Refusal}
use Prim.Native.Nat.{ℕ, zero, suc, ◌+◌, ◌*◌, ◌<◌, ◌≤◌}
use mathlib.Core.Path.{◌≡◌, refl, sym, ap, subst, ◌∙◌}
use mathlib.Core.Bool.{Bool, true, false, cond}
use mathlib.Core.Option.{Option, none, some}
use mathlib.Core.List.{List, [], ◌∷◌, ◌++◌}
use native.Mathlib.Omega.{arith}
use lib.ListN.{length, length-append}
use lib.Dec.{ltb}
use borrow.Author.Tests.{eqb-true, ne_eqb, lt-ltb, le-ltb, ltb-true, le-leb}
use Rattle.machine_pws.specs.Entries.{ValueOrFF}
use Rattle.machine_pws.specs.Machine.{put}
use Rattle.machine_pws.proofs.Facts.{put_same, put_other, put_each}
use Rattle.base.specs.Bytes.{choose, byte}
use Rattle.file_records.specs.declared.program.Shape.{Shape}
use Rattle.file_records.specs.Records.{checked, is_kind, value_count, exists, state_at}
use Rattle.file_records.specs.ProgramPart.{shape_of}
use Rattle.file_again.proofs.Tables.{of_four}
use Rattle.file_again.proofs.Names.{value_inside}
use Rattle.pattern_theory.specs.Patterns.{PathRead}
use Rattle.pattern_theory.specs.Verdict.{ReadsOf, is_some}
use Rattle.pattern_reading.specs.Records.{asked, Given, pattern_number, newest_names, newest_at, beginning, body_number, body_size, with_value, read_at, read_put, with_mark, extended}
use Rattle.pattern_reading.specs.Reading.{pattern_of, complete, whole, bad, at_boundary, finished, body_then, pattern_from}
use Rattle.pattern_reading.specs.Places.{ValueOrAny, ValuesOrAny, GivenWithin, PatternAt}
use Rattle.pattern_reading.proofs.Range.{asked_value, reads_snoc, newest_named}
use Rattle.pattern_pass.proofs.BodyLaws.{put_at_lem, put_elsewhere, put_all, Body, value_body, read_body, mark_body, body_says, body_fits}
use Rattle.pattern_pass.proofs.SeenLaws.{read_pattern}
use Rattle.pattern_pass.proofs.ListedLaws.{head_fine, pattern_past}

-- ---- sums over processes and variables

abbrev sum : (ℕ → ℕ) → ℕ
sum h = h 0 + h 1 + h 2 + h 3

abbrev sums : (ℕ → ℕ → ℕ) → ℕ
sums h = sum (λ p. sum (h p))

sum_more : (h k : ℕ → ℕ) (p d : ℕ) → p < 4 → k p ≡ h p + d → ((q : ℕ) → (q ≡ p → ⊥) → k q ≡ h q) → sum k ≡ sum h + d
sum_more h k p d l =
    of_four (λ (p : ℕ). k p ≡ h p + d → ((q : ℕ) → (q ≡ p → ⊥) → k q ≡ h q) → sum k ≡ sum h + d)
    (λ e o. omega (arith, e, o 1 (λ z. omega arith), o 2 (λ z. omega arith), o 3 (λ z. omega arith)))
    (λ e o. omega (arith, e, o 0 (λ z. omega arith), o 2 (λ z. omega arith), o 3 (λ z. omega arith)))
    (λ e o. omega (arith, e, o 0 (λ z. omega arith), o 1 (λ z. omega arith), o 3 (λ z. omega arith)))
    (λ e o. omega (arith, e, o 0 (λ z. omega arith), o 1 (λ z. omega arith), o 2 (λ z. omega arith))) p l

sum_same : (h k : ℕ → ℕ) → ((q : ℕ) → k q ≡ h q) → sum k ≡ sum h
sum_same h k o = omega (arith, o 0, o 1, o 2, o 3)

sums_more : (h k : ℕ → ℕ → ℕ) (p v : ℕ) → p < 4 → v < 4 → k p v ≡ h p v + 1 → ((q u : ℕ) → ((q ≡ p) × (u ≡ v) → ⊥) → k q u ≡ h q u) → sums k ≡ sums h + 1
sums_more h k p v a b e o =
    sum_more (λ q. sum (h q)) (λ q. sum (k q)) p 1 a (sum_more (h p) (k p) v 1 b e (λ u n. o p u (λ z. n z.1)))
    (λ q n. sum_same (h q) (k q) (λ u. o q u (λ z. n z.0)))

sum_most : (h : ℕ → ℕ) (m : ℕ) → ((q : ℕ) → h q ≤ m) → sum h ≤ 4 * m
sum_most h m l = omega (arith, l 0, l 1, l 2, l 3)

sums_most : (h : ℕ → ℕ → ℕ) (m : ℕ) → ((q u : ℕ) → h q u ≤ m) → sums h ≤ 16 * m
sums_most h m l = omega (arith, sum_most (h 0) m (l 0), sum_most (h 1) m (l 1), sum_most (h 2) m (l 2), sum_most (h 3) m (l 3))

abbrev marked : Option ℕ → ℕ
marked none = 0
marked (some x) = 1

marked_most : (m : Option ℕ) → marked m ≤ 1
marked_most none = omega arith
marked_most (some x) = omega arith

-- the bytes of the records that gave g
abbrev bytes_of : Given → ℕ
bytes_of g = 4 * sums (λ p v. length (g.word p v)) + 5 * sum (λ p. length (g.path p)) + 4 * sums (λ p v. marked (g.mark p v))

-- ---- within the limits

any_value : (s : Shape) (v b : ℕ) → ValueOrFF (shape_of s) v b → ValueOrAny s v (asked b)
any_value s v b w = go (asked b) refl
  where
    go : (x : Option ℕ) → asked b ≡ x → ValueOrAny s v x
    go none e = tt
    go (some x) e = asked_value b x s v w e

values_snoc : (s : Shape) (v : ℕ) (w : List (Option ℕ)) (x : Option ℕ) → ValuesOrAny s v w → ValueOrAny s v x → ValuesOrAny s v (w ++ (x ∷ []))
values_snoc s v [] x a b = (b, tt)
values_snoc s v (y ∷ w) x a b = (a.0, values_snoc s v w x a.1 b)

some_none : {x : ℕ} → ◌≡◌ {A = Option ℕ} none (some x) → ⊥
some_none e = let z : ◌≡◌ {A = ℕ} 0 1 = cc in omega arith

module _ (s : Shape) (few : s.processes ≤ 4) (small : s.variables ≤ 4) (f : List ℕ) (start : ℕ) where
  -- g was read up to `at`
  record Partway (at : ℕ) (g : Given) : Type 0 where
    state : g.state ≡ state_at f start
    newest : g.newest ≡ newest_at s f start
    within : GivenWithin s g
    near : at ≤ start + 9 + bytes_of g
    upto : at ≤ length f

  newest_any : newest_names s f start ≡ true → (v : ℕ) → ValueOrAny s v (newest_at s f start v)
  newest_any n v = go (ltb v s.variables) refl
    where
      go : (b : Bool) → ltb v s.variables ≡ b → ValueOrAny s v (cond b (asked (byte f (start + (5 + v)))) none)
      go true e =
          let l = ltb-true v s.variables e in
          any_value s v (byte f (start + (5 + v))) (value_inside s v (byte f (start + (5 + v))) l (newest_named s small f start n v (omega (arith, l))))
      go false e = tt

  begins : newest_names s f start ≡ true → start + 9 ≤ length f → Partway (start + 9) (beginning s f start)
  begins n l =
      record {
        state = refl;
        newest = refl;
        within =
            record {
              words = λ p v. omega arith;
              values = λ p v. tt;
              marks = λ p v x e. absurd (some_none e);
              absent = λ p v e. (refl, refl);
              lengths = λ p. omega arith;
              reads = λ p. tt;
              unread = λ p i. refl;
              newest = newest_any n;
              free = λ v i. rw (le-ltb v s.variables i);
            };
        near = omega arith;
        upto = l;
      }

  module _ (at : ℕ) (g : Given) (W : Partway at g) where
    abbrev p : ℕ
    p = byte f (at + 1)

    abbrev v : ℕ
    v = byte f (at + 2)

    abbrev G : GivenWithin s g
    G = W.within

    -- a queue that does not exist is not the one that is named
    apart : p < s.processes → v < s.variables → (q u : ℕ) → exists s q u ≡ false → (q ≡ p) × (u ≡ v) → ⊥
    apart a b q u e n =
        let w : exists s p v ≡ true = rw (lt-ltb p s.processes a, lt-ltb v s.variables b) in
        let y : exists s p v ≡ false = subst (λ (i : ℕ). exists s i v ≡ false) n.0 (subst (λ (j : ℕ). exists s q j ≡ false) n.1 e) in
        let z : ◌≡◌ {A = ℕ} 0 1 = cc in omega arith

    more_value : p < s.processes → v < s.variables → ValueOrFF (shape_of s) v (byte f (at + 3)) → length (g.word p v) < 8 → at + 4 ≤ length f → Partway (at + 4) (with_value f at g)
    more_value a b c k l =
        let x = asked (byte f (at + 3)) in
        let w = g.word p v ++ (x ∷ []) in
        let n : length w ≡ length (g.word p v) + 1 = length-append (g.word p v) (x ∷ []) in
        record {
          state = W.state;
          newest = W.newest;
          within =
              record {
                words = λ q u. put_all g.word p v w (λ q u w. length w ≤ 8) q u (omega (arith, n)) (λ d. G.words q u);
                values = λ q u. put_all g.word p v w (λ q u w. ValuesOrAny s u w) q u (values_snoc s v (g.word p v) x (G.values p v) (any_value s v (byte f (at + 3)) c)) (λ d. G.values q u);
                marks = G.marks;
                absent = λ q u e. (put_elsewhere g.word p v w q u (apart a b q u e) ∙ (G.absent q u e).0, (G.absent q u e).1);
                lengths = G.lengths;
                reads = G.reads;
                unread = G.unread;
                newest = G.newest;
                free = G.free;
              };
          near = omega (
            arith,
            W.near,
            sums_more (λ q u. length (g.word q u)) (λ q u. length (put g.word p (put (g.word p) v w) q u)) p v (omega (arith, a)) (omega (arith, b))
                (ap length (put_at_lem g.word p v w) ∙ n) (λ q u d. ap length (put_elsewhere g.word p v w q u d)),
          );
          upto = l;
        }

    more_read : p < s.processes → v < s.variables → byte f (at + 3) < value_count s v → length (g.path p) < 16 → at + 5 ≤ length f → Partway (at + 5) (read_put f at g)
    more_read a b c k l =
        let r = read_at f at in
        let rs = g.path p ++ (r ∷ []) in
        let n : length rs ≡ length (g.path p) + 1 = length-append (g.path p) (r ∷ []) in
        record {
          state = W.state;
          newest = W.newest;
          within =
              record {
                words = G.words;
                values = G.values;
                marks = G.marks;
                absent = G.absent;
                lengths = λ q. put_each (λ q (rs : List PathRead). length rs ≤ 16) g.path p rs q (omega (arith, n)) (λ d. G.lengths q);
                reads = λ q. put_each (λ q (rs : List PathRead). ReadsOf (shape_of s) rs) g.path p rs q (reads_snoc (shape_of s) (g.path p) r (G.reads p) b c) (λ d. G.reads q);
                unread = λ q i. put_other g.path p rs q (λ d. omega (arith, a, i, d)) ∙ G.unread q i;
                newest = G.newest;
                free = G.free;
              };
          near = omega (
            arith,
            W.near,
            sum_more (λ q. length (g.path q)) (λ q. length (put g.path p rs q)) p 1 (omega (arith, a))
                (ap length (put_same g.path p rs) ∙ n) (λ q d. ap length (put_other g.path p rs q d)),
          );
          upto = l;
        }

    none_yet : (m : Option ℕ) → is_some m ≡ false → marked m ≡ 0
    none_yet none e = refl
    none_yet (some x) e = let z : ◌≡◌ {A = ℕ} 0 1 = cc in absurd (omega arith)

    more_mark : p < s.processes → v < s.variables → byte f (at + 3) ≤ 1 → is_some (g.mark p v) ≡ false → at + 4 ≤ length f → Partway (at + 4) (with_mark f at g)
    more_mark a b c k l =
        let m : Option ℕ = some (byte f (at + 3)) in
        record {
          state = W.state;
          newest = W.newest;
          within =
              record {
                words = G.words;
                values = G.values;
                marks = λ q u. put_all g.mark p v m (λ q u m. (x : ℕ) → m ≡ some x → x ≤ 1) q u (λ x e. let d : byte f (at + 3) ≡ x = cc in omega (arith, c, d)) (λ d. G.marks q u);
                absent = λ q u e. ((G.absent q u e).0, put_elsewhere g.mark p v m q u (apart a b q u e) ∙ (G.absent q u e).1);
                lengths = G.lengths;
                reads = G.reads;
                unread = G.unread;
                newest = G.newest;
                free = G.free;
              };
          near = omega (
            arith,
            W.near,
            sums_more (λ q u. marked (g.mark q u)) (λ q u. marked (put g.mark p (put (g.mark p) v m) q u)) p v (omega (arith, a)) (omega (arith, b))
                (ap marked (put_at_lem g.mark p v m) ∙ ap (λ (i : ℕ). i + 1) (sym (none_yet (g.mark p v) k))) (λ q u d. ap marked (put_elsewhere g.mark p v m q u d)),
          );
          upto = l;
        }

    twenty : is_kind f at 18 ≡ true → is_kind f at 20 ≡ false
    unfolding is_kind
    twenty k = let e = eqb-true (byte f at) 18 k in ne_eqb (byte f at) 20 (λ d. omega (arith, e, d))

    more : Body s f at g → Partway (at + body_size f at) (extended f at g)
    unfolding body_size extended
    more (value_body k a b c d l) = rw (k, twenty k) (more_value a b c d l)
    more (read_body k j a b c o d l) = rw (k, j) (more_read a b c d l)
    more (mark_body k j a b c d l) = rw (k, j) (more_mark a b c d l)

  -- ---- all of it

  record Done (d : Given) (next : ℕ) : Type 0 where
    partway : Partway next d
    complete : complete s d ≡ true
    ends : at_boundary f next ≡ true

  finish : (at : ℕ) (g : Given) → Partway at g → at_boundary f at ≡ true → (d : Given) (next : ℕ) → finished s start at g ≡ whole d next → Done d next
  unfolding finished
  finish at g W z d next q = go (complete s g) refl q
    where
      go : (b : Bool) → complete s g ≡ b → cond b (whole g at) (bad (record { number = 7; place = start })) ≡ whole d next → Done d next
      go true c q =
          let e : g ≡ d = cc in
          let i : at ≡ next = cc in
          subst (λ (n : ℕ). Done d n) i (subst (λ (x : Given). Done x at) e (record { partway = W; complete = c; ends = z }))
      go false c q = let y : ◌≡◌ {A = ℕ} 0 1 = cc in absurd (omega arith)

  at_end : (at : ℕ) → length f ≤ at → at_boundary f at ≡ true
  unfolding at_boundary
  at_end at l = rw (le-leb (length f) at l)

  follows : (bytes at : ℕ) (g : Given) → Partway at g → length f ≤ bytes + at → (d : Given) (next : ℕ) → pattern_from bytes s f start at g ≡ whole d next → Done d next
  unfolding pattern_from
  follows zero at g W l d next q = finish at g W (at_end at (omega arith)) d next q
  follows (suc bytes) at g W l d next q =
      go (λ W m. follows bytes (at + body_size f at) (extended f at g) W m d next) (at_boundary f at) refl (checked (body_number s f at g) at) refl q
    where
      go : (Partway (at + body_size f at) (extended f at g) → length f ≤ bytes + (at + body_size f at)
          → pattern_from bytes s f start (at + body_size f at) (extended f at g) ≡ whole d next → Done d next)
          → (b : Bool) → at_boundary f at ≡ b → (x : Result ⊤ Refusal) → checked (body_number s f at g) at ≡ x
          → choose b (λ _. finished s start at g) (λ _. body_then x (λ _. pattern_from bytes s f start (at + body_size f at) (extended f at g))) ≡ whole d next
          → Done d next
      go ih true b x k q = finish at g W b d next q
      go ih false b (Err r) k q = let y : ◌≡◌ {A = ℕ} 0 1 = cc in absurd (omega arith)
      go ih false b (Ok _) k q =
          let y = body_says s f at g k in
          ih (more at g W y) (omega (arith, l, (body_fits s f at g y).1)) q

  module _ (states : List ℕ) (head : checked (pattern_number s states f start false) start ≡ Ok tt) (g : Given) (next : ℕ) (q : read_pattern s f start ≡ whole g next) where
    done : Done g next
    done =
        let h = head_fine f start s states false head in
        follows (length f) (start + 9) (beginning s f start) (begins h.4 h.1) (omega arith) g next q

    -- no pattern has more than 905 bytes
    pub pattern_near : next ≤ start + 905
    pattern_near =
        let W = done.partway.within in
        omega (
          arith,
          done.partway.near,
          sums_most (λ p v. length (g.word p v)) 8 W.words,
          sum_most (λ p. length (g.path p)) 16 W.lengths,
          sums_most (λ p v. marked (g.mark p v)) 1 (λ p v. marked_most (g.mark p v)),
        )

    pub pattern_at : PatternAt s states f start (pattern_of g)
    pattern_at =
        record {
          given = g;
          next = next;
          head = head;
          body = q;
          same = refl;
          states = done.partway.state;
          values = done.partway.newest;
          complete = done.complete;
          within = done.partway.within;
          ends = done.ends;
          past = pattern_past s f start g next q;
          upto = done.partway.upto;
        }
