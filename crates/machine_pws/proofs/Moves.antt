-- What a moved pointer and an appended message do to the map of the order. T3: the newest message is matched with the newest.
use Prim.Native.Nat.{ℕ, zero, suc, ◌<◌, ◌≤◌}
use mathlib.Core.Path.{◌≡◌, refl, sym, ap, subst, ◌∙◌}
use mathlib.Core.Logic.{◌⊎◌, inl, inr, ⊎_elim, ◌≢◌}
use mathlib.Core.Bool.{Bool, ◌&&◌, not}
use mathlib.Core.List.{List, [], ◌∷◌}
use native.Mathlib.Omega.{arith}
use native.Mathlib.Decide.{dec_le, ℕ_discrete}
use lib.ListN.{length, set}
use lib.Seq.{set-set}
use lib.Dec.{T, eqb, T_not}
use Rattle.machine_pws.specs.declared.Message.{Message}
use Rattle.machine_pws.specs.Program.{Shape}
use Rattle.machine_pws.specs.Machine.{Memory, put, message, labelled, last_write, newest, copy_with, append, point}
use Rattle.machine_pws.specs.Order.{Live, Maps}
use Rattle.machine_pws.proofs.Facts.{
  T_or_not,
  put_same,
  put_other,
  put_each,
  message_old,
  message_new,
  labelled_self,
  IsLast,
  last_eq,
  last_kept,
  last_passed,
  Proper,
  is_last,
  live_last,
  live_pointer,
}

-- T3: the newest message is LastWrite of its own label
pub newest_last : (S : Shape) (m : Memory) → Proper S m → 1 ≤ length m.channel
    → last_write m (newest m.channel).process (newest m.channel).variable ≡ length m.channel
newest_last S m g some =
    let t = length m.channel in
    let p = (newest m.channel).process in
    let s : IsLast m.channel (m.pointer p) p (newest m.channel).variable t =
    record {
      low = g.high p (g.process t some (omega arith));
      high = omega arith;
      hit = inr (labelled_self (newest m.channel));
      free = λ j x y z. omega arith;
    } in
    last_eq s

module _ (S : Shape) (m n : Memory) (gm : Proper S m) (gn : Proper S n) (h : ℕ → ℕ) (M : Maps S m n h) where
  pub maps_le : (i j : ℕ) → Live S m i → Live S m j → i ≤ j → h i ≤ h j
  maps_le i j a b l = elim (ℕ_discrete i j) [ yes e ↦ rw e (omega arith) | no e ↦ omega (arith, M.rises i j a b (omega arith)) ]

  live : (p k : ℕ) → p < S.processes → m.pointer p ≤ k → k ≤ length m.channel → Live S m k
  live p k e a b = record { who = p; exists = e; from = a; upto = b }

  -- so it is matched with the newest (p is any process)
  pub maps_top : (p : ℕ) → p < S.processes → h (length m.channel) ≡ length n.channel
  maps_top p e =
      let t = length n.channel in
      let some : 1 ≤ t = omega (arith, gn.low p e, gn.high p e) in
      let q = (newest n.channel).process in
      let v = (newest n.channel).variable in
      let qe : q < S.processes = gn.process t some (omega arith) in
      let ve : v < S.variables = gn.variable t some (omega arith) in
      let k = last_write m q v in
      let lk : Live S m k = live_last S m gm q v qe in
      let lt : Live S m (length m.channel) = live q (length m.channel) qe (gm.high q qe) (omega arith) in
      let u : t ≡ h k = sym (newest_last S n gn some) ∙ M.last_writes q v qe ve in
      omega (arith, u, maps_le k (length m.channel) lk lt lk.upto, (M.lands (length m.channel) lt).upto)

  pub maps_newest : (p : ℕ) → p < S.processes → newest m.channel ≡ newest n.channel
  maps_newest p e =
      M.equal (length m.channel) (live p (length m.channel) e (gm.high p e) (omega arith)) ∙ ap (message n.channel) (maps_top p e)

  -- the LastWrite of n, by the map
  last_mapped : (p v : ℕ) → p < S.processes → v < S.variables → IsLast n.channel (h (m.pointer p)) p v (h (last_write m p v))
  last_mapped p v e f =
      subst (λ (x : ℕ). IsLast n.channel x p v (h (last_write m p v))) (M.pointers p e)
      (subst (λ (x : ℕ). IsLast n.channel (n.pointer p) p v x) (M.last_writes p v e f) (is_last S n gn p v e))

  module _ (p k : ℕ) (pe : p < S.processes) (up : m.pointer p ≤ k) (fit : k ≤ length m.channel) where
    point_up : (q : ℕ) → m.pointer q ≤ put m.pointer p k q
    point_up q = put_each (λ q z. m.pointer q ≤ z) m.pointer p k q up (λ d. omega arith)

    point_live : (i : ℕ) → Live S (point m p k) i → Live S m i
    point_live i l = live l.who i l.exists (omega (arith, point_up l.who, l.from)) l.upto

    point_pointers : (q : ℕ) → q < S.processes → put n.pointer p (h k) q ≡ h (put m.pointer p k q)
    point_pointers q e = elim (ℕ_discrete q p) [
      | yes d ↦ rw (d, put_same n.pointer p (h k), put_same m.pointer p k)
      | no d ↦ rw (put_other n.pointer p (h k) q d, put_other m.pointer p k q d) (M.pointers q e)
    ]

    point_at : (q : ℕ) → q < S.processes → Live S m (put m.pointer p k q)
    point_at q e = live q (put m.pointer p k q) e (point_up q) (put_each (λ q z. z ≤ length m.channel) m.pointer p k q fit (λ d. gm.high q e))

    point_last : (q v : ℕ) → q < S.processes → v < S.variables → last_write (point n p (h k)) q v ≡ h (last_write (point m p k) q v)
    point_last q v qe ve =
        let i = last_write m q v in
        let z = put m.pointer p k q in
        let r = is_last S m gm q v qe in
        let s = last_mapped q v qe ve in
        let lz = point_at q qe in
        let li = live_last S m gm q v qe in
        rw (point_pointers q qe) (elim (dec_le z i) [
          | yes l ↦
              last_eq (last_kept s (maps_le (m.pointer q) z (live_pointer S m gm q qe) lz (point_up q)) (maps_le z i lz li l))
              ∙ ap h (sym (last_eq (last_kept r (point_up q) l)))
          | no l ↦
              last_eq (last_passed s (maps_le i z li lz (omega arith)) (M.lands z lz).upto)
              ∙ ap h (sym (last_eq (last_passed r (omega arith) lz.upto)))
        ])

    -- a pointer moved up in m, and to the matching message in n
    pub point_maps : Maps S (point m p k) (point n p (h k)) h
    point_maps =
        record {
          lands = λ i l.
              record {
                who = l.who;
                exists = l.exists;
                from = rw (point_pointers l.who l.exists) (maps_le _ i (point_at l.who l.exists) (point_live i l) l.from);
                upto = (M.lands i (point_live i l)).upto;
              };
          rises = λ i j a b. M.rises i j (point_live i a) (point_live j b);
          equal = λ i l. M.equal i (point_live i l);
          pointers = point_pointers;
          last_writes = point_last;
        }

-- ns is the channel ms with one or more messages of label (p, v), the newest of which has x in v
pub record Grown (ms ns : List Message) (p v x : ℕ) : Type 0 where
  pub longer : length ms < length ns
  pub old : (i : ℕ) → i ≤ length ms → message ns i ≡ message ms i
  pub new : (i : ℕ) → length ms < i → i ≤ length ns → ((message ns i).process ≡ p) × ((message ns i).variable ≡ v)
  pub top : newest ns ≡ copy_with ms p v x

pub grown_one : (ms : List Message) (p v x : ℕ) → Grown ms (copy_with ms p v x ∷ ms) p v x
grown_one ms p v x =
    record {
      longer = omega arith;
      old = message_old (copy_with ms p v x) ms;
      new = λ i a b. let e : i ≡ suc (length ms) = omega arith in rw (e, message_new (copy_with ms p v x) ms) (refl, refl);
      top = message_new (copy_with ms p v x) ms;
    }

pub grown_more : (ms ns : List Message) (p v x y : ℕ) → Grown (copy_with ms p v y ∷ ms) ns p v x → Grown ms ns p v x
grown_more ms ns p v x y g =
    record {
      longer = omega (arith, g.longer);
      old = λ i a. g.old i (omega arith) ∙ message_old (copy_with ms p v y) ms i a;
      new = λ i a b. elim (ℕ_discrete i (suc (length ms))) [
        | yes e ↦ rw (e, g.old (suc (length ms)) (omega arith), message_new (copy_with ms p v y) ms) (refl, refl)
        | no e ↦ g.new i (omega arith) b
      ];
      top = g.top ∙ rw (message_new (copy_with ms p v y) ms, set-set);
    }

-- messages of another label do not touch a LastWrite
grown_last : {ms ns : List Message} {p v x z q u i : ℕ} → Grown ms ns p v x → T (not (eqb p q && eqb v u)) → IsLast ms z q u i → IsLast ns z q u i
grown_last {ms} {ns} {p} {v} {x} {z} {q} {u} {i} g t r =
    record {
      low = r.low;
      high = omega (arith, r.high, g.longer);
      hit = ⊎_elim inl (λ y. inr (rw (g.old i r.high) y)) r.hit;
      free = λ j a b y. elim (dec_le j (length ms)) [
        | yes k ↦ r.free j a k (rw (g.old j k) at y)
        | no k ↦ let e = g.new j (omega arith) b in T_not (eqb p q && eqb v u) t (rw (e.0, e.1) at y)
      ];
    }

grown_top : {ms ns : List Message} {p v x z q u : ℕ} → Grown ms ns p v x → T (eqb p q && eqb v u) → z ≤ length ms → IsLast ns z q u (length ns)
grown_top {ms} {ns} {p} {v} {x} {z} {q} {u} g t h =
    let e = g.new (length ns) g.longer (omega arith) in
    record { low = omega (arith, g.longer); high = omega arith; hit = inr (rw (e.0, e.1) t); free = λ j a b y. omega arith }

module _ (S : Shape) (m n : Memory) (gm : Proper S m) (gn : Proper S n) (h : ℕ → ℕ) (M : Maps S m n h)
    (p v x : ℕ) (pe : p < S.processes) (ve : v < S.variables) (ns : List Message) (g : Grown n.channel ns p v x) where
  abbrev top : ℕ
  top = suc (length m.channel)

  abbrev pub h' : ℕ → ℕ
  h' = put h top (length ns)

  old : (i : ℕ) → i ≤ length m.channel → h' i ≡ h i
  old i l = put_other h top (length ns) i (omega arith)

  pub new : h' top ≡ length ns
  new = put_same h top (length ns)

  down : (i : ℕ) → Live S (append m p v x) i → i ≤ length m.channel → Live S m i
  down i l a = record { who = l.who; exists = l.exists; from = l.from; upto = a }

  upper : (i : ℕ) → Live S n i → Live S (record { channel = ns; pointer = n.pointer }) i
  upper i l = record { who = l.who; exists = l.exists; from = l.from; upto = omega (arith, l.upto, g.longer) }

  -- the new messages match
  append_equal : message (append m p v x).channel top ≡ newest ns
  append_equal =
      message_new (copy_with m.channel p v x) m.channel
      ∙ ap (λ (y : Message). record { process = p; variable = v; snapshot = set y.snapshot v x }) (maps_newest S m n gm gn h M p pe)
      ∙ sym g.top

  append_last : (q u : ℕ) → q < S.processes → u < S.variables
      → last_write (record { channel = ns; pointer = n.pointer }) q u ≡ h' (last_write (append m p v x) q u)
  append_last q u qe ue =
      let one = grown_one m.channel p v x in
      let r = is_last S m gm q u qe in
      let s = is_last S n gn q u qe in
      ⊎_elim
      (λ t. last_eq (grown_top g t (gn.high q qe)) ∙ sym new ∙ ap h' (sym (last_eq (grown_top one t (gm.high q qe)))))
      (λ t.
      last_eq (grown_last g t s) ∙ M.last_writes q u qe ue
      ∙ sym (old (last_write m q u) r.high) ∙ ap h' (sym (last_eq (grown_last one t r))))
      (T_or_not (eqb p q && eqb v u))

  -- one message appended to m, and one or more of its label to n, the newest with the same value
  pub append_maps : Maps S (append m p v x) (record { channel = ns; pointer = n.pointer }) h'
  append_maps =
      record {
        lands = λ i l. elim (dec_le i (length m.channel)) [
          | yes a ↦ rw (old i a) (upper (h i) (M.lands i (down i l a)))
          | no a ↦
              let e : i ≡ top = omega (arith, l.upto) in
              rw (e, new) (record { who = l.who; exists = l.exists; from = omega (arith, gn.high l.who l.exists, g.longer); upto = omega arith })
        ];
        rises = λ i j a b l. elim (dec_le j (length m.channel)) [
          | yes c ↦ rw (old i (omega arith), old j c) (M.rises i j (down i a (omega arith)) (down j b c) l)
          | no c ↦
              let e : j ≡ top = omega (arith, b.upto) in
              let ia : i ≤ length m.channel = omega (arith, b.upto) in
              rw (e, new, old i ia) (omega (arith, (M.lands i (down i a ia)).upto, g.longer))
        ];
        equal = λ i l. elim (dec_le i (length m.channel)) [
          | yes a ↦
              message_old (copy_with m.channel p v x) m.channel i a ∙ M.equal i (down i l a)
              ∙ sym (g.old (h i) (M.lands i (down i l a)).upto) ∙ ap (message ns) (sym (old i a))
          | no a ↦
              let e : i ≡ top = omega (arith, l.upto) in
              ap (message (append m p v x).channel) e ∙ append_equal ∙ ap (message ns) (sym new) ∙ ap (λ (k : ℕ). message ns (h' k)) (sym e)
        ];
        pointers = λ q e. M.pointers q e ∙ sym (old (m.pointer q) (gm.high q e));
        last_writes = append_last;
      }
