-- T7 in memory: what maps to the memory after a step maps, by a filling of a predecessor cube, to the memory before.
use Prim.Native.Nat.{ℕ, suc, ◌-◌, ◌<◌, ◌≤◌}
use mathlib.Core.Path.{◌≡◌, refl, sym, ap, subst, ◌∙◌}
use mathlib.Core.Logic.{inl, inr, ⊎_elim, ◌≢◌}
use mathlib.Core.Bool.{Bool, ◌&&◌, ◌||◌, not}
use mathlib.Core.List.{List, ◌∷◌}
use native.Mathlib.Omega.{arith}
use native.Mathlib.Decide.{dec_le, ℕ_discrete}
use lib.ListN.{length, get_or, set}
use lib.Seq.{get_or-set_same}
use lib.Dec.{T, eqb, ltb, leb, lt→ltb, le→leb}
use borrow.Author.Tests.{le-leb}
use mir.Facts.{yes_and, yes_eqb, no_eqb}
use Rattle.machine_pws.specs.declared.Message.{Message}
use Rattle.machine_pws.specs.Program.{Shape, WellFormedShape}
use Rattle.machine_pws.specs.Machine.{Memory, put, message, labelled, last_write, newest, copy_with, append, point, all_below, at_newest}
use Rattle.machine_pws.specs.Configurations.{MessageIn, MemoryIn, ValueOf}
use Rattle.machine_pws.specs.Order.{Live, Maps}
use Rattle.machine_pws.specs.Insertion.{put_message, up, insert_into}
use Rattle.machine_pws.specs.Entries.{FF, Fill, FillValues, FillMessage, FillChannel, channel_nil, channel_cons}
use Rattle.machine_pws.proofs.Facts.{or_left, or_right, put_same, put_other, message_old, message_new, labelled_self, IsLast, last_eq, Proper, proper, is_last, live_last, live_pointer}
use Rattle.machine_pws.proofs.Moves.{maps_top, maps_newest}
use Rattle.machine_pws.proofs.Insertion.{Hit, semi_of, semi_back, ins, up_low, insert_top, proper_insert, maps_left}
use Rattle.list_theory.specs.Values.{alike}
use Rattle.list_theory.specs.Cubes.{memory_of, message_of, any_message, topmost, alike_newest}
use Rattle.list_theory.specs.Predecessors.{Kind, undone, inside, on_top, pointed, without_newest, serialise_memory, arw_memory, update_memory, serialised, serialise_kind, swapped, arw_kind, update_kind}
use Rattle.list_theory.proofs.Lists.{yes_all}
use Rattle.list_theory.proofs.Fillings.{fill_alike, fill_at, fill_each, fill_back, channel_length, channel_last, fill_labelled, channel_insert, newest_meet}
use Rattle.list_theory.proofs.Covering.{FilledMemory}
use Rattle.list_theory.proofs.Gaps.{Gap, labelled_is, via}
use Rattle.list_theory.proofs.Undoing.{proper_point, proper_cons, UpdateBack, lowered, fresh, update_back, top_is, pointers_low, proper_low, append_hit, append_place, gap_past, gap_labelled, gap_proper, append_gap}
use Rattle.list_theory.proofs.Cubes.{any_length, any_exists, any_absent}

-- any message fills one that is free
pub fill_any : {Val : ℕ → ℕ → Type 0} {S : Shape} {m : Message} → S.variables ≤ S.room → MessageIn Val S m → (p v : ℕ) → m.process ≡ p → m.variable ≡ v → FillMessage (any_message S p v) m
fill_any {S = S} {m = m} wide o p v a b =
    record {
      process = sym a;
      variable = sym b;
      snapshot = fill_each (any_message S p v).snapshot m.snapshot (any_length S 0 S.room ∙ sym o.room) (λ j l. elim (dec_le S.variables j) [
        | yes c ↦ inr (any_absent S p v j c ∙ sym (o.absent j c))
        | no c ↦ inl (any_exists S p v j wide (omega arith))
      ]);
    }

pub newest_insert : (ms : List Message) (k : ℕ) (μ : Message) → 1 ≤ k → k ≤ length ms → newest (put_message ms k μ) ≡ newest ms
newest_insert ms k μ a b = let J = ins ms k μ a (omega arith) in ap (message (put_message ms k μ)) J.len ∙ J.hi (length ms) b (omega arith)

module _ (S : Shape) (R : WellFormedShape S) (n : Memory) (on : MemoryIn (ValueOf S) S n) (p : ℕ) (pe : p < S.processes) where
  gn : Proper S n
  gn = proper on

  abbrev ν : Message
  ν = newest n.channel

  -- ---- update

  pub record UpdateMissing (e : Memory) : Type 0 where
    pub kind : Kind
    pub has : T (update_kind S e p kind)
    pub memory : FilledMemory S (update_memory S e p kind) n

  pub update_missing : (e : Memory) {fs : List Message} → FillChannel e.channel fs → Proper S (memory_of fs e.pointer) → n.pointer p < length n.channel
      → (h : ℕ → ℕ) → Maps S (memory_of fs e.pointer) (point n p (suc (n.pointer p))) h → UpdateMissing e
  update_missing e {fs} ce gf room h M = go (update_back S (memory_of fs e.pointer) n gf gn p pe room h M)
    where
      μ : Message
      μ = message n.channel (n.pointer p)

      oμ : MessageIn (ValueOf S) S (message n.channel (n.pointer p))
      oμ = on.messages (n.pointer p) (on.low p pe) (omega arith)

      go : UpdateBack S (memory_of fs e.pointer) n p → UpdateMissing e
      go (lowered a h' N) = record { kind = undone; has = lt→ltb 1 (e.pointer p) a; memory = record { channel = fs; fill = ce; h = h'; maps = N } }
      go (fresh a h' N) =
          let r = (message n.channel (n.pointer p)).process in
          let u = (message n.channel (n.pointer p)).variable in
          let k = e.pointer p in
          record {
            kind = pointed r u;
            has = yes_and (ltb r S.processes && ltb u S.variables) (leb k (last_write e r u))
                (yes_and (ltb r S.processes) (ltb u S.variables) (lt→ltb r S.processes oμ.process) (lt→ltb u S.variables oμ.variable))
                (le→leb k (last_write e r u) (rw (channel_last ce r u) a));
            memory = record { channel = put_message fs k (message n.channel (n.pointer p)); fill = channel_insert ce k (fill_any R.variables oμ r u refl refl); h = h'; maps = N };
          }

  -- ---- what the newest message of an entry says, if its filling is a copy with y in v

  module _ (en fn : Message) (te : FillMessage en fn) (v y : ℕ) (ve : v < S.variables) (is : fn ≡ copy_with n.channel p v y) where
    label_yes : T (labelled en p v)
    label_yes = rw (fill_labelled te p v, is) (labelled_self (copy_with n.channel p v y))

    pub value_yes : Fill (get_or en.snapshot v 0) y
    value_yes =
        let room = (on.messages (length n.channel) on.some (omega arith)).room in
        subst (Fill (get_or en.snapshot v 0)) (ap (λ (m : Message). get_or m.snapshot v 0) is ∙ get_or-set_same ν.snapshot v y 0 (omega (arith, R.variables)))
        (fill_at te.snapshot v)

    -- the newest snapshot before
    was : (x : ℕ) → Fill x (get_or ν.snapshot v 0) → FillValues (set en.snapshot v x) ν.snapshot
    was x f = fill_back v x y (subst (λ (m : Message). FillValues en.snapshot m.snapshot) is te.snapshot) f

  -- ---- serialise

  pub record SerialiseMissing (e : Memory) (v x : ℕ) : Type 0 where
    pub kind : Kind
    pub serialised : T (serialised S e p v)
    pub has : T (serialise_kind e p v kind)
    pub value : Fill (get_or (topmost e.channel).snapshot v 0) x
    pub memory : FilledMemory S (serialise_memory S e p v kind) n

  module _ (en fn : Message) (es fs : List Message) (te : FillMessage en fn) (ce : FillChannel es fs) (z : ℕ → ℕ) (v x : ℕ) (ve : v < S.variables)
      (gf : Proper S (memory_of (fn ∷ fs) z)) (h : ℕ → ℕ) (M : Maps S (memory_of (fn ∷ fs) z) (append n p v x) h) where
    abbrev e : Memory
    e = memory_of (en ∷ es) z

    low : (q : ℕ) → q < S.processes → z q ≤ length fs
    low = pointers_low S fn fs z n p v x pe ve gf gn h M

    g₀ : Proper S (memory_of fs z)
    g₀ = proper_low S fn fs z n p v x pe ve gf gn h M

    some : 1 ≤ length fs
    some = omega (arith, low p pe, gf.low p pe)

    serialised_is : (k : Kind) → T (serialise_kind e p v k) → FilledMemory S (serialise_memory S e p v k) n → SerialiseMissing e v x
    serialised_is k t F =
        let is = top_is S fn fs z n p v x pe ve gf gn h M in
        record {
          kind = k;
          serialised = yes_and (ltb 1 (suc (length es)) && labelled en p v) (all_below S.processes (λ q. not (at_newest e q)))
              (yes_and (ltb 1 (suc (length es))) (labelled en p v) (lt→ltb 1 (suc (length es)) (omega (arith, some, channel_length ce))) (label_yes en fn te v x ve is))
              (yes_all S.processes (λ q. not (at_newest e q)) (λ q a. no_eqb {a = z q} {b = suc (length es)} (omega (arith, low q a, channel_length ce))));
          has = t;
          value = value_yes en fn te v x ve is;
          memory = F;
        }

    was_free : FillValues (set en.snapshot v FF) ν.snapshot
    was_free = was en fn te v x ve (top_is S fn fs z n p v x pe ve gf gn h M) FF (inl refl)

    hit : Hit S (memory_of fs z) h (last_write n p v) → SerialiseMissing e v x
    hit r =
        let N = append_hit S fn fs z n p v x pe ve gf gn h M r in
        let a = newest_meet (set en.snapshot v FF) ce some (rw (maps_newest S (memory_of fs z) n g₀ gn h N p pe) was_free) in
        serialised_is undone a.0 (record { channel = fs; fill = a.1; h = h; maps = N })

    gap : (k : ℕ) → Gap S (memory_of fs z) h (last_write n p v) k → SerialiseMissing e v x
    gap k G =
        let i = last_write n p v in
        let μ = message n.channel i in
        let f₀ : Memory = memory_of fs z in
        let lab = labelled_is μ p v (gap_labelled S fn fs z n p v x pe ve gf gn h M k G) in
        let good = gap_proper S fn fs z n p v x pe ve gf gn h M k G in
        let N = append_gap S fn fs z n p v x pe ve gf gn h M k G in
        let new : newest (put_message fs k μ) ≡ ν = maps_newest S (insert_into f₀ k μ) n good gn (via h k i) N p pe in
        let l = live_last S n gn p v pe in
        elim (dec_le k (length fs)) [
          | yes b ↦
              let a = newest_meet (set en.snapshot v FF) ce some (rw (sym (newest_insert fs k μ G.lo b) ∙ new) was_free) in
              serialised_is (inside k)
              (yes_and (alike_newest es (set en.snapshot v FF)) (ltb (last_write (without_newest e) p v) k && leb k (length es)) a.0
              (yes_and (ltb (last_write (without_newest e) p v) k) (leb k (length es))
              (lt→ltb (last_write (without_newest e) p v) k (rw (channel_last ce p v) (gap_past S fn fs z n p v x pe ve gf gn h M k G)))
              (le→leb k (length es) (omega (arith, channel_length ce)))))
              (record {
                channel = put_message fs k μ;
                fill = channel_insert a.1 k (fill_any R.variables (on.messages i (omega (arith, l.from, on.low l.who l.exists)) l.upto) p v lab.0 lab.1);
                h = via h k i;
                maps = N;
              })
          | no b ↦
              let d : k ≡ suc (length fs) = omega (arith, G.hi) in
              let w : μ ≡ ν = sym (ap newest (insert_top fs k μ d) ∙ message_new μ fs) ∙ new in
              let top : FillMessage (message_of p v (set en.snapshot v FF)) μ = record { process = sym lab.0; variable = sym lab.1; snapshot = rw w was_free } in
              serialised_is (on_top v) (yes_eqb {a = v} refl)
              (record {
                channel = put_message fs k μ;
                fill = rw (insert_top fs k μ d) (channel_cons top ce);
                h = via h k i;
                maps = maps_left S (insert_into f₀ k μ) z (λ q a. up_low k (z q) (omega (arith, low q a))) N;
              })
        ]

    serialise_cons : SerialiseMissing e v x
    serialise_cons = ⊎_elim hit (λ r. gap r.0 r.1) (append_place S fn fs z n p v x pe ve gf gn h M)

  pub serialise_missing : {es fs : List Message} → FillChannel es fs → (z : ℕ → ℕ) (v x : ℕ) → v < S.variables → Proper S (memory_of fs z)
      → (h : ℕ → ℕ) → Maps S (memory_of fs z) (append n p v x) h → SerialiseMissing (memory_of es z) v x
  serialise_missing channel_nil z v x ve gf h M = absurd (omega (arith, gf.low p pe, gf.high p pe))
  serialise_missing (channel_cons {e = en} {m = fn} {es = es} {ms = fs} te ce) z v x ve gf h M = serialise_cons en fn es fs te ce z v x ve gf h M

  -- ---- arw: an append and an update

  pub record ArwMissing (e : Memory) (v old new : ℕ) : Type 0 where
    pub kind : Kind
    pub swapped : T (swapped S e p v new)
    pub has : T (arw_kind S e v old kind)
    pub memory : FilledMemory S (arw_memory e p v old kind) n

  module _ (en fn : Message) (es fs : List Message) (te : FillMessage en fn) (ce : FillChannel es fs) (z : ℕ → ℕ) (v old new : ℕ) (ve : v < S.variables)
      (gf : Proper S (memory_of (fn ∷ fs) z)) (here : n.pointer p ≡ length n.channel) (held : get_or (newest n.channel).snapshot v 0 ≡ old)
      (h : ℕ → ℕ) (M : Maps S (memory_of (fn ∷ fs) z) (point (append n p v new) p (suc (length n.channel))) h) where
    abbrev e₂ : Memory
    e₂ = memory_of (en ∷ es) z

    abbrev f : Memory
    f = memory_of (fn ∷ fs) z

    abbrev n₁ : Memory
    n₁ = append n p v new

    gn₁ : Proper S n₁
    gn₁ = proper_cons (copy_with n.channel p v new) gn pe ve

    gn₂ : Proper S (point n₁ p (suc (length n.channel)))
    gn₂ = proper_point gn₁ p (suc (length n.channel)) (omega arith) (omega arith)

    top_live : Live S f (suc (length fs))
    top_live = record { who = p; exists = pe; from = gf.high p pe; upto = omega arith }

    top_at : h (suc (length fs)) ≡ suc (length n.channel)
    top_at = maps_top S f (point n₁ p (suc (length n.channel))) gf gn₂ h M p pe

    is : fn ≡ copy_with n.channel p v new
    is = sym (message_new fn fs) ∙ M.equal (suc (length fs)) top_live ∙ ap (message n₁.channel) top_at ∙ message_new (copy_with n.channel p v new) n.channel

    at_top : z p ≡ suc (length fs)
    at_top =
        let a = semi_back S f (point n₁ p (suc (length n.channel))) gf gn₂ h (semi_of M) (suc (length fs)) (z p) top_live (live_pointer S f gf p pe)
        (omega (arith, top_at, M.pointers p pe, put_same n.pointer p (suc (length n.channel)))) in
        omega (arith, gf.high p pe)

    others_low : (q : ℕ) → q < S.processes → q ≢ p → z q ≢ suc (length fs)
    others_low q a d c = omega (arith, M.pointers q a, put_other n.pointer p (suc (length n.channel)) q d, gn.high q a, ap h c, top_at)

    swapped_is : (k : Kind) → T (arw_kind S e₂ v old k) → FilledMemory S (arw_memory e₂ p v old k) n → ArwMissing e₂ v old new
    swapped_is k t F =
        let others : ℕ → Bool = λ q. eqb q p || not (at_newest e₂ q) in
        let a = get_or en.snapshot v 0 in
        record {
          kind = k;
          swapped = yes_and (labelled en p v && alike a new) (at_newest e₂ p && all_below S.processes others)
              (yes_and (labelled en p v) (alike a new) (label_yes en fn te v new ve is) (fill_alike a new new (value_yes en fn te v new ve is) (inr refl)))
              (yes_and (at_newest e₂ p) (all_below S.processes others) (yes_eqb (at_top ∙ ap suc (sym (channel_length ce))))
              (yes_all S.processes others (λ q b. elim (ℕ_discrete q p) [
                | yes d ↦ or_left (eqb q p) (not (at_newest e₂ q)) (yes_eqb d)
                | no d ↦ or_right (eqb q p) (not (at_newest e₂ q)) (no_eqb {a = z q} {b = suc (length es)} (λ c. others_low q b d (omega (arith, channel_length ce))))
              ])));
          has = t;
          memory = F;
        }

    was_old : FillValues (set en.snapshot v old) ν.snapshot
    was_old = was en fn te v new ve is old (inr (sym held))

    -- p's LastWrites in n are its pointer, which is hit
    pointer_hit : {ms : List Message} {w : ℕ → ℕ} (g : ℕ → ℕ) → Proper S (memory_of ms w) → n.pointer p ≡ g (w p) → Hit S (memory_of ms w) g (last_write n p v)
    pointer_hit {ms} {w} g o c =
        let s : IsLast n.channel (n.pointer p) p v (n.pointer p) = record { low = omega arith; high = gn.high p pe; hit = inl refl; free = λ j a b t. omega arith } in
        record { at = w p; lives = live_pointer S (memory_of ms w) o p pe; hits = sym c ∙ sym (last_eq s) }

    arw_lowered : (g : ℕ → ℕ) → 2 ≤ z p → Maps S (point f p (z p - 1)) n₁ g → ArwMissing e₂ v old new
    arw_lowered g two K =
        let w = put z p (z p - 1) in
        let gw = proper_point gf p (z p - 1) (omega arith) (omega (arith, gf.high p pe)) in
        let g₀ = proper_low S fn fs w n p v new pe ve gw gn g K in
        let N = append_hit S fn fs w n p v new pe ve gw gn g K (pointer_hit g g₀ (K.pointers p pe)) in
        let a = newest_meet (set en.snapshot v old) ce (omega (arith, at_top)) (rw (maps_newest S (memory_of fs w) n g₀ gn g N p pe) was_old) in
        swapped_is undone a.0
        (record { channel = fs; fill = a.1; h = g; maps = subst (λ (i : ℕ). Maps S (memory_of fs (put z p i)) n g) (omega (arith, at_top, channel_length ce)) N })

    arw_fresh : (g : ℕ → ℕ) (μ : Message) → μ ≡ newest n.channel → z p ≤ last_write f μ.process μ.variable
        → Maps S (point (insert_into f (z p) μ) p (z p)) n₁ g → ArwMissing e₂ v old new
    arw_fresh g μ d covered K =
        let oν = on.messages (length n.channel) on.some (omega arith) in
        let w = put (λ q. up (z p) (z q)) p (z p) in
        let at : put_message (fn ∷ fs) (z p) μ ≡ fn ∷ μ ∷ fs = rw (le-leb (z p) (suc (length fs)) (omega (arith, at_top)))
        (ap (λ (ms : List Message). fn ∷ ms) (insert_top fs (z p) μ at_top)) in
        let re : μ.process < S.processes = rw d oν.process in
        let ue : μ.variable < S.variables = rw d oν.variable in
        let gi = proper_point (proper_insert S f gf (z p) (gf.low p pe) (omega (arith, at_top)) μ re ue) p (z p) (gf.low p pe)
        (omega (arith, gf.high p pe, (ins (fn ∷ fs) (z p) μ (gf.low p pe) (omega (arith, at_top))).len)) in
        let gw : Proper S (memory_of (fn ∷ μ ∷ fs) w) = subst (λ (ms : List Message). Proper S (memory_of ms w)) at gi in
        let K' : Maps S (memory_of (fn ∷ μ ∷ fs) w) n₁ g = subst (λ (ms : List Message). Maps S (memory_of ms w) n₁ g) at K in
        let g₀ = proper_low S fn (μ ∷ fs) w n p v new pe ve gw gn g K' in
        let N = append_hit S fn (μ ∷ fs) w n p v new pe ve gw gn g K' (pointer_hit g g₀ (K'.pointers p pe)) in
        let same : (q : ℕ) → q < S.processes → w q ≡ z q = λ q a. elim (ℕ_discrete q p) [
          | yes c ↦ rw (c, put_same (λ q. up (z p) (z q)) p (z p))
          | no c ↦ put_other (λ q. up (z p) (z q)) p (z p) q c ∙ up_low (z p) (z q) (omega (arith, at_top, gf.high q a, others_low q a c))
        ] in
        let mine : μ.process ≡ p = elim (ℕ_discrete μ.process p) [
          | yes c ↦ c
          | no c ↦
              let r = is_last S f gf μ.process μ.variable re in
              let i : last_write f μ.process μ.variable ≡ suc (length fs) = omega (arith, at_top, r.high) in
              absurd (⊎_elim
              (λ b. others_low μ.process re c (omega arith))
              (λ t. c (sym (labelled_is fn μ.process μ.variable (rw (i, message_new fn fs) at t)).0 ∙ ap (λ (m : Message). m.process) is)) r.hit)
        ] in
        swapped_is (on_top μ.variable) (lt→ltb μ.variable S.variables ue)
        (record {
          channel = μ ∷ fs;
          fill = channel_cons (record { process = sym mine; variable = refl; snapshot = rw d was_old }) ce;
          h = g;
          maps = maps_left S (memory_of (μ ∷ fs) w) z same N;
        })

    arw_cons : ArwMissing e₂ v old new
    arw_cons = go (update_back S f n₁ gf gn₁ p pe (omega (arith, here)) h (subst (λ (i : ℕ). Maps S f (point n₁ p (suc i)) h) (sym here) M))
      where
        go : UpdateBack S f n₁ p → ArwMissing e₂ v old new
        go (lowered a g K) = arw_lowered g a K
        go (fresh a g K) = arw_fresh g (message n₁.channel (n.pointer p))
            (message_old (copy_with n.channel p v new) n.channel (n.pointer p) (gn.high p pe) ∙ ap (message n.channel) here) a K

  pub arw_missing : {es fs : List Message} → FillChannel es fs → (z : ℕ → ℕ) (v old new : ℕ) → v < S.variables → Proper S (memory_of fs z)
      → n.pointer p ≡ length n.channel → get_or (newest n.channel).snapshot v 0 ≡ old
      → (h : ℕ → ℕ) → Maps S (memory_of fs z) (point (append n p v new) p (suc (length n.channel))) h → ArwMissing (memory_of es z) v old new
  arw_missing channel_nil z v old new ve gf here held h M = absurd (omega (arith, gf.low p pe, gf.high p pe))
  arw_missing (channel_cons {e = en} {m = fn} {es = es} {ms = fs} te ce) z v old new ve gf here held h M = arw_cons en fn es fs te ce z v old new ve gf here held h M
