-- What holds of a summary holds after each addition (request N2).
use Prim.Native.Nat.{ℕ, zero, suc, ◌+◌, ◌*◌, ◌-◌, ◌/◌, ◌%◌, ◌<◌, ◌≤◌}
use mathlib.Core.Path.{◌≡◌, refl, sym, ap, subst, ◌∙◌}
use mathlib.Core.Logic.{◌≢◌}
use mathlib.Core.Bool.{Bool, true, false, cond, ◌&&◌}
use mathlib.Core.List.{List}
use native.Mathlib.Omega.{arith}
use native.Mathlib.Decide.{dec_le, ℕ_discrete}
use lib.ListN.{length}
use lib.Dec.{ltb}
use borrow.Author.Tests.{ne_eqb, lt-ltb, le-ltb}
use Rattle.machine_pws.specs.Machine.{put}
use Rattle.file_records.specs.declared.program.Shape.{Shape}
use Rattle.base.specs.Bytes.{byte, le32}
use Rattle.file_again.specs.Again.{cube_at}
use Rattle.list_key.specs.Tags.{sum_below}
use Rattle.list_key.specs.Number.{signature_in, number_of, states_mixed}
use Rattle.list_key.proofs.SumLaws.{sum_zero}
use Rattle.list_summary.specs.Slots.{word, linked, link_to, head_link, next_link, field_at, count_at, signature_at, hung, put_field, home_of, mark_in, Met}
use Rattle.list_summary.specs.Groups.{same_states, states_at, leads, in_group, leader_of, joined_at, added, added_from, summary_of}
use Rattle.list_summary.specs.Summary.{Grouped, Summed}
use Rattle.list_summary.proofs.WordLaws.{put_is, put_is_not, put_ext, put_own, hung_length, hung_head, hung_next, hung_count, hung_signature, counted_length, counted_head, counted_next, counted_count, signed_count, put_signature}
use Rattle.list_summary.proofs.ChainLaws.{home_below, met_new, met_old, heads_new}
use Rattle.list_summary.proofs.GroupLaws.{true_false, same_sym, same_false, same_trans, leads_none, none_leads, one_leads, in_none, in_more, in_same, in_most, same_refl, sum_one}
use Rattle.list_summary.proofs.LeaderLaws.{leader_leads, no_leader, leads_counted}

and_no : (b : Bool) → b && false ≡ false
and_no true = refl
and_no false = refl

module _ {f list sum : List ℕ} {n : ℕ} {s : Shape} {m : ℕ} (G : Grouped f list sum n s m) (l : m < n) (few : n ≤ 524288) where
  abbrev st : ℕ → List ℕ
  st = states_at f list s

  -- entry m hangs first on the chain of a home, and the number of one group, that of entry j, goes up by one
  module _ (new : List ℕ) (number j : ℕ) (len : length new ≡ length sum) (jl : j < n)
      (head : (i : ℕ) → head_link new i ≡ put (head_link sum) (home_of number n) (link_to m (mark_in number)) i)
      (next : (i : ℕ) → next_link new i ≡ put (next_link sum) m (head_link sum (home_of number n)) i)
      (count : (i : ℕ) → count_at new i ≡ put (count_at sum) j (count_at sum j + 1) i) where
    home : ℕ
    home = home_of number n

    old : (number' i mark : ℕ) → Met sum n (head_link sum (home_of number' n)) i mark → Met new n (head_link new (home_of number' n)) i mark
    old number' i mark r = met_old sum new n (home_of number n) m (mark_in number) l (omega arith) head next (home_of number' n) (G.heads (home_of number' n) (home_below number' n (omega arith))) r

    joins : Met new n (head_link new (home_of number n)) m (mark_in number)
    joins = met_new sum new n (home_of number n) m (mark_in number) l (omega arith) head next

    heads : (h : ℕ) → h < n → linked (head_link new h) ≤ suc m
    heads h x = heads_new sum new n (home_of number n) m (mark_in number) l (omega arith) head next h (G.heads h x)

    total : sum_below n (count_at new) ≡ suc m
    total =
        let r = sum_one n (count_at sum) (count_at new) j jl (count j ∙ put_is (count_at sum) j (count_at sum j + 1)) (λ i x d. count i ∙ put_is_not (count_at sum) j (count_at sum j + 1) i d) in
        omega (arith, r, G.total)

    -- the entry goes where it is looked for, and the group is its own
    pub grouped_more : ((k : ℕ) → k < n → count_at new k ≡ cond (ltb k (suc m) && leads f list s k) (in_group f list s (suc m) (st k)) 0)
        → (leads f list s m ≡ true → number ≡ states_mixed s (st m)) → (leads f list s m ≡ false → number ≡ number_of s (cube_at f list m))
        → ((k : ℕ) → k < m → leads f list s k ≡ false → signature_at new k ≡ signature_at sum k) → (leads f list s m ≡ false → signature_at new m ≡ signature_in number) → Grouped f list new n s (suc m)
    grouped_more numbers a b c d =
        record {
          most = l;
          room = omega (arith, G.room);
          numbers = numbers;
          total = total;
          first = λ k x e. elim (ℕ_discrete k m) [
            | yes d ↦ (mark_in number, rw d (subst (λ (h : ℕ). Met new n (head_link new (home_of h n)) m (mark_in number)) (a (sym (ap (leads f list s) d) ∙ e)) joins))
            | no d ↦ let r = G.first k (omega arith) e in (r.0, old (states_mixed s (st k)) k r.0 r.1)
          ];
          others = λ k x e. elim (ℕ_discrete k m) [
            | yes d ↦ rw d (subst (λ (h : ℕ). Met new n (head_link new (home_of h n)) m (mark_in h)) (b (sym (ap (leads f list s) d) ∙ e)) joins)
            | no d ↦ old (number_of s (cube_at f list k)) k (mark_in (number_of s (cube_at f list k))) (G.others k (omega arith) e)
          ];
          signed = λ k x e. elim (ℕ_discrete k m) [
            | yes q ↦ rw q (let y = sym (ap (leads f list s) q) ∙ e in d y ∙ ap signature_in (b y))
            | no q ↦ c k (omega arith) e ∙ G.signed k (omega arith) e
          ];
          heads = heads;
        }

  -- ---- an entry whose local states are new

  m_none : count_at sum m ≡ 0
  m_none = G.numbers m l ∙ rw (le-ltb m m (omega arith))

  -- the number of another group stays
  kept_number : (k : ℕ) → k < n → k ≢ m → (k < m → leads f list s k ≡ true → same_states s (st m) (st k) ≡ false)
      → count_at sum k ≡ cond (ltb k (suc m) && leads f list s k) (in_group f list s (suc m) (st k)) 0
  kept_number k x d g = G.numbers k x ∙ go (dec_le (suc k) m) (leads f list s k) refl
    where
      go : Dec (suc k ≤ m) → (b : Bool) → leads f list s k ≡ b → cond (ltb k m && b) (in_group f list s m (st k)) 0 ≡ cond (ltb k (suc m) && b) (in_group f list s (suc m) (st k)) 0
      go (yes y) true e = rw (lt-ltb k m y, lt-ltb k (suc m) (omega arith)) (sym (in_same f list s m (st k) (g y e)))
      go (yes y) false e = rw (lt-ltb k m y, lt-ltb k (suc m) (omega arith))
      go (no y) b e = rw (le-ltb k m (omega arith), le-ltb k (suc m) (omega arith))

  module _ (none : leader_of f list s sum n (st m) ≡ 0) where
    number : ℕ
    number = states_mixed s (st m)

    hangs : List ℕ
    hangs = hung sum (home_of number n) m (mark_in number)

    leading : List ℕ
    leading = put_field hangs m 1

    led_home : home_of number n < n
    led_home = home_below number n (omega arith)

    led_room : 8 * n ≤ length hangs
    unfolding hangs
    led_room = omega (arith, hung_length sum n G.room (home_of number n) m (mark_in number) led_home l (omega arith) (omega arith), G.room)

    no_same : (k : ℕ) → k < m → same_states s (st k) (st m) ≡ true → ⊥
    no_same = no_leader G (st m) none

    m_leads : leads f list s m ≡ true
    m_leads = none_leads f list s m no_same

    led_numbers : (i : ℕ) → count_at leading i ≡ put (count_at sum) m (count_at sum m + 1) i
    unfolding leading hangs
    led_numbers i =
        counted_count hangs n led_room m 1 l (omega arith) (omega arith) i
        ∙ put_ext (count_at hangs) (count_at sum) m 1 (count_at sum m + 1) i (omega (arith, m_none))
        (hung_count sum n G.room (home_of number n) m (mark_in number) led_home l (omega arith) (omega arith) i)

    grouped_first : Grouped f list leading n s (suc m)
    unfolding leading hangs number
    grouped_first =
        grouped_more leading number m
        (counted_length hangs n led_room m 1 l (omega arith) ∙ hung_length sum n G.room (home_of number n) m (mark_in number) led_home l (omega arith) (omega arith)) l
        (λ i. counted_head hangs n led_room m 1 l (omega arith) i ∙ hung_head sum n G.room (home_of number n) m (mark_in number) led_home l (omega arith) (omega arith) i)
        (λ i. counted_next hangs n led_room m 1 l (omega arith) i ∙ hung_next sum n G.room (home_of number n) m (mark_in number) led_home l (omega arith) (omega arith) i) led_numbers
        (λ k x. elim (ℕ_discrete k m) [
          | yes d ↦ rw d (led_numbers m ∙ put_is (count_at sum) m (count_at sum m + 1) ∙ rw (lt-ltb m (suc m) (omega arith), m_leads)
              (omega (arith, m_none, in_more f list s m (st m) (same_refl s (st m)), in_none f list s m (st m) no_same)))
          | no d ↦ led_numbers k ∙ put_is_not (count_at sum) m (count_at sum m + 1) k d
              ∙ kept_number k x d (λ y e. same_false s (st m) (st k) (λ q. no_same k y (same_sym s (st m) (st k) q)))
        ])
        (λ e. refl) (λ e. absurd (true_false (sym m_leads ∙ e)))
        (λ k x e. put_signature hangs n led_room m 1 l (omega arith) k ∙ put_is_not (signature_at hangs) m 1 k (λ z. omega arith)
        ∙ hung_signature sum n G.room (home_of number n) m (mark_in number) led_home l (omega arith) (omega arith) k)
        (λ e. absurd (true_false (sym m_leads ∙ e)))

  -- ---- one that joins the group of entry j

  module _ (j : ℕ) (found : leader_of f list s sum n (st m) ≡ suc j) where
    jm : j < m
    jm = (leader_leads G (st m) j found).0

    j_leads : leads f list s j ≡ true
    j_leads = (leader_leads G (st m) j found).1

    j_same : same_states s (st j) (st m) ≡ true
    j_same = (leader_leads G (st m) j found).2

    j_number : count_at sum j ≡ in_group f list s m (st j)
    j_number = leads_counted G j jm j_leads

    fits : count_at sum j + 1 < 786432
    fits = omega (arith, j_number, in_most f list s m (st j))

    key : ℕ
    key = number_of s (cube_at f list m)

    counts : List ℕ
    counts = put_field sum j (count_at sum j + 1)

    wide : count_at sum j + 1 < 1048576
    wide = omega (arith, fits)

    hung_on : List ℕ
    hung_on = hung counts (home_of key n) m (mark_in key)

    field : ℕ
    field = 786432 + signature_in key

    field_small : field < 1048576
    unfolding field
    field_small = omega arith

    field_signed : 786432 ≤ field
    unfolding field
    field_signed = omega arith

    joined : List ℕ
    joined = put_field hung_on m field

    join_room : 8 * n ≤ length counts
    unfolding counts
    join_room = omega (arith, counted_length sum n G.room j (count_at sum j + 1) (omega (arith, jm)) wide, G.room)

    key_home : home_of key n < n
    key_home = home_below key n (omega arith)

    on_length : length hung_on ≡ length counts
    unfolding hung_on
    on_length = hung_length counts n join_room (home_of key n) m (mark_in key) key_home l (omega arith) (omega arith)

    on_room : 8 * n ≤ length hung_on
    on_room = omega (arith, on_length, join_room)

    on_numbers : (i : ℕ) → count_at hung_on i ≡ put (count_at sum) j (count_at sum j + 1) i
    unfolding hung_on counts
    on_numbers i = hung_count counts n join_room (home_of key n) m (mark_in key) key_home l (omega arith) (omega arith) i ∙ counted_count sum n G.room j (count_at sum j + 1) (omega (arith, jm)) wide fits i

    m_other : m ≢ j
    m_other e = omega (arith, jm)

    join_numbers : (i : ℕ) → count_at joined i ≡ put (count_at sum) j (count_at sum j + 1) i
    unfolding joined
    join_numbers i =
        signed_count hung_on n on_room m field l field_small field_signed i
        ∙ put_own (count_at hung_on) m 0 i (sym (on_numbers m ∙ put_is_not (count_at sum) j (count_at sum j + 1) m m_other ∙ m_none))
        ∙ on_numbers i

    -- only the signature of entry m is new, and that of entry j, which leads a group, is no more
    join_signature : (k : ℕ) → k ≢ j → k ≢ m → signature_at joined k ≡ signature_at sum k
    unfolding joined hung_on counts
    join_signature k d e =
        put_signature hung_on n on_room m field l field_small k ∙ put_is_not (signature_at hung_on) m (field % 262144) k e
        ∙ hung_signature counts n join_room (home_of key n) m (mark_in key) key_home l (omega arith) (omega arith) k
        ∙ put_signature sum n G.room j (count_at sum j + 1) (omega (arith, jm)) wide k ∙ put_is_not (signature_at sum) j ((count_at sum j + 1) % 262144) k d

    own_signature : signature_at joined m ≡ signature_in key
    unfolding joined field
    own_signature = put_signature hung_on n on_room m field l field_small m ∙ put_is (signature_at hung_on) m (field % 262144) ∙ omega arith

    m_follows : leads f list s m ≡ true → ⊥
    m_follows e = leads_none f list s m e j jm j_same

    m_not : leads f list s m ≡ false
    m_not = go (leads f list s m) refl
      where
        go : (b : Bool) → leads f list s m ≡ b → b ≡ false
        go true e = absurd (m_follows e)
        go false e = refl

    grouped_next : Grouped f list joined n s (suc m)
    unfolding joined hung_on counts key
    grouped_next =
        let head = counted_head sum n G.room j (count_at sum j + 1) (omega (arith, jm)) wide in
        let next = counted_next sum n G.room j (count_at sum j + 1) (omega (arith, jm)) wide in
        grouped_more joined key j
        (counted_length hung_on n on_room m field l field_small ∙ on_length ∙ counted_length sum n G.room j (count_at sum j + 1) (omega (arith, jm)) wide) (omega (arith, jm))
        (λ i. counted_head hung_on n on_room m field l field_small i
        ∙ hung_head counts n join_room (home_of key n) m (mark_in key) key_home l (omega arith) (omega arith) i
        ∙ put_ext (head_link counts) (head_link sum) (home_of key n) (link_to m (mark_in key)) (link_to m (mark_in key)) i refl (head i))
        (λ i. counted_next hung_on n on_room m field l field_small i
        ∙ hung_next counts n join_room (home_of key n) m (mark_in key) key_home l (omega arith) (omega arith) i
        ∙ put_ext (next_link counts) (next_link sum) m (head_link counts (home_of key n)) (head_link sum (home_of key n)) i (head (home_of key n)) (next i)) join_numbers
        (λ k x. elim (ℕ_discrete k j) [
          | yes d ↦ rw d (join_numbers j ∙ put_is (count_at sum) j (count_at sum j + 1) ∙ rw (lt-ltb j (suc m) (omega (arith, jm)), j_leads)
              (omega (arith, j_number, in_more f list s m (st j) (same_sym s (st j) (st m) j_same))))
          | no d ↦ join_numbers k ∙ put_is_not (count_at sum) j (count_at sum j + 1) k d ∙ elim (ℕ_discrete k m) [
            | yes q ↦ rw q (m_none ∙ rw (m_not, and_no (ltb m (suc m))))
            | no q ↦ kept_number k x q (λ y e. same_false s (st m) (st k) (λ z. d (sym (one_leads f list s j k j_leads e (same_trans s (st j) (st m) (st k) j_same z)))))
          ]
        ])
        (λ e. absurd (m_follows e)) (λ e. refl)
        (λ k x e. join_signature k (λ z. true_false (sym j_leads ∙ sym (ap (leads f list s) z) ∙ e)) (λ z. omega arith)) (λ e. own_signature)

  pub grouped_added : Grouped f list (added f list s sum n m) n s (suc m)
  unfolding added joined_at leading hangs number joined hung_on field counts key
  grouped_added = go (leader_of f list s sum n (st m)) refl
    where
      go : (x : ℕ) → leader_of f list s sum n (st m) ≡ x → Grouped f list (added f list s sum n m) n s (suc m)
      go zero e = rw e (grouped_first e)
      go (suc j) e = let z : suc j - 1 ≡ j = omega arith in rw (e, z, ne_eqb (suc j) 0 (λ x. omega arith)) (grouped_next j e)

-- ---- from the first on

-- the first 8 n bytes are 0
module _ (f list sum : List ℕ) (s : Shape) (n : ℕ) (few : n ≤ 524288) (room : 8 * n ≤ length sum) (blank : (i : ℕ) → i < 8 * n → byte sum i ≡ 0) where
  word_blank : (i : ℕ) → i < 2 * n → word sum i ≡ 0
  unfolding word le32
  word_blank i l =
      rw (lt-ltb i (length sum / 4) (omega arith))
      (omega (arith, blank (4 * i) (omega arith), blank (4 * i + 1) (omega arith), blank (4 * i + 2) (omega arith), blank (4 * i + 3) (omega arith)))

  count_blank : (k : ℕ) → k < n → count_at sum k ≡ 0
  unfolding count_at field_at
  count_blank k l = rw (word_blank (2 * k) (omega arith), word_blank (2 * k + 1) (omega arith))

  head_blank : (k : ℕ) → k < n → head_link sum k ≡ 0
  unfolding head_link
  head_blank k l = rw (word_blank (2 * k) (omega arith))

  grouped_none : Grouped f list sum n s 0
  grouped_none =
      record {
        most = omega arith;
        room = room;
        numbers = λ k l. count_blank k l ∙ rw (le-ltb k 0 (omega arith));
        total = sum_zero n (count_at sum) count_blank;
        first = λ k l e. absurd (omega arith);
        others = λ k l e. absurd (omega arith);
        signed = λ k l e. absurd (omega arith);
        heads = λ h l. rw (head_blank h l) (omega arith);
      }

  -- after each addition the numbers of the groups add up to the number of entries added
  pub each_addition : (m : ℕ) → m ≤ n → Grouped f list (added_from f list s sum n m) n s m
  unfolding added_from
  each_addition zero l = grouped_none
  each_addition (suc m) l = grouped_added (each_addition m (omega arith)) l few

  pub all_added : Summed f list (summary_of f list s n sum) n s
  all_added = record { count = few; grouped = each_addition n (omega arith) }
