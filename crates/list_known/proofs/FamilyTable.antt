-- The table of full families: what stands in it, and what is said of a cube that is found there.
use Prim.Native.Nat.{ℕ, ◌+◌, ◌-◌, ◌*◌, ◌/◌, ◌%◌, ◌<◌, ◌≤◌, min}
use mathlib.Core.Path.{◌≡◌, refl, sym, ap, ap₂, subst, subst₂, ◌∙◌}
use mathlib.Core.Logic.{◌≢◌}
use mathlib.Core.Bool.{Bool, true}
use mathlib.Core.List.{List}
use native.Mathlib.Omega.{arith}
use native.Mathlib.Decide.{ℕ_discrete, dec_lt}
use lib.ListN.{length, get_or, replicate, length-replicate, get_or-replicate}
use lib.Dec.{T, eqb, eqb→eq}
use borrow.Author.Tests.{lt-ltb, le-ltb}
use Rattle.machine_pws.specs.declared.Step.TheVariants.{Serialise, Update}
use Rattle.machine_pws.specs.Program as pws
use Rattle.machine_pws.specs.Machine.{Memory, Configuration, no_message, all_below}
use Rattle.machine_pws.specs.Configurations.{Fits}
use Rattle.machine_pws.specs.Entries.{EntryOf, ValueOrFF, no_entry, entry}
use Rattle.machine_pws.proofs.Ranges.{format_no_ff}
use Rattle.machine_pws.proofs.Cases.{all_yes}
use Rattle.list_theory.specs.Lists.{every}
use Rattle.list_theory.specs.Values.{fills, pairwise}
use Rattle.list_theory.specs.Cubes.{topmost}
use Rattle.list_theory.specs.Matching.{queue_matches, QueueMatch}
use Rattle.list_theory.specs.Predecessors.{on_top, cube, predecessors}
use Rattle.list_theory.specs.Decision.{held}
use Rattle.list_theory.proofs.Matching.{queue_leftmost}
use Rattle.file_records.specs.declared.program.Shape.{Shape}
use Rattle.base.specs.Bytes.{byte, le32}
use Rattle.file_records.specs.ProgramPart.{shape_of}
use Rattle.base.proofs.ByteLaws.{byte_past}
use Rattle.file_contents.specs.declared.entry.Cube.{Cube}
use Rattle.file_contents.specs.declared.entry.Queue.{Queue}
use Rattle.file_contents.specs.Cube.{no_queue, waiting_of, configuration_of, load_entry}
use Rattle.file_contents.proofs.CubeParts.{queue_of_lem}
use Rattle.file_again.specs.Again.{cube_at, entries_of}
use Rattle.file_again.proofs.Tables.{table_length, table_number}
use Rattle.list_key.specs.Relation.{relation}
use Rattle.list_key.specs.Match.{queue_row}
use Rattle.list_bytes.specs.Same.{Within}
use Rattle.list_summary.specs.Slots.{word, put_word}
use Rattle.list_summary.proofs.WordLaws.{put_length, word_same, word_other}
use Rattle.list_theory.specs.Family.{Clue, newest, Clued, InFamily, FamilyHeld}
use Rattle.list_known.specs.FamilyTable.{standing, clue_of, Families, Recorded}
use Rattle.list_cube.specs.Editing.{newest_values}
use Rattle.list_cube.proofs.NewestLaws.{values_some, values_newest}
use Rattle.list_targets.proofs.TargetLaws.{entries_fit}
use Rattle.list_theory.proofs.FamilyFull.{family_held, family_update}
use Rattle.list_theory.proofs.FamilySerialise.{family_serialise}

-- ---- membership

module _ (s : Shape) (e c : Cube) (few : s.processes ≤ 4) (narrow : s.variables ≤ 4) where
  abbrev queue_test : ℕ → ℕ → Bool
  queue_test p v = queue_matches fills (waiting_of (get_or e.queues (4 * p + v) no_queue)) (waiting_of (get_or c.queues (4 * p + v) no_queue))

  row_yes : (p v : ℕ) → v < s.variables → T (queue_row s.variables true e.queues c.queues p) → T (queue_test p v)
  unfolding queue_row
  row_yes p v l t = all_yes (min s.variables 4) (queue_test p) t v (omega arith)

  pub in_family_is : {a b : Bool} → a ≡ all_below (min s.processes 4) (λ p. eqb (get_or e.states p 0) (get_or c.states p 0)) → a ≡ true
      → b ≡ all_below (min s.processes 4) (queue_row s.variables true e.queues c.queues) → b ≡ true
      → pairwise fills (topmost (configuration_of e).memory.channel).snapshot (topmost (configuration_of c).memory.channel).snapshot ≡ true
      → InFamily (shape_of s) newest (configuration_of e) (configuration_of c)
  in_family_is x xe y ye z =
      record {
        states = λ p l. eqb→eq (get_or e.states p 0) (get_or c.states p 0)
            (all_yes (min s.processes 4) (λ p. eqb (get_or e.states p 0) (get_or c.states p 0)) (subst T (sym xe ∙ x) tt) p (omega arith));
        queues = λ p v l m. subst₂ (QueueMatch fills) (sym (queue_of_lem e.queues p v (omega arith) (omega arith))) (sym (queue_of_lem c.queues p v (omega arith) (omega arith)))
            ((queue_leftmost fills (waiting_of (get_or e.queues (4 * p + v) no_queue)) (waiting_of (get_or c.queues (4 * p + v) no_queue))).0
            (row_yes p v m (all_yes (min s.processes 4) (queue_row s.variables true e.queues c.queues) (subst T (sym ye ∙ y) tt) p (omega arith))));
        clue = subst T (sym z) tt;
      }

pub within_family : (s : Shape) (f : List ℕ) (at : ℕ) (c : Cube) → s.processes ≤ 4 → s.variables ≤ 4 → {vs : List ℕ} → vs ≡ newest_values c → (c.count ≡ 0 → ⊥) → c.count ≤ 20
    → Within f at s c.states c.queues vs → InFamily (shape_of s) newest (configuration_of (load_entry f at)) (configuration_of c)
within_family s f at c few narrow d a b w =
    in_family_is s (load_entry f at) c few narrow refl w.states refl w.queues
    (ap₂ (pairwise fills) (sym (values_some (load_entry f at) w.some w.few ∙ values_newest (load_entry f at) w.some w.few)) (sym (d ∙ values_newest c (omega arith) b)) ∙ w.newest)

-- an entry that was built
pub built_within : (s : Shape) (f : List ℕ) (at : ℕ) {e : Cube} → e ≡ load_entry f at → (e.count ≡ 0 → ⊥) → e.count ≤ 20 → {ls : List ℕ} {qs : List Queue} {xs ys : List ℕ}
    → {a : Bool} → a ≡ all_below (min s.processes 4) (λ p. eqb (get_or e.states p 0) (get_or ls p 0)) → a ≡ true
    → {b : Bool} → b ≡ all_below (min s.processes 4) (queue_row s.variables true e.queues qs) → b ≡ true
    → ys ≡ newest_values e → {r : Bool} → r ≡ pairwise (relation true) ys xs → r ≡ true → Within f at s ls qs xs
built_within s f at {e} same some few {ls} {qs} {xs} x xe y ye n z ze =
    subst (λ (d : Cube). 1 ≤ d.count → d.count ≤ 20 → all_below (min s.processes 4) (λ p. eqb (get_or d.states p 0) (get_or ls p 0)) ≡ true
    → all_below (min s.processes 4) (queue_row s.variables true d.queues qs) ≡ true → pairwise (relation true) (get_or d.messages (d.count - 1) no_message).snapshot xs ≡ true
    → Within f at s ls qs xs) (sym same) (λ a b c d g. record { some = a; few = b; states = c; queues = d; newest = g })
    (omega arith) few (sym x ∙ xe) (sym y ∙ ye) (ap (λ (ws : List ℕ). pairwise (relation true) ws xs) (values_some e (omega arith) few ∙ sym n) ∙ sym z ∙ ze)

-- ---- words

-- an empty table
pub families_none : (S : pws.Shape) (es : List Configuration) (m : ℕ) → Families S es (replicate m 0)
unfolding standing word le32
families_none S es m i a b c = absurd (omega (arith, b, blank_word i))
  where
    blank : (i : ℕ) → byte (replicate m 0) i ≡ 0
    blank i = elim (dec_lt i m) [ yes l ↦ get_or-replicate m i 0 0 l | no l ↦ byte_past (replicate m 0) i (omega (arith, length-replicate {A = ℕ} m 0)) ]

    blank_word : (i : ℕ) → word (replicate m 0) i ≡ 0
    blank_word i = elim (dec_lt i (length (replicate {A = ℕ} m 0) / 4)) [
      | yes l ↦ rw (lt-ltb i (length (replicate {A = ℕ} m 0) / 4) l) (omega (arith, blank (4 * i), blank (4 * i + 1), blank (4 * i + 2), blank (4 * i + 3)))
      | no l ↦ rw (le-ltb i (length (replicate {A = ℕ} m 0) / 4) (omega arith)) refl
    ]

module _ (S : pws.Shape) (es : List Configuration) (table : List ℕ) where
  -- what stands there as before is full as before
  unchanged : (next : List ℕ) (i : ℕ) → word next i ≡ word table i → word next (2048 + i) ≡ word table (2048 + i) → Families S es table → i < 1024 → 1 ≤ standing next i → standing next i ≤ length es
      → FamilyHeld S es (clue_of (word next (2048 + i))) (entry es (standing next i - 1))
  unfolding standing
  unchanged next i e d F a b c = subst₂ (λ (w z : ℕ). FamilyHeld S es (clue_of z) (entry es (w % 1048576 - 1))) (sym e) (sym d) (F i a (omega (arith, e)) (omega (arith, e)))

  -- what counts is not asked
  pub families_counted : (at x : ℕ) → 1024 ≤ at → at < 2048 → Families S es table → Families S es (put_word table at x)
  families_counted at x l m F i a b c = unchanged (put_word table at x) i (word_other table at x i (λ d. omega arith)) (word_other table at x (2048 + i) (λ d. omega arith)) F a b c

  module _ (at k clue x : ℕ) (low : at < 1024) (long : 12288 ≤ length table) (small : clue < 4294967296) (r : x % 1048576 ≡ k + 1) (l : x < 4294967296) where
    abbrev clued : List ℕ
    clued = put_word table (2048 + at) clue

    abbrev put : List ℕ
    put = put_word clued at x

    put_entry : word put at ≡ x
    put_entry = word_same clued at x (omega (arith, put_length table (2048 + at) clue)) l

    put_clue : word put (2048 + at) ≡ clue
    put_clue = word_other clued at x (2048 + at) (λ d. omega arith) ∙ word_same table (2048 + at) clue (omega arith) small

    put_other : (j : ℕ) → j ≢ at → j ≢ 2048 + at → word put j ≡ word table j
    put_other j d e = word_other clued at x j d ∙ word_other table (2048 + at) clue j e

    -- an entry and which of its families is full
    families_put : FamilyHeld S es (clue_of clue) (entry es k) → Families S es table → Families S es put
    unfolding standing
    families_put H F i a b c = elim (ℕ_discrete i at) [
      | yes d ↦
          let e : k ≡ word put i % 1048576 - 1 = omega (arith, ap (word put) d, put_entry) in
          subst₂ (λ (z w : ℕ). FamilyHeld S es (clue_of z) (entry es w)) (sym (ap (λ (j : ℕ). word put (2048 + j)) d ∙ put_clue)) e H
      | no d ↦ unchanged put i (put_other i d (λ e. omega arith)) (put_other (2048 + i) (λ e. omega arith) (λ e. d (omega arith))) F a b c
    ]

-- after both writes
pub put_family_is : (table : List ℕ) (at k clue x : ℕ) → at < 1024 → 12288 ≤ length table → clue < 4294967296 → x % 1048576 ≡ k + 1 → x < 4294967296 → {t u : List ℕ} → t ≡ put_word table (2048 + at) clue → u ≡ put_word t at x
    → (length u ≡ length table) × ((S : pws.Shape) (es : List Configuration) → FamilyHeld S es (clue_of clue) (entry es k) → Families S es table → Families S es u)
put_family_is table at k clue x low long small r l {t} {u} a b =
    let e : u ≡ put_word (put_word table (2048 + at) clue) at x = b ∙ ap (λ (z : List ℕ). put_word z at x) a in (
      ap length e ∙ put_length (put_word table (2048 + at) clue) at x ∙ put_length table (2048 + at) clue,
      λ S es H F. subst (Families S es) (sym e) (families_put S es table at k clue x low long small r l H F),
    )

-- ---- a cube that is found

-- an entry that stands at a word, with the clue there
pub recorded_at : (table f list : List ℕ) (n : ℕ) (s : Shape) (c : Cube) (slot : ℕ) {w z : ℕ} → w ≡ word table slot → z ≡ word table (2048 + slot) → slot < 1024 → (w % 1048576 ≡ 0 → ⊥) → w % 1048576 ≤ n
    → (s.processes ≤ 4 → s.variables ≤ 4 → InFamily (shape_of s) newest (configuration_of (cube_at f list (w % 1048576 - 1))) (configuration_of c))
    → ((e : Memory) → Clued (shape_of s) newest e (configuration_of c).memory → Clued (shape_of s) (clue_of z) e (configuration_of c).memory) → Recorded table f list n s c
unfolding standing
recorded_at table f list n s c slot e d l a b i m =
    record {
      slot = slot;
      low = l;
      some = omega (arith, a, e);
      known = omega (arith, b, e);
      inside = subst₂ (λ (w z : ℕ). s.processes ≤ 4 → s.variables ≤ 4 → InFamily (shape_of s) (clue_of z) (configuration_of (cube_at f list (w % 1048576 - 1))) (configuration_of c)) e d
          (λ few narrow. let j = i few narrow in record { states = j.states; queues = j.queues; clue = m _ j.clue });
    }

module _ (s : Shape) (R : pws.ShapeInRange (shape_of s)) (f list : List ℕ) (n : ℕ) (table : List ℕ) (F : Families (shape_of s) (entries_of f list n) table) (c : Cube) (r : Recorded table f list n s c) where
  abbrev es : List Configuration
  es = entries_of f list n

  abbrev number : ℕ
  number = standing table r.slot - 1

  abbrev asked : Clue
  asked = clue_of (word table (2048 + r.slot))

  found_full : FamilyHeld (shape_of s) es asked (configuration_of (cube_at f list number))
  found_full =
      subst (FamilyHeld (shape_of s) es asked) (table_number (λ i. configuration_of (cube_at f list i)) n number no_entry (omega (arith, r.some, r.known)))
      (F r.slot r.low r.some (omega (arith, r.known, table_length (λ i. configuration_of (cube_at f list i)) 0 n)))

  found_in : InFamily (shape_of s) asked (configuration_of (cube_at f list number)) (configuration_of c)
  found_in = r.inside R.processes R.variables

  pub recorded_held : ((k : ℕ) → k < n → Fits (ValueOrFF (shape_of s)) (shape_of s) (configuration_of (cube_at f list k))) → Fits (ValueOrFF (shape_of s)) (shape_of s) (configuration_of c)
      → held (shape_of s) es (configuration_of c) ≡ true
  recorded_held oes o = family_held (shape_of s) R.well_formed es (entries_fit (shape_of s) f list n oes) asked (configuration_of (cube_at f list number)) (configuration_of c) found_full found_in o

  module _ (P : pws.Program) (RP : pws.ProgramInRange P) (same : P.shape ≡ shape_of s) (oes : (k : ℕ) → k < n → Fits (ValueOrFF (shape_of s)) (shape_of s) (configuration_of (cube_at f list k))) where
    fitting : (k : ℕ) → k < length es → Fits (ValueOrFF P.shape) P.shape (entry es k)
    fitting = subst (λ (S : pws.Shape). (k : ℕ) → k < length es → Fits (ValueOrFF S) S (entry es k)) (sym same) (entries_fit (shape_of s) f list n oes)

    full_here : FamilyHeld P.shape es asked (configuration_of (cube_at f list number))
    full_here = subst (λ (S : pws.Shape). FamilyHeld S es asked (configuration_of (cube_at f list number))) (sym same) found_full

    in_here : InFamily P.shape asked (configuration_of (cube_at f list number)) (configuration_of c)
    in_here = subst (λ (S : pws.Shape). InFamily S asked (configuration_of (cube_at f list number)) (configuration_of c)) (sym same) found_in

    pub recorded_update : EntryOf P (configuration_of c) → (p : ℕ) → every (held P.shape es) (predecessors P (configuration_of c) (Update p)) ≡ true
    recorded_update o p = family_update P RP.well_formed (format_no_ff RP.shape) es fitting asked (configuration_of (cube_at f list number)) (configuration_of c) full_here in_here o p

    -- the cube is what a serialise to d may lead from, with another newest message
    pub recorded_serialise : (d : Configuration) → EntryOf P d → (p v : ℕ) → configuration_of c ≡ cube P d (Serialise p v) (on_top v) → every (held P.shape es) (predecessors P d (Serialise p v)) ≡ true
    recorded_serialise d o p v e =
        family_serialise P RP.well_formed (format_no_ff RP.shape) es fitting asked (configuration_of (cube_at f list number)) d p v full_here (subst (InFamily P.shape asked (configuration_of (cube_at f list number))) e in_here) o
