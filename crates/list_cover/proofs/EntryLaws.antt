-- An entry in the file against a cube.
use Prim.Native.Nat.{ℕ, ◌+◌, ◌≤◌, min}
use mathlib.Core.Path.{◌≡◌, refl, sym, ap, subst, ◌∙◌}
use mathlib.Core.Bool.{Bool, true, false, ◌&&◌}
use mathlib.Core.List.{List, [], ◌∷◌}
use native.Mathlib.Omega.{arith}
use native.Mathlib.Decide.{dec_lt}
use lib.ListN.{length, get_or}
use lib.Dec.{eqb}
use Rattle.machine_pws.specs.Machine.{all_below}
use Rattle.list_theory.specs.Matching.{matches}
use Rattle.file_records.specs.declared.program.Shape.{Shape}
use Rattle.file_contents.specs.declared.entry.Cube.{Cube}
use Rattle.file_contents.specs.declared.entry.Loaded.{Loaded}
use Rattle.base.specs.Bytes.{byte}
use Rattle.file_records.specs.ProgramPart.{shape_of}
use Rattle.file_contents.specs.Cube.{configuration_of, load_entry}
use Rattle.file_contents.proofs.CubeLaws.{loaded_nothing}
use Rattle.file_again.specs.Again.{offset_at, cube_at}
use Rattle.list_key.specs.Relation.{relation}
use Rattle.list_key.specs.Tags.{tags_of}
use Rattle.list_key.specs.Match.{Sizes, Suits, queue_row, channel_matches}
use Rattle.list_key.proofs.MatchLaws.{states_fail, queues_unlike, channel_left}
use Rattle.list_bytes.specs.Against.{Sized, Against}
use Rattle.list_bytes.specs.Same.{Leads, leads_none}
use Rattle.list_bytes.proofs.SameLaws.{entry_stands}

-- ---- an entry has room for twenty messages

pub load_few : (f : List ℕ) (at : ℕ) → (load_entry f at).count ≤ 20
unfolding load_entry
load_few f at = elim (dec_lt at (length f)) [
  | yes d ↦ (entry_stands f at (at + 2) 0 d (subst (Leads f at) {x = at + 9} {y = at + 2 + 7} (omega arith) leads_none) (omega arith) (λ i l. absurd (omega arith))).most
  | no d ↦ subst (λ (k : Loaded). k.count ≤ 20) (sym (loaded_nothing f at (omega arith))) (omega arith)
]

-- ---- the match of an entry, from its states on

abbrev states_in : List ℕ → ℕ → List ℕ
states_in f at = byte f (at + 1) ∷ byte f (at + 2) ∷ byte f (at + 3) ∷ byte f (at + 4) ∷ []

head_states : (f : List ℕ) (at : ℕ) {zs : List ℕ} → zs ≡ states_in f at → zs ≡ (load_entry f at).states
unfolding load_entry
head_states f at e = e

module _ (exact : Bool) (s : Shape) (f : List ℕ) (at : ℕ) (c : Cube) where
  abbrev rest : Cube → Bool
  rest entry = all_below (min s.processes 4) (queue_row s.variables exact entry.queues c.queues) && channel_matches s exact entry c

  -- an entry that was built
  pub channel_decides : {entry : Cube} {left right : List ℕ} {x r : Bool} → Sized s c → entry ≡ load_entry f at
      → x ≡ all_below (min s.processes 4) (queue_row s.variables exact entry.queues c.queues) → x ≡ true → left ≡ tags_of s entry → right ≡ tags_of s c
      → (Suits s entry left c right → r ≡ channel_matches s exact entry c) → r ≡ rest (load_entry f at)
  channel_decides {entry} Z z g h t u v =
      v (record {
        sizes = record {
          processes = Z.processes;
          variables = Z.variables;
          left = subst (λ (k : Cube). k.count ≤ 20) (sym z) (load_few f at);
          right = Z.messages;
        };
        left_tags = t;
        right_tags = u;
      })
      ∙ sym (ap (λ (y : Bool). y && channel_matches s exact entry c) (sym g ∙ h)) ∙ ap rest z

module _ (exact : Bool) (s : Shape) (f list : List ℕ) (i at : ℕ) (c : Cube) (right : List ℕ) (A : Against s c right) (e : at ≡ offset_at list i) where
  sizes : (a : Cube) → a.count ≤ 20 → Sizes s a c
  sizes a l = record { processes = A.sized.processes; variables = A.sized.variables; left = l; right = A.sized.messages }

  pub states_differ : {zs : List ℕ} {x : Bool} → zs ≡ states_in f at
      → x ≡ all_below (min s.processes 4) (λ p. eqb (get_or zs p 0) (get_or c.states p 0)) → x ≡ false
      → false ≡ matches (shape_of s) (relation exact) (configuration_of (cube_at f list i)) (configuration_of c)
  states_differ z g h =
      states_fail exact s (cube_at f list i) c (sizes (cube_at f list i) (load_few f (offset_at list i)))
      (g
      ∙ ap (λ (xs : List ℕ). all_below (min s.processes 4) (λ p. eqb (get_or xs p 0) (get_or c.states p 0)))
      (head_states f at z ∙ ap (λ (k : ℕ). (load_entry f k).states) e)) h

  -- from its queues and messages on
  pub rest_decides : {x r : Bool} {zs : List ℕ} → zs ≡ states_in f at
      → x ≡ all_below (min s.processes 4) (λ p. eqb (get_or zs p 0) (get_or c.states p 0)) → x ≡ true
      → r ≡ all_below (min s.processes 4) (queue_row s.variables exact (load_entry f at).queues c.queues) && channel_matches s exact (load_entry f at) c
      → r ≡ matches (shape_of s) (relation exact) (configuration_of (cube_at f list i)) (configuration_of c)
  rest_decides {x} {r} w g h z =
      z
      ∙ decided (all_below (min s.processes 4) (queue_row s.variables exact (load_entry f at).queues c.queues)) refl
      ∙ ap (λ (k : ℕ). matches (shape_of s) (relation exact) (configuration_of (load_entry f k)) (configuration_of c)) e
    where
      same : x ≡ all_below (min s.processes 4) (λ p. eqb (get_or (load_entry f at).states p 0) (get_or c.states p 0))
      same = g ∙ ap (λ (xs : List ℕ). all_below (min s.processes 4) (λ p. eqb (get_or xs p 0) (get_or c.states p 0))) (head_states f at w)

      decided : (y : Bool) → y ≡ all_below (min s.processes 4) (queue_row s.variables exact (load_entry f at).queues c.queues)
          → y && channel_matches s exact (load_entry f at) c ≡ matches (shape_of s) (relation exact) (configuration_of (load_entry f at)) (configuration_of c)
      decided true v = channel_left exact s (load_entry f at) c (sizes (load_entry f at) (load_few f at)) same v h refl refl
      decided false v = queues_unlike exact s (load_entry f at) c (sizes (load_entry f at) (load_few f at)) v refl
