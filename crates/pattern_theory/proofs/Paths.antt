-- Laws of paths, and that what fits a pattern fits whatever it is within.
use Prim.Native.Nat.{ℕ, ◌≤◌}
use mathlib.Core.Path.{◌≡◌, refl, sym, ap, subst, ◌∙◌}
use mathlib.Core.Option.{Option, none, some}
use mathlib.Core.List.{List, [], ◌∷◌, ◌++◌}
use native.Mathlib.Omega.{arith}
use native.Mathlib.Decide.{dec_lt}
use lib.ListN.{length}
use lib.Dec.{T_not}
use Rattle.machine_pws.specs.Machine.{Memory, last_write}
use Rattle.machine_pws.proofs.Facts.{last_is}
use Rattle.pattern_theory.specs.Patterns.{Clue, PathRead}
use Rattle.pattern_theory.specs.Fitting.{Subsequence, nothing, keep, skip, Stands, FitsClue, held, ReadAt, PathFrom}
use Rattle.pattern_theory.specs.Within.{Covers, ClueWithin, asks_nothing, both_empty, both_contain, ends_contains, both_end, SameRead, Asked, PathWithin}
use Rattle.pattern_theory.specs.Safety.{WithinFits}
use Rattle.pattern_theory.proofs.Subsequences.{sub_trans, sub_snoc}

-- ---- where a path may stand

module _ (m : Memory) (p : ℕ) where
  pub read_lower : {k j i : ℕ} {r : PathRead} → k ≤ j → ReadAt m p j r i → ReadAt m p k r i
  read_lower l a =
      record {
        from = omega (arith, a.from);
        upto = a.upto;
        last = a.last;
        value = a.value;
        later = λ t. omega (arith, a.later t);
        label = a.label;
      }

  -- from an earlier message on
  pub path_lower : (rs : List PathRead) (k j : ℕ) → k ≤ j → PathFrom m p j rs → PathFrom m p k rs
  path_lower [] k j l a = tt
  path_lower (r ∷ rs) k j l a = (a.0, read_lower l a.1, a.2)

  -- no read of it stands past the newest message
  module _ (b : m.pointer p ≤ length m.channel) where
    pub last_upto : (v : ℕ) → last_write m p v ≤ length m.channel
    last_upto v = (last_is m.channel (m.pointer p) p v b).high

    same_read : {k i : ℕ} {r s : PathRead} → SameRead r s → ReadAt m p k s i → ReadAt m p k r i
    same_read {k} {i} {r} {s} e a =
        record {
          from = a.from;
          upto = a.upto;
          last = rw e.variable a.last;
          value = rw e.variable (a.value ∙ sym e.value);
          later = λ t. a.later (e.own t);
          label = λ t. rw e.variable (a.label (e.own t));
        }

    module _ (newest : ℕ → Option ℕ) (n : (v : ℕ) → Stands (newest v) (held m (length m.channel) v)) where
      -- what is asked of the newest message can be read there
      asked_path : (rs : List PathRead) (k : ℕ) → k ≤ length m.channel → Asked newest rs → PathFrom m p k rs
      asked_path [] k l a = tt
      asked_path (r ∷ rs) k l a = (
        length m.channel,
        record {
          from = l;
          upto = omega arith;
          last = last_upto r.variable;
          value = sym (subst (λ (x : Option ℕ). Stands x (held m (length m.channel) r.variable)) a.1 (n r.variable));
          later = λ t. absurd (T_not r.own a.0 t);
          label = λ t. absurd (T_not r.own a.0 t);
        },
        asked_path rs (length m.channel) (omega arith) a.2,
      )

      front_path : {front ss : List PathRead} (rest : List PathRead) → Subsequence SameRead front ss → Asked newest rest → (k : ℕ) → k ≤ length m.channel
          → PathFrom m p k ss → PathFrom m p k (front ++ rest)
      front_path rest nothing a k l f = asked_path rest k l a
      front_path rest (keep e s) a k l f = (f.0, same_read e f.1, front_path rest s a f.0 f.1.upto f.2)
      front_path {front} rest (skip s) a k l f = path_lower (front ++ rest) k f.0 f.1.from (front_path rest s a f.0 f.1.upto f.2)

      pub path_within : {ss rs : List PathRead} → PathWithin newest ss rs → (k : ℕ) → k ≤ length m.channel → PathFrom m p k ss → PathFrom m p k rs
      path_within w k l f = subst (PathFrom m p k) (sym w.cut) (front_path w.rest w.read w.asked k l f)

-- a pointer that moves on leaves no more to read
pub path_pointer : (m : Memory) (f : ℕ → ℕ) (p : ℕ) → m.pointer p ≤ f p → (rs : List PathRead) (k : ℕ)
    → PathFrom (record { channel = m.channel; pointer = f }) p k rs → PathFrom m p k rs
path_pointer m f p l [] k a = tt
path_pointer m f p l (r ∷ rs) k a = (
  a.0,
  record {
    from = a.1.from;
    upto = a.1.upto;
    last = omega (arith, a.1.last);
    value = a.1.value;
    later = a.1.later;
    label = a.1.label;
  },
  path_pointer m f p l rs a.0 a.2,
)

-- ---- words

covers_stands : (x y : Option ℕ) (z : ℕ) → Covers x y → Stands y z → Stands x z
covers_stands none y z c s = tt
covers_stands (some u) none z c s = absurd c
covers_stands (some u) (some v) z c s = c ∙ s

pub clue_within : {k l : Clue} → ClueWithin k l → (q : List ℕ) → FitsClue k q → FitsClue l q
clue_within asks_nothing q f = nothing
clue_within both_empty q f = f
clue_within (both_contain s) q f = sub_trans covers_stands f s
clue_within (ends_contains {w = w} {v = v} s) q f =
    sub_trans covers_stands (subst (λ (l : List ℕ). Subsequence Stands (w ++ (some v ∷ [])) l) (sym f.1) (sub_snoc (some v) v refl f.2)) s
clue_within (both_end e s) q f = (f.0, f.1 ∙ ap (λ (x : ℕ). f.0 ++ (x ∷ [])) e, sub_trans covers_stands f.2 s)

-- ---- patterns

asked_newest : (x y : Option ℕ) (v : ℕ) → ((u : ℕ) → y ≡ some u → x ≡ some u) → Stands x v → Stands y v
asked_newest x none v f s = tt
asked_newest x (some u) v f s = subst (λ (o : Option ℕ). Stands o v) (f u refl) s

pub within_fits : WithinFits
within_fits P a b o w c g f =
    record {
      states = λ p l. f.states p l ∙ w.states p l;
      queues = λ p v l h. clue_within (w.clues p v l h) (c.queue p v) (f.queues p v l h);
      newest = λ v. elim (dec_lt v P.shape.variables) [
        | yes l ↦ asked_newest (a.newest v) (b.newest v) _ (w.newest v l) (f.newest v)
        | no l ↦ subst (λ x. Stands x (held c.memory (length c.memory.channel) v)) (sym (o.absent v (omega arith))) tt
      ];
      paths = λ p l.
          path_within c.memory p (g.fits.memory.high p l) a.newest f.newest (w.paths p l) (c.memory.pointer p) (g.fits.memory.high p l) (f.paths p l);
    }
