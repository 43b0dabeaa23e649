-- Written records, and the sizes by which records are handed back.
use Prim.Native.Nat.{ℕ, suc, ◌+◌}
use mathlib.Core.Path.{◌≡◌, refl, sym, ap, ap₂, ◌∙◌}
use mathlib.Core.Bool.{Bool, true, false, cond}
use mathlib.Core.List.{List, [], ◌∷◌, ◌++◌, Memᴰ}
use lib.ListN.{length, take, drop}
use lib.Seq.{drop-append_seam, get_or-append_seam, take_at}
use lib.Dec.{eqb}
use native.Mathlib.Omega.{arith}
use borrow.Author.Tests.{eqb-true}
use Rattle.machine_pws.specs.declared.Step.TheVariants.{Take, Serialise, Update}
use Rattle.file_again.specs.Offending.{body_of, record_at}
use Rattle.file_written.specs.Written.{message_record, waiting_record}
use Rattle.file_written.specs.Sizes.{
  FileRecord,
  shape,
  states,
  transition,
  target,
  claim,
  memory,
  step,
  head,
  body,
  bytes_of,
  WrittenHandedBack,
  kinds,
  UnknownAlone,
}

-- a record whose body has the size of its kind
whole : (kind : ℕ) (bytes front rest : List ℕ) → body_of kind ≡ length bytes
    → record_at (front ++ ((kind ∷ bytes) ++ rest)) (length front) ≡ kind ∷ bytes
unfolding record_at
whole kind bytes front rest e =
    ap₂ (λ (n : ℕ) (l : List ℕ). take (1 + n) l)
    (ap body_of (get_or-append_seam front kind (bytes ++ rest) 0) ∙ e)
    (drop-append_seam front ((kind ∷ bytes) ++ rest))
    ∙ take_at (kind ∷ bytes) rest (1 + length bytes) (omega arith)

pub written_handed_back : WrittenHandedBack
unfolding body_of
written_handed_back (shape S) front rest = whole 1 _ front rest refl
written_handed_back (states P p) front rest = whole 2 _ front rest refl
written_handed_back (transition t) front rest = whole 3 _ front rest refl
written_handed_back (target t) front rest = whole 4 _ front rest refl
written_handed_back (claim c) front rest = whole 15 _ front rest refl
written_handed_back (memory m) front rest = whole 31 _ front rest refl
written_handed_back (step (Take n)) front rest = whole 32 _ front rest refl
written_handed_back (step (Serialise p v)) front rest = whole 33 _ front rest refl
written_handed_back (step (Update p)) front rest = whole 34 _ front rest refl
written_handed_back (head r) front rest = whole 16 _ front rest refl
written_handed_back (body (message_record m)) front rest = whole 17 _ front rest refl
written_handed_back (body (waiting_record p v x)) front rest = whole 18 _ front rest refl

-- ---- other kinds

-- not the first of these
other : (kind k n m : ℕ) (ks : List ℕ) → (Memᴰ kind (k ∷ ks) → ⊥) → ((Memᴰ kind ks → ⊥) → m ≡ 0) → cond (eqb kind k) n m ≡ 0
other kind k n m ks out rest = go (eqb kind k) refl
  where
    go : (b : Bool) → eqb kind k ≡ b → cond b n m ≡ 0
    go true e = absurd (out (Memᴰ.head (eqb-true kind k e)))
    go false e = rest (λ i. out (Memᴰ.tail i))

pub unknown_alone : UnknownAlone
unfolding body_of
unknown_alone kind out =
    other kind 1 6 _ _ out (λ out. other kind 2 2 _ _ out (λ out. other kind 3 7 _ _ out (λ out. other kind 4 4 _ _ out (λ out.
    other kind 15 1 _ _ out (λ out. other kind 16 8 _ _ out (λ out. other kind 17 6 _ _ out (λ out. other kind 18 3 _ _ out (λ out.
    other kind 31 4 _ _ out (λ out. other kind 32 1 _ _ out (λ out. other kind 33 2 _ _ out (λ out. other kind 34 1 _ _ out (λ out. refl))))))))))))
