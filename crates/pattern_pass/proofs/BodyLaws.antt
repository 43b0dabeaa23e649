-- What a record of a pattern says when it is fine, and what holds of a pattern with it.
use Rattle.std.specs.Prelude.{Ok}
use Prim.Native.Nat.{ℕ, ◌+◌, ◌<◌, ◌≤◌}
use mathlib.Core.Path.{◌≡◌, refl, sym, subst}
use mathlib.Core.Bool.{Bool, true, false, cond, ◌&&◌, not}
use mathlib.Core.List.{List}
use native.Mathlib.Omega.{arith}
use native.Mathlib.Decide.{ℕ_discrete}
use lib.ListN.{length}
use lib.Dec.{eqb, leb, ltb}
use borrow.Author.Tests.{ne_eqb, lt-ltb, leb-true, leb-false, ltb-true, not-false}
use Rattle.machine_pws.specs.Entries.{ValueOrFF}
use Rattle.machine_pws.specs.Machine.{put}
use Rattle.machine_pws.proofs.Facts.{put_same, put_other}
use Rattle.base.specs.Bytes.{byte, cut}
use Rattle.base.proofs.ByteLaws.{cut_fits}
use Rattle.file_records.specs.declared.program.Shape.{Shape}
use Rattle.file_records.specs.Records.{checked, is_kind, value_count, exists, waiting_names, waiting_number}
use Rattle.file_records.specs.ProgramPart.{shape_of}
use Rattle.file_records.proofs.RecordLaws.{Good, good}
use Rattle.file_records.proofs.ProgramLaws.{and_true}
use Rattle.file_again.proofs.Names.{both_exist, waiting_in}
use Rattle.pattern_theory.specs.Verdict.{is_some}
use Rattle.pattern_reading.specs.Records.{Given, read_names, read_number, mark_names, mark_number, body_number, body_size}

-- ---- one of a table by two numbers

module _ {A : Type 0} (Q : ℕ → ℕ → A) (p v : ℕ) (x : A) where
  abbrev put_at : ℕ → ℕ → A
  put_at = put Q p (put (Q p) v x)

  pub put_at_lem : put_at p v ≡ x
  put_at_lem = rw (put_same Q p (put (Q p) v x), put_same (Q p) v x)

  pub put_elsewhere : (q u : ℕ) → ((q ≡ p) × (u ≡ v) → ⊥) → put_at q u ≡ Q q u
  put_elsewhere q u n = elim (ℕ_discrete q p) [
    | yes e ↦ rw (e, put_same Q p (put (Q p) v x)) (put_other (Q p) v x u (λ f. n (e, f)))
    | no e ↦ rw (put_other Q p (put (Q p) v x) q e)
  ]

  pub put_all : (F : ℕ → ℕ → A → Type 0) (q u : ℕ) → F p v x → (((q ≡ p) × (u ≡ v) → ⊥) → F q u (Q q u)) → F q u (put_at q u)
  put_all F q u here other = elim (ℕ_discrete q p) [
    | yes e ↦ elim (ℕ_discrete u v) [
      | yes d ↦ subst (λ i. F i u (put_at i u)) (sym e) (subst (λ j. F p j (put_at p j)) (sym d) (rw put_at_lem here))
      | no d ↦ rw (put_elsewhere q u (λ n. d n.1)) (other (λ n. d n.1))
    ]
    | no e ↦ rw (put_elsewhere q u (λ n. e n.0)) (other (λ n. e n.0))
  ]

-- ---- a record that is fine

pub data Body (s : Shape) (f : List ℕ) (at : ℕ) (g : Given) : Type 0 where
  value_body : is_kind f at 18 ≡ true → byte f (at + 1) < s.processes → byte f (at + 2) < s.variables
      → ValueOrFF (shape_of s) (byte f (at + 2)) (byte f (at + 3)) → length (g.word (byte f (at + 1)) (byte f (at + 2))) < 8 → at + 4 ≤ length f → Body s f at g
  read_body : is_kind f at 18 ≡ false → is_kind f at 20 ≡ true → byte f (at + 1) < s.processes → byte f (at + 2) < s.variables
      → byte f (at + 3) < value_count s (byte f (at + 2)) → byte f (at + 4) ≤ 1 → length (g.path (byte f (at + 1))) < 16 → at + 5 ≤ length f → Body s f at g
  mark_body : is_kind f at 18 ≡ false → is_kind f at 20 ≡ false → byte f (at + 1) < s.processes → byte f (at + 2) < s.variables
      → byte f (at + 3) ≤ 1 → is_some (g.mark (byte f (at + 1)) (byte f (at + 2))) ≡ false → at + 4 ≤ length f → Body s f at g

module _ (s : Shape) (f : List ℕ) (at : ℕ) (g : Given) where
  abbrev p : ℕ
  p = byte f (at + 1)

  abbrev v : ℕ
  v = byte f (at + 2)

  there : p < s.processes → v < s.variables → exists s p v ≡ true
  there a b = rw (lt-ltb p s.processes a, lt-ltb v s.variables b)

  value_says : is_kind f at 18 ≡ true → checked (waiting_number s f at (length (g.word p v))) at ≡ Ok tt → Body s f at g
  unfolding waiting_number
  value_says k q =
      let o : Good false (cut f at 3) (exists s p v && leb 8 (length (g.word p v))) false (not (waiting_names s f at)) = good at q in
      let w = waiting_in s f at (not-false _ o.names) in
      let y : leb 8 (length (g.word p v)) ≡ false = rw (there w.0 w.1) at o.room in
      value_body k w.0 w.1 w.2 (leb-false 8 (length (g.word p v)) y) (omega (arith, cut_fits f at 3 o.whole))

  read_says : is_kind f at 18 ≡ false → is_kind f at 20 ≡ true → checked (read_number s f at (length (g.path p))) at ≡ Ok tt → Body s f at g
  unfolding read_number read_names
  read_says k j q =
      let o : Good false (cut f at 4) (ltb p s.processes && leb 16 (length (g.path p))) false (not (read_names s f at)) = good at q in
      let a = and_true (exists s p v) _ (not-false _ o.names) in
      let b = and_true (ltb (byte f (at + 3)) (value_count s v)) (leb (byte f (at + 4)) 1) a.1 in
      let w = both_exist s p v a.0 in
      let y : leb 16 (length (g.path p)) ≡ false = rw (lt-ltb p s.processes w.0) at o.room in
      read_body k j w.0 w.1 (ltb-true (byte f (at + 3)) (value_count s v) b.0) (leb-true (byte f (at + 4)) 1 b.1)
      (leb-false 16 (length (g.path p)) y) (omega (arith, cut_fits f at 4 o.whole))

  mark_says : is_kind f at 18 ≡ false → is_kind f at 20 ≡ false → checked (mark_number s f at (is_some (g.mark p v))) at ≡ Ok tt → Body s f at g
  unfolding mark_number mark_names
  mark_says k j q =
      let o : Good false (cut f at 3) (exists s p v && is_some (g.mark p v)) false (not (mark_names s f at)) = good at q in
      let a = and_true (exists s p v) _ (not-false _ o.names) in
      let w = both_exist s p v a.0 in
      let y : is_some (g.mark p v) ≡ false = rw a.0 at o.room in
      mark_body k j w.0 w.1 (leb-true (byte f (at + 3)) 1 a.1) y (omega (arith, cut_fits f at 3 o.whole))

  pub body_says : checked (body_number s f at g) at ≡ Ok tt → Body s f at g
  unfolding body_number checked
  body_says d = go (is_kind f at 18) refl (is_kind f at 20) refl (is_kind f at 21) d
    where
      two : checked 2 at ≡ Ok tt → ⊥
      two q = let z : ◌≡◌ {A = ℕ} 0 1 = cc in omega arith

      go : (a : Bool) → is_kind f at 18 ≡ a → (b : Bool) → is_kind f at 20 ≡ b → (c : Bool)
          → checked (cond a (waiting_number s f at (length (g.word p v))) (cond b (read_number s f at (length (g.path p))) (cond c (mark_number s f at (is_some (g.mark p v))) 2))) at ≡ Ok tt
          → Body s f at g
      go true k b j c q = value_says k q
      go false k true j c q = read_says k j q
      go false k false j true q = mark_says k j q
      go false k false j false q = absurd (two q)

  -- it ends in the file
  pub body_fits : Body s f at g → (at + body_size f at ≤ length f) × (4 ≤ body_size f at) × (body_size f at ≤ 5)
  unfolding body_size is_kind
  body_fits (value_body k a b c d l) = let n : eqb (byte f at) 20 ≡ false = ne_eqb (byte f at) 20 (λ e. clash e) in rw n (l, omega arith, omega arith)
    where
      clash : byte f at ≡ 20 → ⊥
      clash e = let z : eqb 20 18 ≡ true = subst (λ (x : ℕ). eqb x 18 ≡ true) e k in let y : ◌≡◌ {A = ℕ} 0 1 = cc in omega arith
  body_fits (read_body k j a b c d e l) = rw j (l, omega arith, omega arith)
  body_fits (mark_body k j a b c d l) = rw j (l, omega arith, omega arith)
