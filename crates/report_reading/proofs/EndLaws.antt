-- Laws of where a part ends.
use Prim.Native.Nat.{ℕ, zero, suc, ◌+◌, ◌-◌, ◌<◌, ◌≤◌}
use mathlib.Core.Path.{◌≡◌, refl, sym, ap, subst, ◌∙◌}
use mathlib.Core.Logic.{◌⊎◌, inl, inr}
use mathlib.Core.Bool.{Bool, true, false, ◌||◌}
use mathlib.Core.List.{List}
use native.Mathlib.Omega.{arith}
use lib.ListN.{length, length-take, length-drop}
use lib.Dec.{T, leb}
use borrow.Author.Tests.{leb-true, leb-false, le-leb}
use Rattle.base.specs.Bytes.{choose, byte}
use Rattle.file_again.specs.Offending.{record_at}
use Rattle.report_reading.specs.Parts.{ends_part, end_from, program_end, evidence_end, evidence_part}
use Rattle.report_reading.specs.Statements.{ProgramEnds, EvidenceEnds}

-- ---- the record at a place: in the file, and not empty

module _ (f : List ℕ) (at : ℕ) where
  pub record_size : length (record_at f at) ≤ length f - at
  unfolding record_at
  record_size = simp (length-take, length-drop) (omega arith)

  pub record_some : at < length f → 1 ≤ length (record_at f at)
  unfolding record_at
  record_some l = simp (length-take, length-drop) (omega arith)

-- ---- the first record that ends a part

-- it is this one, or the file has ended
abbrev pub stops_at : Bool → List ℕ → ℕ → Bool
stops_at program f at = leb (length f) at || ends_part program (byte f at)

pub goes_inside : (program : Bool) (f : List ℕ) (at : ℕ) → stops_at program f at ≡ false → at < length f
goes_inside program f at e = go (leb (length f) at) refl e
  where
    go : (b : Bool) → leb (length f) at ≡ b → (b || ends_part program (byte f at)) ≡ false → at < length f
    go false d e = leb-false (length f) at d
    go true d e = let z : ◌≡◌ {A = ℕ} 0 1 = cc in absurd (omega arith)

module _ (program : Bool) (f : List ℕ) where
  pub end_here : (bytes at : ℕ) → stops_at program f at ≡ true → end_from program bytes f at ≡ at
  unfolding end_from
  end_here zero at e = refl
  end_here (suc bytes) at e = rw e

  pub end_on : (bytes at : ℕ) → stops_at program f at ≡ false → end_from program (suc bytes) f at ≡ end_from program bytes f (at + length (record_at f at))
  unfolding end_from
  end_on bytes at e = rw e

  pub end_least : (bytes at : ℕ) → at ≤ end_from program bytes f at
  unfolding end_from
  end_least zero at = omega arith
  end_least (suc bytes) at = go (end_least bytes (at + length (record_at f at))) (stops_at program f at)
    where
      go : at + length (record_at f at) ≤ end_from program bytes f (at + length (record_at f at)) → (b : Bool)
          → at ≤ choose b (λ _. at) (λ _. end_from program bytes f (at + length (record_at f at)))
      go ih true = omega arith
      go ih false = omega arith

  pub end_most : (bytes at : ℕ) → at ≤ length f → end_from program bytes f at ≤ length f
  unfolding end_from
  end_most zero at l = l
  end_most (suc bytes) at l = go (end_most bytes (at + length (record_at f at)) (omega (arith, record_size f at))) (stops_at program f at)
    where
      go : end_from program bytes f (at + length (record_at f at)) ≤ length f → (b : Bool)
          → choose b (λ _. at) (λ _. end_from program bytes f (at + length (record_at f at))) ≤ length f
      go ih true = l
      go ih false = ih

  -- with bytes enough, what stands there ends the part, or the file has ended
  pub end_stops : (bytes at : ℕ) → length f ≤ at + bytes → stops_at program f (end_from program bytes f at) ≡ true
  unfolding end_from
  end_stops zero at l = rw (le-leb (length f) at (omega arith))
  end_stops (suc bytes) at l =
      go (λ e. end_stops bytes (at + length (record_at f at)) (omega (arith, record_some f at (goes_inside program f at e)))) (stops_at program f at) refl
    where
      Stops : ℕ → Type 0
      Stops k = stops_at program f k ≡ true

      go : (stops_at program f at ≡ false → Stops (end_from program bytes f (at + length (record_at f at)))) → (b : Bool) → stops_at program f at ≡ b
          → Stops (choose b (λ _. at) (λ _. end_from program bytes f (at + length (record_at f at))))
      go ih true e = e
      go ih false e = ih e

-- ---- the parts

module _ (f : List ℕ) where
  pub program_most : program_end f ≤ length f
  unfolding program_end
  program_most = end_most true f (length f) 0 (omega arith)

  pub evidence_least : (at : ℕ) → at ≤ evidence_end f at
  unfolding evidence_end
  evidence_least at = omega (arith, end_least false f (length f) (at + length (record_at f at)))

  pub evidence_most : (at : ℕ) → at ≤ length f → evidence_end f at ≤ length f
  unfolding evidence_end
  evidence_most at l = end_most false f (length f) (at + length (record_at f at)) (omega (arith, record_size f at))

  pub part_length : (at : ℕ) → at ≤ length f → length (evidence_part f at) ≡ evidence_end f at - at
  part_length at l = let m = evidence_most at l in simp (length-take, length-drop) (omega arith)

-- ---- what the walk knows: from k on the same end is found, with bytes enough

pub record Walked (program : Bool) (f : List ℕ) (at k : ℕ) : Type 0 where
  pub bytes : ℕ
  pub enough : length f ≤ k + bytes
  pub same : end_from program bytes f k ≡ end_from program (length f) f at

module _ (program : Bool) (f : List ℕ) (at : ℕ) where
  pub walk_begins : Walked program f at at
  walk_begins = record { bytes = length f; enough = omega arith; same = refl }

  module _ (k : ℕ) (W : Walked program f at k) where
    pub walk_ends : stops_at program f k ≡ true → k ≡ end_from program (length f) f at
    walk_ends e = sym (end_here program f W.bytes k e) ∙ W.same

    pub walk_on : stops_at program f k ≡ false → (size : ℕ) → size ≡ length (record_at f k) → Walked program f at (k + size)
    walk_on e size d = go W.bytes refl
      where
        go : (n : ℕ) → W.bytes ≡ n → Walked program f at (k + size)
        go zero z = absurd (omega (arith, W.enough, goes_inside program f k e))
        go (suc n) z =
            record {
              bytes = n;
              enough = omega (arith, W.enough, record_some f k (goes_inside program f k e));
              same = ap (λ (s : ℕ). end_from program n f (k + s)) d ∙ sym (end_on program f n k e) ∙ ap (λ (m : ℕ). end_from program m f k) (sym z) ∙ W.same;
            }

-- ---- where parts end

stops_by : (program : Bool) (f : List ℕ) (end : ℕ) → end ≤ length f → stops_at program f end ≡ true → (end ≡ length f) ⊎ T (ends_part program (byte f end))
stops_by program f end l e = go (leb (length f) end) refl e
  where
    go : (b : Bool) → leb (length f) end ≡ b → (b || ends_part program (byte f end)) ≡ true → (end ≡ length f) ⊎ T (ends_part program (byte f end))
    go true d e = inl (omega (arith, leb-true (length f) end d))
    go false d e = inr (subst T (sym e) tt)

pub program_ends : ProgramEnds
unfolding program_end
program_ends f =
    record {
      after = omega arith;
      inside = program_most f;
      stops = stops_by true f (end_from true (length f) f 0) (program_most f) (end_stops true f (length f) 0 (omega arith));
    }

pub evidence_ends : EvidenceEnds
unfolding evidence_end
evidence_ends f at l =
    let first : ℕ = at + length (record_at f at) in
    record {
      after = evidence_least f at;
      inside = evidence_most f at l;
      stops = stops_by false f (end_from false (length f) f first) (evidence_most f at l) (end_stops false f (length f) first (omega arith));
    }
