-- The entries of a file that was read, by number, and the list of their offsets.
use Rattle.std.specs.Prelude.{Result, Ok, Err, ⊤}
use Rattle.file_records.specs.declared.program.Refusal.{Refusal}
use Prim.Native.Nat.{ℕ, zero, suc, ◌+◌, ◌*◌, ◌-◌, ◌<◌, ◌≤◌}
use mathlib.Core.Path.{◌≡◌, refl, sym, ap, ◌∙◌}
use mathlib.Core.Logic.{inl}
use mathlib.Core.Bool.{Bool, true, false}
use mathlib.Core.List.{List, [], ◌∷◌, ◌++◌}
use native.Mathlib.Omega.{arith}
use lib.ListN.{length, get_or}
use lib.Dec.{leb}
use Rattle.machine_pws.specs.Machine.{Configuration}
use Rattle.machine_pws.specs.Entries.{entry}
use Rattle.file_records.specs.declared.program.Shape.{Shape}
use Rattle.base.specs.Bytes.{choose, le32, put32}
use Rattle.file_records.specs.Records.{checked, entry_number}
use Rattle.file_contents.specs.EvidencePart.{EntryRead, whole, bad, entry_read, EntriesRead, head_then, entry_then, entries_from, wrote_from}
use Rattle.base.proofs.ByteLaws.{put32_length, le32_put32, le32_elsewhere}
use Rattle.file_records.proofs.RecordLaws.{fine_refused, entry_fine}
use Rattle.file_again.proofs.Names.{no_true}
use Rattle.file_again.proofs.Entry.{entry_near}

-- ---- one after another

-- offsets and entries from `at` on, of which so many are allowed
pub data Listed (s : Shape) (states f : List ℕ) : ℕ → ℕ → List ℕ → List Configuration → Type 0 where
  listed_end : {left at : ℕ} → Listed s states f left at [] []
  listed_more : {left at next : ℕ} {os : List ℕ} {e : Configuration} {es : List Configuration} → checked (entry_number s states f at false) at ≡ Ok tt → entry_read s f at ≡ whole e next
      → Listed s states f left next os es → Listed s states f (suc left) at (at ∷ os) (e ∷ es)

append_cons {ℓ} : {A : Type ℓ} (xs : List A) (x : A) (ys : List A) → (xs ++ (x ∷ [])) ++ ys ≡ xs ++ (x ∷ ys)
append_cons [] x ys = refl
append_cons {A = A} (y ∷ xs) x ys = ap (λ (r : List A). y ∷ r) (append_cons xs x ys)

append_none {ℓ} : {A : Type ℓ} (xs : List A) → xs ≡ xs ++ []
append_none [] = refl
append_none {A = A} (x ∷ xs) = ap (λ (r : List A). x ∷ r) (append_none xs)

-- what is read more than os and es
pub record More (s : Shape) (states f : List ℕ) (left at : ℕ) (os : List ℕ) (es : List Configuration) (r : EntriesRead) : Type 0 where
  pub offsets : List ℕ
  pub entries : List Configuration
  pub same : r.offsets ≡ os ++ offsets
  pub alike : r.entries ≡ es ++ entries
  pub listed : Listed s states f left at offsets entries

module _ (s : Shape) (states f : List ℕ) where
  abbrev Reads : ℕ → ℕ → List ℕ → List Configuration → Type 0
  Reads left at os es = (entries_from left s states f at os es).answer ≡ Ok tt → More s states f left at os es (entries_from left s states f at os es)

  nothing : (left at : ℕ) (os : List ℕ) (es : List Configuration) → More s states f left at os es (record { offsets = os; entries = es; answer = Ok tt })
  nothing left at os es = record { offsets = []; entries = []; same = append_none os; alike = append_none es; listed = listed_end }

  last : (at : ℕ) (os : List ℕ) (es : List Configuration) (b : Bool) (x : Result ⊤ Refusal) → checked (entry_number s states f at true) at ≡ x
      → (let r : EntriesRead = choose b (λ _. record { offsets = os; entries = es; answer = Ok tt }) (λ _. head_then x os es (λ _. record { offsets = os; entries = es; answer = Ok tt })) in
      r.answer ≡ Ok tt → More s states f 0 at os es r)
  last at os es true x d q = nothing 0 at os es
  last at os es false (Ok _) d q = absurd (no_true (sym (entry_fine f at s states true d).room))
  last at os es false (Err r) d q = absurd (fine_refused (sym q))

  longer : (left at : ℕ) (os : List ℕ) (es : List Configuration)
      → ((e : Configuration) (next : ℕ) → Reads left next (os ++ (at ∷ [])) (es ++ (e ∷ [])))
      → (b : Bool) (x : Result ⊤ Refusal) → checked (entry_number s states f at false) at ≡ x → (y : EntryRead) → entry_read s f at ≡ y
      → (let r : EntriesRead =
      choose b (λ _. record { offsets = os; entries = es; answer = Ok tt })
      (λ _. head_then x os es (λ _. entry_then y os es (λ e next. entries_from left s states f next (os ++ (at ∷ [])) (es ++ (e ∷ []))))) in
      r.answer ≡ Ok tt → More s states f (suc left) at os es r)
  longer left at os es ih true x d y c q = nothing (suc left) at os es
  longer left at os es ih false (Err r) d y c q = absurd (fine_refused (sym q))
  longer left at os es ih false (Ok _) d (bad r) c q = absurd (fine_refused (sym q))
  longer left at os es ih false (Ok _) d (whole e next) c q =
      let m = ih e next q in
      record {
        offsets = at ∷ m.offsets;
        entries = e ∷ m.entries;
        same = m.same ∙ append_cons os at m.offsets;
        alike = m.alike ∙ append_cons es e m.entries;
        listed = listed_more d c m.listed;
      }

  pub entries_more : (left at : ℕ) (os : List ℕ) (es : List Configuration) → Reads left at os es
  unfolding entries_from
  entries_more zero at os es q = last at os es (leb (length f) at) (checked (entry_number s states f at true) at) refl q
  entries_more (suc left) at os es q =
      longer left at os es (λ e next. entries_more left next (os ++ (at ∷ [])) (es ++ (e ∷ []))) (leb (length f) at) (checked (entry_number s states f at false) at) refl (entry_read s f at) refl q

-- ---- by number

-- entry e, whose 10 stands at `at`
pub record Standing (s : Shape) (states f : List ℕ) (at : ℕ) (e : Configuration) : Type 0 where
  pub next : ℕ
  pub head : checked (entry_number s states f at false) at ≡ Ok tt
  pub reads : entry_read s f at ≡ whole e next

pub listed_count : {s : Shape} {states f : List ℕ} {left at : ℕ} {os : List ℕ} {es : List Configuration} → Listed s states f left at os es → (length os ≡ length es) × (length es ≤ left)
listed_count listed_end = (refl, omega arith)
listed_count (listed_more d c r) = let m = listed_count r in (ap suc m.0, omega (arith, m.1))

pub listed_at : {s : Shape} {states f : List ℕ} {left at : ℕ} {os : List ℕ} {es : List Configuration} → Listed s states f left at os es
    → (k : ℕ) → k < length es → Standing s states f (get_or os k 0) (entry es k)
listed_at listed_end k l = absurd (omega arith)
listed_at (listed_more {next = next} d c r) zero l = record { next = next; head = d; reads = c }
listed_at (listed_more d c r) (suc k) l = listed_at r k (omega arith)

-- no entry has more than 633 bytes
pub listed_near : {s : Shape} {states f : List ℕ} {left at : ℕ} {os : List ℕ} {es : List Configuration} → s.processes ≤ 4 → s.variables ≤ 4 → Listed s states f left at os es
    → (k : ℕ) → k < length es → get_or os k 0 ≤ at + 633 * k
listed_near few small listed_end k l = absurd (omega arith)
listed_near few small (listed_more d c r) zero l = omega arith
listed_near {s} {states} {f} {at = at} few small (listed_more {next = next} {e = e} d c r) (suc k) l =
    omega (arith, listed_near few small r k (omega arith), entry_near s few small f at states false d e next c)

-- ---- the list of offsets

-- numbers below i are not touched
wrote_below : (i : ℕ) (os l : List ℕ) (k : ℕ) → k < i → le32 (wrote_from i os l) (4 * k) ≡ le32 l (4 * k)
wrote_below i [] l k b = refl
wrote_below i (o ∷ os) l k b = wrote_below (suc i) os (put32 l (4 * i) o) k (omega arith) ∙ le32_elsewhere l (4 * i) o (4 * k) (inl (omega arith))

pub wrote_at : (i : ℕ) (os l : List ℕ) → 4 * (i + length os) ≤ length l → ((k : ℕ) → k < length os → get_or os k 0 < 4294967296)
    → (k : ℕ) → k < length os → le32 (wrote_from i os l) (4 * (i + k)) ≡ get_or os k 0
wrote_at i [] l room small k b = absurd (omega arith)
wrote_at i (o ∷ os) l room small zero b =
    let z : i + 0 ≡ i = omega arith in
    ap (λ (n : ℕ). le32 (wrote_from (suc i) os (put32 l (4 * i) o)) (4 * n)) z ∙ wrote_below (suc i) os (put32 l (4 * i) o) i (omega arith)
    ∙ le32_put32 l (4 * i) o (omega arith) (small 0 (omega arith))
wrote_at i (o ∷ os) l room small (suc k) b =
    let z : i + suc k ≡ suc i + k = omega arith in
    ap (λ (n : ℕ). le32 (wrote_from (suc i) os (put32 l (4 * i) o)) (4 * n)) z
    ∙ wrote_at (suc i) os (put32 l (4 * i) o) (omega (arith, put32_length l (4 * i) o)) (λ j c. small (suc j) (omega arith)) k (omega arith)
