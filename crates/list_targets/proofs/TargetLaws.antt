-- The walk from the first shape on says whether the target is held.
use Prim.Native.Nat.{ℕ, zero, suc, ◌*◌, ◌<◌, ◌≤◌}
use mathlib.Core.Path.{◌≡◌, sym, ap, subst, ◌∙◌}
use mathlib.Core.Bool.{Bool, false}
use mathlib.Core.List.{List, [], ◌∷◌, Memᴰ}
use native.Mathlib.Omega.{arith}
use lib.ListN.{length, get_or}
use Rattle.machine_pws.specs.declared.Message.{Message}
use Rattle.machine_pws.specs.Program as pws
use Rattle.file_records.specs.declared.program.Shape.{Shape}
use Rattle.file_records.specs.ProgramPart.{shape_of}
use Rattle.list_theory.specs.Lists.{every}
use Rattle.list_theory.specs.Shapes.{shape_cubes}
use Rattle.list_theory.specs.Decision.{held, target_held}
use Rattle.machine_pws.specs.Machine.{Configuration}
use Rattle.machine_pws.specs.Configurations.{Fits}
use Rattle.machine_pws.specs.Entries.{ValueOrFF, no_entry, entry}
use Rattle.file_again.proofs.Tables.{table_length, table_number}
use Rattle.file_contents.specs.Cube.{configuration_of}
use Rattle.file_again.specs.Again.{cube_at, entries_of}
use Rattle.list_theory.specs.Family.{family_cubes}
use Rattle.list_theory.proofs.FamilyFull.{cubes_fit}
use Rattle.list_targets.specs.Walk.{Searched, Judges, entry_of, listed, Leaf, target_leaf, family_leaf, outline_cubes, all_cubes}
use Rattle.list_summary.specs.declared.listing.Listing.{Listing}
use Rattle.list_targets.proofs.ChannelWalk.{walk_all, target_cubes, family_cubes_lem, shapes_fit}
use Rattle.list_targets.proofs.JudgeLaws.{judges_same}

-- entries that fit, by number, as entries of the list
pub entries_fit : (S : pws.Shape) (f list : List ℕ) (n : ℕ) → ((k : ℕ) → k < n → Fits (ValueOrFF S) S (configuration_of (cube_at f list k)))
    → (k : ℕ) → k < length (entries_of f list n) → Fits (ValueOrFF S) S (entry (entries_of f list n) k)
entries_fit S f list n o k l =
    let m : k < n = omega (arith, table_length (λ i. configuration_of (cube_at f list i)) 0 n) in
    subst (Fits (ValueOrFF S) S) (sym (table_number (λ i. configuration_of (cube_at f list i)) n k no_entry m)) (o k m)

pub product : (p v : ℕ) → p ≤ 4 → v ≤ 4 → p * v ≤ 16
product zero v a b = omega arith
product (suc zero) v a b = omega arith
product (suc (suc zero)) v a b = omega arith
product (suc (suc (suc zero))) v a b = omega arith
product (suc (suc (suc (suc zero)))) v a b = omega arith
product (suc (suc (suc (suc (suc p))))) v a b = absurd (omega arith)

-- there are no shapes to be walked where the sizes are out of range
pub never : {L : Listing} {cs : List Configuration} → ((h : pws.ShapeInRange (shape_of L.shape)) → ⊥) → Judges L cs false
never x = record { judged = λ h a. absurd (x h.shape) }

pub walked : (s : Shape) (leaf : Leaf) (ms : List Message) {L : Listing} {r : Bool} → Judges L (outline_cubes s leaf ms 0 (0 ∷ 0 ∷ 0 ∷ 0 ∷ [])) r
    → Judges L (all_cubes s leaf) r
walked s leaf ms j = judges_same (walk_all s leaf ms) j

pub target_is : (L : Listing) (states : List ℕ) (r : Bool) → Judges L (all_cubes L.shape (target_leaf L.shape states)) r
    → (P : pws.Program) → P.shape ≡ shape_of L.shape → Searched L → r ≡ target_held P (listed L) (λ q. get_or states q 0)
target_is L states r j P e h =
    let w = target_cubes L.shape states in
    j.judged h (λ c m. shapes_fit (shape_of L.shape) h.shape (λ q. get_or states q 0) c (subst (Memᴰ c) (sym w) m))
    ∙ ap (every (held (shape_of L.shape) (listed L))) (sym w)
    ∙ ap (λ (S : pws.Shape). every (held S (listed L)) (shape_cubes S (λ q. get_or states q 0))) (sym e)

pub family_is : (L : Listing) (k : ℕ) (r : Bool) → k < L.count → Judges L (all_cubes L.shape (family_leaf L.shape (entry_of L k))) r
    → Searched L → r ≡ every (held (shape_of L.shape) (listed L)) (family_cubes (shape_of L.shape) (configuration_of (entry_of L k)))
family_is L k r l j h =
    let w = family_cubes_lem L.shape (entry_of L k) in
    j.judged h (λ c m. cubes_fit (shape_of L.shape) h.shape.well_formed (listed L) (entries_fit (shape_of L.shape) L.file.now L.offsets.now L.count h.entries) (configuration_of (entry_of L k)) (h.entries k l) c (subst (Memᴰ c) (sym w) m))
    ∙ ap (every (held (shape_of L.shape) (listed L))) (sym w)
