-- What a step gives of the rows of the crate `layout`. No statement rests on these definitions: `step_kept` says that they
-- represent the configuration after the step.
use Rattle.std.specs.Prelude.{ℕ, ◌+◌, max, cond, List, [], ◌∷◌, get_or, set, ltb}
use Rattle.machine_pws.specs.declared.Operation.{Operation}
use Rattle.machine_pws.specs.declared.Operation.TheVariants.{Nop, Read, Write, Mfence, Sfence, Arw}
use Rattle.run_layout.specs.declared.moves.Move.{Move}
use Rattle.run_layout.specs.declared.moves.Move.TheVariants.{Take, Serialise, Update}
use Rattle.run_layout.specs.Layout.{next_number, pointer_of, last_write_of}

unfoldable pub pointed : List (List ℕ) → ℕ → ℕ → List (List ℕ)
pointed rows p k = cond (ltb p 4) (set rows p (k ∷ k ∷ k ∷ k ∷ k ∷ [])) rows

unfoldable pub put_last : List (List ℕ) → ℕ → ℕ → ℕ → List (List ℕ)
put_last rows p v k = cond (ltb p 4) (cond (ltb v 4) (set rows p (set (get_or rows p []) (v + 1) k)) rows) rows

abbrev pub updated_row : List (List ℕ) → ℕ → ℕ → List ℕ
updated_row rows p k =
    k ∷ max (last_write_of rows p 0) k ∷ max (last_write_of rows p 1) k ∷ max (last_write_of rows p 2) k ∷ max (last_write_of rows p 3) k ∷ []

unfoldable pub updated : List (List ℕ) → ℕ → List (List ℕ)
updated rows p = cond (ltb p 4) (set rows p (updated_row rows p (next_number (pointer_of rows p)))) rows

abbrev pub rows_taken : List (List ℕ) → ℕ → ℕ → Operation → List (List ℕ)
rows_taken rows messages p Nop = rows
rows_taken rows messages p (Read v x) = rows
rows_taken rows messages p (Write v x) = rows
rows_taken rows messages p Mfence = rows
rows_taken rows messages p Sfence = rows
rows_taken rows messages p (Arw v old new) = pointed rows p (next_number messages)

abbrev pub rows_after : List (List ℕ) → ℕ → Move → List (List ℕ)
rows_after rows messages (Take t) = rows_taken rows messages t.process t.operation
rows_after rows messages (Serialise p v) = put_last rows p v (next_number messages)
rows_after rows messages (Update p) = updated rows p
