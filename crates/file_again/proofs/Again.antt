-- What the reading hands on, and what it leaves in the work area, give the contents of the file again.
use Rattle.std.specs.Prelude.{Result, Ok, Err, ⊤}
use Prim.Native.Nat.{ℕ, ◌+◌, ◌*◌, ◌-◌, ◌<◌, ◌≤◌}
use mathlib.Core.Path.{◌≡◌, refl, sym, ap, ap₂, ◌∙◌}
use mathlib.Core.Bool.{true}
use mathlib.Core.List.{List, [], ◌∷◌}
use native.Mathlib.Omega.{arith}
use native.Mathlib.Decide.{dec_lt}
use lib.ListN.{length, get_or, take, drop, length-drop, get_or-eq_default}
use lib.Seq.{length-take-le, drop_at}
use borrow.Author.Tests.{le-ltb}
use Rattle.machine_pws.specs.Program.{no_transition, transition}
use Rattle.file_records.specs.declared.program.Refusal.{Refusal}
use Rattle.file_records.specs.declared.program.Program.{Program}
use Rattle.file_contents.specs.declared.evidence.Part.{Part}
use Rattle.file_contents.specs.declared.evidence.Contents.{Contents}
use Rattle.file_contents.specs.declared.evidence.Unread.{Unread}
use Rattle.base.specs.Bytes.{byte}
use Rattle.file_records.specs.Records.{is_kind, transition_at, state_at, step_body}
use Rattle.file_records.specs.ProgramPart.{program_from, program_of, targets_of, program_read}
use Rattle.file_contents.specs.EvidencePart.{steps_of, entries_allowed, wrote_from}
use Rattle.file_contents.specs.Reading.{Input, evidence_at, parts_of, refused, list, run_read, read_file, no_memory, reading_refused, reading_with, reading_of, area_read}
use Rattle.file_again.specs.Again.{offset_at, cube_at, entries_of, transition_of, target_of, place_of}
use Rattle.file_again.specs.Contents.{ProgramSizes, CubeRange}
use Rattle.file_again.proofs.Tables.{table_number, of_four}
use Rattle.file_again.proofs.ProgramPart.{part_sizes}
use Rattle.file_again.proofs.Contents.{ListParts, Outcome, outcome_refused, outcome_list, outcome_run, outcome, file_list, reading_with_lem, listed, count_allowed, offsets, again, cubes, file_run, reading_steps, step_inside}

-- ---- transitions and targets by number

pub transition_again : (f : List ℕ) (p : Program) (i : ℕ) → i < p.transitions.count → transition (program_of f p) i ≡ transition_of f p i
transition_again f p i l = table_number (λ i. transition_at f (p.transitions.at + 8 * i)) p.transitions.count i no_transition l

four_states : (f : List ℕ) (at : ℕ)
    → ◌≡◌ {A = ℕ → ℕ} (state_at f at) (λ q. get_or (byte f (at + 1) ∷ byte f (at + 2) ∷ byte f (at + 3) ∷ byte f (at + 4) ∷ []) q 0)
four_states f at = λ i q. each q i
  where
    bytes : List ℕ
    bytes = byte f (at + 1) ∷ byte f (at + 2) ∷ byte f (at + 3) ∷ byte f (at + 4) ∷ []

    each : (q : ℕ) → state_at f at q ≡ get_or bytes q 0
    each q = elim (dec_lt q 4) [
      | yes l ↦ of_four (λ (q : ℕ). state_at f at q ≡ get_or bytes q 0) refl refl refl refl q l
      | no l ↦ let past : 4 ≤ q = omega arith in rw (le-ltb q 4 past) (sym (get_or-eq_default bytes 0 past))
    ]

pub target_again : (f : List ℕ) (p : Program) (k : ℕ) → k < p.targets.count → get_or (targets_of f p) k (λ q. 0) ≡ (λ (q : ℕ). get_or (target_of f p k) q 0)
target_again f p k l =
    table_number (λ i. state_at f (p.targets.at + 5 * i)) p.targets.count k (λ q. 0) l ∙ four_states f (p.targets.at + 5 * k)

-- ---- what `read` returns and leaves

read_unread : {C : Contents} {u : Unread} → ◌≡◌ {A = Result Contents Unread} (Ok C) (Err u) → ⊥
read_unread e = let z : ◌≡◌ {A = ℕ} 0 1 = cc in omega arith

unread_same : {u v : Unread} → ◌≡◌ {A = Result Contents Unread} (Err u) (Err v) → u ≡ v
unread_same e = cc

contents_same : {C D : Contents} → ◌≡◌ {A = Result Contents Unread} (Ok C) (Ok D) → C ≡ D
contents_same e = cc

module _ (x : Input) (w : List ℕ) where
  abbrev g : List ℕ
  g = x.code

  abbrev f : List ℕ
  f = x.file

  abbrev area : ℕ
  area = length w

  -- the list of offsets, at exit
  list_part_lem : (L : ListParts x area) → drop 16384 (area_read (parts_of x area) w) ≡ wrote_from 0 (listed x area).offsets (drop 16384 w)
  list_part_lem L =
      ap (λ y. drop 16384 (area_read y w)) L.parts
      ∙ drop_at (take 16384 w) (wrote_from 0 (listed x area).offsets (drop 16384 w)) 16384 (length-take-le 16384 w (omega (arith, L.enough)))

  module _ (R : Result Contents Unread) (r : R ≡ reading_of x (parts_of x area)) where
    pub reading_refused_lem : (u : Unread) → R ≡ Err u → read_file x area ≡ refused u.part u.refusal
    reading_refused_lem u q = go (outcome x area)
      where
        go : Outcome x area → read_file x area ≡ refused u.part u.refusal
        go (outcome_refused v y a b) =
            let z : record { part = v; refusal = y } ≡ u = unread_same (sym (r ∙ a) ∙ q) in b ∙ ap (λ (u : Unread). refused u.part u.refusal) z
        go (outcome_list L) = absurd (read_unread (sym (r ∙ reading_with_lem x area L) ∙ q))
        go (outcome_run L) = absurd (read_unread (sym (r ∙ reading_steps x area L) ∙ q))

    module _ (C : Contents) (q : R ≡ Ok C) where
      held : {D : Contents} → R ≡ Ok D → C ≡ D
      held e = contents_same (sym q ∙ e)

      never : (v : Part) (y : Refusal) → reading_of x (parts_of x area) ≡ reading_refused v y → ⊥
      never v y a = read_unread (sym q ∙ r ∙ a)

      -- the places and counts of the program part
      pub reading_sizes : ProgramSizes C.program
      reading_sizes = go (outcome x area)
        where
          go : Outcome x area → ProgramSizes C.program
          go (outcome_refused v y a b) = absurd (never v y a)
          go (outcome_list L) = rw (held (r ∙ reading_with_lem x area L)) (part_sizes x.alone g 0 L.fine refl)
          go (outcome_run L) = rw (held (r ∙ reading_steps x area L)) (part_sizes x.alone g 0 L.fine refl)

      -- claims 1 and 2
      pub reading_run : (C.claim ≡ 0 → ⊥)
          → read_file x area ≡ run_read C.claim (program_of g C.program) (targets_of g C.program) C.memory (steps_of f C.evidence.at C.evidence.count)
      reading_run c = go (outcome x area)
        where
          go : Outcome x area
              → read_file x area ≡ run_read C.claim (program_of g C.program) (targets_of g C.program) C.memory (steps_of f C.evidence.at C.evidence.count)
          go (outcome_refused v y a b) = absurd (never v y a)
          go (outcome_list L) = absurd (c (ap (λ (z : Contents). z.claim) (held (r ∙ reading_with_lem x area L))))
          go (outcome_run L) = rw (held (r ∙ reading_steps x area L)) (file_run x area L)

      -- step i stands in the file
      pub reading_step : (C.claim ≡ 0 → ⊥) → (i : ℕ) → i < C.evidence.count
          → (let place = place_of (λ k. 1 + step_body f k) C.evidence.at i in place + step_body f place < length f)
      reading_step c = go (outcome x area)
        where
          go : Outcome x area → (i : ℕ) → i < C.evidence.count
              → (let place = place_of (λ k. 1 + step_body f k) C.evidence.at i in place + step_body f place < length f)
          go (outcome_refused v y a b) = absurd (never v y a)
          go (outcome_list L) = absurd (c (ap (λ (z : Contents). z.claim) (held (r ∙ reading_with_lem x area L))))
          go (outcome_run L) = rw (held (r ∙ reading_steps x area L)) (step_inside x area L)

      -- claim 0
      module _ (work : List ℕ) (e : work ≡ area_read (parts_of x area) w) (c : C.claim ≡ 0) where
        as_list : ListParts x area
        as_list = go (outcome x area)
          where
            go : Outcome x area → ListParts x area
            go (outcome_refused v y a b) = absurd (never v y a)
            go (outcome_run L) = absurd (L.other (sym (ap (λ (z : Contents). z.claim) (held (r ∙ reading_steps x area L))) ∙ c))
            go (outcome_list L) = L

        left : drop 16384 work ≡ wrote_from 0 (listed x area).offsets (drop 16384 w)
        left = ap (drop 16384) e ∙ list_part_lem as_list

        handed : C
            ≡ record {
              program = program_read (program_from x.alone g 0);
              claim = 0;
              memory = no_memory;
              evidence = record { at = evidence_at x (program_read (program_from x.alone g 0)) + 2; count = length (listed x area).offsets };
            }
        handed = held (r ∙ reading_with_lem x area as_list)

        pub reading_list : read_file x area ≡ list (program_of g C.program) (targets_of g C.program) (entries_of f (drop 16384 work) C.evidence.count)
        reading_list =
            rw (left, handed)
            (file_list x area as_list
            ∙ ap (list (program_of g (program_read (program_from x.alone g 0))) (targets_of g (program_read (program_from x.alone g 0)))) (again x area as_list (drop 16384 w) (length-drop 16384 w)))

        pub reading_count : C.evidence.count ≤ entries_allowed area
        reading_count = rw handed (count_allowed x area as_list (drop 16384 w) (length-drop 16384 w))

        -- the offset of entry k is the place of its 10
        pub reading_offset : (k : ℕ) → k < C.evidence.count
            → (is_kind f (offset_at (drop 16384 work) k) 16 ≡ true) × (offset_at (drop 16384 work) k + 8 < length f)
        reading_offset = rw (left, handed) (λ k i. let o = offsets x area as_list (drop 16384 w) (length-drop 16384 w) k i in (o.1, o.2))

        -- entry k, as the code loads it
        pub reading_cube : (k : ℕ) → k < C.evidence.count → CubeRange (cube_at f (drop 16384 work) k)
        reading_cube = rw (left, handed) (cubes x area as_list (drop 16384 w) (length-drop 16384 w))
