-- Laws of the whole reading.
use Rattle.std.specs.Prelude.{Result, Ok, Err, ⊤}
use Prim.Native.Nat.{ℕ, zero, suc, ◌+◌, ◌*◌, ◌-◌, ◌<◌, ◌≤◌}
use mathlib.Core.Path.{◌≡◌, refl, sym, ap, subst, ◌∙◌}
use mathlib.Core.Bool.{Bool, true, false, cond, ◌&&◌, not}
use mathlib.Core.List.{List, [], ◌∷◌, ◌++◌, append-nil}
use native.Mathlib.Omega.{arith}
use lib.ListN.{length, take, drop, length-drop, drop_of_length-le}
use lib.Seq.{take_all}
use lib.Dec.{eqb, ltb}
use borrow.Rule.Slice.PartMut.{put_mid}
use borrow.Author.Tests.{eq-eqb, ne_eqb, lt-ltb, le-ltb}
use Rattle.file_records.specs.declared.program.Format.{Format}
use Rattle.file_records.specs.declared.program.Format.TheVariants.{Plain}
use Rattle.file_records.specs.declared.program.Shape.{Shape}
use Rattle.file_records.specs.declared.program.Refusal.{Refusal}
use Rattle.file_records.specs.declared.program.Program.{Program}
use Rattle.base.specs.Bytes.{byte, cut}
use Rattle.file_records.specs.Records.{checked, claim_number, start_number, memory_at, is_kind, shape_at, shape_number}
use Rattle.file_records.specs.ProgramPart.{unless_end, states_from, of_processes, transitions_from, targets_from, rows_from, rest_from, program_with, program_from, whether, program_read}
use Rattle.file_contents.specs.declared.evidence.Part.{Part}
use Rattle.file_contents.specs.declared.evidence.Unread.{Unread}
use Rattle.file_contents.specs.EvidencePart.{steps_from, EntriesRead, entries_from, entries_allowed}
use Rattle.file_contents.specs.Reading.{in_part, Input, evidence_at, Evidence, refusal, entries, steps, claim_then, evidence_area, run_evidence, evidence_from, Parts, no_parts, two_parts, parts_of}
use Rattle.file_records.proofs.RecordLaws.{fine_refused, good, unless_fine}
use Rattle.base.proofs.ByteLaws.{cut_fits}
use Rattle.file_records.proofs.ProgramLaws.{refused_read, fine_read, shape_fine}

-- the part from h on, lent and given back as g of it
pub upper : (h : ℕ) (w b : List ℕ) (g : List ℕ → List ℕ) → h ≤ length w → b ≡ g (take (length w - h) (drop h w)) → put_mid h (length w - h) w b ≡ take h w ++ g (drop h w)
upper h w b g le e =
    let l : length (drop h w) ≤ length w - h = simp length-drop (omega arith) in
    rw (e, take_all (length w - h) (drop h w) l, drop_of_length-le (drop h w) l, append-nil)

-- ---- the evidence part

module _ (f : List ℕ) (at : ℕ) (p : Program) (area : ℕ) where
  abbrev Claims : Result ⊤ Refusal → Type 0
  Claims x = unless_end f at (checked (claim_number f at) at) ≡ x

  pub evidence_refused : (r : Refusal) → Claims (Err r) → evidence_from f at p area ≡ refusal r
  unfolding evidence_from
  evidence_refused r e = rw e

  pub evidence_entries : Claims (Ok tt) → byte f (at + 1) ≡ 0 → evidence_from f at p area ≡ entries (entries_from (entries_allowed area) p.shape p.states f (at + 2) [] [])
  unfolding evidence_from
  evidence_entries e d = rw (e, eq-eqb (byte f (at + 1)) 0 d)

  pub evidence_run : Claims (Ok tt) → (byte f (at + 1) ≡ 0 → ⊥) → evidence_from f at p area ≡ run_evidence f (byte f (at + 1)) (at + 2) p
  unfolding evidence_from
  evidence_run e d = rw (e, ne_eqb (byte f (at + 1)) 0 d)

  pub claim_fits : Claims (Ok tt) → at + 1 < length f
  unfolding claim_number
  claim_fits e = cut_fits f at 1 (good at (unless_fine f at _ e).1).whole

-- ---- a run, from the place after its claim on

module _ (f : List ℕ) (claim at : ℕ) (p : Program) where
  abbrev Starts : Result ⊤ Refusal → Type 0
  Starts x = unless_end f at (checked (start_number p.shape f at) at) ≡ x

  pub start_refused : (r : Refusal) → Starts (Err r) → run_evidence f claim at p ≡ refusal r
  unfolding run_evidence
  start_refused r e = rw e

  pub run_steps : Starts (Ok tt) → run_evidence f claim at p ≡ steps claim (memory_at f at) (steps_from p.shape p.transitions.count f (at + 5))
  unfolding run_evidence
  run_steps e = rw e

  pub start_fits : Starts (Ok tt) → at + 4 < length f
  unfolding start_number
  start_fits e = cut_fits f at 4 (good at (unless_fine f at _ e).1).whole

-- no run touches the area
pub run_area : (f : List ℕ) (p : Program) (w : List ℕ) (claim at : ℕ) → w ≡ evidence_area (run_evidence f claim at p) w
unfolding run_evidence
run_area f p w claim at = go (unless_end f at (checked (start_number p.shape f at) at))
  where
    go : (x : Result ⊤ Refusal) → w ≡ evidence_area (claim_then x (λ _. steps claim (memory_at f at) (steps_from p.shape p.transitions.count f (at + 5)))) w
    go (Ok _) = refl
    go (Err r) = refl

-- ---- the program part, when nothing of it is refused

pub record ProgramFine (k : Format) (alone : Bool) (f : List ℕ) (at : ℕ) : Type 0 where
  pub transitions : ℕ
  pub targets : ℕ
  pub shape : unless_end f at (checked (shape_number k f at) at) ≡ Ok tt
  pub states : states_from f (at + 7) (shape_at f at).processes ≡ Ok tt
  pub rows : transitions_from k (shape_at f at) (of_processes f (at + 7) 1 (shape_at f at).processes) f (at + 7 + 3 * (shape_at f at).processes) ≡ Ok transitions
  pub aims : targets_from k alone (shape_at f at) (of_processes f (at + 7) 1 (shape_at f at).processes) f (at + 7 + 3 * (shape_at f at).processes + 8 * transitions) ≡ Ok targets
  pub same : program_read (program_with k alone f at)
      ≡ record {
        shape = shape_at f at;
        states = of_processes f (at + 7) 1 (shape_at f at).processes;
        initial = of_processes f (at + 7) 2 (shape_at f at).processes;
        transitions = record { at = at + 7 + 3 * (shape_at f at).processes; count = transitions };
        targets = record { at = at + 7 + 3 * (shape_at f at).processes + 8 * transitions; count = targets };
        claim = at + 7 + 3 * (shape_at f at).processes + 8 * transitions + 5 * targets;
      }

module _ (k : Format) (alone : Bool) (f : List ℕ) (at : ℕ) (q : whether (program_with k alone f at) ≡ Ok tt) where
  abbrev s : Shape
  s = shape_at f at

  abbrev states : List ℕ
  states = of_processes f (at + 7) 1 s.processes

  abbrev first : ℕ
  first = at + 7 + 3 * s.processes

  by_targets : (n : ℕ) (m : Result ℕ Refusal) → unless_end f at (checked (shape_number k f at) at) ≡ Ok tt → states_from f (at + 7) s.processes ≡ Ok tt
      → transitions_from k s states f first ≡ Ok n → targets_from k alone s states f (first + 8 * n) ≡ m → ProgramFine k alone f at
  unfolding program_with rest_from rows_from
  by_targets n (Err r) a b c d = absurd (fine_refused {r = r} (sym q ∙ rw (a, b, c, d)))
  by_targets n (Ok m) a b c d = record { transitions = n; targets = m; shape = a; states = b; rows = c; aims = d; same = rw (a, b, c, d) }

  by_parts : (x y : Result ⊤ Refusal) (n : Result ℕ Refusal) → unless_end f at (checked (shape_number k f at) at) ≡ x → states_from f (at + 7) s.processes ≡ y
      → transitions_from k s states f first ≡ n → ProgramFine k alone f at
  unfolding program_with rest_from rows_from
  by_parts (Err r) y n a b c = absurd (fine_refused {r = r} (sym q ∙ rw a))
  by_parts (Ok _) (Err r) n a b c = absurd (fine_refused {r = r} (sym q ∙ rw (a, b)))
  by_parts (Ok _) (Ok _) (Err r) a b c = absurd (fine_refused {r = r} (sym q ∙ rw (a, b, c)))
  by_parts (Ok _) (Ok _) (Ok n) a b c = by_targets n (targets_from k alone s states f (first + 8 * n)) a b c refl

  pub program_fine : ProgramFine k alone f at
  program_fine = by_parts _ _ _ refl refl refl

-- the shape is one that document 01 allows
pub shape_range : (alone : Bool) (f : List ℕ) (at : ℕ) → whether (program_from alone f at) ≡ Ok tt
    → ((program_read (program_from alone f at)).shape.processes ≤ 4) × ((program_read (program_from alone f at)).shape.variables ≤ 4)
shape_range alone f at q =
    let P = program_fine Plain alone f at q in
    let w = shape_fine Plain f at P.shape in
    rw P.same (w.1, w.2)

-- ---- the whole

module _ (x : Input) (area : ℕ) where
  -- the program part
  abbrev part : Result Program Refusal
  part = program_from x.alone x.code 0

  pub parts_short : area < 65536 → parts_of x area ≡ no_parts (record { number = 8; place = 0 })
  unfolding parts_of
  parts_short l = rw (lt-ltb area 65536 l)

  pub parts_refused : (r : Refusal) → 65536 ≤ area → whether part ≡ Err r → parts_of x area ≡ no_parts r
  unfolding parts_of
  parts_refused r l e = rw (le-ltb area 65536 l, refused_read part r e)

  pub parts_both : 65536 ≤ area → whether part ≡ Ok tt
      → parts_of x area ≡ two_parts (program_read part) (evidence_from x.file (evidence_at x (program_read part)) (program_read part) area)
  unfolding parts_of
  parts_both l e = rw (le-ltb area 65536 l, fine_read part e)

-- ---- a part and what was read of it

module _ {A : Type 0} (w : Part) where
  pub in_part_ok : (x : Result A Refusal) (a : A) → in_part w x ≡ Ok a → x ≡ Ok a
  in_part_ok (Ok b) a e = let z : b ≡ a = cc in ap (λ (b : A). Ok b) z
  in_part_ok (Err r) a e = let z : ◌≡◌ {A = ℕ} 0 1 = cc in absurd (omega arith)

  pub in_part_err : (x : Result A Refusal) (u : Unread) → in_part w x ≡ Err u → (r : Refusal) × (x ≡ Err r) × (u ≡ record { part = w; refusal = r })
  in_part_err (Ok b) u e = let z : ◌≡◌ {A = ℕ} 0 1 = cc in absurd (omega arith)
  in_part_err (Err r) u e = let z : record { part = w; refusal = r } ≡ u = cc in (r, refl, sym z)

-- what was read of the program, as the evidence is read by it
pub read_range : (alone : Bool) (f : List ℕ) (p : Program) → program_from alone f 0 ≡ Ok p → (p.shape.processes ≤ 4) × (p.shape.variables ≤ 4)
read_range alone f p d = subst (λ (x : Result Program Refusal). ((program_read x).shape.processes ≤ 4) × ((program_read x).shape.variables ≤ 4)) d (shape_range alone f 0 (ap whether d))
