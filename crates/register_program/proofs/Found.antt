-- What holds of a program with registers that was found fine.
use Prim.Native.Nat.{ℕ, ◌+◌, ◌*◌, ◌<◌, ◌≤◌}
use mathlib.Core.Path.{◌≡◌, refl, sym, subst, ◌∙◌}
use mathlib.Core.Bool.{true}
use mathlib.Core.List.{List}
use native.Mathlib.Omega.{arith}
use native.Mathlib.Decide.{dec_lt}
use lib.ListN.{length, get_or, get_or-eq_default}
use borrow.Author.Tests.{le-ltb}
use Rattle.base.specs.Bytes.{byte}
use Rattle.file_records.specs.declared.program.Format.TheVariants.{Registers}
use Rattle.file_records.specs.declared.program.Shape.{Shape}
use Rattle.file_records.specs.declared.program.Program.{Program}
use Rattle.file_records.specs.Records.{shape_at, state_names}
use Rattle.file_records.specs.ProgramPart.{of_process, of_processes}
use Rattle.file_records.proofs.ProgramLaws.{transitions_most, targets_most}
use Rattle.file_contents.proofs.ReadingLaws.{ProgramFine, program_fine}
use Rattle.file_again.proofs.Tables.{of_four}
use Rattle.file_again.proofs.Names.{PartsNamed, parts_named}
use Rattle.file_again.proofs.ProgramPart.{ShapeRange, shape_in, states_most, initial_below, transition_named, target_named, targets_least}
use Rattle.register_program.specs.Parts.{Found, Named}

-- nothing is told of a process that the shape does not have
none_told : (f : List ℕ) (at k n q : ℕ) → n ≤ q → get_or (of_processes f at k n) q 0 ≡ 0
none_told f at k n q l = elim (dec_lt q 4) [
  | yes i ↦ of_four (λ (q : ℕ). get_or (of_processes f at k n) q 0 ≡ of_process f at k n q) refl refl refl refl q i ∙ rw (le-ltb q n l)
  | no i ↦ let past : length (of_processes f at k n) ≤ q = omega arith in get_or-eq_default (of_processes f at k n) 0 past
]

-- the numbers of what was read
pub record Read (f : List ℕ) (p : Program) : Type 0 where
  pub shape : ShapeRange Registers p.shape
  pub transitions : (p.transitions.at ≤ 19) × (p.transitions.count ≤ 256)
  pub targets : (p.targets.at ≤ 2067) × (1 ≤ p.targets.count) × (p.targets.count ≤ 16)
  pub states : (q : ℕ) → q < p.shape.processes → get_or p.states q 0 ≤ 32
  pub initial : (q : ℕ) → q < p.shape.processes → get_or p.initial q 0 < get_or p.states q 0
  pub no_states : (q : ℕ) → p.shape.processes ≤ q → get_or p.states q 0 ≡ 0
  pub no_initial : (q : ℕ) → p.shape.processes ≤ q → get_or p.initial q 0 ≡ 0
  pub parts : (i : ℕ) → i < p.transitions.count → PartsNamed Registers p.shape p.states f (p.transitions.at + 8 * i)
  pub aims : (i : ℕ) → i < p.targets.count → state_names p.shape p.states f (p.targets.at + 5 * i) ≡ true
  pub opening : p.shape ≡ shape_at f 0

module _ (f : List ℕ) (F : ProgramFine Registers true f 0) where
  abbrev s : Shape
  s = shape_at f 0

  abbrev states : List ℕ
  states = of_processes f 7 1 s.processes

  abbrev first : ℕ
  first = 0 + 7 + 3 * s.processes

  range : ShapeRange Registers s
  range = shape_in Registers f 0 F.shape

  rows : F.transitions ≤ 256
  rows = transitions_most Registers s states f first F.transitions F.rows

  whole : Read f (record {
    shape = s;
    states = states;
    initial = of_processes f 7 2 s.processes;
    transitions = record { at = first; count = F.transitions };
    targets = record { at = first + 8 * F.transitions; count = F.targets };
    claim = first + 8 * F.transitions + 5 * F.targets;
  })
  whole =
      record {
        shape = range;
        transitions = (omega (arith, range.processes.1), rows);
        targets =
            (omega (arith, range.processes.1, rows), targets_least Registers s states f (first + 8 * F.transitions) true F.targets F.aims, targets_most Registers s states f (first + 8 * F.transitions) true F.targets F.aims);
        states = λ q l. states_most f 7 s.processes range.processes.1 F.states q l;
        initial = λ q l. initial_below f 7 s.processes range.processes.1 F.states q l;
        no_states = λ q l. none_told f 7 1 s.processes q l;
        no_initial = λ q l. none_told f 7 2 s.processes q l;
        parts = λ i l. parts_named Registers s states f (first + 8 * i) (transition_named Registers s states f first F.transitions i F.rows l);
        aims = λ i l. target_named Registers s states f (first + 8 * F.transitions) true F.targets i F.aims l;
        opening = refl;
      }

pub found_read : {f : List ℕ} {p : Program} → Found f p → Read f p
found_read {f} {p} F =
    let G = program_fine Registers true f 0 F.fine in
    subst (Read f) (sym (F.same ∙ G.same)) (whole f G)

pub found_named : {f : List ℕ} {p : Program} → Found f p → (i : ℕ) → i < p.transitions.count → Named f (p.transitions.at + 8 * i)
found_named {f} {p} F i l =
    let R = found_read F in
    let n = R.parts i l in
    let few = R.states (byte f (p.transitions.at + 8 * i + 1)) n.process in
    record { from = omega (arith, n.from, few); to = omega (arith, n.to, few); shape = p.shape; operation = n.operation }
