-- What the functions of this crate are handed: a program that was found fine, and which processes have a register.
use Rattle.file_records.specs.declared.program.Refusal.{Refusal}
use Rattle.file_records.specs.ProgramPart.{whether, program_read}
use Rattle.std.specs.Prelude.{ℕ, zero, suc, ◌+◌, ◌<◌, ◌≡◌, Bool, true, false, cond, List, [], ◌∷◌, ◌++◌, map, length, get_or, ltb, Result, Ok, Err}
use Rattle.base.specs.Bytes.{choose, byte}
use Rattle.machine_pws.specs.declared.Transition.{Transition}
use Rattle.machine_pws.specs.Machine.{put}
use Rattle.file_records.specs.declared.program.Format.TheVariants.{Registers}
use Rattle.file_records.specs.declared.program.Shape.{Shape}
use Rattle.file_records.specs.declared.program.Program.{Program}
use Rattle.file_records.specs.Records.{operation_names}
use Rattle.register_machine.specs.declared.RegisterTransition.{RegisterTransition}
use Rattle.register_machine.specs.Program.{RegisterProgram, has_register}
use Rattle.register_machine.specs.Written.{pair_of, states_of, read_values, plain_transition, becomes_in, written}
use Rattle.register_program.specs.Form.{target_record}
use Rattle.register_program.specs.Reading.{register_program_of}
use Rattle.register_program.specs.Registers.{source_of, part_of}

-- p is what was read of f
pub record Found (f : List ℕ) (p : Program) : Type 0 where
  pub fine : whether (part_of f) ≡ Ok tt
  pub same : p ≡ program_read (part_of f)

-- has each of four processes a register?
abbrev pub registers_in : List ℕ → Program → List Bool
registers_in f p =
    has_register (register_program_of f p) 0
    ∷ has_register (register_program_of f p) 1
    ∷ has_register (register_program_of f p) 2
    ∷ has_register (register_program_of f p) 3
    ∷ []

-- ---- numbers

-- the number of transitions, or 28 with the number of the transition that a 257th comes from
unfoldable pub counted_of : RegisterProgram → Result ℕ Refusal
counted_of R =
    choose (ltb 256 (length (written R).transitions))
    (λ _. Err (record { number = 28; place = source_of (becomes_in R) R.transitions 256 }))
    (λ _. Ok (length (written R).transitions))

-- how many choices of register values there are
abbrev pub product : List Bool → ℕ
product has = states_of (get_or has 0 false) (states_of (get_or has 1 false) (states_of (get_or has 2 false) (states_of (get_or has 3 false) 1)))

-- ---- records

-- the 05 at a place names what exists
pub record Named (f : List ℕ) (at : ℕ) : Type 0 where
  pub from : byte f (at + 2) < 32
  pub to : byte f (at + 7) < 32
  pub shape : Shape
  pub operation : operation_names Registers shape (byte f (at + 3)) (byte f (at + 4)) (byte f (at + 5)) (byte f (at + 6)) ≡ true

-- those that it becomes from one register value
abbrev pub reads : Bool → RegisterTransition → ℕ → List Transition
reads b t r = map (plain_transition b t r) (read_values t.operation)

-- the states of a target, and register values
abbrev pub TargetRead : List ℕ → Type 0
TargetRead target = (q : ℕ) → get_or target q 0 < 32

abbrev pub RegistersLow : List ℕ → Type 0
RegistersLow registers = (q : ℕ) → get_or registers q 0 < 4

-- The 04s of a target: the registers of the processes below p are chosen, those of n processes from p on go through their values.
unfoldable pub chosen : List Bool → List ℕ → ℕ → ℕ → (ℕ → ℕ) → List ℕ
chosen has target zero p registers = target_record (λ q. pair_of (get_or has q false) (get_or target q 0) (registers q))
chosen has target (suc n) p registers =
    cond (get_or has p false)
    (chosen has target n (suc p) (put registers p 0)
    ++ (chosen has target n (suc p) (put registers p 1)
    ++ (chosen has target n (suc p) (put registers p 2) ++ chosen has target n (suc p) (put registers p 3))))
    (chosen has target n (suc p) (put registers p 0))
