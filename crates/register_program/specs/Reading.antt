-- What a file of a program with registers says (document 02, N8): an 05 is read as an 03 is, with three more operations.
use Rattle.std.specs.Prelude.{ℕ, ◌+◌, ◌*◌, cond, List, get_or, eqb}
use Rattle.base.specs.Bytes.{byte}
use Rattle.file_records.specs.declared.program.Program.{Program}
use Rattle.file_records.specs.ProgramPart.{table_from, shape_of}
use Rattle.register_machine.specs.declared.RegisterOperation.{RegisterOperation}
use Rattle.register_machine.specs.declared.RegisterOperation.TheVariants.{
  Nop,
  Read,
  Write,
  Mfence,
  Sfence,
  Arw,
  LoadRegister,
  StoreRegister,
  TestRegister,
}
use Rattle.register_machine.specs.declared.RegisterTransition.{RegisterTransition}
use Rattle.register_machine.specs.Program.{RegisterProgram}

-- "6 reads a variable into the register, 7 writes the register to a variable, 8 goes on if the register equals the value"
unfoldable pub register_operation_of : ℕ → ℕ → ℕ → ℕ → RegisterOperation
register_operation_of operation v x y =
    cond (eqb operation 1) (Read v x)
    (cond (eqb operation 2) (Write v x)
    (cond (eqb operation 3) Mfence
    (cond (eqb operation 4) Sfence
    (cond (eqb operation 5) (Arw v x y)
    (cond (eqb operation 6) (LoadRegister v)
    (cond (eqb operation 7) (StoreRegister v)
    (cond (eqb operation 8) (TestRegister x) Nop)))))))

-- the 05 at a place
abbrev pub register_transition_at : List ℕ → ℕ → RegisterTransition
register_transition_at f at =
    record {
      process = byte f (at + 1);
      from = byte f (at + 2);
      operation = register_operation_of (byte f (at + 3)) (byte f (at + 4)) (byte f (at + 5)) (byte f (at + 6));
      to = byte f (at + 7);
    }

-- the program whose records stand there; its targets are read as the judge reads them (`targets_of`)
abbrev pub register_program_of : List ℕ → Program → RegisterProgram
register_program_of f p =
    record {
      shape = shape_of p.shape;
      states = λ q. get_or p.states q 0;
      initial = λ q. get_or p.initial q 0;
      transitions = table_from (λ i. register_transition_at f (p.transitions.at + 8 * i)) 0 p.transitions.count;
    }
