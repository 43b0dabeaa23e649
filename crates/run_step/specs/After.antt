-- What a step gives of the small struct. No statement rests on these definitions: `step_kept` says that they represent the configuration after
-- the step.
use Rattle.std.specs.Prelude.{ℕ, List, set}
use Rattle.machine_pws.specs.declared.Operation.{Operation}
use Rattle.machine_pws.specs.declared.Operation.TheVariants.{Nop, Read, Write, Mfence, Sfence, Arw}
use Rattle.run_layout.specs.declared.moves.Move.{Move}
use Rattle.run_layout.specs.declared.moves.Move.TheVariants.{Take, Serialise, Update}
use Rattle.run_layout.specs.declared.arrays.Run.{Run}
use Rattle.run_layout.specs.Layout.{next_number, advanced}
use Rattle.run_step.specs.Rows.{rows_after}

abbrev pub states_after : List ℕ → Move → List ℕ
states_after states (Take t) = set states t.process t.to
states_after states (Serialise p v) = states
states_after states (Update p) = states

abbrev pub messages_taken : ℕ → Operation → ℕ
messages_taken messages Nop = messages
messages_taken messages (Read v x) = messages
messages_taken messages (Write v x) = messages
messages_taken messages Mfence = messages
messages_taken messages Sfence = messages
messages_taken messages (Arw v old new) = next_number messages

abbrev pub messages_after : ℕ → Move → ℕ
messages_after messages (Take t) = messages_taken messages t.operation
messages_after messages (Serialise p v) = next_number messages
messages_after messages (Update p) = messages

abbrev pub heads_after : List ℕ → Move → List ℕ
heads_after heads (Take t) = heads
heads_after heads (Serialise p v) = advanced heads p v
heads_after heads (Update p) = heads

abbrev pub tails_taken : List ℕ → ℕ → Operation → List ℕ
tails_taken tails p Nop = tails
tails_taken tails p (Read v x) = tails
tails_taken tails p (Write v x) = advanced tails p v
tails_taken tails p Mfence = tails
tails_taken tails p Sfence = tails
tails_taken tails p (Arw v old new) = tails

abbrev pub tails_after : List ℕ → Move → List ℕ
tails_after tails (Take t) = tails_taken tails t.process t.operation
tails_after tails (Serialise p v) = tails
tails_after tails (Update p) = tails

abbrev pub run_after : Run → Move → Run
run_after run m =
    record {
      states = states_after run.states m;
      messages = messages_after run.messages m;
      heads = heads_after run.heads m;
      tails = tails_after run.tails m;
      rows = rows_after run.rows run.messages m;
    }
