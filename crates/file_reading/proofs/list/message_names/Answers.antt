use Prim.Native.Nat.{ℕ}
use mathlib.Core.Path.{◌≡◌, ap, ap₂, ◌∙◌}
use mathlib.Core.Bool.{Bool, ◌&&◌}
use mathlib.Core.List.{List}
use lib.ListN.{get_or}
use Rattle.machine_pws.specs.declared.Message.{Message}
use Rattle.file_records.specs.declared.program.Shape.{Shape}
use Rattle.file_records.specs.Records.{exists, message_at, value_name}
use Rattle.file_records.specs.Records.{value_names, message_names}
use Rattle.file_reading.proofs.list.message_names.Goals as goal

names_of : (s : Shape) (f : List ℕ) (at : ℕ) {m : Message} {x y z : Bool} → m ≡ message_at f at → x ≡ exists s m.process m.variable
    → y ≡ value_name s 0 (get_or m.snapshot 0 0) && (value_name s 1 (get_or m.snapshot 1 0) && (value_name s 2 (get_or m.snapshot 2 0) && value_name s 3 (get_or m.snapshot 3 0)))
    → z ≡ x && y → z ≡ message_names s f at
unfolding message_names value_names
names_of s f at e a b g =
    g
    ∙ ap₂ ◌&&◌ (a ∙ ap (λ (m : Message). exists s m.process m.variable) e)
    (b ∙ ap (λ (m : Message). value_name s 0 (get_or m.snapshot 0 0) && (value_name s 1 (get_or m.snapshot 1 0) && (value_name s 2 (get_or m.snapshot 2 0) && value_name s 3 (get_or m.snapshot 3 0)))) e)

pub returns : goal.returns
returns c = names_of c.args.shape c.args.file.now c.args.at c.message_at-message.ensures c.pair_exists.ensures c.value_names.ensures c.both.ensures
