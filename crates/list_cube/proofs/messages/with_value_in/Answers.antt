use Prim.Native.Nat.{ℕ, suc, ◌-◌}
use mathlib.Core.Path.{◌≡◌, ap, ◌∙◌}
use mathlib.Core.List.{List}
use lib.ListN.{get_or, set}
use Rattle.machine_pws.specs.Machine.{no_message}
use Rattle.list_theory.specs.Cubes.{with_values, value_put}
use Rattle.file_contents.specs.Cube.{channel_of, configuration_of}
use Rattle.list_cube.proofs.MessageLaws.{set_value}
use Rattle.list_key.proofs.ValueLaws.{length_mapped}
use native.Mathlib.Omega.{arith}
use borrow.Author.Rules.{rules}
use Rattle.list_cube.proofs.messages.with_value_in.Goals as goal

pub returns : goal.returns
returns c = λ a b d. let e : suc (c.args.i - 1) ≡ c.args.i = omega arith in ap (λ (xs : List ℕ). channel_of (set c.args.cube.messages (c.args.i - 1) (with_values (get_or c.args.cube.messages (c.args.i - 1) no_message) xs)) c.args.cube.count) c.with_at-snapshot.ensures ∙ set_value c.args.cube.messages (c.args.i - 1) c.args.v c.args.x c.args.cube.count (search (rules, length_mapped)) (omega arith) a ∙ ap (λ (j : ℕ). value_put (configuration_of c.args.cube).memory.channel j c.args.v c.args.x) e
