use mathlib.Core.Path.{refl, sym, ap}
use mathlib.Core.Bool.{Bool, ◌&&◌}
use Rattle.machine_pws.specs.declared.Operation.TheVariants.{Nop, Mfence, Sfence}
use Rattle.list_theory.specs.Predecessors.{is_undone}
use Rattle.list_closing.proofs.TakeLaws.{and_right, acting}
use Rattle.list_closing.proofs.take.taken_held.Goals as goal

pub returns-in-Nop : goal.returns-in-Nop
returns-in-Nop c = λ E j l e a. c.waited_held.ensures Nop (record { kinds = λ k. sym (and_right (is_undone k)); before = refl }) E j (acting c.args.closing.now.code.now c.args.closing.now.listing.file.now c.args.closing.now.listing.offsets.now c.args.closing.now.listing.count c.args.closing.now.program c.args.entry.now.cube j c.args.transition e l a c.in-Nop.is)

pub returns-in-Read : goal.returns-in-Read
returns-in-Read c = λ E j l e a. c.read_held.ensures E j (acting c.args.closing.now.code.now c.args.closing.now.listing.file.now c.args.closing.now.listing.offsets.now c.args.closing.now.listing.count c.args.closing.now.program c.args.entry.now.cube j c.args.transition e l a c.in-Read.is)

pub returns-in-Write : goal.returns-in-Write
returns-in-Write c = λ E j l e a. c.write_held.ensures E j (acting c.args.closing.now.code.now c.args.closing.now.listing.file.now c.args.closing.now.listing.offsets.now c.args.closing.now.listing.count c.args.closing.now.program c.args.entry.now.cube j c.args.transition e l a c.in-Write.is)

pub returns-in-Mfence : goal.returns-in-Mfence
returns-in-Mfence c = λ E j l e a. c.waited_held-in-Mfence.ensures Mfence (record { kinds = λ k. ap (λ (b : Bool). is_undone k && b) (sym c.is_settled.ensures); before = refl }) E j (acting c.args.closing.now.code.now c.args.closing.now.listing.file.now c.args.closing.now.listing.offsets.now c.args.closing.now.listing.count c.args.closing.now.program c.args.entry.now.cube j c.args.transition e l a c.in-Mfence.is)

pub returns-in-Sfence : goal.returns-in-Sfence
returns-in-Sfence c = λ E j l e a. c.waited_held-in-Sfence.ensures Sfence (record { kinds = λ k. ap (λ (b : Bool). is_undone k && b) (sym c.none_waiting.ensures); before = refl }) E j (acting c.args.closing.now.code.now c.args.closing.now.listing.file.now c.args.closing.now.listing.offsets.now c.args.closing.now.listing.count c.args.closing.now.program c.args.entry.now.cube j c.args.transition e l a c.in-Sfence.is)

pub returns-in-Arw : goal.returns-in-Arw
returns-in-Arw c = λ E j l e a. c.arw_held.ensures E j (acting c.args.closing.now.code.now c.args.closing.now.listing.file.now c.args.closing.now.listing.offsets.now c.args.closing.now.listing.count c.args.closing.now.program c.args.entry.now.cube j c.args.transition e l a c.in-Arw.is)
