use borrow.Author.Tests.{ne_eqb}
use Rattle.file_records.specs.Records.{operation_of}
use Rattle.file_records.proofs.record.operation_of.Goals as goal

pub returns-in-1 : goal.returns-in-1
unfolding operation_of
returns-in-1 c = rw (c.in-1.is, c.from.ensures)

pub returns-in-2 : goal.returns-in-2
unfolding operation_of
returns-in-2 c = rw (c.in-2.is, c.from-in-2.ensures)

pub returns-in-3 : goal.returns-in-3
unfolding operation_of
returns-in-3 c = rw c.in-3.is

pub returns-in-4 : goal.returns-in-4
unfolding operation_of
returns-in-4 c = rw c.in-4.is

pub returns-in-5 : goal.returns-in-5
unfolding operation_of
returns-in-5 c = rw (c.in-5.is, c.from-in-5.ensures)

pub returns-in_default : goal.returns-in_default
unfolding operation_of
returns-in_default c = simp (ne_eqb _ _ c.in_default.in_default-own.rest.1, ne_eqb _ _ c.in_default.in_default-own.rest.0.1, ne_eqb _ _ c.in_default.in_default-own.rest.0.0.1, ne_eqb _ _ c.in_default.in_default-own.rest.0.0.0.1, ne_eqb _ _ c.in_default.in_default-own.rest.0.0.0.0.1)
