use borrow.Author.Tests.{ne_eqb}
use Rattle.file_records.specs.Records.{names_of}
use Rattle.file_program.proofs.record.names_of.Goals as goal

pub returns-in-0 : goal.returns-in-0
unfolding names_of
returns-in-0 c = rw (c.in-0.is, c.all_zero.ensures)

pub returns-in-1 : goal.returns-in-1
unfolding names_of
returns-in-1 c = rw (c.in-1.is, c.both.ensures, c.value_exists.ensures)

pub returns-in-2 : goal.returns-in-2
unfolding names_of
returns-in-2 c = rw (c.in-2.is, c.both-in-2.ensures, c.value_exists-in-2.ensures)

pub returns-in-3 : goal.returns-in-3
unfolding names_of
returns-in-3 c = rw (c.in-3.is, c.all_zero-in-3.ensures)

pub returns-in-4 : goal.returns-in-4
unfolding names_of
returns-in-4 c = rw (c.in-4.is, c.all_zero-in-4.ensures)

pub returns-in-5 : goal.returns-in-5
unfolding names_of
returns-in-5 c = rw (c.in-5.is, c.both-in-5.ensures, c.value_exists-in-5-2.ensures, c.value_exists-in-5.ensures)

pub returns-in-6 : goal.returns-in-6
unfolding names_of
returns-in-6 c = rw (c.in-6.is, c.variable_only.ensures)

pub returns-in-7 : goal.returns-in-7
unfolding names_of
returns-in-7 c = rw (c.in-7.is, c.variable_only-in-7.ensures)

pub returns-in-8 : goal.returns-in-8
unfolding names_of
returns-in-8 c = rw (c.in-8.is, c.both-in-8-2.ensures, c.both-in-8.ensures)

pub returns-in_default : goal.returns-in_default
unfolding names_of
returns-in_default c = simp (ne_eqb _ _ c.in_default.in_default-own.rest.1, ne_eqb _ _ c.in_default.in_default-own.rest.0.1, ne_eqb _ _ c.in_default.in_default-own.rest.0.0.1, ne_eqb _ _ c.in_default.in_default-own.rest.0.0.0.1, ne_eqb _ _ c.in_default.in_default-own.rest.0.0.0.0.1, ne_eqb _ _ c.in_default.in_default-own.rest.0.0.0.0.0.1, ne_eqb _ _ c.in_default.in_default-own.rest.0.0.0.0.0.0.1, ne_eqb _ _ c.in_default.in_default-own.rest.0.0.0.0.0.0.0.1, ne_eqb _ _ c.in_default.in_default-own.rest.0.0.0.0.0.0.0.0.1)
