use Rattle.file_records.specs.Records.{first_number}
use borrow.Author.Rules.{rules}
use Rattle.file_records.proofs.record.first_number.Goals as goal

pub returns-then-not_allowed : goal.returns-then-not_allowed
unfolding first_number
returns-then-not_allowed c = search rules

pub returns-then-cut : goal.returns-then-cut
unfolding first_number
returns-then-cut c = search rules

pub returns-then-full : goal.returns-then-full
unfolding first_number
returns-then-full c = search rules

pub returns-then-out_of_range : goal.returns-then-out_of_range
unfolding first_number
returns-then-out_of_range c = search rules

pub returns-then-bad_name : goal.returns-then-bad_name
unfolding first_number
returns-then-bad_name c = search rules

pub returns : goal.returns
unfolding first_number
returns c = search rules
