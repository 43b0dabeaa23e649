use Rattle.file_records.specs.Records.{shape_number}
use Rattle.file_program.proofs.record.check_shape.Goals as goal

pub returns : goal.returns
unfolding shape_number
returns c = rw (c.checked.ensures, c.first_number.ensures, c.cut.ensures, c.is_kind.ensures, c.counts_if_absent-absent.ensures, c.both-range.ensures, c.in_range-2.ensures, c.field-2.ensures, c.both-more.ensures, c.counts_in_range.ensures, c.in_range.ensures, c.field.ensures, c.shape_at-shape.ensures)
