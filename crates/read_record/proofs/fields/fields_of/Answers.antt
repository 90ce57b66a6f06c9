-- By the kind of the mark, or none.
-- Assumes nothing.
use mathlib.Core.Path.{ap}
use Rattle.std.specs.Prelude.{Some}
use Rattle.read_record.specs.Fields.{fields_if}
use Rattle.read_record.proofs.fields.fields_of.Goals as goal

pub returns-in-None : goal.returns-in-None
unfolding fields_if
returns-in-None c = rw c.in-None.is

pub returns-in-Some : goal.returns-in-Some
unfolding fields_if
returns-in-Some c = rw c.in-Some.is (ap Some c.row_of.ensures)
