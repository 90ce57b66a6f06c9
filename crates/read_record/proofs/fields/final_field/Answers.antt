-- By whether there is a written type.
-- Assumes nothing.
use Rattle.read_record.specs.Fields.{final_field}
use Rattle.read_record.proofs.fields.final_field.Goals as goal

pub returns-then-typed : goal.returns-then-typed
unfolding final_field
returns-then-typed c = rw c.if-typed.true

pub returns : goal.returns
unfolding final_field
returns c = rw c.if-typed.false
