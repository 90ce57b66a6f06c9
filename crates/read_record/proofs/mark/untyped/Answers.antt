-- By the test of the byte.
-- Assumes nothing.
use Rattle.script_spec.specs.Fields.{untyped}
use Rattle.read_record.proofs.mark.untyped.Goals as goal

pub returns-then-is_typed : goal.returns-then-is_typed
unfolding untyped
returns-then-is_typed c = rw (untyped, ← c.is_typed.ensures, c.if-is_typed.true)

pub returns : goal.returns
unfolding untyped
returns c = rw (untyped, ← c.is_typed.ensures, c.if-is_typed.false)
