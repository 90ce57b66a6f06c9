-- By whether the test is passed.
-- Assumes nothing.
use Rattle.read_field.proofs.Laws.{takes_ensured, takes_refused}
use Rattle.read_field.proofs.Cursor.ensured.Goals as goal

pub returns-then-passed : goal.returns-then-passed
returns-then-passed c = takes_ensured _ _ _ c.if-passed.true

pub returns-else-passed : goal.returns-else-passed
returns-else-passed c = takes_refused _ _ _ c.if-passed.false
