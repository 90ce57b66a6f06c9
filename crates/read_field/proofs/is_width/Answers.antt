-- The second test decides where the first is passed.
-- Assumes nothing.
use Rattle.read_field.proofs.Laws.{between_low, leb_between}
use Rattle.read_field.proofs.is_width.Goals as goal

pub returns-then-n-ge1 : goal.returns-then-n-ge1
returns-then-n-ge1 c = between_low _ _ _ c.if-n-ge1.true

pub returns-else-n-ge1 : goal.returns-else-n-ge1
returns-else-n-ge1 c = leb_between _ _ _ c.if-n-ge1.false
