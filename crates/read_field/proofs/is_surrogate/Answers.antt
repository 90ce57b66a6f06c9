-- The second test decides where the first is passed.
-- Assumes nothing.
use Rattle.read_field.proofs.Laws.{between_low, leb_between}
use Rattle.read_field.proofs.is_surrogate.Goals as goal

pub returns-then-n-ge55296 : goal.returns-then-n-ge55296
returns-then-n-ge55296 c = between_low _ _ _ c.if-n-ge55296.true

pub returns-else-n-ge55296 : goal.returns-else-n-ge55296
returns-else-n-ge55296 c = leb_between _ _ _ c.if-n-ge55296.false
