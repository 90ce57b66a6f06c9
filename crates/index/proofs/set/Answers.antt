-- `index::set` meets its contract: a store past the end changes nothing.
-- Assumes nothing.
use Rattle.index.specs.Cells.{store}
use Rattle.index.proofs.Cells.{store_nowhere}
use Rattle.index.proofs.set.Goals as goal

pub returns-in-Some : goal.returns-in-Some
unfolding store
returns-in-Some c = rw c.in-Some.ensures.is.1

pub returns-in_default : goal.returns-in_default
returns-in_default c = store_nowhere _ _ _ _ _ c.in_default.ensures.is
