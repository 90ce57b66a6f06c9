-- `index::get` meets its contract: the list has 0 past its end.
-- Assumes nothing.
use Rattle.index.specs.Cells.{cell}
use Rattle.index.proofs.Cells.{read_nowhere}
use Rattle.index.proofs.get.Goals as goal

pub returns-in-Some : goal.returns-in-Some
unfolding cell
returns-in-Some c = rw c.in-Some.ensures.is.1

pub returns-in-None : goal.returns-in-None
returns-in-None c = read_nowhere _ _ _ _ c.in-None.ensures.is
