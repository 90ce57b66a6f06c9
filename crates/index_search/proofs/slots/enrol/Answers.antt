-- The search, and a slot where no record was met.
-- Assumes nothing.
use Rattle.index_search.proofs.Probing.{viewed, takes_met, takes_none}
use Rattle.index_search.proofs.slots.enrol.Goals as goal

pub returns-in-Ok : goal.returns-in-Ok
returns-in-Ok g c = let V = viewed c.view.ensures in (c.view.result, V, takes_met V c.in-Ok.ensures)

pub returns-in-Err : goal.returns-in-Err
returns-in-Err g c = let V = viewed c.view.ensures in (c.view.result, V, takes_none V c.in-Err.ensures c.take.ensures)
