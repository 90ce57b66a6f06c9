-- A set, or another record.
-- Assumes nothing.
use Rattle.index_search.proofs.search.enrol.Goals as goal

pub returns-in-Some : goal.returns-in-Some
returns-in-Some c = c.enrol_set.ensures _ c.in-Some.ensures

pub returns-in-None : goal.returns-in-None
returns-in-None c = c.enrol_plain.ensures c.in-None.ensures
