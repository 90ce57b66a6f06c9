-- The search from the home of the name.
-- Assumes nothing.
use Rattle.index_search.proofs.Naming.{named_viewed, name_enrolled}
use Rattle.index_search.proofs.enums.enrol.Goals as goal

pub returns : goal.returns
returns c = let E = c.enrol.ensures in name_enrolled c.args.records.now (rw (c.key.ensures, c.view.ensures.1, c.view.ensures.2) at c.name_home-b.ensures) c.enrol.result (named_viewed E.1 E.2)
