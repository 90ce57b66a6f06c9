-- The search from the home of the name.
-- Assumes nothing.
use Rattle.index_search.proofs.Naming.{name_found}
use Rattle.index_search.proofs.enums.find.Goals as goal

pub returns : goal.returns
returns c = let a = c.args in name_found a.records.file.now a.records.sizes (rw c.key.ensures at c.name_home-b.ensures) c.probe.result c.probe.ensures c.ok.ensures.value
