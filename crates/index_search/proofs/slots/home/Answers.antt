-- The hash of the record, scaled.
-- Assumes nothing.
use Rattle.index_search.proofs.Homes.{home_found}
use Rattle.index_search.proofs.slots.home.Goals as goal

pub returns : goal.returns
returns c = home_found {file = c.args.records.file.now} _ _ c.octets.ensures c.record_hash.ensures c.scale.ensures
