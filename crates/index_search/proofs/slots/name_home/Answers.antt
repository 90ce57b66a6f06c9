-- The hash of the name, scaled.
-- Assumes nothing.
use Rattle.index_search.proofs.Homes.{name_home_found}
use Rattle.index_search.proofs.slots.name_home.Goals as goal

pub returns : goal.returns
returns c = name_home_found c.mix_bytes.ensures c.scale.ensures
