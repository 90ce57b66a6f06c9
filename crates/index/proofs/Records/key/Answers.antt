-- `index::Records::key` meets its contract: the two entries that were read are the two halves.
-- Assumes nothing.
use Rattle.index.specs.Names.{key_of}
use Rattle.index.proofs.Records.key.Goals as goal

pub returns : goal.returns
unfolding key_of
returns c = rw (c.from-low.ensures, c.from-high.ensures, c.get_row.ensures, c.get_row-2.ensures)
