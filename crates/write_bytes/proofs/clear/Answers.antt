-- `write_bytes::clear` meets its contract: the part from the place on is zeroed.
-- Assumes nothing.
use Rattle.write_bytes.proofs.Clearing.{cleared_part}
use Rattle.write_bytes.proofs.clear.Goals as goal

pub returns : goal.returns
returns c = cleared_part _ _ _ _ c.min-start.ensures (c.fill.ensures.after (λ y e. e))
