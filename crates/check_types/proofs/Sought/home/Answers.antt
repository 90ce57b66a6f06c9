-- The hash of the type, scaled.
-- Assumes nothing.
use Rattle.check_types.proofs.Hashes.{home_found}
use Rattle.check_types.proofs.Sought.home.Goals as goal

pub returns : goal.returns
returns c = λ o W. home_found (c.hash.ensures o W) c.scale.ensures
