-- `encoder::refused_at` meets its contract: the place of the first equal term.
-- Assumes nothing.
use mathlib.Core.Path.{refl}
use Rattle.encoder.proofs.CloseLaws as laws
use Rattle.encoder.proofs.refused_at.Goals as goal

pub returns : goal.returns
returns c = laws.refused_at c.get-first.ensures refl refl c.get.ensures
