-- The test itself.
-- Assumes nothing.
use mathlib.Core.Path.{refl}
use Rattle.script_spec.specs.Fields.{is_typed}
use Rattle.read_record.proofs.mark.is_typed.Goals as goal

pub returns : goal.returns
unfolding is_typed
returns c = refl
