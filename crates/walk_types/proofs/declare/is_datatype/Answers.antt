-- `walk_types::declare::is_datatype` meets its contract: by the letter of its mark.
-- Assumes nothing.
use Rattle.walk_types.proofs.Datatypes.{tells_datatype}
use Rattle.walk_types.proofs.declare.is_datatype.Goals as goal

pub returns : goal.returns
returns c = tells_datatype c.get-offset.ensures c.letter_at.ensures c.is_declared.ensures
