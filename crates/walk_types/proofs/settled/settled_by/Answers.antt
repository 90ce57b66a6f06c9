-- `walk_types::settled::settled_by` meets its contract: each letter by its arm.
-- Assumes nothing.
use Rattle.walk_types.proofs.Settling.{settles_mark, settles_part, settles_name}
use Rattle.walk_types.proofs.settled.settled_by.Goals as goal

pub returns-in-66 : goal.returns-in-66
returns-in-66 c = settles_mark _ _ c.letter_at.ensures c.in-66.is

pub returns-in-79 : goal.returns-in-79
returns-in-79 c = settles_part _ _ c.letter_at.ensures c.in-79.is

pub returns-in_default : goal.returns-in_default
returns-in_default c = settles_name
