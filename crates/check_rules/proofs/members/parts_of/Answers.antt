-- The text that stands first and the place after it, or the whole body.
-- Assumes nothing.
use Rattle.check_rules.proofs.EnumLaws.{parts_read}
use Rattle.check_rules.proofs.members.parts_of.Goals as goal

pub returns : goal.returns
returns c = rw c.unwrap_or.ensures (parts_read c.new-start.ensures _ c.counted.ensures)
