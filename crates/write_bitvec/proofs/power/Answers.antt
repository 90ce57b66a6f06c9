-- `write_bitvec::power` meets its contract: from the 128th on the powers are none.
-- Assumes nothing.
use Rattle.write_bitvec.proofs.Powers.{power_past}
use Rattle.write_bitvec.proofs.power.Goals as goal

pub returns-else-k-lt128 : goal.returns-else-k-lt128
returns-else-k-lt128 c = power_past _ c.if-k-lt128.false
