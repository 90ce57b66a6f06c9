-- The count, and so many bytes.
-- Assumes nothing.
use Rattle.read_field.proofs.Laws.{handed_on, next, refuses_stop}
use Rattle.read_field.specs.Takes.{bytes_of}
use Rattle.check_rules.specs.Tests.{counted}
use Rattle.check_rules.proofs.members.counted.Goals as goal

pub returns-in_err-n : goal.returns-in_err-n
unfolding counted
returns-in_err-n c = rw (handed_on _ c.from_residual.ensures.1) (refuses_stop _ c.in_err-n.ensures)

pub returns : goal.returns
unfolding counted
returns c = next _ (bytes_of c.part.result) c.in_ok-n.ensures c.part.ensures
