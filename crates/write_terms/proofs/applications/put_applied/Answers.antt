-- `write_terms::applications::put_applied` meets its contract.
-- Assumes nothing.
use Rattle.script_spec.specs.Base.{bytes}
use Rattle.write_terms.proofs.ApplicationLaws.{spells_applied}
use Rattle.write_terms.proofs.applications.put_applied.Goals as goal

pub returns : goal.returns
unfolding bytes
returns c = spells_applied c.put_byte.ensures c.put_head.ensures c.put_closed.ensures
