-- `sakyelbo::sakyelbo_check` answers what check does, as a number.
-- Assumes nothing.
use Rattle.sakyelbo.proofs.Laws.{checks_file}
use Rattle.sakyelbo.proofs.sakyelbo_check.Goals as goal

pub returns : goal.returns
returns c = checks_file c.check.ensures c.of_check.ensures
