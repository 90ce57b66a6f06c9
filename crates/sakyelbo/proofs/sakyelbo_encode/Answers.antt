-- `sakyelbo::sakyelbo_encode` writes what encode does, and says its answer by numbers.
-- Assumes nothing.
use Rattle.sakyelbo.proofs.Laws.{encodes_file}
use Rattle.sakyelbo.proofs.sakyelbo_encode.Goals as goal

pub returns : goal.returns
returns c = encodes_file c.encode.ensures c.of_encode.ensures.size c.of_encode.ensures.at
