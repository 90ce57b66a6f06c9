-- `walk_types::declare::put_id` meets its contract: the comment is written into the rest of the script.
-- Assumes nothing.
use Rattle.walk_types.proofs.Entering.{id_lent, writes_id}
use Rattle.walk_types.proofs.declare.put_id.Goals as goal

pub returns-clause-passes : goal.returns-clause-passes
returns-clause-passes c = writes_id {r = c.view.result} c.view.ensures (id_lent c.lend.ensures)
